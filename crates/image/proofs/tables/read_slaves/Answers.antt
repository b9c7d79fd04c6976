use Prim.Native.Nat.{suc, ◌+◌, ◌-◌}
use mathlib.Core.Path.{◌≡◌, sym, ◌∙◌}
use native.Mathlib.Omega.{arith}
use Rattle.std.proofs.lemmas.Result.{err_from_is_err_and}
use Rattle.number.specs.Number.{read_number}
use Rattle.image.proofs.TurnLaws.{slave_fault, slave_on}
use Rattle.image.proofs.tables.read_slaves.Goals as goal

pub returns-in_err-row : goal.returns-in_err-row
returns-in_err-row c =
    let l = c.loop-i in
    let a = c.args in
    let more : a.count - l.i ≡ suc (a.count - (l.i + 1)) = omega arith in
    let p = err_from_is_err_and c.from_residual.result c.from_residual.ensures.1 in
    let fault = sym c.read_slave.ensures ∙ c.in_err-row.was in
    λ levels. rw (p.1, p.2) (sym (slave_fault (read_number a.bytes.now) l.place more l.i _ fault) ∙ l.invariant levels)

pub loop-i-preserved : goal.loop-i-preserved
loop-i-preserved c =
    let l = c.loop-i in
    let a = c.args in
    let more : a.count - l.i ≡ suc (a.count - (l.i + 1)) = omega arith in
    λ levels. slave_on (read_number a.bytes.now) l.place more l.i _ (sym c.read_slave.ensures ∙ c.in_ok-row.was) ∙ l.invariant levels
