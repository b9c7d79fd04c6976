use Prim.Native.Nat.{suc, ◌+◌, ◌-◌}
use mathlib.Core.Path.{◌≡◌, sym, ◌∙◌}
use native.Mathlib.Omega.{arith}
use Rattle.number.specs.Number.{read_number}
use Rattle.image.proofs.TurnLaws.{level_on}
use Rattle.image.proofs.tables.read_levels.Goals as goal

pub loop-i-preserved : goal.loop-i-preserved
loop-i-preserved c =
    let l = c.loop-i in
    let a = c.args in
    let more : a.count - l.i ≡ suc (a.count - (l.i + 1)) = omega arith in
    level_on (read_number a.bytes.now) l.place more l.i _ (sym c.read_level.ensures ∙ c.in_ok-row.was) ∙ l.invariant
