use mathlib.Core.Path.{refl, sym, ◌∙◌}
use native.Mathlib.Omega.{arith}
use Rattle.number.specs.Number.{read_number}
use Rattle.number.proofs.Laws.{last, more, read_end}
use Rattle.number.proofs.read_number.Goals as goal

pub returns-then-s-at : goal.returns-then-s-at
returns-then-s-at c = let a = c.args in sym (read_end a.s.now a.at c.if-s-at.true)

pub returns-then-byte-lt128 : goal.returns-then-byte-lt128
unfolding read_number
returns-then-byte-lt128 c =
    let a = c.args in
    rw c.from-byte.ensures (sym (last a.at a.at a.s.now 4 (omega arith) (omega arith) (omega arith)))

pub returns : goal.returns
unfolding read_number
returns c =
    let a = c.args in
    rw c.from-byte.ensures at c.more_groups.ensures ∙ sym (more a.at a.at a.s.now 4 _ (omega arith) (omega arith) (omega arith) refl)
