use Prim.Native.Nat.{suc, ◌+◌, ◌-◌}
use mathlib.Core.Path.{◌≡◌, ◌∙◌}
use native.Mathlib.Omega.{arith}
use Rattle.basics.specs.Limits.{places}
use Rattle.image.proofs.MarkLaws.{marks_on}
use Rattle.image.proofs.states.marks_of.Goals as goal

pub loop-level-preserved : goal.loop-level-preserved
loop-level-preserved c =
    let l = c.loop-level in
    let more : places - l.level ≡ suc (places - (l.level + 1)) = omega arith in
    marks_on l.marks l.level l.rest more ∙ l.invariant
