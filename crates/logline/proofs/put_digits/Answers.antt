use Prim.Native.Nat.{◌+◌, ◌-◌, ◌%◌}
use Rattle.logline.proofs.DigitLaws.{lowest_more}
use lib.ListN.{length-set}
use mathlib.Core.Path.{◌∙◌}
use native.Mathlib.Omega.{arith}
use Rattle.logline.proofs.put_digits.Goals as goal

pub loop-left-preserved : goal.loop-left-preserved
loop-left-preserved c =
    let a = c.args in
    let l = c.loop-left in (
      omega (arith, l.invariant.0),
      lowest_more l.left l.rest a.at l.out c.loop-left-test.true ∙ l.invariant.1,
      length-set l.out (a.at + (l.left - 1)) (48 + l.rest % 10) ∙ l.invariant.2,
    )
