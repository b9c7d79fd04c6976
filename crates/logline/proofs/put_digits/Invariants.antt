use Prim.Native.Nat.{◌≤◌}
use Rattle.logline.proofs.DigitLaws.{lowest}
use Rattle.logline.specs.Text.{digits}
use lib.ListN.{length}
use lib.Seq.{sets}
use mathlib.Core.Path.{◌≡◌}
use Rattle.logline.proofs.put_digits.Given as goal

abbrev pub invariant-loop-left : goal.invariant-loop-left
invariant-loop-left l =
    (l.left ≤ 10) × (sets l.out l.at (lowest l.left l.rest) ≡ sets l.initial.out l.at (digits 9 l.n)) × (length l.out ≡ length l.initial.out)

abbrev pub decreases-loop-left : goal.decreases-loop-left
decreases-loop-left l = l.left
