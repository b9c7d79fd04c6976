use Prim.Native.Nat.{ℕ, ◌+◌, ◌<◌}
use mathlib.Core.Path.{◌≡◌}
use lib.ListN.{length}
use lib.Seq.{sets}
use Rattle.number.specs.Number.{shortest, top, bytes_of}
use Rattle.number.proofs.put_number.Given as goal

abbrev pub invariant-loop-rest : goal.invariant-loop-rest
invariant-loop-rest l =
    (k : ℕ) × (l.rest < top k) × (sets l.out l.i (shortest k l.rest) ≡ sets l.initial.out l.at (bytes_of l.v))
    × (l.i + length (shortest k l.rest) ≡ l.at + length (bytes_of l.v)) × (length l.out ≡ length l.initial.out)

abbrev pub decreases-loop-rest : goal.decreases-loop-rest
decreases-loop-rest l = l.rest
