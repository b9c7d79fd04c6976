use Prim.Native.Nat.{ℕ, zero, suc, ◌+◌, ◌/◌, ◌%◌, ◌≤◌, ◌<◌}
use mathlib.Core.Path.{◌≡◌, refl}
use mathlib.Core.List.{List}
use native.Mathlib.Omega.{arith}
use native.Mathlib.Numerals.{add-one}
use lib.ListN.{length, set}
use lib.Seq.{sets}
use Rattle.number.specs.Number.{shortest, top, bytes_of}
use Rattle.number.proofs.Laws.{shortest_more, size_more}
use Rattle.number.proofs.put_number.Goals as goal

-- one group is written: what is left to write is the rest's
turn : (k i rest : ℕ) (out : List ℕ) → 128 ≤ rest → rest < top k
    → (j : ℕ) × (rest / 128 < top j)
    × (sets (set out i (128 + rest % 128)) (i + 1) (shortest j (rest / 128)) ≡ sets out i (shortest k rest))
    × (i + 1 + length (shortest j (rest / 128)) ≡ i + length (shortest k rest))
turn zero i rest out h l = absurd (omega arith)
turn (suc j) i rest out h l =
    (j, omega arith, rw (shortest_more j rest h, add-one), omega (arith, size_more j rest (length (shortest j (rest / 128))) h refl))

pub loop-rest-init : goal.loop-rest-init
unfolding bytes_of
loop-rest-init c = (4, omega arith, refl, refl, refl)
