-- How many bytes a number has, by a bound on its value. Assumes nothing.
use Prim.Native.Nat.{ℕ, zero, suc, ◌+◌, ◌*◌, ◌/◌, ◌≤◌, ◌<◌}
use mathlib.Core.Path.{refl}
use native.Mathlib.Omega.{arith}
use borrow.Author.Tests.{ltb-true, ltb-false}
use lib.ListN.{length}
use lib.Dec.{ltb}
use Rattle.basics.proofs.Tests.{by_test}
use Rattle.number.specs.Number.{shortest, bytes_of}
use Rattle.number.proofs.Laws.{size_last, size_more}

-- 128, 16,384, ..: a number below it has at most 1, 2, .. bytes
abbrev pub tops : ℕ → ℕ
tops zero = 128
tops (suc j) = 128 * tops j

small : (j k v : ℕ) → v < tops j → j ≤ k → length (shortest k v) ≤ j + 1
small zero k v h l = omega (arith, size_last k v h)
small (suc j) zero v h l = absurd (omega arith)
small (suc j) (suc k) v h l =
    by_test (ltb v 128)
    (λ t. omega (arith, size_last (suc k) v (ltb-true v 128 t)))
    (λ f.
    omega (arith, size_more k v (length (shortest k (v / 128))) (ltb-false v 128 f) refl, small j k (v / 128) (omega arith) (omega arith)))

pub size_below : (j v : ℕ) → j ≤ 4 → v < tops j → length (bytes_of v) ≤ j + 1
unfolding bytes_of
size_below j v l h = small j 4 v h l
