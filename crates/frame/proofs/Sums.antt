-- A comparison of a sum, made without the sum, which could wrap.
use Prim.Native.Nat.{ℕ, ◌+◌, ◌-◌, ◌<◌, ◌≤◌}
use mathlib.Core.Path.{◌≡◌}
use mathlib.Core.Bool.{false}
use native.Mathlib.Omega.{arith}
use borrow.Author.Tests.{le-leb, lt-leb, leb-true}
use lib.Dec.{leb}
use Rattle.basics.proofs.Tests.{same_test}

pub sum_within : (a b top : ℕ) → b ≤ top → leb a (top - b) ≡ leb (a + b) top
sum_within a b top h =
    same_test (leb a (top - b)) (leb (a + b) top)
    (λ t. le-leb (a + b) top (omega (arith, leb-true a (top - b) t)))
    (λ t. le-leb a (top - b) (omega (arith, leb-true (a + b) top t)))

pub sum_beyond : (a b top : ℕ) → top < b → leb (a + b) top ≡ false
sum_beyond a b top h = lt-leb (a + b) top (omega arith)
