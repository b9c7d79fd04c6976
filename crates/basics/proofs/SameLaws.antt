-- What two equal lists of numbers share: how it is shown that no two cases of an answer have the same numbers. Assumes nothing.
use Prim.Native.Nat.{ℕ}
use mathlib.Core.Path.{◌≡◌, sym, ap, ◌∙◌}
use mathlib.Core.Bool.{false, false≢true}
use mathlib.Core.List.{List}
use borrow.Author.Tests.{eq-eqb}
use lib.Dec.{eqb}
use lib.ListN.{get_or}

-- the number at a place
pub at : {s t : List ℕ} (i : ℕ) → s ≡ t → get_or s i 0 ≡ get_or t i 0
at i e = ap (λ l. get_or l i 0) e

-- numbers that differ are not equal
pub apart : {A : Type 0} {x y : ℕ} → x ≡ y → eqb x y ≡ false → A
apart {A} {x} {y} e f = absurd (false≢true (sym f ∙ eq-eqb x y e))
