-- Laws of the text of a line: writing it piece by piece. Those of its digits are in DigitLaws.
use Prim.Native.Nat.{ℕ, suc, ◌+◌, ◌-◌, ◌≤◌, ◌<◌}
use mathlib.Core.Path.{◌≡◌, refl, sym, ap, ◌∙◌}
use mathlib.Core.Logic.{◌≢◌}
use mathlib.Core.Bool.{Bool, false, not}
use mathlib.Core.List.{List, [], ◌∷◌, ◌++◌, append_assoc}
use native.Mathlib.Nat.{add-zero}
use native.Mathlib.Numerals.{add-one}
use native.Mathlib.Omega.{arith}
use borrow.Author.Tests.{leb-true, not-false}
use lib.ListN.{length, set, get_or}
use lib.Seq.{sets, set_comm}
use Rattle.logline.specs.Text.{has_room, field, fields_from}

-- there is room for the longest line, as `has_room` said
pub room_is : (size at : ℕ) {r : Bool} → r ≡ has_room size at → not r ≡ false → at + 96 ≤ size
room_is size at {r} e f = leb-true (at + 96) size (sym e ∙ not-false r f)

-- a text of two parts is written one part after the other
pub sets_append : (a b l : List ℕ) (i : ℕ) → sets l i (a ++ b) ≡ sets (sets l i a) (i + length a) b
sets_append [] b l i = rw add-zero
sets_append (x ∷ a) b l i = sets_append a b (set l i x) (suc i) ∙ ap (λ (k : ℕ). sets (sets (set l i x) (suc i) a) k b) (omega arith)

-- a byte that follows a text may be written before it
pub sets_before : (a l : List ℕ) (i j x : ℕ) → i + length a ≤ j → sets (set l j x) i a ≡ set (sets l i a) j x
sets_before [] l i j x h = refl
sets_before (y ∷ a) l i j x h =
    let apart : j ≢ i = λ e. absurd (omega (arith, e, h)) in
    ap (λ (m : List ℕ). sets m (suc i) a) (set_comm l j i x y apart) ∙ sets_before a (set l i y) (suc i) j x (omega (arith, h))

-- one field more of a line, from field i on
pub fields_more : (numbers : List ℕ) (i n : ℕ) → i < n
    → fields_from numbers i (n - i) ≡ field (get_or numbers i 0) ++ fields_from numbers (i + 1) (n - (i + 1))
fields_more numbers i n h = let k : n - i ≡ suc (n - (i + 1)) = omega arith in rw (k, add-one i)

pub fields_none : (numbers : List ℕ) (i n : ℕ) → n ≤ i → fields_from numbers i (n - i) ≡ []
fields_none numbers i n h = let k : n - i ≡ 0 = omega arith in rw k

-- what is left of a line from field i on, with its end
module _ (numbers : List ℕ) (i n at : ℕ) (out whole : List ℕ) (h : i < n)
    (left : sets out at (fields_from numbers i (n - i) ++ (10 ∷ [])) ≡ whole) where
  pub write_more : sets (sets out at (field (get_or numbers i 0))) (at + length (field (get_or numbers i 0)))
      (fields_from numbers (i + 1) (n - (i + 1)) ++ (10 ∷ []))
      ≡ whole
  write_more =
      sym (sets_append (field (get_or numbers i 0)) (fields_from numbers (i + 1) (n - (i + 1)) ++ (10 ∷ [])) out at)
      ∙ ap (sets out at) (sym (append_assoc (field (get_or numbers i 0)) (fields_from numbers (i + 1) (n - (i + 1))) (10 ∷ [])))
      ∙ ap (λ (t : List ℕ). sets out at (t ++ (10 ∷ []))) (sym (fields_more numbers i n h))
      ∙ left
