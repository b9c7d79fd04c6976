-- No two refusals share a number, and no refusal has the number of an accepted call.
use mathlib.Core.Path.{◌≡◌, refl, sym, ap, ◌∙◌}
use mathlib.Core.List.{List, [], ◌∷◌}
use native.Mathlib.Omega.{arith}
use Prim.Native.Nat.{ℕ}
use Rattle.std.specs.Prelude.{Err, Ok, Result}
use Rattle.refusal.specs.declared.Refusal.{Refusal}
use Rattle.refusal.specs.declared.Refusal.TheVariants as refusal
use Rattle.refusal.specs.Refusal.{refusal_number, refusals, refusal_by, verdict_number}

abbrev pub numbers_of : List Refusal → List ℕ
numbers_of [] = []
numbers_of (r ∷ rest) = refusal_number r ∷ numbers_of rest

-- the numbers of the table, each once and in its order
pub in_order : numbers_of refusals ≡ 1 ∷ 2 ∷ 3 ∷ 4 ∷ 5 ∷ 6 ∷ 7 ∷ 8 ∷ 9 ∷ 10 ∷ 11 ∷ 12 ∷ 13 ∷ 14 ∷ 15 ∷ 16 ∷ 17 ∷ 18 ∷ []
in_order = refl

-- a refusal is the one that its number names
pub by_number : (r : Refusal) → refusal_by (refusal_number r) ≡ r
by_number refusal.LevelAbsent = refl
by_number refusal.RequestOpen = refl
by_number refusal.OutOfRange = refl
by_number refusal.OutsideSlave = refl
by_number refusal.OutsideMaster = refl
by_number refusal.ClockFull = refl
by_number refusal.TooManySteps = refl
by_number refusal.StoreLength = refl
by_number refusal.Unsound = refl
by_number refusal.SheetEnds = refl
by_number refusal.BadNumber = refl
by_number refusal.BadEdition = refl
by_number refusal.BadLevels = refl
by_number refusal.BadSlaves = refl
by_number refusal.BadEvents = refl
by_number refusal.Follows = refl
by_number refusal.NoRoom = refl
by_number refusal.Malformed = refl

pub one_number : (a b : Refusal) → refusal_number a ≡ refusal_number b → a ≡ b
one_number a b e = sym (by_number a) ∙ (ap refusal_by e ∙ by_number b)

-- 0 is no refusal's number
pub not_zero : (r : Refusal) → refusal_number r ≡ 0 → ⊥
not_zero r e =
    let last : r ≡ refusal.NoRoom = sym (by_number r) ∙ ap refusal_by e in
    let none : ◌≡◌ {A = ℕ} 17 0 = sym (ap refusal_number last) ∙ e in
    absurd (omega arith)

pub one_verdict : (a b : Result Unit Refusal) → verdict_number a ≡ verdict_number b → a ≡ b
one_verdict (Ok _) (Ok _) e = refl
one_verdict (Ok _) (Err b) e = absurd (not_zero b (sym e))
one_verdict (Err a) (Ok _) e = absurd (not_zero a e)
one_verdict (Err a) (Err b) e = ap Err (one_number a b e)
