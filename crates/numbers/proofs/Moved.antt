-- Reader and writer judge alike: where one number_at stands at the places of another, moved by a map of places, a judgement
-- over the one is the judgement over the other, moved. Assumes nothing.
use Prim.Native.Nat.{ℕ, zero, suc}
use mathlib.Core.Path.{◌≡◌, refl, ap}
use mathlib.Core.Bool.{Bool, true, false, cond, ◌&&◌}
use mathlib.Core.List.{List, ◌∷◌}
use lib.Dec.{leb}
use Rattle.std.specs.Prelude.{Ok, Err}
use Rattle.refusal.specs.declared.Refusal.{Refusal}
use Rattle.number.specs.Number.{NumberRead, Number, fault}
use Rattle.numbers.specs.Numbers.{Part, Reading, with_number, ◌>>=◌, in_range, number_between, passed, followed, numbers}

-- a number, and a judgement, with its place moved
abbrev pub moved : (ℕ → ℕ) → NumberRead → NumberRead
moved to (Number v next) = Number v (to next)
moved to (Err f) = Err (fault f.why (to f.place))

abbrev pub moved_to : (ℕ → ℕ) → Part → Part
moved_to to (Ok at) = Ok (to at)
moved_to to (Err f) = Err (fault f.why (to f.place))

module _ (to : ℕ → ℕ) where
  pub cond_moved : (b : Bool) (x y : Part) {x' y' : Part} → x' ≡ moved_to to x → y' ≡ moved_to to y → cond b x' y' ≡ moved_to to (cond b x y)
  cond_moved true x y p q = p
  cond_moved false x y p q = q

  pub with_moved : (got : NumberRead) (f g : ℕ → ℕ → Part) → ((v next : ℕ) → f v (to next) ≡ moved_to to (g v next))
      → with_number (moved to got) f ≡ moved_to to (with_number got g)
  with_moved (Number v next) f g h = h v next
  with_moved (Err x) f g h = refl

  pub then_moved : (j : Part) (f g : ℕ → Part) → ((at : ℕ) → f (to at) ≡ moved_to to (g at))
      → (moved_to to j >>= f) ≡ moved_to to (j >>= g)
  then_moved (Ok at) f g h = h at
  then_moved (Err x) f g h = refl

  pub followed_moved : (got : NumberRead) (f g : ℕ → List ℕ) → ((next : ℕ) → f (to next) ≡ g next) → followed (moved to got) f ≡ followed got g
  followed_moved (Number v next) f g h = ap (λ (x : List ℕ). v ∷ x) (h next)
  followed_moved (Err x) f g h = refl

  pub range_moved : (low high : ℕ) (why : Refusal) (at : ℕ) (got : NumberRead)
      → in_range low high why (to at) (moved to got) ≡ moved to (in_range low high why at got)
  range_moved low high why at (Err f) = refl
  range_moved low high why at (Number v next) = pick (leb low v && leb v high)
    where
      pick : (b : Bool) → cond b (Number v (to next)) (Err (fault why (to at))) ≡ moved to (cond b (Number v next) (Err (fault why at)))
      pick true = refl
      pick false = refl

-- the number_at `a` has at the place `to i` what the number_at `b` has at i
module _ (a b : Reading) (to : ℕ → ℕ) (same : (i : ℕ) → a (to i) ≡ moved to (b i)) where
  pub between_moved : (low high : ℕ) (why : Refusal) (at : ℕ) → number_between a low high why (to at) ≡ moved to (number_between b low high why at)
  unfolding number_between
  between_moved low high why at = rw (same at) (range_moved to low high why at (b at))

  -- a part that begins with a number in range
  pub ranged_moved : (low high : ℕ) (why : Refusal) (at : ℕ) (f g : ℕ → ℕ → Part) → ((v next : ℕ) → f v (to next) ≡ moved_to to (g v next))
      → with_number (number_between a low high why (to at)) f ≡ moved_to to (with_number (number_between b low high why at) g)
  ranged_moved low high why at f g h = rw (between_moved low high why at) (with_moved to (number_between b low high why at) f g h)

  pub passed_moved : (n at : ℕ) → passed a n (to at) ≡ moved_to to (passed b n at)
  passed_moved zero at = refl
  passed_moved (suc n) at = rw (same at) (with_moved to (b at) (λ v next. passed a n next) (λ v next. passed b n next)
      (λ v next. passed_moved n next))

  pub numbers_moved : (n at : ℕ) → numbers a n (to at) ≡ numbers b n at
  numbers_moved zero at = refl
  numbers_moved (suc n) at = rw (same at) (followed_moved to (b at) (numbers a n) (numbers b n) (numbers_moved n))
