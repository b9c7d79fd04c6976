-- What holds of what was read and of its end, where that is good; and of whatever goes on from there. Assumes nothing.
use Prim.Native.Nat.{ℕ}
use mathlib.Core.Path.{◌≡◌, refl, subst}
use Rattle.std.specs.Prelude.{Result, Ok, Err}
use Rattle.number.specs.declared.Fault.{Fault}
use Rattle.numbers.specs.Numbers.{◌>>=◌}
use Rattle.image.specs.Read.{Read}

abbrev pub Told : {A : Type 0} → (A → ℕ → Type 0) → Read A → Type 0
Told {A} P read = (x : A × ℕ) → read ≡ Ok x → P x.0 x.1

pub read_one : {A : Type 0} {x y : A × ℕ} → ◌≡◌ {A = Read A} (Ok x) (Ok y) → x ≡ y
read_one e = cc

module _ {A : Type 0} (P : A → ℕ → Type 0) where
  pub at_told : (x : A × ℕ) → P x.0 x.1 → Told P (Ok x)
  at_told x h y e = subst (λ (z : A × ℕ). P z.0 z.1) (read_one e) h

  pub then_told : {B : Type 0} (j : Result B Fault) (f : B → Read A) → ((x : B) → j ≡ Ok x → Told P (f x)) → Told P (j >>= f)
  then_told (Ok x) f h = h x refl
  then_told (Err x) f h = λ y e. cc
