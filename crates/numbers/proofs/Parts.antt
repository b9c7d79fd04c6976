-- What a good judgement is made of: each part that was judged is good. Assumes nothing.
use Prim.Native.Nat.{ℕ}
use mathlib.Core.Path.{◌≡◌, refl}
use mathlib.Core.Bool.{Bool, true, false, cond}
use Rattle.std.specs.Prelude.{Ok, Err}
use Rattle.number.specs.declared.Fault.{Fault}
use Rattle.number.specs.Number.{NumberRead, Number}
use Rattle.numbers.specs.Numbers.{Part, with_number, ◌>>=◌}

pub no_good : {A : Type 0} {f : Fault} {end : ℕ} → ◌≡◌ {A = Part} (Err f) (Ok end) → A
no_good e = cc

-- what holds at the end of a good part
pub at_good : (P : ℕ → Type 0) {at : ℕ} → P at → (end : ℕ) → ◌≡◌ {A = Part} (Ok at) (Ok end) → P end
at_good P {at} h end e = let same : at ≡ end = cc in rw (← same) h

pub with_good : (got : NumberRead) (f : ℕ → ℕ → Part) {end : ℕ} → with_number got f ≡ Ok end
    → (v : ℕ) × (next : ℕ) × (got ≡ Number v next) × (f v next ≡ Ok end)
with_good (Number v next) f e = (v, next, refl, e)
with_good (Err x) f e = no_good e

pub then_good : (j : Part) (f : ℕ → Part) {end : ℕ} → (j >>= f) ≡ Ok end → (mid : ℕ) × (j ≡ Ok mid) × (f mid ≡ Ok end)
then_good (Ok mid) f e = (mid, refl, e)
then_good (Err x) f e = no_good e

pub cond_good : (b : Bool) (x : Part) (f : Fault) {end : ℕ} → cond b x (Err f) ≡ Ok end → (b ≡ true) × (x ≡ Ok end)
cond_good true x f e = (refl, e)
cond_good false x f e = no_good e
