-- A good part of a sheet is a run of numbers, as many as the document allows; and a refusal 11 is the number_at's. Assumes nothing.
use Prim.Native.Nat.{ℕ, zero, suc, ◌+◌, ◌≤◌}
use mathlib.Core.Path.{◌≡◌, refl}
use mathlib.Core.Bool.{Bool, true, false, cond, ◌&&◌}
use native.Mathlib.Nat.{suc-add, zero-add}
use native.Mathlib.Omega.{arith}
use borrow.Author.Tests.{leb-true}
use lib.Dec.{leb}
use Rattle.std.specs.Prelude.{Ok, Err}
use Rattle.basics.proofs.Tests.{by_test, and_right}
use Rattle.refusal.specs.Refusal.{refusal_number}
use Rattle.refusal.specs.declared.Refusal.{Refusal}
use Rattle.number.specs.declared.Fault.{Fault}
use Rattle.number.specs.Number.{NumberRead, Number}
use Rattle.numbers.specs.Numbers.{Part, Reading, with_number, ◌>>=◌, in_range, number_between, passed}

-- n numbers stand one after the other, from a place to another
pub data Run (src : Reading) : ℕ → ℕ → ℕ → Type 0 where
  none : {at : ℕ} → Run src 0 at at
  more : {n at v next end : ℕ} → src at ≡ Number v next → Run src n next end → Run src (suc n) at end

-- what a judgement says of the numbers from a place on: if it is good, they run to its end and are at most `most`; if
-- it is 11, the number_at said so
pub data Tells (src : Reading) : ℕ → ℕ → Part → Type 0 where
  good : {most n at end : ℕ} → Run src n at end → n ≤ most → Tells src most at (Ok end)
  fault : {most at : ℕ} {f : Fault} → (refusal_number f.why ≡ 11 → (q : ℕ) × (src q ≡ Err f)) → Tells src most at (Err f)

module _ {src : Reading} where
  pub tells_none : {m at : ℕ} → Tells src m at (Ok at)
  tells_none {m} = good {most = m} none (omega arith)

  pub tells_less : {m k at : ℕ} {j : Part} → m ≤ k → Tells src m at j → Tells src k at j
  tells_less {k = k} h (good r l) = good {most = k} r (omega arith)
  tells_less h (fault e) = fault e

  pub tells_on : {m at v next : ℕ} {j : Part} → src at ≡ Number v next → Tells src m next j → Tells src (suc m) at j
  tells_on {m} r (good s l) = good {most = suc m} (more r s) (omega arith)
  tells_on r (fault e) = fault e

  pub tells_after : {n m at mid : ℕ} {j : Part} → Run src n at mid → Tells src m mid j → Tells src (n + m) at j
  tells_after {m = m} none t = rw (zero-add m) t
  tells_after {m = m} (more {n = n} r s) t = rw (suc-add n m) (tells_on r (tells_after s t))

  pub tells_then : {m k at : ℕ} {j : Part} {f : ℕ → Part} → Tells src m at j → ((mid : ℕ) → Tells src k mid (f mid))
      → Tells src (m + k) at (j >>= f)
  tells_then (good {end = mid} r l) h = tells_less (omega arith) (tells_after r (h mid))
  tells_then (fault e) h = fault e

  pub tells_cond : {m at : ℕ} (b : Bool) {x y : Part} → Tells src m at x → Tells src m at y → Tells src m at (cond b x y)
  tells_cond true p q = p
  tells_cond false p q = q

  pub ranged_tells : (low high : ℕ) (why : Refusal) {m at : ℕ} {f : ℕ → ℕ → Part} → (refusal_number why ≡ 11 → ⊥)
      → ((v next : ℕ) → v ≤ high → Tells src m next (f v next))
      → (got : NumberRead) → src at ≡ got → Tells src (suc m) at (with_number (in_range low high why at got) f)
  ranged_tells low high why {at = at} other h (Err f) r = fault (λ e. (at, r))
  ranged_tells low high why other h (Number v next) r =
      by_test (leb low v && leb v high)
      (λ t. rw t (tells_on r (h v next (leb-true v high (and_right (leb low v) _ t)))))
      (λ e. rw e (fault (λ q. absurd (other q))))

  pub with_tells : {m at : ℕ} {f : ℕ → ℕ → Part} → ((v next : ℕ) → Tells src m next (f v next))
      → (got : NumberRead) → src at ≡ got → Tells src (suc m) at (with_number got f)
  with_tells {at = at} h (Err x) r = fault (λ e. (at, r))
  with_tells h (Number v next) r = tells_on r (h v next)

module _ (src : Reading) where
  -- a part that begins with a number in range
  pub tells_ranged : (low high : ℕ) (why : Refusal) (at : ℕ) {m : ℕ} {f : ℕ → ℕ → Part} → (refusal_number why ≡ 11 → ⊥)
      → ((v next : ℕ) → v ≤ high → Tells src m next (f v next))
      → Tells src (suc m) at (with_number (number_between src low high why at) f)
  unfolding number_between
  tells_ranged low high why at other h = ranged_tells low high why other h (src at) refl

  pub passed_tells : (n at : ℕ) → Tells src n at (passed src n at)
  passed_tells zero at = tells_none
  passed_tells (suc n) at = with_tells (λ v next. passed_tells n next) (src at) refl
