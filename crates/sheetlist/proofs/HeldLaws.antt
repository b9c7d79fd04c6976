-- The numbers of a row and of a post by their indices, and what stands past the end of a list. Assumes nothing.
use Prim.Native.Nat.{ℕ, zero, suc, ◌+◌, ◌≤◌, ◌<◌}
use mathlib.Core.Path.{◌≡◌, refl, sym, ap, ◌∙◌}
use mathlib.Core.List.{List, ◌∷◌}
use native.Mathlib.Nat.{add-zero, not-suc-le-zero, le_of_suc-le-suc}
use native.Mathlib.Omega.{arith}
use borrow.Author.Tests.{ltb-false}
use lib.ListN.{length, get_or, get_or-eq_default}
use lib.Dec.{ltb}
use Rattle.std.specs.Prelude.{Ok}
use Rattle.basics.proofs.Tests.{by_test}
use Rattle.numbers.specs.Numbers.{list_at, numbers}
use Rattle.numbers.proofs.RoundTrip.{part_ends}
use Rattle.sheet.specs.Sheet.{head_of}
use Rattle.sheet.proofs.Runs.{head_tells}
use Rattle.frame.specs.declared.Order.{Order}
use Rattle.sheetlist.specs.declared.Event.TheVariants.{Steps}
use Rattle.sheetlist.specs.Held.{post_at, event_at}

-- the numbers from an index on are the list's
cons_at : (list xs : List ℕ) (at v n : ℕ) → v ≡ get_or list at 0 → ((j : ℕ) → j < n → get_or xs j 0 ≡ get_or list (at + 1 + j) 0)
    → (j : ℕ) → j < suc n → get_or (v ∷ xs) j 0 ≡ get_or list (at + j) 0
cons_at list xs at v n first rest zero h = rw add-zero first
cons_at list xs at v n first rest (suc j) h =
    let k : at + 1 + j ≡ at + suc j = omega arith in
    rest j (le_of_suc-le-suc h) ∙ ap (λ (i : ℕ). get_or list i 0) k

pub listed_at : (list : List ℕ) (n at j : ℕ) → j < n → get_or (numbers (list_at list) n at) j 0 ≡ get_or list (at + j) 0
unfolding list_at
listed_at list zero at j h = absurd (not-suc-le-zero h)
listed_at list (suc n) at j h =
    by_test (ltb at (length list))
    (λ t. rw t (cons_at list (numbers (list_at list) n (at + 1)) at (get_or list at 0) n refl (listed_at list n (at + 1)) j h))
    (λ f.
    let past = ltb-false at (length list) f in
    let far : length list ≤ at + j = omega arith in
    rw f (sym (get_or-eq_default list 0 far)))

pub listed_first : (list : List ℕ) (n at : ℕ) → 0 < n → get_or (numbers (list_at list) n at) 0 0 ≡ get_or list at 0
listed_first list n at h = listed_at list n at 0 h ∙ ap (λ (i : ℕ). get_or list i 0) (add-zero at)

-- a post, by its six numbers
module _ (list : List ℕ) (at : ℕ) {a b c d e f : ℕ} where
  pub post_is : a ≡ get_or list (at + 1) 0 → b ≡ get_or list (at + 2) 0 → c ≡ get_or list (at + 3) 0
      → d ≡ get_or list (at + 4) 0 → e ≡ get_or list (at + 5) 0 → f ≡ get_or list (at + 6) 0
      → ◌≡◌ {A = Order} (record { level = a; direction = b; space = c; address = d; length = e; offset = f }) (post_at list at)
  post_is p q r s t u i = record { level = p i; direction = q i; space = r i; address = s i; length = t i; offset = u i }

-- past the end of the list
pub event_none : (list : List ℕ) (at : ℕ) → length list ≤ at → Steps 0 ≡ event_at list at
unfolding event_at
event_none list at h =
    let far : length list ≤ at + 1 = omega arith in
    rw (get_or-eq_default list 0 h, get_or-eq_default list 0 far)

-- the rows end at most one past the list's end
pub head_ends : (list : List ℕ) {end : ℕ} → (head_of list).part ≡ Ok end → end ≤ length list + 1
unfolding head_of
head_ends list e = part_ends list (rw e at (head_tells (list_at list) 1)) (omega arith)
