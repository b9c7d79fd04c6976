-- Numbers in a row, one more at a time: where one more is due (`left` is one more than `k`), and where none is; their bytes from an index on. Assumes nothing.
use Prim.Native.Nat.{ℕ, zero, suc, ◌+◌, ◌-◌, ◌*◌, ◌≤◌, ◌<◌}
use mathlib.Core.Path.{◌≡◌, refl, sym, ap, ◌∙◌}
use mathlib.Core.Bool.{◌&&◌}
use mathlib.Core.List.{List, [], ◌∷◌, ◌++◌}
use native.Mathlib.Nat.{zero-add, add-zero}
use native.Mathlib.Numerals.{add-one}
use native.Mathlib.Omega.{arith}
use lib.ListN.{length, get_or, drop, set, replicate, drop_of_length-le, length-append, get_or-append, get_or-eq_default}
use lib.Seq.{sets, sets-eq, drop-cons, get_or-append-add, get_or-drop}
use lib.Dec.{leb, ltb}
use borrow.Author.Tests.{ltb-true, ltb-false, leb-true}
use Rattle.std.specs.Prelude.{Ok, Err}
use Rattle.basics.specs.Limits.{numbers_most}
use Rattle.basics.proofs.Arrays.{replicate_at}
use Rattle.basics.proofs.Tests.{by_test, and_left, and_right}
use Rattle.refusal.specs.declared.Refusal.{Refusal}
use Rattle.refusal.specs.declared.Refusal.TheVariants.{SheetEnds}
use Rattle.number.specs.declared.Fault.{Fault}
use Rattle.number.specs.Number.{NumberRead, NumberWritten, Number, fault, bytes_of}
use Rattle.number.proofs.Laws.{no_number, number_is, bytes_most}
use Rattle.numbers.specs.declared.Taken.{Taken}
use Rattle.numbers.specs.Numbers.{Part, Reading, list_at, in_range, number_between, passed, followed, numbers, padded, taken, all_bytes}

module _ (src : Reading) (at : ℕ) {left k : ℕ} (more : left ≡ suc k) where
  -- numbers in a row
  pub passed_on : {v next : ℕ} → src at ≡ Number v next → passed src left at ≡ passed src k next
  passed_on r = rw (more, r)

  pub passed_fault : {f : Fault} → src at ≡ Err f → passed src left at ≡ Err f
  passed_fault r = rw (more, r)

  pub numbers_on : {v next : ℕ} → src at ≡ Number v next → numbers src left at ≡ v ∷ numbers src k next
  numbers_on r = rw (more, r)

  -- the first of them is stored, and the rest after it
  pub stored_on : (out : List ℕ) (i : ℕ) {v next : ℕ} → src at ≡ Number v next
      → sets (set out i v) (i + 1) (numbers src k next) ≡ sets out i (numbers src left at)
  stored_on out i r = rw (add-one, numbers_on r)

-- a number in range stands in the number_at as well, and is in range
pub record InRange (src : Reading) (low high at v next : ℕ) : Type 0 where
  pub stands : src at ≡ Number v next
  pub least : low ≤ v
  pub most : v ≤ high

ranged : (src : Reading) (low high : ℕ) (why : Refusal) (at : ℕ) (got : NumberRead) {v next : ℕ} → src at ≡ got
    → in_range low high why at got ≡ Number v next
    → InRange src low high at v next
ranged src low high why at (Err f) s e = no_number e
ranged src low high why at (Number w to) {v} {next} s e =
    by_test (leb low w && leb w high)
    (λ t.
    let q : Number w to ≡ Number v next = rw t at e in
    let same = (number_is q).0 in
    record {
      stands = s ∙ q;
      least = omega (arith, leb-true low w (and_left _ _ t));
      most = omega (arith, leb-true w high (and_right (leb low w) _ t));
    })
    (λ f. let q : Err (fault why at) ≡ Number v next = rw f at e in no_number q)

pub in_range_lem : (src : Reading) (low high : ℕ) (why : Refusal) (at : ℕ) {v next : ℕ} → number_between src low high why at ≡ Number v next
    → InRange src low high at v next
unfolding number_between
in_range_lem src low high why at e = ranged src low high why at (src at) refl e

pub at_most : (src : Reading) (low high : ℕ) (why : Refusal) (at : ℕ) {got : NumberRead} {v next : ℕ}
    → got ≡ number_between src low high why at → got ≡ Number v next → v ≤ high
at_most src low high why at b e = (in_range_lem src low high why at (sym b ∙ e)).most

-- a number that stands at an index of a list is the list's
pub record Stands (list : List ℕ) (at v next : ℕ) : Type 0 where
  pub value : v ≡ get_or list at 0
  pub next_is : next ≡ at + 1
  pub inside : at < length list

pub stands : (list : List ℕ) (at : ℕ) {v next : ℕ} → list_at list at ≡ Number v next → Stands list at v next
unfolding list_at
stands list at {v} {next} e =
    by_test (ltb at (length list))
    (λ t.
    let q : Number (get_or list at 0) (at + 1) ≡ Number v next = rw t at e in
    let i = number_is q in
    record { value = sym i.0; next_is = sym i.1; inside = ltb-true at (length list) t })
    (λ f. let q : Err (fault SheetEnds at) ≡ Number v next = rw f at e in no_number q)

-- where no number stands, none follow
pub numbers_end : (src : Reading) (n at : ℕ) {f : Fault} → src at ≡ Err f → numbers src n at ≡ []
numbers_end src zero at r = refl
numbers_end src (suc n) at r = rw r

-- n numbers in a row are at most n
followed_most : (n : ℕ) (got : NumberRead) (f : ℕ → List ℕ) → ((next : ℕ) → length (f next) ≤ n) → length (followed got f) ≤ suc n
followed_most n (Number v next) f h = omega (arith, h next)
followed_most n (Err x) f h = omega arith

pub numbers_most_lem : (src : Reading) (n at : ℕ) → length (numbers src n at) ≤ n
numbers_most_lem src zero at = omega arith
numbers_most_lem src (suc n) at = followed_most n (src at) (numbers src n) (numbers_most_lem src n)

-- numbers keep their values in the six places; after them stands 0, as past a list's end
pub padded_at : (row : List ℕ) (j : ℕ) → length row ≤ numbers_most → get_or (padded row) j 0 ≡ get_or row j 0
padded_at row j h =
    let none : List ℕ = replicate numbers_most 0 in
    let rest = drop (length row) none in
    let e : padded row ≡ row ++ rest = sets-eq row none 0 (omega arith) ∙ ap (λ (k : ℕ). row ++ drop k none) (zero-add (length row)) in
    rw e
    (by_test (ltb j (length row))
    (λ t. get_or-append row rest 0 j (ltb-true _ _ t))
    (λ f.
    let g = ltb-false j (length row) f in
    let k : length row + (j - length row) ≡ j = omega arith in
    ap (λ (i : ℕ). get_or (row ++ rest) i 0) (sym k)
    ∙ get_or-append-add row rest (j - length row) 0
    ∙ get_or-drop (length row) none (j - length row) 0
    ∙ replicate_at numbers_most (length row + (j - length row)) 0
    ∙ sym (get_or-eq_default row 0 g)))

-- what the judge reads, by its parts
module _ (src : Reading) (at : ℕ) where
  pub taken_is : (n : ℕ) {values : List ℕ} {part : Part} → values ≡ padded (numbers src n at) → part ≡ passed src n at
      → ◌≡◌ {A = Taken} (record { values = values; part = part }) (taken src n at)
  taken_is n p q i = record { values = p i; part = q i }

-- the bytes of a list from an index on
pub bytes_none : (list : List ℕ) (i : ℕ) → length list ≤ i → all_bytes (drop i list) ≡ []
bytes_none list i h = rw (drop_of_length-le list h)

pub bytes_on : (list : List ℕ) (i : ℕ) → i < length list → all_bytes (drop i list) ≡ bytes_of (get_or list i 0) ++ all_bytes (drop (i + 1) list)
bytes_on list i h = rw (drop-cons list i 0, add-one)

pub size_on : (list : List ℕ) (i : ℕ) → i < length list
    → length (all_bytes (drop i list)) ≡ length (bytes_of (get_or list i 0)) + length (all_bytes (drop (i + 1) list))
size_on list i h = rw (bytes_on list i h) (length-append (bytes_of (get_or list i 0)) (all_bytes (drop (i + 1) list)))

-- a number has at most five bytes
pub sizes_most : (list : List ℕ) → length (all_bytes list) ≤ 5 * length list
sizes_most [] = omega arith
sizes_most (v ∷ list) = simp length-append (omega (arith, bytes_most v, sizes_most list))

pub sets_append : (a b out : List ℕ) (i : ℕ) → sets out i (a ++ b) ≡ sets (sets out i a) (i + length a) b
sets_append [] b out i = rw add-zero
sets_append (x ∷ a) b out i =
    sets_append a b (set out i x) (suc i) ∙ ap (λ (k : ℕ). sets (sets (set out i x) (suc i) a) k b) (omega arith)

-- a number's bytes are written, and the others' after them
pub written_on : (list : List ℕ) (i at : ℕ) (out : List ℕ) → i < length list
    → sets (sets out at (bytes_of (get_or list i 0))) (at + length (bytes_of (get_or list i 0))) (all_bytes (drop (i + 1) list))
    ≡ sets out at (all_bytes (drop i list))
written_on list i at out h = rw (bytes_on list i h) (sym (sets_append (bytes_of (get_or list i 0)) (all_bytes (drop (i + 1) list)) out at))

-- a write with room for it says where it ends
pub past_is : {a b : ℕ} → ◌≡◌ {A = NumberWritten} (Ok a) (Ok b) → a ≡ b
past_is q = cc

pub no_room : {A : Type 0} {why : Refusal} {a : ℕ} → ◌≡◌ {A = NumberWritten} (Err why) (Ok a) → A
no_room q = cc
