-- The round trips of a sheet, and what a judgement says of bytes and of a list. Assumes nothing.
use Prim.Native.Nat.{ℕ, zero, suc, ◌+◌, ◌≤◌, ◌<◌}
use mathlib.Core.Path.{◌≡◌, refl, sym, ap, ◌∙◌}
use mathlib.Core.List.{List, [], ◌∷◌, ◌++◌, append_assoc, append-nil}
use native.Mathlib.Numerals.{add-one}
use native.Mathlib.Omega.{arith}
use borrow.Author.Tests.{lt-ltb, le-ltb, ltb-true, ltb-false}
use lib.ListN.{length, get_or, drop, take, length-append, take-append-drop, drop_of_length-le}
use lib.Seq.{drop-cons, take-suc, take_all}
use lib.Dec.{ltb}
use Rattle.std.specs.Prelude.{Ok, Err}
use Rattle.basics.proofs.Tests.{by_test}
use Rattle.number.specs.declared.Fault.{Fault}
use Rattle.number.specs.Number.{NumberRead, Number, bytes_of, read_number, Bytes}
use Rattle.number.proofs.RoundTrip.{read_appended, written_back}
use Rattle.number.proofs.Laws.{bytes_some, read_end, read_within}
use Rattle.numbers.specs.Numbers.{Reading, list_at, followed, numbers, numbers_of, all_bytes}
use Rattle.numbers.proofs.Laws.{numbers_end, numbers_most_lem, stands}
use Rattle.numbers.proofs.Laws.{bytes_on, size_on}
use Rattle.numbers.proofs.Moved.{moved, numbers_moved}
use Rattle.numbers.proofs.Runs.{Run, Tells}
use Rattle.numbers.proofs.Runs.Run.{none, more}
use Rattle.numbers.proofs.Runs.Tells.{good}

-- a list of numbers up to 4,294,967,295, as the elements of a slice are
abbrev pub Numbers : List ℕ → Type 0
Numbers list = (i : ℕ) → get_or list i 0 < 4294967296

-- the place in its bytes of a list's number
unfoldable pub place : List ℕ → ℕ → ℕ
place list i = length (all_bytes (take i list))

-- the bytes of two lists, one after the other
pub all_append : (x y : List ℕ) → all_bytes (x ++ y) ≡ all_bytes x ++ all_bytes y
all_append [] y = refl
all_append (v ∷ x) y = rw (all_append x y) (sym (append_assoc (bytes_of v) (all_bytes x) (all_bytes y)))

split : (list : List ℕ) (i : ℕ) → all_bytes list ≡ all_bytes (take i list) ++ all_bytes (drop i list)
split list i = sym (ap all_bytes (take-append-drop i list)) ∙ all_append (take i list) (drop i list)

pub place_on : (list : List ℕ) (i : ℕ) → i < length list → place list (i + 1) ≡ place list i + length (bytes_of (get_or list i 0))
unfolding place
place_on list i h = rw (add-one i, take-suc list i 0 h, all_append, length-append, append-nil)

pub place_end : (list : List ℕ) (i : ℕ) → length list ≤ i → place list i ≡ length (all_bytes list)
unfolding place
place_end list i h = rw (take_all i list h)

-- at the place of a list's number its bytes have that number, and their end is the list's
module _ (list : List ℕ) where
  pub same_number : Numbers list → (i : ℕ) → read_number (all_bytes list) (place list i) ≡ moved (place list) (list_at list i)
  unfolding list_at place
  same_number fit i =
      by_test (ltb i (length list))
      (λ t.
      let h = ltb-true i (length list) t in
      rw (t, split list i, bytes_on list i h, place_on list i h)
      (read_appended (all_bytes (take i list)) (all_bytes (drop (i + 1) list)) (get_or list i 0) (fit i)))
      (λ f.
      let h = ltb-false i (length list) f in
      rw (f, place_end list i h) (read_end (all_bytes list) (length (all_bytes list)) (omega arith)))

  pub same_end : (i : ℕ) → ltb (place list i) (length (all_bytes list)) ≡ ltb i (length list)
  unfolding place
  same_end i =
      by_test (ltb i (length list))
      (λ t.
      let h = ltb-true i (length list) t in
      let all = simp length-append at (ap length (split list i)) in
      lt-ltb (place list i) (length (all_bytes list)) (omega (arith, all, size_on list i h, bytes_some (get_or list i 0))) ∙ sym t)
      (λ f. le-ltb (place list i) (length (all_bytes list)) (omega (arith, place_end list i (ltb-false i (length list) f))) ∙ sym f)

-- a list's numbers, read from an index on
pub numbers_listed : (list : List ℕ) (n i : ℕ) → length list ≤ i + n → numbers (list_at list) n i ≡ drop i list
unfolding list_at
numbers_listed list zero i h = let passed : length list ≤ i = omega arith in sym (drop_of_length-le list passed)
numbers_listed list (suc n) i h =
    by_test (ltb i (length list))
    (λ t.
    rw (t, drop-cons list i 0 (ltb-true i (length list) t))
    (ap (λ (x : List ℕ). get_or list i 0 ∷ x) (numbers_listed list n (i + 1) (omega arith) ∙ ap (λ (j : ℕ). drop j list) (add-one i))))
    (λ f. rw f (sym (drop_of_length-le list (ltb-false i (length list) f))))

-- each number has a byte or more
bytes_many : (list : List ℕ) → length list ≤ length (all_bytes list)
bytes_many [] = omega arith
bytes_many (v ∷ list) = simp length-append (omega (arith, bytes_some v, bytes_many list))

-- The bytes of a list are read as that list.
pub list_back : (list : List ℕ) → Numbers list → numbers_of (all_bytes list) ≡ list
unfolding numbers_of place
list_back list fit =
    let n = length (all_bytes list) in
    numbers_moved (read_number (all_bytes list)) (list_at list) (place list) (same_number list fit) n 0
    ∙ numbers_listed list n 0 (omega (arith, bytes_many list))

-- a run that ends where no number stands has all the numbers there are
run_all : (src : Reading) (m : ℕ) {n at end : ℕ} {f : Fault} → Run src n at end → src end ≡ Err f → n ≤ m
    → numbers src m at ≡ numbers src n at
run_all src m none r h = numbers_end src m _ r
run_all src zero (more e s) r h = absurd (omega arith)
run_all src (suc m) (more {v = v} e s) r h = rw e (ap (λ (x : List ℕ). v ∷ x) (run_all src m s r (omega arith)))

-- the bytes of a run's numbers are the bytes that it ran over
module _ (s : List ℕ) (bytes : Bytes s) where
  run_within : {n at end : ℕ} → Run (read_number s) n at end → at ≤ length s → (at + n ≤ end) × (end ≤ length s)
  run_within none h = (omega arith, h)
  run_within (more {at = at} e r) h = let w = read_within s at e in let t = run_within r w.1 in (omega arith, t.1)

  run_bytes : {n at end : ℕ} → Run (read_number s) n at end → drop at s ≡ all_bytes (numbers (read_number s) n at) ++ drop end s
  run_bytes none = refl
  run_bytes (more {n = n} {at = at} {v = v} {next = next} {end = end} e r) =
      rw e
      ((written_back s at bytes e).form
      ∙ ap (λ (x : List ℕ). bytes_of v ++ x) (run_bytes r)
      ∙ sym (append_assoc (bytes_of v) (all_bytes (numbers (read_number s) n next)) (drop end s)))

  pub told : {m end : ℕ} → Tells (read_number s) m 0 (Ok end) → length s ≤ end → (length (numbers_of s) ≤ m) × (all_bytes (numbers_of s) ≡ s)
  unfolding numbers_of
  told (good {n = n} {end = end} r l) w =
      let t = run_within r (omega arith) in
      let all = run_all (read_number s) (length s) r (read_end s end w) (omega arith) in
      let kept = sym (run_bytes r ∙ ap (λ (x : List ℕ). all_bytes (numbers (read_number s) n 0) ++ x) (drop_of_length-le s w)) in
      (rw all (omega (arith, numbers_most_lem (read_number s) n 0)), rw all (sym (append-nil (all_bytes (numbers (read_number s) n 0))) ∙ kept))

-- in a list each number of a run is one index
list_run : (list : List ℕ) {n at end : ℕ} → Run (list_at list) n at end → at ≤ length list → (end ≡ at + n) × (end ≤ length list)
list_run list none h = (omega arith, h)
list_run list (more {at = at} e r) h =
    let s = stands list at e in
    let t = list_run list r (omega arith) in
    (omega arith, t.1)

pub listed : (list : List ℕ) {m end : ℕ} → Tells (list_at list) m 0 (Ok end) → length list ≤ end → (end ≡ length list) × (length list ≤ m)
listed list (good r l) w = let t = list_run list r (omega arith) in (omega arith, omega arith)

-- the numbers of bytes fit
followed_fit : (got : NumberRead) (f : ℕ → List ℕ) → ((v next : ℕ) → got ≡ Number v next → v < 4294967296)
    → ((next : ℕ) → Numbers (f next)) → Numbers (followed got f)
followed_fit (Number v next) f h k zero = h v next refl
followed_fit (Number v next) f h k (suc i) = k next i
followed_fit (Err x) f h k i = omega arith

pub numbers_fit : (bytes : List ℕ) → Bytes bytes → (n at : ℕ) → Numbers (numbers (read_number bytes) n at)
numbers_fit bytes y zero at = λ i. omega arith
numbers_fit bytes y (suc n) at =
    followed_fit (read_number bytes at) (numbers (read_number bytes) n) (λ v next e. (written_back bytes at y e).fits) (numbers_fit bytes y n)

-- a part of a list that is good ends at most one past its end, if it begins there
list_ends : (list : List ℕ) {n at end : ℕ} → Run (list_at list) n at end → at ≤ length list + 1 → end ≤ length list + 1
list_ends list none h = h
list_ends list (more {at = at} e r) h = let s = stands list at e in list_ends list r (omega arith)

pub part_ends : (list : List ℕ) {m at end : ℕ} → Tells (list_at list) m at (Ok end) → at ≤ length list + 1 → end ≤ length list + 1
part_ends list (good r l) h = list_ends list r h
