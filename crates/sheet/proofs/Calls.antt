-- The laws of the two calls, over what they promise: what was read is written again, what was written is read again, a
-- refusal leaves the lent slice, and the writer never gives 11. Assumes nothing.
use Prim.Native.Nat.{ℕ, ◌≤◌}
use mathlib.Core.Path.{◌≡◌, refl, sym, ap, ◌∙◌}
use mathlib.Core.List.{List, ◌++◌}
use native.Mathlib.Nat.{zero-add}
use native.Mathlib.Omega.{arith}
use borrow.Author.Tests.{le-leb, leb-true}
use lib.ListN.{length, drop, take}
use lib.Seq.{sets-eq, take-append_seam}
use lib.Dec.{leb, ltb}
use Rattle.std.specs.Prelude.{Ok, Err}
use Rattle.basics.proofs.Tests.{by_test}
use Rattle.refusal.specs.Refusal.{refusal_number}
use Rattle.refusal.specs.declared.Refusal.TheVariants.{SheetEnds}
use Rattle.number.specs.declared.Fault.{Fault}
use Rattle.number.specs.Number.{fault, read_number, Bytes}
use Rattle.sheet.specs.Sheet.{SheetAnswer, sheet, answered, stored, read_sheet, read_sheet_after, write_sheet, write_sheet_after}
use Rattle.numbers.specs.Numbers.{Part, list_at, numbers_of, all_bytes}
use Rattle.numbers.proofs.Moved.{moved_to}
use Rattle.numbers.proofs.Parts.{no_good}
use Rattle.numbers.proofs.Runs.{Tells}
use Rattle.numbers.proofs.Runs.Tells.{fault as at_fault}
use Rattle.numbers.proofs.RoundTrip.{Numbers, place, numbers_fit, list_back}
use Rattle.number.proofs.Laws.{no_number}
use Rattle.sheet.proofs.Runs.{sheet_tells}
use Rattle.sheet.proofs.RoundTrip.{judged_alike, bytes_back}

-- a result was stored: the judgement is good, there is room, and the slice holds the result before what it held there
pub record Success (judged : Part) (result out : List ℕ) (n : ℕ) : Type 0 where
  pub end : ℕ
  pub is_good : judged ≡ Ok end
  pub size : n ≡ length result
  pub room : length result ≤ length out
  pub left : stored (Ok n) result out ≡ result ++ drop n out

done_one : (a b : ℕ) → ◌≡◌ {A = SheetAnswer} (Ok a) (Ok b) → a ≡ b
done_one a b e = cc

not_done : {A : Type 0} {f : Fault} {n : ℕ} → ◌≡◌ {A = SheetAnswer} (Err f) (Ok n) → A
not_done e = cc

refused_one : {f g : Fault} → ◌≡◌ {A = SheetAnswer} (Err f) (Err g) → f.why ≡ g.why
refused_one {f} {g} e = let same : f ≡ g = cc in ap (λ (x : Fault). x.why) same

success : (judged : Part) (result out : List ℕ) {n : ℕ} → answered judged (length result) (length out) ≡ Ok n
    → Success judged result out n
success (Err f) result out e = not_done e
success (Ok end) result out {n} e =
    by_test (leb (length result) (length out))
    (λ t.
    let q = rw t at e in
    let size = sym (done_one (length result) n q) in
    let room = leb-true (length result) (length out) t in
    record {
      end = end;
      is_good = refl;
      size = size;
      room = room;
      left =
          sets-eq result out 0 (omega arith)
          ∙ ap (λ (k : ℕ). result ++ drop k out) (zero-add (length result) ∙ sym size);
    })
    (λ f. not_done (rw f at e))

-- a result that is good and has room is stored
stores : (judged : Part) (result out : List ℕ) {end : ℕ} → judged ≡ Ok end → length result ≤ length out
    → answered judged (length result) (length out) ≡ Ok (length result)
stores judged result out g h = rw (g, le-leb (length result) (length out) h)

module _ (bytes out : List ℕ) where
  -- what the reader stored is the sheet's list of numbers
  pub read_stored : {n : ℕ} → read_sheet bytes (length out) ≡ Ok n → read_sheet_after bytes out ≡ numbers_of bytes ++ drop n out
  unfolding read_sheet read_sheet_after
  read_stored e = rw e (success (sheet (read_number bytes) (length bytes)) (numbers_of bytes) out e).left

  -- A refusal leaves the lent slice.
  pub read_refused : {f : Fault} → read_sheet bytes (length out) ≡ Err f → read_sheet_after bytes out ≡ out
  unfolding read_sheet_after
  read_refused e = rw e

module _ (list out : List ℕ) where
  -- what the writer stored is the bytes of the list
  pub write_stored : {n : ℕ} → write_sheet list (length out) ≡ Ok n → write_sheet_after list out ≡ all_bytes list ++ drop n out
  unfolding write_sheet write_sheet_after
  write_stored e = rw e (success (sheet (list_at list) (length list)) (all_bytes list) out e).left

  -- A refusal leaves the lent slice.
  pub write_refused : {f : Fault} → write_sheet list (length out) ≡ Err f → write_sheet_after list out ≡ out
  unfolding write_sheet_after
  write_refused e = rw e

-- a judgement that is good where it was moved to is good
moved_good : (to : ℕ → ℕ) (j : Part) {end : ℕ} → moved_to to j ≡ Ok end → (mid : ℕ) × (j ≡ Ok mid)
moved_good to (Ok mid) e = (mid, refl)
moved_good to (Err f) e = no_good e

front : (xs ys : List ℕ) (n : ℕ) → n ≡ length xs → take n (xs ++ ys) ≡ xs
front xs ys n e = rw e (take-append_seam xs ys)

-- The numbers of a valid sheet are a valid list.
pub list_good : (bytes : List ℕ) {end : ℕ} → Bytes bytes → sheet (read_number bytes) (length bytes) ≡ Ok end
    → (mid : ℕ) × (sheet (list_at (numbers_of bytes)) (length (numbers_of bytes)) ≡ Ok mid)
unfolding numbers_of
list_good bytes y g =
    let list = numbers_of bytes in
    let kept = ap (λ (b : List ℕ). sheet (read_number b) (length b)) (bytes_back bytes y g) ∙ g in
    moved_good (place list) (sheet (list_at list) (length list))
    (sym (judged_alike list (numbers_fit bytes y (length bytes) 0)) ∙ kept)

-- what the reader gives is the sheet's list, which is valid
pub record ReadList (bytes out : List ℕ) (n : ℕ) : Type 0 where
  pub end : ℕ
  pub list_is : take n (read_sheet_after bytes out) ≡ numbers_of bytes
  pub sheet_good : sheet (read_number bytes) (length bytes) ≡ Ok end
  pub mid : ℕ
  pub list_valid : sheet (list_at (numbers_of bytes)) (length (numbers_of bytes)) ≡ Ok mid

pub read_list : (bytes out : List ℕ) {n : ℕ} → Bytes bytes → read_sheet bytes (length out) ≡ Ok n → ReadList bytes out n
unfolding read_sheet
read_list bytes out {n} y e =
    let s = success (sheet (read_number bytes) (length bytes)) (numbers_of bytes) out e in
    let g = list_good bytes y s.is_good in
    record {
      end = s.end;
      list_is = ap (take n) (read_stored bytes out e) ∙ front (numbers_of bytes) (drop n out) n s.size;
      sheet_good = s.is_good;
      mid = g.0;
      list_valid = g.1;
    }

-- A valid sheet, read and written again, has the same bytes.
pub read_written : (bytes out back : List ℕ) {n : ℕ} → Bytes bytes → read_sheet bytes (length out) ≡ Ok n → length bytes ≤ length back
    → (write_sheet (take n (read_sheet_after bytes out)) (length back) ≡ Ok (length bytes))
    × (take (length bytes) (write_sheet_after (take n (read_sheet_after bytes out)) back) ≡ bytes)
unfolding write_sheet
read_written bytes out back y e h =
    let list = numbers_of bytes in
    let r = read_list bytes out y e in
    let same = bytes_back bytes y r.sheet_good in
    let done = stores (sheet (list_at list) (length list)) (all_bytes list) back r.list_valid (rw same h) in
    let size = ap length (sym same) in
    let rest = drop (length (all_bytes list)) back in
    rw r.list_is (
      done ∙ ap (λ (b : List ℕ). Ok (length b)) same,
      ap (take (length bytes)) (write_stored list back done) ∙ front (all_bytes list) rest (length bytes) size ∙ same,
    )

-- A valid list, written and read again, is the same list.
pub written_read : (list out back : List ℕ) {n : ℕ} → Numbers list → write_sheet list (length out) ≡ Ok n → length list ≤ length back
    → (read_sheet (take n (write_sheet_after list out)) (length back) ≡ Ok (length list))
    × (take (length list) (read_sheet_after (take n (write_sheet_after list out)) back) ≡ list)
unfolding read_sheet write_sheet
written_read list out back {n} fit e h =
    let bytes = all_bytes list in
    let s = success (sheet (list_at list) (length list)) bytes out e in
    let same = list_back list fit in
    let alike = judged_alike list fit ∙ ap (moved_to (place list)) s.is_good in
    let taken = ap (take n) (write_stored list out e) ∙ front bytes (drop n out) n s.size in
    let done = stores (sheet (read_number bytes) (length bytes)) (numbers_of bytes) back alike (rw same h) in
    let size = ap length (sym same) in
    let rest = drop (length (numbers_of bytes)) back in
    rw taken (
      done ∙ ap (λ (l : List ℕ). Ok (length l)) same,
      ap (take (length list)) (read_stored bytes back done) ∙ front (numbers_of bytes) rest (length list) size ∙ same,
    )

-- a list's own refusal of a number is 10
list_refuses : (list : List ℕ) (at : ℕ) {f : Fault} → list_at list at ≡ Err f → f.why ≡ SheetEnds
unfolding list_at
list_refuses list at {f} e =
    by_test (ltb at (length list))
    (λ t. no_number (sym (rw t at e)))
    (λ b.
    let q = rw b at e in
    let same : f ≡ fault SheetEnds at = cc in
    ap (λ (x : Fault). x.why) same)

never_eleven : (list : List ℕ) {m at : ℕ} {f : Fault} → Tells (list_at list) m at (Err f) → refusal_number f.why ≡ 11 → ⊥
never_eleven list {f = f} (at_fault t) e =
    let s = t e in
    let q = ap refusal_number (list_refuses list s.0 s.1) in
    omega arith

-- The writer never gives 11.
pub write_eleven : (list : List ℕ) (room : ℕ) {f : Fault} → write_sheet list room ≡ Err f → refusal_number f.why ≡ 11 → ⊥
unfolding write_sheet
write_eleven list room {f} e q = go (sheet (list_at list) (length list)) (sheet_tells (list_at list) (length list)) e
  where
    go : (j : Part) → Tells (list_at list) 7300 0 j → answered j (length (all_bytes list)) room ≡ Err f → ⊥
    go (Err g) t r = never_eleven list t (ap refusal_number (refused_one r) ∙ q)
    go (Ok end) t r =
        by_test (leb (length (all_bytes list)) room)
        (λ b. not_done (sym (rw b at r)))
        (λ b.
        let n = ap refusal_number (refused_one (rw b at r)) in
        omega arith)
