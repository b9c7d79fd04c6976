-- The round trips of a sheet, and what a judgement says of bytes and of a list. Assumes nothing.
use Prim.Native.Nat.{ℕ, ◌≤◌}
use mathlib.Core.Path.{◌≡◌, refl}
use mathlib.Core.List.{List}
use lib.ListN.{length}
use Rattle.std.specs.Prelude.{Ok}
use Rattle.number.specs.Number.{read_number, Bytes}
use Rattle.numbers.specs.Numbers.{list_at, numbers_of, all_bytes}
use Rattle.numbers.proofs.Moved.{moved_to}
use Rattle.numbers.proofs.RoundTrip.{Numbers, place, same_number, same_end, told, listed}
use Rattle.sheet.specs.Sheet.{sheet}
use Rattle.sheet.proofs.Moved.{sheet_moved}
use Rattle.sheet.proofs.Parts.{sheet_parts}
use Rattle.sheet.proofs.Runs.{sheet_tells}

-- Reader and writer judge alike: the bytes of a list get the list's judgement, at the place of the number at its index.
pub judged_alike : (list : List ℕ) → Numbers list
    → sheet (read_number (all_bytes list)) (length (all_bytes list)) ≡ moved_to (place list) (sheet (list_at list) (length list))
unfolding place
judged_alike list fit =
    sheet_moved (read_number (all_bytes list)) (list_at list) (place list) (same_number list fit) (length (all_bytes list)) (length list) (same_end list) refl

-- The numbers of a good sheet are written as its bytes.
pub bytes_back : (s : List ℕ) → Bytes s → {end : ℕ} → sheet (read_number s) (length s) ≡ Ok end → all_bytes (numbers_of s) ≡ s
bytes_back s bytes e = (told s bytes (rw e at (sheet_tells (read_number s) (length s))) (sheet_parts (read_number s) (length s) e).whole).1

-- The judgement of a valid list comes to its end, and it has at most 7,300 numbers.
pub list_whole : (list : List ℕ) {end : ℕ} → sheet (list_at list) (length list) ≡ Ok end → (end ≡ length list) × (length list ≤ 7300)
list_whole list e = listed list (rw e at (sheet_tells (list_at list) (length list))) (sheet_parts (list_at list) (length list) e).whole
