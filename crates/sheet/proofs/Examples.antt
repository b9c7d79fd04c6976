-- A small sheet, the empty sheet and an example or more of each refusal 10 to 17, with its place, as one table that antt
-- computes by the definitions. Assumes nothing. (The sheet of document 01 is in the crate examples.)
use Prim.Native.Nat.{ℕ, ◌-◌}
use mathlib.Core.Path.{◌≡◌, refl}
use mathlib.Core.Bool.{Bool, true, false, ◌&&◌}
use mathlib.Core.List.{List, [], ◌∷◌, ◌++◌}
use lib.Dec.{eqb}
use lib.ListN.{length, replicate}
use Rattle.std.specs.Prelude.{Ok, Err}
use Rattle.basics.specs.Scan.{all_below}
use Rattle.cycle.specs.Cycle.{is_width, is_port}
use Rattle.frame.specs.Frame.{
  is_level_in_range,
  is_rising,
  is_last_fifteen,
  level_row_fits,
  is_time,
  limit_of,
  is_placed,
  is_slave_in_range,
  are_apart,
  is_apart,
  lengths_before,
  slave_row_fits,
}
use Rattle.refusal.specs.Refusal.{refusal_number}
use Rattle.number.specs.Number.{read_number, bytes_of}
use Rattle.numbers.specs.Numbers.{list_at, number_between, numbers_of}
use Rattle.sheet.specs.Sheet.{
  SheetAnswer,
  counted_rows,
  head,
  step_count,
  event,
  counted_events,
  body,
  sheet,
  read_sheet,
  read_sheet_after,
  write_sheet,
  write_sheet_after,
}

data Example : Type 0 where
  -- these bytes are read as this list, and the list is written as these bytes
  is : List ℕ → List ℕ → Example
  -- the reader refuses these bytes, with room for this many numbers: the document's number, and the place
  reads : List ℕ → ℕ → ℕ → ℕ → Example
  -- the writer refuses this list, with room for this many bytes
  writes : List ℕ → ℕ → ℕ → ℕ → Example

-- edition and level row 15, and after them one slave row; the small sheet has no events
level_part : List ℕ
level_part = 0x01 ∷ 0x01 ∷ 0x0f ∷ 0x02 ∷ 0x00 ∷ []

rows : List ℕ
rows = level_part ++ (0x01 ∷ 0x00 ∷ 0x00 ∷ 0x04 ∷ 0x01 ∷ 0xc8 ∷ 0x01 ∷ [])

small : List ℕ
small = rows ++ (0x00 ∷ [])

small_list : List ℕ
small_list = 1 ∷ 1 ∷ 15 ∷ 2 ∷ 0 ∷ 1 ∷ 0 ∷ 0 ∷ 4 ∷ 1 ∷ 200 ∷ 0 ∷ []

table : List Example
table =
    is small small_list
    -- 10: the empty sheet, before a number that is due, inside a number, and inside a row that would be against the frame
    ∷ reads [] 99 10 0
    ∷ reads rows 99 10 12
    ∷ reads (0x01 ∷ 0x80 ∷ []) 99 10 1
    ∷ reads (0x01 ∷ 0x01 ∷ 0x10 ∷ 0x02 ∷ []) 99 10 4
    ∷ writes [] 99 10 0
    ∷ writes (1 ∷ 1 ∷ 16 ∷ 2 ∷ []) 99 10 4
    -- 11: not shortest, above the largest, and a fifth byte above 0F where the sheet ends
    ∷ reads (0x01 ∷ 0x81 ∷ 0x00 ∷ []) 99 11 1
    ∷ reads (0xff ∷ 0xff ∷ 0xff ∷ 0xff ∷ 0x10 ∷ []) 99 11 0
    -- 12: edition 0 and 2
    ∷ reads (0x00 ∷ []) 99 12 0
    ∷ writes (2 ∷ []) 99 12 0
    -- 13: counts 0 and 17; a last row that is not 15; a row that doesn't rise, after a 15 that is not the last
    ∷ reads (0x01 ∷ 0x00 ∷ []) 99 13 1
    ∷ reads (0x01 ∷ 0x11 ∷ []) 99 13 1
    ∷ reads (0x01 ∷ 0x01 ∷ 0x0e ∷ 0x02 ∷ 0x00 ∷ []) 99 13 2
    ∷ reads (0x01 ∷ 0x02 ∷ 0x0f ∷ 0x02 ∷ 0x00 ∷ 0x0f ∷ 0x02 ∷ 0x00 ∷ []) 99 13 5
    ∷ writes (1 ∷ 2 ∷ 3 ∷ 2 ∷ 8 ∷ []) 99 13 2
    -- 14: count 0; a base that is no multiple of 4; a row over the one before it; a row that passes 65,536 bytes in all
    ∷ reads (level_part ++ (0x00 ∷ [])) 99 14 5
    ∷ reads (level_part ++ (0x01 ∷ 0x00 ∷ 0x02 ∷ 0x04 ∷ 0x01 ∷ 0xc8 ∷ 0x01 ∷ [])) 99 14 6
    ∷ writes (1 ∷ 1 ∷ 15 ∷ 2 ∷ 0 ∷ 2 ∷ 0 ∷ 0 ∷ 8 ∷ 1 ∷ 200 ∷ 0 ∷ 4 ∷ 8 ∷ 1 ∷ 200 ∷ []) 99 14 11
    ∷ writes (1 ∷ 1 ∷ 15 ∷ 2 ∷ 0 ∷ 2 ∷ 0 ∷ 0 ∷ 4 ∷ 1 ∷ 200 ∷ 1 ∷ 0 ∷ 65536 ∷ 1 ∷ 200 ∷ []) 99 14 11
    -- 15: event count 1,025; kind 2; step counts 0 and 65,536
    ∷ reads (rows ++ (0x81 ∷ 0x08 ∷ [])) 99 15 12
    ∷ reads (rows ++ (0x01 ∷ 0x02 ∷ [])) 99 15 13
    ∷ reads (rows ++ (0x01 ∷ 0x00 ∷ 0x00 ∷ [])) 99 15 14
    ∷ reads (rows ++ (0x01 ∷ 0x00 ∷ 0x80 ∷ 0x80 ∷ 0x04 ∷ [])) 99 15 14
    -- 16: something follows the end, a number or not
    ∷ reads (small ++ (0x00 ∷ [])) 99 16 13
    ∷ reads (small ++ (0x80 ∷ [])) 99 16 13
    ∷ writes (small_list ++ (0 ∷ [])) 99 16 12
    -- 17: one number or one byte too few; it comes last
    ∷ reads small 11 17 0
    ∷ writes small_list 12 17 0
    ∷ reads (small ++ (0x00 ∷ [])) 0 16 13
    ∷ []

same : List ℕ → List ℕ → Bool
same [] [] = true
same [] (y ∷ ys) = false
same (x ∷ xs) [] = false
same (x ∷ xs) (y ∷ ys) = eqb x y && same xs ys

says_done : ℕ → SheetAnswer → Bool
says_done n (Ok m) = eqb m n
says_done n (Err f) = false

says_refused : ℕ → ℕ → SheetAnswer → Bool
says_refused n p (Ok m) = false
says_refused n p (Err f) = eqb (refusal_number f.why) n && eqb f.place p

-- the lent slice holds sevens: the result stands before the rest of them, or all of them stay
holds : Example → Bool
holds (is bytes list) =
    says_done (length list) (read_sheet bytes 99)
    && (same (read_sheet_after bytes (replicate 99 7)) (list ++ replicate (99 - length list) 7)
    && (says_done (length bytes) (write_sheet list 99)
    && same (write_sheet_after list (replicate 99 7)) (bytes ++ replicate (99 - length bytes) 7)))
holds (reads bytes room n p) = says_refused n p (read_sheet bytes room) && same (read_sheet_after bytes (replicate room 7)) (replicate room 7)
holds (writes list room n p) = says_refused n p (write_sheet list room) && same (write_sheet_after list (replicate room 7)) (replicate room 7)

all_hold : List Example → Bool
all_hold [] = true
all_hold (e ∷ es) = holds e && all_hold es

examples : all_hold table ≡ true
unfolding all_hold table holds same says_done says_refused level_part rows small small_list
    read_sheet read_sheet_after write_sheet write_sheet_after numbers_of
    sheet body head counted_rows counted_events event step_count number_between list_at read_number bytes_of
    is_level_in_range is_rising is_last_fifteen level_row_fits is_time limit_of is_placed is_slave_in_range are_apart is_apart lengths_before slave_row_fits
    is_width is_port all_below
examples = refl
