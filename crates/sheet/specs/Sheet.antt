-- Document 01, "The job sheet": one grammar over a source of numbers. The source is the bytes of a sheet or a list of
-- numbers, so reader and writer judge by the same definitions.
use Rattle.std.specs.Prelude.{ℕ, zero, suc, ◌+◌, cond, List, [], ◌∷◌, length, eqb, leb, ltb, Ok, Err, Result}
use Rattle.std.proofs.lemmas.List.Edits.{sets}
use Rattle.refusal.specs.declared.Refusal.{Refusal}
use Rattle.refusal.specs.Refusal.{refusal_number, refusal_by}
use Rattle.basics.specs.Limits.{rows_most, steps_most, events_most}
use Rattle.number.specs.declared.Fault.{Fault}
use Rattle.number.specs.Number.{NumberRead, Number, fault, read_number}
use Rattle.numbers.specs.Numbers.{Part, Reading, list_at, with_number, ◌>>=◌, number_between, passed, numbers, numbers_of, all_bytes}
use Rattle.frame.specs.declared.Setup.{Setup}
use Rattle.frame.specs.declared.RowKind.{RowKind}
use Rattle.frame.specs.declared.RowKind.TheVariants.{Levels, Slaves}
use Rattle.frame.specs.Kind.{row_size, no_rows, with_count, put_row, row_fits}
use Rattle.sheet.specs.declared.RowsRead.{RowsRead}

-- what reader and writer answer: the length of the result; or the refusal, with its place
abbrev pub SheetAnswer : Type 0
SheetAnswer = Result ℕ Fault

-- rows that were read: the set-up with them, as far as that came, and the part of the sheet that they are
abbrev pub rows_read : Setup → Part → RowsRead
rows_read setup part = record { setup = setup; part = part }

-- go on from a good part, or from a count
abbrev pub then_rows : Part → Setup → (ℕ → RowsRead) → RowsRead
then_rows (Ok at) setup f = f at
then_rows (Err x) setup f = rows_read setup (Err x)

abbrev pub with_rows : NumberRead → Setup → (ℕ → ℕ → RowsRead) → RowsRead
with_rows (Number n next) setup f = f n next
with_rows (Err x) setup f = rows_read setup (Err x)

-- "13: level count or row against the frame. 14: slave count or row against the frame."
abbrev pub bad_rows : RowKind → Refusal
bad_rows Levels = refusal_by 13
bad_rows Slaves = refusal_by 14

-- `left` rows of a kind from row i on, the rows before it being in the set-up. "a row [is judged] when all its numbers are read,
-- against the frame and the rows before it; its 13 or 14 is placed at its first number"
abbrev pub rows_from : RowKind → Reading → ℕ → ℕ → Setup → ℕ → RowsRead
rows_from kind src zero i setup at = rows_read setup (Ok at)
rows_from kind src (suc left) i setup at =
    then_rows (passed src (row_size kind) at) setup (λ next.
    let more = put_row setup kind i (numbers src (row_size kind) at) in
    cond (row_fits more kind i) (rows_from kind src left (i + 1) more next) (rows_read more (Err (fault (bad_rows kind) at))))

-- "A set-up has 1 to 16 level rows, 1 to 16 slave rows": the count and the rows
unfoldable pub counted_rows : RowKind → Reading → Setup → ℕ → RowsRead
counted_rows kind src setup at =
    with_rows (number_between src 1 rows_most (bad_rows kind) at) setup (λ n next. rows_from kind src n 0 (with_count setup kind n) next)

-- "level count and rows ..; slave count and rows .."
unfoldable pub head : Reading → ℕ → RowsRead
head src at =
    let levels = counted_rows Levels src no_rows at in
    then_rows levels.part levels.setup (λ second. counted_rows Slaves src levels.setup second)

-- those of a sheet that is given as a list: after the edition, which is one number
unfoldable pub head_of : List ℕ → RowsRead
head_of list = head (list_at list) 1

-- "An event is 0 and a step count 1 to 65,535, or 1, level, direction, space, address, length, offset. Post fields may hold
-- any number"; "15: event count, kind or step count out of range"
unfoldable pub step_count : Reading → ℕ → Part
step_count src at = with_number (number_between src 1 steps_most (refusal_by 15) at) (λ steps next. Ok next)

unfoldable pub event : Reading → ℕ → Part
event src at =
    with_number (number_between src 0 1 (refusal_by 15) at) (λ kind next. cond (eqb kind 0) (step_count src next) (passed src 6 next))

abbrev pub events : Reading → ℕ → ℕ → Part
events src zero at = Ok at
events src (suc n) at = event src at >>= events src n

-- "event count, 0 to 1,024, and events"
unfoldable pub counted_events : Reading → ℕ → Part
counted_events src at = with_number (number_between src 0 events_most (refusal_by 15) at) (λ n next. events src n next)

-- "16: something follows the end"
abbrev pub sheet_end : ℕ → ℕ → Part
sheet_end len at = cond (ltb at len) (Err (fault (refusal_by 16) at)) (Ok at)

-- "Sheet: edition 1; level count and rows ..; slave count and rows ..; event count .. and events." "12: edition not 1."
unfoldable pub body : Reading → ℕ → ℕ → Part
body src len at = do
  third ← (head src at).part
  end ← counted_events src third
  sheet_end len end

unfoldable pub sheet : Reading → ℕ → Part
sheet src len = with_number (number_between src 1 1 (refusal_by 12) 0) (λ edition first. body src len first)

-- an answer in the paper's numbers: 0 and the result's length, or "S, number, place"
abbrev pub sheet_numbers : SheetAnswer → List ℕ
sheet_numbers (Ok n) = 0 ∷ n ∷ []
sheet_numbers (Err f) = refusal_number f.why ∷ f.place ∷ []

-- "17: place 0, the lent result is too short"; "17 comes last"
abbrev pub answered : Part → ℕ → ℕ → SheetAnswer
answered (Ok end) need room = cond (leb need room) (Ok need) (Err (fault (refusal_by 17) 0))
answered (Err f) need room = Err f

-- "A refusal writes nothing; success writes only the result's length."
abbrev pub stored : SheetAnswer → List ℕ → List ℕ → List ℕ
stored (Ok n) result out = sets out 0 result
stored (Err f) result out = out

-- the reader: bytes of a sheet to its list of numbers
unfoldable pub read_sheet : List ℕ → ℕ → SheetAnswer
read_sheet bytes room = answered (sheet (read_number bytes) (length bytes)) (length (numbers_of bytes)) room

unfoldable pub read_sheet_after : List ℕ → List ℕ → List ℕ
read_sheet_after bytes out = stored (read_sheet bytes (length out)) (numbers_of bytes) out

-- the writer: a list of numbers to the bytes of a sheet
unfoldable pub write_sheet : List ℕ → ℕ → SheetAnswer
write_sheet list room = answered (sheet (list_at list) (length list)) (length (all_bytes list)) room

unfoldable pub write_sheet_after : List ℕ → List ℕ → List ℕ
write_sheet_after list out = stored (write_sheet list (length out)) (all_bytes list) out
