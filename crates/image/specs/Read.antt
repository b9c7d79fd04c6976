-- Document 02, CR 1: what an image says, over a source of numbers. Here only its shape is judged ("18 for a malformed image, before 9"): a number that isn't
-- one, an end too early or too late, a layout or an edition that there isn't, a count, a flag, an owner, a tag or marks for which there is no room.
use Rattle.std.specs.Prelude.{ℕ, zero, suc, ◌+◌, ◌/◌, ◌%◌, Bool, cond, List, [], ◌∷◌, get_or, eqb, ltb, Result, Ok, Err, None, Option, Some}
use Rattle.basics.specs.Limits.{places, rows_most}
use Rattle.refusal.specs.Refusal.{refusal_by}
use Rattle.number.specs.declared.Fault.{Fault}
use Rattle.number.specs.Number.{NumberRead, fault}
use Rattle.numbers.specs.Numbers.{Part, Reading, ◌>>=◌, number_between, passed, numbers}
use Rattle.frame.specs.declared.Setup.{Setup}
use Rattle.frame.specs.declared.RowKind.{RowKind}
use Rattle.frame.specs.declared.RowKind.TheVariants.{Levels, Slaves}
use Rattle.frame.specs.Kind.{row_size, no_rows, with_count, put_row}
use Rattle.channel.specs.declared.Phase.{Phase}
use Rattle.channel.specs.declared.Phase.TheVariants.{Arbitrating, Granted}
use Rattle.channel.specs.declared.Channel.{Channel}
use Rattle.channel.specs.declared.Request.{Request}
use Rattle.channel.specs.Channel.{fresh_channel, with_request, changed}
use Rattle.image.specs.declared.ChannelRead.{ChannelRead}
use Rattle.image.specs.Layout.{layout_number, newest_edition}

-- what was read from a place on, and the place past it; or the first fault
abbrev pub Read : Type 0 → Type 0
Read A = Result (A × ℕ) Fault

-- a number of which the shape has room for low to high only
abbrev pub number_in : Reading → ℕ → ℕ → ℕ → NumberRead
number_in src low high at = number_between src low high (refusal_by 18) at

-- `left` rows of a kind from row i on: any numbers, as the frame is not the image's to judge
abbrev pub rows_at : RowKind → Reading → ℕ → ℕ → Setup → ℕ → Read Setup
rows_at kind src zero i setup at = Ok (setup, at)
rows_at kind src (suc left) i setup at =
    passed src (row_size kind) at >>= λ next. rows_at kind src left (i + 1) (put_row setup kind i (numbers src (row_size kind) at)) next

-- the count, which is no more than there are places, and the rows
unfoldable pub counted_at : RowKind → Reading → Setup → ℕ → Read Setup
counted_at kind src setup at = do
  count ← number_in src 0 rows_most at
  rows_at kind src count.0 0 (with_count setup kind count.0) count.1

-- the set-up with a length of the master store
abbrev pub with_master : Setup → ℕ → Setup
with_master setup length = record { levels = setup.levels; slaves = setup.slaves; master = length }

-- the rows of both kinds, and that length
unfoldable pub tables_at : Reading → ℕ → Read Setup
tables_at src at = do
  levels ← counted_at Levels src no_rows at
  both ← counted_at Slaves src levels.0 levels.1
  length ← src both.1
  Ok (with_master both.0 length.0, length.1)

-- a sheet's head, which is the edition and the rows, and the length of the master store after it
unfoldable pub head_at : Reading → ℕ → Read Setup
head_at src at = do
  edition ← number_in src newest_edition newest_edition at
  tables_at src edition.1

-- the set-up's part of an image; of a malformed one nothing was read
unfoldable pub setup_at : Reading → Read Setup
setup_at src = do
  layout ← number_in src layout_number layout_number 0
  head_at src layout.1

-- the phase by its number
abbrev pub phase_of : ℕ → Phase
phase_of zero = Arbitrating
phase_of (suc owner) = Granted owner

-- the marks by theirs: `left` places, lowest first
abbrev pub marks_of : ℕ → ℕ → List Bool
marks_of zero n = []
marks_of (suc left) n = eqb (n % 2) 1 ∷ marks_of left (n / 2)

-- one mark for each place
abbrev pub marks_most : ℕ
marks_most = 65535

-- the asked time: 0 for none, or 1 and the time
unfoldable pub time_at : Reading → ℕ → Read (Option ℕ)
time_at src at = do
  time ← src at
  Ok (Some time.0, time.1)

unfoldable pub asked_at : Reading → ℕ → Read (Option ℕ)
asked_at src at = do
  tag ← number_in src 0 1 at
  cond (eqb tag.0 0) (Ok (None, tag.1)) (time_at src tag.1)

-- whether it was ever granted, clock, owner, asked time and marks: a channel that has these and no requests
unfoldable pub marks_at : Reading → Bool → ℕ → Phase → ℕ → Read Channel
marks_at src ever clock phase at = do
  asked ← asked_at src at
  marks ← number_in src 0 marks_most asked.1
  Ok (changed fresh_channel phase asked.0 ever clock (marks_of places marks.0), marks.1)

unfoldable pub owner_at : Reading → Bool → ℕ → ℕ → Read Channel
owner_at src ever clock at = do
  owner ← number_in src 0 places at
  marks_at src ever clock (phase_of owner.0) owner.1

unfoldable pub clock_at : Reading → Bool → ℕ → Read Channel
clock_at src ever at = do
  clock ← src at
  owner_at src ever clock.0 clock.1

unfoldable pub state_at : Reading → ℕ → Read Channel
state_at src at = do
  flag ← number_in src 0 1 at
  clock_at src (eqb flag.0 1) flag.1

-- a request, by the bytes that are left of it and its other numbers
abbrev pub request_from : ℕ → List ℕ → Request
request_from left rest =
    record { direction = get_or rest 0 0; space = get_or rest 1 0; address = get_or rest 2 0; left = left; offset = get_or rest 3 0 }

-- a channel that was read, as far as that came, and the part of the image that it is
abbrev pub channel_read : Channel → Part → ChannelRead
channel_read ch part = record { channel = ch; part = part }

abbrev pub with_state : {A : Type 0} → Result A Fault → Channel → (A → ChannelRead) → ChannelRead
with_state (Ok x) ch f = f x
with_state (Err x) ch f = channel_read ch (Err x)

-- the requests of `more` places from a level on
unfoldable pub requests_at : Reading → ℕ → ℕ → Channel → ℕ → ChannelRead
requests_at src zero l ch at = channel_read ch (Ok at)
requests_at src (suc more) l ch at =
    with_state (src at) ch (λ left.
    cond
    (eqb left.0 0)
    (requests_at src more (l + 1) ch left.1)
    (with_state (passed src 4 left.1) ch (λ end.
    requests_at src more (l + 1) (with_request ch l (request_from left.0 (numbers src 4 left.1))) end)))

-- the channel's part of an image that is `len` long: nothing follows it
abbrev pub ended : ℕ → ℕ → Part
ended len at = cond (ltb at len) (Err (fault (refusal_by 18) at)) (Ok at)

abbrev pub nothing_after : ℕ → ChannelRead → ChannelRead
nothing_after len all = with_state all.part all.channel (λ end. channel_read all.channel (ended len end))

unfoldable pub channel_part_at : Reading → ℕ → ℕ → ChannelRead
channel_part_at src len at = with_state (state_at src at) fresh_channel (λ state. nothing_after len (requests_at src places 0 state.0 state.1))
