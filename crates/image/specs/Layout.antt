-- Document 02, CR 1: "a set-up and channel as a byte image in our seven-bit numbers": the numbers of an image, in their order. What does not change comes
-- first: the layout number, a sheet's head, the length of the master store; then the channel.
use Rattle.std.specs.Prelude.{ℕ, zero, suc, ◌+◌, ◌*◌, Bool, cond, List, [], ◌∷◌, ◌++◌, eqb, None, Option, Some}
use Rattle.basics.specs.Limits.{places}
use Rattle.numbers.specs.Numbers.{all_bytes}
use Rattle.frame.specs.declared.LevelRow.{LevelRow}
use Rattle.frame.specs.declared.SlaveRow.{SlaveRow}
use Rattle.frame.specs.declared.Setup.{Setup}
use Rattle.frame.specs.declared.RowKind.{RowKind}
use Rattle.frame.specs.declared.RowKind.TheVariants.{Levels, Slaves}
use Rattle.frame.specs.Frame.{level_at, slave_at, rows_present}
use Rattle.frame.specs.Kind.{row_count}
use Rattle.channel.specs.declared.Phase.{Phase}
use Rattle.channel.specs.declared.Phase.TheVariants.{Arbitrating, Granted}
use Rattle.channel.specs.declared.Channel.{Channel}
use Rattle.channel.specs.declared.Request.{Request}
use Rattle.channel.specs.Channel.{request_of}

-- the layout's own number: where a set-up or a channel grows, it goes up
abbrev pub layout_number : ℕ
layout_number = 2

-- the edition of the head is always the newest, whatever the sheet had that the set-up came from: one set-up has one image
abbrev pub newest_edition : ℕ
newest_edition = 1

-- "rows (level, W, options)", "rows (space, base, length, P, time)"
abbrev pub level_numbers : LevelRow → List ℕ
level_numbers row = row.level ∷ row.width ∷ row.options ∷ []

abbrev pub slave_numbers : SlaveRow → List ℕ
slave_numbers row = row.space ∷ row.base ∷ row.length ∷ row.port ∷ row.time ∷ []

abbrev pub row_numbers : Setup → RowKind → ℕ → List ℕ
row_numbers setup Levels i = level_numbers (level_at setup.levels i)
row_numbers setup Slaves i = slave_numbers (slave_at setup.slaves i)

-- `left` rows from row i on
abbrev pub rows_numbers : Setup → RowKind → ℕ → ℕ → List ℕ
rows_numbers setup kind zero i = []
rows_numbers setup kind (suc left) i = row_numbers setup kind i ++ rows_numbers setup kind left (i + 1)

-- "level count and rows ..; slave count and rows .."
abbrev pub counted_numbers : Setup → RowKind → List ℕ
counted_numbers setup kind = row_count setup kind ∷ rows_numbers setup kind (rows_present (row_count setup kind)) 0

unfoldable pub head_numbers : Setup → List ℕ
head_numbers setup = newest_edition ∷ (counted_numbers setup Levels ++ counted_numbers setup Slaves)

unfoldable pub setup_numbers : Setup → List ℕ
setup_numbers setup = layout_number ∷ (head_numbers setup ++ (setup.master ∷ []))

-- 1 for what is so, and 0 for what isn't
abbrev pub flag_number : Bool → ℕ
flag_number so = cond so 1 0

-- "The channel is arbitrating, or granted to one level.": 0, or 1 more than the owner's place
abbrev pub phase_number : Phase → ℕ
phase_number Arbitrating = 0
phase_number (Granted owner) = owner + 1

-- "while granted, perhaps an asked time": 0, or 1 and the time, which may be 0
abbrev pub asked_numbers : Option ℕ → List ℕ
asked_numbers None = 0 ∷ []
asked_numbers (Some time) = 1 ∷ time ∷ []

-- "an inactive mark per level": the sum of 2 to the power of each marked place
abbrev pub marks_number : List Bool → ℕ
marks_number [] = 0
marks_number (marked ∷ rest) = flag_number marked + 2 * marks_number rest

-- a place: what is left of its request and, unless that is 0, the request's other numbers
abbrev pub request_numbers : Request → List ℕ
request_numbers q =
    cond (eqb q.left 0) (0 ∷ []) (q.left ∷ q.direction ∷ q.space ∷ q.address ∷ q.offset ∷ [])

-- `left` places from a level on
unfoldable pub requests_numbers : Channel → ℕ → ℕ → List ℕ
requests_numbers ch zero l = []
requests_numbers ch (suc left) l = request_numbers (request_of ch l) ++ requests_numbers ch left (l + 1)

-- document 02, CR 2: "The channel and its image keep whether it has ever been granted": that first, and then the rest
unfoldable pub channel_numbers : Channel → List ℕ
channel_numbers ch =
    flag_number ch.ever ∷ ch.clock ∷ phase_number ch.phase
    ∷ (asked_numbers ch.asked ++ (marks_number ch.inactive ∷ requests_numbers ch places 0))

-- the image
unfoldable pub image_bytes : Setup → Channel → List ℕ
image_bytes setup ch = all_bytes (setup_numbers setup ++ channel_numbers ch)

-- the longest that there is of a set-up that keeps the frame and a channel that is sound (law `image_most_lem`; LongestExample in proofs has one that is as long)
abbrev pub image_most : ℕ
image_most = 410
