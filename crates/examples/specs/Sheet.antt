-- Document 01, "One sheet, whole": the sheet, what it holds, and its log.
use Rattle.std.specs.Prelude.{ℕ, ◌-◌, List, [], ◌∷◌, replicate}
use Prim.Native.String.{String}
use Rattle.basics.specs.Limits.{rows_most}
use Rattle.frame.specs.declared.LevelRow.{LevelRow}
use Rattle.frame.specs.declared.SlaveRow.{SlaveRow}
use Rattle.frame.specs.declared.Setup.{Setup}
use Rattle.frame.specs.Frame.{no_level, no_slave}
use Rattle.frame.specs.declared.Order.{Order}
use Rattle.sheetlist.specs.declared.Event.{Event}
use Rattle.sheetlist.specs.declared.Event.TheVariants.{Steps, Post}

-- "Input, in hex"
abbrev pub input : List ℕ
input =
    0x01 ∷ 0x03 ∷ 0x03 ∷ 0x04 ∷ 0x03 ∷ 0x07 ∷ 0x02 ∷ 0x02 ∷ 0x0f ∷ 0x04
    ∷ 0x00 ∷ 0x01 ∷ 0x01 ∷ 0x80 ∷ 0x20 ∷ 0x10 ∷ 0x02 ∷ 0xc8 ∷ 0x01 ∷ 0x04
    ∷ 0x01 ∷ 0x03 ∷ 0x01 ∷ 0x01 ∷ 0x81 ∷ 0x20 ∷ 0x07 ∷ 0x00 ∷ 0x00 ∷ 0x02
    ∷ 0x01 ∷ 0x07 ∷ 0x00 ∷ 0x01 ∷ 0x80 ∷ 0x20 ∷ 0x02 ∷ 0x10 ∷ 0x00 ∷ 0x07 ∷ []

-- its numbers
abbrev pub list : List ℕ
list =
    1 ∷ 3 ∷ 3 ∷ 4 ∷ 3 ∷ 7 ∷ 2 ∷ 2 ∷ 15 ∷ 4 ∷ 0 ∷ 1 ∷ 1 ∷ 4096 ∷ 16 ∷ 2 ∷ 200 ∷ 4
    ∷ 1 ∷ 3 ∷ 1 ∷ 1 ∷ 4097 ∷ 7 ∷ 0 ∷ 0 ∷ 2 ∷ 1 ∷ 7 ∷ 0 ∷ 1 ∷ 4096 ∷ 2 ∷ 16 ∷ 0 ∷ 7 ∷ []

abbrev pub level_row_by : ℕ → ℕ → ℕ → LevelRow
level_row_by l w o = record { level = l; width = w; options = o }

abbrev pub slave_row_by : ℕ → ℕ → ℕ → ℕ → ℕ → SlaveRow
slave_row_by s b l p t = record { space = s; base = b; length = l; port = p; time = t }

-- its set-up: levels 3 (burst, fair), 7 (fair) and 15, and a slave of 16 bytes with a port of 2
abbrev pub setup : Setup
setup =
    record {
      levels =
          record {
            rows = level_row_by 3 4 3 ∷ level_row_by 7 2 2 ∷ level_row_by 15 4 0 ∷ replicate (rows_most - 3) no_level;
            count = 3;
          };
      slaves = record { rows = slave_row_by 1 4096 16 2 200 ∷ replicate (rows_most - 1) no_slave; count = 1 };
      master = 4096;
    }

abbrev pub order_by : ℕ → ℕ → ℕ → ℕ → ℕ → ℕ → Order
order_by l d s a n o = record { level = l; direction = d; space = s; address = a; length = n; offset = o }

abbrev pub first : Order
first = order_by 3 1 1 4097 7 0

abbrev pub second : Order
second = order_by 7 0 1 4096 2 16

-- its events
abbrev pub sheet_events : List Event
sheet_events = Post first ∷ Steps 2 ∷ Post second ∷ Steps 7 ∷ []

-- "Output", with the clocks of document 02, CR 2: "The whole sheet's grants now fall at 100, 630, 960 and 1490, and it ends at 1490."
abbrev pub output : List String
output =
    "P 0 3 0"
    ∷ "G 100 3"
    ∷ "C 300 3 4097 1 1 1 1 0"
    ∷ "P 300 7 0"
    ∷ "C 500 3 4098 2 1 2 0 2"
    ∷ "G 630 7"
    ∷ "C 830 7 4096 2 0 0 0 2"
    ∷ "G 960 3"
    ∷ "C 1160 3 4100 2 1 0 0 0"
    ∷ "C 1360 3 4102 2 1 2 0 1"
    ∷ "G 1490 15"
    ∷ "E 1490 9"
    ∷ []
