-- The rows of a set-up that a channel speaks of: a level's, with its options, and that of a range.
use Rattle.std.specs.Prelude.{ℕ, ◌/◌, ◌%◌, Bool, true, false, eqb, None, Option, Some}
use Rattle.frame.specs.declared.LevelRow.{LevelRow}
use Rattle.frame.specs.declared.SlaveRow.{SlaveRow}
use Rattle.frame.specs.declared.LevelRows.{LevelRows}
use Rattle.frame.specs.Frame.{no_level, no_slave}
use Rattle.frame.specs.Find.{level_row}

-- "options ..: 1 burst, 2 fair, 4 linger, added"
abbrev pub has_burst : ℕ → Bool
has_burst options = eqb (options % 2) 1

abbrev pub is_fair : ℕ → Bool
is_fair options = eqb (options / 2 % 2) 1

abbrev pub has_linger : ℕ → Bool
has_linger options = eqb (options / 4 % 2) 1

abbrev pub is_level : Option LevelRow → Bool
is_level None = false
is_level (Some row) = true

abbrev pub level_or : Option LevelRow → LevelRow
level_or None = no_level
level_or (Some row) = row

-- the level is in the set-up
unfoldable pub is_present : LevelRows → ℕ → Bool
is_present levels l = is_level (level_row levels l)

-- its row; of an absent level a row of zeros, which no rule looks at
unfoldable pub level_of : LevelRows → ℕ → LevelRow
level_of levels l = level_or (level_row levels l)

abbrev pub is_slave : Option (SlaveRow × ℕ) → Bool
is_slave None = false
is_slave (Some (row, start)) = true

abbrev pub slave_or : Option (SlaveRow × ℕ) → SlaveRow
slave_or None = no_slave
slave_or (Some (row, start)) = row

abbrev pub start_or : Option (SlaveRow × ℕ) → ℕ
start_or None = 0
start_or (Some (row, start)) = start
