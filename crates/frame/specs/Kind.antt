-- Document 01, "The job sheet": the rows of a set-up, of either kind, as a row of numbers has them. What is done to rows is said once, over their kind.
use Rattle.std.specs.Prelude.{ℕ, Bool, List, get_or, set, replicate}
use Rattle.basics.specs.Limits.{rows_most}
use Rattle.frame.specs.declared.LevelRow.{LevelRow}
use Rattle.frame.specs.declared.SlaveRow.{SlaveRow}
use Rattle.frame.specs.declared.LevelRows.{LevelRows}
use Rattle.frame.specs.declared.SlaveRows.{SlaveRows}
use Rattle.frame.specs.declared.Setup.{Setup}
use Rattle.frame.specs.declared.RowKind.{RowKind}
use Rattle.frame.specs.declared.RowKind.TheVariants.{Levels, Slaves}
use Rattle.frame.specs.Frame.{no_level, no_slave, level_row_fits, slave_row_fits}

-- "rows (level, W, options)", "rows (space, base, length, P, time)": how many numbers a row has
abbrev pub row_size : RowKind → ℕ
row_size Levels = 3
row_size Slaves = 5

-- a row by its numbers
abbrev pub level_from : List ℕ → LevelRow
level_from row = record { level = get_or row 0 0; width = get_or row 1 0; options = get_or row 2 0 }

abbrev pub slave_from : List ℕ → SlaveRow
slave_from row =
    record { space = get_or row 0 0; base = get_or row 1 0; length = get_or row 2 0; port = get_or row 3 0; time = get_or row 4 0 }

-- the set-up with other rows
abbrev pub with_levels : Setup → LevelRows → Setup
with_levels setup levels = record { levels = levels; slaves = setup.slaves; master = setup.master }

abbrev pub with_slaves : Setup → SlaveRows → Setup
with_slaves setup slaves = record { levels = setup.levels; slaves = slaves; master = setup.master }

-- a set-up that has none, and another count of rows
abbrev pub no_rows : Setup
no_rows =
    record {
      levels = record { rows = replicate rows_most no_level; count = 0 };
      slaves = record { rows = replicate rows_most no_slave; count = 0 };
      master = 0;
    }

abbrev pub with_count : Setup → RowKind → ℕ → Setup
with_count setup Levels count = with_levels setup (record { rows = setup.levels.rows; count = count })
with_count setup Slaves count = with_slaves setup (record { rows = setup.slaves.rows; count = count })

-- how many rows of a kind there are
abbrev pub row_count : Setup → RowKind → ℕ
row_count setup Levels = setup.levels.count
row_count setup Slaves = setup.slaves.count

-- a row's numbers put at its index
abbrev pub put_row : Setup → RowKind → ℕ → List ℕ → Setup
put_row setup Levels i row = with_levels setup (record { rows = set setup.levels.rows i (level_from row); count = setup.levels.count })
put_row setup Slaves i row = with_slaves setup (record { rows = set setup.slaves.rows i (slave_from row); count = setup.slaves.count })

-- the frame's test of the row at an index, with the rows before it
abbrev pub row_fits : Setup → RowKind → ℕ → Bool
row_fits setup Levels i = level_row_fits setup.levels i
row_fits setup Slaves i = slave_row_fits setup.slaves i
