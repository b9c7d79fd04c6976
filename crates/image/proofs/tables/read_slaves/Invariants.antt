use Prim.Native.Nat.{◌-◌}
use mathlib.Core.Path.{◌≡◌}
use Rattle.number.specs.Number.{read_number}
use Rattle.frame.specs.declared.LevelRows.{LevelRows}
use Rattle.frame.specs.declared.RowKind.TheVariants.{Slaves}
use Rattle.frame.specs.Kind.{no_rows, with_levels, with_slaves, with_count}
use Rattle.image.specs.Read.{rows_at}
use Rattle.image.proofs.tables.read_slaves.Given as goal

abbrev pub invariant-loop-i : goal.invariant-loop-i
invariant-loop-i l =
    (levels : LevelRows)
    → rows_at Slaves (read_number l.bytes) (l.count - l.i) l.i (with_slaves (with_levels no_rows levels) l.slaves) l.place
    ≡ rows_at Slaves (read_number l.bytes) l.count 0 (with_count (with_levels no_rows levels) Slaves l.count) l.at
