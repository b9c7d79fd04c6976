use Prim.Native.Nat.{◌-◌}
use mathlib.Core.Path.{◌≡◌}
use Rattle.number.specs.Number.{read_number}
use Rattle.frame.specs.declared.RowKind.TheVariants.{Levels}
use Rattle.frame.specs.Kind.{no_rows, with_levels, with_count}
use Rattle.image.specs.Read.{rows_at}
use Rattle.image.proofs.tables.read_levels.Given as goal

abbrev pub invariant-loop-i : goal.invariant-loop-i
invariant-loop-i l =
    rows_at Levels (read_number l.bytes) (l.count - l.i) l.i (with_levels no_rows l.levels) l.place
    ≡ rows_at Levels (read_number l.bytes) l.count 0 (with_count no_rows Levels l.count) l.at
