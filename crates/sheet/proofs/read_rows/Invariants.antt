use Prim.Native.Nat.{◌-◌}
use mathlib.Core.Path.{◌≡◌}
use Rattle.frame.specs.Kind.{row_size}
use Rattle.numbers.specs.Numbers.{number_at}
use Rattle.sheet.specs.Sheet.{rows_from}
use Rattle.sheet.proofs.read_rows.Given as goal

abbrev pub invariant-loop-i : goal.invariant-loop-i
invariant-loop-i l = record {
  size : l.size ≡ row_size l.kind;
  rest : rows_from l.kind (number_at l.source) (l.count - l.i) l.i l.setup l.place ≡ rows_from l.kind (number_at l.source) l.count 0 l.initial.setup l.at;
}
