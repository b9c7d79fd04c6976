use Prim.Native.Nat.{◌+◌, ◌-◌, ◌*◌, ◌≤◌}
use mathlib.Core.Path.{◌≡◌}
use lib.ListN.{length}
use lib.Seq.{sets}
use Rattle.image.specs.Layout.{rows_numbers}
use Rattle.image.proofs.lists.list_rows.Given as goal

abbrev pub invariant-loop-i : goal.invariant-loop-i
invariant-loop-i l = record {
  most : l.place ≤ l.at + 5 * l.i;
  size : l.place + length (rows_numbers l.setup l.kind (l.count - l.i) l.i) ≡ l.at + length (rows_numbers l.setup l.kind l.count 0);
  rest : sets l.values l.place (rows_numbers l.setup l.kind (l.count - l.i) l.i) ≡ sets l.initial.values l.at (rows_numbers l.setup l.kind l.count 0);
}
