use Prim.Native.Nat.{◌*◌, ◌≤◌}
use Rattle.basics.specs.Limits.{rows_most}
use Rattle.basics.specs.Scan.{all_below}
use Rattle.frame.specs.Frame.{slave_row_fits, lengths_before}
use mathlib.Core.Bool.{true}
use mathlib.Core.Path.{◌≡◌}
use Rattle.frame.proofs.fitting_store.Given as goal

abbrev pub invariant-loop-i : goal.invariant-loop-i
invariant-loop-i l =
    (l.count ≤ rows_most) × (l.total ≡ lengths_before l.slaves l.i) × (l.total ≤ l.i * 4294967295) × (all_below (slave_row_fits l.slaves) l.i ≡ true)
