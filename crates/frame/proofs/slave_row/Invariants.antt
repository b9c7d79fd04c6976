use Prim.Native.Nat.{ℕ, ◌-◌, ◌*◌, ◌≤◌}
use Rattle.basics.specs.Limits.{rows_most, no_row}
use Rattle.basics.specs.Scan.{first_from}
use Rattle.frame.specs.Find.{slave_index, row_holds}
use Rattle.frame.specs.Frame.{slave_at, lengths_before}
use mathlib.Core.Path.{◌≡◌}
use Rattle.frame.proofs.slave_row.Given as goal

abbrev pub invariant-loop-i : goal.invariant-loop-i
invariant-loop-i l =
    (l.count ≤ rows_most) × (l.start ≡ lengths_before l.slaves l.i) × (l.start ≤ l.i * 4294967295)
    × (first_from (λ (k : ℕ). row_holds (slave_at l.slaves k) l.space l.address l.n) l.i (l.count - l.i) no_row ≡ slave_index l.slaves l.space l.address l.n)
