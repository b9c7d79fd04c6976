use Prim.Native.Nat.{ℕ, ◌-◌, ◌≤◌}
use Rattle.basics.specs.Limits.{rows_most, no_row}
use Rattle.basics.specs.Scan.{first_from}
use Rattle.frame.specs.Find.{level_index}
use Rattle.frame.specs.Frame.{level_at}
use lib.Dec.{eqb}
use mathlib.Core.Path.{◌≡◌}
use Rattle.frame.proofs.level_row.Given as goal

abbrev pub invariant-loop-i : goal.invariant-loop-i
invariant-loop-i l =
    (l.count ≤ rows_most)
    × (first_from (λ (k : ℕ). eqb (level_at l.levels k).level l.level) l.i (l.count - l.i) no_row ≡ level_index l.levels l.level)
