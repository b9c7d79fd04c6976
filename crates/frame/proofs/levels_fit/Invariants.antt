use Prim.Native.Nat.{◌-◌, ◌≤◌}
use Rattle.basics.specs.Limits.{rows_most}
use Rattle.basics.specs.Scan.{all_below}
use Rattle.frame.specs.Frame.{level_row_fits, level_at}
use mathlib.Core.Bool.{true}
use mathlib.Core.Path.{◌≡◌}
use Rattle.frame.proofs.levels_fit.Given as goal

abbrev pub invariant-loop-i : goal.invariant-loop-i
invariant-loop-i l =
    (l.count ≤ rows_most) × (l.before ≡ (level_at l.levels (l.i - 1)).level) × (all_below (level_row_fits l.levels) l.i ≡ true)
