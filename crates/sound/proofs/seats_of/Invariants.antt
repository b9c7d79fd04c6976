use Rattle.basics.specs.Limits.{rows_most}
use Rattle.basics.specs.Scan.{all_below}
use Rattle.frame.specs.Frame.{level_row_fits, levels_fit}
use Rattle.sound.proofs.TableLaws.{AreMembersFrom}
use Rattle.std.proofs.Common.{◌≤◌}
use mathlib.Core.Path.{◌≡◌}
use Rattle.sound.proofs.seats_of.Given as goal

-- the rows from row i on keep the frame, and the tables tell of them
abbrev pub invariant-loop-i : goal.invariant-loop-i
invariant-loop-i l = record {
  most : l.levels.count ≤ rows_most;
  tested : levels_fit l.levels ≡ all_below (level_row_fits l.levels) l.i;
  members : AreMembersFrom l.levels l.i l.members;
}
