use Rattle.basics.specs.Scan.{all_below}
use Rattle.sound.specs.inner.Tables.{is_marked_well}
use mathlib.Core.Path.{◌≡◌}
use Rattle.sound.proofs.are_marks_sound.Given as goal

abbrev pub invariant-loop-level : goal.invariant-loop-level
invariant-loop-level v = v.all ≡ all_below (is_marked_well v.members v.channel v.active) v.level
