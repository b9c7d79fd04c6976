use Rattle.basics.specs.Scan.{all_below}
use Rattle.sound.specs.inner.Tables.{open_sound}
use mathlib.Core.Bool.{true}
use mathlib.Core.Path.{◌≡◌}
use Rattle.sound.proofs.are_open_sound.Given as goal

abbrev pub invariant-loop-level : goal.invariant-loop-level
invariant-loop-level v = all_below (open_sound v.setup v.members v.channel) v.level ≡ true
