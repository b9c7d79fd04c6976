use Rattle.basics.specs.Scan.{any_below}
use Rattle.channel.specs.Line.{drives}
use mathlib.Core.Bool.{false}
use mathlib.Core.Path.{◌≡◌}
use Rattle.channel.proofs.line_active.Given as goal

abbrev pub invariant-loop-level : goal.invariant-loop-level
invariant-loop-level l = any_below (drives l.left l.inactive l.owner) l.level ≡ false
