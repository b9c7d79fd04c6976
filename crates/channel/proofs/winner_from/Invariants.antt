use Prim.Native.Nat.{◌-◌}
use Rattle.basics.specs.Limits.{places, system_master}
use Rattle.basics.specs.Scan.{first_from}
use Rattle.channel.specs.Line.{waits, winner_from}
use mathlib.Core.Path.{◌≡◌}
use Rattle.channel.proofs.winner_from.Given as goal

abbrev pub invariant-loop-level : goal.invariant-loop-level
invariant-loop-level l =
    first_from (waits l.left l.inactive) l.level (places - l.level) system_master ≡ winner_from l.left l.inactive l.low
