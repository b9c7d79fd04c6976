use mathlib.Core.Path.{◌≡◌}
use Prim.Native.Nat.{◌-◌}
use Rattle.basics.specs.Limits.{places}
use Rattle.channel.specs.Line.{waits}
use Rattle.step.specs.inner.Machine.{any_from, waits_from}
use Rattle.step.proofs.acts.waits_from.Given as goal

abbrev pub invariant-loop-level : goal.invariant-loop-level
invariant-loop-level l = any_from (waits l.channel.left l.channel.inactive) l.level (places - l.level) ≡ waits_from l.channel.left l.channel.inactive l.from
