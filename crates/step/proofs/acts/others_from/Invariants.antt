use mathlib.Core.Path.{◌≡◌}
use Prim.Native.Nat.{◌-◌}
use Rattle.basics.specs.Limits.{places}
use Rattle.step.specs.inner.Machine.{any_from, asks_beside, others_from}
use Rattle.step.proofs.acts.others_from.Given as goal

abbrev pub invariant-loop-level : goal.invariant-loop-level
invariant-loop-level l = any_from (asks_beside l.channel.left l.owner) l.level (places - l.level) ≡ others_from l.channel.left l.from l.owner
