use Rattle.step.specs.inner.Machine.{NoneAsk}
use Rattle.step.proofs.turns.lowest.Given as goal

abbrev pub invariant-loop-level : goal.invariant-loop-level
invariant-loop-level l = NoneAsk l.channel.left l.level
