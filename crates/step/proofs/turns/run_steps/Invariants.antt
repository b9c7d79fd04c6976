use mathlib.Core.Bool.{true}
use Rattle.step.specs.inner.Machine.{channel_of}
use Rattle.step.specs.inner.Turns.{run_at, running_of, Lows}
use Rattle.step.proofs.GoingLaws.{Runs, nearness}
use Rattle.step.proofs.turns.run_steps.Given as goal

abbrev pub invariant-loop-state : goal.invariant-loop-state
invariant-loop-state l =
    Lows l.base l.state.low (channel_of l.state.standing true l.next)
    × Runs l.fn.setup l.budget l.routes (run_at l.fn.channel l.fn.tally l.initial.slave l.initial.master)
    (running_of l.state true l.next l.slave l.master)

abbrev pub decreases-loop-state : goal.decreases-loop-state
decreases-loop-state l = nearness l.budget l.state.full l.state.done
