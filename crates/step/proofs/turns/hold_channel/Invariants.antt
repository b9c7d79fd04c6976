use mathlib.Core.Path.{◌≡◌}
use Prim.Native.Nat.{◌-◌, ◌≤◌}
use lib.ListN.{length}
use Rattle.basics.specs.Limits.{clock_limit}
use Rattle.step.specs.Step.{Roomy}
use Rattle.step.specs.inner.Turns.{held}
use Rattle.step.proofs.turns.hold_channel.Given as goal

abbrev pub invariant-loop-tenure : goal.invariant-loop-tenure
invariant-loop-tenure l =
    Roomy l.route l.tenure.request (length l.slave) (length l.master)
    × (l.tenure.clock ≤ clock_limit)
    × (held l.route l.asked (l.budget - l.tenure.done) l.tenure l.slave l.master ≡ held l.route l.asked (l.budget - l.initial.tenure.done) l.initial.tenure l.initial.slave l.initial.master)
    × (length l.slave ≡ length l.initial.slave)
    × (length l.master ≡ length l.initial.master)

abbrev pub decreases-loop-tenure : goal.decreases-loop-tenure
decreases-loop-tenure l = l.budget - l.tenure.done
