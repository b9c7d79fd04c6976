use Rattle.step.specs.Log.{page}
use Rattle.step.specs.inner.Turns.{run_at, logging_of}
use Rattle.step.proofs.GoingLaws.{nearness}
use Rattle.step.proofs.LogLaws.{Logs}
use Rattle.step.proofs.logs.log_steps.Given as goal

abbrev pub invariant-loop-log : goal.invariant-loop-log
invariant-loop-log l =
    Logs l.fn.setup l.budget l.routes
    (record { running = run_at l.fn.channel l.fn.tally l.initial.slave l.initial.master; page = page l.initial.out l.fn.at })
    (logging_of l.log l.first l.next l.slave l.master l.out)

abbrev pub decreases-loop-log : goal.decreases-loop-log
decreases-loop-log l = nearness l.budget l.log.full l.log.done
