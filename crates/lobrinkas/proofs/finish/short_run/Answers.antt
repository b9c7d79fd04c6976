use mathlib.Core.Path.{sym, ◌∙◌}
use native.Mathlib.Omega.{arith}
use borrow.Author.Tests.{lt-ltb, le-ltb}
use Rattle.basics.specs.Limits.{steps_most}
use Rattle.lobrinkas.specs.inner.Finish.{short_run}
use Rattle.lobrinkas.proofs.RunLaws.{none_done}
use Rattle.lobrinkas.proofs.finish.short_run.Goals as goal

pub returns-then-steps-gt-STEPS_MOST : goal.returns-then-steps-gt-STEPS_MOST
unfolding short_run
returns-then-steps-gt-STEPS_MOST c =
    let a = c.args in
    let tried = none_done a.setup a.channel a.tally a.slave.now a.master.now
    (c.run-tried.ensures.value, (c.run-tried.ensures.slave_after, c.run-tried.ensures.master_after)) in
    record {
      value = rw (sym tried.0 ∙ c.in-Ok.is, lt-ltb steps_most a.steps (omega arith));
      slave_unchanged = tried.1.0;
      master_unchanged = tried.1.1;
    }

pub returns-in-Err : goal.returns-in-Err
unfolding short_run
returns-in-Err c =
    let a = c.args in
    let tried = none_done a.setup a.channel a.tally a.slave.now a.master.now
    (c.run-tried.ensures.value, (c.run-tried.ensures.slave_after, c.run-tried.ensures.master_after)) in
    record {
      value = rw (sym tried.0 ∙ c.in-Err.is);
      slave_unchanged = tried.1.0;
      master_unchanged = tried.1.1;
    }

pub returns-else-steps-gt-STEPS_MOST : goal.returns-else-steps-gt-STEPS_MOST
unfolding short_run
returns-else-steps-gt-STEPS_MOST c =
    let a = c.args in
    let tried = none_done a.setup a.channel a.tally a.slave.now a.master.now
    (c.run-tried.ensures.value, (c.run-tried.ensures.slave_after, c.run-tried.ensures.master_after)) in
    record {
      value = rw (sym tried.0 ∙ c.in-Ok.is, le-ltb steps_most a.steps (omega arith));
      slave_unchanged = tried.1.0;
      master_unchanged = tried.1.1;
    }
