-- Any order of calls: posts with any numbers; steps and runs, logged or not, by value or with a lent tally, of any budget and with any figures in the tally,
-- over the history's stores; and the same over stores of other lengths. What each comes to are posts and steps.
use Rattle.std.specs.Prelude.{ℕ, ◌≡◌, false, ◌&&◌, List, [], ◌∷◌, ◌++◌, length, replicate, eqb}
use Rattle.frame.specs.declared.Setup.{Setup}
use Rattle.frame.specs.Find.{slave_store_length}
use Rattle.channel.specs.declared.Channel.{Channel}
use Rattle.frame.specs.declared.Order.{Order}
use Rattle.tally.specs.declared.Tally.{Tally}
use Rattle.step.specs.Step.{step_of, slave_after, master_after}
use Rattle.step.specs.Run.{World, Out, world, run_of}
use Rattle.step.specs.Log.{Page, LoggedOut, log_run_of}
use Rattle.demands.specs.History.{Moment, Act, posts, steps, next}

-- "8: step, run: a lent store's length differs from the set-up"
abbrev pub Differ : Setup → List ℕ → List ℕ → Type 0
Differ setup slave master = (eqb (length slave) (slave_store_length setup.slaves) && eqb (length master) setup.master) ≡ false

-- what the host may call; a step and a run, logged or not, over the history's stores or over others, of which a length differs
pub data Call (setup : Setup) : Type 0 where
  post : Order → Call setup
  step : Tally → Call setup
  run : Tally → ℕ → Call setup
  log : Tally → ℕ → Page → Call setup
  stray_step : Tally → (slave master : List ℕ) → Differ setup slave master → Call setup
  stray_run : Tally → ℕ → (slave master : List ℕ) → Differ setup slave master → Call setup
  stray_log : Tally → ℕ → Page → (slave master : List ℕ) → Differ setup slave master → Call setup

-- the moment that a run gives back, and a logged one
abbrev pub ran_to : Out → Moment
ran_to o = record { channel = o.result.channel; slave = o.slave; master = o.master }

abbrev pub logged_to : LoggedOut → Moment
logged_to o = record { channel = o.result.ran.channel; slave = o.slave; master = o.master }

abbrev pub world_at : Moment → Tally → World
world_at m t = world m.channel t m.slave m.master

-- another channel, and the history's stores
abbrev pub with_channel : Moment → Channel → Moment
with_channel m ch = record { channel = ch; slave = m.slave; master = m.master }

-- the moment after a call: what its promise says
abbrev pub called : (setup : Setup) → Moment → Call setup → Moment
called setup m (post p) = next setup m (posts p)
called setup m (step t) =
    record {
      channel = (step_of setup m.channel t m.slave m.master).channel;
      slave = slave_after setup m.channel m.slave m.master;
      master = master_after setup m.channel m.slave m.master;
    }
called setup m (run t budget) = ran_to (run_of setup budget (world_at m t))
called setup m (log t budget page) = logged_to (log_run_of setup budget (world_at m t) page)
called setup m (stray_step t slave master d) = with_channel m (step_of setup m.channel t slave master).channel
called setup m (stray_run t budget slave master d) = with_channel m (run_of setup budget (world m.channel t slave master)).result.channel
called setup m (stray_log t budget page slave master d) =
    with_channel m (log_run_of setup budget (world m.channel t slave master) page).result.ran.channel

-- the posts and steps that it comes to: a run is the steps that it reports
abbrev pub acts_of : (setup : Setup) → Moment → Call setup → List Act
acts_of setup m (post p) = posts p ∷ []
acts_of setup m (step t) = steps ∷ []
acts_of setup m (run t budget) = replicate (run_of setup budget (world_at m t)).result.steps steps
acts_of setup m (log t budget page) = replicate (log_run_of setup budget (world_at m t) page).result.ran.steps steps
acts_of setup m (stray_step t slave master d) = []
acts_of setup m (stray_run t budget slave master d) = []
acts_of setup m (stray_log t budget page slave master d) = []

-- over any calls
abbrev pub called_all : (setup : Setup) → Moment → List (Call setup) → Moment
called_all setup m [] = m
called_all setup m (c ∷ calls) = called_all setup (called setup m c) calls

abbrev pub acts_over : (setup : Setup) → Moment → List (Call setup) → List Act
acts_over setup m [] = []
acts_over setup m (c ∷ calls) = acts_of setup m c ++ acts_over setup (called setup m c) calls
