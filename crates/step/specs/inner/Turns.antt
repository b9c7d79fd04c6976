-- How a run goes on in turns: a grant, a release or an idle step, or all cycles of one owner. None of this need be believed: the promise of `run` speaks of
-- `run_of` alone, and proofs/TurnLaws shows that a turn takes the steps of `run_from`.
use Rattle.act.specs.declared.Entry.{Entry}
use Rattle.refusal.specs.declared.Refusal.{Refusal}
use Rattle.std.specs.Prelude.{ℕ, zero, suc, ◌+◌, ◌-◌, ◌≤◌, ◌<◌, ◌≡◌, Bool, true, false, cond, ◌||◌, List, length, get_or, eqb, ltb, Err, Ok, Option, Result}
use Rattle.basics.specs.Limits.{places, system_master, clock_limit, steps_most}
use Rattle.refusal.specs.Refusal.{accepted, refusal_by}
use Rattle.frame.specs.declared.Setup.{Setup}
use Rattle.channel.specs.declared.Phase.{Phase}
use Rattle.channel.specs.declared.Phase.TheVariants.{Arbitrating, Granted}
use Rattle.channel.specs.declared.Channel.{Channel}
use Rattle.channel.specs.declared.Request.{Request}
use Rattle.channel.specs.Channel.{owner_of, owner_place, request_of, with_request}
use Rattle.channel.specs.Line.{is_inactive}
use Rattle.act.specs.declared.Route.{Route}
use Rattle.act.specs.declared.Ending.TheVariants.{Kept}
use Rattle.act.specs.Cycle.{route_of, cycle_bytes, cycle_of, ending_of, is_kept, clocked, ended_by}
use Rattle.tally.specs.declared.Tally.{Tally}
use Rattle.tally.specs.Tally.{add_cycle}
use Rattle.step.specs.declared.acts.Acted.{Acted}
use Rattle.step.specs.declared.acts.Standing.{Standing}
use Rattle.step.specs.declared.acts.Decided.{Decided}
use Rattle.step.specs.declared.acts.Chosen.{Chosen}
use Rattle.step.specs.declared.logs.Log.{Log}
use Rattle.step.specs.declared.turns.State.{State}
use Rattle.step.specs.declared.turns.Tenure.{Tenure}
use Rattle.step.specs.Step.{Roomy, Room, carry_of, moved_slave, moved_master}
use Rattle.step.specs.Run.{World, Out, world, stopped, run_from}
use Rattle.step.specs.Log.{Page, page, page_after, LoggedOut, closed, log_from}
use Rattle.step.specs.inner.Machine.{NoneAsk, NoneWait, IsChosen, no_route, channel_of, channel_by, standing_of, granted_by, decided_of, decided_marks, Actable}

-- all that a run changes: the channel, the tally, the stores, the steps done, and whether the next step would pass the clock's limit
pub record Running : Type 0 where
  pub channel : Channel
  pub tally : Tally
  pub done : ℕ
  pub full : Bool
  pub slave : List ℕ
  pub master : List ℕ

-- as the program keeps it: what stands by value, the channel's arrays, and the stores
abbrev pub running_by : Standing → Bool → ℕ → Bool → Channel → List ℕ → List ℕ → Running
running_by standing ever done full ch slave master =
    record {
      channel = channel_of standing ever ch;
      tally = standing.tally;
      done = done;
      full = full;
      slave = slave;
      master = master;
    }

abbrev pub running_of : State → Bool → Channel → List ℕ → List ℕ → Running
running_of state ever ch slave master = running_by state.standing ever state.done state.full ch slave master

-- before its first step
abbrev pub run_at : Channel → Tally → List ℕ → List ℕ → Running
run_at ch t slave master = record { channel = ch; tally = t; done = 0; full = false; slave = slave; master = master }

-- a step as it was decided
abbrev pub steps_after : Result Entry Refusal → ℕ → ℕ
steps_after (Ok entry) done = done + 1
steps_after (Err why) done = done

abbrev pub stops : Result Entry Refusal → Bool
stops (Ok entry) = false
stops (Err why) = true

abbrev pub running_after : Running → Decided → List Bool → Running
running_after w d marks =
    record {
      channel = channel_by w.channel d marks;
      tally = d.acted.standing.tally;
      done = steps_after d.acted.answer w.done;
      full = stops d.acted.answer;
      slave = moved_slave d.carry w.slave w.master;
      master = moved_master d.carry w.slave w.master;
    }

abbrev pub decided_in : Route → Channel → Tally → Decided
decided_in route ch t = decided_of route (standing_of ch t) ch.ever (request_of ch (owner_place ch.phase)) ch.left ch.inactive

abbrev pub marks_in : Route → Channel → Tally → List Bool
marks_in route ch t = decided_marks route (standing_of ch t) ch.ever (request_of ch (owner_place ch.phase)) ch.left ch.inactive

unfoldable pub step_run : Route → Running → Running
step_run route w = running_after w (decided_in route w.channel w.tally) (marks_in route w.channel w.tally)

-- one cycle more of an owner
unfoldable pub cycle_on : Route → Option ℕ → Tenure → Tenure
cycle_on route asked t =
    record {
      clock = t.clock + route.time;
      request = (cycle_of route t.request).rest;
      tally =
          add_cycle t.tally (cycle_bytes route t.request) (ending_of route asked (t.clock + route.time) (cycle_of route t.request));
      done = t.done + 1;
      ending = ending_of route asked (t.clock + route.time) (cycle_of route t.request);
      full = false;
    }

unfoldable pub filled : Tenure → Tenure
filled t = record { clock = t.clock; request = t.request; tally = t.tally; done = t.done; ending = Kept; full = true }

-- an owner's cycles, and the stores after them
pub record Held : Type 0 where
  pub tenure : Tenure
  pub slave : List ℕ
  pub master : List ℕ

abbrev pub held_of : Tenure → List ℕ → List ℕ → Held
held_of t slave master = record { tenure = t; slave = slave; master = master }

-- at most k of them: until the owner releases the channel, the next one would pass the clock's limit, or k are done
unfoldable pub held : Route → Option ℕ → ℕ → Tenure → List ℕ → List ℕ → Held
held route asked zero t slave master = held_of t slave master
held route asked (suc k) t slave master =
    cond
    (ltb clock_limit (t.clock + route.time))
    (held_of (filled t) slave master)
    (cond
    (is_kept (cycle_on route asked t).ending)
    (held route asked k (cycle_on route asked t) (moved_slave (carry_of route t.request) slave master)
    (moved_master (carry_of route t.request) slave master))
    (held_of (cycle_on route asked t) (moved_slave (carry_of route t.request) slave master)
    (moved_master (carry_of route t.request) slave master)))

-- the owner's request at the start of its cycles, and what it all comes to at their end
abbrev pub tenure_of : Running → ℕ → Tenure
tenure_of w o =
    record {
      clock = w.channel.clock;
      request = request_of w.channel o;
      tally = w.tally;
      done = w.done;
      ending = Kept;
      full = false;
    }

abbrev pub held_channel : Channel → ℕ → Tenure → Channel
held_channel ch o t = ended_by t.ending (with_request (clocked ch t.clock) o t.request) o

abbrev pub after_held : Channel → ℕ → Held → Running
after_held ch o h =
    record {
      channel = held_channel ch o h.tenure;
      tally = h.tenure.tally;
      done = h.tenure.done;
      full = h.tenure.full;
      slave = h.slave;
      master = h.master;
    }

abbrev pub cycles_run : Route → ℕ → ℕ → Running → Running
cycles_run route budget o w =
    after_held w.channel o (held route w.channel.asked (budget - w.done) (tenure_of w o) w.slave w.master)

-- one step more
abbrev pub stepped_on : Acted → ℕ → ℕ → State
stepped_on a done low = record { standing = a.standing; done = done + 1; full = false; low = low }

-- where the turns begin: as the run does, or, where the channel was never granted, after its first grant
abbrev pub start_at : Standing → ℕ → State
start_at s base = record { standing = s; done = 0; full = false; low = base }

pub record Begun (s : Standing) (ever : Bool) (base : ℕ) (before after : Channel) (r : State) : Type 0 where
  pub later : ever ≡ true → (r ≡ start_at s base) × (after ≡ before)
  pub first : ever ≡ false → (c : Chosen) × (IsChosen before after base c) × (r ≡ stepped_on (granted_by s ever c.winner c.active) 0 c.low)

-- one turn
abbrev pub turn_by : Route → ℕ → Running → Phase → Running
turn_by route budget w Arbitrating = step_run route w
turn_by route budget w (Granted o) = cond (eqb (get_or w.channel.left o 0) 0) (step_run route w) (cycles_run route budget o w)

unfoldable pub turn_of : Route → ℕ → Running → Running
turn_of route budget w = turn_by route budget w w.channel.phase

abbrev pub verdict_of : Bool → Result Unit Refusal
verdict_of full = cond full (Err (refusal_by 6)) accepted

-- what is still to come of a run
abbrev pub world_of : Running → World
world_of w = world w.channel w.tally w.slave w.master

unfoldable pub to_come : Setup → ℕ → Running → Out
to_come setup budget w =
    cond w.full (stopped (Err (refusal_by 6)) w.done (world_of w)) (run_from setup (budget - w.done) w.done (world_of w))

-- the routes of the open requests of the levels below n
abbrev pub AreRoutes : Setup → (ℕ → Request) → List Route → ℕ → Type 0
AreRoutes setup request routes n = (l : ℕ) → l < n → eqb (request l).left 0 ≡ false → get_or routes l no_route ≡ route_of setup l (request l)

-- the levels below `base` have no request, those below `low` don't wait, and the owner is none of them
pub record Lows (base low : ℕ) (ch : Channel) : Type 0 where
  pub most : base ≤ system_master
  pub small : low ≤ places
  pub none : NoneAsk ch.left base
  pub clear : NoneWait ch.left ch.inactive low
  pub owner : low ≤ owner_of ch.phase

-- what an owner's turn relies on
pub record Owned (route : Route) (w : Running) (o : ℕ) : Type 0 where
  pub small : o < places
  pub active : is_inactive w.channel.inactive o ≡ false
  pub roomy : eqb (get_or w.channel.left o 0) 0 ≡ false
      → Roomy route (request_of w.channel o) (length w.slave) (length w.master)

-- what a turn relies on
pub record Turnable (route : Route) (base low budget : ℕ) (w : Running) : Type 0 where
  pub clock : w.channel.clock ≤ clock_limit
  pub budgeted : budget ≤ steps_most
  pub more : w.done < budget
  pub going : w.full ≡ false
  pub lows : Lows base low w.channel
  pub owned : (o : ℕ) → w.channel.phase ≡ Granted o → Owned route w o

-- a logged run: the run, and the page. It was granted before, or a step was done
pub record Logging : Type 0 where
  pub running : Running
  pub page : Page

abbrev pub logging_of : Log → Bool → Channel → List ℕ → List ℕ → List ℕ → Logging
logging_of log first ch slave master out =
    record {
      running = running_by log.standing (ltb 0 log.done || first) log.done log.full ch slave master;
      page = page out log.at;
    }

-- one step of it, and its line
abbrev pub page_by : Result Entry Refusal → Page → Page
page_by (Ok entry) p = page_after p entry
page_by (Err why) p = p

unfoldable pub log_step : Route → Logging → Logging
log_step route g =
    record {
      running = step_run route g.running;
      page = page_by (decided_in route g.running.channel g.running.tally).acted.answer g.page;
    }

-- what is still to come of it
unfoldable pub log_to_come : Setup → ℕ → Logging → LoggedOut
log_to_come setup budget g =
    cond
    g.running.full
    (closed (Err (refusal_by 6)) g.running.done (world_of g.running) g.page)
    (log_from setup (budget - g.running.done) g.running.done (world_of g.running) g.page)

-- what a logged step relies on
pub record Loggable (route : Route) (w : Running) : Type 0 where
  pub acts : Actable route (standing_of w.channel w.tally) (request_of w.channel (owner_place w.channel.phase))
  pub room : Room (decided_in route w.channel w.tally).carry (length w.slave) (length w.master)
  pub place : owner_place w.channel.phase < places
  pub more : w.done < steps_most
