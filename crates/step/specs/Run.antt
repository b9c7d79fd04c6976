-- Document 01, "One step": "A run takes 0 to 65,535 steps, stops before a refused one and reports the steps done."
use Rattle.act.specs.declared.Entry.{Entry}
use Rattle.refusal.specs.declared.Refusal.{Refusal}
use Rattle.std.specs.Prelude.{ℕ, zero, suc, cond, List, length, ltb, Err, Ok, Result}
use Rattle.basics.specs.Limits.{steps_most}
use Rattle.refusal.specs.Refusal.{accepted, refusal_by}
use Rattle.frame.specs.declared.Setup.{Setup}
use Rattle.channel.specs.declared.Channel.{Channel}
use Rattle.tally.specs.declared.Tally.{Tally}
use Rattle.step.specs.declared.Stepped.{Stepped}
use Rattle.step.specs.declared.Ran.{Ran}
use Rattle.step.specs.Plan.{ready_verdict}
use Rattle.step.specs.Step.{step_of, slave_after, master_after}

-- the channel, the tally and the two stores
pub record World : Type 0 where
  pub channel : Channel
  pub tally : Tally
  pub slave : List ℕ
  pub master : List ℕ

abbrev pub world : Channel → Tally → List ℕ → List ℕ → World
world ch t slave master = record { channel = ch; tally = t; slave = slave; master = master }

-- what a run gives back, and the stores then
pub record Out : Type 0 where
  pub result : Ran
  pub slave : List ℕ
  pub master : List ℕ

-- the same where it stops: with this verdict, after this many steps
abbrev pub stopped : Result Unit Refusal → ℕ → World → Out
stopped verdict steps w =
    record {
      result = record { channel = w.channel; tally = w.tally; steps = steps; verdict = verdict };
      slave = w.slave;
      master = w.master;
    }

abbrev pub step_in : Setup → World → Stepped
step_in setup w = step_of setup w.channel w.tally w.slave w.master

-- the world after one step
unfoldable pub world_after : Setup → World → World
world_after setup w =
    record {
      channel = (step_in setup w).channel;
      tally = (step_in setup w).tally;
      slave = slave_after setup w.channel w.slave w.master;
      master = master_after setup w.channel w.slave w.master;
    }

-- "stops before a refused one"
abbrev pub go_on : Result Entry Refusal → Out → (Result Unit Refusal → Out) → Out
go_on (Ok entry) on stop = on
go_on (Err why) on stop = stop (Err why)

-- the steps that are left, after `done` of them
unfoldable pub run_from : Setup → ℕ → ℕ → World → Out
run_from setup zero done w = stopped accepted done w
run_from setup (suc left) done w =
    go_on (step_in setup w).answer (run_from setup left (suc done) (world_after setup w)) (λ (verdict : Result Unit Refusal). stopped verdict done w)

-- "Order: 9 first, then 8, then 7"; "7: run: more than 65,535 steps"; "A run that meets 6 isn't itself refused: it gives the channel after the steps done,
-- their number, and 6."
abbrev pub run_by : Setup → Result Unit Refusal → ℕ → World → Out
run_by setup (Err why) budget w = stopped (Err why) 0 w
run_by setup (Ok _) budget w = cond (ltb steps_most budget) (stopped (Err (refusal_by 7)) 0 w) (run_from setup budget 0 w)

unfoldable pub run_of : Setup → ℕ → World → Out
run_of setup budget w = run_by setup (ready_verdict setup w.channel (length w.slave) (length w.master)) budget w
