-- A step as the program takes it is a step of the run.
use Prim.Native.Nat.{ℕ, ◌+◌, ◌-◌, ◌≤◌, ◌<◌}
use mathlib.Core.Path.{◌≡◌, refl, sym, ap, subst, ◌∙◌}
use mathlib.Core.Bool.{true, false, not, false≢true}
use mathlib.Core.Logic.{◌⊎◌, inl, inr, ⊎_elim}
use mathlib.Core.List.{List}
use native.Mathlib.Omega.{arith}
use borrow.Author.Tests.{eqb-true, eqb-false, not-true}
use lib.ListN.{length, get_or}
use lib.Dec.{eqb}
use Rattle.std.specs.Prelude.{Err, Ok, Result}
use Rattle.basics.proofs.Tests.{by_test}
use Rattle.refusal.specs.Refusal.{refusal_by}
use Rattle.refusal.specs.declared.Refusal.{Refusal}
use Rattle.frame.specs.declared.Setup.{Setup}
use Rattle.channel.specs.declared.Phase.TheVariants.{Granted}
use Rattle.channel.specs.declared.Channel.{Channel}
use Rattle.channel.specs.declared.Request.{Request}
use Rattle.channel.specs.Channel.{has_request, request_of, Shaped}
use Rattle.channel.specs.Line.{clear_marks, set_asked, line_rule}
use Rattle.sound.specs.Sound.{is_sound}
use Rattle.sound.proofs.SoundFacts.{sound_is, sound_by}
use Rattle.act.specs.declared.Route.{Route}
use Rattle.act.specs.declared.Entry.{Entry}
use Rattle.act.specs.Cycle.{route_of, ending_at, freed, cycle_turn}
use Rattle.act.specs.Turn.{granted, grant_turn, leave_turn}
use Rattle.act.proofs.EndingLaws.{ended_request}
use Rattle.tally.specs.declared.Tally.{Tally}
use Rattle.step.specs.declared.Stepped.{Stepped}
use Rattle.step.specs.declared.Plan.{Plan}
use Rattle.step.specs.declared.Plan.TheVariants as plan
use Rattle.step.specs.Plan.{act_plan, plan_of}
use Rattle.step.specs.Step.{Ready, Room, advanced_by, tally_by, step_of, slave_by, master_by, slave_after, master_after}
use Rattle.step.specs.Run.{world, stopped, step_in, world_after, run_from}
use Rattle.step.specs.inner.Turns.{Running, world_of, to_come, steps_after, stops, decided_in, step_run}
use Rattle.step.proofs.PlanLaws.{says, plan_ready, planned_roomy, moved_lengths}
use Rattle.step.proofs.KeepLaws.{step_sound, step_shaped, route_at, next_cycle, rest_at, moved_at, here, other, same_route}
use Rattle.step.proofs.CarryLaws.{carried, act_room}
use Rattle.step.proofs.MachineLaws.{made}
use Rattle.step.proofs.RunLaws.{run_more, run_stop}

-- what is open goes the way that it went
abbrev pub SameWays : Setup → Channel → Channel → Type 0
SameWays setup ch later =
    (l : ℕ) → has_request later.left l ≡ true
    → (has_request ch.left l ≡ true) × (route_of setup l (request_of later l) ≡ route_of setup l (request_of ch l))

-- one step between them, and what it answers
pub record OneStep (setup : Setup) (w later : Running) (answer : Result Entry Refusal) : Type 0 where
  -- it is the step of the definitions
  pub told : (step_in setup (world_of w)).answer ≡ answer
  pub next : world_after setup (world_of w) ≡ world_of later
  pub done : later.done ≡ steps_after answer w.done
  pub full : later.full ≡ stops answer
  -- nothing but the clock refuses it, and then all is as it was
  pub stopped : (why : Refusal) → answer ≡ Err why → (why ≡ refusal_by 6) × (world_of later ≡ world_of w)
  pub ready : Ready setup later.channel (length later.slave) (length later.master)
  pub shaped : Shaped later.channel
  pub slave : length later.slave ≡ length w.slave
  pub master : length later.master ≡ length w.master
  pub ways : SameWays setup w.channel later.channel

-- some steps of a run lie between
pub record Turned (setup : Setup) (budget : ℕ) (w later : Running) : Type 0 where
  pub same : to_come setup budget later ≡ to_come setup budget w
  pub ready : Ready setup later.channel (length later.slave) (length later.master)
  pub shaped : Shaped later.channel
  pub least : later.done ≤ budget
  pub grows : w.done ≤ later.done
  pub more : w.done < budget → (later.full ≡ true) ⊎ (w.done < later.done)
  pub slave : length later.slave ≡ length w.slave
  pub master : length later.master ≡ length w.master
  pub ways : SameWays setup w.channel later.channel

pub turned_on : (setup : Setup) (budget : ℕ) (w v u : Running) → v.full ≡ false → Turned setup budget w v → Turned setup budget v u
    → Turned setup budget w u
turned_on setup budget w v u f a b =
    record {
      same = b.same ∙ a.same;
      ready = b.ready;
      shaped = b.shaped;
      least = b.least;
      grows = omega (arith, a.grows, b.grows);
      more = λ h. ⊎_elim (λ t. absurd (false≢true (sym f ∙ t))) (λ l. inr (omega (arith, l, b.grows))) (a.more h);
      slave = b.slave ∙ a.slave;
      master = b.master ∙ a.master;
      ways = λ l o. let p = b.ways l o in let q = a.ways l p.0 in (q.0, p.1 ∙ q.1);
    }

-- one step is some
pub turned_once : (setup : Setup) (budget : ℕ) (w later : Running) (answer : Result Entry Refusal) → w.full ≡ false → w.done < budget
    → OneStep setup w later answer → Turned setup budget w later
unfolding to_come
turned_once setup budget w later (Ok e) f h s =
    record {
      same =
          rw (f, s.full, s.done)
          (sym
          (run_more setup budget w.done (world_of w) h e s.told
          ∙ ap (run_from setup (budget - (w.done + 1)) (w.done + 1)) s.next));
      ready = s.ready;
      shaped = s.shaped;
      least = rw s.done (omega (arith, h));
      grows = rw s.done (omega arith);
      more = λ l. inr (rw s.done (omega arith));
      slave = s.slave;
      master = s.master;
      ways = s.ways;
    }
turned_once setup budget w later (Err why) f h s =
    let x = s.stopped why refl in
    record {
      same =
          rw (f, s.full, s.done)
          (ap (stopped (Err (refusal_by 6)) w.done) x.1
          ∙ sym (run_stop setup budget w.done (world_of w) h why s.told ∙ rw x.0));
      ready = s.ready;
      shaped = s.shaped;
      least = rw s.done (omega (arith, h));
      grows = rw s.done (omega arith);
      more = λ l. inl s.full;
      slave = s.slave;
      master = s.master;
      ways = s.ways;
    }

-- requests that stay go their way
by_request : (setup : Setup) (ch later : Channel) → ((l : ℕ) → request_of later l ≡ request_of ch l) → SameWays setup ch later
by_request setup ch later same l o =
    (sym (ap (λ (q : Request). not (eqb q.left 0)) (same l)) ∙ o, ap (route_of setup l) (same l))

-- a step that is done is not refused
not_refused : {e : Entry} {why : Refusal} → Ok e ≡ Err why → ⊥
not_refused e = let z : ◌≡◌ {A = ℕ} 0 1 = cc in omega arith

abbrev reason : Result Entry Refusal → Refusal
reason (Ok e) = refusal_by 6
reason (Err why) = why

module _ (setup : Setup) (w : Running) (r : Ready setup w.channel (length w.slave) (length w.master))
    (k : Shaped w.channel) where
  abbrev ch : Channel
  ch = w.channel

  -- the run after a step of this plan
  abbrev planned : Plan → Running
  planned p =
      record {
        channel = (advanced_by setup ch p).channel;
        tally = tally_by w.tally (advanced_by setup ch p).answer;
        done = steps_after (advanced_by setup ch p).answer w.done;
        full = stops (advanced_by setup ch p).answer;
        slave = slave_by setup ch p w.slave w.master;
        master = master_by setup ch p w.slave w.master;
      }

  -- the step of a ready channel is the act's, and the channel after it is ready again
  module _ (p : Plan) (is : act_plan setup ch ≡ p) where
    plan_is : plan_of setup ch (length w.slave) (length w.master) ≡ p
    plan_is = plan_ready setup ch (length w.slave) (length w.master) r ∙ is

    told_is : (step_in setup (world_of w)).answer ≡ (advanced_by setup ch p).answer
    unfolding step_of
    told_is = rw plan_is

    next_is : world_after setup (world_of w) ≡ world_of (planned p)
    unfolding world_after step_of slave_after master_after
    next_is = rw plan_is

    sound_after : is_sound setup (advanced_by setup ch p).channel ≡ true
    sound_after = sound_by setup _ (step_sound setup r.framed ch k (sound_is setup ch r.sound) p is)

    planned_step : ((why : Refusal) → (advanced_by setup ch p).answer ≡ Err why → (why ≡ refusal_by 6) × (world_of (planned p) ≡ world_of w))
        → length (slave_by setup ch p w.slave w.master) ≡ length w.slave → length (master_by setup ch p w.slave w.master)
        ≡ length w.master
        → SameWays setup ch (advanced_by setup ch p).channel → OneStep setup w (planned p) (advanced_by setup ch p).answer
    planned_step stopped s m ways =
        record {
          told = told_is;
          next = next_is;
          done = refl;
          full = refl;
          stopped = stopped;
          ready = record { framed = r.framed; sound = sound_after; slave = s ∙ r.slave; master = m ∙ r.master };
          shaped = step_shaped setup ch p k;
          slave = s;
          master = m;
          ways = ways;
        }

  -- what a cycle leaves goes the way of the whole
  rule_request : (x : Channel) (l : ℕ) → request_of (line_rule x) l ≡ request_of x l
  unfolding clear_marks set_asked
  rule_request x l = refl

  cycle_ways : (o : ℕ) → act_plan setup ch ≡ plan.Cycle o → SameWays setup ch (advanced_by setup ch (plan.Cycle o)).channel
  unfolding cycle_turn
  cycle_ways o is l some =
      let y = says setup ch (plan.Cycle o) is in
      let z = sound_is setup ch r.sound in
      let same = rule_request _ l ∙ ended_request (ending_at (route_at setup ch o) ch (next_cycle setup ch o)) (moved_at setup ch o) o l in
      by_test (eqb l o)
      (λ t.
      let e = eqb-true l o t in
      let q = same ∙ here setup r.framed ch k z o y.0 (rw y.1) y.2 l e in
      let left = eqb-false (rest_at setup ch o).left 0 (not-true _ (sym (ap (λ (x : Request). not (eqb x.left 0)) q) ∙ some)) in (
        ap (has_request ch.left) e ∙ rw y.1,
        ap (route_of setup l) q
            ∙ ap (λ (x : ℕ). route_of setup x (rest_at setup ch o)) e
            ∙ same_route setup r.framed ch k z o y.0 (rw y.1) y.2 (omega (arith, left))
            ∙ ap (λ (x : ℕ). route_of setup x (request_of ch x)) (sym e),
      ))
      (λ n.
      let q = same ∙ other setup r.framed ch k z o y.0 (rw y.1) y.2 l (eqb-false l o n) in
      (sym (ap (λ (x : Request). not (eqb x.left 0)) q) ∙ some, ap (route_of setup l) q))

  by_plan : (p : Plan) → act_plan setup ch ≡ p → OneStep setup w (planned p) (advanced_by setup ch p).answer
  unfolding grant_turn granted leave_turn freed clear_marks set_asked
  by_plan plan.Idle is = planned_step plan.Idle is (λ why e. absurd (not_refused e)) refl refl (λ l o. (o, refl))
  by_plan (plan.Refused why) is =
      planned_step (plan.Refused why) is (λ x e. (sym (ap reason e) ∙ says setup ch (plan.Refused why) is, refl)) refl refl
      (λ l o. (o, refl))
  by_plan (plan.Grant v) is = planned_step (plan.Grant v) is (λ why e. absurd (not_refused e)) refl refl (λ l o. (o, refl))
  by_plan (plan.Leave o) is = planned_step (plan.Leave o) is (λ why e. absurd (not_refused e)) refl refl (λ l q. (q, refl))
  by_plan (plan.Cycle o) is =
      let n = moved_lengths (route_of setup o (request_of ch o)) (request_of ch o) w.slave w.master
      (planned_roomy setup ch o (length w.slave) (length w.master) r is) in
      planned_step (plan.Cycle o) is (λ why e. absurd (not_refused e)) n.0 n.1 (cycle_ways o is)

  -- so it is with the step that was decided
  abbrev as_stepped : Stepped → Running
  as_stepped s =
      record {
        channel = s.channel;
        tally = s.tally;
        done = steps_after s.answer w.done;
        full = stops s.answer;
        slave = slave_by setup ch (act_plan setup ch) w.slave w.master;
        master = master_by setup ch (act_plan setup ch) w.slave w.master;
      }

  module _ (route : Route)
      (way : (o : ℕ) → ch.phase ≡ Granted o → eqb (get_or ch.left o 0) 0 ≡ false → route ≡ route_of setup o (request_of ch o)) where
    pub one_step : OneStep setup w (step_run route w) (decided_in route ch w.tally).acted.answer
    unfolding step_run
    one_step =
        let x = made setup ch w.tally _ _ r k route way in
        let c = carried setup ch w.slave w.master (act_plan setup ch) in
        rw (x.1, c.0, c.1)
        (subst (λ (s : Stepped). OneStep setup w (as_stepped s) s.answer) (sym x.0) (by_plan (act_plan setup ch) refl))

    -- its bytes have room
    pub room_step : Room (decided_in route ch w.tally).carry (length w.slave) (length w.master)
    room_step = rw (made setup ch w.tally _ _ r k route way).1 (act_room setup ch w.slave w.master r)

-- and so some steps of a run lie between
pub turned_step : (setup : Setup) (budget : ℕ) (w : Running) → w.full ≡ false → w.done < budget
    → Ready setup w.channel (length w.slave) (length w.master) → Shaped w.channel → (route : Route)
    → ((o : ℕ) → w.channel.phase ≡ Granted o → eqb (get_or w.channel.left o 0) 0 ≡ false → route
    ≡ route_of setup o (request_of w.channel o))
    → Turned setup budget w (step_run route w)
turned_step setup budget w f h r k route way = turned_once setup budget w (step_run route w) _ f h (one_step setup w r k route way)

-- a channel that is ready is so after its step
pub ready_next : (setup : Setup) (ch : Channel) (t : Tally) (slave master : List ℕ) → Ready setup ch (length slave) (length master) → Shaped ch
    → Ready setup (world_after setup (world ch t slave master)).channel (length (world_after setup (world ch t slave master)).slave)
    (length (world_after setup (world ch t slave master)).master)
    × Shaped (world_after setup (world ch t slave master)).channel
ready_next setup ch t slave master r k =
    let w : Running = record { channel = ch; tally = t; done = 0; full = false; slave = slave; master = master } in
    let s = by_plan setup w r k (act_plan setup ch) refl in
    rw s.next (s.ready, s.shaped)
