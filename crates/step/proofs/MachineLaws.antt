-- The step as the program takes it, in place and mostly without the line rule, is the step of the definitions.
use Prim.Native.Nat.{ℕ, ◌+◌, ◌<◌}
use mathlib.Core.Path.{◌≡◌, refl, sym, ap, ◌∙◌}
use mathlib.Core.Bool.{Bool, true, false, cond}
use native.Mathlib.Omega.{arith}
use borrow.Author.Tests.{ltb-false}
use lib.ListN.{get_or, set}
use lib.Seq.{set-get_or}
use lib.Dec.{eqb, ltb}
use Rattle.std.specs.Prelude.{Err, None, Ok, Option, Result, Some}
use Rattle.act.specs.declared.Entry.{Entry}
use Rattle.refusal.specs.declared.Refusal.{Refusal}
use Rattle.basics.specs.Limits.{places, clock_limit}
use Rattle.basics.proofs.Tests.{by_test}
use Rattle.frame.specs.declared.Setup.{Setup}
use Rattle.channel.specs.declared.Phase.{Phase}
use Rattle.channel.specs.declared.Phase.TheVariants.{Arbitrating, Granted}
use Rattle.channel.specs.declared.Channel.{Channel}
use Rattle.channel.specs.declared.Request.{Request}
use Rattle.channel.specs.Channel.{owner_place, request_of, with_request, changed, Shaped}
use Rattle.channel.specs.Line.{is_inactive, clear_marks, set_asked, line, line_active, winner}
use Rattle.channel.proofs.RequestLaws.{same_channel}
use Rattle.sound.proofs.SoundFacts.{Sound, sound_is, granted_ever}
use Rattle.act.specs.declared.Route.{Route}
use Rattle.act.specs.declared.Ending.{Ending}
use Rattle.act.specs.declared.Ending.TheVariants.{Kept, Released, Marked}
use Rattle.act.specs.Cycle.{route_of, cycle_of, is_kept, is_marked, ending_at, clocked, freed, ended_by, moved_on, cycle_entry, cycle_turn}
use Rattle.act.specs.Turn.{grant_clock, granted, grant_turn, leave_turn}
use Rattle.tally.specs.declared.Tally.{Tally}
use Rattle.step.specs.declared.Stepped.{Stepped}
use Rattle.step.specs.declared.Plan.{Plan}
use Rattle.step.specs.declared.acts.Decided.{Decided}
use Rattle.step.specs.Plan.{owner_plan, request_plan, phase_plan, act_plan}
use Rattle.step.specs.declared.Plan.TheVariants as plan
use Rattle.step.specs.Step.{Ready, advanced_by, tallied, no_carry, carry_by}
use Rattle.step.specs.inner.Machine.{
  marked,
  ever_by,
  standing_of,
  marks_left,
  grant_marks,
  full_acted,
  granted_by,
  rest_acted,
  standing_after,
  cycle_acted,
  cycle_decided,
  cycle_marks,
  decided_by,
  marks_by,
  decided_of,
  decided_marks,
  stepped_by,
  channel_of,
  route_for,
  Actable,
  decision_by,
}
use Rattle.step.specs.inner.Turns.{decided_in, marks_in}
use Rattle.step.proofs.PlanLaws.{roomy}
use Rattle.step.proofs.KeepLaws.{route_at, next_cycle}
use Rattle.step.proofs.QuietLaws.{cycle_quiet, leave_quiet}

-- once granted, a channel stays so
pub ever_stays : (answer : Result Entry Refusal) (ever : Bool) → ever ≡ true → ever_by answer ever ≡ ever
ever_stays (Ok e) ever t = sym t
ever_stays (Err why) ever t = refl

-- a request put back as it is
pub put_same : (ch : Channel) (l : ℕ) → with_request ch l (request_of ch l) ≡ ch
unfolding with_request
put_same ch l =
    same_channel (with_request ch l (request_of ch l)) ch refl refl refl refl refl (set-get_or ch.direction l 0) (set-get_or ch.space l 0)
    (set-get_or ch.address l 0) (set-get_or ch.left l 0) (set-get_or ch.offset l 0)

-- a cycle put back into the arrays: an owner has no mark, so that to write none leaves the marks
module _ (ch : Channel) (o : ℕ) (active : is_inactive ch.inactive o ≡ false) where
  unmarked : set ch.inactive o false ≡ ch.inactive
  unmarked = ap (λ (b : Bool). set ch.inactive o b) (sym active) ∙ set-get_or ch.inactive o false

  pub put_ended : (ending : Ending) (clock : ℕ) (slot : Request)
      → with_request
      (changed ch (cond (is_kept ending) ch.phase Arbitrating) (cond (is_kept ending) ch.asked None) ch.ever clock
      (set ch.inactive o (is_marked ending)))
      o slot
      ≡ ended_by ending (with_request (clocked ch clock) o slot) o
  unfolding with_request clocked freed
  put_ended Kept clock slot = rw unmarked
  put_ended (Released hold) clock slot = rw unmarked
  put_ended (Marked hold) clock slot = refl

module _ (setup : Setup) (ch : Channel) (t : Tally) (s m : ℕ) (r : Ready setup ch s m) (k : Shaped ch) (route : Route)
    (way : (o : ℕ) → ch.phase ≡ Granted o → eqb (get_or ch.left o 0) 0 ≡ false → route ≡ route_of setup o (request_of ch o)) where
  sound : Sound setup ch
  sound = sound_is setup ch r.sound

  abbrev decided_at : Route → Phase → Decided
  decided_at route p = decided_by route (standing_of ch t) ch.ever (request_of ch (owner_place p)) ch.left ch.inactive p

  abbrev stepped_at : Route → Phase → Bool → Stepped
  stepped_at route p ever =
      record {
        channel =
            with_request
            (changed ch (decided_at route p).acted.standing.phase (decided_at route p).acted.standing.asked
            ever (decided_at route p).acted.standing.clock (marks_by route (standing_of ch t) ch.ever (request_of ch (owner_place p))
            ch.left ch.inactive p))
            (owner_place p)
            (decided_at route p).slot;
        tally = (decided_at route p).acted.standing.tally;
        answer = (decided_at route p).acted.answer;
      }

  -- a step of this phase, after which the channel has been granted or not, comes to this plan
  abbrev Comes : Route → Phase → Bool → Plan → Type 0
  Comes route p ever plan = (stepped_at route p ever ≡ tallied t (advanced_by setup ch plan)) × ((decided_at route p).carry ≡ carry_by setup ch plan)

  -- an arbitration: the clock is full, or the winner is granted
  abbrev wins : ℕ
  wins = winner ch.left ch.inactive

  abbrev after_grant : Channel
  after_grant =
      changed ch (Granted wins)
      (cond (line_active ch.left (grant_marks ch.left ch.inactive) (Granted wins)) (Some (grant_clock ch)) None) true (grant_clock ch)
      (grant_marks ch.left ch.inactive)

  arbitrating : Comes route Arbitrating (ever_by (decided_at route Arbitrating).acted.answer ch.ever) (phase_plan setup ch Arbitrating)
  unfolding full_acted granted_by marks_left grant_turn granted clear_marks set_asked
  arbitrating =
      by_test (ltb clock_limit (grant_clock ch))
      (λ full. (rw (full, put_same ch 0), rw full))
      (λ room. (rw (room, put_same after_grant 0), rw room))

  -- an owner without a request
  resting : (o : ℕ) → ch.phase ≡ Granted o → (asked : Option ℕ) → ch.asked ≡ asked
      → (record {
        channel =
            with_request
            (changed ch (rest_acted asked (standing_of ch t) o).standing.phase (rest_acted asked (standing_of ch t) o).standing.asked
            ch.ever (rest_acted asked (standing_of ch t) o).standing.clock ch.inactive) o (request_of ch o);
        tally = (rest_acted asked (standing_of ch t) o).standing.tally;
        answer = (rest_acted asked (standing_of ch t) o).answer;
      }
      ≡ tallied t (advanced_by setup ch (cond (line ch) (plan.Leave o) plan.Idle)))
      × (no_carry ≡ carry_by setup ch (cond (line ch) (plan.Leave o) plan.Idle))
  unfolding leave_turn freed
  resting o e None q = (rw (sound.quiet o e q, put_same ch o), rw (sound.quiet o e q))
  resting o e (Some a) q =
      let active = (sound.settled.asked o a e q).line in (
        rw (active, put_same (freed ch ch.inactive) o, leave_quiet setup r.framed ch k sound o e active, q),
        rw active,
      )

  -- an owner's cycle
  cycling : (o : ℕ) → ch.phase ≡ Granted o → eqb (get_or ch.left o 0) 0 ≡ false
      → Comes (route_of setup o (request_of ch o)) (Granted o) ch.ever (request_plan setup ch o (request_of ch o))
  unfolding full_acted route_of cycle_of cycle_decided cycle_acted standing_after cycle_marks moved_on cycle_entry cycle_turn
  cycling o e n =
      by_test (ltb clock_limit (ch.clock + (next_cycle setup ch o).time))
      (λ full. (rw (n, full, put_same ch o), rw (n, full)))
      (λ room.
      let c = next_cycle setup ch o in
      let quiet = cycle_quiet setup r.framed ch k sound o e (rw n) (ltb-false clock_limit _ room) in
      let put = put_ended ch o (sound.settled.owner o e).active (ending_at (route_at setup ch o) ch c) (ch.clock + c.time) c.rest in
      (rw (n, room, quiet, put), rw (n, room)))

  pub made_phase : (p : Phase) → ch.phase ≡ p → Comes route p (ever_by (decided_at route p).acted.answer ch.ever) (phase_plan setup ch p)
  unfolding owner_plan
  made_phase Arbitrating e = arbitrating
  made_phase (Granted o) e =
      rw (ever_stays (decided_at route (Granted o)).acted.answer ch.ever (granted_ever setup ch sound o e))
      (by_test (eqb (get_or ch.left o 0) 0)
      (λ z. rw z (resting o e ch.asked refl))
      (λ n. rw (way o e n) (cycling o e n)))

  pub made : (stepped_by ch (decided_in route ch t) (marks_in route ch t) ≡ tallied t (advanced_by setup ch (act_plan setup ch)))
      × ((decided_in route ch t).carry ≡ carry_by setup ch (act_plan setup ch))
  unfolding decided_of decided_marks act_plan
  made = made_phase ch.phase refl

-- what the act relies on
pub actable_by : (setup : Setup) (ch : Channel) (t : Tally) (s m : ℕ) → Ready setup ch s m → (route : Route)
    → ((o : ℕ) → ch.phase ≡ Granted o → eqb (get_or ch.left o 0) 0 ≡ false → route ≡ route_of setup o (request_of ch o))
    → Actable route (standing_of ch t) (request_of ch (owner_place ch.phase))
actable_by setup ch t s m r route way =
    record {
      small = λ o e. omega (arith, ((sound_is setup ch r.sound).settled.owner o e).small);
      way = λ o e n.
          let some : eqb (get_or ch.left o 0) 0 ≡ false = sym (ap (λ (x : Phase). eqb (get_or ch.left (owner_place x) 0) 0) e) ∙ n in
          rw (e, way o e some) (roomy setup ch o s m r e some).way;
    }

-- the same from what the functions said
module _ (setup : Setup) (ch : Channel) (t : Tally) (s m : ℕ) (r : Ready setup ch s m) (k : Shaped ch) where
  small : (o : ℕ) → ch.phase ≡ Granted o → o < places
  small o e = omega (arith, ((sound_is setup ch r.sound).settled.owner o e).small)

  pub place_small : owner_place ch.phase < places
  place_small = below ch.phase refl
    where
      below : (p : Phase) → ch.phase ≡ p → owner_place p < places
      below Arbitrating e = omega arith
      below (Granted o) e = small o e

  module _ (at : ℕ) (place : at ≡ owner_place ch.phase) (q : Request) (request : q ≡ request_of ch at) (route : Route)
      (way : route ≡ route_for setup at q) where
    route_is : (o : ℕ) → ch.phase ≡ Granted o → eqb (get_or ch.left o 0) 0 ≡ false → route ≡ route_of setup o (request_of ch o)
    route_is o e n = rw (way, request, place, e, n)

    pub actable : Actable route (standing_of ch t) q
    actable = rw (request, place) (actable_by setup ch t s m r route route_is)

    pub decision_made : (d : Decided) (after put later : Channel) → d ≡ decided_of route (standing_of ch t) ch.ever q ch.left ch.inactive
        → after ≡ marked ch (decided_marks route (standing_of ch t) ch.ever q ch.left ch.inactive)
        → put ≡ with_request after at d.slot → later ≡ channel_of d.acted.standing (ever_by d.acted.answer ch.ever) put
        → record { stepped = record { channel = later; tally = d.acted.standing.tally; answer = d.acted.answer }; carry = d.carry }
        ≡ decision_by setup ch t (act_plan setup ch)
    unfolding with_request
    decision_made d after put later e f g h =
        let x = made setup ch t s m r k route route_is in
        rw (h, g, f, e, request, place) (λ i. record { stepped = x.0 i; carry = x.1 i })
