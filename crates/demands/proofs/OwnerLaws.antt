-- A level's cycles stand in the log only between its grant and its release.
use Prim.Native.Nat.{ℕ}
use mathlib.Core.Path.{◌≡◌, refl, ap, ◌∙◌}
use mathlib.Core.Bool.{true}
use mathlib.Core.List.{List, [], ◌∷◌}
use borrow.Author.Tests.{eq-eqb}
use lib.ListN.{length}
use Rattle.std.specs.Prelude.{Err, Ok, Result}
use Rattle.refusal.specs.declared.Refusal.{Refusal}
use Rattle.basics.proofs.Tests.{by_test}
use Rattle.refusal.specs.Refusal.{is_accepted}
use Rattle.frame.specs.declared.Setup.{Setup}
use Rattle.channel.specs.declared.Phase.{Phase}
use Rattle.channel.specs.declared.Channel.{Channel}
use Rattle.channel.specs.Channel.{with_request}
use Rattle.channel.specs.Line.{clear_marks, set_asked, line_rule}
use Rattle.frame.specs.declared.Order.{Order}
use Rattle.post.specs.Post.{request_in, post_verdict, posted, post_of}
use Rattle.act.specs.declared.Ending.{Ending}
use Rattle.act.specs.declared.Ending.TheVariants.{Kept, Released, Marked}
use Rattle.act.specs.declared.Entry.{Entry}
use Rattle.act.specs.Cycle.{Cycle, ending_at, clocked, freed, ended_by, moved_on, cycle_entry, cycle_turn}
use Rattle.act.specs.Turn.{granted, grant_turn, leave_turn}
use Rattle.step.specs.declared.Plan.{Plan}
use Rattle.step.specs.declared.Plan.TheVariants as plan
use Rattle.step.specs.Plan.{act_plan}
use Rattle.step.specs.Step.{advanced_by, step_of}
use Rattle.step.proofs.PlanLaws.{says, plan_ready}
use Rattle.step.proofs.KeepLaws.{route_at, next_cycle}
use Rattle.demands.specs.History.{Moment, Act, posts, steps, no_tally, next}
use Rattle.demands.specs.Log.{added, log_of, may_log, held_after, phase_after, keeps_to_owners}
use Rattle.demands.proofs.KeptLaws.{by_ready}

-- the line rule and a post leave the phase
pub rule_phase : (ch : Channel) → (line_rule ch).phase ≡ ch.phase
unfolding set_asked clear_marks
rule_phase ch = refl

posted_phase : (ch : Channel) (p : Order) → (posted ch p).phase ≡ ch.phase
unfolding posted with_request
posted_phase ch p = rule_phase (with_request ch p.level (request_in p))

ended_phase : (ending : Ending) (ch : Channel) (o : ℕ) → (line_rule (ended_by ending ch o)).phase ≡ held_after ch.phase ending
unfolding set_asked clear_marks freed
ended_phase Kept ch o = refl
ended_phase (Released h) ch o = refl
ended_phase (Marked h) ch o = refl

pub moved_phase : (ch : Channel) (o : ℕ) (c : Cycle) → (moved_on ch o c).phase ≡ ch.phase
unfolding moved_on with_request clocked
moved_phase ch o c = refl

-- what a step's answer says about the phases before and after it
abbrev Told : Phase → Result Entry Refusal → Phase → Type 0
Told before (Ok entry) later = (may_log before entry ≡ true) × (later ≡ phase_after before entry)
Told before (Err why) later = later ≡ before

module _ (setup : Setup) (ch : Channel) where
  cycle_told : (o : ℕ) → act_plan setup ch ≡ plan.Cycle o
      → Told ch.phase (advanced_by setup ch (plan.Cycle o)).answer (advanced_by setup ch (plan.Cycle o)).channel.phase
  unfolding cycle_turn cycle_entry
  cycle_told o e =
      let c = next_cycle setup ch o in
      let ending = ending_at (route_at setup ch o) ch c in
      let p = says setup ch (plan.Cycle o) e in (
        rw p.0 (eq-eqb o o refl),
        ended_phase ending (moved_on ch o c) o ∙ ap (λ (x : Phase). held_after x ending) (moved_phase ch o c),
      )

  grant_told : (w : ℕ) → act_plan setup ch ≡ plan.Grant w
      → Told ch.phase (advanced_by setup ch (plan.Grant w)).answer (advanced_by setup ch (plan.Grant w)).channel.phase
  unfolding grant_turn granted
  grant_told w e = let p = says setup ch (plan.Grant w) e in (rw p.0 refl, rule_phase (granted ch w))

  leave_told : (o : ℕ) → act_plan setup ch ≡ plan.Leave o
      → Told ch.phase (advanced_by setup ch (plan.Leave o)).answer (advanced_by setup ch (plan.Leave o)).channel.phase
  unfolding leave_turn freed
  leave_told o e = let p = says setup ch (plan.Leave o) e in (rw p.0 (eq-eqb o o refl), rule_phase (freed ch ch.inactive))

  act_told : (p : Plan) → act_plan setup ch ≡ p → Told ch.phase (advanced_by setup ch p).answer (advanced_by setup ch p).channel.phase
  act_told plan.Idle e = let p = says setup ch plan.Idle e in (rw p.1 refl, refl)
  act_told (plan.Refused why) e = refl
  act_told (plan.Grant w) e = grant_told w e
  act_told (plan.Leave o) e = leave_told o e
  act_told (plan.Cycle o) e = cycle_told o e

-- one entry more in front of a log that keeps to the owners
front : (before : Phase) (answer : Result Entry Refusal) (later : Phase) (log : List Entry) → Told before answer later → keeps_to_owners later log ≡ true
    → keeps_to_owners before (added answer log) ≡ true
front before (Ok entry) later log t k = rw t.0 (rw t.1 at k)
front before (Err why) later log t k = rw t at k

step_told : (setup : Setup) (m : Moment)
    → Told m.channel.phase (step_of setup m.channel no_tally m.slave m.master).answer (next setup m steps).channel.phase
unfolding step_of
step_told setup m =
    let ch = m.channel in
    by_ready setup m
    (λ r. rw (plan_ready setup ch (length m.slave) (length m.master) r) (act_told setup ch (act_plan setup ch) refl))
    (λ why e. rw e refl)

pub post_phase : (setup : Setup) (m : Moment) (p : Order) → (next setup m (posts p)).channel.phase ≡ m.channel.phase
unfolding post_of
post_phase setup m p =
    by_test (is_accepted (post_verdict setup m.channel p)) (λ t. rw t (posted_phase m.channel p)) (λ f. rw f)

-- Demand 3, the grants. From any start, after any posts and steps: every cycle and every release in the log is the owner's, and a grant is logged only
-- when nobody owns the channel. (At the start the owner is the channel's; after set-up there is none.)
pub only_owners : (setup : Setup) (m : Moment) (acts : List Act) → keeps_to_owners m.channel.phase (log_of setup m acts) ≡ true
only_owners setup m [] = refl
only_owners setup m (posts p ∷ acts) =
    let k = only_owners setup (next setup m (posts p)) acts in
    rw (post_phase setup m p) at k
only_owners setup m (steps ∷ acts) =
    front m.channel.phase (step_of setup m.channel no_tally m.slave m.master).answer
    (next setup m steps).channel.phase (log_of setup (next setup m steps) acts) (step_told setup m)
    (only_owners setup (next setup m steps) acts)
