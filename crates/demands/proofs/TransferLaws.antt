-- A transfer is never torn.
use Prim.Native.Nat.{ℕ, ◌≤◌}
use mathlib.Core.Path.{◌≡◌, refl, sym, ap, ◌∙◌}
use mathlib.Core.Bool.{Bool, true, false, false≢true, not, ◌||◌}
use mathlib.Core.List.{List, [], ◌∷◌}
use native.Mathlib.Omega.{arith}
use borrow.Author.Tests.{eq-eqb}
use lib.ListN.{length, get_or}
use lib.Dec.{eqb}
use Rattle.basics.specs.Limits.{clock_limit}
use Rattle.basics.proofs.Tests.{by_test}
use Rattle.refusal.specs.Refusal.{is_accepted}
use Rattle.frame.specs.Frame.{is_framed}
use Rattle.frame.specs.declared.Setup.{Setup}
use Rattle.channel.specs.declared.Phase.TheVariants.{Granted}
use Rattle.channel.specs.declared.Channel.{Channel}
use Rattle.channel.specs.declared.Request.{Request}
use Rattle.channel.specs.Channel.{has_request, request_of, with_request, Shaped}
use Rattle.channel.specs.Line.{clear_marks, set_asked, line_rule}
use Rattle.channel.proofs.RequestLaws.{request_other}
use Rattle.sound.proofs.SoundFacts.{Sound, sound_is, accepted_is}
use Rattle.frame.specs.declared.Order.{Order}
use Rattle.post.specs.Post.{request_in, post_verdict, posted, post_of}
use Rattle.post.proofs.PostLaws.{allowed}
use Rattle.act.specs.declared.Entry.{Entry}
use Rattle.act.specs.declared.Entry.TheVariants.{Cycle as CycleLine}
use Rattle.act.specs.Cycle.{route_of, cycle_bytes, cycle_of, moved_on, cycle_entry, cycle_turn}
use Rattle.act.proofs.EndingLaws.{kept_inside}
use Rattle.step.specs.declared.Plan.{Plan}
use Rattle.step.specs.declared.Plan.TheVariants as plan
use Rattle.step.specs.Plan.{act_plan}
use Rattle.step.specs.Step.{advanced_by, step_of}
use Rattle.step.proofs.PlanLaws.{says, plan_ready}
use Rattle.step.proofs.KeepLaws.{route_at, next_cycle, clock_at, rest_at, here}
use Rattle.demands.specs.History.{Moment, Act, posts, steps, no_tally, next}
use Rattle.demands.specs.Log.{added, log_of, is_next_cycle, rest_of, ends_transfer, runs_on}
use Rattle.demands.proofs.KeptLaws.{by_ready, next_shaped}
use Rattle.demands.proofs.OwnerLaws.{rule_phase, moved_phase, post_phase}

pub rule_request : (ch : Channel) (l : ℕ) → request_of (line_rule ch) l ≡ request_of ch l
unfolding set_asked clear_marks
rule_request ch l = refl

open_same : (a b : Request) → a ≡ b → eqb b.left 0 ≡ false → not (eqb a.left 0) ≡ true
open_same a b e n = ap (λ (q : Request). not (eqb q.left 0)) e ∙ rw n

-- a post leaves an open request as it is: a second one is refused
posted_request : (ch : Channel) (p : Order) (o : ℕ) → has_request ch.left o ≡ true → has_request ch.left p.level ≡ false
    → request_of (posted ch p) o ≡ request_of ch o
unfolding posted
posted_request ch p o h n =
    rule_request (with_request ch p.level (request_in p)) o
    ∙ request_other ch p.level o (request_in p) (λ e. false≢true (sym (rw (← e) at n) ∙ h))

post_request : (setup : Setup) (m : Moment) (p : Order) (o : ℕ) → has_request m.channel.left o ≡ true
    → request_of (next setup m (posts p)).channel o ≡ request_of m.channel o
unfolding post_of
post_request setup m p o h =
    by_test (is_accepted (post_verdict setup m.channel p))
    (λ t. rw t (posted_request m.channel p o h (allowed setup m.channel p (accepted_is _ t)).none))
    (λ f. rw f)

-- a step, where the owner has an open request: it is the request's next cycle, or refused
module _ (setup : Setup) (framed : is_framed setup ≡ true) (ch : Channel) (shaped : Shaped ch) (s : Sound setup ch) (o : ℕ)
    (phase : ch.phase ≡ Granted o) (asks : has_request ch.left o ≡ true) (log : List Entry) where
  -- the log that follows goes on with the transfer, from a channel at which the same level owns the channel and has an open request
  abbrev Goes : Channel → Type 0
  Goes after = after.phase ≡ Granted o → has_request after.left o ≡ true → runs_on setup o (request_of after o) log ≡ true

  asks_not : (l : ℕ) → l ≡ o → eqb (get_or ch.left l 0) 0 ≡ true → ⊥
  asks_not l e z = let t = rw e at z in false≢true (rw t at asks)

  left_open : (left : ℕ) (b : Bool) → (eqb left 0 || b) ≡ false → eqb left 0 ≡ false
  left_open left b e = by_test (eqb left 0) (λ t. absurd (false≢true (sym (rw t at e)))) (λ f. f)

  -- the log's words for the next cycle are those of the cycle itself
  cycle_words : is_next_cycle setup o (request_of ch o)
      (CycleLine (cycle_entry (route_at setup ch o) ch o (request_of ch o).direction (next_cycle setup ch o)))
      ≡ true
  unfolding cycle_entry cycle_of
  cycle_words =
      let q = request_of ch o in
      rw (eq-eqb o o refl, eq-eqb q.address q.address refl, eq-eqb (cycle_bytes (route_of setup o q) q) (cycle_bytes (route_of setup o q) q) refl)

  rest_words : rest_at setup ch o ≡ rest_of setup o (request_of ch o)
  unfolding cycle_of
  rest_words = refl

  ends_words : (next_cycle setup ch o).ends ≡ ends_transfer setup o (request_of ch o)
  unfolding cycle_of
  ends_words = refl

  cycle_on_lem : clock_at setup ch o ≤ clock_limit → ends_transfer setup o (request_of ch o) ≡ false
      → ((advanced_by setup ch (plan.Cycle o)).channel.phase ≡ Granted o)
      × (request_of (advanced_by setup ch (plan.Cycle o)).channel o ≡ rest_of setup o (request_of ch o))
  unfolding cycle_turn
  cycle_on_lem room n =
      let c = next_cycle setup ch o in
      rw (kept_inside (route_at setup ch o) ch.asked (clock_at setup ch o) c (ends_words ∙ n)) (
        rule_phase (moved_on ch o c) ∙ moved_phase ch o c ∙ phase,
        rule_request (moved_on ch o c) o ∙ here setup framed ch shaped s o phase asks room o refl ∙ rest_words,
      )

  next_cycle_lem : is_next_cycle setup o (request_of ch o) (cycle_turn (route_at setup ch o) ch o (request_of ch o).direction (next_cycle setup ch o)).entry ≡ true
  unfolding cycle_turn
  next_cycle_lem = cycle_words

  cycle_whole : clock_at setup ch o ≤ clock_limit → Goes (advanced_by setup ch (plan.Cycle o)).channel
      → runs_on setup o (request_of ch o) (added (advanced_by setup ch (plan.Cycle o)).answer log) ≡ true
  cycle_whole room on =
      by_test (ends_transfer setup o (request_of ch o))
      (λ t. rw (next_cycle_lem, t))
      (λ n.
      let k = cycle_on_lem room n in
      let q = request_of ch o in
      let h = open_same (request_of (advanced_by setup ch (plan.Cycle o)).channel o) (rest_of setup o q) k.1 (left_open (rest_of setup o q).left _ n) in
      rw (next_cycle_lem, n) (rw k.1 at (on k.0 h)))

  act_whole : (p : Plan) → act_plan setup ch ≡ p → Goes (advanced_by setup ch p).channel
      → runs_on setup o (request_of ch o) (added (advanced_by setup ch p).answer log) ≡ true
  act_whole plan.Idle e on =
      let p = says setup ch plan.Idle e in
      let f = p.1 in
      let same : p.0 ≡ o = cc in
      absurd (asks_not p.0 same p.2)
  act_whole (plan.Refused why) e on = on phase asks
  act_whole (plan.Grant w) e on =
      let p = says setup ch (plan.Grant w) e in
      let f = p.0 in
      let z : ◌≡◌ {A = ℕ} 0 1 = cc in
      absurd (omega arith)
  act_whole (plan.Leave l) e on =
      let p = says setup ch (plan.Leave l) e in
      let f = p.0 in
      let same : l ≡ o = cc in
      absurd (asks_not l same p.1)
  act_whole (plan.Cycle l) e on =
      let p = says setup ch (plan.Cycle l) e in
      let f = p.0 in
      let same : l ≡ o = cc in
      rw same (cycle_whole (rw same at p.2) (rw same at on))

step_whole : (setup : Setup) (m : Moment) (o : ℕ) (log : List Entry) → Shaped m.channel → m.channel.phase ≡ Granted o
    → has_request m.channel.left o ≡ true
    → ((next setup m steps).channel.phase ≡ Granted o → has_request (next setup m steps).channel.left o ≡ true
    → runs_on setup o (request_of (next setup m steps).channel o) log ≡ true)
    → runs_on setup o (request_of m.channel o) (added (step_of setup m.channel no_tally m.slave m.master).answer log) ≡ true
unfolding step_of
step_whole setup m o log k f h on =
    let ch = m.channel in
    by_ready setup m
    (λ r.
    let q = plan_ready setup ch (length m.slave) (length m.master) r in
    rw q (act_whole setup r.framed ch k (sound_is setup ch r.sound) o f h log (act_plan setup ch) refl (rw q at on)))
    (λ why e. rw e ((rw e at on) f h))

-- Demand 3, whole transfers. From any start, after any posts and steps: where the owner has an open request, the log goes on with the cycles of its
-- transfer, up to the next multiple of W or the request's end; no other level's cycle, no grant and no release stands between them.
pub whole_transfer : (setup : Setup) (m : Moment) (acts : List Act) (o : ℕ) → Shaped m.channel → m.channel.phase ≡ Granted o
    → has_request m.channel.left o ≡ true → runs_on setup o (request_of m.channel o) (log_of setup m acts) ≡ true
whole_transfer setup m [] o k f h = refl
whole_transfer setup m (posts p ∷ acts) o k f h =
    let e = post_request setup m p o h in
    let later = whole_transfer setup (next setup m (posts p)) acts o (next_shaped setup m (posts p) k) (post_phase setup m p ∙ f)
    (ap (λ (q : Request). not (eqb q.left 0)) e ∙ h) in
    rw e at later
whole_transfer setup m (steps ∷ acts) o k f h =
    step_whole setup m o (log_of setup (next setup m steps) acts) k f h
    (λ g n. whole_transfer setup (next setup m steps) acts o (next_shaped setup m steps k) g n)
