-- The asked time is the first clock, from the grant on, at which another level has an open request; and so no owner holds the channel longer than the
-- allowance past it.
use Prim.Native.Nat.{ℕ, ◌+◌, ◌≤◌}
use mathlib.Core.Path.{◌≡◌, refl, sym, ap, ◌∙◌}
use mathlib.Core.Bool.{Bool, true, false}
use mathlib.Core.List.{List, [], ◌∷◌}
use native.Mathlib.Omega.{arith}
use borrow.Author.Tests.{leb-true, eqb-true, eq-eqb}
use lib.ListN.{length, get_or}
use lib.Dec.{eqb}
use Rattle.std.specs.Prelude.{None, Option, Some}
use Rattle.basics.proofs.Tests.{by_test}
use Rattle.frame.specs.Frame.{is_framed}
use Rattle.frame.specs.declared.Setup.{Setup}
use Rattle.channel.specs.declared.Phase.{Phase}
use Rattle.channel.specs.declared.Phase.TheVariants.{Arbitrating, Granted}
use Rattle.channel.specs.declared.Channel.{Channel}
use Rattle.channel.specs.Channel.{request_of, with_request, Shaped}
use Rattle.channel.specs.Line.{line, others_ask, clear_marks, asked_now, set_asked, line_rule}
use Rattle.channel.proofs.LineLaws.{line_asked, line_after}
use Rattle.frame.specs.Allowance.{allowance_of, is_within}
use Rattle.sound.specs.Sound.{is_in_time}
use Rattle.sound.proofs.SoundFacts.{Sound, InTime, sound_is}
use Rattle.sound.proofs.RuleLaws.{rule_same}
use Rattle.refusal.specs.Refusal.{is_accepted}
use Rattle.frame.specs.declared.Order.{Order}
use Rattle.post.specs.Post.{request_in, post_verdict, posted, post_of}
use Rattle.act.specs.declared.Ending.{Ending}
use Rattle.act.specs.declared.Ending.TheVariants.{Kept, Released, Marked}
use Rattle.act.specs.Cycle.{Cycle, ending_at, clocked, freed, marked_at, ended_by, moved_on, cycle_turn}
use Rattle.step.proofs.CycleFacts.{Takes}
use Rattle.act.specs.Turn.{granted, grant_turn, leave_turn}
use Rattle.step.specs.declared.Plan.{Plan}
use Rattle.step.specs.declared.Plan.TheVariants as plan
use Rattle.step.specs.Plan.{act_plan}
use Rattle.step.specs.Step.{advanced_by, step_of}
use Rattle.step.proofs.PlanLaws.{says, plan_ready}
use Rattle.step.proofs.KeepLaws.{route_at, next_cycle, clock_at, takes}
use Rattle.demands.specs.History.{Moment, Act, posts, steps, next, moment_after, Start}
use Rattle.demands.specs.Waiting.{First, nobody, since, noted, first_after, first_in, first_of, first_over}
use Rattle.demands.specs.Demand.{Bounded}
use Rattle.demands.proofs.KeptLaws.{by_ready, next_kept, always}

-- on a sound channel the line is active exactly when another level has an open request
pub line_others : (setup : Setup) (ch : Channel) → Shaped ch → Sound setup ch → line ch ≡ others_ask ch
line_others setup ch k s = sym (ap line (rule_same setup ch k s)) ∙ line_after ch

-- an owner that was asked is still within the allowance
asked_within : (setup : Setup) (ch : Channel) (o t : ℕ) → InTime setup ch o t → ch.clock ≤ t + allowance_of setup
unfolding is_in_time is_within
asked_within setup ch o t i =
    by_test (eqb (get_or ch.left o 0) 0)
    (λ z. omega (arith, eqb-true t ch.clock (rw z at i.kept)))
    (λ n. omega (arith, leb-true _ (t + allowance_of setup) (rw n at i.kept)))

-- what the line rule makes of the asked time is what the history notes of the channel after it
now_first : (p : Phase) (a : Option ℕ) (active : Bool) (clock : ℕ) (ch : Channel) → active ≡ others_ask ch → clock ≡ ch.clock
    → first_in p (asked_now p a active clock) ≡ noted p (first_in p a) ch
now_first Arbitrating a active clock ch e f = refl
now_first (Granted o) (Some t) active clock ch e f = rw (eq-eqb o o refl)
now_first (Granted o) None active clock ch e f = rw (← e, ← f) (by_test active (λ t. rw t) (λ n. rw n))

cleared_line : (ch : Channel) → line (clear_marks ch) ≡ others_ask ch
cleared_line ch = sym (line_asked (clear_marks ch)) ∙ line_after ch

-- the line rule changes no request and no phase
rule_others : (ch : Channel) → others_ask (line_rule ch) ≡ others_ask ch
unfolding others_ask set_asked clear_marks
rule_others ch = refl

rule_first : (ch : Channel) → first_of (line_rule ch) ≡ first_after (first_of ch) (line_rule ch)
unfolding set_asked clear_marks
rule_first ch =
    now_first ch.phase ch.asked (line (clear_marks ch)) ch.clock (line_rule ch) (cleared_line ch ∙ sym (rule_others ch)) refl

-- where nothing changes, nothing is noted
same_noted : (setup : Setup) (ch : Channel) → Shaped ch → Sound setup ch → (p : Phase) (a : Option ℕ) → ch.phase ≡ p → ch.asked ≡ a
    → first_in p a ≡ noted p (first_in p a) ch
same_noted setup ch k s Arbitrating a e f = refl
same_noted setup ch k s (Granted o) (Some t) e f = rw (eq-eqb o o refl)
same_noted setup ch k s (Granted o) None e f = rw (sym (line_others setup ch k s) ∙ s.quiet o e f)

same_first : (setup : Setup) (ch : Channel) → Shaped ch → Sound setup ch → first_of ch ≡ first_after (first_of ch) ch
same_first setup ch k s = same_noted setup ch k s ch.phase ch.asked refl refl

-- a release: whatever was noted is forgotten
freed_first : (ch : Channel) (marks : List Bool) (f : First) → first_of (line_rule (freed ch marks)) ≡ first_after f (line_rule (freed ch marks))
unfolding set_asked clear_marks freed
freed_first ch marks f = refl

moved_first : (ch : Channel) (o : ℕ) (c : Cycle) → first_of (moved_on ch o c) ≡ first_of ch
unfolding moved_on with_request clocked
moved_first ch o c = refl

post_first : (ch : Channel) (p : Order) → first_of (posted ch p) ≡ first_after (first_of ch) (posted ch p)
unfolding posted with_request
post_first ch p = rule_first (with_request ch p.level (request_in p))

module _ (setup : Setup) (ch : Channel) (k : Shaped ch) (s : Sound setup ch) where
  -- what the history notes after this plan's step
  abbrev Notes : Plan → Type 0
  Notes p = first_of (advanced_by setup ch p).channel ≡ first_after (first_of ch) (advanced_by setup ch p).channel

  grant_first : (w : ℕ) → act_plan setup ch ≡ plan.Grant w → Notes (plan.Grant w)
  unfolding grant_turn granted
  grant_first w e =
      let p = says setup ch (plan.Grant w) e in
      rule_first (granted ch w) ∙ ap (λ (x : Phase). first_after (first_in x ch.asked) (line_rule (granted ch w))) (sym p.0)

  leave_first : (o : ℕ) → Notes (plan.Leave o)
  unfolding leave_turn
  leave_first o = freed_first ch ch.inactive (first_of ch)

  ended_first : (ending : Ending) (x : Channel) (o : ℕ) → first_of x ≡ first_of ch
      → first_of (line_rule (ended_by ending x o)) ≡ first_after (first_of ch) (line_rule (ended_by ending x o))
  ended_first Kept x o e = rule_first x ∙ ap (λ (f : First). first_after f (line_rule x)) e
  ended_first (Released h) x o e = freed_first x x.inactive (first_of ch)
  ended_first (Marked h) x o e = freed_first x (marked_at x.inactive o) (first_of ch)

  cycle_first : (o : ℕ) → Notes (plan.Cycle o)
  unfolding cycle_turn
  cycle_first o =
      let c = next_cycle setup ch o in
      ended_first (ending_at (route_at setup ch o) ch c) (moved_on ch o c) o (moved_first ch o c)

  act_first : (p : Plan) → act_plan setup ch ≡ p → Notes p
  act_first plan.Idle e = same_first setup ch k s
  act_first (plan.Refused why) e = same_first setup ch k s
  act_first (plan.Grant w) e = grant_first w e
  act_first (plan.Leave o) e = leave_first o
  act_first (plan.Cycle o) e = cycle_first o

-- the clocks after the acts
leave_clock : (ch : Channel) (o : ℕ) → (leave_turn ch o).channel.clock ≡ ch.clock
unfolding leave_turn freed set_asked clear_marks
leave_clock ch o = refl

ended_clock : (ending : Ending) (ch : Channel) (o : ℕ) → (line_rule (ended_by ending ch o)).clock ≡ ch.clock
unfolding freed set_asked clear_marks
ended_clock Kept ch o = refl
ended_clock (Released h) ch o = refl
ended_clock (Marked h) ch o = refl

posted_clock : (ch : Channel) (p : Order) → (posted ch p).clock ≡ ch.clock
unfolding posted with_request set_asked clear_marks
posted_clock ch p = refl

moved_clock : (ch : Channel) (o : ℕ) (c : Cycle) → (moved_on ch o c).clock ≡ ch.clock + c.time
unfolding moved_on with_request clocked
moved_clock ch o c = refl

cycle_clock : (setup : Setup) (ch : Channel) (o : ℕ) → (advanced_by setup ch (plan.Cycle o)).channel.clock ≡ clock_at setup ch o
unfolding cycle_turn
cycle_clock setup ch o =
    let c = next_cycle setup ch o in
    ended_clock (ending_at (route_at setup ch o) ch c) (moved_on ch o c) o ∙ moved_clock ch o c

-- over a history: the asked time is the first clock since the grant at which another level had an open request
next_first : (setup : Setup) (m : Moment) (a : Act) → Start setup m
    → first_of (next setup m a).channel ≡ first_after (first_of m.channel) (next setup m a).channel
unfolding post_of posted step_of
next_first setup m (posts p) s =
    by_test (is_accepted (post_verdict setup m.channel p))
    (λ t. rw t (post_first m.channel p))
    (λ f. rw f (same_first setup m.channel s.shaped (sound_is setup m.channel s.sound)))
next_first setup m steps s =
    let ch = m.channel in
    let sound = sound_is setup ch s.sound in
    by_ready setup m
    (λ r. rw (plan_ready setup ch (length m.slave) (length m.master) r) (act_first setup ch s.shaped sound (act_plan setup ch) refl))
    (λ why e. rw e (same_first setup ch s.shaped sound))

first_always : (setup : Setup) (m : Moment) (acts : List Act) → Start setup m
    → first_of (moment_after setup m acts).channel ≡ first_over setup m (first_of m.channel) acts
first_always setup m [] s = refl
first_always setup m (a ∷ acts) s =
    first_always setup (next setup m a) acts (next_kept setup m a s)
    ∙ ap (λ (f : First). first_over setup (next setup m a) f acts) (next_first setup m a s)

-- the clock after one more act, where the owner was asked at t: a cycle takes no longer than the transfer that it belongs to
nobody_not : {A : Type 0} {o t : ℕ} → nobody ≡ since o t → A
nobody_not e = let z : ◌≡◌ {A = ℕ} 0 1 = cc in absurd (omega arith)

abbrev owner_noted : First → ℕ
owner_noted nobody = 0
owner_noted (since o t) = o

abbrev clock_noted : First → ℕ
clock_noted nobody = 0
clock_noted (since o t) = t

since_asked : (p : Phase) (a : Option ℕ) (o t : ℕ) → first_in p a ≡ since o t → (p ≡ Granted o) × (a ≡ Some t)
since_asked Arbitrating a o t e = nobody_not e
since_asked (Granted q) None o t e = nobody_not e
since_asked (Granted q) (Some u) o t e = (ap (λ (f : First). Granted (owner_noted f)) e, ap (λ (f : First). Some (clock_noted f)) e)

cycle_within : (setup : Setup) (ch : Channel) (o t : ℕ) (c : Cycle) → Takes setup o (request_of ch o) c → InTime setup ch o t
    → eqb (get_or ch.left o 0) 0 ≡ false → ch.clock + c.time ≤ t + allowance_of setup
unfolding is_in_time is_within
cycle_within setup ch o t c takes i n = omega (arith, takes.transfer, leb-true _ (t + allowance_of setup) (rw n at i.kept))

act_within : (setup : Setup) → is_framed setup ≡ true → (ch : Channel) → Shaped ch → Sound setup ch → (o t : ℕ) (p : Plan) → act_plan setup ch ≡ p
    → ch.phase ≡ Granted o → InTime setup ch o t → (advanced_by setup ch p).channel.clock ≤ t + allowance_of setup
act_within setup framed ch k s o t plan.Idle e f i = asked_within setup ch o t i
act_within setup framed ch k s o t (plan.Refused why) e f i = asked_within setup ch o t i
act_within setup framed ch k s o t (plan.Grant w) e f i =
    let p = says setup ch (plan.Grant w) e in
    let z : ◌≡◌ {A = ℕ} 0 1 = cc in
    absurd (omega arith)
act_within setup framed ch k s o t (plan.Leave l) e f i = rw (leave_clock ch l) (asked_within setup ch o t i)
act_within setup framed ch k s o t (plan.Cycle l) e f i =
    let p = says setup ch (plan.Cycle l) e in
    let same : l ≡ o = cc in
    let c = takes setup framed ch k s l p.0 (rw p.1) p.2 in
    rw (cycle_clock setup ch l) (cycle_within setup ch l t (next_cycle setup ch l) c (rw (← same) at i) p.1)

next_within : (setup : Setup) (m : Moment) (a : Act) (o t : ℕ) → Start setup m → m.channel.phase ≡ Granted o → InTime setup m.channel o t
    → (next setup m a).channel.clock ≤ t + allowance_of setup
unfolding post_of step_of
next_within setup m (posts p) o t s f i =
    by_test (is_accepted (post_verdict setup m.channel p))
    (λ b. rw b (rw (posted_clock m.channel p) (asked_within setup m.channel o t i)))
    (λ b. rw b (asked_within setup m.channel o t i))
next_within setup m steps o t s f i =
    let ch = m.channel in
    by_ready setup m
    (λ r.
    rw (plan_ready setup ch (length m.slave) (length m.master) r)
    (act_within setup r.framed ch s.shaped (sound_is setup ch s.sound) o t (act_plan setup ch) refl f i))
    (λ why e. rw e (asked_within setup ch o t i))

-- Demand 3, the bound. From any channel that isn't unsound, after any posts and steps: while a level owns the channel and another has had an open request
-- since the clock t, first since the grant, the clock is at most the allowance past t; and so it is after one more act, at the release too.
pub hold_bounded : (setup : Setup) (m : Moment) (acts : List Act) (o t : ℕ) → Start setup m
    → first_over setup m (first_of m.channel) acts ≡ since o t → Bounded setup (moment_after setup m acts) o t
hold_bounded setup m acts o t s e =
    let n = moment_after setup m acts in
    let k = always setup m acts s in
    let a = since_asked n.channel.phase n.channel.asked o t (first_always setup m acts s ∙ e) in
    let i = (sound_is setup n.channel k.sound).settled.asked o t a.0 a.1 in
    record { owner = a.0; here = asked_within setup n.channel o t i; onward = λ b. next_within setup n b o t k a.0 i }
