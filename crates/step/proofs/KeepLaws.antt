-- Each act takes a sound channel to a settled one, and the line rule makes it sound: a step keeps soundness.
use Prim.Native.Nat.{ℕ, ◌+◌, ◌≤◌, ◌<◌}
use mathlib.Core.Path.{◌≡◌, refl, sym, ap, ◌∙◌, ap₂}
use mathlib.Core.Bool.{Bool, true, false, not, and-false, false≢true}
use mathlib.Core.Logic.{inl, inr, ⊎_elim}
use mathlib.Core.List.{List}
use native.Mathlib.Omega.{arith}
use borrow.Author.Tests.{leb-true, le-leb, eqb-true, eqb-false, not-true, not-false}
use lib.Dec.{eqb}
use lib.ListN.{length, length-set}
use lib.Seq.{get_or-set_other}
use Rattle.std.specs.Prelude.{None, Option, Some}
use Rattle.refusal.specs.Refusal.{accepted}
use Rattle.basics.specs.Limits.{places, system_master, clock_limit}
use Rattle.basics.proofs.ScanLaws.{any_ext}
use Rattle.basics.proofs.Tests.{by_test, or_none}
use Rattle.frame.specs.Frame.{is_framed}
use Rattle.frame.specs.declared.Setup.{Setup}
use Rattle.frame.proofs.FrameLaws.{framed_levels, fifteen_present}
use Rattle.channel.specs.declared.Phase.{Phase}
use Rattle.channel.specs.declared.Phase.TheVariants.{Arbitrating, Granted}
use Rattle.channel.specs.declared.Channel.{Channel}
use Rattle.channel.specs.declared.Request.{Request}
use Rattle.channel.specs.Channel.{owner_of, has_request, request_of, no_request, with_request, Shaped}
use Rattle.channel.specs.Line.{is_inactive, drives, line_active, line, winner}
use Rattle.channel.proofs.LineLaws.{waits_is, winner_is, none_waits}
use Rattle.channel.proofs.RequestLaws.{request_same, request_other, with_shaped, changed_shaped, rule_shaped}
use Rattle.frame.specs.Allowance.{allowance_of, is_within}
use Rattle.frame.specs.Rows.{is_present, level_of, has_burst, is_fair, has_linger}
use Rattle.channel.specs.Slave.{slave_of, start_of}
use Rattle.sound.specs.Request.{request_verdict}
use Rattle.sound.specs.Sound.{is_blank, is_in_time}
use Rattle.sound.proofs.SoundFacts.{Grant as MayOwn, InTime, Settled, Sound, granted_ever}
use Rattle.sound.proofs.RuleLaws.{rule_sound}
use Rattle.sound.proofs.RequestFacts.{Fits, fits_is, fits_by}
use Rattle.act.specs.declared.Route.{Route}
use Rattle.act.specs.declared.Ending.{Ending}
use Rattle.act.specs.declared.Ending.TheVariants.{Kept, Released, Marked}
use Rattle.act.specs.Cycle.{
  Cycle,
  route_of,
  late_for,
  is_late,
  is_leaving,
  released_by,
  ending_of,
  ending_at,
  clocked,
  freed,
  marked_at,
  ended_by,
  moved_on,
  cycle_turn,
}
use Rattle.act.specs.Turn.{grant_clock, granted, grant_turn, leave_turn}
use Rattle.step.proofs.CycleFacts.{Leaves, Takes, rest_slave, rest_start, rest_route, rest_fits_lem, cycle_leaves, cycle_takes}
use Rattle.step.specs.declared.Plan.{Plan}
use Rattle.step.specs.declared.Plan.TheVariants as plan
use Rattle.step.specs.Plan.{next_of, act_plan}
use Rattle.step.specs.Step.{advanced_by}
use Rattle.step.proofs.PlanLaws.{says}

-- grant: the winner waits, or nobody does and there are no marks at all, so that 15 is unmarked too
module _ (setup : Setup) (framed : is_framed setup ≡ true) (ch : Channel) (s : Sound setup ch) where
  winner_grant : ch.phase ≡ Arbitrating → MayOwn setup.levels ch (winner ch.left ch.inactive)
  unfolding is_present
  winner_grant e =
      ⊎_elim
      (λ w.
      let f = waits_is ch.left ch.inactive 0 (winner ch.left ch.inactive) w.0 in
      record {
        small = omega (arith, w.1);
        present = (s.settled.request (winner ch.left ch.inactive) w.1 f.0).0;
        asking = inr f.0;
        active = f.1;
      })
      (λ n.
      let q = n.0 in
      let off = none_waits ch e n.1 in
      let five = fifteen_present setup.levels (framed_levels setup framed) in
      record {
        small = omega (arith, q);
        present = rw (q, five.1);
        asking = inl q;
        active =
            rw q
            (by_test (is_inactive ch.inactive system_master) (λ t. absurd (false≢true (sym off ∙ s.marked system_master (omega arith) t))) (λ f. f));
      })
      (winner_is ch.left ch.inactive)

  grant_settled : ch.phase ≡ Arbitrating → grant_clock ch ≤ clock_limit
      → Settled setup (granted ch (winner ch.left ch.inactive))
  unfolding granted
  grant_settled e k =
      let g = winner_grant e in
      record {
        never = λ f. absurd (false≢true (sym f));
        owner = λ o f.
            let w : winner ch.left ch.inactive ≡ o = cc in
            rw (← w) (record { small = g.small; present = g.present; asking = g.asking; active = g.active });
        request = s.settled.request;
        blank = s.settled.blank;
        fair = s.settled.fair;
        clock = k;
        unasked = λ f. let z : ◌≡◌ {A = ℕ} 0 1 = cc in absurd (omega arith);
        asked = λ o t f a. let z : ◌≡◌ {A = ℕ} 0 1 = cc in absurd (omega arith);
      }

  -- release without a request
  pub leave_settled : Settled setup (freed ch ch.inactive)
  unfolding freed
  leave_settled =
      record {
        never = λ f. let n = s.settled.never f in record { phase = refl; clock = n.clock; unmarked = n.unmarked };
        owner = λ o f. let z : ◌≡◌ {A = ℕ} 0 1 = cc in absurd (omega arith);
        request = s.settled.request;
        blank = s.settled.blank;
        fair = s.settled.fair;
        clock = s.settled.clock;
        unasked = λ f. refl;
        asked = λ o t f a. let z : ◌≡◌ {A = ℕ} 0 1 = cc in absurd (omega arith);
      }

-- the names of one cycle: the owner's route and next cycle, the clock after it, what it leaves of the request, the channel moved on, whether the owner
-- then releases it, and the channel after that
abbrev pub route_at : Setup → Channel → ℕ → Route
route_at setup ch o = route_of setup o (request_of ch o)

abbrev pub next_cycle : Setup → Channel → ℕ → Cycle
next_cycle setup ch o = next_of setup o (request_of ch o)

abbrev pub clock_at : Setup → Channel → ℕ → ℕ
clock_at setup ch o = ch.clock + (next_cycle setup ch o).time

abbrev pub rest_at : Setup → Channel → ℕ → Request
rest_at setup ch o = (next_cycle setup ch o).rest

abbrev pub moved_at : Setup → Channel → ℕ → Channel
moved_at setup ch o = moved_on ch o (next_cycle setup ch o)

abbrev pub leaves_at : Setup → Channel → ℕ → Bool
leaves_at setup ch o = is_leaving (route_at setup ch o) ch.asked (clock_at setup ch o) (next_cycle setup ch o)

abbrev pub ended_at : Setup → Channel → ℕ → Channel
ended_at setup ch o = ended_by (ending_at (route_at setup ch o) ch (next_cycle setup ch o)) (moved_at setup ch o) o

pub clocked_shaped : (ch : Channel) (k : ℕ) → Shaped ch → Shaped (clocked ch k)
unfolding clocked
clocked_shaped ch k s = changed_shaped ch ch.phase ch.asked ch.ever k ch.inactive s.inactive s

no_blank : is_blank no_request ≡ true
unfolding is_blank
no_blank = refl

-- one cycle of the owner of a sound channel
module _ (setup : Setup) (framed : is_framed setup ≡ true) (ch : Channel) (shaped : Shaped ch) (s : Sound setup ch) (o : ℕ)
    (phase : ch.phase ≡ Granted o) (asks : has_request ch.left o ≡ true)
    (room : clock_at setup ch o ≤ clock_limit) where
  small : o ≤ system_master
  small = (s.settled.owner o phase).small

  present : is_present setup.levels o ≡ true
  present = (s.settled.owner o phase).present

  fits : Fits setup o (request_of ch o)
  fits = fits_is setup o (request_of ch o) (s.settled.request o (omega (arith, small)) asks).1

  -- all that is known of the cycle
  pub leaves : Leaves (request_of ch o) (next_cycle setup ch o)
  leaves = cycle_leaves setup framed o present (request_of ch o) fits

  pub takes : Takes setup o (request_of ch o) (next_cycle setup ch o)
  takes = cycle_takes setup framed o present (request_of ch o) fits

  -- what it leaves goes the same way
  pub same_slave : 0 < (rest_at setup ch o).left → slave_of setup.slaves (rest_at setup ch o) ≡ slave_of setup.slaves (request_of ch o)
  same_slave h = rest_slave setup framed (request_of ch o) fits (next_cycle setup ch o) leaves h

  pub same_start : 0 < (rest_at setup ch o).left → start_of setup.slaves (rest_at setup ch o) ≡ start_of setup.slaves (request_of ch o)
  same_start h = rest_start setup framed (request_of ch o) fits (next_cycle setup ch o) leaves h

  pub same_route : 0 < (rest_at setup ch o).left → route_of setup o (rest_at setup ch o) ≡ route_at setup ch o
  same_route h = rest_route setup framed (request_of ch o) fits (next_cycle setup ch o) leaves o h

  -- it has been granted before
  granted_before : {A : Type 0} → ch.ever ≡ false → A
  granted_before e = absurd (false≢true (sym e ∙ granted_ever setup ch s o phase))

  -- the requests afterwards
  pub here : (m : ℕ) → m ≡ o → request_of (moved_at setup ch o) m ≡ rest_at setup ch o
  unfolding moved_on
  here m e =
      rw e
      (request_same (clocked ch (clock_at setup ch o)) o (rest_at setup ch o) (clocked_shaped ch (clock_at setup ch o) shaped)
      (omega (arith, small)))

  pub other : (m : ℕ) → (m ≡ o → ⊥) → request_of (moved_at setup ch o) m ≡ request_of ch m
  unfolding moved_on clocked
  other m n = request_other (clocked ch (clock_at setup ch o)) o m (rest_at setup ch o) n

  pub kept_open : (m : ℕ) → (m ≡ o → ⊥) → has_request (moved_at setup ch o).left m ≡ has_request ch.left m
  kept_open m n = ap (λ (q : Request). not (eqb q.left 0)) (other m n)

  here_open : (m : ℕ) → m ≡ o → has_request (moved_at setup ch o).left m ≡ not (eqb (rest_at setup ch o).left 0)
  here_open m e = ap (λ (q : Request). not (eqb q.left 0)) (here m e)

  positive : (n : ℕ) → eqb n 0 ≡ false → 0 < n
  positive n e = omega (arith, eqb-false n 0 e)

  moved_request : (m : ℕ) → m < places → has_request (moved_at setup ch o).left m ≡ true
      → (is_present setup.levels m ≡ true) × (request_verdict setup m (request_of (moved_at setup ch o) m) ≡ accepted)
  moved_request m k h =
      by_test (eqb m o)
      (λ b.
      let e = eqb-true m o b in
      let n = not-true (eqb (rest_at setup ch o).left 0) (sym (here_open m e) ∙ h) in
      let f = rest_fits_lem setup framed (request_of ch o) fits (next_cycle setup ch o) leaves (positive _ n) in
      (ap (is_present setup.levels) e ∙ present, ap₂ (request_verdict setup) e (here m e) ∙ fits_by setup o (rest_at setup ch o) f))
      (λ b.
      let n = eqb-false m o b in
      let r = s.settled.request m k (sym (kept_open m n) ∙ h) in
      (r.0, ap (request_verdict setup m) (other m n) ∙ r.1))

  moved_blank : (m : ℕ) → m < places → has_request (moved_at setup ch o).left m ≡ false → is_blank (request_of (moved_at setup ch o) m) ≡ true
  moved_blank m k h =
      by_test (eqb m o)
      (λ b.
      let e = eqb-true m o b in
      let z = not-false (eqb (rest_at setup ch o).left 0) (sym (here_open m e) ∙ h) in
      ap is_blank (here m e ∙ leaves.done (eqb-true _ 0 z)) ∙ no_blank)
      (λ b. let n = eqb-false m o b in ap is_blank (other m n) ∙ s.settled.blank m k (sym (kept_open m n) ∙ h))

  -- the line is as it was: the owner has no part in it
  drives_same : (l : ℕ) → l < places
      → drives (moved_at setup ch o).left ch.inactive (owner_of ch.phase) l ≡ drives ch.left ch.inactive (owner_of ch.phase) l
  unfolding drives
  drives_same l k =
      by_test (eqb l o)
      (λ b.
      let e : eqb l (owner_of ch.phase) ≡ true = ap (λ (x : Phase). eqb l (owner_of x)) phase ∙ b in
      simp (e, and-false))
      (λ b. rw (kept_open l (eqb-false l o b)))

  pub line_same : line (moved_at setup ch o) ≡ line ch
  unfolding line_active moved_on clocked with_request
  line_same = any_ext _ _ places drives_same

  -- the clock has room for the cycle
  clock_room : clock_at setup ch o ≤ clock_limit
  clock_room = room

  -- an owner that keeps the channel has something left
  not_done : leaves_at setup ch o ≡ false → eqb (rest_at setup ch o).left 0 ≡ false
  unfolding is_leaving
  not_done e =
      by_test (eqb (rest_at setup ch o).left 0) (λ t. absurd (false≢true (sym e ∙ rw (leaves.ends (eqb-true _ 0 t), t)))) (λ f. f)

  -- inside a transfer its end stays where it was; at its end the release rule says that the next one fits
  inside_within : (t : ℕ) → InTime setup ch o t → (next_cycle setup ch o).ends ≡ false
      → is_within (allowance_of setup) (next_cycle setup ch o).next (clock_at setup ch o) t ≡ true
  unfolding is_within is_in_time
  inside_within t i e =
      let k = leb-true _ (t + allowance_of setup) (rw (not-true (eqb (request_of ch o).left 0) asks) at i.kept) in
      let d = rw e at takes.transfer in
      le-leb _ (t + allowance_of setup) (omega (arith, k, d))

  end_within : (t : ℕ) → ch.asked ≡ Some t → leaves_at setup ch o ≡ false → (next_cycle setup ch o).ends ≡ true
      → is_within (allowance_of setup) (next_cycle setup ch o).next (clock_at setup ch o) t ≡ true
  unfolding is_leaving is_late route_of
  end_within t a e f =
      let route = route_at setup ch o in
      let u = rw f at e in
      let late = (or_none (not (has_burst route.options)) _ (or_none (eqb (rest_at setup ch o).left 0) _ u).1).1 in
      let asked = ap (λ (x : Option ℕ). late_for route x (clock_at setup ch o) (next_cycle setup ch o).next) a in
      not-false _ (or_none (not (has_linger route.options)) _ (sym asked ∙ late)).1

  kept_in_time : (t : ℕ) → ch.asked ≡ Some t → leaves_at setup ch o ≡ false
      → is_in_time setup o (request_of (moved_at setup ch o) o) (clock_at setup ch o) t ≡ true
  unfolding is_in_time
  kept_in_time t a e =
      let n = not_done e in
      ap (λ (q : Request). is_in_time setup o q (clock_at setup ch o) t) (here o refl)
      ∙ rw (n, takes.next (positive _ n))
      (by_test (next_cycle setup ch o).ends (end_within t a e) (inside_within t (s.settled.asked o t phase a)))

  -- kept
  pub kept_settled : leaves_at setup ch o ≡ false → Settled setup (moved_at setup ch o)
  unfolding moved_on clocked with_request
  kept_settled e =
      let g = s.settled.owner o phase in
      record {
        never = granted_before;
        owner = λ p f.
            let same : o ≡ p = cc in
            rw (← same)
            (record {
              small = small;
              present = present;
              asking = inr (here_open o refl ∙ rw (not_done e));
              active = g.active;
            });
        request = moved_request;
        blank = moved_blank;
        fair = s.settled.fair;
        clock = clock_room;
        unasked = s.settled.unasked;
        asked = λ p t f a.
            let same : o ≡ p = cc in
            rw (← same)
            (record {
              line = line_same ∙ (s.settled.asked o t phase a).line;
              past = omega (arith, (s.settled.asked o t phase a).past);
              kept = kept_in_time t a e;
            });
      }

  -- released, with the marks as they are then
  freed_settled : (marks : List Bool)
      → ((l : ℕ) → l < places → is_inactive marks l ≡ true → (is_present setup.levels l ≡ true) ×
      (is_fair (level_of setup.levels l).options ≡ true))
      → Settled setup (freed (moved_at setup ch o) marks)
  unfolding freed moved_on clocked with_request
  freed_settled marks h =
      record {
        never = granted_before;
        owner = λ p f. let z : ◌≡◌ {A = ℕ} 0 1 = cc in absurd (omega arith);
        request = moved_request;
        blank = moved_blank;
        fair = h;
        clock = clock_room;
        unasked = λ f. refl;
        asked = λ p t f a. let z : ◌≡◌ {A = ℕ} 0 1 = cc in absurd (omega arith);
      }

  -- a mark set at a fair owner
  marked_fair : is_fair (level_of setup.levels o).options ≡ true → (l : ℕ) → l < places → is_inactive (marked_at ch.inactive o) l ≡ true
      → (is_present setup.levels l ≡ true) × (is_fair (level_of setup.levels l).options ≡ true)
  marked_fair f l k e =
      by_test (eqb l o)
      (λ b.
      let q = eqb-true l o b in
      (ap (is_present setup.levels) q ∙ present, ap (λ (m : ℕ). is_fair (level_of setup.levels m).options) q ∙ f))
      (λ b. s.settled.fair l k (sym (get_or-set_other ch.inactive o l true false (eqb-false l o b)) ∙ e))

  pub released_settled : (a : Option ℕ) → Settled setup (ended_by (released_by (route_at setup ch o).options a (clock_at setup ch o))
      (moved_at setup ch o) o)
  unfolding route_of moved_on clocked with_request
  released_settled None = freed_settled ch.inactive s.settled.fair
  released_settled (Some t) =
      by_test (is_fair (level_of setup.levels o).options)
      (λ f. rw f (freed_settled (marked_at ch.inactive o) (marked_fair f)))
      (λ n. rw n (freed_settled ch.inactive s.settled.fair))

  cycle_settled : Settled setup (ended_at setup ch o)
  unfolding ending_of
  cycle_settled = by_test (leaves_at setup ch o) (λ t. rw t (released_settled ch.asked)) (λ f. rw f (kept_settled f))

-- a step of a sound channel is sound
module _ (setup : Setup) (framed : is_framed setup ≡ true) (ch : Channel) (shaped : Shaped ch) (s : Sound setup ch) where
  cycle_sound : (o : ℕ) → act_plan setup ch ≡ plan.Cycle o → Sound setup (advanced_by setup ch (plan.Cycle o)).channel
  unfolding cycle_turn
  cycle_sound o e =
      let p = says setup ch (plan.Cycle o) e in
      rule_sound setup framed (ended_at setup ch o) (cycle_settled setup framed ch shaped s o p.0 (rw p.1) p.2)

  grant_sound : (w : ℕ) → act_plan setup ch ≡ plan.Grant w → Sound setup (advanced_by setup ch (plan.Grant w)).channel
  unfolding grant_turn
  grant_sound w e =
      let p = says setup ch (plan.Grant w) e in
      rule_sound setup framed (granted ch w) (rw p.1 (grant_settled setup framed ch s p.0 p.2))

  leave_sound : (o : ℕ) → Sound setup (advanced_by setup ch (plan.Leave o)).channel
  unfolding leave_turn
  leave_sound o = rule_sound setup framed (freed ch ch.inactive) (leave_settled setup framed ch s)

  pub step_sound : (plan : Plan) → act_plan setup ch ≡ plan → Sound setup (advanced_by setup ch plan).channel
  step_sound plan.Idle e = s
  step_sound (plan.Refused why) e = s
  step_sound (plan.Grant w) e = grant_sound w e
  step_sound (plan.Leave o) e = leave_sound o
  step_sound (plan.Cycle o) e = cycle_sound o e

-- and keeps the arrays' shape
pub freed_shaped : (ch : Channel) (marks : List Bool) → length marks ≡ places → Shaped ch → Shaped (freed ch marks)
unfolding freed
freed_shaped ch marks n k = changed_shaped ch Arbitrating None ch.ever ch.clock marks n k

granted_shaped : (ch : Channel) (w : ℕ) → Shaped ch → Shaped (granted ch w)
unfolding granted
granted_shaped ch w k = changed_shaped ch (Granted w) None true (grant_clock ch) ch.inactive k.inactive k

pub ended_shaped : (ending : Ending) (ch : Channel) (o : ℕ) → Shaped ch → Shaped (ended_by ending ch o)
ended_shaped Kept ch o k = k
ended_shaped (Released h) ch o k = freed_shaped ch ch.inactive k.inactive k
ended_shaped (Marked h) ch o k = freed_shaped ch (marked_at ch.inactive o) (length-set ch.inactive o true ∙ k.inactive) k

pub moved_shaped : (ch : Channel) (o : ℕ) (c : Cycle) → Shaped ch → Shaped (moved_on ch o c)
unfolding moved_on
moved_shaped ch o c k = with_shaped (clocked ch (ch.clock + c.time)) o c.rest (clocked_shaped ch (ch.clock + c.time) k)

pub step_shaped : (setup : Setup) (ch : Channel) (plan : Plan) → Shaped ch → Shaped (advanced_by setup ch plan).channel
unfolding grant_turn leave_turn cycle_turn
step_shaped setup ch plan.Idle k = k
step_shaped setup ch (plan.Refused why) k = k
step_shaped setup ch (plan.Grant w) k = rule_shaped (granted ch w) (granted_shaped ch w k)
step_shaped setup ch (plan.Leave o) k = rule_shaped (freed ch ch.inactive) (freed_shaped ch ch.inactive k.inactive k)
step_shaped setup ch (plan.Cycle o) k =
    rule_shaped (ended_at setup ch o)
    (ended_shaped (ending_at (route_at setup ch o) ch (next_cycle setup ch o)) (moved_at setup ch o) o
    (moved_shaped ch o (next_cycle setup ch o) k))
