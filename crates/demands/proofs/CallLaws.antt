-- Any calls come to posts and steps: a run is its steps, and a call over stores of other lengths is nothing.
use Prim.Native.Nat.{ℕ, zero, suc, ◌+◌}
use mathlib.Core.Path.{◌≡◌, refl, sym, ap, ◌∙◌}
use mathlib.Core.Bool.{◌&&◌}
use mathlib.Core.List.{List, [], ◌∷◌, ◌++◌}
use native.Mathlib.Omega.{arith}
use lib.ListN.{length, replicate}
use lib.Dec.{ltb}
use Rattle.std.specs.Prelude.{Err, Ok, Result}
use Rattle.basics.specs.Limits.{steps_most}
use Rattle.basics.proofs.Tests.{by_test}
use Rattle.refusal.specs.declared.Refusal.{Refusal}
use Rattle.refusal.specs.Refusal.{refusal_by}
use Rattle.frame.specs.declared.Setup.{Setup}
use Rattle.frame.specs.Frame.{is_framed}
use Rattle.channel.specs.declared.Channel.{Channel}
use Rattle.sound.specs.Sound.{is_sound}
use Rattle.act.specs.declared.Entry.{Entry}
use Rattle.logline.specs.Text.{has_room_in}
use Rattle.step.specs.Plan.{ready_verdict, plan_of}
use Rattle.step.specs.Step.{step_of}
use Rattle.step.specs.Run.{World, Out, stopped, step_in, world_after as stepped, go_on, run_from, run_by, run_of}
use Rattle.step.specs.Log.{Page, page_after, LoggedOut, closed, log_on, log_from, log_by, log_run_of}
use Rattle.demands.specs.History.{Moment, Act, steps, next, moment_after}
use Rattle.demands.specs.Calls.{
  Differ,
  Call,
  post,
  step,
  run,
  log,
  stray_step,
  stray_run,
  stray_log,
  ran_to,
  logged_to,
  called,
  acts_of,
  called_all,
  acts_over,
}

abbrev moment_in : World → Moment
moment_in w = record { channel = w.channel; slave = w.slave; master = w.master }

-- some steps lead to a moment: as many as were done since
abbrev Comes : Setup → Moment → ℕ → ℕ → Moment → Type 0
Comes setup m done all later = (k : ℕ) × (all ≡ done + k) × (later ≡ moment_after setup m (replicate k steps))

-- one more in front
one_more : (setup : Setup) (w : World) (done all : ℕ) (later : Moment) → Comes setup (moment_in (stepped setup w)) (suc done) all later
    → Comes setup (moment_in w) done all later
unfolding stepped step_of
one_more setup w done all later c = (suc c.0, omega (arith, c.1), c.2)

none_more : (setup : Setup) (w : World) (done : ℕ) → Comes setup (moment_in w) done done (moment_in w)
none_more setup w done = (0, omega arith, refl)

abbrev ran : Setup → ℕ → ℕ → World → Result Entry Refusal → Out
ran setup left done w a = go_on a (run_from setup left (suc done) (stepped setup w)) (λ (verdict : Result Unit Refusal). stopped verdict done w)

run_goes : (setup : Setup) (left done : ℕ) (w : World) (a : Result Entry Refusal)
    → Comes setup (moment_in (stepped setup w)) (suc done) (run_from setup left (suc done) (stepped setup w)).result.steps
    (ran_to (run_from setup left (suc done) (stepped setup w)))
    → Comes setup (moment_in w) done (ran setup left done w a).result.steps (ran_to (ran setup left done w a))
run_goes setup left done w (Ok e) later = one_more setup w done _ _ later
run_goes setup left done w (Err why) later = none_more setup w done

run_comes : (setup : Setup) (left done : ℕ) (w : World)
    → Comes setup (moment_in w) done (run_from setup left done w).result.steps (ran_to (run_from setup left done w))
unfolding run_from
run_comes setup zero done w = none_more setup w done
run_comes setup (suc left) done w =
    run_goes setup left done w (step_in setup w).answer (run_comes setup left (suc done) (stepped setup w))

abbrev logged_on : Setup → ℕ → ℕ → World → Page → Entry → LoggedOut
logged_on setup left done w p e = log_from setup left (suc done) (stepped setup w) (page_after p e)

abbrev logged : Setup → ℕ → ℕ → World → Page → Result Entry Refusal → LoggedOut
logged setup left done w p a = log_on a (logged_on setup left done w p) (λ (verdict : Result Unit Refusal). closed verdict done w p)

log_goes : (setup : Setup) (left done : ℕ) (w : World) (p : Page) (a : Result Entry Refusal)
    → ((e : Entry) → Comes setup (moment_in (stepped setup w)) (suc done) (logged_on setup left done w p e).result.ran.steps
    (logged_to (logged_on setup left done w p e)))
    → Comes setup (moment_in w) done (logged setup left done w p a).result.ran.steps (logged_to (logged setup left done w p a))
log_goes setup left done w p (Ok e) later = one_more setup w done _ _ (later e)
log_goes setup left done w p (Err why) later = none_more setup w done

log_comes : (setup : Setup) (left done : ℕ) (w : World) (p : Page)
    → Comes setup (moment_in w) done (log_from setup left done w p).result.ran.steps (logged_to (log_from setup left done w p))
unfolding log_from
log_comes setup zero done w p = none_more setup w done
log_comes setup (suc left) done w p =
    by_test (has_room_in p.out p.at)
    (λ t. rw t (log_goes setup left done w p (step_in setup w).answer (λ e. log_comes setup left (suc done) (stepped setup w) (page_after p e))))
    (λ f. rw f (none_more setup w done))

-- as many as were reported
reported : (setup : Setup) (m : Moment) (all : ℕ) (later : Moment) → Comes setup m 0 all later → later ≡ moment_after setup m (replicate all steps)
reported setup m all later c = let e : c.0 ≡ all = omega (arith, c.1) in c.2 ∙ ap (λ (k : ℕ). moment_after setup m (replicate k steps)) e

-- A run is its steps.
pub run_is_steps : (setup : Setup) (budget : ℕ) (w : World)
    → ran_to (run_of setup budget w) ≡ moment_after setup (moment_in w) (replicate (run_of setup budget w).result.steps steps)
unfolding run_of
run_is_steps setup budget w = by (ready_verdict setup w.channel (length w.slave) (length w.master))
  where
    by : (v : Result Unit Refusal) → ran_to (run_by setup v budget w) ≡ moment_after setup (moment_in w) (replicate (run_by setup v budget w).result.steps steps)
    by (Err why) = refl
    by (Ok _) =
        by_test (ltb steps_most budget) (λ t. rw t refl) (λ f. rw f (reported setup (moment_in w) _ _ (run_comes setup budget 0 w)))

pub log_is_steps : (setup : Setup) (budget : ℕ) (w : World) (p : Page)
    → logged_to (log_run_of setup budget w p) ≡ moment_after setup (moment_in w) (replicate (log_run_of setup budget w p).result.ran.steps steps)
unfolding log_run_of
log_is_steps setup budget w p = by (ready_verdict setup w.channel (length w.slave) (length w.master))
  where
    by : (v : Result Unit Refusal) → logged_to (log_by setup v budget w p) ≡ moment_after setup (moment_in w) (replicate (log_by setup v budget w p).result.ran.steps steps)
    by (Err why) = refl
    by (Ok _) =
        by_test (ltb steps_most budget) (λ t. rw t refl) (λ f. rw f (reported setup (moment_in w) _ _ (log_comes setup budget 0 w p)))

-- over stores of other lengths every step and run is refused, by 9 or by 8
module _ (setup : Setup) (ch : Channel) (slave master : List ℕ) (d : Differ setup slave master) where
  differ_verdict : (why : Refusal) × (ready_verdict setup ch (length slave) (length master) ≡ Err why)
  unfolding ready_verdict
  differ_verdict = by_test (is_framed setup && is_sound setup ch) (λ t. (refusal_by 8, rw (t, d))) (λ f. (refusal_by 9, rw f))

  stray_step_lem : (t : _) → (step_of setup ch t slave master).channel ≡ ch
  unfolding step_of plan_of
  stray_step_lem t = rw differ_verdict.1

  stray_run_lem : (t : _) (budget : ℕ) → (run_of setup budget (record { channel = ch; tally = t; slave = slave; master = master })).result.channel ≡ ch
  unfolding run_of
  stray_run_lem t budget = rw differ_verdict.1

  stray_log_lem : (t : _) (budget : ℕ) (p : Page)
      → (log_run_of setup budget (record { channel = ch; tally = t; slave = slave; master = master }) p).result.ran.channel ≡ ch
  unfolding log_run_of
  stray_log_lem t budget p = rw differ_verdict.1

-- one call
pub call_is_acts : (setup : Setup) (m : Moment) (c : Call setup) → called setup m c ≡ moment_after setup m (acts_of setup m c)
unfolding step_of
call_is_acts setup m (post p) = refl
call_is_acts setup m (step t) = refl
call_is_acts setup m (run t budget) = run_is_steps setup budget _
call_is_acts setup m (log t budget page) = log_is_steps setup budget _ page
call_is_acts setup m (stray_step t slave master d) =
    ap (λ (ch : Channel). record { channel = ch; slave = m.slave; master = m.master }) (stray_step_lem setup m.channel slave master d t)
call_is_acts setup m (stray_run t budget slave master d) =
    ap (λ (ch : Channel). record { channel = ch; slave = m.slave; master = m.master }) (stray_run_lem setup m.channel slave master d t budget)
call_is_acts setup m (stray_log t budget page slave master d) =
    ap (λ (ch : Channel). record { channel = ch; slave = m.slave; master = m.master }) (stray_log_lem setup m.channel slave master d t budget page)

-- and any of them
after_both : (setup : Setup) (m : Moment) (some more : List Act) → moment_after setup m (some ++ more) ≡ moment_after setup (moment_after setup m some) more
after_both setup m [] more = refl
after_both setup m (a ∷ some) more = after_both setup (next setup m a) some more

pub calls_are_acts : (setup : Setup) (m : Moment) (calls : List (Call setup)) → called_all setup m calls ≡ moment_after setup m (acts_over setup m calls)
calls_are_acts setup m [] = refl
calls_are_acts setup m (c ∷ calls) =
    calls_are_acts setup (called setup m c) calls
    ∙ ap (λ (later : Moment). moment_after setup later (acts_over setup (called setup m c) calls)) (call_is_acts setup m c)
    ∙ sym (after_both setup m (acts_of setup m c) (acts_over setup (called setup m c) calls))
