-- The tally has no part in what a call does: with other figures in it, the channel, the stores, the answer and the steps are the same.
use Prim.Native.Nat.{ℕ, zero, suc}
use mathlib.Core.Path.{◌≡◌, refl}
use mathlib.Core.List.{List}
use lib.ListN.{length}
use lib.Dec.{ltb}
use Rattle.std.specs.Prelude.{Err, Ok, Result}
use Rattle.refusal.specs.Refusal.{accepted}
use Rattle.refusal.specs.declared.Refusal.{Refusal}
use Rattle.basics.specs.Limits.{steps_most}
use Rattle.basics.proofs.Tests.{by_test}
use Rattle.frame.specs.declared.Setup.{Setup}
use Rattle.channel.specs.declared.Channel.{Channel}
use Rattle.tally.specs.declared.Tally.{Tally}
use Rattle.step.specs.Plan.{ready_verdict}
use Rattle.step.specs.Step.{step_of}
use Rattle.act.specs.declared.Entry.{Entry}
use Rattle.logline.specs.Text.{has_room_in}
use Rattle.step.specs.Log.{Page, page_after, LoggedOut, closed, log_on, log_from, log_by, log_run_of}
use Rattle.step.specs.Run.{Out, world, stopped, step_in, world_after, go_on, run_from, run_by, run_of}

pub step_tally : (setup : Setup) (ch : Channel) (t u : Tally) (slave master : List ℕ)
    → ((step_of setup ch t slave master).channel ≡ (step_of setup ch u slave master).channel)
    × ((step_of setup ch t slave master).answer ≡ (step_of setup ch u slave master).answer)
unfolding step_of
step_tally setup ch t u slave master = (refl, refl)

-- alike in all but the tally
pub record Alike (a b : Out) : Type 0 where
  pub channel : a.result.channel ≡ b.result.channel
  pub steps : a.result.steps ≡ b.result.steps
  pub verdict : a.result.verdict ≡ b.result.verdict
  pub slave : a.slave ≡ b.slave
  pub master : a.master ≡ b.master

both_end : (verdict : Result Unit Refusal) (done : ℕ) (ch : Channel) (t u : Tally) (slave master : List ℕ)
    → Alike (stopped verdict done (world ch t slave master)) (stopped verdict done (world ch u slave master))
both_end verdict done ch t u slave master = record { channel = refl; steps = refl; verdict = refl; slave = refl; master = refl }

both_go : (done : ℕ) (ch : Channel) (t u : Tally) (slave master : List ℕ) (a : Result Entry Refusal) (x y : Out) → Alike x y
    → Alike (go_on a x (λ (v : Result Unit Refusal). stopped v done (world ch t slave master))) (go_on a y (λ (v : Result Unit Refusal). stopped v done (world ch u slave master)))
both_go done ch t u slave master (Ok e) x y k = k
both_go done ch t u slave master (Err why) x y k = both_end (Err why) done ch t u slave master

from_tally : (setup : Setup) (left done : ℕ) (ch : Channel) (t u : Tally) (slave master : List ℕ)
    → Alike (run_from setup left done (world ch t slave master)) (run_from setup left done (world ch u slave master))
unfolding run_from world_after step_of
from_tally setup zero done ch t u slave master = both_end accepted done ch t u slave master
from_tally setup (suc left) done ch t u slave master =
    both_go done ch t u slave master (step_in setup (world ch t slave master)).answer _ _
    (from_tally setup left (suc done) _ (world_after setup (world ch t slave master)).tally (world_after setup (world ch u slave master)).tally _ _)

pub run_tally : (setup : Setup) (budget : ℕ) (ch : Channel) (t u : Tally) (slave master : List ℕ)
    → Alike (run_of setup budget (world ch t slave master)) (run_of setup budget (world ch u slave master))
unfolding run_of
run_tally setup budget ch t u slave master = by (ready_verdict setup ch (length slave) (length master))
  where
    by : (v : Result Unit Refusal) → Alike (run_by setup v budget (world ch t slave master)) (run_by setup v budget (world ch u slave master))
    by (Err why) = both_end (Err why) 0 ch t u slave master
    by (Ok _) =
        by_test (ltb steps_most budget)
        (λ l. rw l (both_end _ 0 ch t u slave master))
        (λ s. rw s (from_tally setup budget 0 ch t u slave master))

-- the same of a logged run, and of its page
pub record LoggedAlike (a b : LoggedOut) : Type 0 where
  pub channel : a.result.ran.channel ≡ b.result.ran.channel
  pub steps : a.result.ran.steps ≡ b.result.ran.steps
  pub verdict : a.result.ran.verdict ≡ b.result.ran.verdict
  pub end : a.result.end ≡ b.result.end
  pub slave : a.slave ≡ b.slave
  pub master : a.master ≡ b.master
  pub out : a.out ≡ b.out

module _ (t u : Tally) where
  both_close : (verdict : Result Unit Refusal) (done : ℕ) (ch : Channel) (slave master : List ℕ) (p : Page)
      → LoggedAlike (closed verdict done (world ch t slave master) p) (closed verdict done (world ch u slave master) p)
  both_close verdict done ch slave master p =
      record { channel = refl; steps = refl; verdict = refl; end = refl; slave = refl; master = refl; out = refl }

  both_log : (done : ℕ) (ch : Channel) (slave master : List ℕ) (p : Page) (a : Result Entry Refusal) (f g : Entry → LoggedOut)
      → ((e : Entry) → LoggedAlike (f e) (g e))
      → LoggedAlike (log_on a f (λ (v : Result Unit Refusal). closed v done (world ch t slave master) p))
      (log_on a g (λ (v : Result Unit Refusal). closed v done (world ch u slave master) p))
  both_log done ch slave master p (Ok e) f g k = k e
  both_log done ch slave master p (Err why) f g k = both_close (Err why) done ch slave master p

log_from_tally : (setup : Setup) (left done : ℕ) (ch : Channel) (t u : Tally) (slave master : List ℕ) (p : Page)
    → LoggedAlike (log_from setup left done (world ch t slave master) p) (log_from setup left done (world ch u slave master) p)
unfolding log_from world_after step_of
log_from_tally setup zero done ch t u slave master p = both_close t u accepted done ch slave master p
log_from_tally setup (suc left) done ch t u slave master p =
    by_test (has_room_in p.out p.at)
    (λ r.
    rw r
    (both_log t u done ch slave master p (step_in setup (world ch t slave master)).answer _ _
    (λ e. log_from_tally setup left (suc done) _ (world_after setup (world ch t slave master)).tally (world_after setup (world ch u slave master)).tally _ _
    (page_after p e))))
    (λ n. rw n (both_close t u accepted done ch slave master p))

pub log_tally : (setup : Setup) (budget : ℕ) (ch : Channel) (t u : Tally) (slave master : List ℕ) (p : Page)
    → LoggedAlike (log_run_of setup budget (world ch t slave master) p) (log_run_of setup budget (world ch u slave master) p)
unfolding log_run_of
log_tally setup budget ch t u slave master p = by (ready_verdict setup ch (length slave) (length master))
  where
    by : (v : Result Unit Refusal) → LoggedAlike (log_by setup v budget (world ch t slave master) p) (log_by setup v budget (world ch u slave master) p)
    by (Err why) = both_close t u (Err why) 0 ch slave master p
    by (Ok _) =
        by_test (ltb steps_most budget)
        (λ l. rw l (both_close t u _ 0 ch slave master p))
        (λ s. rw s (log_from_tally setup budget 0 ch t u slave master p))
