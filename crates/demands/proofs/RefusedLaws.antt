-- Demand 1: a refused call changes neither channel nor store.
use Prim.Native.Nat.{ℕ, ◌<◌}
use mathlib.Core.Path.{◌≡◌, refl}
use mathlib.Core.Bool.{false}
use mathlib.Core.List.{List}
use native.Mathlib.Omega.{arith}
use borrow.Author.Tests.{lt-ltb}
use lib.ListN.{length}
use Rattle.std.specs.Prelude.{Err}
use Rattle.basics.specs.Limits.{steps_most}
use Rattle.refusal.specs.declared.Refusal.{Refusal}
use Rattle.refusal.specs.Refusal.{accepted, is_accepted, refusal_by}
use Rattle.frame.specs.declared.Setup.{Setup}
use Rattle.channel.specs.declared.Channel.{Channel}
use Rattle.frame.specs.declared.Order.{Order}
use Rattle.post.specs.Post.{post_verdict}
use Rattle.post.proofs.PostLaws.{refused_same}
use Rattle.tally.specs.declared.Tally.{Tally}
use Rattle.step.specs.declared.Plan.{Plan}
use Rattle.step.specs.declared.Plan.TheVariants as plan
use Rattle.step.specs.Plan.{ready_verdict, plan_of}
use Rattle.step.specs.Run.{World, stopped, run_of}
use Rattle.step.specs.Log.{Page, closed, log_run_of}
use Rattle.step.specs.Step.{advanced_by, step_of, slave_after, master_after}
use Rattle.step.proofs.PlanLaws.{refused_still}
use Rattle.demands.specs.History.{Moment, posts, steps, no_tally, next}

refused_channel : (setup : Setup) (ch : Channel) (p : Plan) (why : Refusal) → (advanced_by setup ch p).answer ≡ Err why → (advanced_by setup ch p).channel ≡ ch
refused_channel setup ch plan.Idle why e = refl
refused_channel setup ch (plan.Refused r) why e = refl
refused_channel setup ch (plan.Grant w) why e = let z : ◌≡◌ {A = ℕ} 0 1 = cc in absurd (omega arith)
refused_channel setup ch (plan.Leave o) why e = let z : ◌≡◌ {A = ℕ} 0 1 = cc in absurd (omega arith)
refused_channel setup ch (plan.Cycle o) why e = let z : ◌≡◌ {A = ℕ} 0 1 = cc in absurd (omega arith)

-- what a refused step gives back, whatever it was refused for
pub record Unchanged (setup : Setup) (ch : Channel) (t : Tally) (s m : List ℕ) : Type 0 where
  pub channel : (step_of setup ch t s m).channel ≡ ch
  pub tally : (step_of setup ch t s m).tally ≡ t
  pub slave : slave_after setup ch s m ≡ s
  pub master : master_after setup ch s m ≡ m

pub refused_step_lem : (setup : Setup) (ch : Channel) (t : Tally) (slave master : List ℕ) (why : Refusal)
    → (step_of setup ch t slave master).answer ≡ Err why → Unchanged setup ch t slave master
unfolding step_of slave_after master_after
refused_step_lem setup ch t slave master why e =
    let k = refused_still setup ch (plan_of setup ch (length slave) (length master)) why slave master e in
    record { channel = refused_channel setup ch (plan_of setup ch (length slave) (length master)) why e; tally = rw e; slave = k.0; master = k.1 }

-- in a history: a refused post and a refused step leave the moment as it was
pub refused_post : (setup : Setup) (m : Moment) (p : Order) → is_accepted (post_verdict setup m.channel p) ≡ false → next setup m (posts p) ≡ m
refused_post setup m p e = rw (refused_same setup m.channel p e)

pub refused_steps : (setup : Setup) (m : Moment) (why : Refusal)
    → (step_of setup m.channel no_tally m.slave m.master).answer ≡ Err why → next setup m steps ≡ m
refused_steps setup m why e =
    let k = refused_step_lem setup m.channel no_tally m.slave m.master why e in
    rw (k.channel, k.slave, k.master)

-- a refused run, by 9 or 8 or by 7, gives back what it got and did no steps; and a logged one wrote no line
pub refused_run_lem : (setup : Setup) (budget : ℕ) (w : World) (why : Refusal)
    → ready_verdict setup w.channel (length w.slave) (length w.master) ≡ Err why → run_of setup budget w ≡ stopped (Err why) 0 w
unfolding run_of
refused_run_lem setup budget w why e = rw e

pub long_run : (setup : Setup) (budget : ℕ) (w : World) → ready_verdict setup w.channel (length w.slave) (length w.master) ≡ accepted
    → steps_most < budget → run_of setup budget w ≡ stopped (Err (refusal_by 7)) 0 w
unfolding run_of
long_run setup budget w e h = rw (e, lt-ltb steps_most budget h)

pub refused_log_lem : (setup : Setup) (budget : ℕ) (w : World) (p : Page) (why : Refusal)
    → ready_verdict setup w.channel (length w.slave) (length w.master) ≡ Err why → log_run_of setup budget w p ≡ closed (Err why) 0 w p
unfolding log_run_of
refused_log_lem setup budget w p why e = rw e

pub long_log : (setup : Setup) (budget : ℕ) (w : World) (p : Page) → ready_verdict setup w.channel (length w.slave) (length w.master) ≡ accepted
    → steps_most < budget → log_run_of setup budget w p ≡ closed (Err (refusal_by 7)) 0 w p
unfolding log_run_of
long_log setup budget w p e h = rw (e, lt-ltb steps_most budget h)
