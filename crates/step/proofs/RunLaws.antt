-- Laws of a run, and of a logged one: one step more, or the end.
use Prim.Native.Nat.{ℕ, suc, ◌+◌, ◌-◌, ◌<◌}
use mathlib.Core.Path.{◌≡◌}
use mathlib.Core.Bool.{true, false}
use native.Mathlib.Numerals.{add-one}
use native.Mathlib.Omega.{arith}
use Rattle.std.specs.Prelude.{Err, Ok}
use Rattle.refusal.specs.Refusal.{accepted}
use Rattle.refusal.specs.declared.Refusal.{Refusal}
use Rattle.frame.specs.declared.Setup.{Setup}
use Rattle.act.specs.declared.Entry.{Entry}
use Rattle.logline.specs.Text.{has_room_in}
use Rattle.step.specs.Run.{World, stopped, step_in, world_after, run_from}
use Rattle.step.specs.Log.{Page, page_after, closed, log_from}

module _ (setup : Setup) (n done : ℕ) (w : World) (h : done < n) where
  pub run_more : (e : Entry) → (step_in setup w).answer ≡ Ok e → run_from setup (n - done) done w ≡ run_from setup (n - (done + 1)) (done + 1)
      (world_after setup w)
  unfolding run_from
  run_more e t = let k : n - done ≡ suc (n - (done + 1)) = omega arith in rw (k, t, add-one done)

  pub run_stop : (why : Refusal) → (step_in setup w).answer ≡ Err why → run_from setup (n - done) done w ≡ stopped (Err why) done w
  unfolding run_from
  run_stop why t = let k : n - done ≡ suc (n - (done + 1)) = omega arith in rw (k, t)

  -- a logged run goes on where the page has room
  module _ (p : Page) where
    pub log_more : (e : Entry) → has_room_in p.out p.at ≡ true → (step_in setup w).answer ≡ Ok e
        → log_from setup (n - done) done w p ≡ log_from setup (n - (done + 1)) (done + 1) (world_after setup w) (page_after p e)
    unfolding log_from
    log_more e room t = let k : n - done ≡ suc (n - (done + 1)) = omega arith in rw (k, room, t, add-one done)

    pub log_stop : (why : Refusal) → has_room_in p.out p.at ≡ true → (step_in setup w).answer ≡ Err why
        → log_from setup (n - done) done w p ≡ closed (Err why) done w p
    unfolding log_from
    log_stop why room t = let k : n - done ≡ suc (n - (done + 1)) = omega arith in rw (k, room, t)

    pub log_end : has_room_in p.out p.at ≡ false → log_from setup (n - done) done w p ≡ closed accepted done w p
    unfolding log_from
    log_end room = let k : n - done ≡ suc (n - (done + 1)) = omega arith in rw (k, room)
