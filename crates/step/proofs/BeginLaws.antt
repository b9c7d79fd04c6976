-- Where a run's turns begin: its first grant, where the channel was never granted, is a step of the run.
use Prim.Native.Nat.{ℕ, ◌+◌, ◌<◌}
use mathlib.Core.Path.{◌≡◌, refl}
use mathlib.Core.Bool.{Bool, true, false}
use mathlib.Core.List.{List}
use native.Mathlib.Omega.{arith}
use borrow.Author.Tests.{le-ltb}
use lib.ListN.{get_or}
use lib.Dec.{ltb}
use Rattle.basics.specs.Limits.{clock_limit}
use Rattle.frame.specs.declared.Setup.{Setup}
use Rattle.channel.specs.declared.Channel.{Channel}
use Rattle.channel.specs.Channel.{owner_place}
use Rattle.sound.proofs.SoundFacts.{sound_is}
use Rattle.act.specs.declared.Route.{Route}
use Rattle.act.specs.Turn.{arbitration_time}
use Rattle.step.specs.declared.acts.Standing.{Standing}
use Rattle.step.specs.declared.turns.State.{State}
use Rattle.step.specs.inner.Machine.{no_route, channel_of}
use Rattle.step.specs.inner.Turns.{running_of, start_at, Begun, Lows}
use Rattle.step.proofs.PutLaws.{turn_grant, lows_grant}
use Rattle.step.proofs.GoingLaws.{Going, Runs, runs_first, runs_on_lem, turned_by}

-- the first arbitration is never too late
in_time : (clock : ℕ) → clock ≡ 0 → ltb clock_limit (clock + arbitration_time false) ≡ false
unfolding arbitration_time
in_time clock z = le-ltb clock_limit (clock + 100) (omega (arith, z))

module _ (setup : Setup) (budget : ℕ) (routes : List Route) (s : Standing) where
  pub begun : (ever : Bool) (base : ℕ) (ch after : Channel) (slave master : List ℕ) (r : State) → 0 < budget
      → Going setup routes (running_of (start_at s base) ever ch slave master)
      → Begun s ever base ch after r
      → Runs setup budget routes (running_of (start_at s base) ever ch slave master) (running_of r true after slave master)
  begun true base ch after slave master r h g b =
      let x = b.later refl in
      rw (x.0, x.1) (runs_first setup budget routes _ (omega arith) g)
  begun false base ch after slave master r h g b =
      let w = running_of (start_at s base) false ch slave master in
      let n = (sound_is setup w.channel g.ready.sound).settled.never refl in
      let x = b.first refl in
      let route = get_or routes (owner_place s.phase) no_route in
      let turn = turn_grant route budget (start_at s base) false ch slave master n.phase r _ after base x.0 (in_time s.clock n.clock) x.1
      refl x.2 in
      runs_on_lem setup budget routes w w _ (runs_first setup budget routes w (omega arith) g)
      (turned_by setup budget routes w g refl h _ (owner_place s.phase) refl turn)

-- where the next search may begin
pub begun_lows : (s : Standing) (ever : Bool) (base : ℕ) (ch after : Channel) (r : State) → Lows base base (channel_of s ever ch)
    → Begun s ever base ch after r
    → Lows base r.low (channel_of r.standing true after)
begun_lows s true base ch after r lows b = let x = b.later refl in rw (x.0, x.1) lows
begun_lows s false base ch after r lows b =
    let x = b.first refl in
    lows_grant base base s false ch lows r _ s false 0 after x.0 x.1 refl x.2
