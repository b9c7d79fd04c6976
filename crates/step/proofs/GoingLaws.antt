-- A run that goes on, logged or not: what holds before each turn, and that a turn keeps it.
use Prim.Native.Nat.{ℕ, suc, ◌-◌, ◌≤◌, ◌<◌}
use mathlib.Core.Path.{◌≡◌, refl, sym, ap, ◌∙◌}
use mathlib.Core.Bool.{Bool, true, false, cond, not, ◌&&◌, false≢true}
use mathlib.Core.Logic.{◌⊎◌, ⊎_elim}
use mathlib.Core.List.{List}
use native.Mathlib.Nat.{sub-zero}
use native.Mathlib.Omega.{arith}
use borrow.Author.Tests.{ltb-true, ltb-false, leb-true, leb-false, not-true}
use lib.ListN.{length, get_or}
use lib.Dec.{eqb, leb, ltb}
use Rattle.basics.specs.Limits.{places, system_master, steps_most}
use Rattle.basics.proofs.Tests.{by_test, and_left, and_right}
use Rattle.frame.specs.declared.Setup.{Setup}
use Rattle.channel.specs.declared.Phase.{Phase}
use Rattle.channel.specs.declared.Phase.TheVariants.{Arbitrating, Granted}
use Rattle.channel.specs.declared.Channel.{Channel}
use Rattle.channel.specs.Channel.{owner_of, owner_place, has_request, request_of, Shaped}
use Rattle.channel.specs.Line.{waits}
use Rattle.sound.proofs.SoundFacts.{sound_is}
use Rattle.act.specs.declared.Route.{Route}
use Rattle.act.specs.Cycle.{route_of}
use Rattle.step.specs.Step.{Ready}
use Rattle.step.specs.Run.{stopped, run_from}
use Rattle.step.specs.inner.Machine.{no_route, NoneAsk}
use Rattle.step.specs.inner.Turns.{
  Running,
  world_of,
  verdict_of,
  decided_in,
  step_run,
  to_come,
  AreRoutes,
  Lows,
  Turnable,
  Loggable,
  turn_by,
  turn_of,
}
use Rattle.step.proofs.PlanLaws.{roomy}
use Rattle.step.proofs.MachineLaws.{actable_by}
use Rattle.step.proofs.TurnLaws.{SameWays, OneStep, one_step, room_step, Turned, turned_step}
use Rattle.step.proofs.CycleLaws.{cycles_turn}

pub record Going (setup : Setup) (routes : List Route) (w : Running) : Type 0 where
  pub ready : Ready setup w.channel (length w.slave) (length w.master)
  pub shaped : Shaped w.channel
  pub routed : AreRoutes setup (request_of w.channel) routes places

open_is : (n : ℕ) → eqb n 0 ≡ false → not (eqb n 0) ≡ true
open_is n e = rw e

pub go_on_lem : (setup : Setup) (routes : List Route) (w later : Running) → Going setup routes w
    → Ready setup later.channel (length later.slave) (length later.master) → Shaped later.channel
    → SameWays setup w.channel later.channel → Going setup routes later
go_on_lem setup routes w later g ready shaped ways =
    record {
      ready = ready;
      shaped = shaped;
      routed = λ l n a.
          let p = ways l (open_is (get_or later.channel.left l 0) a) in
          g.routed l n (not-true (eqb (get_or w.channel.left l 0) 0) p.0) ∙ sym p.1;
    }

-- a run at its start and later
pub record Runs (setup : Setup) (budget : ℕ) (routes : List Route) (first w : Running) : Type 0 where
  pub going : Going setup routes w
  pub same : to_come setup budget w ≡ to_come setup budget first
  pub least : w.done ≤ budget

pub runs_on_lem : (setup : Setup) (budget : ℕ) (routes : List Route) (first w later : Running) → Runs setup budget routes first w
    → Turned setup budget w later → Runs setup budget routes first later
runs_on_lem setup budget routes first w later g t =
    record {
      going = go_on_lem setup routes w later g.going t.ready t.shaped t.ways;
      same = t.same ∙ g.same;
      least = t.least;
    }

pub runs_first : (setup : Setup) (budget : ℕ) (routes : List Route) (first : Running) → first.done ≤ budget → Going setup routes first
    → Runs setup budget routes first first
runs_first setup budget routes first least g = record { going = g; same = refl; least = least }

module _ (setup : Setup) (routes : List Route) (w : Running) (g : Going setup routes w) where
  abbrev route : Route
  route = get_or routes (owner_place w.channel.phase) no_route

  small : (o : ℕ) → w.channel.phase ≡ Granted o → o < places
  small o p = omega (arith, ((sound_is setup w.channel g.ready.sound).settled.owner o p).small)

  route_is : (o : ℕ) → w.channel.phase ≡ Granted o → eqb (get_or w.channel.left o 0) 0 ≡ false → route
      ≡ route_of setup o (request_of w.channel o)
  route_is o p some = ap (λ (x : Phase). get_or routes (owner_place x) no_route) p ∙ g.routed o (small o p) some

  pub place_below : owner_place w.channel.phase < places
  place_below = below w.channel.phase refl
    where
      below : (p : Phase) → w.channel.phase ≡ p → owner_place p < places
      below Arbitrating e = omega arith
      below (Granted o) e = small o e

  -- a step of it, and what that relies on
  pub stepped : OneStep setup w (step_run route w) (decided_in route w.channel w.tally).acted.answer
  stepped = one_step setup w g.ready g.shaped route route_is

  pub loggable : w.done < steps_most → Loggable route w
  loggable more =
      record {
        acts = actable_by setup w.channel w.tally _ _ g.ready route route_is;
        room = room_step setup w g.ready g.shaped route route_is;
        place = place_below;
        more = more;
      }

module _ (setup : Setup) (budget : ℕ) (routes : List Route) (w : Running) (g : Going setup routes w) (f : w.full ≡ false)
    (h : w.done < budget) where
  -- whatever the phase
  turn_by_lem : (p : Phase) → w.channel.phase ≡ p → Turned setup budget w (turn_by (route setup routes w g) budget w p)
  turn_by_lem Arbitrating e = turned_step setup budget w f h g.ready g.shaped (route setup routes w g) (route_is setup routes w g)
  turn_by_lem (Granted o) e =
      by_test (eqb (get_or w.channel.left o 0) 0)
      (λ z. rw z (turned_step setup budget w f h g.ready g.shaped (route setup routes w g) (route_is setup routes w g)))
      (λ n. rw n (cycles_turn setup budget w f h g.ready g.shaped o e n (route setup routes w g) (route_is setup routes w g o e n)))

  turned : Turned setup budget w (turn_of (route setup routes w g) budget w)
  unfolding turn_of
  turned = turn_by_lem w.channel.phase refl

  pub turned_by : (later : Running) (i : ℕ) → i ≡ owner_place w.channel.phase → later ≡ turn_of (get_or routes i no_route) budget w
      → Turned setup budget w later
  turned_by later i e t = rw (t, e) turned

  -- what the turn relies on
  pub turnable : (base low : ℕ) → budget ≤ steps_most → Lows base low w.channel
      → Turnable (route setup routes w g) base low budget w
  turnable base low most lows =
      let s = (sound_is setup w.channel g.ready.sound).settled in
      record {
        clock = s.clock;
        budgeted = most;
        more = h;
        going = f;
        lows = lows;
        owned = λ o p.
            record {
              small = small setup routes w g o p;
              active = (s.owner o p).active;
              roomy = λ some.
                  rw (route_is setup routes w g o p some) (roomy setup w.channel o (length w.slave) (length w.master) g.ready p some);
            };
      }

-- what the loop's test says
pub goes_on : (done budget : ℕ) (full : Bool) → (ltb done budget && not full) ≡ true → (done < budget) × (full ≡ false)
goes_on done budget full e =
    (ltb-true done budget (and_left (ltb done budget) (not full) e), not-true full (and_right (ltb done budget) (not full) e))

-- each turn brings the end nearer
abbrev pub nearness : ℕ → Bool → ℕ → ℕ
nearness budget full done = cond full 0 (suc (budget - done))

pub nearer : (budget done later : ℕ) (full now : Bool) → now ≡ false → done < budget → (full ≡ true) ⊎ (done < later)
    → nearness budget full later < nearness budget now done
nearer budget done later full now e h m =
    rw e
    (⊎_elim
    (λ t. rw t (omega arith))
    (λ l. by_test full (λ t. rw t (omega arith)) (λ n. rw n (omega (arith, h, l))))
    m)

-- the owner has a request or is 15, so that no search begins above it
pub start_lows : (setup : Setup) (ch : Channel) (s m base : ℕ) → Ready setup ch s m → (base ≤ system_master) × NoneAsk ch.left base
    → Lows base base ch
unfolding waits
start_lows setup ch s m base r (most, none) =
    record {
      most = most;
      small = omega (arith, most);
      none = none;
      clear = λ l h. rw (none l h);
      owner = below_owner ch.phase refl;
    }
  where
    asks_above : (o : ℕ) → has_request ch.left o ≡ true → base ≤ o
    asks_above o e =
        by_test (leb base o)
        (λ t. leb-true base o t)
        (λ f. absurd (false≢true (sym (none o (omega (arith, leb-false base o f))) ∙ e)))

    below_owner : (p : Phase) → ch.phase ≡ p → base ≤ owner_of p
    below_owner Arbitrating e = omega (arith, most)
    below_owner (Granted o) e =
        ⊎_elim (λ five. omega (arith, five, most)) (asks_above o) ((sound_is setup ch r.sound).settled.owner o e).asking

-- where it ends: the budget is used up, or the clock is full
pub finished : (setup : Setup) (budget : ℕ) (w : Running) → (ltb w.done budget && not w.full) ≡ false → w.done ≤ budget
    → to_come setup budget w ≡ stopped (verdict_of w.full) w.done (world_of w)
unfolding to_come run_from
finished setup budget w e l =
    by_test w.full
    (λ t. rw t)
    (λ n.
    let f : ltb w.done budget ≡ false = by_test (ltb w.done budget) (λ t. absurd (false≢true (sym (rw (t, n) at e)))) (λ x. x) in
    let z : budget - w.done ≡ 0 = omega (arith, ltb-false w.done budget f) in
    rw (n, z))

pub first_come : (setup : Setup) (budget : ℕ) (w : Running) → w.full ≡ false → w.done ≡ 0
    → to_come setup budget w ≡ run_from setup budget 0 (world_of w)
unfolding to_come
first_come setup budget w f d = rw (f, d, sub-zero budget)
