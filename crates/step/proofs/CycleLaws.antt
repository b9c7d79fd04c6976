-- The cycles of one owner are steps of the run.
use Prim.Native.Nat.{ℕ, zero, suc, ◌+◌, ◌-◌, ◌<◌}
use mathlib.Core.Path.{◌≡◌, refl, sym, ap, subst, ◌∙◌}
use mathlib.Core.Bool.{Bool, true, false, not, cond}
use mathlib.Core.List.{List}
use native.Mathlib.Omega.{arith}
use borrow.Author.Tests.{ne_eqb}
use lib.ListN.{length, get_or, set}
use lib.Seq.{set-set}
use lib.Dec.{eqb, ltb}
use Rattle.std.specs.Prelude.{None}
use Rattle.basics.specs.Limits.{places, clock_limit}
use Rattle.basics.proofs.Tests.{by_test}
use Rattle.frame.specs.declared.Setup.{Setup}
use Rattle.channel.specs.declared.Phase.{Phase}
use Rattle.channel.specs.declared.Phase.TheVariants.{Arbitrating, Granted}
use Rattle.channel.specs.declared.Channel.{Channel}
use Rattle.channel.specs.declared.Request.{Request}
use Rattle.channel.specs.Channel.{owner_place, has_request, request_of, with_request, changed, Shaped}
use Rattle.channel.specs.Line.{is_inactive}
use Rattle.channel.proofs.RequestLaws.{same_channel, request_same, with_shaped}
use Rattle.sound.proofs.SoundFacts.{sound_is, granted_ever}
use Rattle.act.specs.declared.Route.{Route}
use Rattle.act.specs.declared.Ending.{Ending}
use Rattle.act.specs.declared.Ending.TheVariants.{Kept}
use Rattle.act.specs.Cycle.{route_of, cycle_bytes, cycle_of, ending_of, is_kept, is_marked, clocked, ended_by}
use Rattle.tally.specs.Tally.{add_cycle}
use Rattle.step.specs.Step.{Ready, Way, carry_of, moved_slave, moved_master}
use Rattle.step.specs.declared.turns.Tenure.{Tenure}
use Rattle.step.specs.inner.Machine.{standing_of, full_acted, standing_after, cycle_acted, cycle_decided, cycle_marks, channel_by}
use Rattle.step.specs.inner.Turns.{Running, running_after, step_run, cycle_on, filled, held_of, held, tenure_of, after_held, cycles_run}
use Rattle.step.proofs.PlanLaws.{roomy}
use Rattle.step.proofs.KeepLaws.{clocked_shaped}
use Rattle.step.proofs.DecideLaws.{decides_late, decides_cycle}
use Rattle.step.proofs.MachineLaws.{put_same, put_ended}
use Rattle.step.proofs.HeldLaws.{kept_some, kept_is, cycled_facts, cycled_going}
use Rattle.step.proofs.PutLaws.{stays_full}
use Rattle.step.proofs.TurnLaws.{Turned, turned_on, turned_step}

-- a request laid in its place twice
moved_twice : (ch : Channel) (o k c : ℕ) (q p : Request)
    → with_request (clocked (with_request (clocked ch k) o q) c) o p ≡ with_request (clocked ch c) o p
unfolding with_request clocked
moved_twice ch o k c q p =
    same_channel _ _ refl refl refl refl refl (set-set ch.direction o q.direction p.direction)
    (set-set ch.space o q.space p.space)
    (set-set ch.address o q.address p.address) (set-set ch.left o q.left p.left)
    (set-set ch.offset o q.offset p.offset)

-- a cycle that was decided, put back into the channel
module _ (route : Route) (w : Running) (o : ℕ) (phase : w.channel.phase ≡ Granted o)
    (before : w.channel.ever ≡ true) (active : is_inactive w.channel.inactive o ≡ false) (q : Request) where
  abbrev ends : Ending
  ends = ending_of route w.channel.asked (w.channel.clock + route.time) (cycle_of route q)

  cycle_channel : channel_by w.channel (cycle_decided route (standing_of w.channel w.tally) o q)
      (cycle_marks route (standing_of w.channel w.tally) o q w.channel.inactive)
      ≡ ended_by ends (with_request (clocked w.channel (w.channel.clock + route.time)) o (cycle_of route q).rest) o
  unfolding cycle_decided cycle_acted standing_after cycle_marks
  cycle_channel =
      ap
      (λ (ever : Bool).
      with_request
      (changed w.channel (cond (is_kept ends) w.channel.phase Arbitrating) (cond (is_kept ends) w.channel.asked None)
      ever (w.channel.clock + route.time) (set w.channel.inactive o (is_marked ends)))
      (owner_place w.channel.phase) (cycle_of route q).rest)
      (sym before)
      ∙ ap
      (λ (i : ℕ).
      with_request
      (changed w.channel (cond (is_kept ends) w.channel.phase Arbitrating) (cond (is_kept ends) w.channel.asked None)
      w.channel.ever (w.channel.clock + route.time) (set w.channel.inactive o (is_marked ends)))
      i (cycle_of route q).rest)
      (ap owner_place phase)
      ∙ put_ended w.channel o active ends (w.channel.clock + route.time) (cycle_of route q).rest

  cycle_run : running_after w (cycle_decided route (standing_of w.channel w.tally) o q)
      (cycle_marks route (standing_of w.channel w.tally) o q w.channel.inactive)
      ≡ record {
        channel = ended_by ends (with_request (clocked w.channel (w.channel.clock + route.time)) o (cycle_of route q).rest) o;
        tally = add_cycle w.tally (cycle_bytes route q) ends;
        done = w.done + 1;
        full = false;
        slave = moved_slave (carry_of route q) w.slave w.master;
        master = moved_master (carry_of route q) w.slave w.master;
      }
  unfolding cycle_decided cycle_acted standing_after
  cycle_run =
      ap
      (λ (x : Channel).
      record {
        channel = x;
        tally = add_cycle w.tally (cycle_bytes route q) ends;
        done = w.done + 1;
        full = false;
        slave = moved_slave (carry_of route q) w.slave w.master;
        master = moved_master (carry_of route q) w.slave w.master;
      })
      cycle_channel

module _ (setup : Setup) (budget : ℕ) (ch : Channel) (shaped : Shaped ch) (o : ℕ) (small : o < places) (phase : ch.phase ≡ Granted o)
    (route : Route) where
  -- a run in the midst of the owner's cycles
  abbrev moved_to : Tenure → Channel
  moved_to t = with_request (clocked ch t.clock) o t.request

  abbrev midst : Tenure → List ℕ → List ℕ → Running
  midst t slave master = record { channel = moved_to t; tally = t.tally; done = t.done; full = false; slave = slave; master = master }

  to_shaped : (t : Tenure) → Shaped (moved_to t)
  to_shaped t = with_shaped (clocked ch t.clock) o t.request (clocked_shaped ch t.clock shaped)

  to_request : (t : Tenure) → request_of (moved_to t) o ≡ t.request
  to_request t = request_same (clocked ch t.clock) o t.request (clocked_shaped ch t.clock shaped) small

  to_phase : (t : Tenure) → ((moved_to t).phase ≡ Granted o) × ((moved_to t).asked ≡ ch.asked) × ((moved_to t).clock ≡ t.clock)
  unfolding with_request clocked
  to_phase t = (phase, refl, refl)

  here_request : (t : Tenure) → request_of (moved_to t) (owner_place (moved_to t).phase) ≡ t.request
  here_request t = ap (λ (p : Phase). request_of (moved_to t) (owner_place p)) (to_phase t).0 ∙ to_request t

  -- what each cycle relies on
  record Good (t : Tenure) (slave master : List ℕ) : Type 0 where
    ready : Ready setup (moved_to t) (length slave) (length master)
    some : eqb t.request.left 0 ≡ false
    routed : route ≡ route_of setup o t.request

  module _ (t : Tenure) (slave master : List ℕ) (g : Good t slave master) where
    still_open : eqb (get_or (moved_to t).left o 0) 0 ≡ false
    still_open = ap (λ (q : Request). eqb q.left 0) (to_request t) ∙ g.some

    way_of : (p : ℕ) → (moved_to t).phase ≡ Granted p → eqb (get_or (moved_to t).left p 0) 0 ≡ false → route
        ≡ route_of setup p (request_of (moved_to t) p)
    way_of p e n =
        let both = sym (to_phase t).0 ∙ e in
        let same : o ≡ p = cc in
        rw (← same) (g.routed ∙ ap (route_of setup o) (sym (to_request t)))

    way : Way route t.request
    way = rw (g.routed, ← to_request t) (roomy setup (moved_to t) o (length slave) (length master) g.ready
        (to_phase t).0 still_open).way

    active : is_inactive (moved_to t).inactive o ≡ false
    active = ((sound_is setup (moved_to t) g.ready.sound).settled.owner o (to_phase t).0).active

    granted_yet : (moved_to t).ever ≡ true
    granted_yet = granted_ever setup (moved_to t) (sound_is setup (moved_to t) g.ready.sound) o (to_phase t).0

    abbrev request : Request
    request = request_of (moved_to t) (owner_place (moved_to t).phase)

    request_some : eqb request.left 0 ≡ false
    request_some = ap (λ (q : Request). eqb q.left 0) (here_request t) ∙ g.some

    limit : ltb clock_limit ((moved_to t).clock + route.time) ≡ ltb clock_limit (t.clock + route.time)
    limit = ap (λ (c : ℕ). ltb clock_limit (c + route.time)) (to_phase t).2

    -- the step from there: the clock is full, or the cycle
    full_is : ltb clock_limit (t.clock + route.time) ≡ true → step_run route (midst t slave master)
        ≡ after_held ch o (held_of (filled t) slave master)
    unfolding filled
    full_is full =
        let x = decides_late route (standing_of (moved_to t) t.tally) (moved_to t).ever request (moved_to t) o
        (to_phase t).0 request_some _
        (limit ∙ full) refl in
        sym (stays_full route (midst t slave master) (full_acted (standing_of (moved_to t) t.tally)) x.0
        (sym (ap (λ (y : Channel). y.inactive) x.1)) refl)

    cycle_is : ltb clock_limit (t.clock + route.time) ≡ false
        → step_run route (midst t slave master)
        ≡ after_held ch o
        (held_of (cycle_on route ch.asked t) (moved_slave (carry_of route t.request) slave master)
        (moved_master (carry_of route t.request) slave master))
    unfolding step_run cycle_on
    cycle_is room =
        let x = decides_cycle route (standing_of (moved_to t) t.tally) (moved_to t).ever request (moved_to t) o
        (to_phase t).0 request_some _ _
        (limit ∙ room) refl refl in
        let run = cycle_run route (midst t slave master) o (to_phase t).0 granted_yet active t.request in
        let once = moved_twice ch o t.clock ((moved_to t).clock + route.time) t.request (cycle_of route t.request).rest in
        let marks = ap (λ (y : Channel). y.inactive) x.1 in
        rw (← x.0, ← marks, here_request t, run, once, (to_phase t).1, (to_phase t).2)

  -- where the owner keeps the channel, nothing else of it has changed
  kept_midst : (t : Tenure) (slave master : List ℕ) → t.ending ≡ Kept → t.full ≡ false → after_held ch o (held_of t slave master)
      ≡ midst t slave master
  kept_midst t slave master e f = rw (e, f)

  abbrev From : Tenure → List ℕ → List ℕ → Running → Type 0
  From t slave master later = Turned setup budget (midst t slave master) later

  -- none is left to take
  none_right : (t : Tenure) (slave master : List ℕ) → Good t slave master → t.ending ≡ Kept → t.full ≡ false → t.done ≡ budget
      → From t slave master (after_held ch o (held_of t slave master))
  none_right t slave master g k f e =
      rw (kept_midst t slave master k f)
      (record {
        same = refl;
        ready = g.ready;
        shaped = to_shaped t;
        least = omega (arith, e);
        grows = omega arith;
        more = λ h. absurd (omega (arith, h, e));
        slave = refl;
        master = refl;
        ways = λ l q. (q, refl);
      })

  -- the next one may follow where the owner keeps the channel
  module _ (t : Tenure) (slave master : List ℕ) (g : Good t slave master) where
    abbrev later : Tenure
    later = cycle_on route ch.asked t

    next_good : is_kept later.ending ≡ true → (a b : List ℕ) → From t slave master (midst later a b) → Good later a b
    next_good e a b x =
        let facts = cycled_facts route ch.asked t in
        let some = kept_some route t.request (way t slave master g) ch.asked (t.clock + route.time) (rw facts.3 at e) in
        let left : eqb later.request.left 0 ≡ false = rw facts.2
        (ne_eqb (cycle_of route t.request).rest.left 0 (λ z. omega (arith, z, some))) in
        let asks : has_request (moved_to later).left o ≡ true = ap (λ (q : Request). not (eqb q.left 0)) (to_request later) ∙ rw left in
        record {
          ready = x.ready;
          some = left;
          routed =
              g.routed
              ∙ ap (route_of setup o) (sym (to_request t))
              ∙ sym (x.ways o asks).1
              ∙ ap (route_of setup o) (to_request later);
        }

  -- one cycle, and those after it
  held_right : (k : ℕ) (t : Tenure) (slave master : List ℕ) → Good t slave master → t.ending ≡ Kept → t.full ≡ false → k + t.done
      ≡ budget
      → From t slave master (after_held ch o (held route ch.asked k t slave master))
  unfolding held
  held_right zero t slave master g e f d = none_right t slave master g e f (omega (arith, d))
  held_right (suc k) t slave master g e f d =
      let one = turned_step setup budget (midst t slave master) refl (omega (arith, d)) g.ready (to_shaped t) route
      (way_of t slave master g) in
      by_test (ltb clock_limit (t.clock + route.time))
      (λ full. rw full (rw (full_is t slave master g full) at one))
      (λ room.
      let later = cycle_on route ch.asked t in
      let facts = cycled_facts route ch.asked t in
      let turned = rw (cycle_is t slave master g room) at one in
      rw room
      (by_test (is_kept later.ending)
      (λ b.
      let kept = kept_is later.ending b in
      let step = rw (kept_midst later (moved_slave (carry_of route t.request) slave master)
      (moved_master (carry_of route t.request) slave master) kept
      (cycled_going route ch.asked t)) at turned in
      rw b
      (turned_on setup budget (midst t slave master) _ _ refl step
      (held_right k later _ _ (next_good t slave master g b _ _ step) kept (cycled_going route ch.asked t) (omega (arith, d, facts.1)))))
      (λ b. rw b turned)))

-- an owner's turn
module _ (setup : Setup) (budget : ℕ) (w : Running) (f : w.full ≡ false) (h : w.done < budget)
    (r : Ready setup w.channel (length w.slave) (length w.master)) (k : Shaped w.channel) (o : ℕ)
    (phase : w.channel.phase ≡ Granted o)
    (some : eqb (get_or w.channel.left o 0) 0 ≡ false) (route : Route) (routed : route ≡ route_of setup o (request_of w.channel o)) where
  small : o < places
  small = omega (arith, ((sound_is setup w.channel r.sound).settled.owner o phase).small)

  start_same : midst setup budget w.channel k o small phase route (tenure_of w o) w.slave w.master ≡ w
  unfolding clocked
  start_same = rw (put_same w.channel o, ← f)

  pub cycles_turn : Turned setup budget w (cycles_run route budget o w)
  unfolding clocked
  cycles_turn =
      subst (λ (x : Running). Turned setup budget x (cycles_run route budget o w)) start_same
      (held_right setup budget w.channel k o small phase route (budget - w.done) (tenure_of w o) w.slave w.master
      (record { ready = rw (put_same w.channel o) r; some = some; routed = routed }) refl refl (omega (arith, h)))
