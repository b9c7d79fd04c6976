-- A turn put back into the arrays: what stands there then is the definition's, and where the next search for the winner may begin.
use Prim.Native.Nat.{ℕ, ◌+◌, ◌-◌, ◌≤◌, ◌<◌}
use mathlib.Core.Path.{◌≡◌, refl, sym, ap, ◌∙◌}
use mathlib.Core.Bool.{Bool, true, false, not, false≢true}
use mathlib.Core.List.{List}
use native.Mathlib.Omega.{arith}
use borrow.Author.Tests.{eq-eqb, ne_eqb}
use lib.ListN.{get_or, set}
use lib.Seq.{get_or-set_other}
use lib.Dec.{eqb, ltb}
use Rattle.std.specs.Prelude.{None, Ok, Option, Some}
use Rattle.basics.specs.Limits.{clock_limit}
use Rattle.channel.specs.declared.Phase.{Phase}
use Rattle.channel.specs.declared.Phase.TheVariants.{Arbitrating, Granted}
use Rattle.channel.specs.declared.Channel.{Channel}
use Rattle.channel.specs.declared.Request.{Request}
use Rattle.channel.specs.Channel.{owner_place, has_request, request_of, with_request, changed}
use Rattle.channel.specs.Line.{is_inactive, waits}
use Rattle.act.specs.declared.Route.{Route}
use Rattle.act.specs.declared.Ending.{Ending}
use Rattle.act.specs.declared.Ending.TheVariants.{Kept, Released, Marked}
use Rattle.act.specs.declared.Entry.{Entry}
use Rattle.act.specs.Cycle.{is_marked, clocked, freed, ended_by}
use Rattle.act.specs.Turn.{arbitration_time}
use Rattle.step.specs.declared.acts.Standing.{Standing}
use Rattle.step.specs.declared.acts.Acted.{Acted}
use Rattle.step.specs.declared.acts.Chosen.{Chosen}
use Rattle.step.specs.declared.turns.State.{State}
use Rattle.step.specs.declared.turns.Tenure.{Tenure}
use Rattle.step.specs.inner.Machine.{
  NoneAsk,
  NoneWait,
  IsChosen,
  marked,
  channel_of,
  standing_of,
  full_acted,
  granted_by,
  rest_acted,
  standing_after,
  stay_of,
}
use Rattle.step.specs.inner.Turns.{
  Running,
  running_of,
  decided_in,
  marks_in,
  step_run,
  Held,
  held,
  tenure_of,
  after_held,
  stepped_on,
  cycles_run,
  turn_by,
  turn_of,
  Lows,
}
use Rattle.step.proofs.SearchLaws.{winner_small}
use Rattle.step.proofs.CarryLaws.{still}
use Rattle.step.proofs.DecideLaws.{decides_full, decides_grant, decides_rest}
use Rattle.step.proofs.MachineLaws.{put_same, put_ended}

-- an owner's place put back after its cycles, from what the calls said
module _ (s : State) (ch : Channel) (o : ℕ) (active : is_inactive ch.inactive o ≡ false) where
  abbrev was : Channel
  was = channel_of s.standing true ch

  pub put_back : (h : Held) (t : Tenure) (next : Standing) (mark : Bool) (after : Channel) (slave master : List ℕ) (low : ℕ) → t ≡ h.tenure
      → next ≡ standing_after s.standing t.clock t.tally t.ending → mark ≡ is_marked t.ending
      → after ≡ with_request ch o t.request → slave ≡ h.slave → master ≡ h.master
      → running_of (record { standing = next; done = t.done; full = t.full; low = low }) true
      (marked after (set after.inactive o mark)) slave master
      ≡ after_held was o h
  unfolding standing_after with_request
  put_back h t next mark after slave master low a b c p d e =
      rw (b, c, p, d, e, a)
      (ap
      (λ (x : Channel).
      record {
        channel = x;
        tally = h.tenure.tally;
        done = h.tenure.done;
        full = h.tenure.full;
        slave = h.slave;
        master = h.master;
      })
      (put_ended was o active h.tenure.ending h.tenure.clock h.tenure.request))

-- a step that moves nothing and leaves the requests
module _ (route : Route) (w : Running) (a : Acted)
    (d : stay_of a (request_of w.channel (owner_place w.channel.phase)) ≡ decided_in route w.channel w.tally) where
  abbrev left_as : Channel
  left_as = changed w.channel a.standing.phase a.standing.asked true a.standing.clock (marks_in route w.channel w.tally)

  pub stays_done : (later : Channel) (e : Entry) → later ≡ left_as → a.answer ≡ Ok e
      → record { channel = later; tally = a.standing.tally; done = w.done + 1; full = false; slave = w.slave; master = w.master }
      ≡ step_run route w
  unfolding step_run
  stays_done later e m q =
      let x = still w.slave w.master in
      rw (m, ← d, q, put_same left_as (owner_place w.channel.phase), x.0, x.1)

  pub stays_full : marks_in route w.channel w.tally ≡ w.channel.inactive → a ≡ full_acted (standing_of w.channel w.tally)
      → record { channel = w.channel; tally = w.tally; done = w.done; full = true; slave = w.slave; master = w.master }
      ≡ step_run route w
  unfolding step_run full_acted
  stays_full same q =
      let x = still w.slave w.master in
      rw (← d, same, q, put_same w.channel (owner_place w.channel.phase), x.0, x.1)

-- a release or an idle step is always done
rests : (asked : Option ℕ) (s : Standing) (o : ℕ) → (e : Entry) × ((rest_acted asked s o).answer ≡ Ok e)
rests None s o = (_, refl)
rests (Some t) s o = (_, refl)

-- each kind of turn, from what its calls said
module _ (route : Route) (budget : ℕ) (s : State) (ever : Bool) (ch : Channel) (slave master : List ℕ) where
  abbrev before : Running
  before = running_of s ever ch slave master

  abbrev request : Request
  request = request_of ch (owner_place s.standing.phase)

  module _ (p : s.standing.phase ≡ Arbitrating) where
    arbitrates : step_run route before ≡ turn_of route budget before
    unfolding turn_of
    arbitrates = sym (ap (turn_by route budget before) p)

    pub turn_full : (low : ℕ) → ltb clock_limit (s.standing.clock + arbitration_time ever) ≡ true
        → running_of (record { standing = s.standing; done = s.done; full = true; low = low }) ever ch slave master
        ≡ turn_of route budget before
    turn_full low t =
        let x = decides_full route s.standing ever request ch p _ t refl in
        stays_full route before (full_acted s.standing) x.0 (sym (ap (λ (y : Channel). y.inactive) x.1)) refl ∙ arbitrates

    pub turn_grant : (r : State) (a : Acted) (after : Channel) (base : ℕ) (c : Chosen)
        → ltb clock_limit (s.standing.clock + arbitration_time ever) ≡ false → IsChosen ch after base c
        → a ≡ granted_by s.standing ever c.winner c.active → r ≡ stepped_on a s.done c.low
        → running_of r true after slave master ≡ turn_of route budget before
    unfolding granted_by
    turn_grant r a after base c f i g e =
        let b = granted_by s.standing ever c.winner c.active in
        let x = decides_grant route s.standing ever request ch p _ after base c f i refl in
        rw (e, g) (stays_done route before b x.0 _ _ (ap (channel_of b.standing true) x.1) refl) ∙ arbitrates

  module _ (o : ℕ) (p : s.standing.phase ≡ Granted o) where
    rested : get_or ch.left o 0 ≡ 0 → step_run route before ≡ turn_of route budget before
    unfolding turn_of
    rested z = sym (ap (turn_by route budget before) p ∙ rw (eq-eqb (get_or ch.left o 0) 0 z))

    pub turn_rest : (r : State) (a : Acted) (low : ℕ) → get_or ch.left o 0 ≡ 0 → a ≡ rest_acted s.standing.asked s.standing o
        → r ≡ stepped_on a s.done low → running_of r true ch slave master ≡ turn_of route budget before
    turn_rest r a low z g e =
        let b = rest_acted s.standing.asked s.standing o in
        let none = ap (λ (y : Phase). eqb (get_or ch.left (owner_place y) 0) 0) p ∙ eq-eqb (get_or ch.left o 0) 0 z in
        let x = decides_rest route s.standing ever request ch o p _ none refl in
        let q = rests s.standing.asked s.standing o in
        rw (e, g) (stays_done route before b x.0 _ q.0 (ap (channel_of b.standing true) x.1) q.1) ∙ rested z

    pub turn_cycles : (later : Running) → (get_or ch.left o 0 ≡ 0 → ⊥) → later ≡ cycles_run route budget o before → later
        ≡ turn_of route budget before
    unfolding turn_of
    turn_cycles later n e = e ∙ sym (ap (turn_by route budget before) p ∙ rw (ne_eqb (get_or ch.left o 0) 0 n))

-- where the next search may begin
module _ (base low : ℕ) (ch : Channel) (x : Lows base low ch) where
  rest_lows : (asked : Option ℕ) (s : Standing) (o : ℕ) → s.phase ≡ ch.phase
      → Lows base low (changed ch (rest_acted asked s o).standing.phase (rest_acted asked s o).standing.asked
      true (rest_acted asked s o).standing.clock ch.inactive)
  rest_lows None s o e = record { most = x.most; small = x.small; none = x.none; clear = x.clear; owner = rw e x.owner }
  rest_lows (Some t) s o e = record { most = x.most; small = x.small; none = x.none; clear = x.clear; owner = x.small }

  pub lows_rest : (r : State) (a : Acted) (s : Standing) (o done : ℕ) → s.phase ≡ ch.phase → a ≡ rest_acted s.asked s o → r
      ≡ stepped_on a done low
      → Lows base r.low (changed ch r.standing.phase r.standing.asked true r.standing.clock ch.inactive)
  lows_rest r a s o done p g e = rw (e, g) (rest_lows s.asked s o p)

  module _ (o : ℕ) (p : ch.phase ≡ Granted o) (some : has_request ch.left o ≡ true) where
    low_owner : low ≤ o
    low_owner = rw p at x.owner

    base_owner : (l : ℕ) → l < base → l ≡ o → ⊥
    base_owner l h e = false≢true (sym (x.none l h) ∙ ap (has_request ch.left) e ∙ some)

    -- an owner's place has no part in it
    module _ (left : ℕ) (mark : Bool) where
      still_none : NoneAsk (set ch.left o left) base
      still_none l h = ap (λ (y : ℕ). not (eqb y 0)) (get_or-set_other ch.left o l left 0 (base_owner l h)) ∙ x.none l h

      still_clear : NoneWait (set ch.left o left) ch.inactive low
      unfolding waits
      still_clear l h = rw (get_or-set_other ch.left o l left 0 (λ e. omega (arith, e, h, low_owner))) (x.clear l h)

      marked_clear : NoneWait (set ch.left o left) (set ch.inactive o mark) low
      unfolding waits
      marked_clear l h =
          let other : l ≡ o → ⊥ = λ e. omega (arith, e, h, low_owner) in
          rw (get_or-set_other ch.left o l left 0 other, get_or-set_other ch.inactive o l mark false other) (x.clear l h)

    pub lows_held : (clock : ℕ) (slot : Request) (ending : Ending) → Lows base low
        (ended_by ending (with_request (clocked ch clock) o slot) o)
    unfolding with_request clocked freed
    lows_held clock slot Kept =
        record {
          most = x.most;
          small = x.small;
          none = still_none slot.left false;
          clear = still_clear slot.left false;
          owner = x.owner;
        }
    lows_held clock slot (Released hold) =
        record {
          most = x.most;
          small = x.small;
          none = still_none slot.left false;
          clear = still_clear slot.left false;
          owner = x.small;
        }
    lows_held clock slot (Marked hold) =
        record {
          most = x.most;
          small = x.small;
          none = still_none slot.left true;
          clear = marked_clear slot.left true;
          owner = x.small;
        }

-- after a grant
module _ (base low : ℕ) (s : Standing) (ever : Bool) (ch : Channel) (x : Lows base low (channel_of s ever ch)) where
  grant_lows : (after : Channel) (c : Chosen) (a : Standing) → IsChosen ch after base c → a.phase ≡ Granted c.winner
      → Lows base c.low (channel_of a true after)
  grant_lows after c a i e =
      let left = ap (λ (y : Channel). y.left) i.marks in
      record {
        most = x.most;
        small = omega (arith, i.low, winner_small ch.left ch.inactive);
        none = rw left x.none;
        clear = rw left i.clear;
        owner = rw e (omega (arith, i.low, i.won));
      }

  pub lows_grant : (r : State) (a : Acted) (t : Standing) (ever : Bool) (done : ℕ) (after : Channel) (c : Chosen) → IsChosen ch after base c
      → a ≡ granted_by t ever c.winner c.active → r ≡ stepped_on a done c.low
      → Lows base r.low (channel_of r.standing true after)
  unfolding granted_by
  lows_grant r a t ever done after c i g e = rw (e, g) (grant_lows after c (granted_by t ever c.winner c.active).standing i refl)

-- an owner's cycles leave it so
pub lows_cycles : (route : Route) (budget base low o : ℕ) (w : Running) → Lows base low w.channel → w.channel.phase ≡ Granted o
    → has_request w.channel.left o ≡ true → (later : Running) (k : ℕ) → k ≡ low → later ≡ cycles_run route budget o w
    → Lows base k later.channel
lows_cycles route budget base low o w x p some later k e f =
    let t = (held route w.channel.asked (budget - w.done) (tenure_of w o) w.slave w.master).tenure in
    rw (e, f) (lows_held base low w.channel x o p some t.clock t.request t.ending)
