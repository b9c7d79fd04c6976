-- Every byte of both stores is the one that the last cycle into it carried, or the starting value.
use Prim.Native.Nat.{ℕ, zero, suc, ◌+◌, ◌-◌, ◌≤◌, ◌<◌}
use mathlib.Core.Path.{◌≡◌, refl, sym, ap, ◌∙◌}
use mathlib.Core.Bool.{Bool, true, false, cond, not, ◌&&◌, false≢true}
use mathlib.Core.List.{List, [], ◌∷◌, ◌++◌}
use native.Mathlib.Nat.{add-zero}
use native.Mathlib.Omega.{arith}
use borrow.Author.Tests.{eqb-true, eqb-false, eq-eqb, le-leb, lt-ltb, leb-true, leb-false, ltb-true, ltb-false}
use lib.ListN.{length, get_or, take, drop, length-drop, get_or-append}
use lib.Seq.{paste, length_paste_head, length-take-le, get_or-append-add, get_or-take, get_or-drop}
use lib.Dec.{eqb, leb, ltb}
use Rattle.std.specs.Prelude.{None, Some}
use Rattle.basics.proofs.Tests.{by_test, and_left, and_right}
use Rattle.refusal.specs.declared.Refusal.{Refusal}
use Rattle.frame.specs.declared.Setup.{Setup}
use Rattle.frame.proofs.FrameLaws.{framed_slaves}
use Rattle.frame.proofs.SlaveLaws.{places}
use Rattle.channel.specs.declared.Request.{Request}
use Rattle.channel.specs.Channel.{request_of}
use Rattle.sound.proofs.SoundFacts.{sound_is}
use Rattle.sound.proofs.RequestFacts.{Fits, fits_is}
use Rattle.act.specs.declared.Route.{Route}
use Rattle.act.specs.Cycle.{route_of, cycle_bytes, cycle_of, cycle_entry, cycle_turn}
use Rattle.act.specs.Turn.{grant_turn, leave_turn}
use Rattle.step.specs.declared.Plan.{Plan}
use Rattle.step.specs.declared.Plan.TheVariants as plan
use Rattle.step.specs.Plan.{act_plan, plan_of}
use Rattle.step.specs.Step.{Ready, Roomy, advanced_by, step_of, carry_of, moved_slave, moved_master, slave_by, master_by, slave_after, master_after}
use Rattle.step.proofs.PlanLaws.{says, planned_roomy, plan_ready}
use Rattle.demands.specs.History.{Moment, Act, posts, steps, no_tally, next, moment_after}
use Rattle.demands.specs.Bytes.{Byte, further, bytes_from, first_byte, carried}
use Rattle.demands.specs.Stores.{
  Side,
  slave_side,
  master_side,
  across,
  store_of,
  end_in,
  goes_to,
  source_in,
  source_by,
  Origin,
  start,
  cycle,
  brought_from,
  or_else,
  last_into,
  brought,
}
use Rattle.demands.proofs.KeptLaws.{by_ready}
use Rattle.demands.proofs.OrderLaws.{further_none, further_more}

-- place x is one of the n places from `at` on
abbrev is_among : ℕ → ℕ → ℕ → Bool
is_among at n x = leb at x && ltb x (at + n)

among_is : (at n x : ℕ) → is_among at n x ≡ true → (at ≤ x) × (x < at + n)
among_is at n x e = (leb-true at x (and_left _ _ e), ltb-true x (at + n) (and_right (leb at x) _ e))

among_by : (at n x : ℕ) → at ≤ x → x < at + n → is_among at n x ≡ true
among_by at n x h k = rw (le-leb at x h, lt-ltb x (at + n) k)

-- each byte of a store into which n bytes were copied
copied : (d : List ℕ) (at : ℕ) (s : List ℕ) (from n x : ℕ) → at + n ≤ length d → from + n ≤ length s
    → get_or (paste d at (drop from s) n) x 0 ≡ cond (is_among at n x) (get_or s (from + (x - at)) 0) (get_or d x 0)
copied d at s from n x hd hs =
    let src = drop from s in
    let fits : n ≤ length src = rw (length-drop from s) (omega arith) in
    let head = length_paste_head d at src n (omega arith) fits in
    by_test (leb at x)
    (λ t.
    let a = leb-true at x t in
    by_test (ltb x (at + n))
    (λ u.
    let b = ltb-true x (at + n) u in
    let first = length-take-le at d (omega arith) in
    let e : at + (x - at) ≡ x = omega (arith, a) in
    rw (t, u)
    (get_or-append (take at d ++ take n src) (drop (at + n) d) 0 x (omega (arith, head, b))
    ∙ ap (λ (k : ℕ). get_or (take at d ++ take n src) k 0) (sym (ap (λ (k : ℕ). k + (x - at)) first ∙ e))
    ∙ get_or-append-add (take at d) (take n src) (x - at) 0
    ∙ get_or-take n src (x - at) 0 (omega (arith, a, b))
    ∙ get_or-drop from s (x - at) 0))
    (λ u.
    let b = ltb-false x (at + n) u in
    let e : at + n + (x - (at + n)) ≡ x = omega (arith, b) in
    rw (t, u)
    (ap (λ (k : ℕ). get_or (paste d at src n) k 0) (sym (ap (λ (k : ℕ). k + (x - (at + n))) head ∙ e))
    ∙ get_or-append-add (take at d ++ take n src) (drop (at + n) d) (x - (at + n)) 0
    ∙ get_or-drop (at + n) d (x - (at + n)) 0
    ∙ ap (λ (k : ℕ). get_or d k 0) e)))
    (λ t.
    let a = leb-false at x t in
    let first = length-take-le at d (omega arith) in
    rw t
    (get_or-append (take at d ++ take n src) (drop (at + n) d) 0 x (omega (arith, head, a))
    ∙ get_or-append (take at d) (take n src) 0 x (omega (arith, first, a))
    ∙ get_or-take at d x 0 (omega (arith, a))))

-- the place that one of n bytes with consecutive ends came from
goes_further : (side : Side) (i : ℕ) (b : Byte) → goes_to side (further i b) ≡ goes_to side b
goes_further slave_side i b = refl
goes_further master_side i b = refl

among_none : (at x : ℕ) → is_among at 0 x ≡ false
among_none at x =
    by_test (is_among at 0 x) (λ t. let k = among_is at 0 x t in absurd (omega (arith, k.0, k.1))) (λ f. f)

-- the places from `at` on are `at` itself and those from the next one on
module _ (at n x : ℕ) where
  among_next : (at ≡ x → ⊥) → is_among at (suc n) x ≡ is_among (at + 1) n x
  among_next other =
      by_test (is_among (at + 1) n x)
      (λ t. let k = among_is (at + 1) n x t in among_by at (suc n) x (omega (arith, k.0)) (omega (arith, k.1)) ∙ sym t)
      (λ f.
      by_test (is_among at (suc n) x)
      (λ t.
      let k = among_is at (suc n) x t in
      let l : at + 1 ≤ x = omega (arith, k.0, other) in
      absurd (false≢true (sym f ∙ among_by (at + 1) n x l (omega (arith, k.1)))))
      (λ g. g ∙ sym f))

source_here : (at from n x : ℕ) → at ≡ x → Some from ≡ cond (is_among at (suc n) x) (Some (from + (x - at))) None
source_here at from n x e =
    let s : from + (x - at) ≡ from = omega (arith, e) in
    rw (among_by at (suc n) x (omega (arith, e)) (omega (arith, e)), s)

source_later : (at from n x : ℕ) → (at ≡ x → ⊥)
    → cond (is_among (at + 1) n x) (Some (from + 1 + (x - (at + 1)))) None ≡ cond (is_among at (suc n) x) (Some (from + (x - at))) None
source_later at from n x other =
    rw (among_next at n x other)
    (by_test (is_among (at + 1) n x)
    (λ t. let k = among_is (at + 1) n x t in rw t (ap Some (omega (arith, k.0))))
    (λ f. rw f))

-- a byte's ends at consecutive places
abbrev EndsFrom : Setup → Side → ℕ → ℕ → Byte → Type 0
EndsFrom setup side n at b = (i : ℕ) → i < n → end_in setup side (further i b) ≡ Some (at + i)

ends_first : (setup : Setup) (side : Side) (n at : ℕ) (b : Byte) → EndsFrom setup side (suc n) at b → end_in setup side b ≡ Some at
ends_first setup side n at b h =
    ap (end_in setup side) (sym (further_none b)) ∙ h 0 (omega arith) ∙ ap Some (add-zero at)

ends_next : (setup : Setup) (side : Side) (n at : ℕ) (b : Byte) → EndsFrom setup side (suc n) at b → EndsFrom setup side n (at + 1) (further 1 b)
ends_next setup side n at b h i k =
    let e : at + suc i ≡ at + 1 + i = omega arith in
    ap (end_in setup side) (further_more i b) ∙ h (suc i) (omega arith) ∙ ap Some e

source_run : (setup : Setup) (side : Side) (x n at from : ℕ) (b : Byte) → goes_to side b ≡ true → EndsFrom setup side n at b
    → EndsFrom setup (across side) n from b → source_in setup side x (bytes_from n b) ≡ cond (is_among at n x) (Some (from + (x - at))) None
source_run setup side x zero at from b g h k = rw (among_none at x)
source_run setup side x (suc n) at from b g h k =
    rw (g, ends_first setup side n at b h, ends_first setup (across side) n from b k)
    (by_test (eqb at x)
    (λ t. rw t (source_here at from n x (eqb-true at x t)))
    (λ f.
    rw f
    (source_run setup side x n (at + 1) (from + 1) (further 1 b) (goes_further side 1 b ∙ g) (ends_next setup side n at b h)
    (ends_next setup (across side) n from b k)
    ∙ source_later at from n x (eqb-false at x f))))

source_none : (setup : Setup) (side : Side) (x n : ℕ) (b : Byte) → goes_to side b ≡ false → source_in setup side x (bytes_from n b) ≡ None
source_none setup side x zero b g = refl
source_none setup side x (suc n) b g = rw g (source_none setup side x n (further 1 b) (goes_further side 1 b ∙ g))

-- the stores after a plan
abbrev store_by : Setup → Moment → Plan → Side → List ℕ
store_by setup m p slave_side = slave_by setup m.channel p m.slave m.master
store_by setup m p master_side = master_by setup m.channel p m.slave m.master

-- one cycle, and either store
module _ (setup : Setup) (m : Moment) (ready : Ready setup m.channel (length m.slave) (length m.master)) (o : ℕ)
    (e : act_plan setup m.channel ≡ plan.Cycle o) where
  abbrev q : Request
  q = request_of m.channel o

  abbrev route : Route
  route = route_of setup o q

  abbrev n : ℕ
  n = cycle_bytes route q

  room : Roomy route q (length m.slave) (length m.master)
  room = planned_roomy setup m.channel o (length m.slave) (length m.master) ready e

  fits : Fits setup o q
  fits =
      let p = says setup m.channel (plan.Cycle o) e in
      let k = (sound_is setup m.channel ready.sound).settled in
      fits_is setup o q (k.request o (omega (arith, (k.owner o p.0).small)) (rw p.1)).1

  -- where the cycle's bytes begin on each side, and that they lie there one after the other, inside the store
  abbrev begins : Side → ℕ
  begins slave_side = (carry_of route q).place
  begins master_side = (carry_of route q).offset

  ends : (side : Side) → EndsFrom setup side n (begins side) (first_byte q)
  unfolding carry_of route_of
  ends slave_side i h = (places setup.slaves (framed_slaves setup ready.framed) q.space q.address q.left _ _ i fits.found (omega arith)).0
  ends master_side i h = refl

  inside : (side : Side) → begins side + n ≤ length (store_of side m)
  unfolding carry_of
  inside slave_side = omega (arith, room.slave)
  inside master_side = omega (arith, room.master)

  write_only : eqb q.direction 1 ≡ not (eqb q.direction 0)
  write_only =
      by_test (eqb q.direction 0)
      (λ t. let z = eqb-true q.direction 0 t in rw (t, z))
      (λ f. let z = eqb-false q.direction 0 f in rw f (eq-eqb q.direction 1 (omega (arith, z, fits.direction))))

  copies : (side : Side) → store_by setup m (plan.Cycle o) side
      ≡ cond (goes_to side (first_byte q)) (paste (store_of side m) (begins side) (drop (begins (across side)) (store_of (across side) m)) n) (store_of side m)
  unfolding moved_slave moved_master carry_of
  copies slave_side = rw write_only (by_test (eqb q.direction 0) (λ t. rw t) (λ f. rw f))
  copies master_side = refl

  brought_by : (side : Side) (x : ℕ) → get_or (store_by setup m (plan.Cycle o) side) x 0
      ≡ brought side x m (brought_from m (source_in setup side x (bytes_from n (first_byte q))))
  brought_by side x =
      rw (copies side)
      (by_test (goes_to side (first_byte q))
      (λ t.
      rw (t, source_run setup side x n (begins side) (begins (across side)) (first_byte q) t (ends side) (ends (across side)))
      (copied (store_of side m) (begins side) (store_of (across side) m) (begins (across side)) n x (inside side) (inside (across side))
      ∙ by_test (is_among (begins side) n x) (λ u. rw u) (λ u. rw u)))
      (λ f. rw (f, source_none setup side x n (first_byte q) f)))

-- one step
by_plan : (setup : Setup) (m : Moment) (side : Side) (x : ℕ)
    → Ready setup m.channel (length m.slave) (length m.master) → (p : Plan) → act_plan setup m.channel ≡ p
    → get_or (store_by setup m p side) x 0
    ≡ brought side x m (brought_from m (source_in setup side x (carried m.channel (advanced_by setup m.channel p).answer)))
unfolding grant_turn leave_turn cycle_turn cycle_entry cycle_of
by_plan setup m slave_side x s plan.Idle e = refl
by_plan setup m master_side x s plan.Idle e = refl
by_plan setup m slave_side x s (plan.Refused why) e = refl
by_plan setup m master_side x s (plan.Refused why) e = refl
by_plan setup m slave_side x s (plan.Grant w) e = refl
by_plan setup m master_side x s (plan.Grant w) e = refl
by_plan setup m slave_side x s (plan.Leave o) e = refl
by_plan setup m master_side x s (plan.Leave o) e = refl
by_plan setup m side x s (plan.Cycle o) e = brought_by setup m s o e side x

-- a refused step leaves both stores
left_store : (setup : Setup) (m : Moment) (side : Side) (x : ℕ) (why : Refusal) → get_or (store_by setup m (plan.Refused why) side) x 0 ≡ get_or (store_of side m) x 0
left_store setup m slave_side x why = refl
left_store setup m master_side x why = refl

by_step : (setup : Setup) (m : Moment) (side : Side) (x : ℕ)
    → get_or (store_by setup m (plan_of setup m.channel (length m.slave) (length m.master)) side) x 0
    ≡ brought side x m
    (brought_from m
    (source_in setup side x (carried m.channel (step_of setup m.channel no_tally m.slave m.master).answer)))
unfolding step_of
by_step setup m side x =
    by_ready setup m
    (λ r. rw (plan_ready setup m.channel (length m.slave) (length m.master) r) (by_plan setup m side x r (act_plan setup m.channel) refl))
    (λ why e. rw e (left_store setup m side x why))

next_store : (setup : Setup) (m : Moment) (side : Side)
    → store_of side (next setup m steps) ≡ store_by setup m (plan_of setup m.channel (length m.slave) (length m.master)) side
unfolding slave_after master_after
next_store setup m slave_side = refl
next_store setup m master_side = refl

posted_store : (setup : Setup) (m : Moment) (side : Side) (a : _) → store_of side (next setup m (posts a)) ≡ store_of side m
posted_store setup m slave_side a = refl
posted_store setup m master_side a = refl

by_act : (setup : Setup) (m : Moment) (side : Side) (x : ℕ) (a : Act)
    → get_or (store_of side (next setup m a)) x 0 ≡ brought side x m (brought_from m (source_by setup side x m a))
by_act setup m side x (posts p) = ap (λ (store : List ℕ). get_or store x 0) (posted_store setup m side p)
by_act setup m side x steps = ap (λ (store : List ℕ). get_or store x 0) (next_store setup m side) ∙ by_step setup m side x

-- a later cycle, or else the earlier origin
by_later : (side : Side) (x : ℕ) (m later : Moment) (o earlier : Origin) → get_or (store_of side later) x 0 ≡ brought side x m earlier
    → brought side x later o ≡ brought side x m (or_else o earlier)
by_later side x m later start earlier e = e
by_later side x m later (cycle before k) earlier e = refl

-- Demand 3, the stores. From any start, after any posts and steps: every byte of both stores is the source byte, as it stood before that cycle, of the
-- last cycle that went into it, or the starting value when none did.
pub last_cycle : (setup : Setup) (m : Moment) (side : Side) (x : ℕ) (acts : List Act)
    → get_or (store_of side (moment_after setup m acts)) x 0 ≡ brought side x m (last_into setup side x m acts)
last_cycle setup m side x [] = refl
last_cycle setup m side x (a ∷ acts) =
    last_cycle setup (next setup m a) side x acts
    ∙ by_later side x m (next setup m a) (last_into setup side x (next setup m a) acts) (brought_from m (source_by setup side x m a)) (by_act setup m side x a)
