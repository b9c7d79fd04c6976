-- What each plan says of the channel, and that a planned cycle has all the room that it needs.
use Prim.Native.Nat.{ℕ, ◌+◌, ◌≤◌}
use mathlib.Core.Path.{◌≡◌, refl, ap}
use mathlib.Core.Bool.{true, false, ◌&&◌}
use mathlib.Core.List.{List}
use native.Mathlib.Omega.{arith}
use borrow.Author.Tests.{ltb-false, eqb-true, eq-eqb}
use lib.Dec.{eqb, ltb}
use lib.ListN.{get_or, length, length-drop}
use lib.Seq.{length-paste}
use Rattle.std.specs.Prelude.{Err}
use Rattle.refusal.specs.Refusal.{accepted}
use Rattle.basics.specs.Limits.{clock_limit}
use Rattle.refusal.specs.declared.Refusal.{Refusal}
use Rattle.refusal.specs.declared.Refusal.TheVariants.{ClockFull}
use Rattle.basics.proofs.Tests.{by_test, and_left, and_right}
use Rattle.frame.specs.Frame.{is_framed}
use Rattle.frame.specs.Find.{slave_store_length}
use Rattle.frame.specs.declared.Setup.{Setup}
use Rattle.frame.proofs.FrameLaws.{framed_slaves, framed_master, level_facts_of, limit_most}
use Rattle.frame.proofs.SlaveLaws.{store_most_lem}
use Rattle.channel.specs.declared.Phase.{Phase}
use Rattle.channel.specs.declared.Phase.TheVariants.{Arbitrating, Granted}
use Rattle.channel.specs.declared.Channel.{Channel}
use Rattle.channel.specs.declared.Request.{Request}
use Rattle.channel.specs.Channel.{request_of}
use Rattle.channel.specs.Line.{line, winner}
use Rattle.channel.specs.Slave.{slave_of}
use Rattle.sound.specs.Sound.{is_sound}
use Rattle.sound.proofs.SoundFacts.{sound_is}
use Rattle.sound.proofs.RequestFacts.{fits_is, slave_facts_of}
use Rattle.act.specs.declared.Route.{Route}
use Rattle.act.specs.Cycle.{route_of, cycle_entry, cycle_turn}
use Rattle.act.specs.Turn.{arbitration_time, grant_clock, grant_turn, leave_turn}
use Rattle.step.specs.declared.Plan.{Plan}
use Rattle.step.specs.declared.Plan.TheVariants.{Idle, Refused, Grant, Leave, Cycle}
use Rattle.step.specs.Plan.{next_of, within_clock, owner_plan, phase_plan, act_plan, ready_verdict, plan_by, plan_of}
use Rattle.step.specs.declared.Carry.{Carry}
use Rattle.step.specs.inner.Machine.{plan_in}
use Rattle.step.specs.Step.{Ready, Roomy, Room, advanced_by, carry_of, moved_slave, moved_master, slave_by, master_by}

-- what is known where a plan was made
abbrev Says : Setup → Channel → Phase → Plan → Type 0
Says setup ch p Idle = (o : ℕ) × (p ≡ Granted o) × (eqb (get_or ch.left o 0) 0 ≡ true) × (line ch ≡ false)
Says setup ch p (Refused why) = why ≡ ClockFull
Says setup ch p (Grant w) = (p ≡ Arbitrating) × (w ≡ winner ch.left ch.inactive) × (grant_clock ch ≤ clock_limit)
Says setup ch p (Leave o) = (p ≡ Granted o) × (eqb (get_or ch.left o 0) 0 ≡ true) × (line ch ≡ true)
Says setup ch p (Cycle o) =
    (p ≡ Granted o)
    × (eqb (get_or ch.left o 0) 0 ≡ false)
    × (ch.clock + (next_of setup o (request_of ch o)).time ≤ clock_limit)

-- a plan that takes time is made only where the clock has room for it
within_says : (setup : Setup) (ch : Channel) (p : Phase) (time : ℕ) (plan : Plan) → (ch.clock + time ≤ clock_limit → Says setup ch p plan)
    → Says setup ch p (within_clock ch time plan)
within_says setup ch p time plan h =
    by_test (ltb clock_limit (ch.clock + time))
    (λ t. rw t refl)
    (λ f. rw f (h (ltb-false clock_limit (ch.clock + time) f)))

owner_says : (setup : Setup) (ch : Channel) (o : ℕ) → Says setup ch (Granted o) (owner_plan setup ch o)
unfolding owner_plan
owner_says setup ch o =
    by_test (eqb (get_or ch.left o 0) 0)
    (λ z. rw z (by_test (line ch) (λ t. rw t (refl, z, t)) (λ f. rw f (o, refl, z, f))))
    (λ n. rw n (within_says setup ch (Granted o) (next_of setup o (request_of ch o)).time (Cycle o) (λ h. (refl, n, h))))

phase_says : (setup : Setup) (ch : Channel) (p : Phase) → Says setup ch p (phase_plan setup ch p)
phase_says setup ch Arbitrating =
    within_says setup ch Arbitrating (arbitration_time ch.ever) (Grant (winner ch.left ch.inactive)) (λ h. (refl, refl, h))
phase_says setup ch (Granted o) = owner_says setup ch o

pub says : (setup : Setup) (ch : Channel) (plan : Plan) → act_plan setup ch ≡ plan → Says setup ch ch.phase plan
unfolding act_plan
says setup ch plan e = rw e at (phase_says setup ch ch.phase)

-- the owner's request on a sound channel over stores of the right lengths has room in its row and in both stores
pub roomy : (setup : Setup) (ch : Channel) (o slave master : ℕ) → Ready setup ch slave master → ch.phase ≡ Granted o
    → eqb (get_or ch.left o 0) 0 ≡ false
    → Roomy (route_of setup o (request_of ch o)) (request_of ch o) slave master
unfolding route_of
roomy setup ch o slave master r phase some =
    let s = (sound_is setup ch r.sound).settled in
    let g = s.owner o phase in
    let q = request_of ch o in
    let f = fits_is setup o q (s.request o (omega (arith, g.small)) (rw some)).1 in
    let found = slave_facts_of setup r.framed q f in
    let m = framed_master setup r.framed in
    let most = store_most_lem setup.slaves (framed_slaves setup r.framed) in
    record {
      way =
          record {
            width = (level_facts_of setup r.framed o g.present).0.width;
            port = found.facts.port;
            some = f.some;
            end = omega (arith, found.range.ends, found.facts.end, limit_most (slave_of setup.slaves q).space);
            offset = omega (arith, f.master, m.1);
            begins = found.range.begins;
            start = omega (arith, found.inside, most);
          };
      slave = omega (arith, found.inside, found.range.begins, found.range.ends, r.slave);
      master = omega (arith, f.master, r.master);
    }

-- so it has where a cycle is planned
pub planned_roomy : (setup : Setup) (ch : Channel) (o slave master : ℕ) → Ready setup ch slave master → act_plan setup ch ≡ Cycle o
    → Roomy (route_of setup o (request_of ch o)) (request_of ch o) slave master
planned_roomy setup ch o slave master r e = let p = says setup ch (Cycle o) e in roomy setup ch o slave master r p.0 p.1

-- a call that is refused by neither 9 nor 8 is ready, and its plan is the act's
not_ready : {r : Refusal} → Err r ≡ accepted → ⊥
not_ready e = let z : ◌≡◌ {A = ℕ} 0 1 = cc in omega arith

pub ready_is : (setup : Setup) (ch : Channel) (slave master : ℕ) → ready_verdict setup ch slave master ≡ accepted
    → Ready setup ch slave master
unfolding ready_verdict
ready_is setup ch slave master e =
    let nine = by_test (is_framed setup && is_sound setup ch) (λ t. t) (λ f. absurd (not_ready (rw f at e))) in
    let e1 = rw nine at e in
    let lengths = eqb slave (slave_store_length setup.slaves) && eqb master setup.master in
    let eight = by_test lengths (λ t. t) (λ f. absurd (not_ready (rw f at e1))) in
    record {
      framed = and_left _ _ nine;
      sound = and_right (is_framed setup) _ nine;
      slave = eqb-true slave _ (and_left _ _ eight);
      master = eqb-true master _ (and_right (eqb slave (slave_store_length setup.slaves)) _ eight);
    }

-- and so an act may rely on it, whatever its stores
pub ready_act : (setup : Setup) (ch : Channel) (slave master : ℕ) → ready_verdict setup ch slave master ≡ accepted
    → Ready setup ch (slave_store_length setup.slaves) setup.master
ready_act setup ch slave master e =
    let r = ready_is setup ch slave master e in
    record { framed = r.framed; sound = r.sound; slave = refl; master = refl }

pub ready_by : (setup : Setup) (ch : Channel) (slave master : ℕ) → Ready setup ch slave master → ready_verdict setup ch slave master
    ≡ accepted
unfolding ready_verdict
ready_by setup ch slave master r = rw (r.framed, r.sound, eq-eqb slave _ r.slave, eq-eqb master _ r.master)

pub plan_ready : (setup : Setup) (ch : Channel) (slave master : ℕ) → Ready setup ch slave master → plan_of setup ch slave master
    ≡ act_plan setup ch
unfolding plan_of
plan_ready setup ch slave master r = ap (plan_by setup ch) (ready_by setup ch slave master r)

-- the plan is read off the step's answer
pub plan_in_lem : (setup : Setup) (ch : Channel) (p : Plan) → plan_in (advanced_by setup ch p).answer ≡ p
unfolding grant_turn leave_turn cycle_turn cycle_entry
plan_in_lem setup ch Idle = refl
plan_in_lem setup ch (Refused why) = refl
plan_in_lem setup ch (Grant w) = refl
plan_in_lem setup ch (Leave o) = refl
plan_in_lem setup ch (Cycle o) = refl

-- a refused act leaves the stores
pub refused_still : (setup : Setup) (ch : Channel) (p : Plan) (why : Refusal) (slave master : List ℕ) → (advanced_by setup ch p).answer
    ≡ Err why
    → (slave_by setup ch p slave master ≡ slave) × (master_by setup ch p slave master ≡ master)
refused_still setup ch Idle why slave master e = let z : ◌≡◌ {A = ℕ} 0 1 = cc in absurd (omega arith)
refused_still setup ch (Refused r) why slave master e = (refl, refl)
refused_still setup ch (Grant w) why slave master e = let z : ◌≡◌ {A = ℕ} 0 1 = cc in absurd (omega arith)
refused_still setup ch (Leave o) why slave master e = let z : ◌≡◌ {A = ℕ} 0 1 = cc in absurd (omega arith)
refused_still setup ch (Cycle o) why slave master e = let z : ◌≡◌ {A = ℕ} 0 1 = cc in absurd (omega arith)

-- a cycle's bytes are some of those that are left, so there is room for them too
pub carry_room : (route : Route) (q : Request) (s m : ℕ) → Roomy route q s m → Room (carry_of route q) s m
unfolding carry_of
carry_room route q s m a = record { slave = omega (arith, a.slave); master = omega (arith, a.master) }

-- the lengths of the stores after bytes were carried
pub carried_lengths : (c : Carry) (slave master : List ℕ) → Room c (length slave) (length master)
    → (length (moved_slave c slave master) ≡ length slave) × (length (moved_master c slave master) ≡ length master)
unfolding moved_slave moved_master
carried_lengths c slave master a =
    by_test (eqb c.direction 0)
    (λ t. rw t (refl, length-paste master c.offset _ c.bytes a.master (rw length-drop (omega (arith, a.slave)))))
    (λ f. rw f (length-paste slave c.place _ c.bytes a.slave (rw length-drop (omega (arith, a.master))), refl))

-- and so after a cycle
pub moved_lengths : (route : Route) (q : Request) (slave master : List ℕ) → Roomy route q (length slave) (length master)
    → (length (moved_slave (carry_of route q) slave master) ≡ length slave) ×
    (length (moved_master (carry_of route q) slave master) ≡ length master)
moved_lengths route q slave master a = carried_lengths (carry_of route q) slave master (carry_room route q (length slave) (length master) a)
