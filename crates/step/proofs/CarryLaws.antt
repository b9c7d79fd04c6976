-- What a step was decided to move, and where it has room.
use Prim.Native.Nat.{ℕ, ◌+◌, ◌-◌, ◌≤◌, ◌<◌}
use mathlib.Core.Path.{◌≡◌, refl, sym}
use mathlib.Core.Bool.{true, false, ◌&&◌, and-false}
use mathlib.Core.List.{List}
use native.Mathlib.Omega.{arith}
use borrow.Author.Tests.{leb-true, lt-leb}
use lib.Dec.{leb}
use lib.ListN.{length, drop}
use lib.Seq.{paste-zero}
use Rattle.std.specs.Prelude.{Err, Ok, Result}
use Rattle.refusal.specs.declared.Refusal.{Refusal}
use Rattle.basics.proofs.Tests.{and_left, and_right, less_leb}
use Rattle.frame.specs.declared.Setup.{Setup}
use Rattle.channel.specs.declared.Channel.{Channel}
use Rattle.channel.specs.Channel.{request_of}
use Rattle.act.specs.Cycle.{route_of}
use Rattle.tally.specs.declared.Tally.{Tally}
use Rattle.step.specs.declared.Carry.{Carry}
use Rattle.step.specs.declared.Plan.{Plan}
use Rattle.step.specs.declared.Plan.TheVariants.{Idle, Refused, Grant, Leave, Cycle}
use Rattle.step.specs.Plan.{act_plan, ready_verdict, plan_by, plan_of}
use Rattle.step.specs.Step.{Ready, Room, carry_fits, no_carry, carry_by, moved_slave, moved_master, slave_by, master_by, slave_after, master_after, decision_of}
use Rattle.step.proofs.PlanLaws.{planned_roomy, ready_is, carry_room}

module _ (c : Carry) (s m : ℕ) where
  pub no_slave_lem : s < c.bytes → false ≡ carry_fits c s m
  no_slave_lem h = rw (lt-leb (c.place + c.bytes) s (omega (arith, h)))

  pub no_master : m < c.bytes → false ≡ carry_fits c s m
  no_master h = rw (lt-leb (c.offset + c.bytes) m (omega (arith, h)), and-false)

  pub both_room : c.bytes ≤ s → c.bytes ≤ m → (leb c.place (s - c.bytes) && leb c.offset (m - c.bytes)) ≡ carry_fits c s m
  both_room h k = rw (less_leb c.place c.bytes s h, less_leb c.offset c.bytes m k)

  pub room_is : carry_fits c s m ≡ true → Room c s m
  room_is e =
      record {
        slave = leb-true (c.place + c.bytes) s (and_left _ _ e);
        master = leb-true (c.offset + c.bytes) m (and_right (leb (c.place + c.bytes) s) _ e);
      }

-- a step that moves nothing leaves the stores
pub still : (slave master : List ℕ) → (moved_slave no_carry slave master ≡ slave) × (moved_master no_carry slave master ≡ master)
unfolding moved_slave moved_master
still slave master = (refl, sym (paste-zero master 0 (drop 0 slave)))

-- what a plan moves leaves both stores as the definitions say
module _ (setup : Setup) (ch : Channel) (slave master : List ℕ) where
  pub carried : (p : Plan) → (moved_slave (carry_by setup ch p) slave master ≡ slave_by setup ch p slave master)
      × (moved_master (carry_by setup ch p) slave master ≡ master_by setup ch p slave master)
  carried Idle = still slave master
  carried (Refused why) = still slave master
  carried (Grant w) = still slave master
  carried (Leave o) = still slave master
  carried (Cycle o) = (refl, refl)

  nothing : Room no_carry (length slave) (length master)
  nothing = record { slave = omega arith; master = omega arith }

  by_plan : Ready setup ch (length slave) (length master) → (p : Plan) → act_plan setup ch ≡ p
      → Room (carry_by setup ch p) (length slave) (length master)
  by_plan r Idle e = nothing
  by_plan r (Refused why) e = nothing
  by_plan r (Grant w) e = nothing
  by_plan r (Leave o) e = nothing
  by_plan r (Cycle o) e =
      let x = planned_roomy setup ch o (length slave) (length master) r e in
      carry_room (route_of setup o (request_of ch o)) (request_of ch o) (length slave) (length master) x

  pub act_room : Ready setup ch (length slave) (length master) → Room (carry_by setup ch (act_plan setup ch)) (length slave) (length master)
  act_room r = by_plan r (act_plan setup ch) refl

  by_verdict : (v : Result Unit Refusal) → ready_verdict setup ch (length slave) (length master) ≡ v
      → Room (carry_by setup ch (plan_by setup ch v)) (length slave) (length master)
  by_verdict (Ok _) e = act_room (ready_is setup ch (length slave) (length master) e)
  by_verdict (Err why) e = nothing

  -- and has room in them
  abbrev planned : Carry
  planned = carry_by setup ch (plan_by setup ch (ready_verdict setup ch (length slave) (length master)))

  pub plan_room : Room planned (length slave) (length master)
  plan_room = by_verdict (ready_verdict setup ch (length slave) (length master)) refl

  pub decided_room : (t : Tally) → Room (decision_of setup ch t slave master).carry (length slave) (length master)
  unfolding decision_of plan_of
  decided_room t = plan_room

  pub plan_stores : (moved_slave planned slave master ≡ slave_after setup ch slave master)
      × (moved_master planned slave master ≡ master_after setup ch slave master)
  unfolding slave_after master_after plan_of
  plan_stores = carried (plan_by setup ch (ready_verdict setup ch (length slave) (length master)))

  pub decided_stores : (t : Tally) → (moved_slave (decision_of setup ch t slave master).carry slave master
      ≡ slave_after setup ch slave master)
      × (moved_master (decision_of setup ch t slave master).carry slave master ≡ master_after setup ch slave master)
  unfolding decision_of plan_of
  decided_stores t = plan_stores
