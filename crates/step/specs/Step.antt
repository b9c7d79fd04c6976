-- Document 01, "One step": the step itself, on the channel and on both stores, and its entry.
use Rattle.act.specs.declared.Entry.{Entry}
use Rattle.refusal.specs.declared.Refusal.{Refusal}
use Rattle.std.specs.Prelude.{ℕ, ◌+◌, ◌-◌, ◌≤◌, ◌<◌, ◌≡◌, Bool, true, cond, ◌&&◌, List, [], ◌∷◌, length, drop, eqb, leb, Err, Ok, Result}
use Rattle.std.proofs.Math.Seq.{paste}
use Rattle.basics.specs.Limits.{memory_end, store_most}
use Rattle.refusal.specs.Refusal.{refusal_number}
use Rattle.cycle.specs.Cycle.{is_width, is_port}
use Rattle.frame.specs.Frame.{is_framed}
use Rattle.frame.specs.Find.{slave_store_length}
use Rattle.frame.specs.declared.Setup.{Setup}
use Rattle.channel.specs.declared.Channel.{Channel}
use Rattle.channel.specs.declared.Request.{Request}
use Rattle.channel.specs.Channel.{request_of}
use Rattle.sound.specs.Sound.{is_sound}
use Rattle.tally.specs.declared.Tally.{Tally}
use Rattle.tally.specs.Tally.{add_entry}
use Rattle.act.specs.declared.Route.{Route}
use Rattle.step.specs.declared.Plan.{Plan}
use Rattle.step.specs.declared.Plan.TheVariants.{Idle, Refused, Grant, Leave, Cycle}
use Rattle.step.specs.declared.Stepped.{Stepped}
use Rattle.step.specs.declared.Carry.{Carry}
use Rattle.step.specs.declared.Decision.{Decision}
use Rattle.act.specs.Cycle.{route_of, cycle_bytes, Turned, cycle_turn}
use Rattle.act.specs.Entry.{entry_numbers}
use Rattle.act.specs.Turn.{grant_turn, leave_turn, idle_turn}
use Rattle.step.specs.Plan.{next_of, plan_of}

-- a plan in the paper's numbers: the refusal; or 0, the letter of the line that its step writes, and whom the step is about
abbrev pub plan_numbers : Plan → List ℕ
plan_numbers (Refused why) = refusal_number why ∷ []
plan_numbers Idle = 0 ∷ 73 ∷ []
plan_numbers (Grant winner) = 0 ∷ 71 ∷ winner ∷ []
plan_numbers (Leave owner) = 0 ∷ 82 ∷ owner ∷ []
plan_numbers (Cycle owner) = 0 ∷ 67 ∷ owner ∷ []

-- a step's answer in the paper's numbers: 0 and its entry's, or the refusal; "A refused step .. has no entry"
abbrev pub step_numbers : Result Entry Refusal → List ℕ
step_numbers (Ok entry) = 0 ∷ entry_numbers entry
step_numbers (Err why) = refusal_number why ∷ []

-- the channel after a step, and its entry or why it was refused
pub record Advanced : Type 0 where
  pub channel : Channel
  pub answer : Result Entry Refusal

abbrev pub done_by : Turned → Advanced
done_by turned = record { channel = turned.channel; answer = Ok turned.entry }

-- one cycle of an owner's request
abbrev pub cycle_at : Setup → Channel → ℕ → Request → Turned
cycle_at setup ch owner q = cycle_turn (route_of setup owner q) ch owner q.direction (next_of setup owner q)

-- "A refused call gives back the channel it got"; a refused step "has no entry"
abbrev pub advanced_by : Setup → Channel → Plan → Advanced
advanced_by setup ch (Refused why) = record { channel = ch; answer = Err why }
advanced_by setup ch Idle = done_by (idle_turn ch)
advanced_by setup ch (Grant winner) = done_by (grant_turn ch winner)
advanced_by setup ch (Leave owner) = done_by (leave_turn ch owner)
advanced_by setup ch (Cycle owner) = done_by (cycle_at setup ch owner (request_of ch owner))

-- "Each step .. adds to the tally by that entry"; "A refused step leaves it"
abbrev pub tally_by : Tally → Result Entry Refusal → Tally
tally_by t (Ok entry) = add_entry t entry
tally_by t (Err why) = t

abbrev pub tallied : Tally → Advanced → Stepped
tallied t a = record { channel = a.channel; tally = tally_by t a.answer; answer = a.answer }

-- one step, over these stores
unfoldable pub step_of : Setup → Channel → Tally → List ℕ → List ℕ → Stepped
step_of setup ch t slave master = tallied t (advanced_by setup ch (plan_of setup ch (length slave) (length master)))

-- "The i-th byte goes with address + i and offset + i.": what the next cycle of a request moves, and where its bytes lie in both stores
unfoldable pub carry_of : Route → Request → Carry
carry_of route q =
    record {
      direction = q.direction;
      place = route.start + (q.address - route.base);
      offset = q.offset;
      bytes = cycle_bytes route q;
    }

-- "direction (0 read: slave to master; 1 write)": the stores after it
unfoldable pub moved_slave : Carry → List ℕ → List ℕ → List ℕ
moved_slave c slave master = cond (eqb c.direction 0) slave (paste slave c.place (drop c.offset master) c.bytes)

unfoldable pub moved_master : Carry → List ℕ → List ℕ → List ℕ
moved_master c slave master = cond (eqb c.direction 0) (paste master c.offset (drop c.place slave) c.bytes) master

-- only a cycle moves bytes
abbrev pub slave_by : Setup → Channel → Plan → List ℕ → List ℕ → List ℕ
slave_by setup ch Idle slave master = slave
slave_by setup ch (Refused why) slave master = slave
slave_by setup ch (Grant w) slave master = slave
slave_by setup ch (Leave o) slave master = slave
slave_by setup ch (Cycle o) slave master = moved_slave (carry_of (route_of setup o (request_of ch o)) (request_of ch o)) slave master

abbrev pub master_by : Setup → Channel → Plan → List ℕ → List ℕ → List ℕ
master_by setup ch Idle slave master = master
master_by setup ch (Refused why) slave master = master
master_by setup ch (Grant w) slave master = master
master_by setup ch (Leave o) slave master = master
master_by setup ch (Cycle o) slave master = moved_master (carry_of (route_of setup o (request_of ch o)) (request_of ch o)) slave master

unfoldable pub slave_after : Setup → Channel → List ℕ → List ℕ → List ℕ
slave_after setup ch slave master = slave_by setup ch (plan_of setup ch (length slave) (length master)) slave master

unfoldable pub master_after : Setup → Channel → List ℕ → List ℕ → List ℕ
master_after setup ch slave master = master_by setup ch (plan_of setup ch (length slave) (length master)) slave master

-- the same before any byte moves: what the step gives, and what is to be moved
abbrev pub no_carry : Carry
no_carry = record { direction = 0; place = 0; offset = 0; bytes = 0 }

abbrev pub carry_by : Setup → Channel → Plan → Carry
carry_by setup ch Idle = no_carry
carry_by setup ch (Refused why) = no_carry
carry_by setup ch (Grant w) = no_carry
carry_by setup ch (Leave o) = no_carry
carry_by setup ch (Cycle o) = carry_of (route_of setup o (request_of ch o)) (request_of ch o)

unfoldable pub decision_of : Setup → Channel → Tally → List ℕ → List ℕ → Decision
decision_of setup ch t slave master =
    record { stepped = step_of setup ch t slave master; carry = carry_by setup ch (plan_of setup ch (length slave) (length master)) }

-- what is carried where both ranges lie inside their stores, and nothing elsewhere
abbrev pub carry_fits : Carry → ℕ → ℕ → Bool
carry_fits c slave master = leb (c.place + c.bytes) slave && leb (c.offset + c.bytes) master

-- the ranges themselves
pub record Room (c : Carry) (s m : ℕ) : Type 0 where
  pub slave : c.place + c.bytes ≤ s
  pub master : c.offset + c.bytes ≤ m

unfoldable pub slave_after_carry : Carry → List ℕ → List ℕ → List ℕ
slave_after_carry c slave master = cond (carry_fits c (length slave) (length master)) (moved_slave c slave master) slave

unfoldable pub master_after_carry : Carry → List ℕ → List ℕ → List ℕ
master_after_carry c slave master = cond (carry_fits c (length slave) (length master)) (moved_master c slave master) master

-- For the laws only, from here on. What a step that is not refused by 9 or 8 may rely on: the set-up keeps the frame, the channel is sound, the stores
-- have the set-up's lengths
pub record Ready (setup : Setup) (ch : Channel) (s m : ℕ) : Type 0 where
  pub framed : is_framed setup ≡ true
  pub sound : is_sound setup ch ≡ true
  pub slave : s ≡ slave_store_length setup.slaves
  pub master : m ≡ setup.master

-- what a cycle relies on: W and P of a set-up's rows, something left, and room for all of it in the address space and after the row's start
pub record Way (route : Route) (q : Request) : Type 0 where
  pub width : is_width route.width ≡ true
  pub port : is_port route.port ≡ true
  pub some : 0 < q.left
  pub end : q.address + q.left ≤ memory_end
  pub offset : q.offset + q.left ≤ store_most
  pub begins : route.base ≤ q.address
  pub start : route.start ≤ store_most

-- and in both stores
pub record Roomy (route : Route) (q : Request) (s m : ℕ) : Type 0 where
  pub way : Way route q
  pub slave : route.start + (q.address - route.base) + q.left ≤ s
  pub master : q.offset + q.left ≤ m
