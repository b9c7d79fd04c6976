-- The step as the program takes it: in place, and without the line rule where that has nothing to do. None of this need be believed: the promises speak of
-- `decision_of`, `step_of` and `run_of` alone, and proofs/MachineLaws shows that this is the same.
use Rattle.act.specs.declared.Entry.{Entry}
use Rattle.std.specs.Prelude.{ℕ, zero, suc, ◌+◌, ◌-◌, ◌%◌, ◌≤◌, ◌<◌, ◌≡◌, Bool, true, false, cond, not, ◌&&◌, ◌||◌, List, set, replicate, eqb, ltb, Err, None, Ok, Option, Result, Some}
use Rattle.basics.specs.Limits.{places, system_master, clock_limit}
use Rattle.refusal.specs.Refusal.{refusal_by}
use Rattle.refusal.specs.declared.Refusal.{Refusal}
use Rattle.cycle.specs.Cycle.{master_lane, slave_lane}
use Rattle.frame.specs.declared.Setup.{Setup}
use Rattle.channel.specs.declared.Phase.{Phase}
use Rattle.channel.specs.declared.Phase.TheVariants.{Arbitrating, Granted}
use Rattle.channel.specs.declared.Channel.{Channel}
use Rattle.channel.specs.declared.Request.{Request}
use Rattle.channel.specs.Channel.{has_request, owner_place, with_request, changed}
use Rattle.channel.specs.Line.{waits, line_active, winner, asked_if}
use Rattle.act.specs.declared.Route.{Route}
use Rattle.act.specs.declared.Ending.{Ending}
use Rattle.act.specs.declared.Entry.TheVariants.{Idle, Grant, Cycle, Release}
use Rattle.act.specs.Cycle.{route_of, cycle_bytes, cycle_before, cycle_of, is_leaving, ending_of, is_kept, is_marked}
use Rattle.act.specs.Turn.{arbitration_time}
use Rattle.tally.specs.declared.Tally.{Tally}
use Rattle.tally.specs.Tally.{add_grant, add_cycle, add_release}
use Rattle.step.specs.declared.Stepped.{Stepped}
use Rattle.step.specs.declared.Plan.{Plan}
use Rattle.step.specs.declared.Plan.TheVariants as plan
use Rattle.step.specs.declared.Decision.{Decision}
use Rattle.step.specs.declared.Ran.{Ran}
use Rattle.step.specs.declared.Logged.{Logged}
use Rattle.step.specs.declared.cycles.Left.{Left}
use Rattle.step.specs.declared.acts.Standing.{Standing}
use Rattle.step.specs.declared.acts.Acted.{Acted}
use Rattle.step.specs.declared.acts.Decided.{Decided}
use Rattle.step.specs.declared.acts.Chosen.{Chosen}
use Rattle.step.specs.Step.{Way, advanced_by, tallied, no_carry, carry_of, carry_by}

-- the address lies inside a transfer
abbrev pub is_inside : ℕ → ℕ → Bool
is_inside width address = not (eqb (address % width) 0)

-- whether an owner leaves goes by what its cycle has left
unfoldable pub leaves_at : Route → Option ℕ → ℕ → Request → Bool
leaves_at route asked clock rest = is_leaving route asked clock (cycle_before route rest 0 rest)

-- what a cycle leaves, and how it ends
unfoldable pub after_cycle : Route → Option ℕ → ℕ → Request → Left
after_cycle route asked clock q = record { rest = (cycle_of route q).rest; ending = ending_of route asked clock (cycle_of route q) }

-- some of the k numbers from i on satisfies f
unfoldable pub any_from : (ℕ → Bool) → ℕ → ℕ → Bool
any_from f i zero = false
any_from f i (suc k) = f i || any_from f (suc i) k

-- some level from this one on waits; some other than the owner has a request
unfoldable pub waits_from : List ℕ → List Bool → ℕ → Bool
waits_from left inactive from = any_from (waits left inactive) from (places - from)

unfoldable pub asks_beside : List ℕ → ℕ → ℕ → Bool
asks_beside left owner l = has_request left l && not (eqb l owner)

unfoldable pub others_from : List ℕ → ℕ → ℕ → Bool
others_from left from owner = any_from (asks_beside left owner) from (places - from)

-- nobody below a level has a request; nobody below a level waits
abbrev pub NoneAsk : List ℕ → ℕ → Type 0
NoneAsk left base = (l : ℕ) → l < base → has_request left l ≡ false

abbrev pub NoneWait : List ℕ → List Bool → ℕ → Type 0
NoneWait left inactive low = (l : ℕ) → l < low → waits left inactive l ≡ false

-- where a search for the winner may begin
pub record Search (ch : Channel) (base low : ℕ) : Type 0 where
  pub most : base ≤ system_master
  pub small : low ≤ places
  pub none : NoneAsk ch.left base
  pub clear : NoneWait ch.left ch.inactive low

-- the marks after line rule 1
unfoldable pub marks_left : List ℕ → List Bool → Phase → List Bool
marks_left left inactive phase = cond (line_active left inactive phase) inactive (replicate places false)

abbrev pub grant_marks : List ℕ → List Bool → List Bool
grant_marks left inactive = marks_left left inactive (Granted (winner left inactive))

-- other marks
abbrev pub marked : Channel → List Bool → Channel
marked ch marks = changed ch ch.phase ch.asked ch.ever ch.clock marks

-- the winner, the marks and the line after its grant, and where the next search may begin
pub record IsChosen (before after : Channel) (base : ℕ) (c : Chosen) : Type 0 where
  pub won : c.winner ≡ winner before.left before.inactive
  pub marks : after ≡ marked before (grant_marks before.left before.inactive)
  pub active : c.active ≡ line_active before.left after.inactive (Granted (winner before.left before.inactive))
  pub low : c.low ≤ winner before.left before.inactive
  pub clear : NoneWait before.left after.inactive c.low

-- a channel as the program keeps it: what stands by value, whether it was ever granted, and the arrays of a channel
abbrev pub channel_of : Standing → Bool → Channel → Channel
channel_of s ever ch = changed ch s.phase s.asked ever s.clock ch.inactive

abbrev pub standing_of : Channel → Tally → Standing
standing_of ch t = record { phase = ch.phase; asked = ch.asked; clock = ch.clock; tally = t }

-- refusal 6
unfoldable pub full_acted : Standing → Acted
full_acted s = record { standing = s; answer = Err (refusal_by 6) }

-- the grant, and the line rule's asked time
unfoldable pub granted_by : Standing → Bool → ℕ → Bool → Acted
granted_by s ever w active =
    record {
      standing =
          record {
            phase = Granted w;
            asked = asked_if active (s.clock + arbitration_time ever);
            clock = s.clock + arbitration_time ever;
            tally = add_grant s.tally;
          };
      answer = Ok (Grant (s.clock + arbitration_time ever) w);
    }

-- an owner without a request leaves where it is asked, and idles otherwise
abbrev pub rest_acted : Option ℕ → Standing → ℕ → Acted
rest_acted None s o = record { standing = s; answer = Ok (Idle s.clock) }
rest_acted (Some t) s o =
    record {
      standing =
          record {
            phase = Arbitrating;
            asked = None;
            clock = s.clock;
            tally = add_release s.tally (Some (s.clock - t));
          };
      answer = Ok (Release s.clock o (Some (s.clock - t)));
    }

-- what stands after a cycle with this ending
unfoldable pub standing_after : Standing → ℕ → Tally → Ending → Standing
standing_after s clock t ending =
    record {
      phase = cond (is_kept ending) s.phase Arbitrating;
      asked = cond (is_kept ending) s.asked None;
      clock = clock;
      tally = t;
    }

unfoldable pub cycle_acted : Route → Standing → ℕ → Request → Ending → Acted
cycle_acted route s o q ending =
    record {
      standing = standing_after s (s.clock + route.time) (add_cycle s.tally (cycle_bytes route q) ending) ending;
      answer =
          Ok
          (Cycle
          (record {
            clock = s.clock + route.time;
            level = o;
            address = q.address;
            bytes = cycle_bytes route q;
            direction = q.direction;
            master_lane = master_lane route.width q.address;
            slave_lane = slave_lane route.port q.address;
            ending = ending;
          }));
    }

-- a step that moves nothing and leaves the owner's slot
abbrev pub stay_of : Acted → Request → Decided
stay_of a q = record { acted = a; slot = q; carry = no_carry }

-- one cycle
abbrev pub ending_by : Route → Standing → Request → Ending
ending_by route s q = ending_of route s.asked (s.clock + route.time) (cycle_of route q)

unfoldable pub cycle_decided : Route → Standing → ℕ → Request → Decided
cycle_decided route s o q =
    record { acted = cycle_acted route s o q (ending_by route s q); slot = (cycle_of route q).rest; carry = carry_of route q }

unfoldable pub cycle_marks : Route → Standing → ℕ → Request → List Bool → List Bool
cycle_marks route s o q inactive = set inactive o (is_marked (ending_by route s q))

-- the step, by the phase: what it decides, and the marks after it
abbrev pub decided_by : Route → Standing → Bool → Request → List ℕ → List Bool → Phase → Decided
decided_by route s ever q left inactive Arbitrating =
    stay_of
    (cond
    (ltb clock_limit (s.clock + arbitration_time ever))
    (full_acted s)
    (granted_by s ever (winner left inactive)
    (line_active left (grant_marks left inactive) (Granted (winner left inactive)))))
    q
decided_by route s ever q left inactive (Granted o) =
    cond
    (eqb q.left 0)
    (stay_of (rest_acted s.asked s o) q)
    (cond (ltb clock_limit (s.clock + route.time)) (stay_of (full_acted s) q) (cycle_decided route s o q))

abbrev pub marks_by : Route → Standing → Bool → Request → List ℕ → List Bool → Phase → List Bool
marks_by route s ever q left inactive Arbitrating =
    cond (ltb clock_limit (s.clock + arbitration_time ever)) inactive (grant_marks left inactive)
marks_by route s ever q left inactive (Granted o) =
    cond
    (eqb q.left 0)
    inactive
    (cond (ltb clock_limit (s.clock + route.time)) inactive (cycle_marks route s o q inactive))

unfoldable pub decided_of : Route → Standing → Bool → Request → List ℕ → List Bool → Decided
decided_of route s ever q left inactive = decided_by route s ever q left inactive s.phase

unfoldable pub decided_marks : Route → Standing → Bool → Request → List ℕ → List Bool → List Bool
decided_marks route s ever q left inactive = marks_by route s ever q left inactive s.phase

-- what it relies on
pub record Actable (route : Route) (s : Standing) (q : Request) : Type 0 where
  pub small : (o : ℕ) → s.phase ≡ Granted o → o < places
  pub way : (o : ℕ) → s.phase ≡ Granted o → eqb q.left 0 ≡ false → Way route q

-- the route of an owner's request; without one there is none
abbrev pub no_route : Route
no_route = record { width = 0; options = 0; port = 0; time = 0; base = 0; allowed = 0; start = 0 }

abbrev pub route_for : Setup → ℕ → Request → Route
route_for setup o q = cond (eqb q.left 0) no_route (route_of setup o q)

-- what a step does, read off its answer
abbrev pub plan_in : Result Entry Refusal → Plan
plan_in (Err why) = plan.Refused why
plan_in (Ok (Idle clock)) = plan.Idle
plan_in (Ok (Grant clock winner)) = plan.Grant winner
plan_in (Ok (Cycle e)) = plan.Cycle e.level
plan_in (Ok (Release clock level hold)) = plan.Leave level

-- a decision, by the plan
abbrev pub decision_by : Setup → Channel → Tally → Plan → Decision
decision_by setup ch t p = record { stepped = tallied t (advanced_by setup ch p); carry = carry_by setup ch p }

abbrev pub refused_decision : Channel → Tally → Refusal → Decision
refused_decision ch t why = record { stepped = record { channel = ch; tally = t; answer = Err why }; carry = no_carry }

abbrev pub no_steps : Channel → Tally → Result Unit Refusal → Ran
no_steps ch t verdict = record { channel = ch; tally = t; steps = 0; verdict = verdict }

abbrev pub no_lines : Channel → Tally → Result Unit Refusal → ℕ → Logged
no_lines ch t verdict at = record { ran = no_steps ch t verdict; end = at }

-- the channel after a decided step: one that was done leaves it granted, whatever it was, since none but a grant is done before the first
abbrev pub ever_by : Result Entry Refusal → Bool → Bool
ever_by (Ok entry) ever = true
ever_by (Err why) ever = ever

abbrev pub channel_by : Channel → Decided → List Bool → Channel
channel_by ch d marks =
    with_request
    (changed ch d.acted.standing.phase d.acted.standing.asked (ever_by d.acted.answer ch.ever)
    d.acted.standing.clock marks)
    (owner_place ch.phase)
    d.slot

abbrev pub stepped_by : Channel → Decided → List Bool → Stepped
stepped_by ch d marks = record { channel = channel_by ch d marks; tally = d.acted.standing.tally; answer = d.acted.answer }
