-- Document 01, "One step": what a step is going to do. The bytes of the stores have no part in it.
use Rattle.refusal.specs.declared.Refusal.{Refusal}
use Rattle.std.specs.Prelude.{ℕ, ◌+◌, cond, not, ◌&&◌, [], ◌∷◌, eqb, ltb, Err, Ok, Result}
use Rattle.basics.specs.Limits.{clock_limit}
use Rattle.refusal.specs.Refusal.{accepted, refusal_by, refused_by}
use Rattle.frame.specs.Frame.{is_framed}
use Rattle.frame.specs.Find.{slave_store_length}
use Rattle.frame.specs.declared.Setup.{Setup}
use Rattle.channel.specs.declared.Phase.{Phase}
use Rattle.channel.specs.declared.Phase.TheVariants.{Arbitrating, Granted}
use Rattle.channel.specs.declared.Channel.{Channel}
use Rattle.channel.specs.declared.Request.{Request}
use Rattle.channel.specs.Channel.{request_of}
use Rattle.channel.specs.Line.{line, winner}
use Rattle.sound.specs.Sound.{is_sound}
use Rattle.act.specs.Cycle.{Cycle, route_of, cycle_of}
use Rattle.act.specs.Turn.{arbitration_time}
use Rattle.step.specs.declared.Plan.{Plan}
use Rattle.step.specs.declared.Plan.TheVariants.{Idle, Refused, Grant, Leave}
use Rattle.step.specs.declared.Plan.TheVariants as plan

-- "6: step: the clock would pass 4,000,000,000"
abbrev pub within_clock : Channel → ℕ → Plan → Plan
within_clock ch time plan = cond (ltb clock_limit (ch.clock + time)) (Refused (refusal_by 6)) plan

-- the next cycle of a level's request
abbrev pub next_of : Setup → ℕ → Request → Cycle
next_of setup l q = cycle_of (route_of setup l q) q

-- "Granted, owner without a request (only 15). Active line: release .. Otherwise idle"; "Granted, with a request. One cycle runs"
abbrev pub request_plan : Setup → Channel → ℕ → Request → Plan
request_plan setup ch owner q =
    cond (eqb q.left 0) (cond (line ch) (Leave owner) Idle) (within_clock ch (next_of setup owner q).time (plan.Cycle owner))

unfoldable pub owner_plan : Setup → Channel → ℕ → Plan
owner_plan setup ch owner = request_plan setup ch owner (request_of ch owner)

-- "Arbitrating. The lowest-numbered level with an open request and no inactive mark wins .. The winner is the owner"
abbrev pub phase_plan : Setup → Channel → Phase → Plan
phase_plan setup ch Arbitrating = within_clock ch (arbitration_time ch.ever) (Grant (winner ch.left ch.inactive))
phase_plan setup ch (Granted owner) = owner_plan setup ch owner

unfoldable pub act_plan : Setup → Channel → Plan
act_plan setup ch = phase_plan setup ch ch.phase

-- "9 first, then 8": "9: .. step, run: the set-up breaks the frame .. the channel is unsound", "8: step, run: a lent store's length differs from the set-up"
unfoldable pub ready_verdict : Setup → Channel → ℕ → ℕ → Result Unit Refusal
ready_verdict setup ch slave master =
    refused_by
    ((9, not (is_framed setup && is_sound setup ch)) ∷
    (8, not (eqb slave (slave_store_length setup.slaves) && eqb master setup.master)) ∷
    [])
    accepted

abbrev pub plan_by : Setup → Channel → Result Unit Refusal → Plan
plan_by setup ch (Ok _) = act_plan setup ch
plan_by setup ch (Err why) = Refused why

-- then 6, where the step would take time
unfoldable pub plan_of : Setup → Channel → ℕ → ℕ → Plan
plan_of setup ch slave master = plan_by setup ch (ready_verdict setup ch slave master)
