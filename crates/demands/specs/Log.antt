-- The log of a history, and what it is for a log to keep to the owners.
use Rattle.refusal.specs.declared.Refusal.{Refusal}
use Rattle.std.specs.Prelude.{ℕ, Bool, true, false, ◌&&◌, ◌||◌, List, [], ◌∷◌, eqb, Err, Ok, Result}
use Rattle.frame.specs.declared.Setup.{Setup}
use Rattle.channel.specs.declared.Phase.{Phase}
use Rattle.channel.specs.declared.Phase.TheVariants.{Arbitrating, Granted}
use Rattle.act.specs.declared.Ending.{Ending}
use Rattle.act.specs.declared.Ending.TheVariants.{Kept, Released, Marked}
use Rattle.act.specs.declared.Entry.{Entry}
use Rattle.act.specs.declared.Entry.TheVariants.{Idle, Grant, Cycle, Release}
use Rattle.cycle.specs.Cycle.{is_transfer_end}
use Rattle.channel.specs.declared.Request.{Request}
use Rattle.act.specs.Cycle.{route_of, cycle_bytes, rest_after}
use Rattle.step.specs.Step.{step_of}
use Rattle.demands.specs.History.{Moment, Act, posts, steps, no_tally, next}

-- a step adds its entry; a refused one has none
abbrev pub added : Result Entry Refusal → List Entry → List Entry
added (Ok entry) log = entry ∷ log
added (Err why) log = log

abbrev pub log_of : Setup → Moment → List Act → List Entry
log_of setup m [] = []
log_of setup m (posts p ∷ acts) = log_of setup (next setup m (posts p)) acts
log_of setup m (steps ∷ acts) =
    added (step_of setup m.channel no_tally m.slave m.master).answer (log_of setup (next setup m steps) acts)

-- who may be logged now: a grant only when nobody owns the channel, a cycle or a release only of the owner
abbrev pub may_log : Phase → Entry → Bool
may_log Arbitrating (Grant clock level) = true
may_log Arbitrating (Idle clock) = false
may_log Arbitrating (Cycle entry) = false
may_log Arbitrating (Release clock level hold) = false
may_log (Granted owner) (Grant clock level) = false
may_log (Granted owner) (Idle clock) = true
may_log (Granted owner) (Cycle entry) = eqb entry.level owner
may_log (Granted owner) (Release clock level hold) = eqb level owner

-- who owns the channel after an entry, read off the entry
abbrev pub held_after : Phase → Ending → Phase
held_after phase Kept = phase
held_after phase (Released hold) = Arbitrating
held_after phase (Marked hold) = Arbitrating

abbrev pub phase_after : Phase → Entry → Phase
phase_after phase (Idle clock) = phase
phase_after phase (Grant clock level) = Granted level
phase_after phase (Cycle entry) = held_after phase entry.ending
phase_after phase (Release clock level hold) = Arbitrating

-- "only between its grant and its release": a log in which every cycle stands after a grant of its level, with neither a release nor another grant
-- between them
abbrev pub keeps_to_owners : Phase → List Entry → Bool
keeps_to_owners phase [] = true
keeps_to_owners phase (entry ∷ log) = may_log phase entry && keeps_to_owners (phase_after phase entry) log

-- the next cycle of a level's request
abbrev pub is_next_cycle : Setup → ℕ → Request → Entry → Bool
is_next_cycle setup owner q (Idle clock) = false
is_next_cycle setup owner q (Grant clock level) = false
is_next_cycle setup owner q (Cycle entry) =
    (eqb entry.level owner && eqb entry.address q.address) && eqb entry.bytes (cycle_bytes (route_of setup owner q) q)
is_next_cycle setup owner q (Release clock level hold) = false

abbrev pub rest_of : Setup → ℕ → Request → Request
rest_of setup owner q = rest_after q (cycle_bytes (route_of setup owner q) q)

abbrev pub ends_transfer : Setup → ℕ → Request → Bool
ends_transfer setup owner q = is_transfer_end (route_of setup owner q).width (rest_of setup owner q).address (rest_of setup owner q).left

-- "A transfer ends when the next address is a multiple of W or the request is done.": a log that begins with the cycles of the owner's transfer, one
-- after the other and nothing between them, up to that end or to the end of the log
abbrev pub runs_on : Setup → ℕ → Request → List Entry → Bool
runs_on setup owner q [] = true
runs_on setup owner q (entry ∷ log) =
    is_next_cycle setup owner q entry && (ends_transfer setup owner q || runs_on setup owner (rest_of setup owner q) log)
