-- Document 01, "One step", "Granted, with a request": one cycle, the end of a transfer, the release.
use Rattle.std.specs.Prelude.{ℕ, ◌+◌, ◌-◌, Bool, true, false, cond, not, ◌&&◌, ◌||◌, List, set, eqb, None, Option, Some}
use Rattle.cycle.specs.Cycle.{narrower_of, cycle_length, transfer_time, is_transfer_end, master_lane, slave_lane}
use Rattle.frame.specs.declared.Setup.{Setup}
use Rattle.frame.specs.Allowance.{allowance_of, is_within}
use Rattle.frame.specs.Rows.{has_burst, is_fair, has_linger, level_of}
use Rattle.channel.specs.declared.Phase.TheVariants.{Arbitrating}
use Rattle.channel.specs.declared.Channel.{Channel}
use Rattle.channel.specs.declared.Request.{Request}
use Rattle.channel.specs.Channel.{no_request, with_request, changed}
use Rattle.channel.specs.Line.{line_rule}
use Rattle.channel.specs.Slave.{slave_of, start_of}
use Rattle.act.specs.declared.Route.{Route}
use Rattle.act.specs.declared.Ending.{Ending}
use Rattle.act.specs.declared.Ending.TheVariants.{Kept, Released, Marked}
use Rattle.act.specs.declared.CycleEntry.{CycleEntry}
use Rattle.act.specs.declared.Entry.TheVariants.{Cycle as CycleLine}
use Rattle.act.specs.declared.Entry.{Entry}

-- what the owner's row and the slave's say of a request's cycles
unfoldable pub route_of : Setup → ℕ → Request → Route
route_of setup l q =
    record {
      width = (level_of setup.levels l).width;
      options = (level_of setup.levels l).options;
      port = (slave_of setup.slaves q).port;
      time = (slave_of setup.slaves q).time;
      base = (slave_of setup.slaves q).base;
      start = start_of setup.slaves q;
      allowed = allowance_of setup;
    }

-- "With r bytes left at address a and Q the smaller of W and P, the cycle moves the smaller of r and Q - (a mod Q) bytes."
abbrev pub cycle_bytes : Route → Request → ℕ
cycle_bytes route q = cycle_length (narrower_of route.width route.port) q.address q.left

-- "The i-th byte goes with address + i and offset + i.": what is left of a request after n of its bytes; of one that is done nothing
unfoldable pub rest_after : Request → ℕ → Request
rest_after q n =
    cond
    (eqb n q.left)
    no_request
    (record {
      direction = q.direction;
      space = q.space;
      address = q.address + n;
      left = q.left - n;
      offset = q.offset + n;
    })

-- the time of the transfer that holds the next byte of a request: the running or next one
unfoldable pub next_time : Route → Request → ℕ
next_time route q = transfer_time route.width route.port route.time q.address q.left

-- one cycle: all that a step, its log line, the stores and the bound know of it
pub record Cycle : Type 0 where
  -- "the clock grows by the slave's cycle time"
  pub time : ℕ
  -- where its first byte lies, and the port that it goes through
  pub address : ℕ
  pub port : ℕ
  pub bytes : ℕ
  -- what is left of the request after it
  pub rest : Request
  -- its transfer ends with it
  pub ends : Bool
  -- the time of the transfer that holds the next byte: where this one ends, that of the next transfer
  pub next : ℕ

abbrev pub cycle_before : Route → Request → ℕ → Request → Cycle
cycle_before route q n rest =
    record {
      time = route.time;
      address = q.address;
      port = route.port;
      bytes = n;
      rest = rest;
      ends = is_transfer_end route.width rest.address rest.left;
      next = next_time route rest;
    }

-- the next cycle of a request
unfoldable pub cycle_of : Route → Request → Cycle
cycle_of route q = cycle_before route q (cycle_bytes route q) (rest_after q (cycle_bytes route q))

-- "there is an asked time and either linger is off or the next transfer would end after asked time + 7,800"
abbrev pub late_for : Route → Option ℕ → ℕ → ℕ → Bool
late_for route None clock next = false
late_for route (Some t) clock next = not (has_linger route.options) || not (is_within route.allowed next clock t)

unfoldable pub is_late : Route → Option ℕ → ℕ → ℕ → Bool
is_late route asked clock next = late_for route asked clock next

-- "Nothing is released inside a transfer. At its end the owner releases when the request is done, or burst is off, or .."
unfoldable pub is_leaving : Route → Option ℕ → ℕ → Cycle → Bool
is_leaving route asked clock c =
    c.ends && (eqb c.rest.left 0 || (not (has_burst route.options) || is_late route asked clock c.next))

-- "A releasing owner that is fair, with an asked time, is marked inactive, its request done or not."
abbrev pub released_by : ℕ → Option ℕ → ℕ → Ending
released_by options None clock = Released None
released_by options (Some t) clock = cond (is_fair options) (Marked (clock - t)) (Released (Some (clock - t)))

-- how a cycle ends, at the clock after it
unfoldable pub ending_of : Route → Option ℕ → ℕ → Cycle → Ending
ending_of route asked clock c = cond (is_leaving route asked clock c) (released_by route.options asked clock) Kept

abbrev pub is_kept : Ending → Bool
is_kept Kept = true
is_kept (Released hold) = false
is_kept (Marked hold) = false

abbrev pub is_marked : Ending → Bool
is_marked Kept = false
is_marked (Released hold) = false
is_marked (Marked hold) = true

-- the channel at another clock
unfoldable pub clocked : Channel → ℕ → Channel
clocked ch clock = changed ch ch.phase ch.asked ch.ever clock ch.inactive

-- "The channel is then arbitrating."
unfoldable pub freed : Channel → List Bool → Channel
freed ch inactive = changed ch Arbitrating None ch.ever ch.clock inactive

abbrev pub marked_at : List Bool → ℕ → List Bool
marked_at inactive l = set inactive l true

abbrev pub ended_by : Ending → Channel → ℕ → Channel
ended_by Kept ch owner = ch
ended_by (Released hold) ch owner = freed ch ch.inactive
ended_by (Marked hold) ch owner = freed ch (marked_at ch.inactive owner)

-- "One cycle runs and the clock grows by the slave's cycle time.", before the transfer's end is looked at
unfoldable pub moved_on : Channel → ℕ → Cycle → Channel
moved_on ch owner c = with_request (clocked ch (ch.clock + c.time)) owner c.rest

abbrev pub ending_at : Route → Channel → Cycle → Ending
ending_at route ch c = ending_of route ch.asked (ch.clock + c.time) c

-- "C: level, address, bytes, direction, first master lane, first slave lane, then 0 kept, 1 released, 2 released and marked."
unfoldable pub cycle_entry : Route → Channel → ℕ → ℕ → Cycle → CycleEntry
cycle_entry route ch owner direction c =
    record {
      clock = ch.clock + c.time;
      level = owner;
      address = c.address;
      bytes = c.bytes;
      direction = direction;
      master_lane = master_lane route.width c.address;
      slave_lane = slave_lane c.port c.address;
      ending = ending_at route ch c;
    }

-- a step that was taken: the channel after it, and its entry
pub record Turned : Type 0 where
  pub channel : Channel
  pub entry : Entry

-- the cycle, and then the line rule
unfoldable pub cycle_turn : Route → Channel → ℕ → ℕ → Cycle → Turned
cycle_turn route ch owner direction c =
    record {
      channel = line_rule (ended_by (ending_at route ch c) (moved_on ch owner c) owner);
      entry = CycleLine (cycle_entry route ch owner direction c);
    }
