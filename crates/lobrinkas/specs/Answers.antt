-- Document 02, CR 1: what a call answers a host in C, in plain numbers. A refused call answers its number, and gives back the length that it was handed.
use Rattle.std.specs.Prelude.{ℕ, None, Option, Some, Result, Ok, Err}
use Rattle.refusal.specs.Refusal.{refusal_number, verdict_number}
use Rattle.refusal.specs.declared.Refusal.{Refusal}
use Rattle.tally.specs.declared.Tally.{Tally}
use Rattle.act.specs.declared.Ending.{Ending}
use Rattle.act.specs.declared.Ending.TheVariants.{Kept, Released, Marked}
use Rattle.act.specs.declared.CycleEntry.{CycleEntry}
use Rattle.act.specs.declared.Entry.{Entry}
use Rattle.act.specs.declared.Entry.TheVariants.{Idle, Grant, Cycle, Release}
use Rattle.act.specs.Entry.{ending_number, letter_of}
use Rattle.step.specs.declared.Ran.{Ran as Run}
use Rattle.why.specs.declared.Reason.{Reason}
use Rattle.why.specs.Reason.{reason_number, reason_level}
use Rattle.lobrinkas.specs.declared.Answer.{Answer}
use Rattle.lobrinkas.specs.declared.Stepped.{Stepped}
use Rattle.lobrinkas.specs.declared.Ran.{Ran}
use Rattle.lobrinkas.specs.declared.Counted.{Counted}
use Rattle.lobrinkas.specs.declared.Told.{Told}

-- a set-up and a post
abbrev pub refused_answer : Refusal → ℕ → Answer
refused_answer why n = record { refusal = refusal_number why; clock = 0; length = n }

abbrev pub accepted_answer : ℕ → ℕ → Answer
accepted_answer clock n = record { refusal = 0; clock = clock; length = n }

-- a step. "at a release, the clock less the asked time or that there was none": 1 and that time, or 0 and 0
abbrev pub asked_of : Option ℕ → ℕ
asked_of None = 0
asked_of (Some time) = 1

abbrev pub time_of : Option ℕ → ℕ
time_of None = 0
time_of (Some time) = time

abbrev pub asked_in : Ending → ℕ
asked_in Kept = 0
asked_in (Released hold) = asked_of hold
asked_in (Marked time) = 1

abbrev pub time_in : Ending → ℕ
time_in Kept = 0
time_in (Released hold) = time_of hold
time_in (Marked time) = time

-- what the line of a step does not show is 0; of a refused step all is, but for the tally
abbrev pub bare_step : ℕ → ℕ → ℕ → ℕ → ℕ → Option ℕ → Tally → Stepped
bare_step refusal kind n clock level hold t =
    record {
      refusal = refusal;
      kind = kind;
      length = n;
      clock = clock;
      level = level;
      address = 0;
      bytes = 0;
      direction = 0;
      master_lane = 0;
      slave_lane = 0;
      ending = 0;
      asked = asked_of hold;
      hold = time_of hold;
      tally = t;
    }

abbrev pub refused_step : Refusal → ℕ → Tally → Stepped
refused_step why n t = bare_step (refusal_number why) 0 n 0 0 None t

-- "C: level, address, bytes, direction, first master lane, first slave lane, then .."
unfoldable pub cycle_step : CycleEntry → ℕ → Tally → Stepped
cycle_step e n t =
    record {
      refusal = 0;
      kind = letter_of (Cycle e);
      length = n;
      clock = e.clock;
      level = e.level;
      address = e.address;
      bytes = e.bytes;
      direction = e.direction;
      master_lane = e.master_lane;
      slave_lane = e.slave_lane;
      ending = ending_number e.ending;
      asked = asked_in e.ending;
      hold = time_in e.ending;
      tally = t;
    }

abbrev pub step_by : Entry → ℕ → Tally → Stepped
step_by (Idle clock) n t = bare_step 0 (letter_of (Idle clock)) n clock 0 None t
step_by (Grant clock owner) n t = bare_step 0 (letter_of (Grant clock owner)) n clock owner None t
step_by (Cycle e) n t = cycle_step e n t
step_by (Release clock level hold) n t = bare_step 0 (letter_of (Release clock level hold)) n clock level hold t

-- a run. "A run that meets 6 isn't itself refused: it gives the channel after the steps done, their number, and 6."
abbrev pub refused_ran_by : ℕ → ℕ → Tally → Ran
refused_ran_by number n t = record { refusal = number; stop = 0; length = n; clock = 0; steps = 0; tally = t }

abbrev pub refused_ran : Refusal → ℕ → Tally → Ran
refused_ran why n t = refused_ran_by (refusal_number why) n t

abbrev pub done_run : Run → ℕ → Ran
done_run run n =
    record {
      refusal = 0;
      stop = verdict_number run.verdict;
      length = n;
      clock = run.channel.clock;
      steps = run.steps;
      tally = run.tally;
    }

-- a cycle count. "a refused cycle count gives 0"
abbrev pub count_by : Result ℕ Refusal → Counted
count_by (Ok cycles) = record { refusal = 0; cycles = cycles }
count_by (Err why) = record { refusal = refusal_number why; cycles = 0 }

-- document 02, CR 3: why a level waits, the reason's number and the level that it names; of a refused call both are 0
abbrev pub refused_told : Refusal → Told
refused_told why = record { refusal = refusal_number why; reason = 0; level = 0 }

abbrev pub told_by : Result Reason Refusal → Told
told_by (Ok reason) = record { refusal = 0; reason = reason_number reason; level = reason_level reason }
told_by (Err why) = refused_told why
