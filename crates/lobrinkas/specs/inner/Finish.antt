-- How a call ends, by what the plain call gave: a new channel's part of an image is written where the set-up's part ends.
use Rattle.std.specs.Prelude.{ℕ, cond, not, ◌&&◌, List, eqb, ltb, Ok, Err, Result}
use Rattle.basics.specs.Limits.{steps_most}
use Rattle.refusal.specs.Refusal.{refusal_by, verdict_number}
use Rattle.refusal.specs.declared.Refusal.{Refusal}
use Rattle.number.specs.Number.{NumberWritten}
use Rattle.frame.specs.declared.Setup.{Setup}
use Rattle.channel.specs.declared.Channel.{Channel}
use Rattle.channel.specs.declared.Judged.{Judged}
use Rattle.tally.specs.declared.Tally.{Tally}
use Rattle.act.specs.declared.Entry.{Entry}
use Rattle.step.specs.declared.Decision.{Decision}
use Rattle.step.specs.declared.Ran.{Ran as Run}
use Rattle.step.specs.Plan.{ready_verdict}
use Rattle.step.specs.Step.{slave_after_carry, master_after_carry}
use Rattle.image.specs.Image.{write_channel, write_channel_after, write_image, write_image_after}
use Rattle.lobrinkas.specs.declared.Answer.{Answer}
use Rattle.lobrinkas.specs.declared.Ran.{Ran}
use Rattle.lobrinkas.specs.Answers.{refused_answer, accepted_answer, step_by, refused_ran, refused_ran_by, done_run}
use Rattle.lobrinkas.specs.Calls.{Answered, answering, answer_refused, Stepping, stepping, step_refused}

-- a set-up and a post
abbrev pub answer_written : NumberWritten → ℕ → ℕ → Answer
answer_written (Ok end) clock n = accepted_answer clock end
answer_written (Err why) clock n = refused_answer why n

unfoldable pub set_up_finished : Setup → Channel → List ℕ → Answered
set_up_finished setup ch image = answering (answer_written (write_image setup ch image) ch.clock 0) (write_image_after setup ch image)

abbrev pub answer_after : Result Unit Refusal → Channel → List ℕ → ℕ → ℕ → Answered
answer_after (Err why) ch image n start = answer_refused why image n
answer_after (Ok _) ch image n start = answering (answer_written (write_channel ch image start) ch.clock n) (write_channel_after ch image start)

unfoldable pub answer_finished : Judged → List ℕ → ℕ → ℕ → Answered
answer_finished judged image n start = answer_after judged.verdict judged.channel image n start

-- a step
abbrev pub step_written : NumberWritten → Entry → Decision → Tally → List ℕ → ℕ → ℕ → List ℕ → List ℕ → Stepping
step_written (Err why) entry d t image n start slave master = step_refused why t image n slave master
step_written (Ok end) entry d t image n start slave master =
    stepping (step_by entry end d.stepped.tally) (write_channel_after d.stepped.channel image start) (slave_after_carry d.carry slave master)
    (master_after_carry d.carry slave master)

abbrev pub step_after : Result Entry Refusal → Decision → Tally → List ℕ → ℕ → ℕ → List ℕ → List ℕ → Stepping
step_after (Err why) d t image n start slave master = step_refused why t image n slave master
step_after (Ok entry) d t image n start slave master =
    step_written (write_channel d.stepped.channel image start) entry d t image n start slave master

unfoldable pub step_finished : Decision → Tally → List ℕ → ℕ → ℕ → List ℕ → List ℕ → Stepping
step_finished d t image n start slave master = step_after d.stepped.answer d t image n start slave master

-- a run over memory without room for the longest image
abbrev pub short_by : Result Unit Refusal → ℕ → Refusal
short_by (Err why) budget = why
short_by (Ok _) budget = cond (ltb steps_most budget) (refusal_by 7) (refusal_by 17)

unfoldable pub short_run : Setup → Channel → ℕ → ℕ → ℕ → Refusal
short_run setup ch slave master budget = short_by (ready_verdict setup ch slave master) budget

-- a run that was made: what it answers, and the memory then
pub record RunLeft : Type 0 where
  pub result : Ran
  pub image : List ℕ

abbrev pub run_left : Ran → List ℕ → RunLeft
run_left result image = record { result = result; image = image }

abbrev pub run_written : NumberWritten → Run → Tally → ℕ → Ran
run_written (Err why) run t n = refused_ran why n t
run_written (Ok end) run t n = done_run run end

unfoldable pub run_finished : Run → Tally → List ℕ → ℕ → ℕ → RunLeft
run_finished run t image n start =
    cond
    (not (eqb (verdict_number run.verdict) 0) && not (eqb (verdict_number run.verdict) 6))
    (run_left (refused_ran_by (verdict_number run.verdict) n t) image)
    (run_left (run_written (write_channel run.channel image start) run t n) (write_channel_after run.channel image start))
