-- Document 02, CR 1: "post, step and cycle count offered as C calls on numbers and byte slices over that image". Each call is the plain call on what was read;
-- where that is not refused and the new image has room, this stands at the start of the memory. A refused call leaves all that it was lent.
use Rattle.act.specs.declared.Entry.{Entry}
use Rattle.std.specs.Prelude.{ℕ, Bool, cond, List, length, leb, ltb, Err, Ok, Result}
use Rattle.std.proofs.lemmas.List.Edits.{sets}
use Rattle.basics.specs.Limits.{steps_most}
use Rattle.refusal.specs.Refusal.{refusal_by}
use Rattle.refusal.specs.declared.Refusal.{Refusal}
use Rattle.cycle.specs.Cycle.{cycle_count}
use Rattle.frame.specs.declared.Setup.{Setup}
use Rattle.frame.specs.declared.Order.{Order}
use Rattle.channel.specs.declared.Channel.{Channel}
use Rattle.channel.specs.Channel.{set_up}
use Rattle.post.specs.Post.{post_of}
use Rattle.tally.specs.declared.Tally.{Tally}
use Rattle.step.specs.declared.Stepped.{Stepped as Step}
use Rattle.step.specs.Plan.{ready_verdict}
use Rattle.step.specs.Step.{step_of, slave_after, master_after}
use Rattle.step.specs.Run.{Out, world, run_of}
use Rattle.why.specs.Why.{why_of}
use Rattle.image.specs.Layout.{image_bytes, image_most}
use Rattle.image.specs.Image.{read_image, read_head, imaged_verdict, imaged_setup, imaged_channel}
use Rattle.lobrinkas.specs.declared.Answer.{Answer}
use Rattle.lobrinkas.specs.declared.Stepped.{Stepped}
use Rattle.lobrinkas.specs.declared.Ran.{Ran}
use Rattle.lobrinkas.specs.declared.Counted.{Counted}
use Rattle.lobrinkas.specs.declared.Told.{Told}
use Rattle.lobrinkas.specs.Answers.{refused_answer, accepted_answer, refused_step, step_by, refused_ran, done_run, count_by, refused_told, told_by}

-- "17 as in the sheet": the memory has room for the image of a set-up and a channel; and that image at its start, the bytes past it as they were
abbrev pub has_image_room : Setup → Channel → List ℕ → Bool
has_image_room setup ch image = leb (length (image_bytes setup ch)) (length image)

abbrev pub image_after : Setup → Channel → List ℕ → List ℕ
image_after setup ch image = sets image 0 (image_bytes setup ch)

-- what a set-up or a post answers, and the memory then
pub record Answered : Type 0 where
  pub result : Answer
  pub image : List ℕ

abbrev pub answering : Answer → List ℕ → Answered
answering result image = record { result = result; image = image }

abbrev pub answer_refused : Refusal → List ℕ → ℕ → Answered
answer_refused why image n = answering (refused_answer why n) image

-- of a plain call that gives a channel, or refuses
abbrev pub answer_by : Result Unit Refusal → Setup → Channel → List ℕ → ℕ → Answered
answer_by (Err why) setup ch image n = answer_refused why image n
answer_by (Ok _) setup ch image n =
    cond
    (has_image_room setup ch image)
    (answering (accepted_answer ch.clock (length (image_bytes setup ch))) (image_after setup ch image))
    (answer_refused (refusal_by 17) image n)

-- the first image. Refusals 18 9 17; there is no image yet whose length could be given back
abbrev pub set_up_by : Result Unit Refusal → Setup → List ℕ → Answered
set_up_by (Err why) setup image = answer_refused why image 0
set_up_by (Ok _) setup image = answer_by (set_up setup).verdict setup (set_up setup).channel image 0

unfoldable pub lobrinkas_set_up : List ℕ → List ℕ → ℕ → Answered
lobrinkas_set_up image head master = set_up_by (imaged_verdict (read_head head master)) (imaged_setup (read_head head master)) image

-- the numbers of a post
abbrev pub order : ℕ → ℕ → ℕ → ℕ → ℕ → ℕ → Order
order level direction space address bytes offset =
    record { level = level; direction = direction; space = space; address = address; length = bytes; offset = offset }

-- a post. Refusals 18 9 1 2 3 4 5 17
abbrev pub post_by : Result Unit Refusal → Setup → Channel → Order → List ℕ → ℕ → Answered
post_by (Err why) setup ch p image n = answer_refused why image n
post_by (Ok _) setup ch p image n = answer_by (post_of setup ch p).verdict setup (post_of setup ch p).channel image n

unfoldable pub lobrinkas_post : List ℕ → ℕ → Order → Answered
lobrinkas_post image n p = post_by (imaged_verdict (read_image image n)) (imaged_setup (read_image image n)) (imaged_channel (read_image image n)) p image n

-- what a step answers, and the memory and both stores then
pub record Stepping : Type 0 where
  pub result : Stepped
  pub image : List ℕ
  pub slave : List ℕ
  pub master : List ℕ

abbrev pub stepping : Stepped → List ℕ → List ℕ → List ℕ → Stepping
stepping result image slave master = record { result = result; image = image; slave = slave; master = master }

abbrev pub step_refused : Refusal → Tally → List ℕ → ℕ → List ℕ → List ℕ → Stepping
step_refused why t image n slave master = stepping (refused_step why n t) image slave master

-- `step` is the plain step of the channel `ch`
abbrev pub step_answered : Result Entry Refusal → Setup → Channel → Step → Tally → List ℕ → ℕ → List ℕ → List ℕ → Stepping
step_answered (Err why) setup ch step t image n slave master = step_refused why t image n slave master
step_answered (Ok entry) setup ch step t image n slave master =
    cond
    (has_image_room setup step.channel image)
    (record {
      result = step_by entry (length (image_bytes setup step.channel)) step.tally;
      image = image_after setup step.channel image;
      slave = slave_after setup ch slave master;
      master = master_after setup ch slave master;
    })
    (step_refused (refusal_by 17) t image n slave master)

-- a step. Refusals 18 9 8 6 17
abbrev pub stepping_by : Result Unit Refusal → Setup → Channel → Tally → List ℕ → ℕ → List ℕ → List ℕ → Stepping
stepping_by (Err why) setup ch t image n slave master = step_refused why t image n slave master
stepping_by (Ok _) setup ch t image n slave master =
    step_answered (step_of setup ch t slave master).answer setup ch (step_of setup ch t slave master) t image n slave master

unfoldable pub lobrinkas_step : List ℕ → ℕ → List ℕ → List ℕ → Tally → Stepping
lobrinkas_step image n slave master t =
    stepping_by (imaged_verdict (read_image image n)) (imaged_setup (read_image image n)) (imaged_channel (read_image image n)) t image n slave master

-- what a run answers, and the memory and both stores then
pub record RunAnswered : Type 0 where
  pub result : Ran
  pub image : List ℕ
  pub slave : List ℕ
  pub master : List ℕ

abbrev pub running : Ran → List ℕ → List ℕ → List ℕ → RunAnswered
running result image slave master = record { result = result; image = image; slave = slave; master = master }

abbrev pub run_refused : Refusal → Tally → List ℕ → ℕ → List ℕ → List ℕ → RunAnswered
run_refused why t image n slave master = running (refused_ran why n t) image slave master

abbrev pub run_done : Setup → Out → List ℕ → RunAnswered
run_done setup out image =
    record {
      result = done_run out.result (length (image_bytes setup out.result.channel));
      image = image_after setup out.result.channel image;
      slave = out.slave;
      master = out.master;
    }

-- a run's last image isn't known before: 17 where the memory has no room for the longest
abbrev pub run_ready : Result Unit Refusal → Setup → Channel → Tally → ℕ → List ℕ → ℕ → List ℕ → List ℕ → RunAnswered
run_ready (Err why) setup ch t budget image n slave master = run_refused why t image n slave master
run_ready (Ok _) setup ch t budget image n slave master =
    cond
    (ltb steps_most budget)
    (run_refused (refusal_by 7) t image n slave master)
    (cond
    (leb image_most (length image))
    (run_done setup (run_of setup budget (world ch t slave master)) image)
    (run_refused (refusal_by 17) t image n slave master))

-- a run. Refusals 18 9 8 7 17
abbrev pub run_answered_by : Result Unit Refusal → Setup → Channel → Tally → ℕ → List ℕ → ℕ → List ℕ → List ℕ → RunAnswered
run_answered_by (Err why) setup ch t budget image n slave master = run_refused why t image n slave master
run_answered_by (Ok _) setup ch t budget image n slave master =
    run_ready (ready_verdict setup ch (length slave) (length master)) setup ch t budget image n slave master

unfoldable pub lobrinkas_run : List ℕ → ℕ → List ℕ → List ℕ → Tally → ℕ → RunAnswered
lobrinkas_run image n slave master t budget =
    run_answered_by (imaged_verdict (read_image image n)) (imaged_setup (read_image image n)) (imaged_channel (read_image image n)) t budget image n slave master

-- a cycle count. Refusals 3 4
abbrev pub lobrinkas_cycle_count : ℕ → ℕ → ℕ → ℕ → Counted
lobrinkas_cycle_count address bytes width port = count_by (cycle_count address bytes width port)

-- document 02, CR 3: why a level waits. Refusals 18 9. The image is only read
abbrev pub why_by : Result Unit Refusal → Setup → Channel → ℕ → Told
why_by (Err why) setup ch l = refused_told why
why_by (Ok _) setup ch l = told_by (why_of setup ch l)

unfoldable pub lobrinkas_why : List ℕ → ℕ → ℕ → Told
lobrinkas_why image n l = why_by (imaged_verdict (read_image image n)) (imaged_setup (read_image image n)) (imaged_channel (read_image image n)) l
