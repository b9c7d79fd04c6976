-- Document 02, CR 1: "post, step and cycle count offered as C calls .. over that image": each call on an image that reads as a set-up and a channel is the
-- plain call on these. And the README's "a refused call says why by a number and changes nothing", for the calls over an image. Assumes nothing.
use Prim.Native.Nat.{ℕ, ◌≤◌, ◌<◌}
use mathlib.Core.Path.{◌≡◌, refl}
use mathlib.Core.List.{List}
use borrow.Author.Tests.{ltb-true, leb-true, leb-false}
use lib.ListN.{length}
use lib.Dec.{leb, ltb}
use Rattle.std.specs.Prelude.{Err, Ok, Result}
use Rattle.basics.specs.Limits.{steps_most}
use Rattle.refusal.specs.Refusal.{refusal_by}
use Rattle.refusal.specs.declared.Refusal.{Refusal}
use Rattle.basics.proofs.Tests.{by_test}
use Rattle.frame.specs.declared.Setup.{Setup}
use Rattle.frame.specs.declared.Order.{Order}
use Rattle.channel.specs.declared.Channel.{Channel}
use Rattle.channel.specs.Channel.{set_up}
use Rattle.post.specs.Post.{post_of}
use Rattle.tally.specs.declared.Tally.{Tally}
use Rattle.act.specs.declared.Entry.{Entry}
use Rattle.act.specs.declared.Entry.TheVariants.{Idle, Grant, Cycle, Release}
use Rattle.step.specs.declared.Stepped.{Stepped as Step}
use Rattle.step.specs.Plan.{ready_verdict}
use Rattle.step.specs.Step.{step_of}
use Rattle.step.specs.Run.{world, stopped, run_of}
use Rattle.why.specs.Why.{why_of}
use Rattle.image.specs.Layout.{image_most}
use Rattle.image.specs.Image.{imaged, read_image, read_head, imaged_verdict, imaged_setup, imaged_channel}
use Rattle.demands.proofs.RefusedLaws.{refused_run_lem, long_run}
use Rattle.lobrinkas.specs.Answers.{cycle_step, step_by, told_by}
use Rattle.lobrinkas.specs.Calls.{
  has_image_room,
  Answered,
  answer_by,
  set_up_by,
  lobrinkas_set_up,
  post_by,
  lobrinkas_post,
  Stepping,
  step_answered,
  stepping_by,
  lobrinkas_step,
  RunAnswered,
  run_done,
  run_refused,
  run_ready,
  run_answered_by,
  lobrinkas_run,
  lobrinkas_why,
}

-- an image that reads as this set-up and this channel
module _ (image : List ℕ) (n : ℕ) {setup : Setup} {ch : Channel} (e : read_image image n ≡ imaged setup ch) where
  -- A post is the plain post: its refusal, or the image of its channel where that has room.
  pub plain_post : (p : Order) → lobrinkas_post image n p ≡ answer_by (post_of setup ch p).verdict setup (post_of setup ch p).channel image n
  unfolding lobrinkas_post
  plain_post p = rw e

  -- A step is the plain step: its refusal; or its entry, its tally, both stores after it and the image of its channel, where that has room.
  pub plain_step : (slave master : List ℕ) (t : Tally) → lobrinkas_step image n slave master t
      ≡ step_answered (step_of setup ch t slave master).answer setup ch (step_of setup ch t slave master) t image n slave master
  unfolding lobrinkas_step
  plain_step slave master t = rw e

  -- "Why is my card waiting?" is the plain question.
  pub plain_why : (l : ℕ) → lobrinkas_why image n l ≡ told_by (why_of setup ch l)
  unfolding lobrinkas_why
  plain_why l = rw e

  -- A run is the plain run: it is refused where that is, and by its number; or the memory has no room for the longest image, which is 17; or it gives the
  -- plain run's stop, steps and tally, both stores after it and the image of its channel.
  module _ (slave master : List ℕ) (t : Tally) (budget : ℕ) where
    pub data PlainRun : Type 0 where
      run_refused_lem : (why : Refusal) → run_of setup budget (world ch t slave master) ≡ stopped (Err why) 0 (world ch t slave master)
          → lobrinkas_run image n slave master t budget ≡ run_refused why t image n slave master → PlainRun
      run_short : length image < image_most → lobrinkas_run image n slave master t budget ≡ run_refused (refusal_by 17) t image n slave master → PlainRun
      run_made_lem : image_most ≤ length image → lobrinkas_run image n slave master t budget
          ≡ run_done setup (run_of setup budget (world ch t slave master)) image → PlainRun

    by_ready : (v : Result Unit Refusal) → ready_verdict setup ch (length slave) (length master) ≡ v → PlainRun
    unfolding lobrinkas_run
    by_ready (Err why) v = run_refused_lem why (refused_run_lem setup budget (world ch t slave master) why v) (rw (e, v))
    by_ready (Ok _) v =
        by_test (ltb steps_most budget)
        (λ long. run_refused_lem (refusal_by 7) (long_run setup budget (world ch t slave master) v (ltb-true steps_most budget long)) (rw (e, v, long)))
        (λ few.
        by_test (leb image_most (length image))
        (λ room. run_made_lem (leb-true image_most (length image) room) (rw (e, v, few, room)))
        (λ none. run_short (leb-false image_most (length image) none) (rw (e, v, few, none))))

    pub plain_run : PlainRun
    plain_run = by_ready (ready_verdict setup ch (length slave) (length master)) refl

-- A refused set-up or post leaves the memory, and gives back the length that it was handed (a set-up 0: there is no image yet).
pub record AnswerLeaves (a : Answered) (memory : List ℕ) (n : ℕ) : Type 0 where
  pub image : a.image ≡ memory
  pub length : a.result.length ≡ n

answer_leaves : (v : Result Unit Refusal) (setup : Setup) (ch : Channel) (image : List ℕ) (n : ℕ) → ((answer_by v setup ch image n).result.refusal ≡ 0 → ⊥)
    → AnswerLeaves (answer_by v setup ch image n) image n
answer_leaves (Err why) setup ch image n refused = record { image = refl; length = refl }
answer_leaves (Ok _) setup ch image n refused =
    by_test (has_image_room setup ch image)
    (λ t. absurd (refused (rw t)))
    (λ f. record { image = rw f; length = rw f })

pub refused_set_up : (image head : List ℕ) (master : ℕ) → ((lobrinkas_set_up image head master).result.refusal ≡ 0 → ⊥)
    → AnswerLeaves (lobrinkas_set_up image head master) image 0
unfolding lobrinkas_set_up
refused_set_up image head master refused = by (imaged_verdict (read_head head master)) refused
  where
    by : (v : Result Unit Refusal) → ((set_up_by v (imaged_setup (read_head head master)) image).result.refusal ≡ 0 → ⊥)
        → AnswerLeaves (set_up_by v (imaged_setup (read_head head master)) image) image 0
    by (Err why) refused = record { image = refl; length = refl }
    by (Ok _) refused = answer_leaves (set_up (imaged_setup (read_head head master))).verdict (imaged_setup (read_head head master)) _ image 0 refused

pub refused_post : (image : List ℕ) (n : ℕ) (p : Order) → ((lobrinkas_post image n p).result.refusal ≡ 0 → ⊥)
    → AnswerLeaves (lobrinkas_post image n p) image n
unfolding lobrinkas_post
refused_post image n p refused = by (imaged_verdict (read_image image n)) refused
  where
    by : (v : Result Unit Refusal) → ((post_by v (imaged_setup (read_image image n)) (imaged_channel (read_image image n)) p image n).result.refusal ≡ 0 → ⊥)
        → AnswerLeaves (post_by v (imaged_setup (read_image image n)) (imaged_channel (read_image image n)) p image n) image n
    by (Err why) refused = record { image = refl; length = refl }
    by (Ok _) refused = answer_leaves (post_of (imaged_setup (read_image image n)) (imaged_channel (read_image image n)) p).verdict (imaged_setup (read_image image n)) _ image n refused

-- the answer of a step that was made has no refusal, and the new image's length
pub made_step : (entry : Entry) (n : ℕ) (t : Tally) → (step_by entry n t).refusal ≡ 0
unfolding cycle_step
made_step (Idle clock) n t = refl
made_step (Grant clock owner) n t = refl
made_step (Cycle entry) n t = refl
made_step (Release clock level hold) n t = refl

pub made_length : (entry : Entry) (n : ℕ) (t : Tally) → (step_by entry n t).length ≡ n
unfolding cycle_step
made_length (Idle clock) n t = refl
made_length (Grant clock owner) n t = refl
made_length (Cycle entry) n t = refl
made_length (Release clock level hold) n t = refl

-- A refused step leaves the memory, both stores and the tally, and gives back the length.
pub record StepLeaves (s : Stepping) (memory : List ℕ) (n : ℕ) (store own : List ℕ) (t : Tally) : Type 0 where
  pub image : s.image ≡ memory
  pub length : s.result.length ≡ n
  pub slave : s.slave ≡ store
  pub master : s.master ≡ own
  pub tally : s.result.tally ≡ t

step_leaves : (a : Result Entry Refusal) (setup : Setup) (ch : Channel) (step : Step) (t : Tally) (image : List ℕ) (n : ℕ) (slave master : List ℕ)
    → ((step_answered a setup ch step t image n slave master).result.refusal ≡ 0 → ⊥)
    → StepLeaves (step_answered a setup ch step t image n slave master) image n slave master t
step_leaves (Err why) setup ch step t image n slave master refused =
    record { image = refl; length = refl; slave = refl; master = refl; tally = refl }
step_leaves (Ok entry) setup ch step t image n slave master refused =
    by_test (has_image_room setup step.channel image)
    (λ room. absurd (refused (rw room (made_step entry _ step.tally))))
    (λ none. record { image = rw none; length = rw none; slave = rw none; master = rw none; tally = rw none })

pub refused_step_lem : (image : List ℕ) (n : ℕ) (slave master : List ℕ) (t : Tally) → ((lobrinkas_step image n slave master t).result.refusal ≡ 0 → ⊥)
    → StepLeaves (lobrinkas_step image n slave master t) image n slave master t
unfolding lobrinkas_step
refused_step_lem image n slave master t refused = by (imaged_verdict (read_image image n)) refused
  where
    by : (v : Result Unit Refusal) → ((stepping_by v (imaged_setup (read_image image n)) (imaged_channel (read_image image n)) t image n slave master).result.refusal ≡ 0 → ⊥)
        → StepLeaves (stepping_by v (imaged_setup (read_image image n)) (imaged_channel (read_image image n)) t image n slave master) image n slave master t
    by (Err why) refused = record { image = refl; length = refl; slave = refl; master = refl; tally = refl }
    by (Ok _) refused =
        step_leaves (step_of (imaged_setup (read_image image n)) (imaged_channel (read_image image n)) t slave master).answer (imaged_setup (read_image image n))
        (imaged_channel (read_image image n)) _ t image n slave master refused

-- A refused run leaves the same, and did no step. One that the clock stopped is not refused: 6 is its stop.
pub record RunLeaves (r : RunAnswered) (memory : List ℕ) (n : ℕ) (store own : List ℕ) (t : Tally) : Type 0 where
  pub image : r.image ≡ memory
  pub length : r.result.length ≡ n
  pub slave : r.slave ≡ store
  pub master : r.master ≡ own
  pub tally : r.result.tally ≡ t
  pub steps : r.result.steps ≡ 0

run_leaves : (v : Result Unit Refusal) (setup : Setup) (ch : Channel) (t : Tally) (budget : ℕ) (image : List ℕ) (n : ℕ) (slave master : List ℕ)
    → ((run_ready v setup ch t budget image n slave master).result.refusal ≡ 0 → ⊥)
    → RunLeaves (run_ready v setup ch t budget image n slave master) image n slave master t
run_leaves (Err why) setup ch t budget image n slave master refused =
    record { image = refl; length = refl; slave = refl; master = refl; tally = refl; steps = refl }
run_leaves (Ok _) setup ch t budget image n slave master refused =
    by_test (ltb steps_most budget)
    (λ long. record { image = rw long; length = rw long; slave = rw long; master = rw long; tally = rw long; steps = rw long })
    (λ few.
    by_test (leb image_most (length image))
    (λ room. absurd (refused (rw (few, room))))
    (λ none.
    record {
      image = rw (few, none);
      length = rw (few, none);
      slave = rw (few, none);
      master = rw (few, none);
      tally = rw (few, none);
      steps = rw (few, none);
    }))

pub refused_running : (image : List ℕ) (n : ℕ) (slave master : List ℕ) (t : Tally) (budget : ℕ)
    → ((lobrinkas_run image n slave master t budget).result.refusal ≡ 0 → ⊥)
    → RunLeaves (lobrinkas_run image n slave master t budget) image n slave master t
unfolding lobrinkas_run
refused_running image n slave master t budget refused = by (imaged_verdict (read_image image n)) refused
  where
    by : (v : Result Unit Refusal)
        → ((run_answered_by v (imaged_setup (read_image image n)) (imaged_channel (read_image image n)) t budget image n slave master).result.refusal ≡ 0 → ⊥)
        → RunLeaves (run_answered_by v (imaged_setup (read_image image n)) (imaged_channel (read_image image n)) t budget image n slave master) image n slave master t
    by (Err why) refused = record { image = refl; length = refl; slave = refl; master = refl; tally = refl; steps = refl }
    by (Ok _) refused =
        run_leaves (ready_verdict (imaged_setup (read_image image n)) (imaged_channel (read_image image n)) (length slave) (length master)) (imaged_setup (read_image image n))
        (imaged_channel (read_image image n)) t budget image n slave master refused
