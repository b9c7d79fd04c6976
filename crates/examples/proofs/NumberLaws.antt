-- What the definitions that the promises cite come to, in the paper's numbers: the table of specs/Numbers, call by call. Assumes nothing.
use Prim.Native.Nat.{ℕ, zero, suc, ◌+◌, ◌≤◌}
use mathlib.Core.Path.{◌≡◌, refl, sym, ap, ◌∙◌}
use native.Mathlib.Nat.{zero-add}
use native.Mathlib.Omega.{arith}
use mathlib.Core.Bool.{Bool, true, false, cond, not, ◌&&◌}
use mathlib.Core.List.{List, [], ◌∷◌, ◌++◌}
use lib.Dec.{eqb, ltb, leb}
use lib.ListN.{get_or, length}
use borrow.Author.Tests.{eqb-true, eq-eqb, le-ltb, lt-ltb}
use Rattle.basics.specs.Limits.{memory_end, steps_most}
use Rattle.basics.proofs.Tests.{by_test, and_left, and_right}
use Rattle.refusal.specs.declared.Refusal.{Refusal}
use Rattle.refusal.specs.Refusal.{accepted, refusal_number, refusal_by, refused_by, verdict_number}
use Rattle.refusal.proofs.NumberLaws.{not_zero}
use Rattle.number.specs.Number.{has_number_room, whole_at, writing_numbers}
use Rattle.cycle.specs.Cycle.{is_length, is_width, is_port, cycle_count}
use Rattle.frame.specs.declared.Setup.{Setup}
use Rattle.frame.specs.Rows.{is_present}
use Rattle.channel.specs.declared.Phase.{Phase}
use Rattle.channel.specs.declared.Phase.TheVariants.{Arbitrating, Granted}
use Rattle.channel.specs.declared.Channel.{Channel}
use Rattle.channel.specs.declared.Request.{Request}
use Rattle.channel.specs.Channel.{Shaped, fresh_channel, set_up, has_request, request_of}
use Rattle.channel.specs.Line.{line, winner}
use Rattle.channel.specs.Slave.{slave_of}
use Rattle.sound.specs.Request.{request_verdict}
use Rattle.frame.specs.declared.Order.{Order}
use Rattle.post.specs.Post.{request_in, post_verdict, post_of}
use Rattle.act.specs.declared.Entry.{Entry}
use Rattle.act.specs.declared.Entry.TheVariants as entry
use Rattle.act.specs.Cycle.{route_of, cycle_of}
use Rattle.act.specs.Turn.{arbitration_time}
use Rattle.logline.specs.Text.{has_room_in as line_room}
use Rattle.tally.specs.declared.Tally.{Tally}
use Rattle.step.specs.declared.Plan.{Plan}
use Rattle.step.specs.declared.Plan.TheVariants as plan
use Rattle.step.specs.Plan.{ready_verdict, plan_by, plan_of, owner_plan, act_plan, phase_plan}
use Rattle.step.specs.Step.{Ready, plan_numbers, step_numbers, advanced_by, step_of}
use Rattle.step.proofs.PlanLaws.{ready_is}
use Rattle.step.specs.Run.{World, Out, stopped, step_in, world_after, go_on, run_from, run_of}
use Rattle.step.specs.Log.{Page, page_after, LoggedOut, closed, log_on, log_from, log_run_of}
use Rattle.step.proofs.TurnLaws.{ready_next}
use Rattle.std.specs.Prelude.{Result, Ok, Err}
use Rattle.number.specs.declared.Fault.{Fault}
use Rattle.numbers.specs.Numbers.{Part}
use Rattle.sheet.specs.Sheet.{answered, sheet_numbers}
use Rattle.frame.specs.Frame.{is_framed}
use Rattle.sound.specs.Sound.{is_sound}
use Rattle.image.specs.Layout.{image_bytes, image_most}
use Rattle.image.specs.Image.{
  Imaged,
  then_image,
  malformed,
  read_setup,
  read_channel,
  read_image,
  write_image,
  head_read,
  head_bytes,
  read_head,
  imaged_verdict,
  imaged_setup,
  imaged_channel,
}
use Rattle.why.specs.Why.{why_of}
use Rattle.why.specs.declared.Reason.{Reason}
use Rattle.lobrinkas.specs.Answers.{cycle_step, step_by, count_by, told_by}
use Rattle.lobrinkas.specs.Calls.{
  lobrinkas_cycle_count,
  Answered,
  set_up_by,
  answer_by,
  lobrinkas_set_up,
  post_by,
  lobrinkas_post,
  Stepping,
  step_answered,
  stepping_by,
  lobrinkas_step,
  RunAnswered,
  run_ready,
  run_answered_by,
  lobrinkas_run,
  why_by,
  lobrinkas_why,
}
use Rattle.step.specs.declared.Stepped.{Stepped as Step}
use Rattle.examples.specs.Numbers.{
  RefusalRow,
  first_number,
  broken,
  unsound,
  other_length,
  request_rows,
  post_rows,
  count_rows,
  is_over,
  passes,
  step_rows,
  run_rows,
  room_left,
  log_rows,
  written_told,
  sheet_told,
  is_good_then,
  malformed_image,
  malformed_head,
  image_told,
  no_image_room,
  set_up_call_rows,
  post_call_rows,
  step_call_rows,
  run_call_rows,
  why_rows,
  why_call_rows,
}

-- the numbers of the rows are numbers of the table
abbrev are_numbers : List RefusalRow → Bool
are_numbers [] = true
are_numbers ((n, holds) ∷ rows) = eqb (refusal_number (refusal_by n)) n && are_numbers rows

-- rows of a verdict, and what follows where none of them holds, whatever is made of the verdict
rows_told : (told : Result Unit Refusal → ℕ) → ((r : Refusal) → told (Err r) ≡ refusal_number r) → (rows more : List RefusalRow) (v : Result Unit Refusal)
    → are_numbers rows ≡ true → told v ≡ first_number more → told (refused_by rows v) ≡ first_number (rows ++ more)
rows_told told by [] more v are rest = rest
rows_told told by ((n, true) ∷ rows) more v are rest = by (refusal_by n) ∙ eqb-true _ n (and_left (eqb (refusal_number (refusal_by n)) n) (are_numbers rows) are)
rows_told told by ((n, false) ∷ rows) more v are rest =
    rows_told told by rows more v (and_right (eqb (refusal_number (refusal_by n)) n) (are_numbers rows) are) rest

rows_number : (rows more : List RefusalRow) (v : Result Unit Refusal) → are_numbers rows ≡ true → verdict_number v ≡ first_number more
    → verdict_number (refused_by rows v) ≡ first_number (rows ++ more)
rows_number rows more v are rest = rows_told verdict_number (λ r. refl) rows more v are rest

pub set_up_number : (setup : Setup) → verdict_number (set_up setup).verdict ≡ first_number (broken setup ∷ [])
unfolding set_up
set_up_number setup = rows_number (broken setup ∷ []) [] accepted refl refl

pub request_number : (setup : Setup) (l : ℕ) (q : Request) → verdict_number (request_verdict setup l q) ≡ first_number (request_rows setup q)
unfolding request_verdict
request_number setup l q = rows_number (request_rows setup q) [] accepted refl refl

pub post_number : (setup : Setup) (ch : Channel) (p : Order) → verdict_number (post_of setup ch p).verdict ≡ first_number (post_rows setup ch p)
unfolding post_of post_verdict
post_number setup ch p =
    rows_number
    (unsound setup ch ∷ (1, not (is_present setup.levels p.level)) ∷ (2, has_request ch.left p.level) ∷ [])
    (request_rows setup (request_in p))
    (request_verdict setup p.level (request_in p))
    refl
    (request_number setup p.level (request_in p))

pub count_number : (a n w p : ℕ) → verdict_number (cycle_count a n w p) ≡ first_number (count_rows a n w p)
unfolding cycle_count
count_number a n w p =
    by_test (not (is_length n && (is_width w && is_port p)))
    (λ t. rw t)
    (λ f. by_test (ltb memory_end (a + n)) (λ t. rw (f, t)) (λ g. rw (f, g)))

-- the archive's cycle count answers the same number
count_call : (count : Result ℕ Refusal) → (count_by count).refusal ≡ verdict_number count
count_call (Ok cycles) = refl
count_call (Err why) = refl

pub count_call_number : (a n w p : ℕ) → (lobrinkas_cycle_count a n w p).refusal ≡ first_number (count_rows a n w p)
count_call_number a n w p = count_call (cycle_count a n w p) ∙ count_number a n w p

pub ready_number : (setup : Setup) (ch : Channel) (slave master : ℕ)
    → verdict_number (ready_verdict setup ch slave master) ≡ first_number (unsound setup ch ∷ other_length setup slave master ∷ [])
unfolding ready_verdict
ready_number setup ch slave master = rows_number (unsound setup ch ∷ other_length setup slave master ∷ []) [] accepted refl refl

-- the number of an answer is the first of its numbers
abbrev pub first : List ℕ → ℕ
first numbers = get_or numbers 0 0

full : (b : Bool) (p : Plan) → first (plan_numbers p) ≡ 0 → first (plan_numbers (cond b (plan.Refused (refusal_by 6)) p)) ≡ cond b 6 0
full true p none = refl
full false p none = none

resting : (b : Bool) (o : ℕ) → first (plan_numbers (cond b (plan.Leave o) plan.Idle)) ≡ 0
resting true o = refl
resting false o = refl

phase_number_lem : (setup : Setup) (ch : Channel) (p : Phase) → first (plan_numbers (phase_plan setup ch p)) ≡ first_number ((6, passes setup ch p) ∷ [])
unfolding owner_plan cycle_of route_of
phase_number_lem setup ch Arbitrating = full (is_over ch (arbitration_time ch.ever)) (plan.Grant (winner ch.left ch.inactive)) refl
phase_number_lem setup ch (Granted o) =
    by_test (eqb (request_of ch o).left 0)
    (λ t. rw t (resting (line ch) o))
    (λ f. rw f (full (is_over ch (slave_of setup.slaves (request_of ch o)).time) (plan.Cycle o) refl))

pub plan_number : (setup : Setup) (ch : Channel) (slave master : ℕ)
    → first (plan_numbers (plan_of setup ch slave master)) ≡ first_number (step_rows setup ch slave master)
unfolding plan_of ready_verdict act_plan
plan_number setup ch slave master =
    rows_told (λ v. first (plan_numbers (plan_by setup ch v))) (λ r. refl)
    (unsound setup ch ∷ other_length setup slave master ∷ [])
    ((6, passes setup ch ch.phase) ∷ [])
    accepted
    refl
    (phase_number_lem setup ch ch.phase)

as_planned : (setup : Setup) (ch : Channel) (p : Plan) → first (step_numbers (advanced_by setup ch p).answer) ≡ first (plan_numbers p)
as_planned setup ch plan.Idle = refl
as_planned setup ch (plan.Refused why) = refl
as_planned setup ch (plan.Grant w) = refl
as_planned setup ch (plan.Leave o) = refl
as_planned setup ch (plan.Cycle o) = refl

pub step_number : (setup : Setup) (ch : Channel) (t : Tally) (slave master : List ℕ)
    → first (step_numbers (step_of setup ch t slave master).answer) ≡ first_number (step_rows setup ch (length slave) (length master))
unfolding step_of
step_number setup ch t slave master =
    as_planned setup ch (plan_of setup ch (length slave) (length master)) ∙ plan_number setup ch (length slave) (length master)

pub written_told_lem : (s : List ℕ) (at : ℕ) (what : List ℕ) → writing_numbers (whole_at s at what) ≡ written_told s at what
written_told_lem s at what = by_test (has_number_room s at what) (λ t. rw t) (λ f. rw f)

pub sheet_told_lem : (j : Part) (need room : ℕ) → sheet_numbers (answered j need room) ≡ sheet_told j need room
sheet_told_lem (Ok end) need room = by_test (leb need room) (λ t. rw t) (λ f. rw f)
sheet_told_lem (Err f) need room = refl

-- a run

-- a world that a run may start from
pub record Runnable (setup : Setup) (w : World) : Type 0 where
  pub ready : Ready setup w.channel (length w.slave) (length w.master)
  pub shaped : Shaped w.channel

module _ (setup : Setup) (w : World) (s : Runnable setup w) where
  ready_rows : first_number (step_rows setup w.channel (length w.slave) (length w.master))
      ≡ first_number ((6, passes setup w.channel w.channel.phase) ∷ [])
  ready_rows =
      let r = s.ready in
      rw (r.framed, r.sound, eq-eqb (length w.slave) _ r.slave, eq-eqb (length w.master) _ r.master)

  -- a step of a channel that is ready is refused by 6 alone
  only_six : (why : Refusal) → (step_in setup w).answer ≡ Err why → refusal_number why ≡ 6
  only_six why q =
      let e : refusal_number why ≡ first_number ((6, passes setup w.channel w.channel.phase) ∷ []) =
      ap (λ a. first (step_numbers a)) (sym q)
      ∙ step_number setup w.channel w.tally w.slave w.master
      ∙ ready_rows in
      by_test (passes setup w.channel w.channel.phase) (λ t. rw t at e) (λ f. absurd (not_zero why (rw f at e)))

  kept : Runnable setup (world_after setup w)
  kept =
      let k = ready_next setup w.channel w.tally w.slave w.master s.ready s.shaped in
      record { ready = k.0; shaped = k.1 }

-- of `all` steps it takes no more, and it has 6 where it takes fewer, and else 0
abbrev Stopped : ℕ → Out → Type 0
Stopped all out = (out.result.steps ≤ all) × (verdict_number out.result.verdict ≡ cond (ltb out.result.steps all) 6 0)

run_from_lem : (setup : Setup) (left done : ℕ) (w : World) → Runnable setup w → Stopped (done + left) (run_from setup left done w)
unfolding run_from
run_from_lem setup zero done w s = (omega arith, rw (le-ltb done (done + 0) (omega arith)))
run_from_lem setup (suc left) done w s =
    goes (step_in setup w).answer refl (run_from_lem setup left (suc done) (world_after setup w) (kept setup w s))
  where
    goes : (a : Result Entry Refusal) → (step_in setup w).answer ≡ a → Stopped (suc done + left) (run_from setup left (suc done) (world_after setup w))
        → Stopped (done + suc left) (go_on a (run_from setup left (suc done) (world_after setup w)) (λ (v : Result Unit Refusal). stopped v done w))
    goes (Ok e) q later = let more : suc done + left ≡ done + suc left = omega arith in rw more at later
    goes (Err why) q later = (omega arith, rw (lt-ltb done (done + suc left) (omega arith)) (only_six setup w s why q))

-- where neither 9 nor 8 refuses
ready_start : (setup : Setup) (w : World) → Shaped w.channel
    → ready_verdict setup w.channel (length w.slave) (length w.master) ≡ accepted → Runnable setup w
ready_start setup w k e = record { ready = ready_is setup w.channel (length w.slave) (length w.master) e; shaped = k }

pub run_number : (setup : Setup) (budget : ℕ) (w : World) → Shaped w.channel
    → verdict_number (run_of setup budget w).result.verdict ≡ first_number (run_rows setup budget w)
unfolding run_of ready_verdict
run_number setup budget w k =
    by_test (unsound setup w.channel).1 (λ t. rw t) (λ f.
    by_test (other_length setup (length w.slave) (length w.master)).1 (λ t. rw (f, t)) (λ g.
    by_test (ltb steps_most budget) (λ t. rw (f, g, t)) (λ h.
    rw (f, g, h) (rw (zero-add budget) at (run_from_lem setup budget 0 w (ready_start setup w k (rw (f, g))))).1)))

-- a logged run: 6 where it takes fewer and there is still room for a line
abbrev LogStopped : ℕ → LoggedOut → Type 0
LogStopped all out =
    (out.result.ran.steps ≤ all)
    × (verdict_number out.result.ran.verdict ≡ cond (ltb out.result.ran.steps all && room_left out) 6 0)

log_from_lem : (setup : Setup) (left done : ℕ) (w : World) (p : Page) → Runnable setup w
    → LogStopped (done + left) (log_from setup left done w p)
unfolding log_from
log_from_lem setup zero done w p s = (omega arith, rw (le-ltb done (done + 0) (omega arith)))
log_from_lem setup (suc left) done w p s =
    by_test (line_room p.out p.at)
    (λ t. rw t (goes t (λ e. log_from_lem setup left (suc done) (world_after setup w) (page_after p e) (kept setup w s)) (step_in setup w).answer refl))
    (λ f. rw f (omega arith, rw (lt-ltb done (done + suc left) (omega arith), f)))
  where
    goes : line_room p.out p.at ≡ true
        → ((e : Entry) → LogStopped (suc done + left) (log_from setup left (suc done) (world_after setup w) (page_after p e)))
        → (a : Result Entry Refusal) → (step_in setup w).answer ≡ a
        → LogStopped (done + suc left)
        (log_on a (λ (entry : Entry). log_from setup left (suc done) (world_after setup w) (page_after p entry)) (λ (v : Result Unit Refusal). closed v done w p))
    goes t later (Ok e) q = let more : suc done + left ≡ done + suc left = omega arith in rw more at (later e)
    goes t later (Err why) q = (omega arith, rw (lt-ltb done (done + suc left) (omega arith), t) (only_six setup w s why q))

pub log_number : (setup : Setup) (budget : ℕ) (w : World) (p : Page) → Shaped w.channel
    → verdict_number (log_run_of setup budget w p).result.ran.verdict ≡ first_number (log_rows setup budget w p)
unfolding log_run_of ready_verdict
log_number setup budget w p k =
    by_test (unsound setup w.channel).1 (λ t. rw t) (λ f.
    by_test (other_length setup (length w.slave) (length w.master)).1 (λ t. rw (f, t)) (λ g.
    by_test (ltb steps_most budget) (λ t. rw (f, g, t)) (λ h.
    rw (f, g, h) (rw (zero-add budget) at (log_from_lem setup budget 0 w p (ready_start setup w k (rw (f, g))))).1)))

-- an image

-- a part that is at fault makes a malformed image, and one that is good hands on
then_number : {A : Type 0} (j : Result A Fault) (f : A → Imaged) (g : A → Bool)
    → ((x : A) → verdict_number (imaged_verdict (f x)) ≡ first_number ((18, not (g x)) ∷ []))
    → verdict_number (imaged_verdict (then_image j f)) ≡ first_number ((18, not (is_good_then j g)) ∷ [])
then_number (Ok x) f g later = later x
then_number (Err x) f g later = refl

pub image_number : (bytes : List ℕ) (n : ℕ) → verdict_number (imaged_verdict (read_image bytes n)) ≡ first_number (malformed_image bytes n ∷ [])
unfolding read_image
image_number bytes n =
    then_number (read_setup bytes n) _ _ (λ head. then_number (read_channel bytes n head.1).part _ _ (λ end. refl))

ended_number : (b : Bool) (i : Imaged) → verdict_number (imaged_verdict i) ≡ 0
    → verdict_number (imaged_verdict (cond b malformed i)) ≡ first_number ((18, not (not b)) ∷ [])
ended_number true i good = refl
ended_number false i good = good

pub head_number : (list : List ℕ) (master : ℕ) → verdict_number (imaged_verdict (read_head list master)) ≡ first_number (malformed_head list master ∷ [])
unfolding read_head head_read
head_number list master =
    let bytes = head_bytes list master in
    then_number (read_setup bytes (length bytes)) _ _ (λ head. ended_number (ltb head.1 (length bytes)) _ refl)

pub image_told_lem : (setup : Setup) (ch : Channel) (out : List ℕ) → writing_numbers (write_image setup ch out) ≡ image_told setup ch out
unfolding write_image
image_told_lem setup ch out =
    by_test (is_framed setup && is_sound setup ch) (λ t. rw t (written_told_lem out 0 (image_bytes setup ch))) (λ f. rw f)

-- the calls for C

-- a call over an image is refused by 18, or tells what is told of the plain call
over_image : (told : Result Unit Refusal → ℕ) → ((r : Refusal) → told (Err r) ≡ refusal_number r) → (v : Result Unit Refusal) (bad : Bool) (rows : List RefusalRow)
    → verdict_number v ≡ first_number ((18, bad) ∷ []) → told accepted ≡ first_number rows → told v ≡ first_number ((18, bad) ∷ rows)
over_image told by (Ok _) true rows e rest = let z : ◌≡◌ {A = ℕ} 0 18 = e in absurd (omega arith)
over_image told by (Ok _) false rows e rest = rest
over_image told by (Err r) true rows e rest = by r ∙ e
over_image told by (Err r) false rows e rest = absurd (not_zero r e)

-- rows of which one holds, and rows of which none does, before others
rows_stay : (rows more : List RefusalRow) → (first_number rows ≡ 0 → ⊥) → first_number (rows ++ more) ≡ first_number rows
rows_stay [] more some = absurd (some refl)
rows_stay ((n, true) ∷ rows) more some = refl
rows_stay ((n, false) ∷ rows) more some = rows_stay rows more some

rows_pass : (rows more : List RefusalRow) → are_numbers rows ≡ true → first_number rows ≡ 0 → first_number (rows ++ more) ≡ first_number more
rows_pass [] more are none = refl
rows_pass ((n, true) ∷ rows) more are none =
    absurd (not_zero (refusal_by n) (eqb-true _ n (and_left (eqb (refusal_number (refusal_by n)) n) (are_numbers rows) are) ∙ none))
rows_pass ((n, false) ∷ rows) more are none = rows_pass rows more (and_right (eqb (refusal_number (refusal_by n)) n) (are_numbers rows) are) none

-- where the plain call is accepted: 17, or no refusal
room_number : (b : Bool) (x y : Answered) → x.result.refusal ≡ 0 → y.result.refusal ≡ 17 → (cond b x y).result.refusal ≡ cond (not b) 17 0
room_number true x y fits short = fits
room_number false x y fits short = short

answer_room : (setup : Setup) (ch : Channel) (image : List ℕ) (n : ℕ)
    → (answer_by accepted setup ch image n).result.refusal ≡ first_number (no_image_room setup ch image ∷ [])
answer_room setup ch image n = room_number (leb (length (image_bytes setup ch)) (length image)) _ _ refl refl

pub set_up_call_number : (image list : List ℕ) (master : ℕ)
    → (lobrinkas_set_up image list master).result.refusal ≡ first_number (set_up_call_rows image list master)
unfolding lobrinkas_set_up set_up
set_up_call_number image list master =
    let setup = imaged_setup (read_head list master) in
    over_image (λ v. (set_up_by v setup image).result.refusal) (λ r. refl) (imaged_verdict (read_head list master)) (malformed_head list master).1
    (broken setup ∷ no_image_room setup fresh_channel image ∷ [])
    (head_number list master)
    (rows_told (λ v. (answer_by v setup fresh_channel image 0).result.refusal) (λ r. refl) (broken setup ∷ []) (no_image_room setup fresh_channel image ∷ [])
    accepted refl (answer_room setup fresh_channel image 0))

pub post_call_number : (image : List ℕ) (n : ℕ) (p : Order) → (lobrinkas_post image n p).result.refusal ≡ first_number (post_call_rows image n p)
unfolding lobrinkas_post post_of post_verdict request_verdict
post_call_number image n p =
    let setup = imaged_setup (read_image image n) in
    let ch = imaged_channel (read_image image n) in
    let next = (post_of setup ch p).channel in
    over_image (λ v. (post_by v setup ch p image n).result.refusal) (λ r. refl) (imaged_verdict (read_image image n)) (malformed_image image n).1
    (post_rows setup ch p ++ (no_image_room setup next image ∷ []))
    (image_number image n)
    (rows_told (λ v. (answer_by v setup next image n).result.refusal) (λ r. refl)
    (unsound setup ch ∷ (1, not (is_present setup.levels p.level)) ∷ (2, has_request ch.left p.level) ∷ [])
    (request_rows setup (request_in p) ++ (no_image_room setup next image ∷ []))
    (request_verdict setup p.level (request_in p))
    refl
    (rows_told (λ v. (answer_by v setup next image n).result.refusal) (λ r. refl) (request_rows setup (request_in p)) (no_image_room setup next image ∷ [])
    accepted refl (answer_room setup next image n)))

entry_none : (e : Entry) (n : ℕ) (t : Tally) → (step_by e n t).refusal ≡ 0
unfolding cycle_step
entry_none (entry.Idle clock) n t = refl
entry_none (entry.Grant clock owner) n t = refl
entry_none (entry.Cycle c) n t = refl
entry_none (entry.Release clock level hold) n t = refl

step_room : (b : Bool) (x y : Stepping) → x.result.refusal ≡ 0 → y.result.refusal ≡ 17 → (cond b x y).result.refusal ≡ cond (not b) 17 0
step_room true x y fits short = fits
step_room false x y fits short = short

stepped_number : (a : Result Entry Refusal) (setup : Setup) (ch : Channel) (step : Step) (t : Tally) (image : List ℕ) (n : ℕ) (slave master : List ℕ)
    (rows : List RefusalRow) → are_numbers rows ≡ true → first (step_numbers a) ≡ first_number rows
    → (step_answered a setup ch step t image n slave master).result.refusal ≡ first_number (rows ++ (no_image_room setup step.channel image ∷ []))
stepped_number (Err why) setup ch step t image n slave master rows are e =
    e ∙ sym (rows_stay rows _ (λ z. not_zero why (e ∙ z)))
stepped_number (Ok entry) setup ch step t image n slave master rows are e =
    step_room (leb (length (image_bytes setup step.channel)) (length image)) _ _ (entry_none entry _ _) refl
    ∙ sym (rows_pass rows (no_image_room setup step.channel image ∷ []) are (sym e))

pub step_call_number : (image : List ℕ) (n : ℕ) (slave master : List ℕ) (t : Tally)
    → (lobrinkas_step image n slave master t).result.refusal ≡ first_number (step_call_rows image n slave master t)
unfolding lobrinkas_step
step_call_number image n slave master t =
    let setup = imaged_setup (read_image image n) in
    let ch = imaged_channel (read_image image n) in
    over_image (λ v. (stepping_by v setup ch t image n slave master).result.refusal) (λ r. refl) (imaged_verdict (read_image image n)) (malformed_image image n).1
    (step_rows setup ch (length slave) (length master) ++ (no_image_room setup (step_of setup ch t slave master).channel image ∷ []))
    (image_number image n)
    (stepped_number (step_of setup ch t slave master).answer setup ch (step_of setup ch t slave master) t image n slave master
    (step_rows setup ch (length slave) (length master)) refl (step_number setup ch t slave master))

run_room : (a b : Bool) (x y z : RunAnswered) → x.result.refusal ≡ 7 → y.result.refusal ≡ 0 → z.result.refusal ≡ 17
    → (cond a x (cond b y z)).result.refusal ≡ cond a 7 (cond (not b) 17 0)
run_room true b x y z long fits short = long
run_room false true x y z long fits short = fits
run_room false false x y z long fits short = short

pub run_call_number : (image : List ℕ) (n : ℕ) (slave master : List ℕ) (t : Tally) (budget : ℕ)
    → (lobrinkas_run image n slave master t budget).result.refusal ≡ first_number (run_call_rows image n slave master budget)
unfolding lobrinkas_run ready_verdict
run_call_number image n slave master t budget =
    let setup = imaged_setup (read_image image n) in
    let ch = imaged_channel (read_image image n) in
    let more : List RefusalRow = (7, ltb steps_most budget) ∷ (17, not (leb image_most (length image))) ∷ [] in
    over_image (λ v. (run_answered_by v setup ch t budget image n slave master).result.refusal) (λ r. refl) (imaged_verdict (read_image image n))
    (malformed_image image n).1
    (unsound setup ch ∷ other_length setup (length slave) (length master) ∷ more)
    (image_number image n)
    (rows_told (λ v. (run_ready v setup ch t budget image n slave master).result.refusal) (λ r. refl)
    (unsound setup ch ∷ other_length setup (length slave) (length master) ∷ []) more accepted refl
    (run_room (ltb steps_most budget) (leb image_most (length image)) _ _ _ refl refl refl))

-- why a level waits
pub why_number : (setup : Setup) (ch : Channel) (l : ℕ) → verdict_number (why_of setup ch l) ≡ first_number (why_rows setup ch)
unfolding why_of
why_number setup ch l = by_test (not (is_framed setup && is_sound setup ch)) (λ t. rw t) (λ f. rw f)

told_number : (told : Result Reason Refusal) → (told_by told).refusal ≡ verdict_number told
told_number (Ok reason) = refl
told_number (Err why) = refl

pub why_call_number : (image : List ℕ) (n l : ℕ) → (lobrinkas_why image n l).refusal ≡ first_number (why_call_rows image n)
unfolding lobrinkas_why
why_call_number image n l =
    let setup = imaged_setup (read_image image n) in
    let ch = imaged_channel (read_image image n) in
    over_image (λ v. (why_by v setup ch l).refusal) (λ r. refl) (imaged_verdict (read_image image n)) (malformed_image image n).1 (why_rows setup ch) (image_number image n)
    (told_number (why_of setup ch l) ∙ why_number setup ch l)
