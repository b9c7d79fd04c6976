-- No call on a machine that a host may restore is refused by 18 or by 9: its bytes are an image, its set-up keeps the frame, its channel is sound. So it is at
-- every later moment of a history (`saved` in Restored): no call of one ever is. Assumes nothing.
use Prim.Native.Nat.{ℕ}
use mathlib.Core.Path.{◌≡◌, refl, sym, ap, subst, ◌∙◌}
use mathlib.Core.Bool.{Bool, true, false, cond, not, ◌&&◌, ◌||◌}
use mathlib.Core.List.{List, [], ◌∷◌}
use lib.ListN.{length}
use lib.Dec.{eqb, leb, ltb}
use Rattle.std.specs.Prelude.{Err, Ok, Result}
use Rattle.act.specs.declared.Entry.{Entry}
use Rattle.refusal.specs.declared.Refusal.{Refusal}
use Rattle.basics.specs.Limits.{steps_most}
use Rattle.basics.proofs.Tests.{by_test}
use Rattle.refusal.specs.Refusal.{accepted, refusal_number, refusal_by, refused_by, verdict_number}
use Rattle.frame.specs.declared.Setup.{Setup}
use Rattle.frame.specs.declared.Order.{Order}
use Rattle.frame.specs.Frame.{is_framed}
use Rattle.frame.specs.Rows.{is_present}
use Rattle.frame.specs.Find.{slave_store_length}
use Rattle.channel.specs.declared.Channel.{Channel}
use Rattle.channel.specs.Channel.{has_request}
use Rattle.sound.specs.Request.{is_in_range, is_inside_slave, is_outside_master, request_verdict}
use Rattle.sound.specs.Sound.{is_sound}
use Rattle.post.specs.Post.{request_in, post_verdict, post_of}
use Rattle.tally.specs.declared.Tally.{Tally}
use Rattle.step.specs.declared.Plan.{Plan}
use Rattle.step.specs.declared.Plan.TheVariants as plan
use Rattle.step.specs.declared.Stepped.{Stepped as Step}
use Rattle.step.specs.Plan.{act_plan, ready_verdict, plan_by, plan_of}
use Rattle.step.specs.Step.{advanced_by, step_of}
use Rattle.step.proofs.PlanLaws.{says}
use Rattle.why.specs.Why.{why_of}
use Rattle.image.specs.Layout.{image_bytes, image_most}
use Rattle.image.specs.Image.{imaged, read_image}
use Rattle.image.proofs.ImageLaws.{imaged_whole}
use Rattle.lobrinkas.specs.declared.Told.{Told}
use Rattle.lobrinkas.specs.Calls.{
  has_image_room,
  Answered,
  answer_by,
  Stepping,
  step_answered,
  lobrinkas_step,
  run_ready,
  lobrinkas_run,
  lobrinkas_why,
}
use Rattle.lobrinkas.specs.History.{
  Machine,
  setup_in,
  channel_in,
  HostCall,
  host_post,
  host_step,
  host_run,
  host_stray_step,
  host_stray_run,
  host_move,
  refusal_in,
}
use Rattle.lobrinkas.specs.Restored.{Restorable}
use Rattle.lobrinkas.proofs.PlainLaws.{plain_post, plain_step, plain_why, made_step}

-- a number that is neither 9 nor 18
abbrev pub Known : ℕ → Type 0
Known number = (eqb number 9 || eqb number 18) ≡ false

-- a row of a call's refusals, and then the next
row_known : (n : ℕ) (holds : Bool) (rest : Result Unit Refusal) → Known (refusal_number (refusal_by n)) → Known (verdict_number rest)
    → Known (verdict_number (cond holds (Err (refusal_by n)) rest))
row_known n true rest k l = k
row_known n false rest k l = l

module _ (setup : Setup) (ch : Channel) (framed : is_framed setup ≡ true) (sound : is_sound setup ch ≡ true) where
  -- a post: 1 to 5, and then 17
  post_known : (p : Order) → Known (verdict_number (post_of setup ch p).verdict)
  unfolding post_of post_verdict request_verdict
  post_known p =
      let q = request_in p in
      rw (framed, sound)
      (row_known 1 (not (is_present setup.levels p.level))
      (refused_by ((2, has_request ch.left p.level) ∷ []) (request_verdict setup p.level q)) refl
      (row_known 2 (has_request ch.left p.level) (request_verdict setup p.level q) refl
      (row_known 3 (not (is_in_range q)) (refused_by ((4, not (is_inside_slave setup q)) ∷ (5, is_outside_master setup q) ∷ []) accepted) refl
      (row_known 4 (not (is_inside_slave setup q)) (refused_by ((5, is_outside_master setup q) ∷ []) accepted) refl
      (row_known 5 (is_outside_master setup q) accepted refl refl)))))

  -- a step and a run: 8,
  ready_known : (slave master : ℕ) → Known (verdict_number (ready_verdict setup ch slave master))
  unfolding ready_verdict
  ready_known slave master =
      rw (framed, sound)
      (row_known 8 (not (eqb slave (slave_store_length setup.slaves) && eqb master setup.master)) accepted refl refl)

  -- a step: 6 where the clock is full
  abbrev KnownPlan : Plan → Type 0
  KnownPlan (plan.Refused why) = Known (refusal_number why)
  KnownPlan plan.Idle = Unit
  KnownPlan (plan.Grant winner) = Unit
  KnownPlan (plan.Leave owner) = Unit
  KnownPlan (plan.Cycle owner) = Unit

  act_known : (p : Plan) → act_plan setup ch ≡ p → KnownPlan p
  act_known (plan.Refused why) e = rw (says setup ch (plan.Refused why) e)
  act_known plan.Idle e = tt
  act_known (plan.Grant winner) e = tt
  act_known (plan.Leave owner) e = tt
  act_known (plan.Cycle owner) e = tt

  plan_known : (v : Result Unit Refusal) → Known (verdict_number v) → KnownPlan (plan_by setup ch v)
  plan_known (Ok _) k = act_known (act_plan setup ch) refl
  plan_known (Err why) k = k

  abbrev KnownAnswer : Result Entry Refusal → Type 0
  KnownAnswer (Ok entry) = Unit
  KnownAnswer (Err why) = Known (refusal_number why)

  advanced_known : (p : Plan) → KnownPlan p → KnownAnswer (advanced_by setup ch p).answer
  advanced_known (plan.Refused why) k = k
  advanced_known plan.Idle k = tt
  advanced_known (plan.Grant winner) k = tt
  advanced_known (plan.Leave owner) k = tt
  advanced_known (plan.Cycle owner) k = tt

  step_known : (t : Tally) (slave master : List ℕ) → KnownAnswer (step_of setup ch t slave master).answer
  unfolding step_of plan_of
  step_known t slave master =
      advanced_known (plan_of setup ch (length slave) (length master))
      (plan_known (ready_verdict setup ch (length slave) (length master)) (ready_known (length slave) (length master)))

  -- the calls' answers: these, 17 and 0
  answer_known : (v : Result Unit Refusal) (next : Channel) (image : List ℕ) (n : ℕ) → Known (verdict_number v) → Known (answer_by v setup next image n).result.refusal
  answer_known (Err why) next image n k = k
  answer_known (Ok _) next image n k = by_test (has_image_room setup next image) (λ t. rw t refl) (λ f. rw f refl)

  stepped_known : (a : Result Entry Refusal) (step : Step) (t : Tally) (image : List ℕ) (n : ℕ) (slave master : List ℕ) → KnownAnswer a
      → Known (step_answered a setup ch step t image n slave master).result.refusal
  stepped_known (Err why) step t image n slave master k = k
  stepped_known (Ok entry) step t image n slave master k =
      by_test (has_image_room setup step.channel image)
      (λ room. rw (room, made_step entry (length (image_bytes setup step.channel)) step.tally) refl)
      (λ none. rw none refl)

  ran_known : (v : Result Unit Refusal) (t : Tally) (budget : ℕ) (image : List ℕ) (n : ℕ) (slave master : List ℕ) → Known (verdict_number v)
      → Known (run_ready v setup ch t budget image n slave master).result.refusal
  ran_known (Err why) t budget image n slave master k = k
  ran_known (Ok _) t budget image n slave master k =
      by_test (ltb steps_most budget)
      (λ long. rw long refl)
      (λ few. by_test (leb image_most (length image)) (λ room. rw (few, room) refl) (λ none. rw (few, none) refl))

-- Neither 9 nor 18, whatever is called.
module _ (m : Machine) (r : Restorable m) where
  reads : read_image m.memory m.used ≡ imaged (setup_in m) (channel_in m)
  reads = imaged_whole (read_image m.memory m.used) r.read

  step_answers : (t : Tally) (slave master : List ℕ) → Known (lobrinkas_step m.memory m.used slave master t).result.refusal
  step_answers t slave master =
      subst (λ (a : Stepping). Known a.result.refusal) (sym (plain_step m.memory m.used reads slave master t))
      (stepped_known (setup_in m) (channel_in m) r.framed r.sound (step_of (setup_in m) (channel_in m) t slave master).answer _ t m.memory m.used
      slave master (step_known (setup_in m) (channel_in m) r.framed r.sound t slave master))

  run_answers : (t : Tally) (budget : ℕ) (slave master : List ℕ) → Known (lobrinkas_run m.memory m.used slave master t budget).result.refusal
  unfolding lobrinkas_run
  run_answers t budget slave master =
      rw reads
      (ran_known (setup_in m) (channel_in m) r.framed r.sound (ready_verdict (setup_in m) (channel_in m) (length slave) (length master)) t budget m.memory
      m.used slave master (ready_known (setup_in m) (channel_in m) r.framed r.sound (length slave) (length master)))

  pub always_read : (c : HostCall (setup_in m)) → Known (refusal_in (setup_in m) m c)
  always_read (host_post p) =
      subst (λ (a : Answered). Known a.result.refusal) (sym (plain_post m.memory m.used reads p))
      (answer_known (setup_in m) (channel_in m) r.framed r.sound (post_of (setup_in m) (channel_in m) p).verdict _ m.memory m.used
      (post_known (setup_in m) (channel_in m) r.framed r.sound p))
  always_read (host_step t) = step_answers t m.slave m.master
  always_read (host_run t budget) = run_answers t budget m.slave m.master
  always_read (host_stray_step t slave master d) = step_answers t slave master
  always_read (host_stray_run t budget slave master d) = run_answers t budget slave master
  always_read (host_move rest) = refl

  -- And the question why a level waits is not refused at all.
  pub always_told : (l : ℕ) → (lobrinkas_why m.memory m.used l).refusal ≡ 0
  unfolding why_of
  always_told l = ap (λ (a : Told). a.refusal) (plain_why m.memory m.used reads l) ∙ rw (r.framed, r.sound)
