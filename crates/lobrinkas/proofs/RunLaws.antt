-- A run over the image: it is refused as the plain run is, or its last image has room, since no image is longer than the longest. Assumes nothing.
use Prim.Native.Nat.{ℕ, zero, suc, ◌≤◌, ◌<◌}
use mathlib.Core.Path.{◌≡◌, refl, sym, ap, ◌∙◌}
use mathlib.Core.Bool.{Bool, true, false, not, ◌&&◌}
use mathlib.Core.List.{List, [], ◌∷◌}
use native.Mathlib.Omega.{arith}
use borrow.Author.Tests.{le-leb, lt-leb}
use lib.ListN.{length, replicate}
use lib.Dec.{eqb, leb, ltb}
use Rattle.std.specs.Prelude.{Err, Ok, Result}
use Rattle.act.specs.declared.Entry.{Entry}
use Rattle.basics.specs.Limits.{steps_most}
use Rattle.basics.proofs.Tests.{by_test}
use Rattle.refusal.specs.Refusal.{accepted, refusal_number, verdict_number, refused_by}
use Rattle.refusal.specs.declared.Refusal.{Refusal}
use Rattle.refusal.specs.declared.Refusal.TheVariants.{ClockFull, StoreLength, Unsound, Malformed}
use Rattle.frame.specs.declared.Setup.{Setup}
use Rattle.frame.specs.Frame.{is_framed}
use Rattle.frame.specs.Find.{slave_store_length}
use Rattle.channel.specs.declared.Channel.{Channel}
use Rattle.channel.specs.Channel.{Shaped}
use Rattle.sound.specs.Sound.{is_sound}
use Rattle.tally.specs.declared.Tally.{Tally}
use Rattle.step.specs.declared.Plan.{Plan}
use Rattle.step.specs.declared.Plan.TheVariants as plan
use Rattle.step.specs.declared.Ran.{Ran as Run}
use Rattle.step.specs.Plan.{act_plan, ready_verdict}
use Rattle.step.specs.Step.{Ready, step_of, advanced_by}
use Rattle.step.specs.Run.{World, Out, world, step_in, world_after, go_on, stopped, run_from, run_by, run_of}
use Rattle.step.proofs.PlanLaws.{says, plan_ready, ready_is}
use Rattle.step.proofs.TurnLaws.{ready_next}
use Rattle.demands.specs.History.{Moment, steps, Start}
use Rattle.demands.proofs.KeptLaws.{always}
use Rattle.demands.proofs.CallLaws.{run_is_steps}
use Rattle.image.specs.Layout.{image_bytes, image_most}
use Rattle.image.specs.Image.{imaged, malformed, read_image}
use Rattle.image.proofs.LongestLaws.{image_most_lem}
use Rattle.lobrinkas.specs.declared.Ran.{Ran}
use Rattle.lobrinkas.specs.Answers.{refused_ran}
use Rattle.lobrinkas.specs.Calls.{RunAnswered, running, run_done, run_ready, lobrinkas_run}
use Rattle.lobrinkas.specs.inner.Finish.{short_by, short_run, RunLeft, run_left, run_finished}
use Rattle.lobrinkas.proofs.CallLaws.{Tail, tail_room}

-- each of the four that a run gives and leaves
pub run_parts : {a b : RunAnswered} → a ≡ b → (a.result ≡ b.result) × ((a.image ≡ b.image) × ((a.slave ≡ b.slave) × (a.master ≡ b.master)))
run_parts e = (
  ap (λ (s : RunAnswered). s.result) e,
  (ap (λ (s : RunAnswered). s.image) e, (ap (λ (s : RunAnswered). s.slave) e, ap (λ (s : RunAnswered). s.master) e)),
)

-- a malformed image
pub run_malformed : (image : List ℕ) (n : ℕ) → malformed ≡ read_image image n → (slave master : List ℕ) (t : Tally) (budget : ℕ)
    → running (refused_ran Malformed n t) image slave master ≡ lobrinkas_run image n slave master t budget
unfolding lobrinkas_run
run_malformed image n bad slave master t budget = rw (← bad)

-- memory without room for the longest image
short_is : (v : Result Unit Refusal) (setup : Setup) (ch : Channel) (t : Tally) (budget n : ℕ) (image slave master : List ℕ) → leb image_most (length image) ≡ false
    → running (refused_ran (short_by v budget) n t) image slave master ≡ run_ready v setup ch t budget image n slave master
short_is (Err why) setup ch t budget n image slave master f = refl
short_is (Ok _) setup ch t budget n image slave master f = by_test (ltb steps_most budget) (λ b. rw b) (λ b. rw (b, f))

-- a run of no steps is tested as any other, and does nothing
none_by : (setup : Setup) (w : World) (v : Result Unit Refusal) → run_by setup v 0 w ≡ stopped v 0 w
unfolding run_from
none_by setup w (Err why) = refl
none_by setup w (Ok _) = refl

none_run : (setup : Setup) (w : World) → run_of setup 0 w ≡ stopped (ready_verdict setup w.channel (length w.slave) (length w.master)) 0 w
unfolding run_of
none_run setup w = none_by setup w (ready_verdict setup w.channel (length w.slave) (length w.master))

pub none_done : (setup : Setup) (ch : Channel) (t : Tally) (slave master : List ℕ) {run : Run} {slaves masters : List ℕ}
    → (run ≡ (run_of setup 0 (world ch t slave master)).result)
    × ((slaves ≡ (run_of setup 0 (world ch t slave master)).slave) × (masters ≡ (run_of setup 0 (world ch t slave master)).master))
    → (run.verdict ≡ ready_verdict setup ch (length slave) (length master)) × ((slaves ≡ slave) × (masters ≡ master))
none_done setup ch t slave master ran =
    let none = none_run setup (world ch t slave master) in (
      ap (λ (r : Run). r.verdict) ran.0 ∙ ap (λ (o : Out). o.result.verdict) none,
      (ran.1.0 ∙ ap (λ (o : Out). o.slave) none, ran.1.1 ∙ ap (λ (o : Out). o.master) none),
    )

module _ (setup : Setup) (ch : Channel) (image : List ℕ) (n : ℕ) (read : imaged setup ch ≡ read_image image n)
    (slave master : List ℕ) (t : Tally) (budget : ℕ) where
  pub run_short : length image < image_most
      → running (refused_ran (short_run setup ch (length slave) (length master) budget) n t) image slave master ≡ lobrinkas_run image n slave master t budget
  unfolding lobrinkas_run short_run
  run_short h =
      rw (← read)
      (short_is (ready_verdict setup ch (length slave) (length master)) setup ch t budget n image slave master (lt-leb image_most (length image) h))

-- a step of a channel that is ready is refused by 6 alone
full_by : (setup : Setup) (ch : Channel) (p : Plan) (why : Refusal) → act_plan setup ch ≡ p → (advanced_by setup ch p).answer ≡ Err why → why ≡ ClockFull
full_by setup ch plan.Idle why is e = let z : ◌≡◌ {A = ℕ} 0 1 = cc in absurd (omega arith)
full_by setup ch (plan.Refused r) why is e =
    let said = says setup ch (plan.Refused r) is in
    let same : r ≡ why = cc in
    sym same ∙ said
full_by setup ch (plan.Grant w) why is e = let z : ◌≡◌ {A = ℕ} 0 1 = cc in absurd (omega arith)
full_by setup ch (plan.Leave o) why is e = let z : ◌≡◌ {A = ℕ} 0 1 = cc in absurd (omega arith)
full_by setup ch (plan.Cycle o) why is e = let z : ◌≡◌ {A = ℕ} 0 1 = cc in absurd (omega arith)

abbrev ReadyIn : Setup → World → Type 0
ReadyIn setup w = Ready setup w.channel (length w.slave) (length w.master) × Shaped w.channel

only_full : (setup : Setup) (w : World) → ReadyIn setup w → (why : Refusal) → (step_in setup w).answer ≡ Err why → why ≡ ClockFull
unfolding step_of
only_full setup w r why e =
    let p = plan_ready setup w.channel (length w.slave) (length w.master) r.0 in
    full_by setup w.channel (act_plan setup w.channel) why refl (rw p at e)

-- and so a run that was begun ends by itself or at 6
abbrev Ends : Out → Type 0
Ends out = (not (eqb (verdict_number out.result.verdict) 0) && not (eqb (verdict_number out.result.verdict) 6)) ≡ false

run_ends : (setup : Setup) (left done : ℕ) (w : World) → ReadyIn setup w → Ends (run_from setup left done w)
unfolding run_from
run_ends setup zero done w r = refl
run_ends setup (suc left) done w r =
    go (step_in setup w).answer refl
    (run_ends setup left (suc done) (world_after setup w) (ready_next setup w.channel w.tally w.slave w.master r.0 r.1))
  where
    go : (a : Result Entry Refusal) → (step_in setup w).answer ≡ a → Ends (run_from setup left (suc done) (world_after setup w))
        → Ends (go_on a (run_from setup left (suc done) (world_after setup w)) (λ (v : Result Unit Refusal). stopped v done w))
    go (Ok entry) e later = later
    go (Err why) e later = rw (only_full setup w r why e) refl

-- the channel after a run is sound, and its image no longer than the longest
run_room : (setup : Setup) (budget : ℕ) (w : World) → ReadyIn setup w → length (image_bytes setup (run_of setup budget w).result.channel) ≤ image_most
run_room setup budget w r =
    let m : Moment = record { channel = w.channel; slave = w.slave; master = w.master } in
    let first : Start setup m = record { shaped = r.1; sound = r.0.sound } in
    let last = always setup m (replicate (run_of setup budget w).result.steps steps) first in
    let here = ap (λ (x : Moment). x.channel) (sym (run_is_steps setup budget w)) in
    let sound : is_sound setup (run_of setup budget w).result.channel ≡ true = ap (is_sound setup) (sym here) ∙ last.sound in
    image_most_lem setup (run_of setup budget w).result.channel r.0.framed sound (rw here at last.shaped)

abbrev pub ended : RunLeft → Out → RunAnswered
ended left out = running left.result left.image out.slave out.master

-- a refused run, by 9 or 8
abbrev is_refusal : ℕ → Bool
is_refusal number = not (eqb number 0) && not (eqb number 6)

by_rows : (a b : Bool) (why : Refusal) → refused_by ((9, a) ∷ (8, b) ∷ []) accepted ≡ Err why → is_refusal (refusal_number why) ≡ true
by_rows true b why e = let same : Unsound ≡ why = cc in rw (← same) refl
by_rows false true why e = let same : StoreLength ≡ why = cc in rw (← same) refl
by_rows false false why e = let z : ◌≡◌ {A = ℕ} 0 1 = cc in absurd (omega arith)

nine_eight : (setup : Setup) (ch : Channel) (s m : ℕ) (why : Refusal) → ready_verdict setup ch s m ≡ Err why → is_refusal (refusal_number why) ≡ true
unfolding ready_verdict
nine_eight setup ch s m why e =
    by_rows (not (is_framed setup && is_sound setup ch)) (not (eqb s (slave_store_length setup.slaves) && eqb m setup.master)) why e

module _ (setup : Setup) (ch : Channel) (image : List ℕ) (n start : ℕ) (tail : Tail setup image start) (slave master : List ℕ) (t : Tally) (budget : ℕ) where
  abbrev w : World
  w = world ch t slave master

  -- a run that was begun
  done_is : ReadyIn setup w → image_most ≤ length image → run_of setup budget w ≡ run_from setup budget 0 w
      → ended (run_finished (run_from setup budget 0 w).result t image n start) (run_from setup budget 0 w) ≡ run_done setup (run_from setup budget 0 w) image
  unfolding run_finished
  done_is r h same =
      let out = run_from setup budget 0 w in
      let small = run_room setup budget w r in
      let here : length (image_bytes setup out.result.channel) ≤ image_most = rw same at small in
      let room = tail_room setup image start tail out.result.channel (le-leb _ (length image) (omega arith)) in
      rw (run_ends setup budget 0 w r, room.0, room.1)

  run_same : ready_verdict setup ch (length slave) (length master) ≡ accepted → ltb steps_most budget ≡ false
      → run_of setup budget w ≡ run_from setup budget 0 w
  unfolding run_of
  run_same e f = rw (e, f)

  made_by : Shaped ch → image_most ≤ length image → (v : Result Unit Refusal) → ready_verdict setup ch (length slave) (length master) ≡ v
      → ended (run_finished (run_by setup v budget w).result t image n start) (run_by setup v budget w) ≡ run_ready v setup ch t budget image n slave master
  unfolding run_finished
  made_by k h (Err why) e = rw (nine_eight setup ch (length slave) (length master) why e)
  made_by k h (Ok _) e =
      by_test (ltb steps_most budget)
      (λ b. rw b)
      (λ f.
      let r : ReadyIn setup w = (ready_is setup ch (length slave) (length master) e, k) in
      let same = run_same e f in
      rw (f, le-leb image_most (length image) h) (done_is r h same ∙ ap (λ (o : Out). run_done setup o image) (sym same)))

  pub run_is : Shaped ch → image_most ≤ length image → imaged setup ch ≡ read_image image n
      → ended (run_finished (run_of setup budget w).result t image n start) (run_of setup budget w) ≡ lobrinkas_run image n slave master t budget
  unfolding run_of lobrinkas_run
  run_is k h read = rw (← read) (made_by k h (ready_verdict setup ch (length slave) (length master)) refl)

-- what the run and its end left, put together
pub left_with : (setup : Setup) (ch : Channel) (image : List ℕ) (n start : ℕ) (slave master : List ℕ) (t : Tally) (budget : ℕ)
    → {run : Run} {result : Ran} {after slaves masters : List ℕ}
    → run ≡ (run_of setup budget (world ch t slave master)).result
    → slaves ≡ (run_of setup budget (world ch t slave master)).slave
    → masters ≡ (run_of setup budget (world ch t slave master)).master
    → run_left result after ≡ run_finished run t image n start
    → running result after slaves masters
    ≡ ended (run_finished (run_of setup budget (world ch t slave master)).result t image n start) (run_of setup budget (world ch t slave master))
left_with setup ch image n start slave master t budget is s m e =
    let all = e ∙ ap (λ (run : Run). run_finished run t image n start) is in
    λ i. running (all i).result (all i).image (s i) (m i)
