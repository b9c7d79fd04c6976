-- A host's calls over an image, from any machine that it may restore: what they come to, and demand 3 of it. No law of the machine is proved again here: that
-- an image that was written is read again is crate image's, that a call keeps a channel sound and demand 3 are crate demands'. Assumes nothing.
use Prim.Native.Nat.{ℕ, zero, suc, ◌+◌, ◌/◌, ◌≤◌, ◌<◌}
use mathlib.Core.Path.{◌≡◌, refl, sym, ap, ◌∙◌, subst}
use mathlib.Core.Bool.{true, cond}
use mathlib.Core.List.{List, [], ◌∷◌, ◌++◌}
use native.Mathlib.Omega.{arith}
use borrow.Author.Tests.{ltb-true, leb-true, le-leb}
use lib.ListN.{length, take, drop, length-append}
use lib.Seq.{sets-eq, take-take, take_at, length-take-le}
use lib.Dec.{eqb, ltb}
use Rattle.std.specs.Prelude.{Err, Ok, Result}
use Rattle.act.specs.declared.Entry.{Entry}
use Rattle.refusal.specs.declared.Refusal.{Refusal}
use Rattle.basics.proofs.Tests.{by_test}
use Rattle.refusal.specs.Refusal.{accepted, refusal_number, refusal_by}
use Rattle.refusal.proofs.NumberLaws.{not_zero}
use Rattle.number.specs.Number.{top, shortest, bytes_of, Bytes}
use Rattle.numbers.specs.Numbers.{all_bytes}
use Rattle.numbers.proofs.RoundTrip.{Numbers}
use Rattle.frame.specs.declared.Setup.{Setup}
use Rattle.frame.specs.declared.Order.{Order}
use Rattle.frame.specs.Frame.{is_framed}
use Rattle.frame.proofs.KindLaws.{Wide}
use Rattle.channel.specs.declared.Channel.{Channel}
use Rattle.channel.specs.Channel.{request_of, fresh_channel, set_up}
use Rattle.sound.specs.Sound.{is_sound}
use Rattle.post.specs.Post.{post_of}
use Rattle.post.proofs.PostLaws.{refused_same}
use Rattle.tally.specs.declared.Tally.{Tally}
use Rattle.step.specs.Plan.{ready_verdict, plan_of}
use Rattle.step.specs.Step.{step_of}
use Rattle.image.specs.Layout.{setup_numbers, channel_numbers, image_bytes}
use Rattle.image.specs.Image.{
  Imaged,
  imaged,
  read_setup,
  read_channel,
  read_image,
  read_head,
  imaged_verdict,
  imaged_setup,
  imaged_channel,
}
use Rattle.image.proofs.ImageLaws.{imaged_whole}
use Rattle.image.proofs.ImageLaws.{laid_front}
use Rattle.image.proofs.LongestLaws.{image_most_lem}
use Rattle.image.proofs.Writable.{Writable, sound_writable}
use Rattle.image.proofs.WrittenBack.{image_parts, image_written, image_writable, head_read_lem}
use Rattle.image.proofs.SetupBack.{tidied}
use Rattle.image.proofs.ReadBack.{image_read, read_tidied, head_tidied}
use Rattle.demands.specs.History.{Moment, Start}
use Rattle.demands.specs.Calls.{Differ, Call, ran_to, called, called_all, acts_over}
use Rattle.demands.specs.Calls as plain
use Rattle.demands.specs.Demand.{bytes_moved, set_up_with}
use Rattle.demands.proofs.KeptLaws.{always}
use Rattle.demands.proofs.RefusedLaws.{refused_step_lem}
use Rattle.demands.proofs.CallLaws.{call_is_acts, calls_are_acts}
use Rattle.demands.proofs.DemandLaws.{demand_3, fresh_start, after_set_up}
use Rattle.lobrinkas.specs.Answers.{accepted_answer}
use Rattle.lobrinkas.specs.Calls.{
  has_image_room,
  image_after,
  Answered,
  answering,
  answer_by,
  lobrinkas_set_up,
  Stepping,
  RunAnswered,
  step_answered,
  step_refused,
  run_refused,
  lobrinkas_step,
  lobrinkas_run,
}
use Rattle.lobrinkas.specs.History.{
  Machine,
  setup_in,
  channel_in,
  moment_in,
  HostCall,
  host_post,
  host_step,
  host_run,
  host_stray_step,
  host_stray_run,
  host_move,
  with_image,
  after_step,
  after_run,
  played,
  played_all,
  comes_to_one,
  comes_to,
}
use Rattle.lobrinkas.specs.Restored.{Restorable, machine_then, calls_since, acts_since, AfterRestore, first_machine, FirstMade, AfterFirst}
use Rattle.lobrinkas.proofs.PlainLaws.{plain_post, plain_step, made_step, made_length, plain_run, PlainRun, run_refused_lem, run_short, run_made_lem}

-- what a set-up that was read from an image or a head has: it keeps the frame, its tables have all their places, and nothing stands behind its counts
pub record Whole (setup : Setup) : Type 0 where
  pub framed : is_framed setup ≡ true
  pub wide : Wide setup
  pub tidy : tidied setup ≡ setup

-- a channel and a machine's stores
abbrev pub moment_of : Channel → Machine → Moment
moment_of ch m = record { channel = ch; slave = m.slave; master = m.master }

-- after any calls a channel is still one that a history may start from
called_start : (setup : Setup) (m : Moment) (calls : List (Call setup)) → Start setup m → Start setup (called_all setup m calls)
called_start setup m calls s = subst (Start setup) (sym (calls_are_acts setup m calls)) (always setup m (acts_over setup m calls) s)

-- some calls and then more
called_both : (setup : Setup) (m : Moment) (some more : List (Call setup)) → called_all setup m (some ++ more) ≡ called_all setup (called_all setup m some) more
called_both setup m [] more = refl
called_both setup m (c ∷ some) more = called_both setup (called setup m c) some more

-- every byte of an image is one: of a number below the largest, of a list of these, and of a list one after another
number_bytes : (left v : ℕ) → v < top left → Bytes (shortest left v)
number_bytes zero v h = (omega arith, tt)
number_bytes (suc left) v h =
    by_test (ltb v 128)
    (λ t. rw t (omega (arith, ltb-true v 128 t), tt))
    (λ f. rw f (omega arith, number_bytes left (v / 128) (omega arith)))

bytes_append : (a b : List ℕ) → Bytes a → Bytes b → Bytes (a ++ b)
bytes_append [] b x y = y
bytes_append (v ∷ a) b x y = (x.0, bytes_append a b x.1 y)

list_bytes : (list : List ℕ) → Numbers list → Bytes (all_bytes list)
unfolding bytes_of
list_bytes [] fit = tt
list_bytes (v ∷ list) fit = bytes_append (bytes_of v) (all_bytes list) (number_bytes 4 v (fit 0)) (list_bytes list (λ i. fit (suc i)))

-- a plain call, unless it was refused by 17
abbrev unless_short : {setup : Setup} → ℕ → Call setup → List (Call setup)
unless_short number c = cond (eqb number 17) [] (c ∷ [])

-- The machine stands at a moment: its image is that of the set-up and the channel then, and reads as these; its stores are those then.
pub record Stands (setup : Setup) (now : Moment) (m : Machine) : Type 0 where
  pub read : read_image m.memory m.used ≡ imaged setup now.channel
  pub image : take m.used m.memory ≡ image_bytes setup now.channel
  pub moment : moment_of now.channel m ≡ now

-- it follows from a moment by some calls
abbrev pub Follows : (setup : Setup) → Moment → List (Call setup) → Machine → Type 0
Follows setup first calls later = Stands setup (called_all setup first calls) later

-- What was written is read again, whatever stands behind it.
abbrev laid : Setup → Moment → List ℕ → Machine
laid setup now memory =
    record {
      memory = image_after setup now.channel memory;
      used = length (image_bytes setup now.channel);
      slave = now.slave;
      master = now.master;
    }

written_stands : (setup : Setup) (now : Moment) (memory : List ℕ) → Whole setup → Start setup now
    → length (image_bytes setup now.channel) ≤ length memory → Stands setup now (laid setup now memory)
written_stands setup now memory w s room =
    let ch = now.channel in
    let bytes = image_bytes setup ch in
    record {
      read =
          ap (λ (x : List ℕ). read_image x (length bytes)) (sets-eq bytes memory 0 (omega (arith, room)))
          ∙ image_read setup ch (drop (0 + length bytes) memory) (sound_writable setup ch w.framed s.sound w.wide s.shaped)
          ∙ ap (λ (x : Setup). imaged x ch) w.tidy;
      image = laid_front memory bytes (length bytes) room refl refl;
      moment = refl;
    }

-- an image that is brought to other memory reads as it did
moved_front : (bytes rest : List ℕ) (n : ℕ) → n ≤ length bytes → take n (take n bytes ++ rest) ≡ take n bytes
moved_front bytes rest n h = take_at (take n bytes) rest n (length-take-le n bytes h)

moved_read : (bytes rest : List ℕ) (n : ℕ) → n ≤ length bytes → read_image (take n bytes ++ rest) n ≡ read_image bytes n
unfolding read_image read_setup read_channel
moved_read bytes rest n h =
    let size = length-take-le n bytes h in
    let here = le-leb n (length (take n bytes ++ rest)) (omega (arith, length-append (take n bytes) rest, size)) in
    rw (here, le-leb n (length bytes) h, moved_front bytes rest n h)

-- One call on a machine that stands at a moment: it comes to no plain call or to one, and the machine after it stands at the moment after that.
module _ (setup : Setup) (ch : Channel) (m : Machine) (w : Whole setup) (s : Start setup (moment_of ch m)) (now : Stands setup (moment_of ch m) m) where
  -- nothing has happened: neither to the bytes nor to the moment
  stays : (calls : List (Call setup)) → called_all setup (moment_of ch m) calls ≡ moment_of ch m → Follows setup (moment_of ch m) calls m
  stays calls same = subst (λ (x : Moment). Stands setup x m) (sym same) now

  -- so it is of a call that changes nothing, whether it counts or not
  stays_either : (number : ℕ) (c : Call setup) → called setup (moment_of ch m) c ≡ moment_of ch m
      → Follows setup (moment_of ch m) (unless_short number c) m
  stays_either number c same = by_test (eqb number 17) (λ t. rw t (stays [] refl)) (λ f. rw f (stays (c ∷ []) same))

  -- the new image was written
  writes : (c : Call setup) → length (image_bytes setup (called setup (moment_of ch m) c).channel) ≤ length m.memory
      → Stands setup (called setup (moment_of ch m) c) (laid setup (called setup (moment_of ch m) c) m.memory)
  writes c room =
      written_stands setup (called setup (moment_of ch m) c) m.memory w (called_start setup (moment_of ch m) (c ∷ []) s) room

  -- a post, by what it answers
  abbrev PostFollows : Order → Answered → Type 0
  PostFollows p a =
      Follows setup (moment_of ch m) (unless_short a.result.refusal (plain.post p)) (with_image m a.image a.result.length)

  post_by_lem : (p : Order) (v : Result Unit Refusal) → (post_of setup ch p).verdict ≡ v
      → PostFollows p (answer_by v setup (post_of setup ch p).channel m.memory m.used)
  unfolding post_of
  post_by_lem p (Err why) v =
      stays_either (refusal_number why) (plain.post p) (ap (λ (x : Channel). moment_of x m) (refused_same setup ch p (rw v)))
  post_by_lem p (Ok _) v =
      by_test (has_image_room setup (post_of setup ch p).channel m.memory)
      (λ room. rw room (writes (plain.post p) (leb-true _ _ room)))
      (λ none. rw none (stays [] refl))

  -- a step
  abbrev StepFollows : Tally → Stepping → Type 0
  StepFollows t a = Follows setup (moment_of ch m) (unless_short a.result.refusal (plain.step t)) (after_step a)

  step_by_lem : (t : Tally) (a : Result Entry Refusal) → (step_of setup ch t m.slave m.master).answer ≡ a
      → StepFollows t (step_answered a setup ch (step_of setup ch t m.slave m.master) t m.memory m.used m.slave m.master)
  step_by_lem t (Err why) v =
      let k = refused_step_lem setup ch t m.slave m.master why v in
      stays_either (refusal_number why) (plain.step t) (λ i. record { channel = k.channel i; slave = k.slave i; master = k.master i })
  step_by_lem t (Ok entry) v =
      let next = step_of setup ch t m.slave m.master in
      let n = length (image_bytes setup next.channel) in
      by_test (has_image_room setup next.channel m.memory)
      (λ room. rw (room, made_step entry n next.tally, made_length entry n next.tally) (writes (plain.step t) (leb-true _ _ room)))
      (λ none. rw none (stays [] refl))

  -- a run
  abbrev RunFollows : Tally → ℕ → RunAnswered → Type 0
  RunFollows t budget a = Follows setup (moment_of ch m) (unless_short a.result.refusal (plain.run t budget)) (after_run a)

  run_by : (t : Tally) (budget : ℕ) → PlainRun m.memory m.used now.read m.slave m.master t budget
      → RunFollows t budget (lobrinkas_run m.memory m.used m.slave m.master t budget)
  run_by t budget (run_refused_lem why same is) =
      subst (RunFollows t budget) (sym is) (stays_either (refusal_number why) (plain.run t budget) (ap ran_to same))
  run_by t budget (run_short short is) = subst (RunFollows t budget) (sym is) (stays [] refl)
  run_by t budget (run_made_lem room is) =
      let later = called_start setup (moment_of ch m) (plain.run t budget ∷ []) s in
      subst (RunFollows t budget) (sym is)
      (writes (plain.run t budget) (omega (arith, room, image_most_lem setup _ w.framed later.sound later.shaped)))

  -- over stores of other lengths all is refused by 8
  stray_verdict : (slave master : List ℕ) → Differ setup slave master → ready_verdict setup ch (length slave) (length master) ≡ Err (refusal_by 8)
  unfolding ready_verdict
  stray_verdict slave master d = rw (w.framed, s.sound, d)

  stray_step_lem : (t : Tally) (slave master : List ℕ) → Differ setup slave master
      → lobrinkas_step m.memory m.used slave master t ≡ step_refused (refusal_by 8) t m.memory m.used slave master
  unfolding step_of plan_of
  stray_step_lem t slave master d = plain_step m.memory m.used now.read slave master t ∙ rw (stray_verdict slave master d)

  stray_run_lem : (t : Tally) (budget : ℕ) (slave master : List ℕ) → Differ setup slave master
      → lobrinkas_run m.memory m.used slave master t budget ≡ run_refused (refusal_by 8) t m.memory m.used slave master
  unfolding lobrinkas_run
  stray_run_lem t budget slave master d = rw (now.read, stray_verdict slave master d)

  -- any of them
  pub one_follows : (c : HostCall setup) → Follows setup (moment_of ch m) (comes_to_one setup m c) (played setup m c)
  one_follows (host_post p) =
      subst (PostFollows p) (sym (plain_post m.memory m.used now.read p)) (post_by_lem p (post_of setup ch p).verdict refl)
  one_follows (host_step t) =
      subst (StepFollows t) (sym (plain_step m.memory m.used now.read m.slave m.master t))
      (step_by_lem t (step_of setup ch t m.slave m.master).answer refl)
  one_follows (host_run t budget) = run_by t budget (plain_run m.memory m.used now.read m.slave m.master t budget)
  one_follows (host_stray_step t slave master d) =
      let c = plain.stray_step t slave master d in
      subst
      (λ (a : Stepping). Follows setup (moment_of ch m) (unless_short a.result.refusal c) (with_image m a.image a.result.length))
      (sym (stray_step_lem t slave master d))
      (stays (c ∷ []) (call_is_acts setup (moment_of ch m) c))
  one_follows (host_stray_run t budget slave master d) =
      let c = plain.stray_run t budget slave master d in
      subst
      (λ (a : RunAnswered). Follows setup (moment_of ch m) (unless_short a.result.refusal c) (with_image m a.image a.result.length))
      (sym (stray_run_lem t budget slave master d))
      (stays (c ∷ []) (call_is_acts setup (moment_of ch m) c))
  one_follows (host_move rest) =
      let fits = (image_parts m.memory m.used now.read).inside in
      record {
        read = moved_read m.memory rest m.used fits ∙ now.read;
        image = moved_front m.memory rest m.used fits ∙ now.image;
        moment = refl;
      }

-- any calls
pub all_follow : (setup : Setup) (ch : Channel) (m : Machine) → Whole setup → Start setup (moment_of ch m) → Stands setup (moment_of ch m) m
    → (calls : List (HostCall setup)) → Follows setup (moment_of ch m) (comes_to setup m calls) (played_all setup m calls)
all_follow setup ch m w s now [] = now
all_follow setup ch m w s now (c ∷ calls) =
    let first = moment_of ch m in
    let some = comes_to_one setup m c in
    let one = one_follows setup ch m w s now c in
    let more = comes_to setup (played setup m c) calls in
    let here : moment_of (called_all setup first some).channel (played setup m c) ≡ called_all setup first some = one.moment in
    let rest =
    all_follow setup (called_all setup first some).channel (played setup m c) w
    (subst (Start setup) (sym here) (called_start setup first some s))
    (subst (λ (x : Moment). Stands setup x (played setup m c)) (sym here) one)
    calls in
    let same : called_all setup (moment_of (called_all setup first some).channel (played setup m c)) more ≡ called_all setup first (some ++ more) =
    ap (λ (x : Moment). called_all setup x more) here ∙ sym (called_both setup first some more) in
    subst (λ (x : Moment). Stands setup x (played_all setup m (c ∷ calls))) same rest

-- a machine that stands at a moment from which a history may start is one to restore
stands_restorable : (setup : Setup) (now : Moment) (m : Machine) → Whole setup → Start setup now → Stands setup now m → Restorable m
unfolding image_bytes
stands_restorable setup now m w s here =
    let ch = now.channel in
    let fits = (sound_writable setup ch w.framed s.sound w.wide s.shaped).fits in
    record {
      bytes = subst Bytes (sym here.image) (list_bytes (setup_numbers setup ++ channel_numbers ch) fits);
      read = ap imaged_verdict here.read;
      framed = ap (λ (i : Imaged). is_framed (imaged_setup i)) here.read ∙ w.framed;
      sound = ap (λ (i : Imaged). is_sound (imaged_setup i) (imaged_channel i)) here.read ∙ s.sound;
    }

-- the image alone reads as it does with what stands behind it
alone_read : (bytes : List ℕ) (n : ℕ) → n ≤ length bytes → read_image (take n bytes) n ≡ read_image bytes n
unfolding read_image read_setup read_channel
alone_read bytes n h =
    let here = le-leb n (length (take n bytes)) (omega (arith, length-take-le n bytes h)) in
    rw (here, le-leb n (length bytes) h, take-take n n bytes (omega arith))

-- and a machine to restore stands at its own moment, from which a history may start
module _ (m : Machine) (r : Restorable m) where
  reads : read_image m.memory m.used ≡ imaged (setup_in m) (channel_in m)
  reads = imaged_whole (read_image m.memory m.used) r.read

  inside : m.used ≤ length m.memory
  inside = (image_parts m.memory m.used reads).inside

  reads_alone : read_image (take m.used m.memory) m.used ≡ imaged (setup_in m) (channel_in m)
  reads_alone = alone_read m.memory m.used inside ∙ reads

  writable : Writable (setup_in m) (channel_in m)
  writable = image_writable (take m.used m.memory) m.used r.bytes reads_alone

  restored_whole : Whole (setup_in m)
  restored_whole =
      record {
        framed = r.framed;
        wide = writable.wide;
        tidy = read_tidied (take m.used m.memory) m.used r.bytes reads_alone;
      }

  restored_start : Start (setup_in m) (moment_in m)
  restored_start = record { shaped = writable.shaped; sound = r.sound }

  restored_stands : Stands (setup_in m) (moment_in m) m
  restored_stands =
      record {
        read = reads;
        image =
            sym
            (image_written (take m.used m.memory) m.used r.bytes reads_alone
            ∙ take-take m.used m.used m.memory (omega arith));
        moment = refl;
      }

-- Demand 3 counts from the restored channel.
pub after_restore : (m : Machine) → Restorable m → (calls : List (HostCall (setup_in m))) → AfterRestore m calls
after_restore m r calls =
    let setup = setup_in m in
    let first = moment_in m in
    let start = restored_start m r in
    let w = restored_whole m r in
    let f = all_follow setup (channel_in m) m w start (restored_stands m r) calls in
    let d = demand_3 setup first (calls_since m calls) start in
    let now : channel_in (machine_then m calls) ≡ (called_all setup first (calls_since m calls)).channel = ap imaged_channel f.read in
    record {
      saved = stands_restorable setup _ (machine_then m calls) w (called_start setup first (calls_since m calls) start) f;
      setup = ap imaged_setup f.read;
      moment = ap (λ (x : Channel). moment_of x (machine_then m calls)) now ∙ f.moment;
      image = f.image ∙ ap (image_bytes setup) (sym now);
      sums = λ l. d.sums l ∙ ap (λ (x : Channel). bytes_moved setup first l (acts_since m calls) + (request_of x l).left) (sym now);
      demand = d;
    }

-- an accepted set-up: the head was read, its set-up keeps the frame, and the image of the fresh channel had room
pub record SetUpMade (memory head : List ℕ) (master : ℕ) : Type 0 where
  pub read : imaged_verdict (read_head head master) ≡ accepted
  pub framed : is_framed (imaged_setup (read_head head master)) ≡ true
  pub room : length (image_bytes (imaged_setup (read_head head master)) fresh_channel) ≤ length memory
  pub is : lobrinkas_set_up memory head master
      ≡ answering (accepted_answer 0 (length (image_bytes (imaged_setup (read_head head master)) fresh_channel)))
      (image_after (imaged_setup (read_head head master)) fresh_channel memory)

set_up_made : (memory head : List ℕ) (master : ℕ) → (lobrinkas_set_up memory head master).result.refusal ≡ 0 → SetUpMade memory head master
unfolding lobrinkas_set_up set_up
set_up_made memory head master zero_is = by (imaged_verdict (read_head head master)) refl
  where
    by : (v : Result Unit Refusal) → imaged_verdict (read_head head master) ≡ v → SetUpMade memory head master
    by (Err why) v = absurd (not_zero why (rw v at zero_is))
    by (Ok _) v =
        by_test (is_framed (imaged_setup (read_head head master)))
        (λ t.
        by_test (has_image_room (imaged_setup (read_head head master)) fresh_channel memory)
        (λ room. record { read = v; framed = t; room = leb-true _ _ room; is = rw (v, t, room) })
        (λ none. let z : ◌≡◌ {A = ℕ} 17 0 = rw (v, t, none) at zero_is in absurd (omega arith)))
        (λ f. let z : ◌≡◌ {A = ℕ} 9 0 = rw (v, f) at zero_is in absurd (omega arith))

-- A first image.
module _ (memory head : List ℕ) (n : ℕ) (slave master : List ℕ) (accepted : (lobrinkas_set_up memory head n).result.refusal ≡ 0) where
  made : SetUpMade memory head n
  made = set_up_made memory head n accepted

  head_is : read_head head n ≡ imaged (imaged_setup (read_head head n)) (imaged_channel (read_head head n))
  head_is = imaged_whole (read_head head n) made.read

  first_whole : Whole (imaged_setup (read_head head n))
  first_whole = record { framed = made.framed; wide = (head_read_lem head n head_is).wide; tidy = head_tidied head n head_is }

  first_stands : Stands (imaged_setup (read_head head n)) (set_up_with slave master) (first_machine memory head n slave master)
  first_stands =
      let setup = imaged_setup (read_head head n) in
      let same : first_machine memory head n slave master ≡ laid setup (set_up_with slave master) memory =
      ap (λ (a : Answered). record { memory = a.image; used = a.result.length; slave = slave; master = master }) made.is in
      subst (Stands setup (set_up_with slave master)) (sym same)
      (written_stands setup (set_up_with slave master) memory first_whole (fresh_start setup slave master) made.room)

  pub first_made : FirstMade (first_machine memory head n slave master) head n
  first_made =
      let setup = imaged_setup (read_head head n) in
      record {
        restorable =
            stands_restorable setup (set_up_with slave master) (first_machine memory head n slave master) first_whole (fresh_start setup slave master)
            first_stands;
        setup = ap imaged_setup first_stands.read;
        fresh = ap imaged_channel first_stands.read;
      }

  -- Demand 3 from set-up on.
  pub after_first : (calls : List (HostCall (setup_in (first_machine memory head n slave master)))) → AfterFirst (first_machine memory head n slave master) calls
  after_first calls =
      let m = first_machine memory head n slave master in
      let since = after_restore m first_made.restorable calls in
      record {
        since = since;
        moment = since.moment ∙ ap (λ (x : Channel). called_all (setup_in m) (moment_of x m) (calls_since m calls)) first_made.fresh;
        demand = after_set_up (setup_in m) slave master (calls_since m calls);
      }
