-- A call over the image is the plain call on what was read: what each call's parts come to. Assumes nothing.
use Prim.Native.Nat.{ℕ, suc, ◌+◌, ◌<◌}
use mathlib.Core.Path.{◌≡◌, refl, ap, ◌∙◌}
use mathlib.Core.Bool.{true, false}
use mathlib.Core.List.{List, [], ◌∷◌}
use native.Mathlib.Omega.{arith}
use borrow.Author.Tests.{le-leb, leb-true, leb-false}
use lib.ListN.{length, get_or}
use lib.Seq.{sets}
use lib.Dec.{leb}
use Rattle.act.specs.declared.Entry.{Entry}
use Rattle.refusal.specs.declared.Refusal.{Refusal}
use Rattle.basics.proofs.Tests.{by_test, and_both}
use Rattle.refusal.specs.declared.Refusal.TheVariants.{NoRoom, Malformed}
use Rattle.number.specs.Number.{Bytes}
use Rattle.std.specs.Prelude.{Ok, Err, Result}
use Rattle.number.proofs.Laws.{whole, not_whole}
use Rattle.numbers.specs.Numbers.{all_bytes}
use Rattle.frame.specs.declared.Setup.{Setup}
use Rattle.frame.specs.declared.Order.{Order}
use Rattle.channel.specs.declared.Channel.{Channel}
use Rattle.post.specs.Post.{post_of}
use Rattle.tally.specs.declared.Tally.{Tally}
use Rattle.step.specs.declared.Decision.{Decision}
use Rattle.step.specs.Step.{step_of, slave_after, master_after, decision_of, carry_fits, slave_after_carry, master_after_carry}
use Rattle.step.proofs.CarryLaws.{decided_room, decided_stores}
use Rattle.image.specs.Layout.{channel_numbers, image_bytes}
use Rattle.image.specs.Image.{imaged, malformed, read_setup, read_image, write_channel, write_channel_after}
use Rattle.image.proofs.WrittenBack.{tail_size, tail_placed}
use Rattle.lobrinkas.specs.Answers.{refused_answer, refused_step, refused_told}
use Rattle.lobrinkas.specs.Calls.{has_image_room, image_after, answering, answer_by, lobrinkas_post, Stepping, stepping, step_answered, lobrinkas_step, lobrinkas_why}
use Rattle.lobrinkas.specs.inner.Finish.{answer_after, answer_finished, step_after, step_finished}

-- the elements of a slice of bytes are bytes
pub all_bytes_lem : (s : List ℕ) → ((i : ℕ) → get_or s i 0 < 256) → Bytes s
all_bytes_lem [] h = tt
all_bytes_lem (b ∷ s) h = (h 0, all_bytes_lem s (λ i. h (suc i)))

-- what is written where the set-up's part ends: the whole image, or nothing where that has no room
pub record Tail (setup : Setup) (image : List ℕ) (start : ℕ) : Type 0 where
  pub size : (next : Channel) → start + length (all_bytes (channel_numbers next)) ≡ length (image_bytes setup next)
  pub placed : (next : Channel) → sets image start (all_bytes (channel_numbers next)) ≡ sets image 0 (image_bytes setup next)

module _ (setup : Setup) (image : List ℕ) (start : ℕ) (tail : Tail setup image start) where
  pub tail_room : (next : Channel) → has_image_room setup next image ≡ true
      → (write_channel next image start ≡ Ok (length (image_bytes setup next))) × (write_channel_after next image start ≡ image_after setup next image)
  unfolding write_channel write_channel_after
  tail_room next t =
      let fits = leb-true _ (length image) t in
      let w = whole image start (all_bytes (channel_numbers next)) (omega (arith, tail.size next, fits)) in
      (w.0 ∙ ap Ok (tail.size next), w.1 ∙ tail.placed next)

  pub tail_none : (next : Channel) → has_image_room setup next image ≡ false
      → (write_channel next image start ≡ Err NoRoom) × (write_channel_after next image start ≡ image)
  unfolding write_channel write_channel_after
  tail_none next f =
      let short = leb-false _ (length image) f in
      not_whole image start (all_bytes (channel_numbers next)) (omega (arith, tail.size next, short))

  -- a post, and whatever gives a channel or refuses
  answer_is : (v : Result Unit Refusal) (next : Channel) (n : ℕ) → answer_after v next image n start ≡ answer_by v setup next image n
  answer_is (Err why) next n = refl
  answer_is (Ok _) next n =
      by_test (has_image_room setup next image)
      (λ t. let w = tail_room next t in rw (t, w.0, w.1))
      (λ f. let w = tail_none next f in rw (f, w.0, w.1))

  -- a step, of which the decision is known
  step_is : (a : Result Entry Refusal) (ch : Channel) (d : Decision) (t : Tally) (n : ℕ) (slave master : List ℕ)
      → slave_after_carry d.carry slave master ≡ slave_after setup ch slave master
      → master_after_carry d.carry slave master ≡ master_after setup ch slave master
      → step_after a d t image n start slave master ≡ step_answered a setup ch d.stepped t image n slave master
  step_is (Err why) ch d t n slave master s m = refl
  step_is (Ok entry) ch d t n slave master s m =
      by_test (has_image_room setup d.stepped.channel image)
      (λ b. let w = tail_room d.stepped.channel b in rw (b, w.0, w.1, s, m))
      (λ f. let w = tail_none d.stepped.channel f in rw (f, w.0))

  module _ (n : ℕ) (ch : Channel) (read : imaged setup ch ≡ read_image image n) where
    pub post_is : (p : Order) → answer_finished (post_of setup ch p) image n start ≡ lobrinkas_post image n p
    unfolding answer_finished lobrinkas_post
    post_is p = rw (← read) (answer_is (post_of setup ch p).verdict (post_of setup ch p).channel n)

-- the bytes of a decision are those of its step
carried_stores : (setup : Setup) (ch : Channel) (t : Tally) (slave master : List ℕ)
    → (slave_after_carry (decision_of setup ch t slave master).carry slave master ≡ slave_after setup ch slave master)
    × (master_after_carry (decision_of setup ch t slave master).carry slave master ≡ master_after setup ch slave master)
unfolding slave_after_carry master_after_carry
carried_stores setup ch t slave master =
    let room = decided_room setup ch slave master t in
    let c = (decision_of setup ch t slave master).carry in
    let moved = decided_stores setup ch slave master t in
    let fits : carry_fits c (length slave) (length master) ≡ true =
    and_both (leb (c.place + c.bytes) (length slave)) (leb (c.offset + c.bytes) (length master))
    (le-leb (c.place + c.bytes) (length slave) room.slave) (le-leb (c.offset + c.bytes) (length master) room.master) in
    (rw fits moved.0, rw fits moved.1)

module _ (setup : Setup) (image : List ℕ) (start : ℕ) (tail : Tail setup image start) (n : ℕ) (ch : Channel)
    (read : imaged setup ch ≡ read_image image n) where
  pub stepped_is : (slave master : List ℕ) (t : Tally)
      → step_finished (decision_of setup ch t slave master) t image n start slave master ≡ lobrinkas_step image n slave master t
  unfolding step_finished lobrinkas_step decision_of
  stepped_is slave master t =
      let c = carried_stores setup ch t slave master in
      rw (← read)
      (step_is setup image start tail (step_of setup ch t slave master).answer ch (decision_of setup ch t slave master) t n slave master c.0 c.1)

-- a malformed image
module _ (image : List ℕ) (n : ℕ) (bad : malformed ≡ read_image image n) where
  pub post_malformed : (p : Order) → answering (refused_answer Malformed n) image ≡ lobrinkas_post image n p
  unfolding lobrinkas_post
  post_malformed p = rw (← bad)

  pub step_malformed : (slave master : List ℕ) (t : Tally) → stepping (refused_step Malformed n t) image slave master ≡ lobrinkas_step image n slave master t
  unfolding lobrinkas_step
  step_malformed slave master t = rw (← bad)

  pub why_malformed : (l : ℕ) → refused_told Malformed ≡ lobrinkas_why image n l
  unfolding lobrinkas_why
  why_malformed l = rw (← bad)

-- the set-up's part of an image that was read stands before its end
pub tail_of : (image : List ℕ) (n : ℕ) → ((i : ℕ) → get_or image i 0 < 256) → {setup : Setup} {start : ℕ}
    → read_setup image n ≡ Ok (setup, start) → Tail setup image start
tail_of image n bytes good =
    let y = all_bytes_lem image bytes in
    record { size = tail_size image n y good; placed = tail_placed image n y good }

-- each of the four that a step gives and leaves
pub parts : {a b : Stepping} → a ≡ b → (a.result ≡ b.result) × ((a.image ≡ b.image) × ((a.slave ≡ b.slave) × (a.master ≡ b.master)))
parts e =
    (ap (λ (s : Stepping). s.result) e, (ap (λ (s : Stepping). s.image) e, (ap (λ (s : Stepping). s.slave) e, ap (λ (s : Stepping). s.master) e)))
