-- An image written in its two parts, the channel's first and then the set-up's before it. Assumes nothing.
use Prim.Native.Nat.{ℕ, suc, ◌+◌, ◌*◌, ◌≤◌, ◌<◌}
use native.Mathlib.Nat.{zero-add}
use mathlib.Core.Path.{◌≡◌, refl, sym, ap, ◌∙◌}
use mathlib.Core.List.{List, [], ◌∷◌, ◌++◌}
use native.Mathlib.Omega.{arith}
use borrow.Author.Tests.{leb-true, leb-false}
use lib.Dec.{leb}
use lib.ListN.{length, take, set, replicate, length-append}
use lib.Seq.{sets, set_comm}
use Rattle.basics.proofs.Tests.{by_test}
use Rattle.refusal.specs.declared.Refusal.{Refusal}
use Rattle.frame.specs.declared.Setup.{Setup}
use Rattle.std.specs.Prelude.{Ok, Err}
use Rattle.number.specs.Number.{NumberWritten, whole_at, whole_after}
use Rattle.number.proofs.Laws.{whole, not_whole}
use Rattle.numbers.specs.Numbers.{all_bytes, write_numbers, write_numbers_after}
use Rattle.numbers.proofs.Laws.{sets_append, sizes_most, no_room}
use Rattle.numbers.proofs.RoundTrip.{all_append}
use Rattle.channel.specs.declared.Channel.{Channel}
use Rattle.image.specs.Layout.{setup_numbers, channel_numbers, image_bytes}
use Rattle.image.specs.Image.{write_channel, write_channel_after}
use Rattle.image.proofs.LayLaws.{setup_most}
use Rattle.image.proofs.ImageLaws.{laid_front, list_ok, list_size, list_laid}

-- the set-up's part of an image: its numbers as a list, and their bytes at the start of a row
pub setup_bytes : (setup : Setup) → length (all_bytes (setup_numbers setup)) ≤ 665
setup_bytes setup = omega (arith, sizes_most (setup_numbers setup), setup_most setup)

module _ (setup : Setup) {count : ℕ} {values row : List ℕ} {got : NumberWritten}
    (laid : (count ≡ length (setup_numbers setup)) × (values ≡ sets (replicate 133 0) 0 (setup_numbers setup)))
    (written : (got ≡ write_numbers (take count values) (replicate 665 0) 0) × (row ≡ write_numbers_after (take count values) (replicate 665 0) 0)) where
  abbrev empty_row : List ℕ
  empty_row = replicate 665 0

  setup_room : 0 + 5 * length (setup_numbers setup) ≤ length empty_row
  setup_room = omega (arith, setup_most setup)

  setup_list : take count values ≡ setup_numbers setup
  setup_list = laid_front (replicate 133 0) (setup_numbers setup) count (omega (arith, setup_most setup)) laid.0 laid.1

  setup_written : (got ≡ write_numbers (setup_numbers setup) empty_row 0) × (row ≡ write_numbers_after (setup_numbers setup) empty_row 0)
  setup_written = rw setup_list at written

  pub setup_ok : got ≡ Ok (0 + length (all_bytes (setup_numbers setup)))
  setup_ok = list_ok (setup_numbers setup) empty_row 0 setup_room setup_written.0

  pub setup_ends : {n : ℕ} → got ≡ Ok n → n ≡ length (all_bytes (setup_numbers setup))
  setup_ends e = list_size (setup_numbers setup) empty_row 0 setup_room setup_written.0 e ∙ zero-add (length (all_bytes (setup_numbers setup)))

  pub setup_front : {n : ℕ} → got ≡ Ok n → take n row ≡ all_bytes (setup_numbers setup)
  setup_front {n} e =
      laid_front empty_row (all_bytes (setup_numbers setup)) n (omega (arith, setup_bytes setup)) (setup_ends e)
      (list_laid (setup_numbers setup) empty_row 0 setup_room setup_written.1)

-- bytes that are laid apart may be laid in either order
set_before : (b out : List ℕ) (i j x : ℕ) → i < j → set (sets out j b) i x ≡ sets (set out i x) j b
set_before [] out i j x h = refl
set_before (y ∷ b) out i j x h =
    set_before b (set out j y) i (suc j) x (omega arith) ∙ ap (λ (o : List ℕ). sets o (suc j) b) (set_comm out j i y x (λ same. omega arith))

sets_before : (a b out : List ℕ) (i j : ℕ) → i + length a ≤ j → sets (sets out j b) i a ≡ sets (sets out i a) j b
sets_before [] b out i j h = refl
sets_before (x ∷ a) b out i j h =
    ap (λ (o : List ℕ). sets o (suc i) a) (set_before b out i j x (omega arith)) ∙ sets_before a b (set out i x) (suc i) j (omega arith)

-- the two parts of an image, the second written first: with room for it there is room for both, and without it there is for neither
module _ (setup : Setup) (ch : Channel) (out : List ℕ) {start : ℕ} (is : start ≡ length (all_bytes (setup_numbers setup))) where
  abbrev upper : List ℕ
  upper = all_bytes (setup_numbers setup)

  abbrev lower : List ℕ
  lower = all_bytes (channel_numbers ch)

  parts : image_bytes setup ch ≡ upper ++ lower
  unfolding image_bytes
  parts = all_append (setup_numbers setup) (channel_numbers ch)

  parts_size : 0 + length (image_bytes setup ch) ≡ start + length lower
  parts_size = omega (arith, ap length parts, length-append upper lower)

  pub parts_at : write_channel ch out start ≡ whole_at out 0 (image_bytes setup ch)
  unfolding write_channel
  parts_at = rw parts_size

  pub parts_room : {end : ℕ} → write_channel ch out start ≡ Ok end → start + length lower ≤ length out
  unfolding write_channel
  parts_room e =
      by_test (leb (start + length lower) (length out))
      (λ t. leb-true _ _ t)
      (λ f. no_room (sym (not_whole out start lower (leb-false _ _ f)).0 ∙ e))

  pub parts_none : {why : Refusal} → write_channel ch out start ≡ Err why → write_channel_after ch out start ≡ whole_after out 0 (image_bytes setup ch)
  unfolding write_channel write_channel_after
  parts_none e =
      by_test (leb (start + length lower) (length out))
      (λ t. no_room (sym e ∙ (whole out start lower (leb-true _ _ t)).0))
      (λ f. rw (parts_size, f))

  pub parts_all : {end : ℕ} → write_channel ch out start ≡ Ok end
      → sets (write_channel_after ch out start) 0 upper ≡ whole_after out 0 (image_bytes setup ch)
  unfolding write_channel_after
  parts_all e =
      let room = parts_room e in
      let place : 0 + length upper ≡ start = omega arith in
      let all = whole out 0 (image_bytes setup ch) (omega (arith, parts_size)) in
      ap (λ (o : List ℕ). sets o 0 upper) (whole out start lower room).1
      ∙ sets_before upper lower out 0 start (omega arith)
      ∙ ap (λ (i : ℕ). sets (sets out 0 upper) i lower) (sym place)
      ∙ sym (all.1 ∙ ap (sets out 0) parts ∙ sets_append upper lower out 0)
