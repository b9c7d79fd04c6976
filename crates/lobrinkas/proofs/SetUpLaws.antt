-- The first image: what a head's list gives, the frame's test, and the image written. Assumes nothing.
use Prim.Native.Nat.{ℕ}
use mathlib.Core.Path.{◌≡◌, ap, ◌∙◌}
use mathlib.Core.Bool.{true}
use mathlib.Core.List.{List}
use native.Mathlib.Nat.{zero-add}
use native.Mathlib.Omega.{arith}
use borrow.Author.Tests.{leb-true, leb-false}
use lib.ListN.{length}
use Rattle.basics.proofs.Tests.{by_test}
use Rattle.number.proofs.Laws.{whole, not_whole}
use Rattle.frame.specs.declared.Setup.{Setup}
use Rattle.frame.specs.Frame.{is_framed}
use Rattle.channel.specs.declared.Channel.{Channel}
use Rattle.channel.specs.Channel.{fresh_channel, set_up}
use Rattle.sound.specs.Sound.{is_sound}
use Rattle.demands.proofs.DemandLaws.{fresh_start}
use Rattle.image.specs.Layout.{image_bytes}
use Rattle.image.specs.Image.{imaged, read_head, write_image, write_image_after}
use Rattle.image.proofs.WrittenBack.{head_read_lem}
use Rattle.lobrinkas.specs.Calls.{has_image_room, answer_by, lobrinkas_set_up}
use Rattle.lobrinkas.specs.inner.Finish.{set_up_finished}

-- the channel with what a list says is that after set-up
head_fresh : (list : List ℕ) (master : ℕ) {setup : Setup} {ch : Channel} → read_head list master ≡ imaged setup ch → ch ≡ fresh_channel
head_fresh list master e = (head_read_lem list master e).channel_is

module _ (setup : Setup) (image : List ℕ) where
  sound : is_sound setup fresh_channel ≡ true
  sound = (fresh_start setup image image).sound

  -- the set-up call, and then the image
  set_up_is : set_up_finished setup fresh_channel image ≡ answer_by (set_up setup).verdict setup (set_up setup).channel image 0
  unfolding set_up_finished set_up write_image write_image_after
  set_up_is =
      by_test (is_framed setup)
      (λ t.
      by_test (has_image_room setup fresh_channel image)
      (λ b.
      let w = whole image 0 (image_bytes setup fresh_channel) (omega (arith, leb-true _ (length image) b)) in
      rw (t, sound, b, w.0, w.1, zero-add (length (image_bytes setup fresh_channel))))
      (λ f.
      let w = not_whole image 0 (image_bytes setup fresh_channel) (omega (arith, leb-false _ (length image) f)) in
      rw (t, sound, f, w.0, w.1)))
      (λ f. rw f)

pub set_up_done : (image head : List ℕ) (master : ℕ) {setup : Setup} {ch : Channel} → read_head head master ≡ imaged setup ch
    → set_up_finished setup ch image ≡ lobrinkas_set_up image head master
unfolding lobrinkas_set_up
set_up_done image head master {setup} e =
    ap (λ (ch : Channel). set_up_finished setup ch image) (head_fresh head master e) ∙ rw e (set_up_is setup image)
