-- Reading what was written gives the set-up, with nothing behind its counts, and the channel. So a set-up and a channel have one image, and no two have the
-- same; what was read has nothing behind its counts. Assumes nothing.
use Prim.Native.Nat.{ℕ}
use mathlib.Core.Path.{◌≡◌, sym, ap, ◌∙◌}
use mathlib.Core.List.{List, [], ◌++◌}
use native.Mathlib.Omega.{arith}
use borrow.Author.Tests.{le-leb}
use lib.ListN.{length, take, drop, length-append, take-append-drop}
use lib.Seq.{take-append_seam, length-take-le}
use Rattle.std.specs.Prelude.{Ok}
use Rattle.number.specs.Number.{read_number, Bytes}
use Rattle.numbers.specs.Numbers.{all_bytes}
use Rattle.numbers.proofs.Spelt.{spells_split, spells_same, all_spell}
use Rattle.frame.specs.declared.Setup.{Setup}
use Rattle.channel.specs.declared.Channel.{Channel}
use Rattle.image.specs.Layout.{setup_numbers, channel_numbers, image_bytes}
use Rattle.image.specs.Read.{setup_at, channel_read, channel_part_at}
use Rattle.image.specs.Image.{imaged, read_setup, read_channel, read_image, head_bytes, read_head}
use Rattle.image.proofs.Told.{read_one}
use Rattle.image.proofs.Writable.{Writable}
use Rattle.image.proofs.WrittenBack.{imaged_is, image_parts, image_spelt, image_written, image_writable, head_read_lem}
use Rattle.image.proofs.SetupBack.{tidied, setup_read}
use Rattle.image.proofs.ChannelBack.{channel_read_lem}

module _ (setup : Setup) (ch : Channel) (w : Writable setup ch) where
  -- an image, read in its own bytes
  abbrev own_bytes : List ℕ
  own_bytes = all_bytes (setup_numbers setup ++ channel_numbers ch)

  own_read : (start : ℕ)
      × (setup_at (read_number own_bytes) ≡ Ok (tidied setup, start))
      × (channel_part_at (read_number own_bytes) (length own_bytes) start ≡ channel_read ch (Ok (length own_bytes)))
  own_read =
      let src = read_number own_bytes in
      let t = spells_split (setup_numbers setup) (all_spell (setup_numbers setup ++ channel_numbers ch) w.fits) in (
        t.0,
        setup_read setup w.wide w.few src t.1,
        channel_read_lem src ch w.shaped w.blank w.owner (length own_bytes) t.0 (omega arith) t.2,
      )

-- Reading what was written gives the set-up and the channel, whatever stands behind the image.
pub image_read : (setup : Setup) (ch : Channel) (rest : List ℕ) → Writable setup ch
    → read_image (image_bytes setup ch ++ rest) (length (image_bytes setup ch)) ≡ imaged (tidied setup) ch
unfolding read_image read_setup read_channel image_bytes
image_read setup ch rest w =
    let bytes = own_bytes setup ch w in
    let own = own_read setup ch w in
    let inside = le-leb (length bytes) (length (bytes ++ rest)) (omega (arith, length-append bytes rest)) in
    rw (inside, take-append_seam bytes rest, own.1, own.2)

-- Two images of one set-up and channel are the same bytes.
pub one_image : (a b : List ℕ) (n m : ℕ) → Bytes a → Bytes b → {setup : Setup} {ch : Channel} → read_image a n ≡ imaged setup ch
    → read_image b m ≡ imaged setup ch
    → take n a ≡ take m b
one_image a b n m y z e f = sym (image_written a n y e) ∙ image_written b m z f

-- Two set-ups and channels that have one image are the same, but for what stands behind the counts.
pub no_two : (a b : Setup) (c d : Channel) → Writable a c → Writable b d → image_bytes a c ≡ image_bytes b d → (tidied a ≡ tidied b) × (c ≡ d)
no_two a b c d v w e =
    let same : imaged (tidied a) c ≡ imaged (tidied b) d =
    sym (image_read a c [] v) ∙ ap (λ (s : List ℕ). read_image (s ++ []) (length s)) e ∙ image_read b d [] w in
    imaged_is same

-- What stands behind the counts is not in the image,
pub tidied_image : (setup : Setup) (ch : Channel) → Writable setup ch → image_bytes (tidied setup) ch ≡ image_bytes setup ch
unfolding image_bytes
tidied_image setup ch w =
    let bytes = own_bytes setup ch w in
    let read = image_spelt (bytes ++ []) (length bytes) (image_read setup ch [] w) in
    let own = all_spell (setup_numbers setup ++ channel_numbers ch) w.fits in
    ap all_bytes (spells_same bytes (rw (take-append_seam bytes []) at read) own)

-- and of what was read nothing stands there.
pub read_tidied : (bytes : List ℕ) (n : ℕ) → Bytes bytes → {setup : Setup} {ch : Channel} → read_image bytes n ≡ imaged setup ch
    → tidied setup ≡ setup
read_tidied bytes n y {setup} {ch} e =
    let own : take n bytes ≡ image_bytes setup ch = sym (image_written bytes n y e) in
    let size : length (image_bytes setup ch) ≡ n = ap length (sym own) ∙ length-take-le n bytes (image_parts bytes n e).inside in
    let whole : image_bytes setup ch ++ drop n bytes ≡ bytes = ap (λ (s : List ℕ). s ++ drop n bytes) (sym own) ∙ take-append-drop n bytes in
    let again = rw (whole, size) at (image_read setup ch (drop n bytes) (image_writable bytes n y e)) in
    (imaged_is (sym again ∙ e)).0

-- nor of a set-up that was read from a sheet's head: with it the round trip gives the set-up itself
pub head_tidied : (list : List ℕ) (master : ℕ) {setup : Setup} {ch : Channel} → read_head list master ≡ imaged setup ch
    → tidied setup ≡ setup
head_tidied list master {setup} e =
    let h = head_read_lem list master e in
    let again = setup_read setup h.wide h.few (read_number (head_bytes list master)) h.spelt in
    ap (λ (x : Setup × ℕ). x.0) (read_one (sym again ∙ h.good))
