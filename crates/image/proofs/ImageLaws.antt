-- What an image says, by how its two parts were read; and a list of numbers laid at the start of a longer one. Assumes nothing.
use Prim.Native.Nat.{ℕ, ◌+◌, ◌*◌, ◌≤◌}
use mathlib.Core.Path.{◌≡◌, refl, sym, ap, ◌∙◌}
use mathlib.Core.List.{List, [], ◌∷◌, ◌++◌}
use native.Mathlib.Omega.{arith}
use lib.ListN.{length, take, drop, length-append}
use lib.Seq.{sets, sets-eq, take-append_seam}
use Rattle.refusal.specs.Refusal.{accepted}
use Rattle.std.specs.Prelude.{Ok, Err}
use Rattle.number.specs.declared.Fault.{Fault}
use Rattle.frame.specs.declared.Setup.{Setup}
use Rattle.image.specs.declared.ChannelRead.{ChannelRead}
use Rattle.number.specs.Number.{NumberWritten, whole_at, whole_after}
use Rattle.number.proofs.Laws.{whole}
use Rattle.numbers.specs.Numbers.{all_bytes, write_numbers, write_numbers_after}
use Rattle.numbers.proofs.Laws.{sizes_most, past_is}
use Rattle.image.specs.Layout.{layout_number}
use Rattle.image.specs.Image.{
  Imaged,
  imaged,
  imaged_verdict,
  imaged_setup,
  imaged_channel,
  malformed,
  read_setup,
  read_channel,
  read_image,
  head_bytes,
}

-- what an image says, by how its two parts were read
module _ (bytes : List ℕ) (n : ℕ) where
  pub image_none : {f : Fault} → read_setup bytes n ≡ Err f → malformed ≡ read_image bytes n
  unfolding read_image
  image_none e = rw e

  module _ {setup : Setup} {start : ℕ} (e : read_setup bytes n ≡ Ok (setup, start)) {rest : ChannelRead} (is : rest ≡ read_channel bytes n start) where
    pub image_short : {f : Fault} → rest.part ≡ Err f → malformed ≡ read_image bytes n
    unfolding read_image
    image_short f = rw (e, ← is, f)

    pub image_on : {end : ℕ} → rest.part ≡ Ok end → imaged setup rest.channel ≡ read_image bytes n
    unfolding read_image
    image_on f = rw (e, ← is, f)

-- an image that is not refused says a set-up and a channel
pub imaged_whole : (i : Imaged) → imaged_verdict i ≡ accepted → i ≡ imaged (imaged_setup i) (imaged_channel i)
imaged_whole (Ok x) e = refl
imaged_whole (Err why) e = cc

-- as many numbers as were laid are those that were laid
pub laid_front : (out list : List ℕ) (count : ℕ) {after : List ℕ} → length list ≤ length out → count ≡ length list → after ≡ sets out 0 list
    → take count after ≡ list
laid_front out list count room e a =
    rw (a, e) (ap (take (length list)) (sets-eq list out 0 (omega arith)) ∙ take-append_seam list (drop (0 + length list) out))

-- a short list is written whole, from any place of a long row of bytes on
module _ (list out : List ℕ) (at : ℕ) (room : at + 5 * length list ≤ length out) where
  list_whole : (whole_at out at (all_bytes list) ≡ Ok (at + length (all_bytes list))) × (whole_after out at (all_bytes list) ≡ sets out at (all_bytes list))
  list_whole = whole out at (all_bytes list) (omega (arith, sizes_most list))

  pub list_ok : {got : NumberWritten} → got ≡ write_numbers list out at → got ≡ Ok (at + length (all_bytes list))
  list_ok is = is ∙ list_whole.0

  pub list_size : {got : NumberWritten} → got ≡ write_numbers list out at → {n : ℕ} → got ≡ Ok n → n ≡ at + length (all_bytes list)
  list_size is e = past_is (sym e ∙ is ∙ list_whole.0)

  pub list_laid : {after : List ℕ} → after ≡ write_numbers_after list out at → after ≡ sets out at (all_bytes list)
  list_laid left = left ∙ list_whole.1

-- a head's numbers have five bytes each at most
pub head_most : (list : List ℕ) (master : ℕ) → length (head_bytes list master) ≤ 5 * (2 + length list)
head_most list master = omega (arith, sizes_most (layout_number ∷ (list ++ (master ∷ []))), length-append list (master ∷ []))
