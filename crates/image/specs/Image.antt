-- Document 02, CR 1: an image read and written, as the calls do it.
use Rattle.std.specs.Prelude.{ℕ, cond, ◌&&◌, List, [], ◌∷◌, ◌++◌, length, take, leb, ltb, Result, Ok, Err}
use Rattle.refusal.specs.declared.Refusal.{Refusal}
use Rattle.refusal.specs.Refusal.{accepted, refusal_by}
use Rattle.number.specs.declared.Fault.{Fault}
use Rattle.number.specs.Number.{NumberWritten, fault, read_number, whole_at, whole_after}
use Rattle.numbers.specs.Numbers.{all_bytes}
use Rattle.frame.specs.declared.Setup.{Setup}
use Rattle.frame.specs.Frame.{is_framed}
use Rattle.frame.specs.Kind.{no_rows}
use Rattle.channel.specs.declared.Channel.{Channel}
use Rattle.channel.specs.Channel.{fresh_channel}
use Rattle.sound.specs.Sound.{is_sound}
use Rattle.image.specs.declared.ChannelRead.{ChannelRead}
use Rattle.image.specs.Layout.{layout_number, channel_numbers, image_bytes}
use Rattle.image.specs.Read.{Read, setup_at, channel_read, channel_part_at}

-- an image has a length of its own, which may be shorter than the memory that it stands in; one that is longer is malformed
unfoldable pub read_setup : List ℕ → ℕ → Read Setup
read_setup bytes n = cond (leb n (length bytes)) (setup_at (read_number (take n bytes))) (Err (fault (refusal_by 18) 0))

unfoldable pub read_channel : List ℕ → ℕ → ℕ → ChannelRead
read_channel bytes n at =
    cond (leb n (length bytes)) (channel_part_at (read_number (take n bytes)) n at) (channel_read fresh_channel (Err (fault (refusal_by 18) 0)))

-- set-up and channel; of a malformed image none. "18 .. before 9": whether they make sense is judged by the call that is handed them
abbrev pub Imaged : Type 0
Imaged = Result (Setup × Channel) Refusal

pattern abbrev pub imaged : Setup → Channel → Imaged
imaged setup ch = Ok (setup, ch)

abbrev pub malformed : Imaged
malformed = Err (refusal_by 18)

-- what it says by its parts; of a malformed one there are no rows, and the channel is that after set-up
abbrev pub imaged_verdict : Imaged → Result Unit Refusal
imaged_verdict (Ok x) = accepted
imaged_verdict (Err why) = Err why

abbrev pub imaged_setup : Imaged → Setup
imaged_setup (Ok x) = x.0
imaged_setup (Err why) = no_rows

abbrev pub imaged_channel : Imaged → Channel
imaged_channel (Ok x) = x.1
imaged_channel (Err why) = fresh_channel

abbrev pub then_image : {A : Type 0} → Result A Fault → (A → Imaged) → Imaged
then_image (Ok x) f = f x
then_image (Err x) f = malformed

unfoldable pub read_image : List ℕ → ℕ → Imaged
read_image bytes n =
    then_image (read_setup bytes n) (λ head.
    let rest = read_channel bytes n head.1 in
    then_image rest.part (λ end. imaged head.0 rest.channel))

-- "17 as in the sheet": the channel's part of an image, and a whole one; "one image for each channel that isn't unsound", so 9 for any other
unfoldable pub write_channel : Channel → List ℕ → ℕ → NumberWritten
write_channel ch out at = whole_at out at (all_bytes (channel_numbers ch))

unfoldable pub write_channel_after : Channel → List ℕ → ℕ → List ℕ
write_channel_after ch out at = whole_after out at (all_bytes (channel_numbers ch))

unfoldable pub write_image : Setup → Channel → List ℕ → NumberWritten
write_image setup ch out = cond (is_framed setup && is_sound setup ch) (whole_at out 0 (image_bytes setup ch)) (Err (refusal_by 9))

unfoldable pub write_image_after : Setup → Channel → List ℕ → List ℕ
write_image_after setup ch out = cond (is_framed setup && is_sound setup ch) (whole_after out 0 (image_bytes setup ch)) out

-- a set-up from a sheet's head, given as the list of its numbers, and the length of the master store: with the layout number before them and the length after
-- them the numbers are the set-up's part of an image, and nothing more. The channel is that after set-up
unfoldable pub head_read : List ℕ → Imaged
head_read bytes =
    then_image (read_setup bytes (length bytes)) (λ head. cond (ltb head.1 (length bytes)) malformed (imaged head.0 fresh_channel))

abbrev pub head_bytes : List ℕ → ℕ → List ℕ
head_bytes list master = all_bytes (layout_number ∷ (list ++ (master ∷ [])))

unfoldable pub read_head : List ℕ → ℕ → Imaged
read_head list master = head_read (head_bytes list master)
