-- How a call ends where the new image was not written. Assumes nothing.
use Prim.Native.Nat.{ℕ}
use mathlib.Core.Path.{◌≡◌, sym}
use mathlib.Core.List.{List}
use Rattle.basics.proofs.Tests.{by_test}
use Rattle.refusal.specs.declared.Refusal.{Refusal}
use Rattle.number.specs.Number.{has_number_room}
use Rattle.std.specs.Prelude.{Err}
use Rattle.numbers.specs.Numbers.{all_bytes}
use Rattle.numbers.proofs.Laws.{no_room}
use Rattle.channel.specs.declared.Channel.{Channel}
use Rattle.image.specs.Layout.{channel_numbers}
use Rattle.image.specs.Image.{write_channel, write_channel_after}

-- what was not written left the memory as it was
pub written_none : (ch : Channel) (image : List ℕ) (start : ℕ) {why : Refusal} → write_channel ch image start ≡ Err why
    → write_channel_after ch image start ≡ image
unfolding write_channel write_channel_after
written_none ch image start {why} e =
    let tail = all_bytes (channel_numbers ch) in
    by_test (has_number_room image start tail)
    (λ t. no_room (sym (rw t at e)))
    (λ f. rw f)
