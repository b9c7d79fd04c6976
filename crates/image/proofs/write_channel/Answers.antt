use mathlib.Core.Path.{sym, ap, ◌∙◌}
use mathlib.Core.List.{List}
use Prim.Native.Nat.{ℕ}
use native.Mathlib.Nat.{zero-add}
use native.Mathlib.Omega.{arith}
use lib.ListN.{length, replicate}
use lib.Seq.{length-take-le}
use Rattle.number.specs.Number.{whole_at, whole_after}
use Rattle.numbers.specs.Numbers.{all_bytes}
use Rattle.image.specs.Layout.{channel_numbers}
use Rattle.image.specs.Image.{write_channel, write_channel_after}
use Rattle.image.proofs.ImageLaws.{laid_front}
use Rattle.image.proofs.WriteLaws.{channel_size}
use Rattle.image.proofs.write_channel.Goals as goal

pub slice_bounds-row-end : goal.slice_bounds-row-end
slice_bounds-row-end c =
    let a = c.args in
    let laid = c.put_channel-count in
    omega (arith, channel_size a.channel, laid.ensures.value, laid.auto.row)

pub slice_bounds-put_whole-end : goal.slice_bounds-put_whole-end
slice_bounds-put_whole-end c =
    let a = c.args in
    let laid = c.put_channel-count in
    sym (length-take-le laid.result laid.new.row (omega (arith, channel_size a.channel, laid.ensures.value, laid.auto.row)))

pub returns : goal.returns
unfolding write_channel write_channel_after
returns c =
    let a = c.args in
    let laid = c.put_channel-count in
    let written = c.put_whole.ensures in
    let bytes = all_bytes (channel_numbers a.channel) in
    let count = laid.ensures.value ∙ zero-add (length bytes) in
    let front = laid_front (replicate 430 0) bytes laid.result (omega (arith, channel_size a.channel)) count laid.ensures.row_after in record {
      value = written.value ∙ ap (λ (b : List ℕ). whole_at a.out.now a.at b) front;
      out_after = written.out_after ∙ ap (λ (b : List ℕ). whole_after a.out.now a.at b) front;
    }
