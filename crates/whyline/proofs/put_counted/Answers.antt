use Prim.Native.Nat.{ℕ}
use mathlib.Core.List.{List}
use mathlib.Core.Path.{ap₂, ◌∙◌}
use Rattle.logline.specs.Text.{put_decimal, put_decimal_after}
use Rattle.whyline.proofs.PieceLaws.{counted_place, counted_out}
use Rattle.whyline.proofs.put_counted.Goals as goal

pub returns : goal.returns
returns c =
    let a = c.args in
    let w = c.put_words-next.ensures in
    let d = c.put_decimal.ensures in
    let out = c.args.out.now in
    let words = c.args.words.now in record {
      value = d.value ∙ ap₂ (λ (o : List ℕ) (k : ℕ). put_decimal o k a.n) w.out_after w.value ∙ counted_place words out a.at a.n c.requires;
      out_after = d.out_after ∙ ap₂ (λ (o : List ℕ) (k : ℕ). put_decimal_after o k a.n) w.out_after w.value ∙ counted_out words out a.at a.n c.requires;
    }
