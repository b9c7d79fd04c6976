use mathlib.Core.Path.{◌∙◌}
use native.Mathlib.Omega.{arith}
use Rattle.whyline.specs.Words.{counted}
use Rattle.whyline.proofs.PieceLaws.{then_place, then_next}
use Rattle.whyline.proofs.put_named.Goals as goal

pub returns : goal.returns
returns c =
    let w = c.put_words.ensures in
    let k = c.put_counted-next.ensures in
    let a = c.args in
    let first = counted a.before.now a.n in
    let last = c.args.after.now in record {
      value = omega (arith, w.value, k.value, then_place a.at first last);
      out_after = w.out_after ∙ then_next a.out.now a.at first last k.out_after k.value;
    }
