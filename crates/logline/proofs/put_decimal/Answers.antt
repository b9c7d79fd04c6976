use borrow.Author.Tests.{not-true, not-false}
use mathlib.Core.Path.{sym, ◌∙◌}
use Rattle.logline.specs.Text.{put_decimal, put_decimal_after}
use Rattle.logline.proofs.put_decimal.Goals as goal

pub returns-then-not-has_bytes : goal.returns-then-not-has_bytes
unfolding put_decimal put_decimal_after
returns-then-not-has_bytes c =
    let e = sym c.has_bytes.ensures ∙ not-true c.has_bytes.result c.if-not-has_bytes.true-raw in
    record {
      value = rw e;
      out_after = rw e;
    }

pub returns : goal.returns
unfolding put_decimal put_decimal_after
returns c =
    let e = sym c.has_bytes.ensures ∙ not-false _ c.if-not-has_bytes.false-raw in
    let k = c.put_digits.ensures in
    record {
      value = k.value ∙ rw e;
      out_after = k.out_after ∙ rw e;
    }
