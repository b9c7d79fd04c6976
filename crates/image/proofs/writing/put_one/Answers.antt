use mathlib.Core.Path.{sym, ◌∙◌}
use native.Mathlib.Omega.{arith}
use Rattle.number.proofs.Laws.{written}
use Rattle.numbers.proofs.Laws.{past_is}
use Rattle.image.proofs.writing.put_one.Goals as goal

pub unwrap-requires : goal.unwrap-requires
unwrap-requires c =
    let a = c.args in
    rw (c.write_number.ensures.value ∙ (written a.row.now a.at a.v (omega arith)).0)

pub returns : goal.returns
returns c =
    let a = c.args in
    let w = written a.row.now a.at a.v (omega arith) in
    let e = c.write_number.ensures in
    record {
      value = past_is (sym c.unwrap.ensures ∙ e.value ∙ w.0);
      row_after = e.out_after ∙ w.1;
    }
