use Rattle.basics.proofs.ScanLaws.{first_miss}
use Rattle.basics.specs.Limits.{no_row}
use Rattle.frame.proofs.RowLaws.{slave_hit, slave_none, before_more}
use Rattle.frame.specs.Find.{slave_index}
use Rattle.frame.specs.Frame.{lengths_before}
use mathlib.Core.Path.{refl, sym, ◌∙◌}
use native.Mathlib.Nat.{sub-zero}
use native.Mathlib.Omega.{arith}
use Rattle.frame.proofs.slave_row.Goals as goal

pub loop-i-init : goal.loop-i-init
unfolding slave_index lengths_before
loop-i-init c = (omega (arith, c.rows_present-count.ensures), refl, omega arith, rw (sub-zero, c.rows_present-count.ensures))

pub returns-then-row_holds : goal.returns-then-row_holds
returns-then-row_holds c =
    let l = c.loop-i in record {
      value = rw l.invariant.1 (slave_hit _ _ _ _ l.i _ l.invariant.3 (omega arith) l.invariant.0 (sym c.row_holds.ensures ∙ c.if-row_holds.true));
      start_fits = omega arith;
    }

pub loop-i-preserved : goal.loop-i-preserved
loop-i-preserved c =
    let l = c.loop-i in (
      l.invariant.0,
      rw (before_more _ l.i, l.invariant.1),
      omega arith,
      sym (first_miss _ l.i _ no_row (omega arith) (sym c.row_holds.ensures ∙ c.if-row_holds.false)) ∙ l.invariant.3,
    )

pub returns : goal.returns
returns c = record {
  value = slave_none _ _ _ _ c.loop-i.i _ c.loop-i.invariant.3 (omega arith);
  start_fits = tt;
}
