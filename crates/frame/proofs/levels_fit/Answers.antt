use Prim.Native.Nat.{◌+◌, ◌-◌}
use Rattle.basics.proofs.ScanLaws.{all_more}
use Rattle.basics.specs.Scan.{all_below}
use Rattle.frame.proofs.FrameLaws.{count_fits}
use Rattle.frame.proofs.RowLaws.{rows_fit, rows_miss, level_fits_is}
use Rattle.frame.specs.Frame.{levels_fit, is_row_count, level_row_fits}
use mathlib.Core.Path.{◌≡◌, refl, sym, ◌∙◌}
use native.Mathlib.Omega.{arith}
use Rattle.frame.proofs.levels_fit.Goals as goal

pub returns-then-not-is_row_count : goal.returns-then-not-is_row_count
unfolding levels_fit
returns-then-not-is_row_count c = rw (sym c.is_row_count.ensures ∙ c.if-not-is_row_count.true)

pub loop-i-init : goal.loop-i-init
unfolding all_below
loop-i-init c =
    let counted = sym c.is_row_count.ensures ∙ c.if-not-is_row_count.false in
    ((count_fits _ counted).1, refl, refl)

pub returns-then-not-level_fits : goal.returns-then-not-level_fits
unfolding levels_fit
returns-then-not-level_fits c =
    let l = c.loop-i in
    let a = c.args.levels in
    rows_miss (level_row_fits a) a.count (is_row_count a.count) l.i (omega arith)
    (rw (level_fits_is a l.i, ← l.invariant.1) (sym c.level_fits.ensures ∙ c.if-not-level_fits.true))

pub loop-i-preserved : goal.loop-i-preserved
loop-i-preserved c =
    let l = c.loop-i in
    let a = c.args.levels in
    let e : l.i + 1 - 1 ≡ l.i = omega arith in (
      l.invariant.0,
      rw e,
      all_more _ l.i l.invariant.2
          (rw (level_fits_is a l.i, ← l.invariant.1) (sym c.level_fits.ensures ∙ c.if-not-level_fits.false)),
    )

pub returns : goal.returns
unfolding levels_fit
returns c =
    let a = c.args.levels in
    let counted = sym c.is_row_count.ensures ∙ c.if-not-is_row_count.false in
    rows_fit (level_row_fits a) a.count (is_row_count a.count) c.loop-i.i counted (omega arith) c.loop-i.invariant.2
