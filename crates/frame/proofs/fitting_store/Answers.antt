use Rattle.std.specs.Prelude.{None, Some}
use Prim.Native.Nat.{ℕ}
use Rattle.basics.proofs.ScanLaws.{all_more}
use Rattle.basics.specs.Scan.{all_below}
use Rattle.frame.proofs.FrameLaws.{count_fits}
use Rattle.frame.proofs.RowLaws.{rows_fit, rows_miss, before_more, slave_fits_at, slave_fits_is}
use Rattle.frame.specs.declared.SlaveRows.{SlaveRows}
use Rattle.frame.specs.Find.{slave_store_length, store_if}
use Rattle.frame.specs.Frame.{rows_present, slaves_fit, is_row_count, slave_row_fits, is_apart, lengths_before}
use mathlib.Core.Bool.{true, false, and-false}
use mathlib.Core.Path.{◌≡◌, refl, sym, ap, ◌∙◌}
use native.Mathlib.Omega.{arith}
use Rattle.frame.proofs.fitting_store.Goals as goal

broken : (slaves : SlaveRows) → false ≡ slaves_fit slaves → None ≡ store_if (slaves_fit slaves) slaves
broken slaves e = rw (← e)

kept : (slaves : SlaveRows) (total : ℕ) → true ≡ slaves_fit slaves → total ≡ lengths_before slaves (rows_present slaves.count)
    → Some total ≡ store_if (slaves_fit slaves) slaves
unfolding slave_store_length
kept slaves total e f = rw (← e, f)

pub returns-then-not-is_row_count : goal.returns-then-not-is_row_count
unfolding slaves_fit
returns-then-not-is_row_count c = broken _ (rw (sym c.is_row_count.ensures ∙ c.if-not-is_row_count.true))

pub loop-i-init : goal.loop-i-init
unfolding all_below lengths_before
loop-i-init c =
    let counted = sym c.is_row_count.ensures ∙ c.if-not-is_row_count.false in
    ((count_fits _ counted).1, refl, omega arith, refl)

pub loop-i-preserved : goal.loop-i-preserved
loop-i-preserved c =
    let l = c.loop-i in
    let a = c.args.slaves in
    let fits : slave_fits_at a l.i ≡ true = rw (← l.invariant.1) (sym c.slave_fits.ensures ∙ c.if-not-slave_fits.false) in
    let apart : is_apart a l.i ≡ true = sym c.is_apart.ensures ∙ c.if-not-is_apart.false in (
      l.invariant.0,
      rw (before_more a l.i, l.invariant.1),
      omega arith,
      all_more (slave_row_fits a) l.i l.invariant.3 (rw (slave_fits_is a l.i, fits, apart)),
    )

pub returns-then-not-slave_fits : goal.returns-then-not-slave_fits
unfolding slaves_fit
returns-then-not-slave_fits c =
    let l = c.loop-i in
    let a = c.args.slaves in
    let e : slave_fits_at a l.i ≡ false = rw (← l.invariant.1) (sym c.slave_fits.ensures ∙ c.if-not-slave_fits.true) in
    broken a (rows_miss (slave_row_fits a) a.count (is_row_count a.count) l.i (omega arith) (rw (slave_fits_is a l.i, e)))

pub returns-then-not-is_apart : goal.returns-then-not-is_apart
unfolding slaves_fit
returns-then-not-is_apart c =
    let l = c.loop-i in
    let a = c.args.slaves in
    let e : is_apart a l.i ≡ false = sym c.is_apart.ensures ∙ c.if-not-is_apart.true in
    broken a (rows_miss (slave_row_fits a) a.count (is_row_count a.count) l.i (omega arith) (rw (slave_fits_is a l.i, e, and-false)))

pub returns : goal.returns
unfolding slaves_fit
returns c =
    let a = c.args.slaves in
    let counted = sym c.is_row_count.ensures ∙ c.if-not-is_row_count.false in
    let l = c.loop-i in
    let whole : l.i ≡ rows_present a.count = omega arith in
    kept a l.total (rows_fit (slave_row_fits a) a.count (is_row_count a.count) l.i counted (omega arith) l.invariant.3)
    (l.invariant.1 ∙ ap (lengths_before a) whole)
