use Prim.Native.Nat.{ℕ, ◌-◌}
use Rattle.basics.proofs.ScanLaws.{all_miss}
use Rattle.frame.proofs.FrameLaws.{count_fits}
use Rattle.frame.proofs.RowLaws.{level_fits_is}
use Rattle.frame.specs.declared.LevelRows.{LevelRows}
use Rattle.frame.specs.Frame.{level_at, level_fits, level_row_fits, levels_fit}
use Rattle.sound.proofs.TableLaws.{none_put, level_put, fits_small, all_less}
use mathlib.Core.Bool.{Bool}
use mathlib.Core.Path.{◌≡◌, sym, ◌∙◌}
use native.Mathlib.Omega.{arith}
use Rattle.sound.proofs.seats_of.Goals as goal

-- what a row's test gave
row_is : (levels : LevelRows) (i above : ℕ) (given fits : Bool) → above ≡ i - 1
    → given ≡ level_fits (level_at levels i) (level_at levels above).level i levels.count → given ≡ fits → level_row_fits levels i ≡ fits
row_is levels i above given fits e g f = rw (level_fits_is levels i, ← e) (sym g ∙ f)

pub loop-i-init : goal.loop-i-init
unfolding levels_fit
loop-i-init c =
    let counted = sym c.is_row_count.ensures ∙ c.if-not-is_row_count.false in
    record {
      most = (count_fits _ counted).1;
      tested = rw counted;
      members = none_put c.args.levels.now _ (omega arith);
    }

pub returns-then-not-level_fits-clause-fits : goal.returns-then-not-level_fits-clause-fits
returns-then-not-level_fits-clause-fits c =
    let l = c.loop-i in
    let a = c.args.levels.now in
    let f = row_is a (l.i - 1) c.saturating_sub.result _ _ (omega arith) c.level_fits.ensures c.if-not-level_fits.true in
    sym (l.invariant.tested ∙ all_miss (level_row_fits a) (l.i - 1) l.i (omega arith) f)

pub put_level-requires : goal.put_level-requires
put_level-requires c =
    let l = c.loop-i in
    let a = c.args.levels.now in
    fits_small a (l.i - 1) (row_is a (l.i - 1) c.saturating_sub.result _ _ (omega arith) c.level_fits.ensures c.if-not-level_fits.false)

pub loop-i-preserved : goal.loop-i-preserved
loop-i-preserved c =
    let l = c.loop-i in
    let a = c.args.levels.now in
    let t = row_is a (l.i - 1) c.saturating_sub.result _ _ (omega arith) c.level_fits.ensures c.if-not-level_fits.false in
    record {
      most = l.invariant.most;
      tested = l.invariant.tested ∙ all_less (level_row_fits a) l.i (omega arith) t;
      members = level_put a l.members _ l.i c.put_level.ensures (omega arith) (omega arith) (fits_small a (l.i - 1) t) l.invariant.members;
    }
