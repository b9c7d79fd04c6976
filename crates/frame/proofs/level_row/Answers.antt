use Rattle.basics.proofs.ScanLaws.{first_miss}
use Rattle.basics.specs.Limits.{no_row}
use Rattle.frame.proofs.RowLaws.{level_hit, level_none}
use Rattle.frame.specs.Find.{level_index}
use borrow.Author.Tests.{eq-eqb, ne_eqb}
use mathlib.Core.Path.{sym, ◌∙◌}
use native.Mathlib.Nat.{sub-zero}
use native.Mathlib.Omega.{arith}
use Rattle.frame.proofs.level_row.Goals as goal

pub loop-i-init : goal.loop-i-init
unfolding level_index
loop-i-init c = (omega (arith, c.rows_present-count.ensures), rw (sub-zero, c.rows_present-count.ensures))

pub returns-then-row-level : goal.returns-then-row-level
returns-then-row-level c =
    level_hit _ _ c.loop-i.i _ c.loop-i.invariant.1 (omega arith) c.loop-i.invariant.0 (eq-eqb _ _ c.if-row-level.true)

pub loop-i-preserved : goal.loop-i-preserved
loop-i-preserved c =
    (c.loop-i.invariant.0, sym (first_miss _ c.loop-i.i _ no_row (omega arith) (ne_eqb _ _ c.if-row-level.false)) ∙ c.loop-i.invariant.1)

pub returns : goal.returns
returns c = level_none _ _ c.loop-i.i _ c.loop-i.invariant.1 (omega arith)
