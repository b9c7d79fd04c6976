use Rattle.frame.proofs.RowLaws.{before_more}
use Rattle.frame.specs.Frame.{lengths_before}
use mathlib.Core.Path.{refl}
use native.Mathlib.Omega.{arith}
use Rattle.frame.proofs.lengths_before.Goals as goal

pub loop-k-init : goal.loop-k-init
unfolding lengths_before
loop-k-init c = (refl, omega arith)

pub loop-k-preserved : goal.loop-k-preserved
loop-k-preserved c =
    let l = c.loop-k in
    (rw (before_more _ l.k, l.invariant.0), omega arith)
