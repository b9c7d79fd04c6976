use Rattle.std.proofs.Common.{drop, arith, length-drop, get_or-drop}
use Rattle.std.proofs.Math.ListN.{length-set, replicate, length-replicate}
use Rattle.step.proofs.ByteLaws.{load_more}
use Rattle.step.proofs.cycles.load.Goals as goal

pub loop-i-preserved : goal.loop-i-preserved
loop-i-preserved g c =
    let a = c.args in
    let l = c.loop-i in (
      simp length-set l.invariant.0,
      rw (l.invariant.1, ← get_or-drop a.from a.source.now l.i 0)
          (load_more (replicate g.row.N 0) (drop a.from a.source.now) l.i (simp length-replicate (omega arith)) (simp length-drop (omega arith))),
    )
