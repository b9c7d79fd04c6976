use native.Mathlib.Omega.{arith}
use Rattle.sheethost.proofs.StoreLaws.{master_more}
use Rattle.sheethost.proofs.fill_master.Goals as goal

pub loop-i-preserved : goal.loop-i-preserved
loop-i-preserved c =
    let l = c.loop-i in
    master_more l.master l.i (omega arith) l.invariant
