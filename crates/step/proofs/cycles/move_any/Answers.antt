use native.Mathlib.Omega.{arith}
use native.Mathlib.Numerals.{add-one}
use lib.ListN.{drop, length-drop}
use lib.Seq.{paste-suc, get_or-drop}
use Rattle.step.proofs.cycles.move_any.Goals as goal

pub loop-i-preserved : goal.loop-i-preserved
loop-i-preserved c =
    let a = c.args in
    rw (c.loop-i.invariant, ← get_or-drop a.from a.source.now c.loop-i.i 0, add-one)
    (paste-suc a.target.now a.to (drop a.from a.source.now) c.loop-i.i 0 (omega arith) (simp length-drop (omega arith)))
