use Rattle.std.proofs.Common.{◌≡◌, length, drop}
use Rattle.std.proofs.Math.Seq.{paste}
use Rattle.step.proofs.cycles.load.Given as goal

abbrev pub invariant-loop-i : goal.invariant-loop-i
invariant-loop-i g l = (length l.bytes ≡ g.row.N) × (l.bytes ≡ paste l.initial.bytes 0 (drop l.from l.source) l.i)
