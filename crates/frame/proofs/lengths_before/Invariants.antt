use Prim.Native.Nat.{◌*◌, ◌≤◌}
use Rattle.frame.specs.Frame.{lengths_before}
use mathlib.Core.Path.{◌≡◌}
use Rattle.frame.proofs.lengths_before.Given as goal

abbrev pub invariant-loop-k : goal.invariant-loop-k
invariant-loop-k l = (l.sum ≡ lengths_before l.slaves l.k) × (l.sum ≤ l.k * 4294967295)
