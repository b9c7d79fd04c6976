use Prim.Native.Nat.{ℕ}
use Rattle.basics.specs.Scan.{all_below}
use Rattle.frame.specs.Frame.{are_apart, slave_at}
use mathlib.Core.Bool.{true}
use mathlib.Core.Path.{◌≡◌}
use Rattle.frame.proofs.is_apart.Given as goal

abbrev pub invariant-loop-j : goal.invariant-loop-j
invariant-loop-j l = all_below (λ (k : ℕ). are_apart (slave_at l.slaves k) l.row) l.j ≡ true
