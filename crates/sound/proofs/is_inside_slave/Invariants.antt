use Rattle.sound.proofs.TableLaws.{holds_at}
use mathlib.Core.Bool.{false}
use mathlib.Core.Path.{◌≡◌}
use Rattle.std.proofs.Common.{ℕ, ◌<◌}
use Rattle.sound.proofs.is_inside_slave.Given as goal

abbrev pub invariant-loop-i : goal.invariant-loop-i
invariant-loop-i l = (k : ℕ) → k < l.i → holds_at l.setup.slaves l.request k ≡ false
