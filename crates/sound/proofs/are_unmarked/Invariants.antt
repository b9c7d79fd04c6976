use Rattle.basics.specs.Scan.{all_below}
use Rattle.channel.specs.Line.{is_inactive}
use mathlib.Core.Bool.{true, not}
use mathlib.Core.Path.{◌≡◌}
use Rattle.std.proofs.Common.{ℕ}
use Rattle.sound.proofs.are_unmarked.Given as goal

abbrev pub invariant-loop-marked : goal.invariant-loop-marked
invariant-loop-marked v = all_below (λ (l : ℕ). not (is_inactive v.inactive l)) v.marked-index ≡ true
