use Prim.Native.Nat.{◌+◌}
use lib.ListN.{drop}
use Rattle.number.specs.Number.{groups, below}
use Rattle.number.proofs.LoopLaws.{Turn}
use Rattle.number.proofs.more_groups.Given as goal

abbrev pub invariant-loop-at : goal.invariant-loop-at
invariant-loop-at l =
    Turn l.s l.start (below l.start l.first (groups l.start 3 (l.start + 1) (drop (l.start + 1) l.s))) l.at l.low l.weight
