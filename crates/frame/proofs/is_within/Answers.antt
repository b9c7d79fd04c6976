use Prim.Native.Nat.{◌+◌}
use Rattle.frame.proofs.Sums.{sum_within, sum_beyond}
use Rattle.frame.specs.Allowance.{is_within}
use mathlib.Core.Path.{sym}
use native.Mathlib.Omega.{arith}
use Rattle.frame.proofs.is_within.Goals as goal

pub returns-then-latest-now : goal.returns-then-latest-now
unfolding is_within
returns-then-latest-now c = sym (sum_beyond _ _ _ (omega arith))

pub returns : goal.returns
unfolding is_within
returns c =
    let a = c.args in
    rw (c.from-now.ensures, c.from.ensures, c.from-2.ensures) (sum_within a.duration a.clock (a.t + a.allowed) (omega arith))
