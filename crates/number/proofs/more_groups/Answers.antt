use native.Mathlib.Omega.{arith}
use borrow.Author.Tests.{eq-eqb, ne_eqb}
use Rattle.number.proofs.LoopLaws.{first_turn, no_turn, fifth_turn, fifth_fits, last_turn, last_fits, next_turn, next_fits, weight_fits}
use Rattle.number.proofs.more_groups.Goals as goal

pub loop-at-init : goal.loop-at-init
loop-at-init c = let a = c.args in first_turn a.s.now a.start a.first (omega arith)

pub returns-then-byte : goal.returns-then-byte
returns-then-byte c =
    rw c.if-byte.true at (fifth_turn c.loop-at.invariant c.if-weight-eq268435456.true c.from-byte.ensures (omega arith))

pub overflow_add-result : goal.overflow_add-result
overflow_add-result c = omega (arith, fifth_fits c.loop-at.invariant c.if-weight-eq268435456.true c.from-byte.ensures c.if-byte.false)

pub returns-then-weight-eq268435456 : goal.returns-then-weight-eq268435456
returns-then-weight-eq268435456 c =
    rw c.if-byte.false at (fifth_turn c.loop-at.invariant c.if-weight-eq268435456.true c.from-byte.ensures (omega arith))

pub returns-then-byte-eq0 : goal.returns-then-byte-eq0
returns-then-byte-eq0 c =
    rw (eq-eqb _ 0 c.if-byte-eq0.true)
    at (last_turn c.loop-at.invariant c.if-weight-eq268435456.false c.from-byte.ensures (omega arith) c.if-byte-lt128.true)

pub overflow_mul-result-then-byte-lt128 : goal.overflow_mul-result-then-byte-lt128
overflow_mul-result-then-byte-lt128 c =
    omega (arith, last_fits c.loop-at.invariant c.if-weight-eq268435456.false c.from-byte.ensures c.if-byte-lt128.true)

pub overflow_add-result-then-byte-lt128 : goal.overflow_add-result-then-byte-lt128
overflow_add-result-then-byte-lt128 c =
    omega (arith, last_fits c.loop-at.invariant c.if-weight-eq268435456.false c.from-byte.ensures c.if-byte-lt128.true)

pub returns-then-byte-lt128 : goal.returns-then-byte-lt128
returns-then-byte-lt128 c =
    rw (ne_eqb _ 0 c.if-byte-eq0.false)
    at (last_turn c.loop-at.invariant c.if-weight-eq268435456.false c.from-byte.ensures (omega arith) c.if-byte-lt128.true)

pub overflow_mul-low : goal.overflow_mul-low
overflow_mul-low c = omega (arith, next_fits c.loop-at.invariant c.if-weight-eq268435456.false c.from-byte.ensures (omega (arith, c.type_inv.s c.loop-at.at)))

pub overflow_add-low : goal.overflow_add-low
overflow_add-low c = omega (arith, next_fits c.loop-at.invariant c.if-weight-eq268435456.false c.from-byte.ensures (omega (arith, c.type_inv.s c.loop-at.at)))

pub overflow_mul-weight : goal.overflow_mul-weight
overflow_mul-weight c = omega (arith, weight_fits c.loop-at.invariant c.if-weight-eq268435456.false)

pub loop-at-preserved : goal.loop-at-preserved
loop-at-preserved c =
    next_turn c.loop-at.invariant c.if-weight-eq268435456.false c.from-byte.ensures (omega arith) c.if-byte-lt128.false
    (omega (arith, c.type_inv.s c.loop-at.at))

pub returns : goal.returns
returns c = no_turn c.loop-at.invariant (omega arith)
