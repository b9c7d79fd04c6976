use native.Mathlib.Omega.{arith}
use Rattle.cycle.proofs.Widths.{port_some}
use Rattle.cycle.proofs.CycleTable.{tabled_rule}
use Rattle.cycle.proofs.entry_of.Goals as goal

pub overflow_mul-place : goal.overflow_mul-place
overflow_mul-place c = omega (arith, port_some c.args.q c.requires.q_value)

pub overflow_add-place : goal.overflow_add-place
overflow_add-place c = omega (arith, port_some c.args.q c.requires.q_value)

pub overflow_add-place-2 : goal.overflow_add-place-2
overflow_add-place-2 c = omega (arith, port_some c.args.q c.requires.q_value)

pub bounds-place : goal.bounds-place
bounds-place c = omega (arith, port_some c.args.q c.requires.q_value)

pub returns : goal.returns
returns c = rw (c.from.ensures, c.smaller-capped.ensures) (tabled_rule _ _ _ c.requires.q_value c.requires.r_nonzero)
