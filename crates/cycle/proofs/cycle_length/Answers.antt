use Rattle.cycle.specs.Cycle.{tabled_length}
use Rattle.cycle.proofs.cycle_length.Goals as goal

pub returns-then-is_port : goal.returns-then-is_port
unfolding tabled_length
returns-then-is_port c = rw (c.tabled_length.ensures, ← c.is_port.ensures, c.if-is_port.true)
