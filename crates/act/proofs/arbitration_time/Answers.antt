use Rattle.act.specs.Turn.{arbitration_time}
use Rattle.act.proofs.arbitration_time.Goals as goal

pub returns-then-ever : goal.returns-then-ever
unfolding arbitration_time
returns-then-ever c = rw c.if-ever.true

pub returns-else-ever : goal.returns-else-ever
unfolding arbitration_time
returns-else-ever c = rw c.if-ever.false
