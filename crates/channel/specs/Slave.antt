-- The slave row of a request: the one that wholly holds what is left of it.
use Rattle.std.specs.Prelude.{ℕ, Option}
use Rattle.frame.specs.declared.SlaveRow.{SlaveRow}
use Rattle.frame.specs.declared.SlaveRows.{SlaveRows}
use Rattle.frame.specs.Find.{slave_row}
use Rattle.frame.specs.Rows.{slave_or, start_or}
use Rattle.channel.specs.declared.Request.{Request}

abbrev pub slave_for : SlaveRows → Request → Option (SlaveRow × ℕ)
slave_for slaves q = slave_row slaves q.space q.address q.left

-- the row; where there is none a row of zeros
unfoldable pub slave_of : SlaveRows → Request → SlaveRow
slave_of slaves q = slave_or (slave_for slaves q)

-- where its bytes start in the slave store
unfoldable pub start_of : SlaveRows → Request → ℕ
start_of slaves q = start_or (slave_for slaves q)
