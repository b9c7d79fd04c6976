use Rattle.basics.specs.Limits.{rows_most}
use Rattle.number.specs.Number.{read_number}
use Rattle.numbers.proofs.Laws.{at_most}
use Rattle.image.proofs.tables.counted_levels.Goals as goal

pub read_levels-requires : goal.read_levels-requires
read_levels-requires c = at_most (read_number c.args.bytes.now) 0 rows_most _ c.args.at c.number_in.ensures c.in_ok-n.was
