use Rattle.basics.specs.Limits.{rows_most}
use Rattle.numbers.specs.Numbers.{number_at}
use Rattle.numbers.proofs.Laws.{at_most}
use Rattle.sheet.proofs.counted_rows.Goals as goal

pub read_rows-requires : goal.read_rows-requires
read_rows-requires c = at_most (number_at c.args.source) 1 rows_most _ c.args.at c.number_between.ensures c.in-Ok.is
