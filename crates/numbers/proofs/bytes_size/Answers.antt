use lib.ListN.{get_or}
use native.Mathlib.Omega.{arith}
use Rattle.number.proofs.Laws.{bytes_most}
use Rattle.numbers.proofs.Laws.{size_on}
use Rattle.numbers.proofs.bytes_size.Goals as goal

pub overflow_add-sum : goal.overflow_add-sum
overflow_add-sum c = omega (arith, bytes_most (get_or c.args.list.now c.loop-v.v-index 0))

pub loop-v-preserved : goal.loop-v-preserved
loop-v-preserved c =
    let list = c.args.list.now in
    let i = c.loop-v.v-index in
    record {
      most = omega (arith, bytes_most (get_or list i 0));
      rest = omega (arith, size_on list i (omega arith));
    }
