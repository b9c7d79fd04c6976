use Prim.Native.Nat.{◌+◌, ◌*◌, ◌≤◌}
use lib.ListN.{length, drop}
use mathlib.Core.Path.{◌≡◌}
use Rattle.numbers.specs.Numbers.{all_bytes}
use Rattle.numbers.proofs.bytes_size.Given as goal

abbrev pub invariant-loop-v : goal.invariant-loop-v
invariant-loop-v l = record {
  most : l.sum ≤ 5 * l.v-index;
  rest : l.sum + length (all_bytes (drop l.v-index l.list)) ≡ length (all_bytes l.list);
}
