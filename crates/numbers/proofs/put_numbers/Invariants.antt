use Prim.Native.Nat.{◌+◌}
use lib.ListN.{length, drop}
use lib.Seq.{sets}
use mathlib.Core.Path.{◌≡◌}
use Rattle.numbers.specs.Numbers.{all_bytes}
use Rattle.numbers.proofs.put_numbers.Given as goal

abbrev pub invariant-loop-v : goal.invariant-loop-v
invariant-loop-v l = record {
  size : l.place + length (all_bytes (drop l.v-index l.list)) ≡ l.at + length (all_bytes l.list);
  rest : sets l.out l.place (all_bytes (drop l.v-index l.list)) ≡ sets l.initial.out l.at (all_bytes l.list);
}
