use Prim.Native.Nat.{◌+◌, ◌-◌, ◌≤◌}
use lib.ListN.{length}
use lib.Seq.{sets}
use mathlib.Core.Path.{◌≡◌}
use Rattle.number.specs.Number.{read_number}
use Rattle.numbers.specs.Numbers.{numbers, numbers_of}
use Rattle.numbers.proofs.put_copy.Given as goal

abbrev pub invariant-loop-v : goal.invariant-loop-v
invariant-loop-v l = record {
  most : l.i ≤ l.at;
  inside : l.at ≤ length l.bytes;
  count : l.i + length (numbers (read_number l.bytes) (length l.bytes - l.i) l.at) ≡ length (numbers_of l.bytes);
  rest : sets l.out l.i (numbers (read_number l.bytes) (length l.bytes - l.i) l.at) ≡ sets l.initial.out 0 (numbers_of l.bytes);
}

abbrev pub decreases-loop-v : goal.decreases-loop-v
decreases-loop-v l = length l.bytes - l.at
