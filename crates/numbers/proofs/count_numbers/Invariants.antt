use Prim.Native.Nat.{◌+◌, ◌-◌, ◌≤◌}
use lib.ListN.{length}
use mathlib.Core.Path.{◌≡◌}
use Rattle.number.specs.Number.{read_number}
use Rattle.numbers.specs.Numbers.{numbers, numbers_of}
use Rattle.numbers.proofs.count_numbers.Given as goal

abbrev pub invariant-loop-next : goal.invariant-loop-next
invariant-loop-next l = record {
  most : l.count ≤ l.at;
  inside : l.at ≤ length l.bytes;
  rest : l.count + length (numbers (read_number l.bytes) (length l.bytes - l.count) l.at) ≡ length (numbers_of l.bytes);
}

abbrev pub decreases-loop-next : goal.decreases-loop-next
decreases-loop-next l = length l.bytes - l.at
