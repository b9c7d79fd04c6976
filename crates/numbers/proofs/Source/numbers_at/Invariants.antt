use Prim.Native.Nat.{◌-◌}
use lib.ListN.{length}
use lib.Seq.{sets}
use mathlib.Core.Path.{◌≡◌}
use Rattle.basics.specs.Limits.{numbers_most}
use Rattle.numbers.specs.Numbers.{number_at, padded, passed, numbers}
use Rattle.numbers.proofs.Source.numbers_at.Given as goal

abbrev pub invariant-loop-i : goal.invariant-loop-i
invariant-loop-i l = record {
  part : passed (number_at l.self) (l.i-end - l.i) l.place ≡ passed (number_at l.self) l.i-end l.at;
  values : sets l.values l.i (numbers (number_at l.self) (l.i-end - l.i) l.place) ≡ padded (numbers (number_at l.self) l.i-end l.at);
  places : length l.values ≡ numbers_most;
}
