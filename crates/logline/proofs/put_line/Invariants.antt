use Prim.Native.Nat.{◌+◌, ◌-◌, ◌*◌, ◌≤◌}
use Rattle.logline.specs.Text.{fields_from}
use lib.ListN.{length}
use lib.Seq.{sets}
use mathlib.Core.List.{[], ◌∷◌, ◌++◌}
use mathlib.Core.Path.{◌≡◌}
use Rattle.logline.proofs.put_line.Given as goal

abbrev pub invariant-loop-number : goal.invariant-loop-number
invariant-loop-number l =
    let i = l.number-index in
    let count = length l.numbers in
    (l.next ≤ l.at + 1 + 11 * i)
    × (sets l.out l.next (fields_from l.numbers i (count - i) ++ (10 ∷ []))
    ≡ sets l.initial.out (l.at + 1) (fields_from l.numbers 0 count ++ (10 ∷ [])))
    × (l.next + length (fields_from l.numbers i (count - i)) ≡ l.at + 1 + length (fields_from l.numbers 0 count))
    × (l.at + 96 ≤ length l.initial.out)
