use Prim.Native.Nat.{ℕ, ◌+◌, ◌-◌, ◌*◌, ◌≤◌, ◌<◌}
use mathlib.Core.Path.{◌≡◌, sym, ap, ◌∙◌}
use mathlib.Core.Bool.{Bool, false}
use mathlib.Core.List.{List}
use native.Mathlib.Omega.{arith}
use lib.ListN.{length, get_or, drop, length-drop}
use Rattle.basics.specs.Limits.{places}
use Rattle.image.specs.Layout.{flag_number, marks_number}
use Rattle.image.proofs.MarkLaws.{marks_most_lem, marks_from}
use Rattle.image.proofs.writing.marks_number.Goals as goal

-- one more mark, and that its sum is no larger than all marks together
more : (marks : List Bool) (level : ℕ) {bit sum : ℕ} → length marks ≡ places → 0 < level → level ≤ places
    → bit ≡ flag_number (get_or marks (level - 1) false) → sum ≡ marks_number (drop level marks)
    → (bit + 2 * sum ≡ marks_number (drop (level - 1) marks)) × (bit + 2 * sum ≤ 65535)
more marks level {bit} {sum} n low high b s =
    let on : level - 1 + 1 ≡ level = omega arith in
    let from = marks_from marks (level - 1) (omega arith) ∙ ap (λ (l : ℕ). flag_number (get_or marks (level - 1) false) + 2 * marks_number (drop l marks)) on in
    let all = ap (λ (x : ℕ). x + 2 * marks_number (drop level marks)) b ∙ sym from in
    let is : bit + 2 * sum ≡ marks_number (drop (level - 1) marks) = ap (λ (x : ℕ). bit + 2 * x) s ∙ all in
    (is, omega (arith, is, marks_most_lem (drop (level - 1) marks) (omega (arith, length-drop (level - 1) marks))))

pub overflow_mul-sum : goal.overflow_mul-sum
overflow_mul-sum c =
    let l = c.loop-level in
    let m = more c.args.marks l.level l.invariant.places_all (omega arith) (omega arith) c.flag_number.ensures l.invariant.sum in
    omega (arith, m.1)

pub overflow_add-sum : goal.overflow_add-sum
overflow_add-sum c =
    let l = c.loop-level in
    let m = more c.args.marks l.level l.invariant.places_all (omega arith) (omega arith) c.flag_number.ensures l.invariant.sum in
    omega (arith, m.1)
