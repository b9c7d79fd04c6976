-- Marks and their number: one more mark at a time, and each way back. Assumes nothing.
use Prim.Native.Nat.{ℕ, zero, suc, ◌+◌, ◌*◌, ◌/◌, ◌%◌, ◌≤◌, ◌<◌}
use mathlib.Core.Path.{◌≡◌, refl, sym, ap, ap₂, ◌∙◌}
use mathlib.Core.Bool.{Bool, true, false, cond}
use mathlib.Core.List.{List, [], ◌∷◌, append-nil}
use native.Mathlib.Numerals.{add-one}
use native.Mathlib.Omega.{arith}
use borrow.Author.Tests.{eq-eqb, ne_eqb, eqb-true, eqb-false}
use lib.ListN.{length, get_or, set, replicate, drop}
use lib.Seq.{sets, sets-eq, drop-cons}
use lib.Dec.{eqb}
use Rattle.basics.specs.Limits.{places}
use Rattle.basics.proofs.Tests.{by_test}
use Rattle.image.specs.Layout.{flag_number, marks_number}
use Rattle.image.specs.Read.{marks_of, marks_most}

-- a flag's number is 0 or 1
pub flag_most : (so : Bool) → flag_number so ≤ 1
flag_most true = omega arith
flag_most false = omega arith

pub marks_length : (left n : ℕ) → length (marks_of left n) ≡ left
marks_length zero n = refl
marks_length (suc left) n = ap suc (marks_length left (n / 2))

-- all of them, laid over as many places
pub marks_laid : (n : ℕ) → sets (replicate places false) 0 (marks_of places n) ≡ marks_of places n
marks_laid n =
    sets-eq (marks_of places n) (replicate places false) 0 (omega (arith, marks_length places n))
    ∙ append-nil (marks_of places n)

-- one is laid, and the rest after it
pub marks_on : (marks : List Bool) (level rest : ℕ) {left k : ℕ} → left ≡ suc k
    → sets (set marks level (eqb (rest % 2) 1)) (level + 1) (marks_of k (rest / 2)) ≡ sets marks level (marks_of left rest)
marks_on marks level rest more = rw (more, add-one)

-- the number of marks is below 2 to the power of their places
abbrev two_to : ℕ → ℕ
two_to zero = 1
two_to (suc n) = 2 * two_to n

some : (n : ℕ) → 0 < two_to n
some zero = omega arith
some (suc n) = omega (arith, some n)

marks_below : (marks : List Bool) (n : ℕ) → length marks ≤ n → marks_number marks < two_to n
marks_below [] n h = some n
marks_below (marked ∷ marks) zero h = absurd (omega arith)
marks_below (true ∷ marks) (suc n) h = omega (arith, marks_below marks n (omega arith))
marks_below (false ∷ marks) (suc n) h = omega (arith, marks_below marks n (omega arith))

pub marks_most_lem : (marks : List Bool) → length marks ≤ places → marks_number marks ≤ marks_most
marks_most_lem marks h = omega (arith, marks_below marks places h)

-- the number of the marks from a place on
pub marks_from : (marks : List Bool) (level : ℕ) → level < length marks
    → marks_number (drop level marks) ≡ flag_number (get_or marks level false) + 2 * marks_number (drop (level + 1) marks)
marks_from marks level h = rw (drop-cons marks level false h, add-one)

-- Each way back: the marks by their number, and the number of the marks.
pub marks_back : (marks : List Bool) → marks_of (length marks) (marks_number marks) ≡ marks
marks_back [] = refl
marks_back (true ∷ marks) =
    let n = marks_number marks in
    let half : (1 + 2 * n) / 2 ≡ n = omega arith in
    let odd : (1 + 2 * n) % 2 ≡ 1 = omega arith in
    ap₂ (λ (b : Bool) (m : ℕ). b ∷ marks_of (length marks) m) (eq-eqb _ 1 odd) half ∙ ap (λ (r : List Bool). true ∷ r) (marks_back marks)
marks_back (false ∷ marks) =
    let n = marks_number marks in
    let half : (0 + 2 * n) / 2 ≡ n = omega arith in
    let even : (0 + 2 * n) % 2 ≡ 1 → ⊥ = λ e. omega arith in
    ap₂ (λ (b : Bool) (m : ℕ). b ∷ marks_of (length marks) m) (ne_eqb _ 1 even) half ∙ ap (λ (r : List Bool). false ∷ r) (marks_back marks)

bit_back : (n : ℕ) → cond (eqb (n % 2) 1) 1 0 ≡ n % 2
bit_back n =
    by_test (eqb (n % 2) 1)
    (λ t. rw t (sym (eqb-true (n % 2) 1 t)))
    (λ f. let other = eqb-false (n % 2) 1 f in rw f (omega arith))

pub number_back : (left n : ℕ) → n < two_to left → marks_number (marks_of left n) ≡ n
number_back zero n h = omega arith
number_back (suc left) n h =
    let rest : marks_number (marks_of left (n / 2)) ≡ n / 2 = number_back left (n / 2) (omega arith) in
    omega (arith, bit_back n, rest)

pub marks_number_back : (n : ℕ) → n ≤ marks_most → marks_number (marks_of places n) ≡ n
marks_number_back n h = number_back places n (omega arith)
