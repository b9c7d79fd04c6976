-- Laws of the digits of a number: how many there are, and writing them from the last to the first.
use Prim.Native.Nat.{ℕ, zero, suc, ◌+◌, ◌-◌, ◌/◌, ◌%◌, ◌^◌, ◌≤◌, ◌<◌}
use mathlib.Core.Path.{◌≡◌, refl, sym, ap, ◌∙◌}
use mathlib.Core.List.{List, [], ◌∷◌, ◌++◌}
use native.Mathlib.Nat.{not-suc-le-zero, zero-add, suc-add, div-one, one-le-pow, div-div-eq-div-mul, pow-succ'}
use native.Mathlib.Numerals.{sub-one, add-one}
use native.Mathlib.Omega.{arith}
use borrow.Author.Tests.{lt-ltb, le-ltb, ltb-true, ltb-false}
use lib.ListN.{length, set, length-append}
use lib.Seq.{sets}
use lib.Dec.{ltb}
use Rattle.basics.proofs.Tests.{by_test}
use Rattle.logline.specs.Text.{digits}
use Rattle.logline.proofs.TextLaws.{sets_append, sets_before}

pub digits_last : (left n : ℕ) → n < 10 → digits left n ≡ (48 + n) ∷ []
digits_last zero n h = let e : n % 10 ≡ n = omega (arith, h) in ap (λ (d : ℕ). (48 + d) ∷ []) e
digits_last (suc left) n h = simp (lt-ltb n 10 h)

size_more : (left n : ℕ) → 10 ≤ n → length (digits (suc left) n) ≡ suc (length (digits left (n / 10)))
size_more left n h =
    rw (le-ltb n 10 h) (length-append (digits left (n / 10)) ((48 + n % 10) ∷ []) ∙ add-one (length (digits left (n / 10))))

-- at most one digit more than may follow the first
pub digits_most : (left n : ℕ) → length (digits left n) ≤ suc left
digits_most zero n = omega arith
digits_most (suc left) n =
    by_test (ltb n 10)
    (λ t. rw t (omega arith))
    (λ f. omega (arith, size_more left n (ltb-false n 10 f), digits_most left (n / 10)))

-- a number from 10 ^ k on has the digits of its part above 10 ^ k, and k more
pub size_above : (k left n : ℕ) → 10 ^ k ≤ n → length (digits (k + left) n) ≡ k + length (digits left (n / 10 ^ k))
size_above zero left n h = rw (zero-add left, div-one n, zero-add (length (digits left n)))
size_above (suc k) left n h =
    let ten : 10 ≤ n = omega (arith, h, one-le-pow k 10 (omega arith)) in
    let rest : 10 ^ k ≤ n / 10 = omega (arith, h) in
    let part : n / 10 / 10 ^ k ≡ n / 10 ^ suc k = div-div-eq-div-mul n 10 (10 ^ k) ∙ ap (λ (d : ℕ). n / d) (sym (pow-succ' 10 k)) in
    ap (λ (j : ℕ). length (digits j n)) (suc-add k left)
    ∙ size_more (k + left) n ten
    ∙ ap suc (size_above k left (n / 10) rest)
    ∙ ap (λ (m : ℕ). suc (k + length (digits left m))) part
    ∙ sym (suc-add k (length (digits left (n / 10 ^ suc k))))

-- a number from 10 ^ k up to the next power has k digits after the first
pub size_within : (k left n : ℕ) → 10 ^ k ≤ n → n / 10 ^ k < 10 → length (digits (k + left) n) ≡ k + 1
size_within k left n from below = size_above k left n from ∙ ap (λ (d : List ℕ). k + length d) (digits_last left (n / 10 ^ k) below)

-- where more digits may follow than a number has, it has no more for that
pub size_enough : (more left n : ℕ) → n < 10 ^ suc left → length (digits (left + more) n) ≡ length (digits left n)
size_enough more zero n h = ap length (digits_last (0 + more) n h)
size_enough more (suc left) n h =
    by_test (ltb n 10)
    (λ t. let b = ltb-true n 10 t in
    ap length (digits_last (suc left + more) n b) ∙ sym (ap length (digits_last (suc left) n b)))
    (λ f. let b = ltb-false n 10 f in
    ap (λ (j : ℕ). length (digits j n)) (suc-add left more)
    ∙ size_more (left + more) n b
    ∙ ap suc (size_enough more left (n / 10) (omega (arith, h)))
    ∙ sym (size_more left n b))

-- the k lowest digits of a number
abbrev pub lowest : ℕ → ℕ → List ℕ
lowest zero n = []
lowest (suc k) n = lowest k (n / 10) ++ ((48 + n % 10) ∷ [])

length_lowest : (k n : ℕ) → length (lowest k n) ≡ k
length_lowest zero n = refl
length_lowest (suc k) n =
    length-append (lowest k (n / 10)) ((48 + n % 10) ∷ [])
    ∙ add-one (length (lowest k (n / 10)))
    ∙ ap suc (length_lowest k (n / 10))

-- all the digits of a number are its lowest, as many as it has
pub all_lowest : (left n : ℕ) → digits left n ≡ lowest (length (digits left n)) n
all_lowest zero n = refl
all_lowest (suc left) n =
    by_test (ltb n 10)
    (λ t. let e : n % 10 ≡ n = omega (arith, ltb-true n 10 t) in rw t (ap (λ (d : ℕ). (48 + d) ∷ []) (sym e)))
    (λ f.
    let size = size_more left n (ltb-false n 10 f) in
    rw (size, f) (ap (λ (d : List ℕ). d ++ ((48 + n % 10) ∷ [])) (all_lowest left (n / 10))))

-- of the digits left, the last is written before the others
pub lowest_more : (left n at : ℕ) (out : List ℕ) → 0 < left
    → sets (set out (at + (left - 1)) (48 + n % 10)) at (lowest (left - 1) (n / 10)) ≡ sets out at (lowest left n)
lowest_more zero n at out p = absurd (not-suc-le-zero p)
lowest_more (suc k) n at out p =
    let e = length_lowest k (n / 10) in
    rw sub-one
    (sets_before (lowest k (n / 10)) out at (at + k) (48 + n % 10) (omega (arith, e))
    ∙ ap (λ (j : ℕ). set (sets out at (lowest k (n / 10))) (at + j) (48 + n % 10)) (sym e)
    ∙ sym (sets_append (lowest k (n / 10)) ((48 + n % 10) ∷ []) out at))
