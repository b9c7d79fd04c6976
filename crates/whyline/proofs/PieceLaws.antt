-- A line written piece by piece: words byte by byte, then a number, then the next piece. Assumes nothing.
use Prim.Native.Nat.{ℕ, suc, ◌+◌, ◌<◌, ◌≤◌}
use mathlib.Core.Path.{◌≡◌, sym, ap₂, ◌∙◌}
use mathlib.Core.Bool.{true}
use mathlib.Core.List.{List, ◌++◌}
use native.Mathlib.Numerals.{add-one}
use native.Mathlib.Omega.{arith}
use borrow.Author.Tests.{le-leb}
use lib.ListN.{length, get_or, set, drop, length-append}
use lib.Seq.{sets, length-sets, drop-cons}
use Rattle.logline.specs.Text.{digits, has_digit_room, put_decimal, put_decimal_after}
use Rattle.logline.proofs.DigitLaws.{digits_most}
use Rattle.logline.proofs.TextLaws.{sets_append}
use Rattle.whyline.specs.Words.{counted}

-- one byte of the words that are left
pub words_on : (words out : List ℕ) (at i : ℕ) → i < length words
    → sets (set out (at + i) (get_or words i 0)) (at + (i + 1)) (drop (i + 1) words) ≡ sets out (at + i) (drop i words)
words_on words out at i h =
    let k : at + (i + 1) ≡ suc (at + i) = omega arith in
    let d = drop-cons words i 0 h in
    rw (k, d, add-one i)

-- two pieces, one after the other
pub then_place : (at : ℕ) (a b : List ℕ) → at + length a + length b ≡ at + length (a ++ b)
then_place at a b = omega (arith, length-append a b)

pub then_out : (out : List ℕ) (at : ℕ) (a b : List ℕ) → sets (sets out at a) (at + length a) b ≡ sets out at (a ++ b)
then_out out at a b = sym (sets_append a b out at)

-- the same of a piece that stands and a piece that follows
pub then_next : (out : List ℕ) (at : ℕ) (a b : List ℕ) {next : List ℕ} {k : ℕ} → next ≡ sets out at a → k ≡ at + length a
    → sets next k b ≡ sets out at (a ++ b)
then_next out at a b e k = ap₂ (λ (o : List ℕ) (i : ℕ). sets o i b) e k ∙ then_out out at a b

-- words and a number have at most ten bytes more than the words
pub counted_most : (words : List ℕ) (n : ℕ) → length (counted words n) ≤ length words + 10
counted_most words n = omega (arith, length-append words (digits 9 n), digits_most 9 n)

-- words and then a number, where there is room for the longest
module _ (words out : List ℕ) (at n : ℕ) (room : at + length words + 10 ≤ length out) where
  digit_room : has_digit_room (length (sets out at words)) (at + length words) ≡ true
  digit_room = le-leb (at + length words + 10) (length (sets out at words)) (omega (arith, room, length-sets out at words))

  pub counted_place : put_decimal (sets out at words) (at + length words) n ≡ at + length (counted words n)
  unfolding put_decimal
  counted_place = rw digit_room (then_place at words (digits 9 n))

  pub counted_out : put_decimal_after (sets out at words) (at + length words) n ≡ sets out at (counted words n)
  unfolding put_decimal_after
  counted_out = rw digit_room (then_out out at words (digits 9 n))
