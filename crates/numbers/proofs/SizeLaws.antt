-- Lists of numbers that fit, of a few bytes together: one number after the other, and one list after the other. Assumes nothing.
use Prim.Native.Nat.{ℕ, zero, suc, ◌+◌, ◌≤◌, ◌<◌}
use mathlib.Core.List.{List, [], ◌∷◌, ◌++◌}
use native.Mathlib.Omega.{arith}
use lib.ListN.{length, length-append}
use Rattle.number.specs.Number.{bytes_of}
use Rattle.number.proofs.Laws.{bytes_most}
use Rattle.number.proofs.SizeLaws.{tops, size_below}
use Rattle.numbers.specs.Numbers.{all_bytes}
use Rattle.numbers.proofs.RoundTrip.{Numbers, all_append}

-- the numbers are at most 4,294,967,295 each, and have at most n bytes
pub record Small (list : List ℕ) (n : ℕ) : Type 0 where
  pub fits : Numbers list
  pub most : length (all_bytes list) ≤ n

pub small_none : Small [] 0
small_none = record { fits = λ i. omega arith; most = omega arith }

pub small_less : {list : List ℕ} {m n : ℕ} → m ≤ n → Small list m → Small list n
small_less h s = record { fits = s.fits; most = omega (arith, s.most) }

first_fits : (v : ℕ) (list : List ℕ) → v < 4294967296 → Numbers list → Numbers (v ∷ list)
first_fits v list h f zero = h
first_fits v list h f (suc i) = f i

-- a number of at most j + 1 bytes before it, and a number of any size
pub small_first : (j v : ℕ) {list : List ℕ} {n : ℕ} → j ≤ 3 → v < tops j → Small list n → Small (v ∷ list) (j + 1 + n)
small_first j v {list} l h s =
    record {
      fits = first_fits v list (omega (arith, tops_most j l)) s.fits;
      most = omega (arith, length-append (bytes_of v) (all_bytes list), size_below j v (omega arith) h, s.most);
    }
  where
    tops_most : (j : ℕ) → j ≤ 3 → tops j ≤ 268435456
    tops_most zero l = omega arith
    tops_most (suc zero) l = omega arith
    tops_most (suc (suc zero)) l = omega arith
    tops_most (suc (suc (suc zero))) l = omega arith
    tops_most (suc (suc (suc (suc j)))) l = absurd (omega arith)

pub small_any : (v : ℕ) {list : List ℕ} {n : ℕ} → v < 4294967296 → Small list n → Small (v ∷ list) (5 + n)
small_any v {list} h s =
    record {
      fits = first_fits v list h s.fits;
      most = omega (arith, length-append (bytes_of v) (all_bytes list), bytes_most v, s.most);
    }

-- two lists
append_fits : (a b : List ℕ) → Numbers a → Numbers b → Numbers (a ++ b)
append_fits [] b p q = q
append_fits (v ∷ a) b p q = first_fits v (a ++ b) (p 0) (append_fits a b (λ k. p (suc k)) q)

pub small_append : {a b : List ℕ} {m n : ℕ} → Small a m → Small b n → Small (a ++ b) (m + n)
small_append {a} {b} s t =
    record {
      fits = append_fits a b s.fits t.fits;
      most = rw (all_append a b, length-append (all_bytes a) (all_bytes b)) (omega (arith, s.most, t.most));
    }
