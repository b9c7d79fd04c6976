-- The starred examples of document 01, "Both sides of the line", as a single table that the checker computes by the definitions.
use Prim.Native.Nat.{ℕ}
use mathlib.Core.Path.{◌≡◌, refl}
use mathlib.Core.Bool.{Bool, true, false, ◌&&◌}
use mathlib.Core.List.{List, [], ◌∷◌}
use lib.ListN.{length}
use lib.Dec.{eqb}
use Rattle.refusal.specs.Refusal.{refusal_number}
use Rattle.refusal.specs.declared.Refusal.{Refusal}
use Rattle.cycle.specs.Cycle.{cycle_count, is_length, is_width, is_port, narrower_of, cycles, cycles_up_to}
use Rattle.std.specs.Prelude.{Result, Ok, Err}
use Rattle.number.specs.Number.{NumberRead, Number, read_number, bytes_of}

data Row : Type 0 where
  -- "Cycles for (a, n, W, P)", and their number
  counts : ℕ → ℕ → ℕ → ℕ → ℕ → Row
  -- a number is these bytes, to write and to read
  is : ℕ → List ℕ → Row
  -- these bytes give this refusal
  gives : List ℕ → ℕ → Row

rows : List Row
rows =
    counts 0 1 2 1 1
    ∷ counts 4097 7 4 2 4
    ∷ counts 3 4 4 4 2
    ∷ counts 1 3 4 4 1
    ∷ counts 0 4 4 1 4
    ∷ counts 1 2 2 4 2
    ∷ is 0 (0x00 ∷ [])
    ∷ is 127 (0x7f ∷ [])
    ∷ is 128 (0x80 ∷ 0x01 ∷ [])
    ∷ is 4_294_967_295 (0xff ∷ 0xff ∷ 0xff ∷ 0xff ∷ 0x0f ∷ [])
    ∷ gives (0x80 ∷ 0x00 ∷ []) 11
    ∷ gives (0x80 ∷ []) 10
    ∷ []

same : List ℕ → List ℕ → Bool
same [] [] = true
same [] (y ∷ ys) = false
same (x ∷ xs) [] = false
same (x ∷ xs) (y ∷ ys) = eqb x y && same xs ys

-- this value was read, up to the place past it
says_number : ℕ → ℕ → NumberRead → Bool
says_number v past (Number w next) = eqb w v && eqb next past
says_number v past (Err f) = false

-- this refusal, at the start of the bytes
says_refused : ℕ → NumberRead → Bool
says_refused n (Number w next) = false
says_refused n (Err f) = eqb (refusal_number f.why) n && eqb f.place 0

-- this count, and no refusal
says_count : ℕ → Result ℕ Refusal → Bool
says_count count (Ok cycles) = eqb cycles count
says_count count (Err why) = false

-- the count is given and not refused, and the rule makes as many cycles one after the other
holds : Row → Bool
holds (counts a n w p count) =
    says_count count (cycle_count a n w p) && eqb (length (cycles (narrower_of w p) a n)) count
holds (is v bytes) = same (bytes_of v) bytes && says_number v (length bytes) (read_number bytes 0)
holds (gives bytes n) = says_refused n (read_number bytes 0)

right : List Row → Bool
right [] = true
right (row ∷ more) = holds row && right more

-- every starred example holds of the definitions
starred : right rows ≡ true
unfolding right rows holds same says_count says_number says_refused cycle_count is_length is_width is_port cycles_up_to read_number bytes_of
starred = refl
