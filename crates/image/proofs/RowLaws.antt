-- The numbers of rows: those of a row that was put are the numbers that it was put by, other rows keep theirs, and they go by the rows alone. Assumes nothing.
use Prim.Native.Nat.{ℕ, zero, suc, ◌+◌, ◌<◌}
use mathlib.Core.Path.{◌≡◌, refl, sym, ap, ap₂, ◌∙◌}
use mathlib.Core.List.{List, [], ◌∷◌, ◌++◌}
use lib.ListN.{length, get_or}
use Rattle.basics.specs.Limits.{rows_most}
use Rattle.frame.specs.declared.LevelRows.{LevelRows}
use Rattle.frame.specs.declared.SlaveRows.{SlaveRows}
use Rattle.frame.specs.declared.Setup.{Setup}
use Rattle.frame.specs.declared.RowKind.{RowKind}
use Rattle.frame.specs.declared.RowKind.TheVariants.{Levels, Slaves}
use Rattle.frame.specs.Frame.{level_at, slave_at, rows_present}
use Rattle.frame.specs.Kind.{row_size, level_from, slave_from, row_count, put_row}
use Rattle.frame.proofs.KindLaws.{Wide, SameRows, level_kept, slave_kept, put_has}
use Rattle.image.specs.Layout.{level_numbers, slave_numbers, row_numbers, rows_numbers, counted_numbers, head_numbers}

-- n numbers of a list from an index on, each by its index
abbrev pub firsts : ℕ → ℕ → List ℕ → List ℕ
firsts zero i list = []
firsts (suc n) i list = get_or list i 0 ∷ firsts n (suc i) list

firsts_on : (n i v : ℕ) (list : List ℕ) → firsts n (suc i) (v ∷ list) ≡ firsts n i list
firsts_on zero i v list = refl
firsts_on (suc n) i v list = ap (λ (x : List ℕ). get_or list i 0 ∷ x) (firsts_on n (suc i) v list)

firsts_whole : (list : List ℕ) → firsts (length list) 0 list ≡ list
firsts_whole [] = refl
firsts_whole (v ∷ list) = ap (λ (x : List ℕ). v ∷ x) (firsts_on (length list) 0 v list ∙ firsts_whole list)

-- all of its numbers are the list
pub firsts_all : (n : ℕ) (list : List ℕ) → length list ≡ n → firsts n 0 list ≡ list
firsts_all n list e = ap (λ (k : ℕ). firsts k 0 list) (sym e) ∙ firsts_whole list

-- how many numbers a row has
pub row_many : (setup : Setup) (kind : RowKind) (i : ℕ) → length (row_numbers setup kind i) ≡ row_size kind
row_many setup Levels i = refl
row_many setup Slaves i = refl

-- a row that was put has the numbers that it was put by
pub put_numbers : (setup : Setup) (kind : RowKind) (i : ℕ) (row : List ℕ) → Wide setup → i < rows_most → length row ≡ row_size kind
    → row_numbers (put_row setup kind i row) kind i ≡ row
put_numbers setup Levels i row w h n = ap level_numbers (put_has setup Levels i row w h) ∙ firsts_all 3 row n
put_numbers setup Slaves i row w h n = ap slave_numbers (put_has setup Slaves i row w h) ∙ firsts_all 5 row n

-- the rows before it keep theirs
pub put_before : (setup : Setup) (kind : RowKind) (i j : ℕ) (row : List ℕ) → j < i
    → row_numbers (put_row setup kind i row) kind j ≡ row_numbers setup kind j
put_before setup Levels i j row h = ap level_numbers (level_kept setup.levels i j (level_from row) h)
put_before setup Slaves i j row h = ap slave_numbers (slave_kept setup.slaves i (slave_from row) j h)

-- the same rows have the same numbers
module _ (a b : Setup) where
  row_same : (kind : RowKind) → SameRows a b kind → (j : ℕ) → row_numbers a kind j ≡ row_numbers b kind j
  row_same Levels e j = ap (λ (t : LevelRows). level_numbers (level_at t j)) e
  row_same Slaves e j = ap (λ (t : SlaveRows). slave_numbers (slave_at t j)) e

  pub count_same : (kind : RowKind) → SameRows a b kind → row_count a kind ≡ row_count b kind
  count_same Levels e = ap (λ (t : LevelRows). t.count) e
  count_same Slaves e = ap (λ (t : SlaveRows). t.count) e

  rows_same : (kind : RowKind) → SameRows a b kind → (left i : ℕ) → rows_numbers a kind left i ≡ rows_numbers b kind left i
  rows_same kind e zero i = refl
  rows_same kind e (suc left) i = ap₂ ◌++◌ (row_same kind e i) (rows_same kind e left (i + 1))

  pub counted_same : (kind : RowKind) → SameRows a b kind → counted_numbers a kind ≡ counted_numbers b kind
  counted_same kind e =
      let n = count_same kind e in
      ap₂ ◌∷◌ n (ap (λ (k : ℕ). rows_numbers a kind (rows_present k) 0) n ∙ rows_same kind e (rows_present (row_count b kind)) 0)

  pub head_same : ((kind : RowKind) → SameRows a b kind) → head_numbers a ≡ head_numbers b
  unfolding head_numbers
  head_same e = ap (λ (x : List ℕ). 1 ∷ x) (ap₂ ◌++◌ (counted_same Levels (e Levels)) (counted_same Slaves (e Slaves)))
