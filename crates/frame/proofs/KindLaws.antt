-- Rows by their kind: where there is no place for a row nothing is put, a row's numbers may have zeros after them, and a row that is put stands there and
-- changes nothing for the rows before it, nor for those of another kind. Assumes nothing.
use Prim.Native.Nat.{ℕ, zero, suc, ◌+◌, ◌-◌, ◌≤◌, ◌<◌}
use mathlib.Core.Path.{◌≡◌, refl, ap, ap₂, ◌∙◌}
use mathlib.Core.List.{List}
use native.Mathlib.Omega.{arith}
use lib.ListN.{length, get_or, set, length-set}
use lib.Seq.{set_out, get_or-set_same, get_or-set_other}
use Rattle.basics.specs.Limits.{rows_most}
use Rattle.basics.proofs.ScanLaws.{all_ext}
use Rattle.frame.specs.declared.LevelRow.{LevelRow}
use Rattle.frame.specs.declared.SlaveRow.{SlaveRow}
use Rattle.frame.specs.declared.LevelRows.{LevelRows}
use Rattle.frame.specs.declared.SlaveRows.{SlaveRows}
use Rattle.frame.specs.declared.Setup.{Setup}
use Rattle.frame.specs.declared.RowKind.{RowKind}
use Rattle.frame.specs.declared.RowKind.TheVariants.{Levels, Slaves}
use Rattle.frame.specs.Frame.{no_level, no_slave, level_at, slave_at, level_row_fits, is_rising, is_last_fifteen, slave_row_fits, is_apart, are_apart, lengths_before}
use Rattle.frame.specs.Kind.{row_size, level_from, slave_from, no_rows, with_count, row_count, put_row, row_fits}

-- what holds of each kind, and that they are two
pub by_kind : (P : RowKind → Type 0) → P Levels → P Slaves → (kind : RowKind) → P kind
by_kind P levels slaves Levels = levels
by_kind P levels slaves Slaves = slaves

pub other_kind : Slaves ≡ Levels → ⊥
other_kind e = let z : ◌≡◌ {A = ℕ} 5 3 = ap row_size e in omega arith

pub put_none : (setup : Setup) (kind : RowKind) (i : ℕ) (row : List ℕ) → length setup.levels.rows ≤ i → length setup.slaves.rows ≤ i
    → put_row setup kind i row ≡ setup
put_none setup Levels i row h k = rw (set_out setup.levels.rows i (level_from row) h)
put_none setup Slaves i row h k = rw (set_out setup.slaves.rows i (slave_from row) k)

-- only the first numbers of a row count
pub put_alike : (setup : Setup) (kind : RowKind) (i : ℕ) (a b : List ℕ) → ((j : ℕ) → get_or a j 0 ≡ get_or b j 0)
    → put_row setup kind i a ≡ put_row setup kind i b
put_alike setup Levels i a b same = rw (same 0, same 1, same 2)
put_alike setup Slaves i a b same = rw (same 0, same 1, same 2, same 3, same 4)

-- the count stays where a row is put, and is the one that was given
pub put_count : (setup : Setup) (kind : RowKind) (i : ℕ) (row : List ℕ) → row_count (put_row setup kind i row) kind ≡ row_count setup kind
put_count setup Levels i row = refl
put_count setup Slaves i row = refl

pub counted : (setup : Setup) (kind : RowKind) (count : ℕ) → row_count (with_count setup kind count) kind ≡ count
counted setup Levels count = refl
counted setup Slaves count = refl

-- the rows before i
module _ (rows : LevelRows) (i j : ℕ) (row : LevelRow) (h : j < i) where
  pub level_kept : get_or (set rows.rows i row) j no_level ≡ level_at rows j
  level_kept = get_or-set_other rows.rows i j row no_level (omega arith)

module _ (rows : SlaveRows) (i : ℕ) (row : SlaveRow) where
  abbrev slaves_with : SlaveRows
  slaves_with = record { rows = set rows.rows i row; count = rows.count }

  pub slave_kept : (j : ℕ) → j < i → slave_at slaves_with j ≡ slave_at rows j
  slave_kept j h = get_or-set_other rows.rows i j row no_slave (omega arith)

  lengths_kept : (j : ℕ) → j ≤ i → lengths_before slaves_with j ≡ lengths_before rows j
  unfolding lengths_before
  lengths_kept zero h = refl
  lengths_kept (suc j) h = ap₂ ◌+◌ (lengths_kept j (omega arith)) (ap (λ (r : SlaveRow). r.length) (slave_kept j h))

  slaves_kept : (j : ℕ) → j < i → slave_row_fits slaves_with j ≡ slave_row_fits rows j
  unfolding slave_row_fits is_apart
  slaves_kept j h =
      let same = slave_kept j h in
      let apart =
      all_ext (λ (k : ℕ). are_apart (slave_at slaves_with k) (slave_at slaves_with j)) (λ (k : ℕ). are_apart (slave_at rows k) (slave_at rows j)) j
      (λ k l. ap₂ are_apart (slave_kept k (omega arith)) same) in
      rw (apart, lengths_kept j (omega arith), same)

-- The frame's test of a row looks only at that row and those before it.
pub steady : (setup : Setup) (kind : RowKind) (i j : ℕ) (row : List ℕ) → j < i → row_fits (put_row setup kind i row) kind j ≡ row_fits setup kind j
unfolding level_row_fits is_rising is_last_fifteen
steady setup Levels i j row h =
    rw (level_kept setup.levels i j (level_from row) h, level_kept setup.levels i (j - 1) (level_from row) (omega arith))
steady setup Slaves i j row h = slaves_kept setup.slaves i (slave_from row) j h

-- The tables have a place for each row, as in the program they always have.
pub record Wide (setup : Setup) : Type 0 where
  pub levels : length setup.levels.rows ≡ rows_most
  pub slaves : length setup.slaves.rows ≡ rows_most

pub no_rows_wide : Wide no_rows
no_rows_wide = record { levels = refl; slaves = refl }

pub put_wide : (setup : Setup) (kind : RowKind) (i : ℕ) (row : List ℕ) → Wide setup → Wide (put_row setup kind i row)
put_wide setup Levels i row w = record { levels = simp length-set w.levels; slaves = w.slaves }
put_wide setup Slaves i row w = record { levels = w.levels; slaves = simp length-set w.slaves }

pub count_wide : (setup : Setup) (kind : RowKind) (count : ℕ) → Wide setup → Wide (with_count setup kind count)
count_wide setup Levels count w = record { levels = w.levels; slaves = w.slaves }
count_wide setup Slaves count w = record { levels = w.levels; slaves = w.slaves }

-- a row that stands in its table, by its numbers
abbrev pub HasRow : Setup → RowKind → ℕ → List ℕ → Type 0
HasRow setup Levels j row = level_at setup.levels j ≡ level_from row
HasRow setup Slaves j row = slave_at setup.slaves j ≡ slave_from row

pub count_has : (setup : Setup) (kind : RowKind) (count j : ℕ) (row : List ℕ) → HasRow setup kind j row → HasRow (with_count setup kind count) kind j row
count_has setup Levels count j row e = e
count_has setup Slaves count j row e = e

pub put_has : (setup : Setup) (kind : RowKind) (i : ℕ) (row : List ℕ) → Wide setup → i < rows_most → HasRow (put_row setup kind i row) kind i row
put_has setup Levels i row w h = get_or-set_same setup.levels.rows i (level_from row) no_level (omega (arith, w.levels))
put_has setup Slaves i row w h = get_or-set_same setup.slaves.rows i (slave_from row) no_slave (omega (arith, w.slaves))

pub put_apart : (setup : Setup) (kind : RowKind) (i j : ℕ) (row other : List ℕ) → (j ≡ i → ⊥) → HasRow setup kind j other
    → HasRow (put_row setup kind i row) kind j other
put_apart setup Levels i j row other n e = get_or-set_other setup.levels.rows i j (level_from row) no_level n ∙ e
put_apart setup Slaves i j row other n e = get_or-set_other setup.slaves.rows i j (slave_from row) no_slave n ∙ e

pub put_keeps : (setup : Setup) (kind : RowKind) (i j : ℕ) (row other : List ℕ) → j < i → HasRow setup kind j other
    → HasRow (put_row setup kind i row) kind j other
put_keeps setup kind i j row other h e = put_apart setup kind i j row other (omega arith) e

-- the rows of one kind are those of another set-up
abbrev pub SameRows : Setup → Setup → RowKind → Type 0
SameRows a b Levels = a.levels ≡ b.levels
SameRows a b Slaves = a.slaves ≡ b.slaves

pub same_refl : (a : Setup) (kind : RowKind) → SameRows a a kind
same_refl a Levels = refl
same_refl a Slaves = refl

pub same_then : (a b c : Setup) (kind : RowKind) → SameRows a b kind → SameRows b c kind → SameRows a c kind
same_then a b c Levels p q = p ∙ q
same_then a b c Slaves p q = p ∙ q

pub put_others : (setup : Setup) (kind other : RowKind) (i : ℕ) (row : List ℕ) → (kind ≡ other → ⊥) → SameRows (put_row setup kind i row) setup other
put_others setup Levels Levels i row n = absurd (n refl)
put_others setup Levels Slaves i row n = refl
put_others setup Slaves Levels i row n = refl
put_others setup Slaves Slaves i row n = absurd (n refl)

pub count_others : (setup : Setup) (kind other : RowKind) (count : ℕ) → (kind ≡ other → ⊥) → SameRows (with_count setup kind count) setup other
count_others setup Levels Levels count n = absurd (n refl)
count_others setup Levels Slaves count n = refl
count_others setup Slaves Levels count n = refl
count_others setup Slaves Slaves count n = absurd (n refl)
