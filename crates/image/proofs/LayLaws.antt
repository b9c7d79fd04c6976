-- The numbers of a set-up laid one after the other into a list, one more at a time. Assumes nothing.
use Prim.Native.Nat.{ℕ, zero, suc, ◌+◌, ◌*◌, ◌≤◌}
use mathlib.Core.Path.{◌≡◌, sym, ap, subst, ◌∙◌}
use mathlib.Core.List.{List, [], ◌∷◌, ◌++◌}
use native.Mathlib.Nat.{zero-mul, min-eq_left}
use native.Mathlib.Numerals.{add-one}
use native.Mathlib.Omega.{arith}
use lib.ListN.{length, set, length-append}
use lib.Seq.{sets}
use Rattle.basics.specs.Limits.{rows_most}
use Rattle.numbers.proofs.Laws.{sets_append}
use Rattle.frame.specs.declared.SlaveRows.{SlaveRows}
use Rattle.frame.specs.declared.LevelRows.{LevelRows}
use Rattle.frame.specs.declared.LevelRow.{LevelRow}
use Rattle.frame.specs.declared.SlaveRow.{SlaveRow}
use Rattle.frame.specs.declared.Setup.{Setup}
use Rattle.frame.specs.declared.RowKind.{RowKind}
use Rattle.frame.specs.declared.RowKind.TheVariants.{Levels, Slaves}
use Rattle.frame.specs.Frame.{level_at, slave_at, rows_present}
use Rattle.frame.specs.Kind.{row_size, row_count}
use Rattle.image.specs.Layout.{layout_number, newest_edition, rows_numbers, head_numbers, setup_numbers}

-- the next places of a list, as `sets` counts them
two : (at : ℕ) → at + 2 ≡ suc (suc at)
two at = omega arith

three : (at : ℕ) → at + 3 ≡ suc (suc (suc at))
three at = omega arith

four : (at : ℕ) → at + 4 ≡ suc (suc (suc (suc at)))
four at = omega arith

five : (at : ℕ) → at + 5 ≡ suc (suc (suc (suc (suc at))))
five at = omega arith

-- a set-up of these rows
abbrev pub tables : LevelRows → SlaveRows → ℕ → Setup
tables levels slaves master = record { levels = levels; slaves = slaves; master = master }

-- one more row is due, of either kind
module _ (setup : Setup) (kind : RowKind) (i : ℕ) {left k : ℕ} (more : left ≡ suc k) where
  module _ (is : kind ≡ Levels) where
    abbrev level_row : LevelRow
    level_row = level_at setup.levels i

    pub level_laid : (out : List ℕ) (at : ℕ)
        → sets (set (set (set out at level_row.level) (at + 1) level_row.width) (at + 2) level_row.options) (at + 3)
        (rows_numbers setup kind k (i + 1))
        ≡ sets out at (rows_numbers setup kind left i)
    level_laid out at =
        subst
        (λ (x : RowKind).
        sets (set (set (set out at level_row.level) (at + 1) level_row.width) (at + 2) level_row.options) (at + 3)
        (rows_numbers setup x k (i + 1))
        ≡ sets out at (rows_numbers setup x left i))
        (sym is)
        (rw (more, add-one at, two at, three at))

    pub level_size : length (rows_numbers setup kind left i) ≡ 3 + length (rows_numbers setup kind k (i + 1))
    level_size =
        subst (λ (x : RowKind). length (rows_numbers setup x left i) ≡ 3 + length (rows_numbers setup x k (i + 1))) (sym is)
        (rw more (omega arith))

  module _ (is : kind ≡ Slaves) where
    abbrev slave_row : SlaveRow
    slave_row = slave_at setup.slaves i

    pub slave_laid : (out : List ℕ) (at : ℕ)
        → sets
        (set
        (set (set (set (set out at slave_row.space) (at + 1) slave_row.base) (at + 2) slave_row.length) (at + 3) slave_row.port)
        (at + 4)
        slave_row.time)
        (at + 5)
        (rows_numbers setup kind k (i + 1))
        ≡ sets out at (rows_numbers setup kind left i)
    slave_laid out at =
        subst
        (λ (x : RowKind).
        sets
        (set
        (set (set (set (set out at slave_row.space) (at + 1) slave_row.base) (at + 2) slave_row.length) (at + 3) slave_row.port)
        (at + 4)
        slave_row.time)
        (at + 5)
        (rows_numbers setup x k (i + 1))
        ≡ sets out at (rows_numbers setup x left i))
        (sym is)
        (rw (more, add-one at, two at, three at, four at, five at))

    pub slave_size : length (rows_numbers setup kind left i) ≡ 5 + length (rows_numbers setup kind k (i + 1))
    slave_size =
        subst (λ (x : RowKind). length (rows_numbers setup x left i) ≡ 5 + length (rows_numbers setup x k (i + 1))) (sym is)
        (rw more (omega arith))

pub rows_done : (setup : Setup) (kind : RowKind) (i : ℕ) {left : ℕ} → left ≡ 0 → rows_numbers setup kind left i ≡ []
rows_done setup kind i none = rw none

-- each row of a kind has as many numbers as the kind says
pub rows_size : (setup : Setup) (kind : RowKind) (left i : ℕ) → length (rows_numbers setup kind left i) ≡ left * row_size kind
rows_size setup kind zero i = sym (zero-mul (row_size kind))
rows_size setup Levels (suc left) i = omega (arith, rows_size setup Levels left (i + 1))
rows_size setup Slaves (suc left) i = omega (arith, rows_size setup Slaves left (i + 1))

-- the whole set-up: layout, edition, both counts with their rows, the master store's length, each after the other, by what each part left
module _ (setup : Setup) (out : List ℕ) (few : row_count setup Levels ≤ rows_most) (less : row_count setup Slaves ≤ rows_most) where
  abbrev levels_of : List ℕ
  levels_of = rows_numbers setup Levels (row_count setup Levels) 0

  abbrev slaves_of : List ℕ
  slaves_of = rows_numbers setup Slaves (row_count setup Slaves) 0

  abbrev begun : List ℕ
  begun = set (set (set out 0 layout_number) 1 newest_edition) 2 (row_count setup Levels)

  present : (count : ℕ) → count ≤ rows_most → rows_present count ≡ count
  present count h = min-eq_left h

  setup_is : setup_numbers setup ≡ layout_number ∷ newest_edition ∷ row_count setup Levels
      ∷ ((levels_of ++ (row_count setup Slaves ∷ slaves_of)) ++ (setup.master ∷ []))
  unfolding setup_numbers head_numbers
  setup_is = rw (present (row_count setup Levels) few, present (row_count setup Slaves) less)

  module _ {mid end : ℕ} {upper lower : List ℕ} (m : mid ≡ 3 + length levels_of) (u : upper ≡ sets begun 3 levels_of)
      (e : end ≡ mid + 1 + length slaves_of) (l : lower ≡ sets (set upper mid (row_count setup Slaves)) (mid + 1) slaves_of) where
    pub setup_all : set lower end setup.master ≡ sets out 0 (setup_numbers setup)
    setup_all =
        let both = levels_of ++ (row_count setup Slaves ∷ slaves_of) in
        let size = length-append levels_of (row_count setup Slaves ∷ slaves_of) in
        let place : 3 + length both ≡ end = omega arith in
        let next : mid + 1 ≡ suc (3 + length levels_of) = omega arith in
        let laid : sets begun 3 both ≡ lower =
        sets_append levels_of (row_count setup Slaves ∷ slaves_of) begun 3
        ∙ sym (l ∙ rw (u, next, m)) in
        sym (ap (sets out 0) setup_is ∙ sets_append both (setup.master ∷ []) begun 3 ∙ rw (laid, place))

    pub setup_size : end + 1 ≡ length (setup_numbers setup)
    setup_size =
        let both = levels_of ++ (row_count setup Slaves ∷ slaves_of) in
        omega (arith, m, e, length-append levels_of (row_count setup Slaves ∷ slaves_of), length-append both (setup.master ∷ []), ap length setup_is)

pub setup_most : (setup : Setup) → length (setup_numbers setup) ≤ 5 + 8 * rows_most
unfolding setup_numbers head_numbers
setup_most setup =
    let upper = rows_numbers setup Levels (rows_present (row_count setup Levels)) 0 in
    let lower = row_count setup Slaves ∷ rows_numbers setup Slaves (rows_present (row_count setup Slaves)) 0 in
    omega (
      arith,
      length-append upper lower,
      length-append (upper ++ lower) (setup.master ∷ []),
      rows_size setup Levels (rows_present (row_count setup Levels)) 0,
      rows_size setup Slaves (rows_present (row_count setup Slaves)) 0,
    )
