-- A source that spells a set-up's numbers is read as that set-up, with nothing behind its counts: rows, tables, a head, the whole. Assumes nothing.
use Prim.Native.Nat.{ℕ, zero, suc, ◌+◌, ◌-◌, ◌≤◌, ◌<◌}
use mathlib.Core.Path.{◌≡◌, refl, sym, ap, ap₂, ◌∙◌}
use mathlib.Core.List.{List, [], ◌∷◌, ◌++◌}
use native.Mathlib.Nat.{zero-add}
use native.Mathlib.Omega.{arith}
use borrow.Author.Tests.{ltb-true, ltb-false}
use lib.ListN.{length, get_or, take, replicate, length-append, length-replicate, get_or-append}
use lib.Seq.{ext_get_or, length-take-le, get_or-take, get_or-append-add}
use lib.Dec.{ltb}
use Rattle.std.specs.Prelude.{Ok}
use Rattle.basics.specs.Limits.{rows_most}
use Rattle.basics.proofs.Arrays.{replicate_at}
use Rattle.basics.proofs.Tests.{by_test}
use Rattle.refusal.specs.Refusal.{refusal_by}
use Rattle.numbers.specs.Numbers.{Reading, passed, numbers}
use Rattle.numbers.proofs.Spelt.{Spells, spells_as, spells_first, spells_none, spells_split, spelt_passed, spelt_numbers, ranged_by}
use Rattle.frame.specs.declared.LevelRows.{LevelRows}
use Rattle.frame.specs.declared.SlaveRows.{SlaveRows}
use Rattle.frame.specs.declared.Setup.{Setup}
use Rattle.frame.specs.declared.RowKind.{RowKind}
use Rattle.frame.specs.declared.RowKind.TheVariants.{Levels, Slaves}
use Rattle.frame.specs.Frame.{no_level, no_slave, rows_present}
use Rattle.frame.specs.Kind.{row_size, with_levels, with_slaves, no_rows, with_count, row_count, put_row}
use Rattle.frame.proofs.KindLaws.{
  no_rows_wide,
  Wide,
  HasRow,
  count_has,
  put_wide,
  count_wide,
  put_count,
  counted,
  put_has,
  put_apart,
  put_keeps,
}
use Rattle.image.specs.Layout.{layout_number, newest_edition, row_numbers, rows_numbers, counted_numbers, head_numbers, setup_numbers}
use Rattle.image.specs.Read.{Read, rows_at, counted_at, tables_at, head_at, setup_at}
use Rattle.image.proofs.RowLaws.{row_many}

-- a table's first rows, as many as its count, and nothing in the places behind them
abbrev pub tidy : {A : Type 0} → A → ℕ → List A → List A
tidy none count rows = take count rows ++ replicate (rows_most - count) none

abbrev pub tidy_levels : LevelRows → LevelRows
tidy_levels levels = record { rows = tidy no_level levels.count levels.rows; count = levels.count }

abbrev pub tidy_slaves : SlaveRows → SlaveRows
tidy_slaves slaves = record { rows = tidy no_slave slaves.count slaves.rows; count = slaves.count }

-- The set-up with nothing behind its counts: the same rows up to them, and zeros in the places behind.
abbrev pub tidied : Setup → Setup
tidied setup = record { levels = tidy_levels setup.levels; slaves = tidy_slaves setup.slaves; master = setup.master }

-- the rows of a tidy table, by their indices
module _ {A : Type 0} (none : A) (count : ℕ) (rows : List A) (few : count ≤ rows_most) (wide : length rows ≡ rows_most) where
  first_count : length (take count rows) ≡ count
  first_count = length-take-le count rows (omega arith)

  pub tidy_length : length (tidy none count rows) ≡ rows_most
  tidy_length =
      length-append (take count rows) (replicate (rows_most - count) none)
      ∙ omega (arith, first_count, length-replicate (rows_most - count) none)

  pub tidy_row : (j : ℕ) → j < count → get_or (tidy none count rows) j none ≡ get_or rows j none
  tidy_row j h =
      get_or-append (take count rows) (replicate (rows_most - count) none) none j (omega (arith, first_count))
      ∙ get_or-take count rows j none h

  pub tidy_none : (j : ℕ) → count ≤ j → get_or (tidy none count rows) j none ≡ none
  tidy_none j h =
      let k : j ≡ length (take count rows) + (j - count) = omega (arith, first_count) in
      ap (λ (i : ℕ). get_or (tidy none count rows) i none) k
      ∙ get_or-append-add (take count rows) (replicate (rows_most - count) none) (j - count) none
      ∙ replicate_at (rows_most - count) (j - count) none

  -- a table that has the rows below the count and nothing from there on
  tidy_is : (own : List A) → length own ≡ rows_most → ((j : ℕ) → j < count → get_or own j none ≡ get_or rows j none)
      → ((j : ℕ) → count ≤ j → get_or own j none ≡ none)
      → own ≡ tidy none count rows
  tidy_is own n same rest =
      ext_get_or none own (tidy none count rows) (n ∙ sym tidy_length) (λ j h.
      by_test (ltb j count)
      (λ t. let l = ltb-true j count t in same j l ∙ sym (tidy_row j l))
      (λ f. let l = ltb-false j count f in rest j l ∙ sym (tidy_none j l)))

-- a set-up that was read, up to its end
abbrev up_to : Setup → ℕ → Read Setup
up_to setup end = Ok (setup, end)

-- a set-up with the tidy table of another, by the kind
abbrev with_tidy : RowKind → Setup → Setup → Setup
with_tidy Levels own setup = with_levels own (tidy_levels setup.levels)
with_tidy Slaves own setup = with_slaves own (tidy_slaves setup.slaves)

module _ (setup : Setup) (wide : Wide setup) (few : (kind : RowKind) → row_count setup kind ≤ rows_most) where
  -- of the rows of a kind the first i are the set-up's, and there are no others; the count is the set-up's
  record Laid (kind : RowKind) (i : ℕ) (own : Setup) : Type 0 where
    wide_own : Wide own
    count : row_count own kind ≡ row_count setup kind
    row : (j : ℕ) → j < i → HasRow own kind j (row_numbers setup kind j)
    none : (j : ℕ) → i ≤ j → HasRow own kind j []

  -- all of them
  laid_all : (kind : RowKind) (own : Setup) → Laid kind (row_count setup kind) own → own ≡ with_tidy kind own setup
  laid_all Levels own l =
      ap (with_levels own) (λ i. record {
        rows = tidy_is no_level setup.levels.count setup.levels.rows (few Levels) wide.levels
            own.levels.rows l.wide_own.levels l.row l.none i;
        count = l.count i;
      })
  laid_all Slaves own l =
      ap (with_slaves own) (λ i. record {
        rows = tidy_is no_slave setup.slaves.count setup.slaves.rows (few Slaves) wide.slaves
            own.slaves.rows l.wide_own.slaves l.row l.none i;
        count = l.count i;
      })

  -- a row more
  laid_on : (kind : RowKind) (i : ℕ) (own : Setup) → i < rows_most → Laid kind i own
      → Laid kind (i + 1) (put_row own kind i (row_numbers setup kind i))
  laid_on kind i own h l =
      let here = row_numbers setup kind i in
      record {
        wide_own = put_wide own kind i here l.wide_own;
        count = put_count own kind i here ∙ l.count;
        row = λ j k.
            by_test (ltb j i)
            (λ t. let b = ltb-true j i t in put_keeps own kind i j here (row_numbers setup kind j) b (l.row j b))
            (λ f. let b : j ≡ i = omega (arith, ltb-false j i f) in rw b (put_has own kind i here l.wide_own h));
        none = λ j k. put_apart own kind i j here [] (omega arith) (l.none j (omega arith));
      }

  -- what is put or counted before a tidy table is laid over it is gone
  put_tidy : (kind : RowKind) (i : ℕ) (own : Setup) (row : List ℕ) → with_tidy kind (put_row own kind i row) setup ≡ with_tidy kind own setup
  put_tidy Levels i own row = refl
  put_tidy Slaves i own row = refl

  count_tidy : (kind : RowKind) (own : Setup) (n : ℕ) → with_tidy kind (with_count own kind n) setup ≡ with_tidy kind own setup
  count_tidy Levels own n = refl
  count_tidy Slaves own n = refl

  module _ (src : Reading) where
    -- `left` rows from row i on
    rows_read_lem : (kind : RowKind) (left i : ℕ) (own : Setup) (at : ℕ) {end : ℕ} → i + left ≡ row_count setup kind → Laid kind i own
        → Spells src at (rows_numbers setup kind left i) end
        → rows_at kind src left i own at ≡ Ok (with_tidy kind own setup, end)
    rows_read_lem kind zero i own at all l s =
        let last : i ≡ row_count setup kind = omega arith in
        ap₂ (λ (x : Setup) (e : ℕ). up_to x e) (laid_all kind own (rw last at l)) (spells_none s)
    rows_read_lem kind (suc left) i own at {end} all l s =
        let here = row_numbers setup kind i in
        let t = spells_split here s in
        let n = row_many setup kind i in
        let good : passed src (row_size kind) at ≡ Ok t.0 = rw n at (spelt_passed t.1) in
        let row : numbers src (row_size kind) at ≡ here = rw n at (spelt_numbers t.1) in
        rw (good, row)
        (rows_read_lem kind left (i + 1) (put_row own kind i here) t.0 (omega arith) (laid_on kind i own (omega (arith, few kind)) l) t.2
        ∙ ap (λ (x : Setup). up_to x end) (put_tidy kind i own here))

    -- a table, read into a set-up that has no rows of its kind
    counted_read : (kind : RowKind) (own : Setup) (at : ℕ) {end : ℕ} → Wide own → ((j : ℕ) → HasRow own kind j [])
        → Spells src at (counted_numbers setup kind) end
        → counted_at kind src own at ≡ Ok (with_tidy kind own setup, end)
    unfolding counted_at
    counted_read kind own at {end} w empty s =
        let n = row_count setup kind in
        let f = spells_first s in
        let present : rows_present n ≡ n = omega (arith, few kind) in
        let begun : Laid kind 0 (with_count own kind n) = record {
          wide_own = count_wide own kind n w;
          count = counted own kind n;
          row = λ j h. absurd (omega arith);
          none = λ j h. count_has own kind n j [] (empty j);
        } in
        rw (ranged_by src 0 rows_most (refusal_by 18) at f.1 (omega arith) (few kind))
        (rows_read_lem kind n 0 (with_count own kind n) f.0 (zero-add n) begun (spells_as (ap (λ (k : ℕ). rows_numbers setup kind k 0) present) f.2)
        ∙ ap (λ (x : Setup). up_to x end) (count_tidy kind own n))

    -- both tables and the length of the master store
    tables_read : (at : ℕ) {end : ℕ} → Spells src at ((counted_numbers setup Levels ++ counted_numbers setup Slaves) ++ (setup.master ∷ [])) end
        → tables_at src at ≡ Ok (tidied setup, end)
    unfolding tables_at
    tables_read at s =
        let b = spells_split (counted_numbers setup Levels ++ counted_numbers setup Slaves) s in
        let t = spells_split (counted_numbers setup Levels) b.1 in
        let m = spells_first b.2 in
        let levels = counted_read Levels no_rows at no_rows_wide (λ j. replicate_at rows_most j no_level) t.1 in
        let w : Wide (with_tidy Levels no_rows setup) = record {
          levels = tidy_length no_level setup.levels.count setup.levels.rows (few Levels) wide.levels;
          slaves = refl;
        } in
        let slaves = counted_read Slaves (with_tidy Levels no_rows setup) t.0 w (λ j. replicate_at rows_most j no_slave) t.2 in
        rw (levels, slaves, m.1, spells_none m.2)

    -- a sheet's head, and the length of the master store
    head_read_lem : (at : ℕ) {end : ℕ} → Spells src at (head_numbers setup ++ (setup.master ∷ [])) end
        → head_at src at ≡ Ok (tidied setup, end)
    unfolding head_at head_numbers
    head_read_lem at s =
        let f = spells_first s in
        rw (ranged_by src newest_edition newest_edition (refusal_by 18) at f.1 (omega arith) (omega arith)) (tables_read f.0 f.2)

    -- A set-up.
    pub setup_read : {end : ℕ} → Spells src 0 (setup_numbers setup) end → setup_at src ≡ Ok (tidied setup, end)
    unfolding setup_at setup_numbers
    setup_read s =
        let f = spells_first s in
        rw (ranged_by src layout_number layout_number (refusal_by 18) 0 f.1 (omega arith) (omega arith)) (head_read_lem f.0 f.2)
