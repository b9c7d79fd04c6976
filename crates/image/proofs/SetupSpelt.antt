-- A good part of a set-up is spelt by the numbers of the set-up that was read from it: rows, tables, a head, the whole. And of what was read the counts have
-- room, and the tables have their places. Assumes nothing.
use Prim.Native.Nat.{ℕ, zero, suc, ◌+◌, ◌≤◌, ◌<◌}
use mathlib.Core.Path.{◌≡◌, refl, sym, ◌∙◌}
use mathlib.Core.List.{List, [], ◌∷◌, ◌++◌}
use native.Mathlib.Omega.{arith}
use Rattle.basics.specs.Limits.{rows_most}
use Rattle.refusal.specs.Refusal.{refusal_by}
use Rattle.number.specs.Number.{Number}
use Rattle.numbers.specs.Numbers.{Reading, passed, numbers}
use Rattle.numbers.proofs.Laws.{in_range_lem}
use Rattle.numbers.proofs.Spelt.{Spells, spells_one, spells_as, spells_append, passed_spells, passed_many}
use Rattle.numbers.proofs.Spelt.Spells.{done, then}
use Rattle.frame.specs.declared.Setup.{Setup}
use Rattle.frame.specs.declared.RowKind.{RowKind}
use Rattle.frame.specs.declared.RowKind.TheVariants.{Levels, Slaves}
use Rattle.frame.specs.Frame.{rows_present}
use Rattle.frame.specs.Kind.{row_size, no_rows, with_count, row_count, put_row}
use Rattle.frame.proofs.KindLaws.{
  by_kind,
  other_kind,
  no_rows_wide,
  Wide,
  SameRows,
  counted,
  put_count,
  put_wide,
  count_wide,
  same_refl,
  same_then,
  put_others,
  count_others,
}
use Rattle.image.specs.Layout.{layout_number, newest_edition, row_numbers, rows_numbers, counted_numbers, head_numbers, setup_numbers}
use Rattle.image.specs.Read.{number_in, rows_at, counted_at, tables_at, head_at, with_master, setup_at}
use Rattle.image.proofs.Told.{Told, at_told, then_told}
use Rattle.image.proofs.RowLaws.{put_numbers, put_before, count_same, counted_same}

-- another length of the master store leaves the rows
module _ (setup : Setup) (length : ℕ) where
  master_counted : (kind : RowKind) → counted_numbers setup kind ≡ counted_numbers (with_master setup length) kind
  master_counted = by_kind _ (counted_same setup (with_master setup length) Levels refl) (counted_same setup (with_master setup length) Slaves refl)

  master_few : ((kind : RowKind) → row_count setup kind ≤ rows_most) → (kind : RowKind) → row_count (with_master setup length) kind ≤ rows_most
  master_few h = by_kind _ (h Levels) (h Slaves)

  master_wide : Wide setup → Wide (with_master setup length)
  master_wide w = record { levels = w.levels; slaves = w.slaves }

module _ (src : Reading) where
  -- `left` rows from row i on, read into the set-up `first`
  record RowsTold (kind : RowKind) (left i at : ℕ) (first setup : Setup) (end : ℕ) : Type 0 where
    spelt : Spells src at (rows_numbers setup kind left i) end
    before : (j : ℕ) → j < i → row_numbers setup kind j ≡ row_numbers first kind j
    wide : Wide setup
    count : row_count setup kind ≡ row_count first kind
    others : (other : RowKind) → (kind ≡ other → ⊥) → SameRows setup first other

  rows_told : (kind : RowKind) (left i : ℕ) (first : Setup) (at : ℕ) → Wide first → i + left ≤ rows_most
      → Told (RowsTold kind left i at first) (rows_at kind src left i first at)
  rows_told kind zero i first at w few =
      at_told (RowsTold kind zero i at first) (first, at)
      (record { spelt = done; before = λ j h. refl; wide = w; count = refl; others = λ other n. same_refl first other })
  rows_told kind (suc left) i first at w few =
      let row = numbers src (row_size kind) at in
      let more = put_row first kind i row in
      then_told (RowsTold kind (suc left) i at first) (passed src (row_size kind) at) _ (λ next e x g.
      let rest = rows_told kind left (i + 1) more next (put_wide first kind i row w) (omega arith) x g in
      let here = rest.before i (omega arith) ∙ put_numbers first kind i row w (omega arith) (passed_many src (row_size kind) at e) in
      record {
        spelt = rw here (spells_append (passed_spells src (row_size kind) at e) rest.spelt);
        before = λ j h. rest.before j (omega arith) ∙ put_before first kind i j row h;
        wide = rest.wide;
        count = rest.count ∙ put_count first kind i row;
        others = λ other n. same_then x.0 more first other (rest.others other n) (put_others first kind other i row n);
      })

  -- the count and the rows
  record CountedTold (kind : RowKind) (at : ℕ) (first setup : Setup) (end : ℕ) : Type 0 where
    spelt : Spells src at (counted_numbers setup kind) end
    few : row_count setup kind ≤ rows_most
    wide : Wide setup
    others : (other : RowKind) → (kind ≡ other → ⊥) → SameRows setup first other

  counted_told : (kind : RowKind) (first : Setup) (at : ℕ) → Wide first → Told (CountedTold kind at first) (counted_at kind src first at)
  unfolding counted_at
  counted_told kind first at w =
      then_told (CountedTold kind at first) (number_in src 0 rows_most at) _ (λ count e x g.
      let n = count.0 in
      let r = in_range_lem src 0 rows_most (refusal_by 18) at e in
      let begun = with_count first kind n in
      let rest = rows_told kind n 0 begun count.1 (count_wide first kind n w) (omega (arith, r.most)) x g in
      let setup = x.0 in
      let own : row_count setup kind ≡ n = rest.count ∙ counted first kind n in
      let present : rows_present (row_count setup kind) ≡ n = omega (arith, r.most, own) in
      record {
        spelt = rw (present, own) (then r.stands rest.spelt);
        few = omega (arith, r.most, own);
        wide = rest.wide;
        others = λ other d. same_then setup begun first other (rest.others other d) (count_others first kind other n d);
      })

  -- what was read is spelt by its numbers, or by those of the parts that were read; its counts have room, and its tables have their places
  pub record SetupTold (parts : Setup → List ℕ) (at : ℕ) (setup : Setup) (end : ℕ) : Type 0 where
    pub spelt : Spells src at (parts setup) end
    pub few : (kind : RowKind) → row_count setup kind ≤ rows_most
    pub wide : Wide setup

  -- both tables and the length of the master store
  abbrev table_numbers : Setup → List ℕ
  table_numbers setup = (counted_numbers setup Levels ++ counted_numbers setup Slaves) ++ (setup.master ∷ [])

  tables_told : (at : ℕ) → Told (SetupTold table_numbers at) (tables_at src at)
  unfolding tables_at
  tables_told at =
      then_told (SetupTold table_numbers at) (counted_at Levels src no_rows at) _ (λ levels e.
      then_told (SetupTold table_numbers at) (counted_at Slaves src levels.0 levels.1) _ (λ both f.
      then_told (SetupTold table_numbers at) (src both.1) _ (λ length r.
      let l = counted_told Levels no_rows at no_rows_wide levels e in
      let s = counted_told Slaves levels.0 levels.1 l.wide both f in
      let same : both.0.levels ≡ levels.0.levels = s.others Levels other_kind in
      let upper = spells_as (sym (counted_same both.0 levels.0 Levels same)) l.spelt in
      let few = by_kind (λ kind. row_count both.0 kind ≤ rows_most)
      (omega (arith, l.few, count_same both.0 levels.0 Levels same)) s.few in
      at_told (SetupTold table_numbers at) (with_master both.0 length.0, length.1)
      (record {
        spelt = spells_append
            (spells_append (spells_as (master_counted both.0 length.0 Levels) upper) (spells_as (master_counted both.0 length.0 Slaves) s.spelt))
            (spells_one r);
        few = master_few both.0 length.0 few;
        wide = master_wide both.0 length.0 s.wide;
      }))))

  -- a number for which there is room for one value only
  only : (v at : ℕ) {w next : ℕ} → number_in src v v at ≡ Number w next → src at ≡ Number v next
  only v at {w} e =
      let r = in_range_lem src v v (refusal_by 18) at e in
      let same : w ≡ v = omega (arith, r.least, r.most) in
      rw same at r.stands

  -- a sheet's head, and the length of the master store
  abbrev head_and_master : Setup → List ℕ
  head_and_master setup = head_numbers setup ++ (setup.master ∷ [])

  head_told : (at : ℕ) → Told (SetupTold head_and_master at) (head_at src at)
  unfolding head_at head_numbers
  head_told at =
      then_told (SetupTold head_and_master at) (number_in src newest_edition newest_edition at) _ (λ edition e x g.
      let t = tables_told edition.1 x g in
      record { spelt = then (only newest_edition at e) t.spelt; few = t.few; wide = t.wide })

  -- A set-up, and what was read of it.
  pub setup_told : Told (SetupTold setup_numbers 0) (setup_at src)
  unfolding setup_at setup_numbers
  setup_told =
      then_told (SetupTold setup_numbers 0) (number_in src layout_number layout_number 0) _ (λ layout e x g.
      let t = head_told layout.1 x g in
      record { spelt = then (only layout_number 0 e) t.spelt; few = t.few; wide = t.wide })
