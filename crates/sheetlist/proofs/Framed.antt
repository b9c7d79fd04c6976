-- The set-up of a valid list keeps the frame, its rows are the list's, and its events begin after them. Assumes nothing.
use Prim.Native.Nat.{ℕ, zero, suc, ◌+◌, ◌*◌, ◌≤◌, ◌<◌}
use mathlib.Core.Path.{◌≡◌, refl, sym, ap, ◌∙◌}
use mathlib.Core.Bool.{Bool, true, false, cond, ◌&&◌}
use mathlib.Core.List.{List}
use mathlib.Core.Logic.{⊎_elim}
use native.Mathlib.Nat.{suc-mul, zero-mul, zero-add, eq-or-lt_of_le, le_of_suc-le-suc}
use native.Mathlib.Numerals.{add-one}
use native.Mathlib.Omega.{arith}
use borrow.Author.Tests.{le-leb}
use lib.ListN.{length, get_or, take}
use Rattle.std.specs.Prelude.{Ok, Err}
use Rattle.basics.specs.Limits.{rows_most, store_most}
use Rattle.basics.specs.Scan.{all_below}
use Rattle.basics.proofs.ScanLaws.{all_intro}
use Rattle.basics.proofs.Tests.{and_both}
use Rattle.refusal.specs.declared.Refusal.TheVariants.{BadEdition}
use Rattle.number.specs.declared.Fault.{Fault}
use Rattle.number.specs.Number.{fault, Bytes}
use Rattle.numbers.specs.Numbers.{Part, list_at, number_between, passed, numbers, numbers_of}
use Rattle.numbers.proofs.Laws.{in_range_lem, stands}
use Rattle.numbers.proofs.Parts.{no_good, with_good}
use Rattle.frame.specs.declared.Setup.{Setup}
use Rattle.frame.specs.declared.RowKind.{RowKind}
use Rattle.frame.specs.declared.RowKind.TheVariants.{Levels, Slaves}
use Rattle.frame.specs.declared.LevelRows.{LevelRows}
use Rattle.frame.specs.Frame.{level_at, slave_at, is_row_count, is_master_length, levels_fit, slaves_fit, is_framed}
use Rattle.frame.specs.Kind.{row_size, level_from, slave_from, no_rows, with_count, row_count, put_row, row_fits}
use Rattle.frame.proofs.KindLaws.{
  other_kind,
  Wide,
  HasRow,
  SameRows,
  steady,
  counted,
  put_count,
  no_rows_wide,
  put_wide,
  count_wide,
  put_has,
  put_keeps,
  same_refl,
  same_then,
  put_others,
  count_others,
}
use Rattle.sheet.specs.declared.RowsRead.{RowsRead}
use Rattle.sheet.specs.Sheet.{bad_rows, rows_read, rows_from, counted_rows, head, head_of, counted_events, sheet, read_sheet, read_sheet_after}
use Rattle.sheet.proofs.Calls.{read_list}
use Rattle.sheet.proofs.Parts.{sheet_parts, head_parts, then_rows_good, with_rows_good}
use Rattle.sheetlist.specs.Held.{setup_of, events_from}

good_one : {a b : ℕ} → ◌≡◌ {A = Part} (Ok a) (Ok b) → a ≡ b
good_one e = cc

part_of : {a b : RowsRead} {end : ℕ} → a ≡ b → a.part ≡ Ok end → b.part ≡ Ok end
part_of e p = sym (ap (λ (r : RowsRead). r.part) e) ∙ p

fit_good : (b : Bool) (x : RowsRead) (setup : Setup) (f : Fault) {end : ℕ} → (cond b x (rows_read setup (Err f))).part ≡ Ok end
    → (b ≡ true) × (cond b x (rows_read setup (Err f)) ≡ x)
fit_good true x setup f e = (refl, refl)
fit_good false x setup f e = no_good e

module _ (list : List ℕ) where
  -- numbers in a row
  pub passed_listed : (n at : ℕ) {next : ℕ} → passed (list_at list) n at ≡ Ok next → next ≡ at + n
  passed_listed zero at {next} e = let a : at ≡ next = cc in omega arith
  passed_listed (suc n) at e =
      let w = with_good (list_at list at) (λ v to. passed (list_at list) n to) e in
      let s = stands list at w.2 in
      omega (arith, passed_listed n w.1 w.3, s.next_is)

  -- the rows of a kind that were read from the index `from` on, into the set-up `first`: as many as i of them
  module _ (kind : RowKind) (first : Setup) (from : ℕ) where
    record Held (i : ℕ) (setup : Setup) : Type 0 where
      wide : Wide setup
      count : row_count setup kind ≡ row_count first kind
      others : (other : RowKind) → (kind ≡ other → ⊥) → SameRows setup first other
      fit : (j : ℕ) → j < i → row_fits setup kind j ≡ true
      row : (j : ℕ) → j < i → HasRow setup kind j (numbers (list_at list) (row_size kind) (from + j * row_size kind))

    one_more : (i : ℕ) (setup : Setup) → Held i setup → i < rows_most
        → row_fits (put_row setup kind i (numbers (list_at list) (row_size kind) (from + i * row_size kind))) kind i ≡ true
        → Held (suc i) (put_row setup kind i (numbers (list_at list) (row_size kind) (from + i * row_size kind)))
    one_more i setup h few fits =
        let row = numbers (list_at list) (row_size kind) (from + i * row_size kind) in
        record {
          wide = put_wide setup kind i row h.wide;
          count = put_count setup kind i row ∙ h.count;
          others = λ other n.
              same_then (put_row setup kind i row) setup first other (put_others setup kind other i row n) (h.others other n);
          fit = λ j l. ⊎_elim (λ e. rw e fits) (λ k. steady setup kind i j row k ∙ h.fit j k) (eq-or-lt_of_le (le_of_suc-le-suc l));
          row = λ j l. ⊎_elim (λ e. rw e (put_has setup kind i row h.wide few))
              (λ k. put_keeps setup kind i j row (numbers (list_at list) (row_size kind) (from + j * row_size kind)) k (h.row j k))
              (eq-or-lt_of_le (le_of_suc-le-suc l));
        }

    -- `r` is what the rows left give
    rows_held : (left i n : ℕ) (setup : Setup) (at : ℕ) (r : RowsRead) {end : ℕ} → r ≡ rows_from kind (list_at list) left i setup at
        → at ≡ from + i * row_size kind → n ≡ i + left → n ≤ rows_most → Held i setup → r.part ≡ Ok end
        → Held n r.setup × (end ≡ from + n * row_size kind)
    rows_held zero i n setup at r {end} e here all few h p =
        let same : i ≡ n = omega arith in
        let stop : at ≡ end = good_one (part_of e p) in
        (rw (e, ← same) h, rw (← same) (sym stop ∙ here))
    rows_held (suc left) i n setup at r {end} e here all few h p =
        let row = numbers (list_at list) (row_size kind) at in
        let more = put_row setup kind i row in
        let a = then_rows_good (passed (list_at list) (row_size kind) at) setup _ (part_of e p) in
        let b = fit_good (row_fits more kind i) _ more (fault (bad_rows kind) at) (part_of (e ∙ a.2) p) in
        let next : a.0 ≡ from + suc i * row_size kind = omega (arith, passed_listed (row_size kind) at a.1, suc-mul i (row_size kind)) in
        let on = ap (λ (k : ℕ). rows_from kind (list_at list) left k more a.0) (add-one i) in
        rows_held left (suc i) n more a.0 r (e ∙ a.2 ∙ b.1 ∙ on) next (omega arith) few
        (rw here (one_more i setup h (omega arith) (rw here at b.0))) p

  -- a section that was judged: its count, its rows, and where it ends
  record Section (kind : RowKind) (first : Setup) (at end : ℕ) (setup : Setup) : Type 0 where
    few : is_row_count (get_or list at 0) ≡ true
    most : get_or list at 0 ≤ rows_most
    count : row_count setup kind ≡ get_or list at 0
    wide : Wide setup
    others : (other : RowKind) → (kind ≡ other → ⊥) → SameRows setup first other
    fit : (j : ℕ) → j < get_or list at 0 → row_fits setup kind j ≡ true
    row : (j : ℕ) → j < get_or list at 0 → HasRow setup kind j (numbers (list_at list) (row_size kind) (at + 1 + j * row_size kind))
    ends : end ≡ at + 1 + get_or list at 0 * row_size kind

  section_held : (kind : RowKind) (first : Setup) (at : ℕ) (r : RowsRead) {end : ℕ} → Wide first → r ≡ counted_rows kind (list_at list) first at
      → r.part ≡ Ok end → Section kind first at end r.setup
  unfolding counted_rows is_row_count
  section_held kind first at r {end} wide e p =
      let src = list_at list in
      let w = with_rows_good (number_between src 1 rows_most (bad_rows kind) at) first
      (λ n next. rows_from kind src n 0 (with_count first kind n) next) (part_of e p) in
      let g = in_range_lem src 1 rows_most (bad_rows kind) at w.2 in
      let s = stands list at g.stands in
      let n = get_or list at 0 in
      let begun = with_count first kind n in
      let rows : r ≡ rows_from kind src n 0 begun (at + 1) = rw (s.value, s.next_is) at (e ∙ w.3) in
      let start : at + 1 ≡ at + 1 + 0 * row_size kind = omega (arith, zero-mul (row_size kind)) in
      let none : Held kind begun (at + 1) 0 begun = record {
        wide = count_wide first kind n wide;
        count = refl;
        others = λ other d. same_refl begun other;
        fit = λ j l. absurd (omega arith);
        row = λ j l. absurd (omega arith);
      } in
      let h = rows_held kind begun (at + 1) n 0 n begun (at + 1) r rows start (sym (zero-add n)) (omega (arith, g.most, s.value)) none p in
      record {
        few = and_both _ _ (le-leb 1 n (omega (arith, g.least, s.value))) (le-leb n rows_most (omega (arith, g.most, s.value)));
        most = omega (arith, g.most, s.value);
        count = h.0.count ∙ counted first kind n;
        wide = h.0.wide;
        others = λ other d. same_then r.setup begun first other (h.0.others other d) (count_others first kind other n d);
        fit = h.0.fit;
        row = h.0.row;
        ends = h.1;
      }

  -- the whole table of a section passes the frame's test of a count and of every row
  whole_fits : (kind : RowKind) {first : Setup} {at end : ℕ} (setup : Setup) → Section kind first at end setup
      → (is_row_count (row_count setup kind) && all_below (row_fits setup kind) (row_count setup kind)) ≡ true
  whole_fits kind {at = at} setup s =
      rw s.count (and_both (is_row_count (get_or list at 0)) _ s.few (all_intro (row_fits setup kind) (get_or list at 0) s.fit))

  -- the level rows with the slave rows after them, and where the slave count and the event count stand
  pub record Places (end : ℕ) : Type 0 where
    pub second : ℕ
    levels : Setup
    level_rows_lem : Section Levels no_rows 1 second levels
    slave_rows_lem : Section Slaves levels second (events_from list) (head_of list).setup
    events_good : counted_events (list_at list) (events_from list) ≡ Ok end
    whole : length list ≤ end

  places : {end : ℕ} → sheet (list_at list) (length list) ≡ Ok end → Places end
  unfolding events_from head_of
  places {end} g =
      let src = list_at list in
      let p = sheet_parts src (length list) g in
      let first : p.first ≡ 1 = omega (arith, (stands list 0 (in_range_lem src 1 1 BadEdition 0 p.edition_good).stands).next_is) in
      let good : (head src 1).part ≡ Ok p.third = rw first at p.head_good in
      let h = head_parts src 1 good in
      let levels = counted_rows Levels src no_rows 1 in
      let l = section_held Levels no_rows 1 levels no_rows_wide refl h.levels_good in
      let s = section_held Slaves levels.setup h.second (head src 1) l.wide h.whole good in
      record {
        second = h.second;
        levels = levels.setup;
        level_rows_lem = l;
        slave_rows_lem = rw good s;
        events_good = rw good p.events_good;
        whole = p.whole;
      }

  pub events_placed : {end : ℕ} → sheet (list_at list) (length list) ≡ Ok end → counted_events (list_at list) (events_from list) ≡ Ok end
  events_placed g = (places g).events_good

  -- The set-up of a valid list keeps the frame, for every master length of 1 to 65,536.
  pub setup_framed : (master : ℕ) {end : ℕ} → sheet (list_at list) (length list) ≡ Ok end → 1 ≤ master → master ≤ store_most
      → is_framed (setup_of list master) ≡ true
  unfolding is_framed is_master_length levels_fit slaves_fit setup_of
  setup_framed master g low high =
      let p = places g in
      let levels : levels_fit (head_of list).setup.levels ≡ true =
      rw (p.slave_rows_lem.others Levels other_kind) (whole_fits Levels p.levels p.level_rows_lem) in
      and_both _ _ levels
      (and_both _ _ (whole_fits Slaves (head_of list).setup p.slave_rows_lem) (and_both _ _ (le-leb 1 master low) (le-leb master store_most high)))

  -- the counts, where they stand, and the rows by their indices
  abbrev pub level_count : ℕ
  level_count = get_or list 1 0

  abbrev pub slaves_from : ℕ
  slaves_from = 2 + level_count * 3

  abbrev pub slave_count : ℕ
  slave_count = get_or list slaves_from 0

  pub record Indexed : Type 0 where
    pub levels : (head_of list).setup.levels.count ≡ level_count
    pub level : (j : ℕ) → j < level_count → level_at (head_of list).setup.levels j ≡ level_from (numbers (list_at list) 3 (2 + j * 3))
    pub slaves : (head_of list).setup.slaves.count ≡ slave_count
    pub slave : (j : ℕ) → j < slave_count
        → slave_at (head_of list).setup.slaves j ≡ slave_from (numbers (list_at list) 5 (slaves_from + 1 + j * 5))
    pub events : events_from list ≡ slaves_from + 1 + slave_count * 5

  pub indexed : {end : ℕ} → sheet (list_at list) (length list) ≡ Ok end → Indexed
  indexed g =
      let p = places g in
      let same = p.slave_rows_lem.others Levels other_kind in
      let second : p.second ≡ slaves_from = p.level_rows_lem.ends in
      let slave_rows_lem : Section Slaves p.levels slaves_from (events_from list) (head_of list).setup = rw second at p.slave_rows_lem in
      record {
        levels = ap (λ (t : LevelRows). t.count) same ∙ p.level_rows_lem.count;
        level = λ j h. ap (λ (t : LevelRows). level_at t j) same ∙ p.level_rows_lem.row j h;
        slaves = slave_rows_lem.count;
        slave = slave_rows_lem.row;
        events = slave_rows_lem.ends;
      }

-- What was read from a sheet holds a set-up that keeps the frame.
pub read_framed : (bytes out : List ℕ) (master : ℕ) {n : ℕ} → Bytes bytes → read_sheet bytes (length out) ≡ Ok n → 1 ≤ master
    → master ≤ store_most
    → is_framed (setup_of (take n (read_sheet_after bytes out)) master) ≡ true
read_framed bytes out master y e low high =
    let r = read_list bytes out y e in
    rw r.list_is (setup_framed (numbers_of bytes) master r.list_valid low high)
