-- A valid sheet has at most 31,960 bytes. A level row has 3; a slave row 10, and one more where its length has three
-- bytes, which at most three of sixteen rows can have; an event at most 31. Assumes nothing.
use Prim.Native.Nat.{ℕ, zero, suc, ◌+◌, ◌*◌, ◌≤◌, ◌<◌}
use mathlib.Core.Path.{◌≡◌, refl, ap, ◌∙◌}
use mathlib.Core.Bool.{true}
use mathlib.Core.List.{List}
use native.Mathlib.Omega.{arith}
use borrow.Author.Tests.{ltb-true, ltb-false}
use lib.ListN.{length, get_or}
use lib.Dec.{ltb}
use Rattle.std.specs.Prelude.{Ok}
use Rattle.basics.specs.Limits.{rows_most, store_most}
use Rattle.basics.proofs.Tests.{by_test}
use Rattle.cycle.proofs.Widths.{width_some, port_some}
use Rattle.number.specs.Number.{bytes_of, read_number, Bytes}
use Rattle.number.proofs.Laws.{bytes_most}
use Rattle.number.proofs.SizeLaws.{tops, size_below}
use Rattle.frame.specs.declared.SlaveRow.{SlaveRow}
use Rattle.frame.specs.Frame.{slave_at, rows_present, lengths_before, levels_fit, slaves_fit}
use Rattle.frame.specs.Find.{slave_store_length}
use Rattle.frame.proofs.FrameLaws.{LevelFacts, SlaveFacts, level_count_lem, level_row_facts, limit_most, framed_levels, framed_slaves}
use Rattle.frame.proofs.SlaveLaws.{slave_count_lem, slave_row_facts, row_inside, store_most_lem}
use Rattle.numbers.specs.Numbers.{list_at, numbers, numbers_of, all_bytes}
use Rattle.numbers.proofs.Laws.{in_range_lem, stands}
use Rattle.numbers.proofs.RoundTrip.{place, place_on, place_end}
use Rattle.frame.specs.declared.LevelRows.{LevelRows}
use Rattle.frame.specs.declared.SlaveRows.{SlaveRows}
use Rattle.frame.specs.Kind.{level_from, slave_from}
use Rattle.sheet.specs.Sheet.{head_of, sheet}
use Rattle.refusal.specs.declared.Refusal.TheVariants.{BadEdition}
use Rattle.sheet.proofs.Parts.{sheet_parts}
use Rattle.sheet.proofs.RoundTrip.{bytes_back}
use Rattle.sheet.proofs.Calls.{list_good}
use Rattle.sheetlist.specs.Held.{events_from, event_count, setup_of, is_steps, event_from}
use Rattle.sheetlist.proofs.HeldLaws.{listed_at, listed_first}
use Rattle.sheetlist.proofs.Framed.{Indexed, level_count, slaves_from, slave_count, indexed, setup_framed}
use Rattle.sheetlist.proofs.EventLaws.{event_each, few_events, events_end, next_steps, next_post}

module _ (list : List ℕ) where
  -- one number on in the bytes: at most five, and fewer for a small number
  grows_any : (i next : ℕ) → next ≡ i + 1 → place list next ≤ place list i + length (bytes_of (get_or list i 0))
  grows_any i next e =
      by_test (ltb i (length list))
      (λ t. rw e (omega (arith, place_on list i (ltb-true i (length list) t))))
      (λ f.
      let h = ltb-false i (length list) f in
      let k : length list ≤ next = omega arith in
      omega (arith, place_end list i h, place_end list next k))

  grows : (j i next : ℕ) → j ≤ 4 → next ≡ i + 1 → get_or list i 0 < tops j → place list next ≤ place list i + (j + 1)
  grows j i next l e v = omega (arith, grows_any i next e, size_below j (get_or list i 0) l v)

  grows_five : (i next : ℕ) → next ≡ i + 1 → place list next ≤ place list i + 5
  grows_five i next e = omega (arith, grows_any i next e, bytes_most (get_or list i 0))

  abbrev levels_of : LevelRows
  levels_of = (head_of list).setup.levels

  abbrev slaves_of : SlaveRows
  slaves_of = (head_of list).setup.slaves

  module _ {end : ℕ} (valid : sheet (list_at list) (length list) ≡ Ok end) where
    levels_framed : levels_fit levels_of ≡ true
    unfolding setup_of
    levels_framed = framed_levels (setup_of list 1) (setup_framed list 1 valid (omega arith) (omega arith))

    slaves_framed : slaves_fit slaves_of ≡ true
    unfolding setup_of
    slaves_framed = framed_slaves (setup_of list 1) (setup_framed list 1 valid (omega arith) (omega arith))

    rows : Indexed list
    rows = indexed list valid

    few_levels : level_count list ≤ rows_most
    few_levels = omega (arith, level_count_lem levels_of levels_framed, rows.levels)

    few_slaves : slave_count list ≤ rows_most
    few_slaves = omega (arith, slave_count_lem slaves_of slaves_framed, rows.slaves)

    level_facts : (j : ℕ) → j < level_count list → LevelFacts (level_from (numbers (list_at list) 3 (2 + j * 3)))
    level_facts j h = rw (rows.level j h) at (level_row_facts levels_of levels_framed j (omega (arith, rows.levels)))

    slave_at_lem : (j : ℕ) → j < slave_count list → slave_at slaves_of j ≡ slave_from (numbers (list_at list) 5 (slaves_from list + 1 + j * 5))
    slave_at_lem j h = rows.slave j h

    -- the level rows
    levels_sized : (j : ℕ) → j ≤ level_count list → place list (2 + j * 3) ≤ 2 + j * 3
    unfolding place
    levels_sized zero h =
        let p = sheet_parts (list_at list) (length list) valid in
        let r = in_range_lem (list_at list) 1 1 BadEdition 0 p.edition_good in
        let s = stands list 0 r.stands in
        omega (
          arith,
          grows 0 0 1 (omega arith) refl (omega (arith, r.most, s.value)),
          grows 0 1 2 (omega arith) refl (omega (arith, few_levels)),
        )
    levels_sized (suc j) h =
        let at = 2 + j * 3 in
        let f = level_facts j h in
        omega (
          arith,
          levels_sized j (omega arith),
          grows 0 at (at + 1) (omega arith) refl (omega (arith, f.level, listed_first list 3 at (omega arith))),
          grows 0 (at + 1) (at + 2) (omega arith) (omega arith)
              (omega (arith, width_some (level_from (numbers (list_at list) 3 at)).width f.width, listed_at list 3 at 1 (omega arith))),
          grows 0 (at + 2) (2 + suc j * 3) (omega arith) (omega arith) (omega (arith, f.options, listed_at list 3 at 2 (omega arith))),
        )

    -- the slave rows: 10 bytes each, and one more for each length of 16,384 or more, which takes 16,380 more than the least length
    record Sized (j : ℕ) : Type 0 where
      long : ℕ
      lengths : 16380 * long + 4 * j ≤ lengths_before slaves_of j
      bytes : place list (slaves_from list + 1 + j * 5) ≤ place list (slaves_from list + 1) + 10 * j + long

    -- the numbers of slave row j, by their indices
    record SlaveNumbers (j at : ℕ) : Type 0 where
      space : get_or list at 0 < 128
      base : get_or list (at + 1) 0 < 268435456
      length_is : (slave_at slaves_of j).length ≡ get_or list (at + 2) 0
      least : 4 ≤ get_or list (at + 2) 0
      most : lengths_before slaves_of j + get_or list (at + 2) 0 ≤ store_most
      port : get_or list (at + 3) 0 < 128
      time : get_or list (at + 4) 0 < 16384

    slave_numbers_lem : (j : ℕ) → j < slave_count list → SlaveNumbers j (slaves_from list + 1 + j * 5)
    slave_numbers_lem j h =
        let at = slaves_from list + 1 + j * 5 in
        let row = slave_from (numbers (list_at list) 5 at) in
        let there : j < slaves_of.count = omega (arith, rows.slaves) in
        let f : SlaveFacts row = rw (slave_at_lem j h) at (slave_row_facts slaves_of slaves_framed j there) in
        let n0 : row.space ≡ get_or list at 0 = listed_first list 5 at (omega arith) in
        let n1 : row.base ≡ get_or list (at + 1) 0 = listed_at list 5 at 1 (omega arith) in
        let n2 : row.length ≡ get_or list (at + 2) 0 = listed_at list 5 at 2 (omega arith) in
        let n3 : row.port ≡ get_or list (at + 3) 0 = listed_at list 5 at 3 (omega arith) in
        let n4 : row.time ≡ get_or list (at + 4) 0 = listed_at list 5 at 4 (omega arith) in
        let own : (slave_at slaves_of j).length ≡ row.length = ap (λ (r : SlaveRow). r.length) (slave_at_lem j h) in
        record {
          space = omega (arith, f.space);
          base = omega (arith, f.end, limit_most row.space);
          length_is = own ∙ n2;
          least = omega (arith, f.some, f.length);
          most = omega (arith, row_inside slaves_of slaves_framed j there, store_most_lem slaves_of slaves_framed);
          port = omega (arith, port_some row.port f.port);
          time = omega (arith, f.slowest);
        }

    slave_sized : (j : ℕ) → SlaveNumbers j (slaves_from list + 1 + j * 5) → Sized j → Sized (suc j)
    unfolding lengths_before
    slave_sized j n s =
        let at = slaves_from list + 1 + j * 5 in
        let space = grows 0 at (at + 1) (omega arith) refl n.space in
        let base = grows 3 (at + 1) (at + 2) (omega arith) (omega arith) n.base in
        let port = grows 0 (at + 3) (at + 4) (omega arith) (omega arith) n.port in
        let time = grows 1 (at + 4) (slaves_from list + 1 + suc j * 5) (omega arith) (omega arith) n.time in
        by_test (ltb (get_or list (at + 2) 0) 16384)
        (λ t.
        let length = grows 1 (at + 2) (at + 3) (omega arith) (omega arith) (ltb-true (get_or list (at + 2) 0) 16384 t) in
        record {
          long = s.long;
          lengths = omega (arith, s.lengths, n.length_is, n.least);
          bytes = omega (arith, s.bytes, space, base, length, port, time);
        })
        (λ f.
        let length = grows 2 (at + 2) (at + 3) (omega arith) (omega arith) (omega (arith, n.most)) in
        record {
          long = s.long + 1;
          lengths = omega (arith, s.lengths, n.length_is, ltb-false (get_or list (at + 2) 0) 16384 f);
          bytes = omega (arith, s.bytes, space, base, length, port, time);
        })

    slaves_sized : (j : ℕ) → j ≤ slave_count list → Sized j
    unfolding lengths_before
    slaves_sized zero h =
        let same : place list (slaves_from list + 1 + 0 * 5) ≡ place list (slaves_from list + 1) = ap (place list) (omega arith) in
        record { long = 0; lengths = omega arith; bytes = omega arith }
    slaves_sized (suc j) h = slave_sized j (slave_numbers_lem j h) (slaves_sized j (omega arith))

    -- the events
    events_sized : (i : ℕ) → i ≤ event_count list → place list (event_from list i) ≤ place list (events_from list + 1) + 31 * i
    unfolding event_from
    events_sized zero h = omega arith
    events_sized (suc i) h =
        let at = event_from list i in
        let g = event_each list valid i h in
        let kind = grows 0 at (at + 1) (omega arith) refl (omega (arith, g.kind)) in
        let before = events_sized i (omega arith) in
        by_test (is_steps list at)
        (λ t.
        let next : event_from list (suc i) ≡ at + 2 = next_steps list at g.inside t in
        let steps = grows 2 (at + 1) (event_from list (suc i)) (omega arith) (omega (arith, next)) (omega (arith, g.steps t)) in
        omega arith)
        (λ f.
        let next : event_from list (suc i) ≡ at + 7 = next_post list at g.inside f in
        let a = grows_five (at + 1) (at + 2) (omega arith) in
        let b = grows_five (at + 2) (at + 3) (omega arith) in
        let c = grows_five (at + 3) (at + 4) (omega arith) in
        let d = grows_five (at + 4) (at + 5) (omega arith) in
        let e = grows_five (at + 5) (at + 6) (omega arith) in
        let k = grows_five (at + 6) (event_from list (suc i)) (omega (arith, next)) in
        omega arith)

    -- The bytes of a valid list are at most 31,960.
    pub bytes_whole : length (all_bytes list) ≤ 31960
    unfolding event_count slave_store_length
    bytes_whole =
        let n = level_count list in
        let m = slave_count list in
        let s = slaves_sized m (omega arith) in
        let second : place list (slaves_from list) ≡ place list (2 + n * 3) = ap (place list) (omega arith) in
        let third : place list (events_from list) ≡ place list (slaves_from list + 1 + m * 5) = ap (place list) (omega (arith, rows.events)) in
        let last : place list (event_from list (event_count list)) ≡ length (all_bytes list) =
        ap (place list) (events_end list valid) ∙ place_end list (length list) (omega arith) in
        let all : rows_present slaves_of.count ≡ m = omega (arith, rows.slaves, few_slaves) in
        let lengths : lengths_before slaves_of m ≤ store_most = rw all at (store_most_lem slaves_of slaves_framed) in
        omega (
          arith,
          levels_sized n (omega arith),
          few_levels,
          grows 0 (slaves_from list) (slaves_from list + 1) (omega arith) refl (omega (arith, few_slaves)),
          few_slaves,
          s.lengths,
          s.bytes,
          lengths,
          grows 1 (events_from list) (events_from list + 1) (omega arith) refl (omega (arith, few_events list valid)),
          events_sized (event_count list) (omega arith),
          few_events list valid,
          last,
        )

-- A valid sheet has at most 31,960 bytes, as the reader gets it.
pub sheet_whole : (bytes : List ℕ) {end : ℕ} → Bytes bytes → sheet (read_number bytes) (length bytes) ≡ Ok end → length bytes ≤ 31960
sheet_whole bytes y g = rw (bytes_back bytes y g) at (bytes_whole (numbers_of bytes) (list_good bytes y g).1)
