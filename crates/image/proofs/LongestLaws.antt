-- The image of a framed set-up and a sound channel has at most 410 bytes, and each of its numbers is at most 4,294,967,295. A level row has 3 bytes; a slave
-- row 10, and one more where its length has three bytes, which at most three of sixteen rows can have; a request at most 11. Assumes nothing.
use Prim.Native.Nat.{ℕ, zero, suc, ◌+◌, ◌*◌, ◌≤◌, ◌<◌}
use mathlib.Core.Path.{◌≡◌, refl, ap}
use mathlib.Core.Bool.{true}
use mathlib.Core.List.{◌++◌}
use native.Mathlib.Nat.{zero-add, add-zero}
use native.Mathlib.Omega.{arith}
use borrow.Author.Tests.{ltb-true, ltb-false}
use lib.ListN.{length}
use lib.Dec.{eqb, ltb}
use Rattle.std.specs.Prelude.{None, Option, Some}
use Rattle.basics.specs.Limits.{places, store_most}
use Rattle.basics.proofs.Tests.{by_test}
use Rattle.cycle.proofs.Widths.{width_some, port_some}
use Rattle.number.proofs.SizeLaws.{tops}
use Rattle.numbers.proofs.SizeLaws.{Small, small_none, small_less, small_first, small_any, small_append}
use Rattle.frame.specs.declared.LevelRow.{LevelRow}
use Rattle.frame.specs.declared.SlaveRow.{SlaveRow}
use Rattle.frame.specs.declared.Setup.{Setup}
use Rattle.frame.specs.declared.RowKind.TheVariants.{Levels, Slaves}
use Rattle.frame.specs.Frame.{level_at, slave_at, rows_present, lengths_before, is_framed}
use Rattle.frame.specs.Find.{slave_store_length}
use Rattle.frame.proofs.FrameLaws.{
  LevelFacts,
  SlaveFacts,
  level_count_lem,
  level_row_facts,
  limit_most,
  framed_levels,
  framed_slaves,
  framed_master,
}
use Rattle.frame.proofs.RowLaws.{before_more}
use Rattle.frame.proofs.SlaveLaws.{slave_count_lem, slave_row_facts, row_inside, store_most_lem}
use Rattle.channel.specs.declared.Phase.{Phase}
use Rattle.channel.specs.declared.Phase.TheVariants.{Arbitrating, Granted}
use Rattle.channel.specs.declared.Channel.{Channel}
use Rattle.channel.specs.Channel.{request_of, Shaped}
use Rattle.channel.specs.Slave.{slave_of}
use Rattle.sound.specs.Sound.{is_sound}
use Rattle.sound.proofs.SoundFacts.{Sound, sound_is}
use Rattle.sound.proofs.RequestFacts.{fits_is, slave_facts_of}
use Rattle.image.specs.Layout.{
  level_numbers,
  slave_numbers,
  rows_numbers,
  counted_numbers,
  head_numbers,
  setup_numbers,
  layout_number,
  flag_number,
  phase_number,
  asked_numbers,
  marks_number,
  request_numbers,
  requests_numbers,
  channel_numbers,
  image_bytes,
  image_most,
}
use Rattle.image.proofs.MarkLaws.{flag_most, marks_most_lem}

-- a level row
level_small : (row : LevelRow) → LevelFacts row → Small (level_numbers row) 3
level_small row f =
    small_first 0 row.level (omega arith) (omega (arith, f.level))
    (small_first 0 row.width (omega arith) (omega (arith, width_some row.width f.width))
    (small_first 0 row.options (omega arith) (omega (arith, f.options)) small_none))

-- a slave row of a length below 16,384, and of any
slave_small : (row : SlaveRow) → SlaveFacts row → (j : ℕ) → j ≤ 3 → row.length < tops j → Small (slave_numbers row) (9 + j)
slave_small row f j l h =
    small_less (omega arith)
    (small_first 0 row.space (omega arith) (omega (arith, f.space))
    (small_first 3 row.base (omega arith) (omega (arith, f.end, f.some, limit_most row.space))
    (small_first j row.length l h
    (small_first 0 row.port (omega arith) (omega (arith, port_some row.port f.port))
    (small_first 1 row.time (omega arith) (omega (arith, f.slowest)) small_none)))))

module _ (setup : Setup) (framed : is_framed setup ≡ true) where
  levels_small : (left i : ℕ) → i + left ≤ setup.levels.count → Small (rows_numbers setup Levels left i) (3 * left)
  levels_small zero i h = small_none
  levels_small (suc left) i h =
      let f = level_row_facts setup.levels (framed_levels setup framed) i (omega arith) in
      small_less (omega arith) (small_append (level_small (level_at setup.levels i) f) (levels_small left (i + 1) (omega arith)))

  -- `long` of the slave rows have a length of 16,384 or more
  record Sized (left i : ℕ) : Type 0 where
    long : ℕ
    lengths : lengths_before setup.slaves i + 16383 * long + left ≤ lengths_before setup.slaves (i + left)
    small : Small (rows_numbers setup Slaves left i) (10 * left + long)

  slaves_sized : (left i : ℕ) → i + left ≤ setup.slaves.count → Sized left i
  slaves_sized zero i h =
      let same : lengths_before setup.slaves (i + 0) ≡ lengths_before setup.slaves i = ap (lengths_before setup.slaves) (add-zero i) in
      record { long = 0; lengths = omega arith; small = small_none }
  slaves_sized (suc left) i h =
      let slaves = setup.slaves in
      let fit = framed_slaves setup framed in
      let row = slave_at slaves i in
      let f = slave_row_facts slaves fit i (omega arith) in
      let rest = slaves_sized left (i + 1) (omega arith) in
      let more = before_more slaves i in
      let same : lengths_before slaves (i + suc left) ≡ lengths_before slaves (i + 1 + left) = ap (lengths_before slaves) (omega arith) in
      let inside : row.length ≤ store_most = omega (arith, row_inside slaves fit i (omega arith), store_most_lem slaves fit) in
      by_test (ltb row.length 16384)
      (λ t.
      record {
        long = rest.long;
        lengths = omega (arith, rest.lengths, more, f.some, same);
        small = small_less (omega arith) (small_append (slave_small row f 1 (omega arith) (ltb-true row.length 16384 t)) rest.small);
      })
      (λ g.
      record {
        long = rest.long + 1;
        lengths = omega (arith, rest.lengths, more, ltb-false row.length 16384 g, same);
        small = small_less (omega arith) (small_append (slave_small row f 2 (omega arith) (omega arith)) rest.small);
      })

  -- the tables with their counts, and the master store's length
  level_table_small : Small (counted_numbers setup Levels) 49
  level_table_small =
      let n = setup.levels.count in
      let count = level_count_lem setup.levels (framed_levels setup framed) in
      small_less (omega (arith, count))
      (small_first 0 n (omega arith) (omega (arith, count)) (levels_small (rows_present n) 0 (omega (arith, count))))

  slave_table_small : Small (counted_numbers setup Slaves) 164
  unfolding lengths_before slave_store_length
  slave_table_small =
      let n = setup.slaves.count in
      let fit = framed_slaves setup framed in
      let count = slave_count_lem setup.slaves fit in
      let s = slaves_sized (rows_present n) 0 (omega (arith, count)) in
      let all : lengths_before setup.slaves (0 + rows_present n) ≤ store_most = rw (zero-add (rows_present n)) (store_most_lem setup.slaves fit) in
      small_less (omega (arith, count, s.lengths)) (small_first 0 n (omega arith) (omega (arith, count)) s.small)

  pub setup_small : Small (setup_numbers setup) 218
  unfolding setup_numbers head_numbers
  setup_small =
      small_first 0 layout_number (omega arith) (omega arith)
      (small_append
      (small_first 0 1 (omega arith) (omega arith) (small_append level_table_small slave_table_small))
      (small_first 2 setup.master (omega arith) (omega (arith, framed_master setup framed)) small_none))

-- the channel of a framed set-up
module _ (setup : Setup) (ch : Channel) (framed : is_framed setup ≡ true) (sound : is_sound setup ch ≡ true) where
  facts : Sound setup ch
  facts = sound_is setup ch sound

  request_small : (l : ℕ) → l < places → Small (request_numbers (request_of ch l)) 11
  request_small l h =
      let q = request_of ch l in
      by_test (eqb q.left 0)
      (λ t. rw t (small_less (omega arith) (small_first 0 0 (omega arith) (omega arith) small_none)))
      (λ e.
      let f = fits_is setup l q (facts.settled.request l h (rw e)).1 in
      let row = slave_facts_of setup framed q f in
      let end = limit_most (slave_of setup.slaves q).space in
      rw e
      (small_first 1 q.left (omega arith) (omega (arith, f.most))
      (small_first 0 q.direction (omega arith) (omega (arith, f.direction))
      (small_first 0 q.space (omega arith) (omega (arith, f.space))
      (small_first 3 q.address (omega arith) (omega (arith, row.range.ends, row.facts.end, end))
      (small_first 2 q.offset (omega arith) (omega (arith, f.master, framed_master setup framed)) small_none))))))

  requests_small : (left l : ℕ) → l + left ≤ places → Small (requests_numbers ch left l) (11 * left)
  unfolding requests_numbers
  requests_small zero l h = small_none
  requests_small (suc left) l h =
      small_less (omega arith) (small_append (request_small l (omega arith)) (requests_small left (l + 1) (omega arith)))

  -- an asked time is not after the clock
  time_past : (phase : Phase) (t : ℕ) → ch.phase ≡ phase → ch.asked ≡ Some t → t ≤ ch.clock
  time_past Arbitrating t p e =
      let never = facts.settled.unasked p in
      let z : ◌≡◌ {A = ℕ} 0 1 = cc in
      absurd (omega arith)
  time_past (Granted owner) t p e = (facts.settled.asked owner t p e).past

  asked_small : (asked : Option ℕ) → ch.asked ≡ asked → Small (asked_numbers asked) 6
  asked_small None e = small_less (omega arith) (small_first 0 0 (omega arith) (omega arith) small_none)
  asked_small (Some t) e =
      small_first 0 1 (omega arith) (omega arith)
      (small_any t (omega (arith, time_past ch.phase t refl e, facts.settled.clock)) small_none)

  pub owner_most : (phase : Phase) → ch.phase ≡ phase → phase_number phase ≤ places
  owner_most Arbitrating e = omega arith
  owner_most (Granted owner) e = omega (arith, (facts.settled.owner owner e).small)

  pub channel_small : Shaped ch → Small (channel_numbers ch) 192
  unfolding channel_numbers
  channel_small shaped =
      small_first 0 (flag_number ch.ever) (omega arith) (omega (arith, flag_most ch.ever))
      (small_any ch.clock (omega (arith, facts.settled.clock))
      (small_first 0 (phase_number ch.phase) (omega arith) (omega (arith, owner_most ch.phase refl))
      (small_append (asked_small ch.asked refl)
      (small_first 2 (marks_number ch.inactive) (omega arith) (omega (arith, marks_most_lem ch.inactive (omega (arith, shaped.inactive))))
      (requests_small places 0 (omega arith))))))

  pub image_small : Shaped ch → Small (setup_numbers setup ++ channel_numbers ch) image_most
  image_small shaped = small_append (setup_small setup framed) (channel_small shaped)

-- No image is longer.
pub image_most_lem : (setup : Setup) (ch : Channel) → is_framed setup ≡ true → is_sound setup ch ≡ true → Shaped ch
    → length (image_bytes setup ch) ≤ image_most
unfolding image_bytes
image_most_lem setup ch framed sound shaped = (image_small setup ch framed sound shaped).most
