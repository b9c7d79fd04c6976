-- Reader and writer judge alike: where one source stands at the places of another, moved by a map of places, a judgement
-- over the one is the judgement over the other, moved. Assumes nothing.
use Prim.Native.Nat.{ℕ, zero, suc, ◌+◌}
use mathlib.Core.Path.{◌≡◌, refl, sym, ap, ◌∙◌}
use mathlib.Core.Bool.{Bool, true, false, cond}
use lib.Dec.{eqb, ltb}
use Rattle.std.specs.Prelude.{Ok, Err}
use Rattle.basics.specs.Limits.{rows_most, steps_most, events_most}
use Rattle.refusal.specs.declared.Refusal.TheVariants.{BadEdition, BadEvents, Follows}
use Rattle.number.specs.Number.{NumberRead, Number, fault}
use Rattle.numbers.specs.Numbers.{Part, Reading, with_number, number_between, passed, numbers}
use Rattle.numbers.proofs.Moved.{moved, moved_to, cond_moved, then_moved, between_moved, ranged_moved, passed_moved, numbers_moved}
use Rattle.frame.specs.declared.Setup.{Setup}
use Rattle.frame.specs.declared.RowKind.{RowKind}
use Rattle.frame.specs.declared.RowKind.TheVariants.{Levels, Slaves}
use Rattle.frame.specs.Kind.{row_size, no_rows, with_count, put_row, row_fits}
use Rattle.sheet.specs.declared.RowsRead.{RowsRead}
use Rattle.sheet.specs.Sheet.{
  bad_rows,
  rows_read,
  then_rows,
  with_rows,
  rows_from,
  counted_rows,
  head,
  step_count,
  event,
  events,
  counted_events,
  sheet_end,
  body,
  sheet,
}

-- rows that were read, with their place moved
abbrev rows_moved : (ℕ → ℕ) → RowsRead → RowsRead
rows_moved to r = rows_read r.setup (moved_to to r.part)

module _ (to : ℕ → ℕ) where
  cond_rows : (b : Bool) (x y : RowsRead) {x' y' : RowsRead} → x' ≡ rows_moved to x → y' ≡ rows_moved to y → cond b x' y' ≡ rows_moved to (cond b x y)
  cond_rows true x y p q = p
  cond_rows false x y p q = q

  then_rows_lem : (j : Part) (setup : Setup) (f g : ℕ → RowsRead) → ((at : ℕ) → f (to at) ≡ rows_moved to (g at))
      → then_rows (moved_to to j) setup f ≡ rows_moved to (then_rows j setup g)
  then_rows_lem (Ok at) setup f g h = h at
  then_rows_lem (Err x) setup f g h = refl

  with_rows_lem : (got : NumberRead) (setup : Setup) (f g : ℕ → ℕ → RowsRead) → ((v next : ℕ) → f v (to next) ≡ rows_moved to (g v next))
      → with_rows (moved to got) setup f ≡ rows_moved to (with_rows got setup g)
  with_rows_lem (Number v next) setup f g h = h v next
  with_rows_lem (Err x) setup f g h = refl

-- the source `a` has at the place `to i` what the source `b` has at i
module _ (a b : Reading) (to : ℕ → ℕ) (same : (i : ℕ) → a (to i) ≡ moved to (b i)) where
  rows_moved_lem : (kind : RowKind) (left i : ℕ) (setup : Setup) (at : ℕ)
      → rows_from kind a left i setup (to at) ≡ rows_moved to (rows_from kind b left i setup at)
  rows_moved_lem kind zero i setup at = refl
  rows_moved_lem kind (suc left) i setup at =
      let more = put_row setup kind i (numbers b (row_size kind) at) in
      rw (passed_moved a b to same (row_size kind) at, numbers_moved a b to same (row_size kind) at)
      (then_rows_lem to (passed b (row_size kind) at) setup _ _ (λ next. cond_rows to (row_fits more kind i) (rows_from kind b left (i + 1) more next)
      (rows_read more (Err (fault (bad_rows kind) at))) (rows_moved_lem kind left (i + 1) more next) refl))

  counted_moved : (kind : RowKind) (setup : Setup) (at : ℕ) → counted_rows kind a setup (to at) ≡ rows_moved to (counted_rows kind b setup at)
  unfolding counted_rows
  counted_moved kind setup at =
      rw (between_moved a b to same 1 rows_most (bad_rows kind) at)
      (with_rows_lem to (number_between b 1 rows_most (bad_rows kind) at) setup _ _ (λ n next. rows_moved_lem kind n 0 (with_count setup kind n) next))

  pub head_moved : (at : ℕ) → head a (to at) ≡ rows_moved to (head b at)
  unfolding head
  head_moved at =
      rw (counted_moved Levels no_rows at)
      (then_rows_lem to (counted_rows Levels b no_rows at).part (counted_rows Levels b no_rows at).setup _ _
      (λ second. counted_moved Slaves (counted_rows Levels b no_rows at).setup second))

  steps_moved : (at : ℕ) → step_count a (to at) ≡ moved_to to (step_count b at)
  unfolding step_count
  steps_moved at = ranged_moved a b to same 1 steps_most BadEvents at _ _ (λ n next. refl)

  event_moved : (at : ℕ) → event a (to at) ≡ moved_to to (event b at)
  unfolding event
  event_moved at = ranged_moved a b to same 0 1 BadEvents at _ _ (λ kind next. cond_moved to (eqb kind 0) (step_count b next) (passed b 6 next)
      (steps_moved next) (passed_moved a b to same 6 next))

  events_moved : (n at : ℕ) → events a n (to at) ≡ moved_to to (events b n at)
  events_moved zero at = refl
  events_moved (suc n) at = rw (event_moved at) (then_moved to (event b at) (events a n) (events b n) (events_moved n))

  counted_events_moved : (at : ℕ) → counted_events a (to at) ≡ moved_to to (counted_events b at)
  unfolding counted_events
  counted_events_moved at = ranged_moved a b to same 0 events_most BadEvents at _ _ (λ n next. events_moved n next)

  -- the two sheets begin together and end together
  module _ (la lb : ℕ) (ends : (i : ℕ) → ltb (to i) la ≡ ltb i lb) where
    ended_moved : (at : ℕ) → sheet_end la (to at) ≡ moved_to to (sheet_end lb at)
    ended_moved at = rw (ends at) (cond_moved to (ltb at lb) (Err (fault Follows at)) (Ok at) refl refl)

    body_moved : (at : ℕ) → body a la (to at) ≡ moved_to to (body b lb at)
    unfolding body
    body_moved at =
        rw (head_moved at)
        (then_moved to (head b at).part _ _ (λ third.
        rw (counted_events_moved third) (then_moved to (counted_events b third) (sheet_end la) (sheet_end lb) ended_moved)))

    pub sheet_moved : to 0 ≡ 0 → sheet a la ≡ moved_to to (sheet b lb)
    unfolding sheet
    sheet_moved starts =
        ap (λ (i : ℕ). with_number (number_between a 1 1 BadEdition i) (λ edition first. body a la first)) (sym starts)
        ∙ ranged_moved a b to same 1 1 BadEdition 0 _ _ (λ edition first. body_moved first)
