-- A good part of a sheet is a run of numbers, as many as the document allows; and a refusal 11 is the source's. Assumes nothing.
use Prim.Native.Nat.{ℕ, zero, suc, ◌+◌, ◌*◌}
use mathlib.Core.Path.{◌≡◌, refl}
use mathlib.Core.Bool.{Bool, true, false, cond}
use native.Mathlib.Nat.{suc-mul, mul-le-mul_right}
use native.Mathlib.Omega.{arith}
use lib.Dec.{eqb, ltb}
use Rattle.std.specs.Prelude.{Ok, Err}
use Rattle.basics.specs.Limits.{rows_most, steps_most, events_most}
use Rattle.refusal.specs.Refusal.{refusal_number}
use Rattle.refusal.specs.declared.Refusal.TheVariants.{BadEdition, BadEvents}
use Rattle.number.specs.Number.{NumberRead, Number}
use Rattle.numbers.specs.Numbers.{Part, Reading, with_number, ◌>>=◌, number_between, passed, numbers}
use Rattle.numbers.proofs.Runs.{Tells, tells_none, tells_less, tells_then, tells_cond, tells_ranged, passed_tells}
use Rattle.numbers.proofs.Runs.Tells.{fault}
use Rattle.frame.specs.declared.Setup.{Setup}
use Rattle.frame.specs.declared.RowKind.{RowKind}
use Rattle.frame.specs.declared.RowKind.TheVariants.{Levels, Slaves}
use Rattle.frame.specs.Kind.{row_size, no_rows, with_count, put_row, row_fits}
use Rattle.sheet.specs.declared.RowsRead.{RowsRead}
use Rattle.sheet.specs.Sheet.{bad_rows, then_rows, with_rows, rows_from, counted_rows, head, step_count, event, events, counted_events, body, sheet}

bad_eleven : (kind : RowKind) → refusal_number (bad_rows kind) ≡ 11 → ⊥
bad_eleven Levels e = omega arith
bad_eleven Slaves e = omega arith

-- what is said of the part of rows that were read, by the rows' own ways of going on: each is that of parts
then_part : (j : Part) (setup : Setup) (f : ℕ → RowsRead) → (then_rows j setup f).part ≡ (j >>= λ at. (f at).part)
then_part (Ok at) setup f = refl
then_part (Err x) setup f = refl

with_part : (got : NumberRead) (setup : Setup) (f : ℕ → ℕ → RowsRead) → (with_rows got setup f).part ≡ with_number got (λ v next. (f v next).part)
with_part (Number v next) setup f = refl
with_part (Err x) setup f = refl

cond_part : (b : Bool) (x y : RowsRead) → (cond b x y).part ≡ cond b x.part y.part
cond_part true x y = refl
cond_part false x y = refl

module _ (src : Reading) where
  rows_tell : (kind : RowKind) (left i : ℕ) (setup : Setup) (at : ℕ)
      → Tells src (left * row_size kind) at (rows_from kind src left i setup at).part
  rows_tell kind zero i setup at = tells_none
  rows_tell kind (suc left) i setup at =
      let more = put_row setup kind i (numbers src (row_size kind) at) in
      tells_less {m = row_size kind + left * row_size kind} (omega (arith, suc-mul left (row_size kind)))
      (rw (then_part (passed src (row_size kind) at) setup _)
      (tells_then (passed_tells src (row_size kind) at) (λ next.
      rw (cond_part (row_fits more kind i) _ _)
      (tells_cond (row_fits more kind i) (rows_tell kind left (i + 1) more next) (fault (λ e. absurd (bad_eleven kind e)))))))

  counted_tells : (kind : RowKind) (setup : Setup) (at : ℕ) → Tells src (suc (rows_most * row_size kind)) at (counted_rows kind src setup at).part
  unfolding counted_rows
  counted_tells kind setup at =
      rw (with_part (number_between src 1 rows_most (bad_rows kind) at) setup _)
      (tells_ranged src 1 rows_most (bad_rows kind) at (bad_eleven kind) (λ n next h.
      tells_less (mul-le-mul_right (row_size kind) h) (rows_tell kind n 0 (with_count setup kind n) next)))

  pub head_tells : (at : ℕ) → Tells src (suc (rows_most * 3) + suc (rows_most * 5)) at (head src at).part
  unfolding head
  head_tells at =
      let levels = counted_rows Levels src no_rows at in
      rw (then_part levels.part levels.setup (λ second. counted_rows Slaves src levels.setup second))
      (tells_then {k = suc (rows_most * 5)} (counted_tells Levels no_rows at) (λ second. counted_tells Slaves levels.setup second))

  event_tells : (at : ℕ) → Tells src 7 at (event src at)
  unfolding event step_count
  event_tells at =
      tells_ranged src 0 1 BadEvents at (λ e. omega arith) (λ kind next h.
      tells_cond (eqb kind 0) (tells_ranged src 1 steps_most BadEvents next (λ e. omega arith) (λ n end k. tells_none)) (passed_tells src 6 next))

  events_tell : (n at : ℕ) → Tells src (n * 7) at (events src n at)
  events_tell zero at = tells_none
  events_tell (suc n) at = tells_less (omega arith) (tells_then (event_tells at) (events_tell n))

  all_events_tell : (at : ℕ) → Tells src (suc (events_most * 7)) at (counted_events src at)
  unfolding counted_events
  all_events_tell at = tells_ranged src 0 events_most BadEvents at (λ e. omega arith) (λ n next h. tells_less (omega arith) (events_tell n next))

  -- A good sheet is a run of at most 7,300 numbers, and an 11 is the source's.
  pub sheet_tells : (len : ℕ) → Tells src 7300 0 (sheet src len)
  unfolding sheet body
  sheet_tells len =
      tells_ranged src 1 1 BadEdition 0 (λ e. omega arith) (λ edition first h.
      tells_then {k = suc (events_most * 7)} (head_tells first) (λ third.
      tells_then {k = 0} (all_events_tell third) (λ end.
      tells_cond (ltb end len) (fault (λ e. absurd (omega arith))) tells_none)))
