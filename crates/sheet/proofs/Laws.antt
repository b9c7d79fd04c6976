-- One turn of each of the judge's loops, by what stands at the place: where one more is due (`left` is one more than
-- `k`), and where none is. Assumes nothing.
use Prim.Native.Nat.{ℕ, suc, ◌+◌, ◌≤◌, min}
use mathlib.Core.Path.{◌≡◌, refl, ap, ◌∙◌}
use mathlib.Core.Bool.{true, false}
use native.Mathlib.Omega.{arith}
use Rattle.std.specs.Prelude.{Ok, Err}
use Rattle.basics.specs.Limits.{numbers_most}
use Rattle.number.specs.declared.Fault.{Fault}
use Rattle.number.specs.Number.{fault}
use Rattle.numbers.specs.declared.Taken.{Taken}
use Rattle.numbers.specs.Numbers.{Reading, passed, numbers, padded, taken, numbers_at}
use Rattle.numbers.proofs.Laws.{padded_at, numbers_most_lem}
use Rattle.frame.specs.declared.Setup.{Setup}
use Rattle.frame.specs.declared.RowKind.{RowKind}
use Rattle.frame.specs.declared.RowKind.TheVariants.{Levels, Slaves}
use Rattle.frame.specs.Kind.{row_size, put_row, row_fits}
use Rattle.frame.proofs.KindLaws.{put_alike}
use Rattle.sheet.specs.Sheet.{bad_rows, rows_read, rows_from, event, events}

module _ (src : Reading) (at : ℕ) {left k : ℕ} (more : left ≡ suc k) where
  -- rows
  module _ (kind : RowKind) (i : ℕ) (setup : Setup) where
    pub rows_fault : {f : Fault} → passed src (row_size kind) at ≡ Err f
        → rows_from kind src left i setup at ≡ rows_read setup (Err f)
    rows_fault r = rw (more, r)

    -- `put` is the set-up with the row in it
    module _ {next : ℕ} {put : Setup} (read : passed src (row_size kind) at ≡ Ok next)
        (is : put ≡ put_row setup kind i (numbers src (row_size kind) at)) where
      pub rows_on : row_fits put kind i ≡ true → rows_from kind src left i setup at ≡ rows_from kind src k (i + 1) put next
      rows_on f = rw (more, read, ← is, f)

      pub rows_not : row_fits put kind i ≡ false → rows_from kind src left i setup at ≡ rows_read put (Err (fault (bad_rows kind) at))
      rows_not f = rw (more, read, ← is, f)

  -- events
  pub events_on : {next : ℕ} → event src at ≡ Ok next → events src left at ≡ events src k next
  events_on r = rw (more, r)

-- no row has more numbers than are read together, and those that were taken are put as they are
size_few : (kind : RowKind) → min (row_size kind) numbers_most ≡ row_size kind
size_few Levels = refl
size_few Slaves = refl

pub size_most : (kind : RowKind) → row_size kind ≤ numbers_most
size_most kind = omega (arith, size_few kind)

module _ (src : Reading) (kind : RowKind) (at : ℕ) (got : Taken) (is : got ≡ numbers_at src (row_size kind) at) where
  all_taken : got ≡ taken src (row_size kind) at
  unfolding numbers_at
  all_taken = is ∙ ap (λ (n : ℕ). taken src n at) (size_few kind)

  pub row_part : got.part ≡ passed src (row_size kind) at
  row_part = ap (λ (t : Taken). t.part) all_taken

  pub row_put : (setup : Setup) (i : ℕ) → put_row setup kind i got.values ≡ put_row setup kind i (numbers src (row_size kind) at)
  row_put setup i =
      let row = numbers src (row_size kind) at in
      ap (λ (t : Taken). put_row setup kind i t.values) all_taken
      ∙ put_alike setup kind i (padded row) row (λ j. padded_at row j (omega (arith, numbers_most_lem src (row_size kind) at, size_most kind)))
