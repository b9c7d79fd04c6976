use Prim.Native.Nat.{ℕ, suc, ◌+◌, ◌-◌}
use Rattle.std.proofs.Common.{rules}
use mathlib.Core.Path.{◌≡◌, sym, ap, ◌∙◌}
use native.Mathlib.Omega.{arith}
use Rattle.std.specs.Prelude.{Err}
use Rattle.refusal.specs.declared.Refusal.{Refusal}
use Rattle.number.specs.Number.{fault}
use Rattle.numbers.specs.Numbers.{number_at, numbers_at}
use Rattle.sheet.specs.Sheet.{rows_read}
use Rattle.sheet.proofs.Laws.{rows_on, rows_not, rows_fault, row_part, row_put}
use Rattle.sheet.proofs.read_rows.Goals as goal

pub returns-in_default : goal.returns-in_default
returns-in_default c =
    let a = c.args in
    let l = c.loop-i in
    let src = number_at a.source in
    let more : a.count - l.i ≡ suc (a.count - (l.i + 1)) = omega arith in
    let row = c.numbers_at-row in
    let is = row.ensures ∙ ap (λ (n : ℕ). numbers_at src n l.place) l.invariant.size in
    let bad = sym (row_part src a.kind l.place row.result is) ∙ c.in_default.is in
    ap (rows_read l.setup) c.in_default.is ∙ sym (rows_fault src l.place more a.kind l.i l.setup bad) ∙ l.invariant.rest

pub returns-then-not-row_fits : goal.returns-then-not-row_fits
returns-then-not-row_fits c =
    let a = c.args in
    let l = c.loop-i in
    let src = number_at a.source in
    let more : a.count - l.i ≡ suc (a.count - (l.i + 1)) = omega arith in
    let row = c.numbers_at-row in
    let is = row.ensures ∙ ap (λ (n : ℕ). numbers_at src n l.place) l.invariant.size in
    let good = sym (row_part src a.kind l.place row.result is) ∙ c.in-Ok.is in
    let put = c.put_row-setup.ensures ∙ row_put src a.kind l.place row.result is l.setup l.i in
    ap (λ (why : Refusal). rows_read c.put_row-setup.result (Err (fault why l.place))) c.bad_rows-why.ensures
    ∙ sym (rows_not src l.place more a.kind l.i l.setup good put (search rules)) ∙ l.invariant.rest

pub loop-i-preserved : goal.loop-i-preserved
loop-i-preserved c =
    let a = c.args in
    let l = c.loop-i in
    let src = number_at a.source in
    let more : a.count - l.i ≡ suc (a.count - (l.i + 1)) = omega arith in
    let row = c.numbers_at-row in
    let is = row.ensures ∙ ap (λ (n : ℕ). numbers_at src n l.place) l.invariant.size in
    let good = sym (row_part src a.kind l.place row.result is) ∙ c.in-Ok.is in
    let put = c.put_row-setup.ensures ∙ row_put src a.kind l.place row.result is l.setup l.i in
    record {
      size = l.invariant.size;
      rest =
          sym (rows_on src l.place more a.kind l.i l.setup good put (search rules)) ∙ l.invariant.rest;
    }
