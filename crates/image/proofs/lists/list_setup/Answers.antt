use mathlib.Core.Path.{◌≡◌}
use Prim.Native.Nat.{ℕ, ◌+◌, ◌≤◌}
use native.Mathlib.Omega.{arith}
use lib.ListN.{length-set}
use Rattle.frame.specs.Kind.{row_count}
use Rattle.frame.specs.declared.RowKind.TheVariants.{Levels, Slaves}
use Rattle.image.proofs.LayLaws.{rows_size, setup_all, setup_size}
use Rattle.image.proofs.lists.list_setup.Goals as goal

-- where the rows end, and that the list is as long as it was
ends : {a b : ℕ} {rows more : ℕ} → a ≡ 3 + rows → b ≡ a + 1 + more → rows ≤ 48 → more ≤ 80 → b ≤ 132
ends p q h k = omega arith

pub offset_bounds-values-mid : goal.offset_bounds-values-mid
offset_bounds-values-mid c =
    let a = c.args in
    omega (arith, rows_size a.setup Levels (row_count a.setup Levels) 0, c.list_rows-mid.ensures.value)

pub bounds-values-mid : goal.bounds-values-mid
bounds-values-mid c =
    let a = c.args in
    let rows = c.list_rows-mid in
    omega (arith, rows_size a.setup Levels (row_count a.setup Levels) 0, rows.ensures.value, simp length-set at rows.auto.values)

pub overflow_add-mid : goal.overflow_add-mid
overflow_add-mid c =
    let a = c.args in
    omega (arith, rows_size a.setup Levels (row_count a.setup Levels) 0, c.list_rows-mid.ensures.value)

pub list_rows-end-requires : goal.list_rows-end-requires
list_rows-end-requires c =
    let a = c.args in
    let rows = c.list_rows-mid in (
      c.requires.1,
      simp length-set (omega (arith, rows_size a.setup Levels (row_count a.setup Levels) 0, rows.ensures.value, simp length-set at rows.auto.values)),
    )

pub offset_bounds-values-end : goal.offset_bounds-values-end
offset_bounds-values-end c =
    let a = c.args in
    let up = rows_size a.setup Levels (row_count a.setup Levels) 0 in
    let low = rows_size a.setup Slaves (row_count a.setup Slaves) 0 in
    omega (arith, ends c.list_rows-mid.ensures.value c.list_rows-end.ensures.value (omega arith) (omega arith))

pub bounds-values-end : goal.bounds-values-end
bounds-values-end c =
    let a = c.args in
    let up = rows_size a.setup Levels (row_count a.setup Levels) 0 in
    let low = rows_size a.setup Slaves (row_count a.setup Slaves) 0 in
    let rows = c.list_rows-end in
    omega (
      arith,
      ends c.list_rows-mid.ensures.value rows.ensures.value (omega arith) (omega arith),
      simp length-set at rows.auto.values,
      simp length-set at c.list_rows-mid.auto.values,
    )

pub overflow_add-result : goal.overflow_add-result
overflow_add-result c =
    let a = c.args in
    let up = rows_size a.setup Levels (row_count a.setup Levels) 0 in
    let low = rows_size a.setup Slaves (row_count a.setup Slaves) 0 in
    omega (arith, ends c.list_rows-mid.ensures.value c.list_rows-end.ensures.value (omega arith) (omega arith))

pub returns : goal.returns
returns c =
    let a = c.args in
    let first = c.list_rows-mid.ensures in
    let second = c.list_rows-end.ensures in record {
      value = setup_size a.setup a.values.now c.requires.0 c.requires.1 first.value first.values_after second.value second.values_after;
      values_after = setup_all a.setup a.values.now c.requires.0 c.requires.1 first.value first.values_after second.value second.values_after;
    }
