use Prim.Native.Nat.{◌*◌, ◌+◌, ◌≤◌}
use mathlib.Core.Path.{◌∙◌}
use mathlib.Core.List.{[], ◌∷◌, ◌++◌}
use native.Mathlib.Nat.{zero-add}
use native.Mathlib.Omega.{arith}
use lib.ListN.{length}
use Rattle.number.proofs.Laws.{bytes_most}
use Rattle.numbers.proofs.Laws.{sizes_most}
use Rattle.image.specs.Layout.{layout_number}
use Rattle.image.specs.Image.{head_bytes}
use Rattle.image.proofs.WriteLaws.{laid_one, laid_both, laid_more}
use Rattle.image.proofs.ImageLaws.{list_ok, list_size, list_laid}
use Rattle.image.proofs.writing.put_head.Goals as goal

pub put_one-first-requires : goal.put_one-first-requires
put_one-first-requires c = omega (arith, bytes_most layout_number)

pub unwrap-last-requires : goal.unwrap-last-requires
unwrap-last-requires c =
    let list = c.args.list.now in
    let first = c.put_one-first in
    let room : first.result + 5 * length list ≤ length first.new.row = omega (arith, bytes_most layout_number, first.ensures.value, first.auto.row) in
    rw (list_ok list first.new.row first.result room c.write_numbers.ensures.value)

pub put_one-requires : goal.put_one-requires
put_one-requires c =
    let a = c.args in
    let first = c.put_one-first in
    let w = c.write_numbers in
    let room : first.result + 5 * length a.list.now ≤ length first.new.row = omega (arith, bytes_most layout_number, first.ensures.value, first.auto.row) in
    let size = list_size a.list.now first.new.row first.result room w.ensures.value c.unwrap-last.ensures in
    omega (arith, bytes_most layout_number, bytes_most a.master, sizes_most a.list.now, first.ensures.value, first.auto.row, size, w.auto.out)

pub returns : goal.returns
returns c =
    let a = c.args in
    let first = c.put_one-first in
    let w = c.write_numbers in
    let last = c.put_one in
    let list = c.args.list.now in
    let room : first.result + 5 * length list ≤ length first.new.row = omega (arith, bytes_most layout_number, first.ensures.value, first.auto.row) in
    let size = list_size list first.new.row first.result room w.ensures.value c.unwrap-last.ensures in
    let laid = list_laid list first.new.row first.result room w.ensures.out_after in
    let rest = laid_both first.new.row first.result list (a.master ∷ []) (size, laid) (laid_one _ _ a.master (last.ensures.value, last.ensures.row_after)) in
    let all = laid_more a.row.now 0 layout_number (list ++ (a.master ∷ [])) (first.ensures.value, first.ensures.row_after) rest in
    record {
      value = all.0 ∙ zero-add (length (head_bytes list a.master));
      row_after = all.1;
    }
