use mathlib.Core.Path.{sym, ap, ◌∙◌}
use native.Mathlib.Omega.{arith}
use lib.ListN.{replicate}
use lib.Seq.{length-take-le}
use Rattle.image.specs.Image.{head_read, head_bytes, read_head}
use Rattle.image.proofs.ImageLaws.{laid_front, head_most}
use Rattle.image.proofs.WrittenBack.{head_long}
use Rattle.image.proofs.read_head.Goals as goal

pub returns-then-list-gt-HEAD_NUMBERS : goal.returns-then-list-gt-HEAD_NUMBERS
returns-then-list-gt-HEAD_NUMBERS c =
    let a = c.args in
    head_long a.list.now a.master (λ i. omega (arith, c.type_inv.list i)) (omega arith) (omega arith)

pub slice_bounds-bytes-end : goal.slice_bounds-bytes-end
slice_bounds-bytes-end c =
    let a = c.args in
    let laid = c.put_head-length in
    omega (arith, head_most a.list.now a.master, laid.ensures.value, laid.auto.row)

pub slice_bounds-head_read-end : goal.slice_bounds-head_read-end
slice_bounds-head_read-end c =
    let a = c.args in
    let laid = c.put_head-length in
    sym (length-take-le laid.result laid.new.row (omega (arith, head_most a.list.now a.master, laid.ensures.value, laid.auto.row)))

pub returns : goal.returns
unfolding read_head
returns c =
    let a = c.args in
    let laid = c.put_head-length in
    c.head_read.ensures
    ∙ ap head_read
    (laid_front (replicate 665 0) (head_bytes a.list.now a.master) laid.result (omega (arith, head_most a.list.now a.master))
    laid.ensures.value laid.ensures.row_after)
