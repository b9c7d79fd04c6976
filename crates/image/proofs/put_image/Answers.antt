use mathlib.Core.Path.{sym, ap, ◌∙◌}
use native.Mathlib.Omega.{arith}
use lib.ListN.{length}
use Rattle.std.proofs.lemmas.Result.{err_from_is_err_and}
use lib.Seq.{length-take-le}
use Rattle.image.proofs.PartLaws.{setup_bytes, setup_ok, setup_ends, setup_front, parts_at, parts_room, parts_none, parts_all}
use Rattle.image.proofs.LayLaws.{setup_most}
use Rattle.image.proofs.put_image.Goals as goal

pub slice_bounds-values-end : goal.slice_bounds-values-end
slice_bounds-values-end c =
    let a = c.args in
    let first = c.list_setup-count in
    omega (arith, setup_most a.setup, first.ensures.value, first.auto.values)

pub slice_bounds-write_numbers-end : goal.slice_bounds-write_numbers-end
slice_bounds-write_numbers-end c =
    let a = c.args in
    let first = c.list_setup-count in
    sym (length-take-le first.result first.new.values (omega (arith, setup_most a.setup, first.ensures.value, first.auto.values)))

pub unwrap-start-requires : goal.unwrap-start-requires
unwrap-start-requires c =
    let laid = c.list_setup-count.ensures in
    let w = c.write_numbers.ensures in
    rw (setup_ok c.args.setup (laid.value, laid.values_after) (w.value, w.out_after))

pub returns-in_err-end : goal.returns-in_err-end
returns-in_err-end c =
    let a = c.args in
    let laid = c.list_setup-count.ensures in
    let w = c.write_numbers.ensures in
    let start = setup_ends a.setup (laid.value, laid.values_after) (w.value, w.out_after) c.unwrap-start.ensures in
    let placed = c.write_channel.ensures in
    let p = err_from_is_err_and c.from_residual.result c.from_residual.ensures.1 in
    let none = parts_none a.setup a.channel a.out.now start (sym placed.value ∙ c.in_err-end.was) in
    record {
      value = rw (p.1, p.2) (sym c.in_err-end.was ∙ placed.value ∙ parts_at a.setup a.channel a.out.now start);
      out_after = placed.out_after ∙ none;
    }

pub slice_bounds-row-end : goal.slice_bounds-row-end
slice_bounds-row-end c =
    let a = c.args in
    let w = c.write_numbers in
    let start = setup_ends a.setup (c.list_setup-count.ensures.value, c.list_setup-count.ensures.values_after) (w.ensures.value, w.ensures.out_after) c.unwrap-start.ensures in
    omega (arith, start, setup_bytes a.setup, w.auto.out)

pub slice_bounds-put_bytes-end : goal.slice_bounds-put_bytes-end
slice_bounds-put_bytes-end c =
    let a = c.args in
    let w = c.write_numbers in
    let start = setup_ends a.setup (c.list_setup-count.ensures.value, c.list_setup-count.ensures.values_after) (w.ensures.value, w.ensures.out_after) c.unwrap-start.ensures in
    sym (length-take-le _ w.new.out (omega (arith, start, setup_bytes a.setup, w.auto.out)))

pub put_bytes-requires : goal.put_bytes-requires
put_bytes-requires c =
    let a = c.args in
    let e = c.unwrap-start.ensures in
    let start = setup_ends a.setup (c.list_setup-count.ensures.value, c.list_setup-count.ensures.values_after) (c.write_numbers.ensures.value, c.write_numbers.ensures.out_after) e in
    let placed = c.write_channel in
    let room = parts_room a.setup a.channel a.out.now start (sym placed.ensures.value ∙ c.in_ok-end.was) in
    omega (arith, ap length (setup_front a.setup (c.list_setup-count.ensures.value, c.list_setup-count.ensures.values_after) (c.write_numbers.ensures.value, c.write_numbers.ensures.out_after) e), start, room, placed.auto.out)

pub returns : goal.returns
returns c =
    let a = c.args in
    let e = c.unwrap-start.ensures in
    let start = setup_ends a.setup (c.list_setup-count.ensures.value, c.list_setup-count.ensures.values_after) (c.write_numbers.ensures.value, c.write_numbers.ensures.out_after) e in
    let placed = c.write_channel.ensures in
    let past = c.in_ok-end.was in
    let front = setup_front a.setup (c.list_setup-count.ensures.value, c.list_setup-count.ensures.values_after) (c.write_numbers.ensures.value, c.write_numbers.ensures.out_after) e in record {
      value = sym past ∙ placed.value ∙ parts_at a.setup a.channel a.out.now start;
      out_after = c.put_bytes.ensures ∙ rw (front, placed.out_after) (parts_all a.setup a.channel a.out.now start (sym placed.value ∙ past));
    }
