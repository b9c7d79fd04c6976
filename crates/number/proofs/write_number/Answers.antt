use mathlib.Core.Path.{sym, ap, ◌∙◌}
use native.Mathlib.Omega.{arith}
use borrow.Author.Tests.{leb-true, leb-false}
use lib.ListN.{length}
use Rattle.std.specs.Prelude.{Ok}
use Rattle.number.specs.Number.{bytes_of}
use Rattle.number.proofs.Laws.{bytes_some, byte_written, written, not_written}
use Rattle.number.proofs.write_number.Goals as goal

pub returns-then-at-out : goal.returns-then-at-out
returns-then-at-out c =
    let a = c.args in
    let w = byte_written a.out.now a.at a.v c.if-v-lt128.true c.if-at-out.true in
    record {
      value = sym w.0;
      out_after = sym w.1;
    }

pub returns-then-v-lt128 : goal.returns-then-v-lt128
returns-then-v-lt128 c =
    let a = c.args in
    let n = not_written a.out.now a.at a.v (omega (arith, bytes_some a.v)) in
    record {
      value = sym n.0;
      out_after = sym n.1;
    }

pub returns-then-out-at : goal.returns-then-out-at
returns-then-out-at c =
    let a = c.args in
    let n = not_written a.out.now a.at a.v (omega (arith, bytes_some a.v)) in
    record {
      value = sym n.0;
      out_after = sym n.1;
    }

pub returns-then-has_room : goal.returns-then-has_room
returns-then-has_room c =
    let a = c.args in
    let put = c.put_number.ensures in
    let room = leb-true (length (bytes_of a.v)) _ (sym c.has_room.ensures ∙ c.if-has_room.true) in
    let w = written a.out.now a.at a.v (omega (arith, room)) in
    record {
      value = ap Ok put.value ∙ sym w.0;
      out_after = put.out_after ∙ sym w.1;
    }

pub returns : goal.returns
returns c =
    let a = c.args in
    let none = leb-false (length (bytes_of a.v)) _ (sym c.has_room.ensures ∙ c.if-has_room.false) in
    let n = not_written a.out.now a.at a.v (omega (arith, none)) in
    record {
      value = sym n.0;
      out_after = sym n.1;
    }
