use borrow.Author.Tests.{not-true, not-false}
use Prim.Native.Nat.{◌+◌}
use lib.ListN.{length}
use mathlib.Core.List.{◌++◌}
use mathlib.Core.Path.{sym, ◌∙◌}
use native.Mathlib.Omega.{arith}
use Rattle.logline.specs.Text.{place_after, out_after}
use Rattle.logline.proofs.TextLaws.{room_is}
use Rattle.whyline.specs.Words.{spelled, counted, reason_text}
use Rattle.whyline.proofs.PieceLaws.{then_place, then_next, counted_most}
use Rattle.whyline.proofs.put_told.Goals as goal

pub returns-then-not-has_room : goal.returns-then-not-has_room
unfolding place_after out_after
returns-then-not-has_room c =
    let e = sym c.has_room.ensures ∙ not-true c.has_room.result c.if-not-has_room.true-raw in
    record {
      value = rw e;
      out_after = rw e;
    }

pub put_counted-third-requires : goal.put_counted-third-requires
put_counted-third-requires c =
    let a = c.args in
    let room = room_is (length a.out.now) a.at c.has_room.ensures c.if-not-has_room.false-raw in
    let k = c.put_counted-first in
    let l = c.put_counted-second in
    omega (
      arith,
      room,
      k.ensures.value,
      k.auto.out,
      counted_most (spelled "event ") a.event,
      l.ensures.value,
      l.auto.out,
      counted_most (spelled ", ") a.clock,
    )

pub put_reason-requires : goal.put_reason-requires
put_reason-requires c =
    let a = c.args in
    let room = room_is (length a.out.now) a.at c.has_room.ensures c.if-not-has_room.false-raw in
    let k = c.put_counted-first in
    let l = c.put_counted-second in
    let m = c.put_counted-third in
    omega (
      arith,
      room,
      k.ensures.value,
      k.auto.out,
      counted_most (spelled "event ") a.event,
      l.ensures.value,
      l.auto.out,
      counted_most (spelled ", ") a.clock,
      m.ensures.value,
      m.auto.out,
      counted_most (spelled " ns, level ") a.level,
    )

pub returns : goal.returns
unfolding place_after out_after
returns c =
    let a = c.args in
    let e = sym c.has_room.ensures ∙ not-false _ c.if-not-has_room.false-raw in
    let k = c.put_counted-first.ensures in
    let l = c.put_counted-second.ensures in
    let m = c.put_counted-third.ensures in
    let n = c.put_reason.ensures in
    let event = counted (spelled "event ") a.event in
    let clock = counted (spelled ", ") a.clock in
    let level = counted (spelled " ns, level ") a.level in
    let reason = reason_text a.reason in
    let out = c.args.out.now in record {
      value = rw e
          (omega (
            arith,
            k.value,
            l.value,
            m.value,
            n.value,
            then_place a.at event (clock ++ (level ++ reason)),
            then_place (a.at + length event) clock (level ++ reason),
            then_place (a.at + length event + length clock) level reason,
          ));
      out_after = rw e
          (n.out_after
          ∙ then_next c.put_counted-second.new.out c.put_counted-second.result level reason m.out_after m.value
          ∙ then_next c.put_counted-first.new.out c.put_counted-first.result clock (level ++ reason) l.out_after l.value
          ∙ then_next out a.at event (clock ++ (level ++ reason)) k.out_after k.value);
    }
