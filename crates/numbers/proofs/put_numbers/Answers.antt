use lib.ListN.{length, get_or}
use Prim.Native.Nat.{◌<◌}
use mathlib.Core.Path.{sym, ◌∙◌}
use native.Mathlib.Omega.{arith}
use Rattle.number.proofs.Laws.{written}
use Rattle.numbers.proofs.Laws.{size_on, written_on, past_is}
use Rattle.numbers.proofs.put_numbers.Goals as goal

pub unwrap-place-requires : goal.unwrap-place-requires
unwrap-place-requires c =
    let l = c.loop-v in
    let list = c.args.list.now in
    let w = written l.out l.place (get_or list l.v-index 0) (omega (arith, size_on list l.v-index (omega arith))) in
    rw (c.write_number.ensures.value ∙ w.0)

pub loop-v-preserved : goal.loop-v-preserved
loop-v-preserved c =
    let l = c.loop-v in
    let list = c.args.list.now in
    let h : l.v-index < length list = omega arith in
    let w = written l.out l.place (get_or list l.v-index 0) (omega (arith, size_on list l.v-index h)) in
    let next = past_is (sym c.unwrap-place.ensures ∙ c.write_number.ensures.value ∙ w.0) in
    record {
      size = omega (arith, next, size_on list l.v-index h);
      rest = rw (c.write_number.ensures.out_after, w.1, next) (written_on list l.v-index l.place l.out h) ∙ l.invariant.rest;
    }
