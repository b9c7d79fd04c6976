use Prim.Native.Nat.{suc, ◌+◌, ◌-◌}
use lib.ListN.{length}
use mathlib.Core.Path.{◌≡◌, sym, ap, ◌∙◌}
use native.Mathlib.Nat.{sub-zero, zero-add}
use native.Mathlib.Omega.{arith}
use Rattle.number.specs.Number.{read_number}
use Rattle.number.proofs.Laws.{read_within}
use Rattle.numbers.specs.Numbers.{numbers_of}
use Rattle.numbers.proofs.Laws.{numbers_on, stored_on}
use Rattle.numbers.proofs.put_copy.Goals as goal

pub loop-v-init : goal.loop-v-init
unfolding numbers_of
loop-v-init c = record { most = omega arith; inside = omega arith; count = rw (sub-zero, zero-add); rest = rw sub-zero }

pub bounds-out-i : goal.bounds-out-i
bounds-out-i c =
    let l = c.loop-v in
    let s = c.args.bytes.now in
    let r = sym c.read_number.ensures ∙ c.in-Ok.is in
    let w = read_within s l.at r in
    let more : length s - l.i ≡ suc (length s - (l.i + 1)) = omega arith in
    omega (arith, l.invariant.count, ap length (numbers_on (read_number s) l.at more r))

pub loop-v-smaller : goal.loop-v-smaller
loop-v-smaller c = omega (arith, read_within c.args.bytes.now c.loop-v.at (sym c.read_number.ensures ∙ c.in-Ok.is))

pub loop-v-preserved : goal.loop-v-preserved
loop-v-preserved c =
    let l = c.loop-v in
    let s = c.args.bytes.now in
    let r = sym c.read_number.ensures ∙ c.in-Ok.is in
    let w = read_within s l.at r in
    let more : length s - l.i ≡ suc (length s - (l.i + 1)) = omega arith in
    record {
      most = omega arith;
      inside = omega arith;
      count = omega (arith, l.invariant.count, ap length (numbers_on (read_number s) l.at more r));
      rest = stored_on (read_number s) l.at more l.out l.i r ∙ l.invariant.rest;
    }
