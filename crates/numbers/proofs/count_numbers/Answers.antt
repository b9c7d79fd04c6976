use Prim.Native.Nat.{suc, ◌+◌, ◌-◌}
use lib.ListN.{length}
use mathlib.Core.Path.{◌≡◌, sym, ap, ◌∙◌}
use native.Mathlib.Nat.{sub-zero, zero-add}
use native.Mathlib.Omega.{arith}
use Rattle.number.specs.Number.{read_number}
use Rattle.number.proofs.Laws.{read_within}
use Rattle.numbers.specs.Numbers.{numbers_of}
use Rattle.numbers.proofs.Laws.{numbers_on}
use Rattle.numbers.proofs.count_numbers.Goals as goal

pub loop-next-init : goal.loop-next-init
unfolding numbers_of
loop-next-init c = record { most = omega arith; inside = omega arith; rest = rw (sub-zero, zero-add) }

pub loop-next-smaller : goal.loop-next-smaller
loop-next-smaller c = omega (arith, read_within c.args.bytes.now c.loop-next.at (sym c.read_number.ensures ∙ c.in-Ok.is))

pub loop-next-preserved : goal.loop-next-preserved
loop-next-preserved c =
    let l = c.loop-next in
    let s = c.args.bytes.now in
    let r = sym c.read_number.ensures ∙ c.in-Ok.is in
    let w = read_within s l.at r in
    let more : length s - l.count ≡ suc (length s - (l.count + 1)) = omega arith in
    record {
      most = omega arith;
      inside = omega arith;
      rest = omega (arith, l.invariant.rest, ap length (numbers_on (read_number s) l.at more r));
    }
