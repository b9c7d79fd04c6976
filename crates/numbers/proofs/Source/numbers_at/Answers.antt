use Prim.Native.Nat.{suc, ◌+◌, ◌-◌}
use lib.ListN.{length-set}
use mathlib.Core.Path.{◌≡◌, sym, ◌∙◌}
use native.Mathlib.Omega.{arith}
use Rattle.numbers.specs.Numbers.{number_at, numbers_at}
use Rattle.numbers.proofs.Laws.{passed_on, passed_fault, numbers_end, stored_on, taken_is}
use Rattle.numbers.proofs.Source.numbers_at.Goals as goal

pub returns-in-Err : goal.returns-in-Err
unfolding numbers_at
returns-in-Err c =
    let l = c.loop-i in
    let src = number_at c.args.self in
    let more : c.min-i-end.result - l.i ≡ suc (c.min-i-end.result - (l.i + 1)) = omega arith in
    let r = sym c.number_at.ensures ∙ c.in-Err.is in
    rw c.min-i-end.ensures at
    (taken_is src c.args.at c.min-i-end.result
    (rw (numbers_end src _ l.place r) at l.invariant.values)
    (sym (passed_fault src l.place more r) ∙ l.invariant.part))

pub loop-i-preserved : goal.loop-i-preserved
loop-i-preserved c =
    let l = c.loop-i in
    let src = number_at c.args.self in
    let more : c.min-i-end.result - l.i ≡ suc (c.min-i-end.result - (l.i + 1)) = omega arith in
    let r = sym c.number_at.ensures ∙ c.in-Ok.is in
    record {
      part = sym (passed_on src l.place more r) ∙ l.invariant.part;
      values = stored_on src l.place more l.values l.i r ∙ l.invariant.values;
      places = simp length-set l.invariant.places;
    }

pub returns : goal.returns
unfolding numbers_at
returns c =
    let l = c.loop-i in
    let none : c.min-i-end.result - l.i ≡ 0 = omega arith in
    rw c.min-i-end.ensures at
    (taken_is (number_at c.args.self) c.args.at c.min-i-end.result (rw none at l.invariant.values) (rw none at l.invariant.part))
