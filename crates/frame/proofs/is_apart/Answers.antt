use Rattle.basics.proofs.ScanLaws.{all_more, all_miss}
use Rattle.basics.specs.Scan.{all_below}
use Rattle.frame.specs.Frame.{is_apart}
use mathlib.Core.Path.{◌≡◌, refl, sym, ◌∙◌}
use native.Mathlib.Omega.{arith}
use Rattle.frame.proofs.is_apart.Goals as goal

pub loop-j-init : goal.loop-j-init
unfolding all_below
loop-j-init c = refl

pub returns-then-not-are_apart : goal.returns-then-not-are_apart
unfolding is_apart
returns-then-not-are_apart c =
    sym (all_miss _ c.loop-j.j _ (omega arith) (sym c.are_apart.ensures ∙ c.if-not-are_apart.true))

pub loop-j-preserved : goal.loop-j-preserved
loop-j-preserved c =
    all_more _ c.loop-j.j c.loop-j.invariant (sym c.are_apart.ensures ∙ c.if-not-are_apart.false)

pub returns : goal.returns
unfolding is_apart
returns c =
    let e : c.loop-j.j ≡ c.args.i = omega arith in
    sym (rw e at c.loop-j.invariant)
