use Rattle.basics.proofs.ScanLaws.{any_hit, any_more}
use Rattle.basics.specs.Limits.{places}
use Rattle.basics.specs.Scan.{any_below}
use Rattle.channel.specs.Line.{drives, line_active}
use mathlib.Core.Path.{◌≡◌, refl, sym}
use native.Mathlib.Omega.{arith}
use Rattle.channel.proofs.line_active.Goals as goal

pub loop-level-init : goal.loop-level-init
unfolding any_below
loop-level-init c = refl

pub returns-then-left-level : goal.returns-then-left-level
unfolding line_active drives
returns-then-left-level c =
    let l = c.loop-level in
    rw (← c.owner_of-owner.ensures) (sym (any_hit _ l.level places (omega arith) c.if-left-level.true))

pub loop-level-preserved : goal.loop-level-preserved
unfolding drives
loop-level-preserved c =
    let l = c.loop-level in
    any_more _ l.level l.invariant c.if-left-level.false

pub returns : goal.returns
unfolding line_active
returns c =
    let e : c.loop-level.level ≡ places = omega arith in
    rw (← c.owner_of-owner.ensures) (sym (rw e at c.loop-level.invariant))
