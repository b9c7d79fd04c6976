use Rattle.basics.proofs.ScanLaws.{first_hit, first_miss, first_none}
use Rattle.basics.specs.Limits.{places, system_master}
use Rattle.channel.specs.Line.{waits, winner_from}
use mathlib.Core.Path.{refl, sym, ◌∙◌}
use native.Mathlib.Omega.{arith}
use Rattle.channel.proofs.winner_from.Goals as goal

pub loop-level-init : goal.loop-level-init
unfolding winner_from
loop-level-init c = refl

pub returns-then-left-at : goal.returns-then-left-at
unfolding waits
returns-then-left-at c =
    let l = c.loop-level in
    sym (first_hit _ l.level places system_master (omega arith) c.if-left-at.true) ∙ l.invariant

pub loop-level-preserved : goal.loop-level-preserved
unfolding waits
loop-level-preserved c =
    let l = c.loop-level in
    sym (first_miss _ l.level places system_master (omega arith) c.if-left-at.false) ∙ l.invariant

pub returns : goal.returns
returns c = sym (first_none _ c.loop-level.level places system_master (omega arith)) ∙ c.loop-level.invariant
