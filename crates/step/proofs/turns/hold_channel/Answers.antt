use mathlib.Core.Path.{◌≡◌, sym, ap, ◌∙◌}
use native.Mathlib.Omega.{arith}
use borrow.Author.Tests.{ltb-true, ltb-false, not-true, not-false}
use Prim.Native.Nat.{◌+◌, ◌-◌}
use Rattle.basics.specs.Limits.{clock_limit}
use Rattle.act.specs.Cycle.{is_kept}
use Rattle.step.specs.inner.Turns.{Held, held}
use Rattle.step.specs.declared.turns.Tenure.{Tenure}
use Rattle.step.proofs.PlanLaws.{carry_room}
use Rattle.step.proofs.HeldLaws.{held_full, held_ends, held_on, kept_some, roomy_on, cycled_facts}
use Rattle.step.proofs.turns.hold_channel.Goals as goal

pub returns-then-is_full : goal.returns-then-is_full
returns-then-is_full c =
    let l = c.loop-tenure in
    let full = ltb-true clock_limit _ (sym c.is_full.ensures ∙ c.if-is_full.true) in
    let e = sym (held_full _ _ _ l.tenure l.slave l.master c.loop-tenure-test.true full) ∙ l.invariant.2 in
    record {
      value = c.fill.ensures ∙ ap (λ (x : Held). x.tenure) e;
      slave_after = ap (λ (x : Held). x.slave) e;
      master_after = ap (λ (x : Held). x.master) e;
    }

pub carry-requires : goal.carry-requires
carry-requires c =
    let r = c.loop-tenure.invariant.0 in
    rw c.carry_of.ensures (carry_room _ c.loop-tenure.tenure.request _ _ r)

pub returns-then-not-is_kept : goal.returns-then-not-is_kept
returns-then-not-is_kept c =
    let l = c.loop-tenure in
    let what = c.carry_of.ensures in
    let k = c.carry.ensures in
    let t = c.cycle_on-tenure.ensures in
    let room = ltb-false clock_limit _ (sym c.is_full.ensures
    ∙ c.if-is_full.false) in
    let f = sym (ap (λ (x : Tenure). is_kept x.ending) t) ∙ sym c.is_kept.ensures
    ∙ not-true c.is_kept.result c.if-not-is_kept.true-raw in
    let e = sym (held_ends _ _ _ l.tenure l.slave l.master c.loop-tenure-test.true room f) ∙ l.invariant.2 in record {
      value = t ∙ ap (λ (x : Held). x.tenure) e;
      slave_after = rw what at k.slave_after ∙ ap (λ (x : Held). x.slave) e;
      master_after = rw what at k.master_after ∙ ap (λ (x : Held). x.master) e;
    }

pub loop-tenure-smaller : goal.loop-tenure-smaller
loop-tenure-smaller c =
    let d = ap (λ (x : Tenure). x.done) c.cycle_on-tenure.ensures ∙ (cycled_facts _ _ _).1 in
    omega (arith, d, c.loop-tenure-test.true)

pub loop-tenure-preserved : goal.loop-tenure-preserved
loop-tenure-preserved c =
    let l = c.loop-tenure in
    let what = c.carry_of.ensures in
    let k = c.carry in
    let t = c.cycle_on-tenure.ensures in
    let a = c.args in
    let facts = cycled_facts a.route a.asked l.tenure in
    let room = ltb-false clock_limit (l.tenure.clock + a.route.time) (sym c.is_full.ensures
    ∙ c.if-is_full.false) in
    let f = sym (ap (λ (x : Tenure). is_kept x.ending) t) ∙ sym c.is_kept.ensures
    ∙ not-false c.is_kept.result c.if-not-is_kept.false-raw in
    let some = kept_some a.route l.tenure.request l.invariant.0.way a.asked _ (rw facts.3 at f) in
    let n = c.carry.auto.slave in
    let m = c.carry.auto.master in (
      rw (t, n, m, facts.2) (roomy_on _ _ l.invariant.0.way _ _ l.invariant.0 some),
      rw t (omega (arith, facts.0, room)),
      rw (t, rw what at k.ensures.slave_after, rw what at k.ensures.master_after)
          (sym (held_on _ _ _ l.tenure l.slave l.master c.loop-tenure-test.true room f) ∙ l.invariant.2),
      n ∙ l.invariant.3,
      m ∙ l.invariant.4,
    )

pub returns : goal.returns
unfolding held
returns c =
    let l = c.loop-tenure in
    let d : c.args.budget - l.tenure.done ≡ 0 = omega arith in
    let e = rw d at l.invariant.2 in
    record {
      value = ap (λ (x : Held). x.tenure) e;
      slave_after = ap (λ (x : Held). x.slave) e;
      master_after = ap (λ (x : Held). x.master) e;
    }
