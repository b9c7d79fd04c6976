use mathlib.Core.Path.{refl, sym, ap, ◌∙◌}
use Rattle.sound.proofs.SoundFacts.{sound_is}
use Rattle.step.specs.Run.{Out}
use Rattle.step.proofs.GoingLaws.{goes_on, runs_on_lem, turnable, turned_by, place_below, nearer, start_lows, finished, first_come}
use Rattle.step.proofs.BeginLaws.{begun, begun_lows}
use Rattle.step.proofs.turns.run_steps.Goals as goal

pub begin-state-requires : goal.begin-state-requires
begin-state-requires c =
    let a = c.args in
    let x = start_lows a.setup.now a.channel.now _ _ _ c.requires.ready c.lowest-base.ensures in record {
      search = record { most = x.most; small = x.small; none = x.none; clear = x.clear };
      clock_value = λ never. rw c.standing_of.ensures (((sound_is a.setup.now a.channel.now c.requires.ready.sound).settled.never never).clock);
    }

pub loop-state-init : goal.loop-state-init
loop-state-init c =
    let a = c.args in
    let p = c.requires in
    let began = rw c.standing_of.ensures at c.begin-state.ensures in (
      begun_lows _ _ _ _ _ _ (start_lows a.setup.now a.channel.now _ _ _ p.ready c.lowest-base.ensures) began,
      begun a.setup.now a.budget _ _ _ _ _ _ a.slave.now a.master.now _ p.budget_nonzero
          (record { ready = p.ready; shaped = p.shaped; routed = c.routes_of-routes.ensures })
          began,
    )

pub bounds-routes-at : goal.bounds-routes-at
bounds-routes-at c = rw c.owner_place-at.ensures (place_below _ _ _ c.loop-state.invariant.1.going)

pub turn-state-requires : goal.turn-state-requires
turn-state-requires c =
    let l = c.loop-state in
    let more = goes_on l.state.done c.args.budget l.state.full c.loop-state-test.true in
    rw c.owner_place-at.ensures
    (turnable _ _ _ _ l.invariant.1.going more.1 more.0 _ _ c.requires.budget_le_steps_most l.invariant.0)

pub loop-state-smaller : goal.loop-state-smaller
loop-state-smaller c =
    let l = c.loop-state in
    let more = goes_on l.state.done c.args.budget l.state.full c.loop-state-test.true in
    let later = turned_by _ _ _ _ l.invariant.1.going more.1 more.0 _ _ c.owner_place-at.ensures
    c.turn-state.ensures.master_after in
    nearer _ _ _ _ _ more.1 more.0 (later.more more.0)

pub loop-state-preserved : goal.loop-state-preserved
loop-state-preserved c =
    let l = c.loop-state in
    let more = goes_on l.state.done c.args.budget l.state.full c.loop-state-test.true in
    let runs = l.invariant.1 in (
      c.turn-state.ensures.lows,
      runs_on_lem _ _ _ _ _ _ runs (turned_by _ _ _ _ runs.going more.1 more.0 _ _ c.owner_place-at.ensures
          c.turn-state.ensures.master_after),
    )

pub returns : goal.returns
returns c =
    let l = c.loop-state in
    let runs = l.invariant.1 in
    let e = sym (finished _ _ _ c.loop-state-test.false runs.least) ∙ runs.same ∙ first_come _ _ _ refl refl in record {
      value = rw (c.settle.ensures, c.verdict_of.ensures) (ap (λ (x : Out). x.result) e);
      slave_after = ap (λ (x : Out). x.slave) e;
      master_after = ap (λ (x : Out). x.master) e;
    }
