use mathlib.Core.Path.{refl, sym, ap, ◌∙◌}
use native.Mathlib.Omega.{arith}
use Rattle.step.specs.Log.{LoggedOut}
use Rattle.step.proofs.GoingLaws.{place_below, loggable, nearer}
use Rattle.step.proofs.LogLaws.{goes, logs_first, logs_on, logs_more, log_finished, log_first}
use Rattle.step.proofs.logs.log_steps.Goals as goal

pub loop-log-init : goal.loop-log-init
loop-log-init c =
    rw c.standing_of.ensures
    (logs_first c.args.setup.now c.args.budget _ _ refl
    (record { ready = c.requires.ready; shaped = c.requires.shaped; routed = c.routes_of-routes.ensures }))

pub bounds-routes-place : goal.bounds-routes-place
bounds-routes-place c = rw c.owner_place-place.ensures (place_below _ _ _ c.loop-log.invariant.going)

pub log_step-log-requires : goal.log_step-log-requires
log_step-log-requires c =
    let l = c.loop-log in
    let more = goes l.log.done c.args.budget l.log.full _ c.loop-log-test.true in
    let here = c.owner_place-place.ensures in
    record {
      place_value = here;
      loggable = rw here (loggable _ _ _ l.invariant.going (omega (arith, more.0, c.requires.budget_le_steps_most)));
    }

pub loop-log-smaller : goal.loop-log-smaller
loop-log-smaller c =
    let l = c.loop-log in
    let more = goes l.log.done c.args.budget l.log.full _ c.loop-log-test.true in
    nearer _ _ _ _ _ more.1 more.0
    (logs_more _ _ _ _ _ l.invariant more.0 more.1 (sym c.has_room.ensures ∙ more.2) _
    c.owner_place-place.ensures _ c.log_step-log.ensures)

pub loop-log-preserved : goal.loop-log-preserved
loop-log-preserved c =
    let l = c.loop-log in
    let more = goes l.log.done c.args.budget l.log.full _ c.loop-log-test.true in
    logs_on _ _ _ _ _ l.invariant more.0 more.1 (sym c.has_room.ensures ∙ more.2) _
    c.owner_place-place.ensures _ c.log_step-log.ensures

pub returns : goal.returns
returns c =
    let logs = c.loop-log.invariant in
    let e = sym (log_finished _ _ _ _ c.has_room.ensures c.loop-log-test.false logs.least) ∙ logs.same
    ∙ log_first _ _ _ refl refl in record {
      value = rw (c.settle.ensures, c.verdict_of.ensures) (ap (λ (x : LoggedOut). x.result) e);
      slave_after = ap (λ (x : LoggedOut). x.slave) e;
      master_after = ap (λ (x : LoggedOut). x.master) e;
      out_after = ap (λ (x : LoggedOut). x.out) e;
    }
