use mathlib.Core.Path.{◌∙◌}
use Rattle.step.proofs.MachineLaws.{place_small, actable, decision_made}
use Rattle.step.proofs.decide_ready.Goals as goal

pub request_at-request-requires : goal.request_at-request-requires
request_at-request-requires c =
    let a = c.args in
    let p = c.requires in
    rw c.owner_place-at.ensures (place_small a.setup.now a.channel.now a.tally _ _ p.ready p.shaped)

pub route_for-route-requires : goal.route_for-route-requires
route_for-route-requires c =
    let a = c.args in
    let p = c.requires in
    rw c.owner_place-at.ensures (place_small a.setup.now a.channel.now a.tally _ _ p.ready p.shaped)

pub act_on-decided-requires : goal.act_on-decided-requires
act_on-decided-requires c =
    let a = c.args in
    let p = c.requires in
    rw c.standing_of-standing.ensures
    (actable a.setup.now a.channel.now a.tally _ _ p.ready p.shaped _ c.owner_place-at.ensures _
    c.request_at-request.ensures _ c.route_for-route.ensures)

pub put_request-requires : goal.put_request-requires
put_request-requires c =
    let a = c.args in
    let p = c.requires in
    rw c.owner_place-at.ensures (place_small a.setup.now a.channel.now a.tally _ _ p.ready p.shaped)

pub returns : goal.returns
returns c =
    let a = c.args in
    let p = c.requires in
    let d = rw c.standing_of-standing.ensures at c.act_on-decided.ensures in
    decision_made a.setup.now a.channel.now a.tally _ _ p.ready p.shaped _ c.owner_place-at.ensures _
    c.request_at-request.ensures _ c.route_for-route.ensures
    _ _ _ _ d.value d.channel_after c.put_request.ensures (c.settle.ensures ∙ rw c.ever_by.ensures)
