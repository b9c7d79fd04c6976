use Rattle.step.proofs.LogLaws.{log_done, log_full}
use Rattle.step.proofs.logs.log_step.Goals as goal

pub returns-in_default : goal.returns-in_default
returns-in_default c =
    let a = c.args in
    let d = c.act_on-decided.ensures in
    let k = c.carry.ensures in
    log_full a.route a.log a.first a.channel.now a.slave.now a.master.now a.out.now _ c.requires.place_value _ c.request_at-request.ensures
    _ _ d.value d.channel_after _ c.put_request.ensures _ _ (k.slave_after, k.master_after) _ c.in_default.is

pub returns : goal.returns
returns c =
    let a = c.args in
    let d = c.act_on-decided.ensures in
    let k = c.carry.ensures in
    log_done a.route a.log a.first a.channel.now a.slave.now a.master.now a.out.now _ c.requires.place_value _ c.request_at-request.ensures
    _ _ d.value d.channel_after _ c.put_request.ensures _ _ (k.slave_after, k.master_after) _ _ _ c.in-Ok.is
    c.put_entry-end.ensures.value c.put_entry-end.ensures.out_after
