use mathlib.Core.Path.{refl}
use Rattle.step.proofs.PutLaws.{put_back}
use Rattle.step.proofs.turns.run_cycles.Goals as goal

pub returns : goal.returns
returns c =
    let a = c.args in
    let p = c.requires in
    let h = rw p.request_value at c.hold_channel-tenure.ensures in record {
      master_after = put_back a.state a.channel.now a.at p.at_value _ _ _ _ _ _ _ a.state.low h.value c.standing_after.ensures
          c.is_marked.ensures c.put_request.ensures h.slave_after h.master_after;
      low_value = refl;
    }
