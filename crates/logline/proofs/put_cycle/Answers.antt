use Rattle.act.specs.Entry.{cycle_fields}
use Rattle.logline.proofs.put_cycle.Goals as goal

pub returns : goal.returns
unfolding cycle_fields
returns c =
    let k = c.put_line.ensures in
    let e = c.ending_number.ensures in
    record {
      value = rw (← e) k.value;
      out_after = rw (← e) k.out_after;
    }
