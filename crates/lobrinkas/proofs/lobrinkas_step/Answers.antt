use mathlib.Core.Path.{sym, ap, ◌∙◌}
use native.Mathlib.Omega.{arith}
use Rattle.step.specs.declared.Decision.{Decision}
use Rattle.image.proofs.ImageLaws.{image_none, image_short, image_on}
use Rattle.lobrinkas.specs.inner.Finish.{step_finished}
use Rattle.lobrinkas.proofs.CallLaws.{step_malformed, stepped_is, tail_of, parts}
use Rattle.lobrinkas.proofs.lobrinkas_step.Goals as goal

pub returns-in_default : goal.returns-in_default
returns-in_default c =
    let a = c.args in
    let bad = image_none a.image.now a.length (sym c.read_setup.ensures ∙ c.in_default.is) in
    let all = parts (step_malformed a.image.now a.length bad a.slave.now a.master.now a.tally) in
    record {
      value = c.refused_step.ensures ∙ all.0;
      image_after = all.1.0;
      slave_after = all.1.1.0;
      master_after = all.1.1.1;
    }

pub returns-in_default-part : goal.returns-in_default-part
returns-in_default-part c =
    let a = c.args in
    let bad = image_short a.image.now a.length (sym c.read_setup.ensures ∙ c.in-Ok.is) c.read_channel-rest.ensures c.in_default-part.is in
    let all = parts (step_malformed a.image.now a.length bad a.slave.now a.master.now a.tally) in
    record {
      value = c.refused_step-in_default-part.ensures ∙ all.0;
      image_after = all.1.0;
      slave_after = all.1.1.0;
      master_after = all.1.1.1;
    }

pub returns : goal.returns
returns c =
    let a = c.args in
    let image = c.args.image.now in
    let rest = c.read_channel-rest in
    let start = c.in-Ok.start in
    let read = image_on image a.length (sym c.read_setup.ensures ∙ c.in-Ok.is) rest.ensures c.in-Ok-part.is in
    let tail = tail_of image a.length (λ i. omega (arith, c.slice_known-1.given i)) (sym c.read_setup.ensures ∙ c.in-Ok.is) in
    let plain = ap (λ (d : Decision). step_finished d a.tally image a.length start a.slave.now a.master.now) c.decision_of-decision.ensures in
    let both = parts (c.finish_step.ensures ∙ plain
    ∙ stepped_is c.in-Ok.setup image start tail a.length rest.result.channel read a.slave.now a.master.now a.tally) in record {
      value = both.0;
      image_after = both.1.0;
      slave_after = both.1.1.0;
      master_after = both.1.1.1;
    }
