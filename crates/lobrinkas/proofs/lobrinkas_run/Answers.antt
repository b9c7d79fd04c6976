use mathlib.Core.Path.{sym, ap, ◌∙◌}
use Prim.Native.Nat.{ℕ, ◌<◌}
use lib.ListN.{get_or}
use native.Mathlib.Omega.{arith}
use Rattle.refusal.specs.declared.Refusal.{Refusal}
use Rattle.image.proofs.ImageLaws.{image_none, image_short, image_on}
use Rattle.image.proofs.WrittenBack.{image_writable}
use Rattle.lobrinkas.specs.Answers.{refused_ran}
use Rattle.lobrinkas.proofs.CallLaws.{all_bytes_lem, tail_of}
use Rattle.lobrinkas.proofs.RunLaws.{run_parts, run_malformed, run_short, run_is, left_with}
use Rattle.lobrinkas.proofs.lobrinkas_run.Goals as goal

pub returns-in_default : goal.returns-in_default
returns-in_default c =
    let a = c.args in
    let bad = image_none a.image.now a.length (sym c.read_setup.ensures ∙ c.in_default.is) in
    let all = run_parts (run_malformed a.image.now a.length bad a.slave.now a.master.now a.tally a.steps) in
    record {
      value = c.refused_run.ensures ∙ all.0;
      image_after = all.1.0;
      slave_after = all.1.1.0;
      master_after = all.1.1.1;
    }

pub returns-in_default-part : goal.returns-in_default-part
returns-in_default-part c =
    let a = c.args in
    let bad = image_short a.image.now a.length (sym c.read_setup.ensures ∙ c.in-Ok.is) c.read_channel-rest.ensures c.in_default-part.is in
    let all = run_parts (run_malformed a.image.now a.length bad a.slave.now a.master.now a.tally a.steps) in
    record {
      value = c.refused_run-in_default-part.ensures ∙ all.0;
      image_after = all.1.0;
      slave_after = all.1.1.0;
      master_after = all.1.1.1;
    }

pub returns-then-image-lt-IMAGE_MOST : goal.returns-then-image-lt-IMAGE_MOST
returns-then-image-lt-IMAGE_MOST c =
    let a = c.args in
    let image = c.args.image.now in
    let rest = c.read_channel-rest in
    let read = image_on image a.length (sym c.read_setup.ensures ∙ c.in-Ok.is) rest.ensures c.in-Ok-part.is in
    let all = run_parts (run_short c.in-Ok.setup rest.result.channel image a.length read a.slave.now a.master.now a.tally a.steps
    (omega arith)) in
    let short = c.short_run.ensures in record {
      value = c.refused_run-then-image-lt-IMAGE_MOST.ensures ∙ ap (λ (why : Refusal). refused_ran why a.length a.tally) short.value ∙ all.0;
      image_after = all.1.0;
      slave_after = short.slave_unchanged ∙ all.1.1.0;
      master_after = short.master_unchanged ∙ all.1.1.1;
    }

pub returns : goal.returns
returns c =
    let a = c.args in
    let image = c.args.image.now in
    let bytes : (i : ℕ) → get_or image i 0 < 256 = λ i. omega (arith, c.slice_known-1.given i) in
    let rest = c.read_channel-rest in
    let start = c.in-Ok.start in
    let read = image_on image a.length (sym c.read_setup.ensures ∙ c.in-Ok.is) rest.ensures c.in-Ok-part.is in
    let tail = tail_of image a.length bytes (sym c.read_setup.ensures ∙ c.in-Ok.is) in
    let shaped = (image_writable image a.length (all_bytes_lem image bytes) (sym read)).shaped in
    let ran = c.run-ran.ensures in
    let both = run_parts (left_with c.in-Ok.setup rest.result.channel image a.length start a.slave.now a.master.now a.tally a.steps
    ran.value ran.slave_after ran.master_after c.finish_run.ensures
    ∙ run_is c.in-Ok.setup rest.result.channel image a.length start tail a.slave.now a.master.now a.tally a.steps shaped
    (omega arith)
    read) in record {
      value = both.0;
      image_after = both.1.0;
      slave_after = both.1.1.0;
      master_after = both.1.1.1;
    }
