use mathlib.Core.Path.{sym, ap, ◌∙◌}
use native.Mathlib.Omega.{arith}
use Rattle.channel.specs.declared.Judged.{Judged}
use Rattle.image.proofs.ImageLaws.{image_none, image_short, image_on}
use Rattle.lobrinkas.specs.Calls.{Answered, order}
use Rattle.lobrinkas.specs.inner.Finish.{answer_finished}
use Rattle.lobrinkas.proofs.CallLaws.{post_malformed, post_is, tail_of}
use Rattle.lobrinkas.proofs.lobrinkas_post.Goals as goal

pub returns-in_default : goal.returns-in_default
returns-in_default c =
    let a = c.args in
    let p = order a.level a.direction a.space a.address a.bytes a.offset in
    let bad = image_none a.image.now a.length (sym c.read_setup.ensures ∙ c.in_default.is) in
    let all = post_malformed a.image.now a.length bad p in
    record {
      value = c.refused_answer.ensures ∙ ap (λ (x : Answered). x.result) all;
      image_after = ap (λ (x : Answered). x.image) all;
    }

pub returns-in_default-part : goal.returns-in_default-part
returns-in_default-part c =
    let a = c.args in
    let p = order a.level a.direction a.space a.address a.bytes a.offset in
    let bad = image_short a.image.now a.length (sym c.read_setup.ensures ∙ c.in-Ok.is) c.read_channel-rest.ensures c.in_default-part.is in
    let all = post_malformed a.image.now a.length bad p in
    record {
      value = c.refused_answer-in_default-part.ensures ∙ ap (λ (x : Answered). x.result) all;
      image_after = ap (λ (x : Answered). x.image) all;
    }

pub returns : goal.returns
returns c =
    let a = c.args in
    let image = c.args.image.now in
    let p = order a.level a.direction a.space a.address a.bytes a.offset in
    let rest = c.read_channel-rest in
    let read = image_on image a.length (sym c.read_setup.ensures ∙ c.in-Ok.is) rest.ensures c.in-Ok-part.is in
    let tail = tail_of image a.length (λ i. omega (arith, c.slice_known-1.given i)) (sym c.read_setup.ensures ∙ c.in-Ok.is) in
    let plain = ap (λ (j : Judged). answer_finished j image a.length c.in-Ok.start) c.post.ensures in
    let all = c.finish_answer.ensures ∙ plain
    ∙ post_is c.in-Ok.setup image c.in-Ok.start tail a.length rest.result.channel read p in
    record {
      value = ap (λ (x : Answered). x.result) all;
      image_after = ap (λ (x : Answered). x.image) all;
    }
