use mathlib.Core.Path.{sym, ap, ◌∙◌}
use Rattle.image.proofs.ImageLaws.{image_none, image_short, image_on}
use Rattle.lobrinkas.specs.Answers.{told_by}
use Rattle.lobrinkas.proofs.CallLaws.{why_malformed}
use Rattle.lobrinkas.proofs.PlainLaws.{plain_why}
use Rattle.lobrinkas.proofs.lobrinkas_why.Goals as goal

pub returns-in_default : goal.returns-in_default
returns-in_default c =
    let a = c.args in
    let bad = image_none a.image.now a.length (sym c.read_setup.ensures ∙ c.in_default.is) in
    c.refused_told.ensures ∙ why_malformed a.image.now a.length bad a.level

pub returns-in_default-part : goal.returns-in_default-part
returns-in_default-part c =
    let a = c.args in
    let bad = image_short a.image.now a.length (sym c.read_setup.ensures ∙ c.in-Ok.is) c.read_channel-rest.ensures c.in_default-part.is in
    c.refused_told-in_default-part.ensures ∙ why_malformed a.image.now a.length bad a.level

pub returns : goal.returns
returns c =
    let a = c.args in
    let rest = c.read_channel-rest in
    let read = image_on a.image.now a.length (sym c.read_setup.ensures ∙ c.in-Ok.is) rest.ensures c.in-Ok-part.is in
    c.told_by.ensures ∙ ap told_by c.why.ensures ∙ sym (plain_why a.image.now a.length (sym read) a.level)
