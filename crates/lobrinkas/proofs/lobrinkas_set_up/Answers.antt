use mathlib.Core.Path.{sym, ap, ◌∙◌}
use Rattle.lobrinkas.specs.Calls.{Answered}
use Rattle.lobrinkas.proofs.SetUpLaws.{set_up_done}
use Rattle.lobrinkas.proofs.lobrinkas_set_up.Goals as goal

pub returns-in-Ok : goal.returns-in-Ok
returns-in-Ok c =
    let a = c.args in
    let all = c.finish_set_up.ensures ∙ set_up_done a.image.now a.head.now a.master_length (sym c.read_head.ensures ∙ c.in-Ok.is) in
    record {
      value = ap (λ (x : Answered). x.result) all;
      image_after = ap (λ (x : Answered). x.image) all;
    }
