use Rattle.channel.proofs.RequestLaws.{no_place}
use Rattle.channel.specs.Channel.{Shaped, with_request}
use borrow.Author.Rules.{rules}
use mathlib.Core.Path.{refl, sym}
use native.Mathlib.Omega.{arith}
use Rattle.channel.proofs.with_request.Goals as goal

pub returns-then-level-ge-PLACES : goal.returns-then-level-ge-PLACES
returns-then-level-ge-PLACES c =
    let a = c.args in
    let s : Shaped a.channel = record {
      inactive = search rules;
      direction = search rules;
      space = search rules;
      address = search rules;
      left = search rules;
      offset = search rules;
    } in
    sym (no_place a.channel a.level a.request s (omega arith))

pub returns : goal.returns
unfolding with_request
returns c = refl
