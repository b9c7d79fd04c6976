use Rattle.step.proofs.SearchLaws.{is, chosen_active, chosen_quiet, winner_small}
use mathlib.Core.Path.{sym, ◌∙◌}
use native.Mathlib.Omega.{arith}
use Rattle.step.proofs.acts.choose.Goals as goal

pub overflow_add-winner : goal.overflow_add-winner
overflow_add-winner c =
    let w = is c.args.channel.now _ _ _ c.requires c.winner_from-winner.ensures in
    record { fits = omega (arith, w, winner_small c.args.channel.now.left c.args.channel.now.inactive) }

pub returns-then-waits_from : goal.returns-then-waits_from
returns-then-waits_from c =
    chosen_active c.args.channel.now _ _ _ c.requires c.winner_from-winner.ensures
    (sym c.waits_from.ensures ∙ c.if-waits_from.true)

pub returns : goal.returns
returns c =
    chosen_quiet c.args.channel.now _ _ _ c.requires
    c.winner_from-winner.ensures _
    (sym c.waits_from.ensures ∙ c.if-waits_from.false)
    c.others_from-active.ensures
