use Rattle.basics.specs.Limits.{places}
use Rattle.number.specs.Number.{read_number}
use Rattle.numbers.proofs.Laws.{at_most}
use Rattle.image.proofs.states.read_state.Goals as goal

pub phase_of-requires : goal.phase_of-requires
phase_of-requires c = at_most (read_number c.args.bytes.now) 0 places _ c.in_ok-clock.third c.number_in-2.ensures c.in_ok-owner.was
