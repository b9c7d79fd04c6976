use Rattle.step.proofs.AfterLaws.{some_left}
use Rattle.step.proofs.cycles.after_cycle.Goals as goal

pub leaves_at-requires-clause-left_nonzero : goal.leaves_at-requires-clause-left_nonzero
leaves_at-requires-clause-left_nonzero c =
    let a = c.args in
    some_left a.route a.asked a.clock a.request a.bytes c.requires.bytes_value _ c.rest_after-rest.ensures c.if-bytes-request.false
