use mathlib.Core.Path.{◌≡◌}
use lib.ListN.{length}
use Rattle.basics.specs.Limits.{places}
use Rattle.channel.specs.Channel.{request_of}
use Rattle.step.specs.inner.Turns.{AreRoutes}
use Rattle.step.proofs.turns.routes_of.Given as goal

abbrev pub invariant-loop-level : goal.invariant-loop-level
invariant-loop-level l = (length l.routes ≡ places) × AreRoutes l.setup (request_of l.channel) l.routes l.level
