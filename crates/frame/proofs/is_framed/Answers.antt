use mathlib.Core.Path.{◌≡◌}
use Rattle.std.specs.Option.{is_some}
use Rattle.basics.proofs.Tests.{by_test}
use Rattle.frame.specs.declared.Setup.{Setup}
use Rattle.frame.specs.Frame.{is_framed}
use Rattle.frame.specs.Find.{framed_store}
use Rattle.frame.proofs.is_framed.Goals as goal

framed_some : (setup : Setup) → is_some (framed_store setup) ≡ is_framed setup
unfolding framed_store
framed_some setup = by_test (is_framed setup) (λ t. rw t) (λ f. rw f)

pub returns : goal.returns
returns c = rw (c.is_some.ensures, c.framed_store.ensures) (framed_some c.args.setup)
