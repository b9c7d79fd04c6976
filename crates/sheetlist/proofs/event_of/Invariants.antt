use mathlib.Core.Path.{◌≡◌}
use Rattle.sheetlist.specs.Held.{event_from}
use Rattle.sheetlist.proofs.event_of.Given as goal

abbrev pub invariant-loop : goal.invariant-loop
invariant-loop l = l.at ≡ event_from l.list l.counter
