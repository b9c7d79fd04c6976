use Prim.Native.Nat.{◌-◌}
use mathlib.Core.Path.{◌≡◌}
use Rattle.numbers.specs.Numbers.{number_at}
use Rattle.sheet.specs.Sheet.{events}
use Rattle.sheet.proofs.judge_events.Given as goal

abbrev pub invariant-loop : goal.invariant-loop
invariant-loop l = events (number_at l.source) (l.n - l.counter) l.place ≡ events (number_at l.source) l.n l.at
