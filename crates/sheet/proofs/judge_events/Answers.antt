use Prim.Native.Nat.{suc, ◌+◌, ◌-◌}
use mathlib.Core.Path.{◌≡◌, sym, ◌∙◌}
use native.Mathlib.Omega.{arith}
use Rattle.numbers.specs.Numbers.{number_at}
use Rattle.sheet.proofs.Laws.{events_on}
use Rattle.sheet.proofs.judge_events.Goals as goal

pub loop-preserved : goal.loop-preserved
loop-preserved c =
    let a = c.args in
    let l = c.loop in
    let more : a.n - l.counter ≡ suc (a.n - (l.counter + 1)) = omega arith in
    sym (events_on (number_at a.source) l.place more (sym c.judge_event.ensures ∙ c.in_ok-place.was)) ∙ l.invariant
