use Prim.Native.Nat.{ℕ, ◌+◌, ◌-◌, ◌*◌, ◌≤◌}
use mathlib.Core.List.{List}
use Rattle.basics.specs.Limits.{places}
use Rattle.image.specs.Layout.{requests_numbers}
use Rattle.image.proofs.WriteLaws.{Laid}
use Rattle.image.proofs.writing.put_requests.Given as goal

abbrev pub invariant-loop-level : goal.invariant-loop-level
invariant-loop-level l = record {
  most : l.place ≤ l.at + 25 * l.level;
  rest : (end : ℕ) (after : List ℕ) → Laid l.row l.place (requests_numbers l.channel (places - l.level) l.level) end after
      → Laid l.initial.row l.at (requests_numbers l.channel places 0) end after;
}
