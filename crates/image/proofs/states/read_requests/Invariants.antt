use Prim.Native.Nat.{◌-◌}
use mathlib.Core.Path.{◌≡◌}
use Rattle.basics.specs.Limits.{places}
use Rattle.number.specs.Number.{read_number}
use Rattle.image.specs.Read.{requests_at}
use Rattle.image.proofs.states.read_requests.Given as goal

abbrev pub invariant-loop-level : goal.invariant-loop-level
invariant-loop-level l =
    requests_at (read_number l.bytes) (places - l.level) l.level l.channel l.place ≡ requests_at (read_number l.bytes) places 0 l.initial.channel l.at
