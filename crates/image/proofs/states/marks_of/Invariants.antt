use Prim.Native.Nat.{◌-◌}
use mathlib.Core.Path.{◌≡◌}
use lib.Seq.{sets}
use Rattle.basics.specs.Limits.{places}
use Rattle.image.specs.Read.{marks_of}
use Rattle.image.proofs.states.marks_of.Given as goal

abbrev pub invariant-loop-level : goal.invariant-loop-level
invariant-loop-level l = sets l.marks l.level (marks_of (places - l.level) l.rest) ≡ marks_of places l.number
