use mathlib.Core.Path.{◌≡◌}
use lib.ListN.{length, drop}
use Rattle.basics.specs.Limits.{places}
use Rattle.image.specs.Layout.{marks_number}
use Rattle.image.proofs.writing.marks_number.Given as goal

abbrev pub invariant-loop-level : goal.invariant-loop-level
invariant-loop-level l = record { places_all : length l.marks ≡ places; sum : l.sum ≡ marks_number (drop l.level l.marks) }
