use Rattle.sound.proofs.TableLaws.{AreMembersFrom}
use Rattle.sound.proofs.members_of.Given as goal

abbrev pub invariant-loop-i : goal.invariant-loop-i
invariant-loop-i l = AreMembersFrom l.levels l.i l.members
