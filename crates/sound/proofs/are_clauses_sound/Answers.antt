use Rattle.sound.proofs.TableLaws.{clauses_sound}
use Rattle.std.proofs.Common.{rules}
use Rattle.sound.proofs.are_clauses_sound.Goals as goal

pub returns-then-is_clock_sound : goal.returns-then-is_clock_sound
returns-then-is_clock_sound c = rw (← clauses_sound c.args.setup.now c.args.channel.now c.args.members.now c.requires) (search rules)

pub returns-else-is_clock_sound : goal.returns-else-is_clock_sound
returns-else-is_clock_sound c = rw (← clauses_sound c.args.setup.now c.args.channel.now c.args.members.now c.requires) (search rules)
