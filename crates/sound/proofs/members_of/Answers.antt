use Rattle.sound.proofs.TableLaws.{level_put}
use native.Mathlib.Omega.{arith}
use Rattle.sound.proofs.members_of.Goals as goal

pub loop-i-preserved-then-row-lt-PLACES_U32 : goal.loop-i-preserved-then-row-lt-PLACES_U32
loop-i-preserved-then-row-lt-PLACES_U32 c =
    let l = c.loop-i in
    level_put c.args.levels.now l.members _ l.i c.put_level.ensures (omega arith) (omega arith) (omega arith) l.invariant
