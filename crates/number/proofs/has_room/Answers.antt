use borrow.Author.Tests.{le-leb}
use mathlib.Core.Path.{sym}
use native.Mathlib.Omega.{arith}
use Rattle.number.specs.Number.{number_size}
use Rattle.number.proofs.Laws.{bytes_most}
use Rattle.number.proofs.has_room.Goals as goal

pub returns-then-room-ge5 : goal.returns-then-room-ge5
returns-then-room-ge5 c = let a = c.args in sym (le-leb (number_size a.v) a.room (omega (arith, bytes_most a.v)))
