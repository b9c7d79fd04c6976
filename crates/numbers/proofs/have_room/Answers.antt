use borrow.Author.Tests.{le-leb}
use lib.ListN.{length}
use mathlib.Core.Path.{sym}
use native.Mathlib.Omega.{arith}
use Rattle.numbers.proofs.Laws.{sizes_most}
use Rattle.numbers.specs.Numbers.{all_bytes}
use Rattle.numbers.proofs.have_room.Goals as goal

pub returns-then-list-room : goal.returns-then-list-room
returns-then-list-room c =
    let a = c.args in
    let list = c.args.list.now in
    sym (le-leb (length (all_bytes list)) a.room (omega (arith, sizes_most list)))
