use mathlib.Core.List.{[], ◌∷◌}
use native.Mathlib.Omega.{arith}
use Rattle.number.proofs.Laws.{bytes_most}
use Rattle.image.proofs.WriteLaws.{laid_one, laid_both}
use Rattle.image.proofs.writing.put_asked.Goals as goal

pub put_one-requires : goal.put_one-requires
put_one-requires c = omega (arith, bytes_most 0)

pub put_one-next-requires : goal.put_one-next-requires
put_one-next-requires c = omega (arith, bytes_most 1)

pub put_one-requires-in-Some : goal.put_one-requires-in-Some
put_one-requires-in-Some c =
    omega (arith, bytes_most 1, bytes_most c.in-Some.time)

pub returns-in-Some : goal.returns-in-Some
returns-in-Some c =
    let a = c.args in
    let first = c.put_one-next in
    let second = c.put_one-in-Some in
    let time = c.in-Some.time in
    let both = laid_both a.row.now a.at (1 ∷ []) (time ∷ [])
    (laid_one a.row.now a.at 1 (first.ensures.value, first.ensures.row_after))
    (laid_one first.new.row first.result time (second.ensures.value, second.ensures.row_after)) in
    rw c.in-Some.is (record { value = both.0; row_after = both.1 })
