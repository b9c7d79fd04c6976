use Prim.Native.Nat.{◌/◌}
use mathlib.Core.Path.{sym}
use native.Mathlib.Omega.{arith}
use Rattle.number.specs.Number.{bytes_of}
use Rattle.number.proofs.Laws.{size_last, size_more}
use Rattle.number.proofs.number_size.Goals as goal

pub returns-then-v-lt128 : goal.returns-then-v-lt128
unfolding bytes_of
returns-then-v-lt128 c = let v = c.args.v in sym (size_last 4 v (omega arith))

pub returns-then-v-lt16384 : goal.returns-then-v-lt16384
unfolding bytes_of
returns-then-v-lt16384 c = let v = c.args.v in sym (size_more 3 v 1 (omega arith) (size_last 3 (v / 128) (omega arith)))

pub returns-then-v-lt2097152 : goal.returns-then-v-lt2097152
unfolding bytes_of
returns-then-v-lt2097152 c =
    let v = c.args.v in
    let w = v / 128 in
    sym (size_more 3 v 2 (omega arith) (size_more 2 w 1 (omega arith) (size_last 2 (w / 128) (omega arith))))

pub returns-then-v-lt268435456 : goal.returns-then-v-lt268435456
unfolding bytes_of
returns-then-v-lt268435456 c =
    let v = c.args.v in
    let w = v / 128 in
    let x = w / 128 in
    sym
    (size_more 3 v 3 (omega arith)
    (size_more 2 w 2 (omega arith)
    (size_more 1 x 1 (omega arith)
    (size_last 1 (x / 128) (omega arith)))))

pub returns-else-v-lt268435456 : goal.returns-else-v-lt268435456
unfolding bytes_of
returns-else-v-lt268435456 c =
    let v = c.args.v in
    let w = v / 128 in
    let x = w / 128 in
    let y = x / 128 in
    sym
    (size_more 3 v 4 (omega arith)
    (size_more 2 w 3 (omega arith)
    (size_more 1 x 2 (omega arith)
    (size_more 0 y 1 (omega arith)
    (size_last 0 (y / 128) (omega arith))))))
