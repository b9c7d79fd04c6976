use Prim.Native.Nat.{◌+◌, ◌-◌}
use mathlib.Core.Path.{◌≡◌}
use mathlib.Core.List.{append_assoc}
use native.Mathlib.Omega.{arith}
use lib.ListN.{length, take, drop}
use lib.Seq.{sets-eq, drop-drop}
use Rattle.image.proofs.writing.put_bytes.Goals as goal

pub returns : goal.returns
returns c =
    let a = c.args in
    let from = a.from.now in
    let out = a.out.now in
    let n : a.at + length from - a.at ≡ length from = omega arith in
    rw (n, c.copy_from_slice.ensures.after, sets-eq from out a.at (omega arith), append_assoc (take a.at out) from (drop (a.at + length from) out), ← drop-drop (length from) a.at out)
