use Prim.Native.Nat.{◌+◌, ◌-◌}
use mathlib.Core.Path.{◌≡◌}
use mathlib.Core.List.{append_assoc}
use native.Mathlib.Omega.{arith}
use lib.ListN.{length, take, drop}
use lib.Seq.{sets-eq, drop-drop}
use Rattle.whyline.proofs.put_words.Goals as goal

pub returns : goal.returns
returns c =
    let a = c.args in
    let words = a.words.now in
    let out = a.out.now in
    let n : a.at + length words - a.at ≡ length words = omega arith in
    record {
      value = omega arith;
      out_after = rw (n, c.copy_from_slice.ensures.after, sets-eq words out a.at (omega arith), append_assoc (take a.at out) words (drop (a.at + length words) out), ← drop-drop (length words) a.at out);
    }
