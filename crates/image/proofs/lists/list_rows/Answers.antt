use Prim.Native.Nat.{suc, ◌+◌, ◌-◌}
use mathlib.Core.Path.{◌≡◌, sym, ap, ◌∙◌}
use native.Mathlib.Omega.{arith}
use lib.ListN.{length}
use lib.Seq.{sets}
use Rattle.image.proofs.LayLaws.{level_laid, level_size, slave_laid, slave_size, rows_done}
use Rattle.image.proofs.lists.list_rows.Goals.{in-Levels, in-Slaves}
use Rattle.image.proofs.lists.list_rows.Goals as goal

pub loop-i-preserved : goal.loop-i-preserved
loop-i-preserved c =
    let l = c.loop-i in
    let a = c.args in
    let more : a.count - l.i ≡ suc (a.count - (l.i + 1)) = omega arith in
    elim c.match-kind.branch [
      | in-Levels w ↦ record {
        most = omega (arith, w.place-is);
        size = omega (arith, w.place-is, l.invariant.size, level_size a.setup a.kind l.i more w.in-Levels.is);
        rest = rw (w.place-is, w.values-is) (level_laid a.setup a.kind l.i more w.in-Levels.is l.values l.place ∙ l.invariant.rest);
      }
      | in-Slaves w ↦ record {
        most = omega (arith, w.place-is);
        size = omega (arith, w.place-is, l.invariant.size, slave_size a.setup a.kind l.i more w.in-Slaves.is);
        rest = rw (w.place-is, w.values-is) (slave_laid a.setup a.kind l.i more w.in-Slaves.is l.values l.place ∙ l.invariant.rest);
      }
    ]

pub returns : goal.returns
returns c =
    let l = c.loop-i in
    let a = c.args in
    let none : a.count - l.i ≡ 0 = omega arith in
    let done = rows_done a.setup a.kind l.i none in
    record {
      value = omega (arith, l.invariant.size, ap length done);
      values_after = sym (ap (sets l.values l.place) done) ∙ l.invariant.rest;
    }
