use lib.ListN.{take}
use mathlib.Core.Path.{◌≡◌}
use Rattle.sheethost.specs.Host.{master_store}
use Rattle.sheethost.proofs.fill_master.Given as goal

abbrev pub invariant-loop-i : goal.invariant-loop-i
invariant-loop-i l = take l.i l.master ≡ master_store l.i
