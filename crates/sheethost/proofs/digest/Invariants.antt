use Prim.Native.Nat.{◌<◌}
use lib.ListN.{drop}
use mathlib.Core.Path.{◌≡◌}
use Rattle.sheethost.specs.Host.{digest_from}
use Rattle.sheethost.proofs.digest.Given as goal

abbrev pub invariant-loop-byte : goal.invariant-loop-byte
invariant-loop-byte l = (l.d < 4294967291) × (digest_from l.d (drop l.byte-index l.store) ≡ digest_from 1 l.store)
