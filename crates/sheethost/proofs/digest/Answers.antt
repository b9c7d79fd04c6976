use mathlib.Core.Path.{sym, ◌∙◌}
use native.Mathlib.Omega.{arith}
use Rattle.sheethost.specs.Host.{digest_of}
use Rattle.sheethost.proofs.StoreLaws.{digest_whole}
use Rattle.sheethost.proofs.digest.Goals as goal

pub returns : goal.returns
unfolding digest_of
returns c =
    let l = c.loop-byte in
    sym (digest_whole _ l.byte-index l.d (omega arith)) ∙ l.invariant.1
