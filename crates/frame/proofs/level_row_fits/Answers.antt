use Rattle.basics.specs.Limits.{rows_most}
use Rattle.basics.proofs.Arrays.{length_mapped}
use Rattle.frame.proofs.RowLaws.{no_level_fits, level_fits_is}
use lib.ListN.{length}
use mathlib.Core.Path.{◌≡◌, sym}
use native.Mathlib.Omega.{arith}
use Rattle.frame.proofs.level_row_fits.Goals as goal

pub returns-then-i-ge-ROWS_MOST : goal.returns-then-i-ge-ROWS_MOST
returns-then-i-ge-ROWS_MOST c =
    let n : length c.args.levels.rows ≡ rows_most = search length_mapped in
    sym (no_level_fits c.args.levels c.args.i (omega arith))

pub returns : goal.returns
returns c = rw (c.level_fits.ensures, c.saturating_sub.ensures, level_fits_is)
