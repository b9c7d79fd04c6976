use Rattle.basics.specs.Limits.{rows_most}
use Rattle.basics.proofs.Arrays.{length_mapped}
use Rattle.frame.proofs.RowLaws.{no_slave_fits, slave_fits_is}
use lib.ListN.{length}
use mathlib.Core.Path.{◌≡◌, sym}
use native.Mathlib.Omega.{arith}
use Rattle.frame.proofs.slave_row_fits.Goals as goal

pub returns-then-i-ge-ROWS_MOST : goal.returns-then-i-ge-ROWS_MOST
returns-then-i-ge-ROWS_MOST c =
    let n : length c.args.slaves.rows ≡ rows_most = search length_mapped in
    sym (no_slave_fits c.args.slaves c.args.i (omega arith))

pub returns : goal.returns
returns c =
    rw (
      c.is_apart.ensures,
      c.slave_fits.ensures,
      c.lengths_before.ensures.value,
      slave_fits_is c.args.slaves c.args.i,
    )
