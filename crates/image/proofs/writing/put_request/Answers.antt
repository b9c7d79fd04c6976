use native.Mathlib.Omega.{arith}
use Rattle.image.proofs.WriteLaws.{fields_most, request_laid}
use Rattle.image.proofs.writing.put_request.Goals as goal

pub put_one-second-requires : goal.put_one-second-requires
put_one-second-requires c = omega (arith, fields_most c.args.request)

pub put_one-third-requires : goal.put_one-third-requires
put_one-third-requires c =
    omega (arith, fields_most c.args.request)

pub put_one-fourth-requires : goal.put_one-fourth-requires
put_one-fourth-requires c =
    omega (arith, fields_most c.args.request)

pub put_one-fifth-requires : goal.put_one-fifth-requires
put_one-fifth-requires c =
    omega (arith, fields_most c.args.request)

pub put_one-requires : goal.put_one-requires
put_one-requires c =
    omega (arith, fields_most c.args.request)

pub returns : goal.returns
returns c =
    let first = c.put_one-second.ensures in
    let both = request_laid c.args.request c.args.row.now c.args.at (omega (arith, c.requires.0)) (first.value, first.row_after) (c.put_one-third.ensures.value, c.put_one-third.ensures.row_after)
    (c.put_one-fourth.ensures.value, c.put_one-fourth.ensures.row_after) (c.put_one-fifth.ensures.value, c.put_one-fifth.ensures.row_after) (c.put_one.ensures.value, c.put_one.ensures.row_after) in record {
      value = both.0;
      row_after = both.1;
    }
