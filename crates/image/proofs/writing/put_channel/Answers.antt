use native.Mathlib.Omega.{arith}
use Rattle.number.proofs.Laws.{bytes_most}
use Rattle.image.proofs.WriteLaws.{asked_size, channel_laid}
use Rattle.image.proofs.writing.put_channel.Goals as goal

pub put_one-second-requires : goal.put_one-second-requires
put_one-second-requires c = omega (arith, bytes_most c.flag_number.result)

pub put_one-third-requires : goal.put_one-third-requires
put_one-third-requires c =
    let ch = c.args.channel in
    omega (arith, bytes_most c.flag_number.result, bytes_most ch.clock)

pub put_one-fourth-requires : goal.put_one-fourth-requires
put_one-fourth-requires c =
    let ch = c.args.channel in
    omega (arith, bytes_most c.flag_number.result, bytes_most ch.clock, bytes_most c.phase_number.result)

pub put_asked-fifth-requires : goal.put_asked-fifth-requires
put_asked-fifth-requires c =
    let ch = c.args.channel in
    omega (arith, bytes_most c.flag_number.result, bytes_most ch.clock, bytes_most c.phase_number.result)

pub put_one-sixth-requires : goal.put_one-sixth-requires
put_one-sixth-requires c =
    let ch = c.args.channel in
    omega (
      arith,
      bytes_most c.flag_number.result,
      bytes_most ch.clock,
      bytes_most c.phase_number.result,
      asked_size ch.asked,
      bytes_most c.marks_number.result,
    )

pub put_requests-requires : goal.put_requests-requires
put_requests-requires c =
    let ch = c.args.channel in
    omega (
      arith,
      bytes_most c.flag_number.result,
      bytes_most ch.clock,
      bytes_most c.phase_number.result,
      asked_size ch.asked,
      bytes_most c.marks_number.result,
    )

pub returns : goal.returns
returns c =
    let a = c.args in
    let both = channel_laid a.channel a.row.now a.at c.flag_number.ensures (c.put_one-second.ensures.value, c.put_one-second.ensures.row_after) (c.put_one-third.ensures.value, c.put_one-third.ensures.row_after)
    c.phase_number.ensures (c.put_one-fourth.ensures.value, c.put_one-fourth.ensures.row_after) (c.put_asked-fifth.ensures.value, c.put_asked-fifth.ensures.row_after) c.marks_number.ensures
    (c.put_one-sixth.ensures.value, c.put_one-sixth.ensures.row_after) (c.put_requests.ensures.value, c.put_requests.ensures.row_after) in record {
      value = both.0;
      row_after = both.1;
    }
