use Prim.Native.Nat.{suc, ◌+◌, ◌-◌}
use mathlib.Core.Path.{◌≡◌}
use native.Mathlib.Omega.{arith}
use Rattle.basics.specs.Limits.{places}
use Rattle.channel.specs.Channel.{request_of}
use Rattle.image.proofs.WriteLaws.{laid_none, none_on, some_on, request_size, requests_done}
use Rattle.image.proofs.writing.put_requests.Goals as goal

pub loop-level-preserved-then-left-eq0 : goal.loop-level-preserved-then-left-eq0
loop-level-preserved-then-left-eq0 c =
    let l = c.loop-level in
    let ch = c.args.channel in
    let more : places - l.level ≡ suc (places - (l.level + 1)) = omega arith in
    record {
      most = omega arith;
      rest = λ end after rest. l.invariant.rest end after (none_on ch l.row l.place l.level more c.if-left-eq0.true rest);
    }

pub loop-level-preserved : goal.loop-level-preserved
loop-level-preserved c =
    let l = c.loop-level in
    let ch = c.args.channel in
    let put = c.put_request-place in
    let more : places - l.level ≡ suc (places - (l.level + 1)) = omega arith in
    record {
      most = omega (arith, put.ensures.value, request_size (request_of ch l.level));
      rest = λ end after rest. l.invariant.rest end after (some_on ch l.row l.place l.level more (put.ensures.value, put.ensures.row_after) rest);
    }

pub returns : goal.returns
returns c =
    let l = c.loop-level in
    let ch = c.args.channel in
    let both = l.invariant.rest l.place l.row (laid_none l.row l.place (requests_done ch l.level (omega arith))) in
    record {
      value = both.0;
      row_after = both.1;
    }
