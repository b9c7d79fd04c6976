use Prim.Native.Nat.{suc, ◌+◌, ◌-◌}
use mathlib.Core.Path.{◌≡◌, sym, ap, ◌∙◌}
use native.Mathlib.Omega.{arith}
use lib.ListN.{length}
use Rattle.std.proofs.lemmas.Result.{err_from_is_err_and}
use Rattle.basics.specs.Limits.{places}
use Rattle.number.specs.Number.{read_number}
use Rattle.channel.specs.Channel.{with_request}
use Rattle.image.specs.Read.{nothing_after}
use Rattle.image.proofs.TurnLaws.{requests_fault, requests_none, requests_short, requests_on, requests_done}
use Rattle.image.proofs.states.read_requests.Goals as goal

pub returns-in_err-left : goal.returns-in_err-left
returns-in_err-left c =
    let l = c.loop-level in
    let s = c.args.bytes.now in
    let more : places - l.level ≡ suc (places - (l.level + 1)) = omega arith in
    let p = err_from_is_err_and c.from_residual.result c.from_residual.ensures.1 in
    rw (p.1, p.2)
    (requests_fault (read_number s) (length s) l.place more l.level l.channel (sym c.read_number.ensures ∙ c.in_err-left.was)
    ∙ ap (nothing_after (length s)) l.invariant)

pub returns-in_err-request : goal.returns-in_err-request
returns-in_err-request c =
    let l = c.loop-level in
    let s = c.args.bytes.now in
    let more : places - l.level ≡ suc (places - (l.level + 1)) = omega arith in
    let left = sym c.read_number.ensures ∙ c.in_ok-left.was in
    let p = err_from_is_err_and c.from_residual-in_err-request.result c.from_residual-in_err-request.ensures.1 in
    rw (p.1, p.2)
    (requests_short (read_number s) (length s) l.place more l.level l.channel left c.if-left-eq0.false (sym c.read_request.ensures ∙ c.in_err-request.was)
    ∙ ap (nothing_after (length s)) l.invariant)

pub loop-level-preserved-then-left-eq0 : goal.loop-level-preserved-then-left-eq0
loop-level-preserved-then-left-eq0 c =
    let l = c.loop-level in
    let s = c.args.bytes.now in
    let more : places - l.level ≡ suc (places - (l.level + 1)) = omega arith in
    let left = sym c.read_number.ensures ∙ c.in_ok-left.was in
    requests_none (read_number s) (length s) l.place more l.level l.channel left c.if-left-eq0.true ∙ l.invariant

pub loop-level-preserved : goal.loop-level-preserved
unfolding with_request
loop-level-preserved c =
    let l = c.loop-level in
    let s = c.args.bytes.now in
    let more : places - l.level ≡ suc (places - (l.level + 1)) = omega arith in
    let left = sym c.read_number.ensures ∙ c.in_ok-left.was in
    requests_on (read_number s) (length s) l.place more l.level l.channel left c.if-left-eq0.false (sym c.read_request.ensures ∙ c.in_ok-request.was)
    ∙ l.invariant

pub returns : goal.returns
returns c =
    let l = c.loop-level in
    let s = c.args.bytes.now in
    let none : places - l.level ≡ 0 = omega arith in
    requests_done (read_number s) (length s) l.place none l.level l.channel c.ended.ensures ∙ ap (nothing_after (length s)) l.invariant
