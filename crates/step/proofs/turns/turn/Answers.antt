use lib.ListN.{get_or}
use mathlib.Core.Bool.{true}
use Rattle.basics.specs.Limits.{clock_limit}
use Rattle.channel.specs.declared.Request.{Request}
use mathlib.Core.Path.{◌≡◌, refl, sym, ap, ◌∙◌}
use borrow.Author.Tests.{ne_eqb}
use Prim.Native.Nat.{ℕ, ◌+◌}
use lib.Dec.{ltb}
use Rattle.step.specs.inner.Turns.{running_of}
use Rattle.step.proofs.PutLaws.{turn_full, turn_grant, turn_rest, turn_cycles, lows_grant, lows_rest, lows_cycles}
use Rattle.step.proofs.turns.turn.Goals as goal

pub returns-then-is_full : goal.returns-then-is_full
returns-then-is_full c =
    let a = c.args in
    let full = (ap (λ (x : ℕ). ltb clock_limit (c.args.state.standing.clock + x))
    (sym c.arbitration_time.ensures) ∙ sym c.is_full.ensures ∙ c.if-is_full.true) in record {
      master_after = turn_full a.route a.budget a.state true a.channel.now a.slave.now a.master.now c.in-Arbitrating.is
          a.state.low full;
      lows = c.requires.lows;
    }

pub request_at-request-requires : goal.request_at-request-requires
request_at-request-requires c =
    (c.requires.owned _ c.in-Granted.is).small

pub returns-then-request-eq0 : goal.returns-then-request-eq0
returns-then-request-eq0 c =
    let a = c.args in
    let p = c.in-Granted.is in
    let none = sym (ap (λ (q : Request). q.left) c.request_at-request.ensures)
    ∙ c.if-request-eq0.true in record {
      master_after = turn_rest a.route a.budget a.state true a.channel.now a.slave.now a.master.now _ p _ _ _ none
          c.rest_acted.ensures c.stepped_on-then-request-eq0.ensures;
      lows = lows_rest _ _ _ c.requires.lows _ _ a.state.standing _ _ refl c.rest_acted.ensures c.stepped_on-then-request-eq0.ensures;
    }

pub returns-else-is_full : goal.returns-else-is_full
returns-else-is_full c =
    let a = c.args in
    let i = c.choose-chosen.ensures in
    let room = (ap (λ (x : ℕ). ltb clock_limit (c.args.state.standing.clock + x))
    (sym c.arbitration_time.ensures) ∙ sym c.is_full.ensures ∙ c.if-is_full.false) in record {
      master_after = turn_grant a.route a.budget a.state true a.channel.now a.slave.now a.master.now c.in-Arbitrating.is _ _ _ _ _ room i
          c.granted_by.ensures c.stepped_on.ensures;
      lows = lows_grant _ _ a.state.standing true a.channel.now c.requires.lows _ _ a.state.standing true _ _ _ i c.granted_by.ensures
          c.stepped_on.ensures;
    }

pub returns-else-request-eq0 : goal.returns-else-request-eq0
returns-else-request-eq0 c =
    let a = c.args in
    let p = c.in-Granted.is in
    let k = c.run_cycles.ensures in
    let q = c.request_at-request.ensures in
    let some : get_or a.channel.now.left _ 0 ≡ 0 → ⊥ = λ z. c.if-request-eq0.false (ap (λ (x : Request). x.left) q ∙ z) in record {
      master_after = turn_cycles a.route a.budget a.state true a.channel.now a.slave.now a.master.now _ p _ some k.master_after;
      lows = lows_cycles a.route a.budget _ _ _ (running_of a.state true a.channel.now a.slave.now a.master.now)
          c.requires.lows p (rw (ne_eqb _ 0 some)) _ _ k.low_value k.master_after;
    }
