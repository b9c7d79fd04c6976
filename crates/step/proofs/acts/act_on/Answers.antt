use mathlib.Core.Path.{sym, ap, ◌∙◌}
use borrow.Author.Tests.{eq-eqb, ne_eqb}
use Prim.Native.Nat.{ℕ, ◌+◌}
use lib.Dec.{ltb}
use Rattle.basics.specs.Limits.{clock_limit}
use Rattle.step.proofs.DecideLaws.{decides_full, decides_grant, decides_rest, decides_late, decides_cycle}
use Rattle.step.proofs.acts.act_on.Goals as goal

pub returns-then-is_full : goal.returns-then-is_full
returns-then-is_full c =
    let a = c.args in
    let full = (ap (λ (x : ℕ). ltb clock_limit (c.args.standing.clock + x))
    (sym c.arbitration_time.ensures) ∙ sym c.is_full.ensures
    ∙ c.if-is_full.true) in
    let both = decides_full _ a.standing a.ever _ a.channel.now c.in-Arbitrating.is _
    full (c.stay.ensures ∙ rw c.full_acted.ensures) in record {
      value = both.0;
      channel_after = both.1;
    }

pub returns-then-request-eq0 : goal.returns-then-request-eq0
returns-then-request-eq0 c =
    let a = c.args in
    let both = decides_rest _ a.standing a.ever a.request a.channel.now _
    c.in-Granted.is _ (eq-eqb _ 0 c.if-request-eq0.true)
    (c.stay-then-request-eq0.ensures ∙ rw c.rest_acted.ensures) in record {
      value = both.0;
      channel_after = both.1;
    }

pub returns-then-is_full-2 : goal.returns-then-is_full-2
returns-then-is_full-2 c =
    let a = c.args in
    let both = decides_late _ a.standing a.ever a.request a.channel.now _
    c.in-Granted.is
    (ne_eqb _ 0 c.if-request-eq0.false) _
    (sym c.is_full-in-Granted.ensures ∙ c.if-is_full-2.true)
    (c.stay-then-is_full-2.ensures ∙ rw c.full_acted-then-is_full-2.ensures) in record {
      value = both.0;
      channel_after = both.1;
    }

pub returns-else-is_full : goal.returns-else-is_full
returns-else-is_full c =
    let a = c.args in
    let both = decides_grant _ a.standing a.ever _ a.channel.now
    c.in-Arbitrating.is _ _ _ _
    (ap (λ (x : ℕ). ltb clock_limit (c.args.standing.clock + x))
    (sym c.arbitration_time.ensures)
    ∙ sym c.is_full.ensures ∙ c.if-is_full.false)
    c.choose-chosen.ensures
    (c.stay-in-Arbitrating.ensures ∙ rw c.granted_by.ensures) in record {
      value = both.0;
      channel_after = both.1;
    }

pub returns-else-is_full-2 : goal.returns-else-is_full-2
returns-else-is_full-2 c =
    let a = c.args in
    let both = decides_cycle _ a.standing a.ever a.request a.channel.now _
    c.in-Granted.is
    (ne_eqb _ 0 c.if-request-eq0.false) _ _
    (sym c.is_full-in-Granted.ensures ∙ c.if-is_full-2.false) c.cycle_decided.ensures.value
    c.cycle_decided.ensures.channel_after in record {
      value = both.0;
      channel_after = both.1;
    }
