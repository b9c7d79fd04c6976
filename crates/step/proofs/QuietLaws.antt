-- After a cycle and after a release the line rule has nothing to do: only a grant can change who drives the line.
use Prim.Native.Nat.{ℕ, ◌≤◌, ◌<◌}
use mathlib.Core.Path.{◌≡◌, refl, sym, ap, ◌∙◌}
use mathlib.Core.Bool.{Bool, true, false, false≢true}
use mathlib.Core.List.{List}
use native.Mathlib.Omega.{arith}
use lib.Seq.{get_or-set_other}
use Rattle.std.specs.Prelude.{None, Option, Some}
use Rattle.basics.specs.Limits.{places, clock_limit}
use Rattle.basics.proofs.Tests.{by_test}
use Rattle.frame.specs.Frame.{is_framed}
use Rattle.frame.specs.declared.Setup.{Setup}
use Rattle.channel.specs.declared.Phase.TheVariants.{Arbitrating, Granted}
use Rattle.channel.specs.declared.Channel.{Channel}
use Rattle.channel.specs.Channel.{owner_of, has_request, with_request, Shaped}
use Rattle.channel.specs.Line.{is_inactive, line_active, line, line_rule}
use Rattle.channel.proofs.LineLaws.{line_some, line_by}
use Rattle.frame.specs.Rows.{is_fair}
use Rattle.sound.proofs.SoundFacts.{Sound}
use Rattle.sound.proofs.RuleLaws.{rule_same}
use Rattle.act.specs.Cycle.{released_by, ending_of, ending_at, clocked, freed, marked_at, ended_by, moved_on}
use Rattle.step.proofs.KeepLaws.{
  route_at,
  next_cycle,
  clock_at,
  moved_at,
  leaves_at,
  ended_at,
  kept_open,
  line_same,
  kept_settled,
  released_settled,
  leave_settled,
  ended_shaped,
  moved_shaped,
  freed_shaped,
}

-- a channel that is freed while another level drives the line: that level drives it still
module _ (ch : Channel) (o : ℕ) (phase : ch.phase ≡ Granted o) (active : line ch ≡ true) where
  still_driven : (after : Channel) → ((l : ℕ) → (l ≡ o → ⊥) → has_request after.left l ≡ has_request ch.left l) → (marks : List Bool)
      → ((l : ℕ) → (l ≡ o → ⊥) → is_inactive marks l ≡ is_inactive ch.inactive l) → line_active after.left marks Arbitrating ≡ true
  still_driven after asking marks same =
      let d = line_some ch.left ch.inactive ch.phase active in
      let n : d.0 ≡ o → ⊥ = λ e. d.2.other (e ∙ sym (ap owner_of phase)) in
      line_by after.left marks Arbitrating d.0 d.1
      (record { request = asking d.0 n ∙ d.2.request; active = same d.0 n ∙ d.2.active; other = λ e. omega (arith, e, d.1) })

-- one cycle
module _ (setup : Setup) (framed : is_framed setup ≡ true) (ch : Channel) (shaped : Shaped ch) (s : Sound setup ch) (o : ℕ)
    (phase : ch.phase ≡ Granted o) (asks : has_request ch.left o ≡ true)
    (room : clock_at setup ch o ≤ clock_limit) where
  kept_sound : leaves_at setup ch o ≡ false → Sound setup (moved_at setup ch o)
  unfolding moved_on clocked with_request
  kept_sound e =
      let same = line_same setup framed ch shaped s o phase asks room in
      record {
        settled = kept_settled setup framed ch shaped s o phase asks room e;
        marked = λ l k m. same ∙ s.marked l k m;
        quiet = λ p f a. same ∙ s.quiet p f a;
      }

  -- asked or not, a released channel has marks only while the line is active
  freed_marked : (marks : List Bool) → (a : Option ℕ) → ch.asked ≡ a
      → ((l : ℕ) → (l ≡ o → ⊥) → is_inactive marks l ≡ is_inactive ch.inactive l) → (a ≡ None → marks ≡ ch.inactive)
      → (l : ℕ) → l < places → is_inactive marks l ≡ true → line_active (moved_at setup ch o).left marks Arbitrating ≡ true
  freed_marked marks None a same none l k m =
      let was = s.marked l k (sym (ap (λ (x : List Bool). is_inactive x l) (none refl)) ∙ m) in
      absurd (false≢true (sym (s.quiet o phase a) ∙ was))
  freed_marked marks (Some t) a same none l k m =
      still_driven ch o phase (s.settled.asked o t phase a).line (moved_at setup ch o)
      (kept_open setup framed ch shaped s o phase asks room) marks same

  released_sound : (a : Option ℕ) → ch.asked ≡ a
      → Sound setup (ended_by (released_by (route_at setup ch o).options a (clock_at setup ch o)) (moved_at setup ch o) o)
  unfolding freed moved_on clocked with_request
  released_sound None a =
      record {
        settled = released_settled setup framed ch shaped s o phase asks room None;
        marked = freed_marked ch.inactive None a (λ l n. refl) (λ e. refl);
        quiet = λ p f q. let z : ◌≡◌ {A = ℕ} 0 1 = cc in absurd (omega arith);
      }
  released_sound (Some t) a =
      let settled = released_settled setup framed ch shaped s o phase asks room (Some t) in
      by_test (is_fair (route_at setup ch o).options)
      (λ f.
      rw f
      (record {
        settled = rw f at settled;
        marked =
            freed_marked (marked_at ch.inactive o) (Some t) a (λ l n. get_or-set_other ch.inactive o l true false n)
            (λ e. let z : ◌≡◌ {A = ℕ} 0 1 = cc in absurd (omega arith));
        quiet = λ p g q. let z : ◌≡◌ {A = ℕ} 0 1 = cc in absurd (omega arith);
      }))
      (λ f.
      rw f
      (record {
        settled = rw f at settled;
        marked = freed_marked ch.inactive (Some t) a (λ l n. refl) (λ e. refl);
        quiet = λ p g q. let z : ◌≡◌ {A = ℕ} 0 1 = cc in absurd (omega arith);
      }))

  -- however the cycle ends
  ended_sound : Sound setup (ended_at setup ch o)
  unfolding ending_of
  ended_sound = by_test (leaves_at setup ch o) (λ t. rw t (released_sound ch.asked refl)) (λ f. rw f (kept_sound f))

  pub cycle_quiet : line_rule (ended_at setup ch o) ≡ ended_at setup ch o
  cycle_quiet =
      rule_same setup (ended_at setup ch o)
      (ended_shaped (ending_at (route_at setup ch o) ch (next_cycle setup ch o)) (moved_at setup ch o) o
      (moved_shaped ch o (next_cycle setup ch o) shaped))
      ended_sound

-- a release without a request, which only an active line brings about
pub leave_quiet : (setup : Setup) → is_framed setup ≡ true → (ch : Channel) → Shaped ch → Sound setup ch → (o : ℕ) → ch.phase ≡ Granted o
    → line ch ≡ true
    → line_rule (freed ch ch.inactive) ≡ freed ch ch.inactive
unfolding freed
leave_quiet setup framed ch shaped s o phase active =
    rule_same setup (freed ch ch.inactive) (freed_shaped ch ch.inactive shaped.inactive shaped)
    (record {
      settled = leave_settled setup framed ch s;
      marked = λ l k m. still_driven ch o phase active ch (λ l n. refl) ch.inactive (λ l n. refl);
      quiet = λ p g q. let z : ◌≡◌ {A = ℕ} 0 1 = cc in absurd (omega arith);
    })
