-- The line rule turns a settled channel into a sound one, and changes nothing on a sound one.
use Prim.Native.Nat.{ℕ, ◌+◌, ◌<◌}
use mathlib.Core.Path.{◌≡◌, refl, sym, ap, ◌∙◌}
use mathlib.Core.Bool.{Bool, true, false, false≢true}
use mathlib.Core.Logic.{◌⊎◌, inl, inr, ⊎_elim}
use native.Mathlib.Omega.{arith}
use borrow.Author.Tests.{le-leb, eq-eqb}
use lib.ListN.{get_or, replicate, get_or-replicate}
use lib.Dec.{eqb}
use Rattle.std.specs.Prelude.{None, Option, Some}
use Rattle.basics.specs.Limits.{places}
use Rattle.basics.proofs.Tests.{by_test}
use Rattle.frame.specs.declared.Setup.{Setup}
use Rattle.frame.specs.Frame.{is_framed}
use Rattle.frame.specs.Allowance.{allowance_of, is_within}
use Rattle.channel.specs.declared.Phase.{Phase}
use Rattle.channel.specs.declared.Phase.TheVariants.{Arbitrating, Granted}
use Rattle.channel.specs.declared.Channel.{Channel}
use Rattle.channel.specs.Channel.{request_of, changed, Shaped}
use Rattle.channel.specs.Line.{is_inactive, line, clear_marks, asked_now, set_asked, line_rule}
use Rattle.channel.proofs.LineLaws.{cleared_on, no_marks}
use Rattle.sound.specs.Request.{transfer_of}
use Rattle.sound.specs.Sound.{is_in_time}
use Rattle.sound.proofs.SoundFacts.{Settled, Sound}
use Rattle.sound.proofs.RequestFacts.{fits_is, transfer_fits}

module _ (setup : Setup) (ch : Channel) where
  -- with the marks removed, a settled channel stays settled
  off_settled : Settled setup ch → line ch ≡ false → Settled setup (clear_marks ch)
  unfolding clear_marks
  off_settled s f =
      record {
        never = λ e. let n = s.never e in
            record { phase = n.phase; clock = n.clock; unmarked = λ l k. rw (f, get_or-replicate places l false false k) };
        owner = λ o e. let g = s.owner o e in
            record {
              small = g.small;
              present = g.present;
              asking = g.asking;
              active = rw (f, get_or-replicate places o false false (omega (arith, g.small)));
            };
        request = s.request;
        blank = s.blank;
        fair = λ l k e. absurd (false≢true (sym (rw (f, get_or-replicate places l false false k)) ∙ e));
        clock = s.clock;
        unasked = s.unasked;
        asked = λ o t e a. absurd (false≢true (sym f ∙ (s.asked o t e a).line));
      }

  clear_settled : Settled setup ch → Settled setup (clear_marks ch)
  clear_settled s = by_test (line ch) (λ t. rw (cleared_on ch t) s) (off_settled s)

  -- no mark is left while the line is not active
  clear_marked : (l : ℕ) → l < places → is_inactive (clear_marks ch).inactive l ≡ true → line (clear_marks ch) ≡ true
  unfolding clear_marks
  clear_marked l k e =
      by_test (line ch)
      (λ t. rw t t)
      (λ f. absurd (false≢true (sym (rw (f, get_or-replicate places l false false k)) ∙ e)))

-- what the line rule says of the asked time, taken apart
now_at : (p : Phase) (a : Option ℕ) (active : Bool) (clock o t : ℕ) → p ≡ Granted o → asked_now p a active clock ≡ Some t
    → (a ≡ Some t) ⊎ ((active ≡ true) × (t ≡ clock))
now_at Arbitrating a active clock o t e f = let z : ◌≡◌ {A = ℕ} 0 1 = cc in absurd (omega arith)
now_at (Granted p) (Some s) active clock o t e f = inl f
now_at (Granted p) None true clock o t e f = inr (refl, cc)
now_at (Granted p) None false clock o t e f = let z : ◌≡◌ {A = ℕ} 0 1 = cc in absurd (omega arith)

now_never : (p : Phase) (a : Option ℕ) (active : Bool) (clock o : ℕ) → p ≡ Granted o → asked_now p a active clock ≡ None → active ≡ false
now_never Arbitrating a active clock o e f = let z : ◌≡◌ {A = ℕ} 0 1 = cc in absurd (omega arith)
now_never (Granted p) (Some s) active clock o e f = let z : ◌≡◌ {A = ℕ} 0 1 = cc in absurd (omega arith)
now_never (Granted p) None true clock o e f = let z : ◌≡◌ {A = ℕ} 0 1 = cc in absurd (omega arith)
now_never (Granted p) None false clock o e f = refl

now_arbitrating : (p : Phase) (a : Option ℕ) (active : Bool) (clock : ℕ) → p ≡ Arbitrating → asked_now p a active clock ≡ None
now_arbitrating Arbitrating a active clock e = refl
now_arbitrating (Granted p) a active clock e = let z : ◌≡◌ {A = ℕ} 0 1 = cc in absurd (omega arith)

module _ (setup : Setup) (framed : is_framed setup ≡ true) (ch : Channel) where
  -- a new asked time is the clock, and a whole transfer fits the allowance
  new_in_time : Settled setup ch → (o t : ℕ) → ch.phase ≡ Granted o → t ≡ ch.clock
      → is_in_time setup o (request_of ch o) ch.clock t ≡ true
  unfolding is_in_time is_within
  new_in_time s o t e k =
      let g = s.owner o e in
      by_test (eqb (get_or ch.left o 0) 0)
      (λ z. rw z (eq-eqb t ch.clock k))
      (λ n.
      let r = s.request o (omega (arith, g.small)) (rw n) in
      let b = transfer_fits setup framed o (request_of ch o) r.0 (fits_is setup o (request_of ch o) r.1) in
      rw n (le-leb (transfer_of setup o (request_of ch o) + ch.clock) (t + allowance_of setup) (omega arith)))

  set_sound : Settled setup ch → ((l : ℕ) → l < places → is_inactive ch.inactive l ≡ true → line ch ≡ true) → Sound setup (set_asked ch)
  unfolding set_asked
  set_sound s m =
      record {
        settled =
            record {
              never = λ e. let n = s.never e in record { phase = n.phase; clock = n.clock; unmarked = n.unmarked };
              owner = λ o e. let g = s.owner o e in
                  record { small = g.small; present = g.present; asking = g.asking; active = g.active };
              request = s.request;
              blank = s.blank;
              fair = s.fair;
              clock = s.clock;
              unasked = now_arbitrating ch.phase ch.asked (line ch) ch.clock;
              asked = λ o t e f.
                  ⊎_elim
                  (λ a. let i = s.asked o t e a in record { line = i.line; past = i.past; kept = i.kept })
                  (λ n. record { line = n.0; past = omega (arith, n.1); kept = new_in_time s o t e n.1 })
                  (now_at ch.phase ch.asked (line ch) ch.clock o t e f);
            };
        marked = m;
        quiet = λ o e f. now_never ch.phase ch.asked (line ch) ch.clock o e f;
      }

-- the line rule turns a settled channel into a sound one
pub rule_sound : (setup : Setup) → is_framed setup ≡ true → (ch : Channel) → Settled setup ch → Sound setup (line_rule ch)
rule_sound setup framed ch s = set_sound setup framed (clear_marks ch) (clear_settled setup ch s) (clear_marked setup ch)

-- on a sound channel the asked time is already what the rule makes it
same_asked : (setup : Setup) (ch : Channel) → Sound setup ch → (p : Phase) (a : Option ℕ) → ch.phase ≡ p → ch.asked ≡ a
    → asked_now p a (line ch) ch.clock ≡ a
same_asked setup ch s Arbitrating a e f = sym (s.settled.unasked e) ∙ f
same_asked setup ch s (Granted o) (Some t) e f = refl
same_asked setup ch s (Granted o) None e f = rw (s.quiet o e f)

-- nothing is removed where no mark is left
unmarked : (ch : Channel) → line ch ≡ false → ch.inactive ≡ replicate places false → clear_marks ch ≡ ch
unfolding clear_marks
unmarked ch f e = rw f (ap (changed ch ch.phase ch.asked ch.ever ch.clock) (sym e))

same_cleared : (setup : Setup) (ch : Channel) → Shaped ch → Sound setup ch → clear_marks ch ≡ ch
same_cleared setup ch k s =
    by_test (line ch)
    (cleared_on ch)
    (λ f.
    unmarked ch f
    (no_marks ch.inactive k.inactive
    (λ l h. by_test (is_inactive ch.inactive l) (λ t. absurd (false≢true (sym f ∙ s.marked l h t))) (λ n. n))))

same_set : (setup : Setup) (ch : Channel) → Sound setup ch → set_asked ch ≡ ch
unfolding set_asked
same_set setup ch s =
    ap (λ (a : Option ℕ). changed ch ch.phase a ch.ever ch.clock ch.inactive) (same_asked setup ch s ch.phase ch.asked refl refl)

-- the line rule changes nothing on a sound channel
pub rule_same : (setup : Setup) (ch : Channel) → Shaped ch → Sound setup ch → line_rule ch ≡ ch
rule_same setup ch k s = ap set_asked (same_cleared setup ch k s) ∙ same_set setup ch s
