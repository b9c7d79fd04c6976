-- An accepted post keeps a channel sound; a refused one gives back what it got.
use Prim.Native.Nat.{ℕ, ◌+◌, ◌≤◌}
use mathlib.Core.Path.{◌≡◌, sym, ap, ap₂, ◌∙◌}
use mathlib.Core.Bool.{true, false, not, ◌&&◌, false≢true}
use mathlib.Core.Logic.{inl, inr, ⊎_elim}
use native.Mathlib.Omega.{arith}
use borrow.Author.Tests.{le-leb, eqb-true, eqb-false, ne_eqb, not-false}
use lib.Dec.{eqb}
use lib.ListN.{get_or}
use Rattle.std.specs.Prelude.{Err}
use Rattle.refusal.specs.Refusal.{accepted, is_accepted}
use Rattle.refusal.specs.declared.Refusal.{Refusal}
use Rattle.basics.specs.Limits.{system_master}
use Rattle.basics.proofs.Tests.{by_test, and_left, and_right}
use Rattle.frame.specs.Frame.{is_framed}
use Rattle.frame.specs.declared.Setup.{Setup}
use Rattle.frame.specs.Allowance.{allowance_of, is_within}
use Rattle.frame.specs.Rows.{is_present}
use Rattle.frame.proofs.FrameLaws.{level_facts_of}
use Rattle.channel.specs.declared.Phase.TheVariants.{Granted}
use Rattle.channel.specs.declared.Channel.{Channel}
use Rattle.channel.specs.declared.Request.{Request}
use Rattle.channel.specs.Channel.{has_request, request_of, with_request, Shaped}
use Rattle.channel.specs.Line.{line}
use Rattle.channel.proofs.LineLaws.{line_by, line_some}
use Rattle.channel.proofs.RequestLaws.{request_same, request_other}
use Rattle.sound.specs.Request.{request_verdict, transfer_of}
use Rattle.sound.specs.Sound.{is_in_time, is_blank, is_sound}
use Rattle.sound.proofs.SoundFacts.{InTime, Settled, Sound, sound_is}
use Rattle.sound.proofs.RequestFacts.{Fits, fits_is, transfer_fits}
use Rattle.sound.proofs.RuleLaws.{rule_sound}
use Rattle.frame.specs.declared.Order.{Order}
use Rattle.post.specs.Post.{request_in, post_verdict, posted, post_of}

-- what an accepted post has shown
pub record Allowed (setup : Setup) (ch : Channel) (p : Order) : Type 0 where
  pub framed : is_framed setup ≡ true
  pub sound : is_sound setup ch ≡ true
  pub present : is_present setup.levels p.level ≡ true
  pub none : has_request ch.left p.level ≡ false
  pub fits : request_verdict setup p.level (request_in p) ≡ accepted

not_refused : {r : Refusal} → Err r ≡ accepted → ⊥
not_refused e = let z : ◌≡◌ {A = ℕ} 0 1 = cc in omega arith

pub allowed : (setup : Setup) (ch : Channel) (p : Order) → post_verdict setup ch p ≡ accepted → Allowed setup ch p
unfolding post_verdict
allowed setup ch p e =
    let nine = by_test (is_framed setup && is_sound setup ch) (λ t. t) (λ f. absurd (not_refused (rw f at e))) in
    let e1 = rw nine at e in
    let one = by_test (is_present setup.levels p.level) (λ t. t) (λ f. absurd (not_refused (rw f at e1))) in
    let e2 = rw one at e1 in
    let two = by_test (has_request ch.left p.level) (λ t. absurd (not_refused (rw t at e2))) (λ f. f) in
    record {
      framed = and_left _ _ nine;
      sound = and_right (is_framed setup) _ nine;
      present = one;
      none = two;
      fits = rw two at e2;
    }

module _ (setup : Setup) (ch : Channel) (p : Order) (shaped : Shaped ch) (ok : Allowed setup ch p) where
  s : Settled setup ch
  s = (sound_is setup ch ok.sound).settled

  small : p.level ≤ system_master
  small = (level_facts_of setup ok.framed p.level ok.present).1

  fits : Fits setup p.level (request_in p)
  fits = fits_is setup p.level (request_in p) ok.fits

  -- the request stands in its level's place, and the others are as they were
  here : (m : ℕ) → m ≡ p.level → request_of (with_request ch p.level (request_in p)) m ≡ request_in p
  here m e = rw e (request_same ch p.level (request_in p) shaped (omega (arith, small)))

  opened : (m : ℕ) → m ≡ p.level → has_request (with_request ch p.level (request_in p)).left m ≡ true
  opened m e = rw (ap (λ (q : Request). q.left) (here m e), ne_eqb p.length 0 (omega (arith, fits.some)))

  other : (m : ℕ) → (m ≡ p.level → ⊥) → request_of (with_request ch p.level (request_in p)) m ≡ request_of ch m
  other m n = request_other ch p.level m (request_in p) n

  kept_open : (m : ℕ) → (m ≡ p.level → ⊥) → has_request (with_request ch p.level (request_in p)).left m ≡ has_request ch.left m
  kept_open m n = ap (λ (q : Request). not (eqb q.left 0)) (other m n)

  -- a level that had a request is another one
  another : (m : ℕ) → has_request ch.left m ≡ true → m ≡ p.level → ⊥
  another m h e = false≢true (sym ok.none ∙ sym (ap (has_request ch.left) e) ∙ h)

  -- whoever drove the line still does
  line_kept : line ch ≡ true → line (with_request ch p.level (request_in p)) ≡ true
  unfolding with_request
  line_kept e =
      let d = line_some ch.left ch.inactive ch.phase e in
      let n = another d.0 d.2.request in
      line_by _ ch.inactive ch.phase d.0 d.1
      (record { request = kept_open d.0 n ∙ d.2.request; active = d.2.active; other = d.2.other })

  in_time : (o t : ℕ) → ch.phase ≡ Granted o → InTime setup ch o t
      → is_in_time setup o (request_of (with_request ch p.level (request_in p)) o) ch.clock t ≡ true
  unfolding is_in_time is_within
  in_time o t e i =
      by_test (eqb o p.level)
      (λ b.
      let l = eqb-true o p.level b in
      let z = not-false (eqb (get_or ch.left o 0) 0) (ap (has_request ch.left) l ∙ ok.none) in
      let c : t ≡ ch.clock = eqb-true t ch.clock (rw z at i.kept) in
      let f = transfer_fits setup ok.framed o (request_in p) (ap (is_present setup.levels) l ∙ ok.present) (rw l fits) in
      ap (λ (q : Request). is_in_time setup o q ch.clock t) (here o l)
      ∙ rw (ne_eqb p.length 0 (omega (arith, fits.some)))
      (le-leb (transfer_of setup o (request_in p) + ch.clock) (t + allowance_of setup) (omega arith)))
      (λ b. ap (λ (q : Request). is_in_time setup o q ch.clock t) (other o (eqb-false o p.level b)) ∙ i.kept)

  pub post_settled : Settled setup (with_request ch p.level (request_in p))
  unfolding with_request
  post_settled =
      record {
        never = λ e. let n = s.never e in record { phase = n.phase; clock = n.clock; unmarked = n.unmarked };
        owner = λ o e. let g = s.owner o e in
            record {
              small = g.small;
              present = g.present;
              asking = ⊎_elim inl (λ h. inr (kept_open o (another o h) ∙ h)) g.asking;
              active = g.active;
            };
        request = λ m k h.
            by_test (eqb m p.level)
            (λ b.
            let l = eqb-true m p.level b in
            (ap (is_present setup.levels) l ∙ ok.present, ap₂ (request_verdict setup) l (here m l) ∙ ok.fits))
            (λ b.
            let n = eqb-false m p.level b in
            let r = s.request m k (sym (kept_open m n) ∙ h) in
            (r.0, ap (request_verdict setup m) (other m n) ∙ r.1));
        blank = λ m k h.
            by_test (eqb m p.level)
            (λ b. absurd (false≢true (sym h ∙ opened m (eqb-true m p.level b))))
            (λ b. let n = eqb-false m p.level b in ap is_blank (other m n) ∙ s.blank m k (sym (kept_open m n) ∙ h));
        fair = s.fair;
        clock = s.clock;
        unasked = s.unasked;
        asked = λ o t e a. let i = s.asked o t e a in
            record { line = line_kept i.line; past = i.past; kept = in_time o t e i };
      }

-- an accepted post keeps soundness
pub post_sound : (setup : Setup) (ch : Channel) (p : Order) → Shaped ch → post_verdict setup ch p ≡ accepted → Sound setup (posted ch p)
unfolding posted
post_sound setup ch p k e =
    let ok = allowed setup ch p e in
    rule_sound setup ok.framed (with_request ch p.level (request_in p)) (post_settled setup ch p k ok)

-- a refused post gives back the channel that it got
pub refused_same : (setup : Setup) (ch : Channel) (p : Order) → is_accepted (post_verdict setup ch p) ≡ false → (post_of setup ch p).channel ≡ ch
unfolding post_of
refused_same setup ch p e = rw e
