-- Document 02, CR 3: "Show that the reason given is true and all before it false, that one always is true". Of every set-up, channel and number, sound or not.
-- Assumes nothing.
use Prim.Native.Nat.{ℕ, ◌≤◌, ◌<◌}
use mathlib.Core.Path.{◌≡◌, refl, sym, ap₂, ◌∙◌}
use mathlib.Core.Bool.{Bool, true, false, cond, not, false≢true}
use native.Mathlib.Omega.{arith}
use borrow.Author.Tests.{eqb-true, eqb-false, eq-eqb, ne_eqb, not-false, not-true}
use lib.Dec.{eqb}
use Rattle.basics.proofs.SameLaws.{at}
use Rattle.basics.proofs.Tests.{by_test, and_left, and_right}
use Rattle.frame.specs.declared.Setup.{Setup}
use Rattle.channel.specs.declared.Phase.{Phase}
use Rattle.channel.specs.declared.Phase.TheVariants.{Arbitrating, Granted}
use Rattle.channel.specs.declared.Channel.{Channel}
use Rattle.channel.specs.Channel.{is_arbitrating, owner_of, has_request}
use Rattle.channel.specs.Line.{is_inactive, waits, winner}
use Rattle.why.specs.declared.Reason.{Reason}
use Rattle.why.specs.declared.Reason.TheVariants.{NotPresent, NoRequest, Owns, Inactive, Holds, Outranked, WinsNext}
use Rattle.why.specs.Reason.{is_absent, lacks_request, owns, holds_against, outranks, wins_next, is_true, reason_number, reason_level, reason_numbers}
use Rattle.why.specs.Why.{reason_of}

-- the owner, by the test
pub owns_is : (p : Phase) (o : ℕ) → owns p o ≡ true → p ≡ Granted o
owns_is Arbitrating o e = absurd (false≢true e)
owns_is (Granted owner) o e = rw (eqb-true owner o e)

-- a reason that is passed over or given has a number no greater than another
most : (b : Bool) (r rest : Reason) (n : ℕ) → reason_number r ≤ n → reason_number rest ≤ n → reason_number (cond b r rest) ≤ n
most true r rest n h k = h
most false r rest n h k = k

module _ (setup : Setup) (ch : Channel) (l : ℕ) where
  -- the first four are false
  abbrev pub Unless : Type 0
  Unless =
      (is_absent setup l ≡ false)
      × (lacks_request ch l ≡ false)
      × (owns ch.phase l ≡ false)
      × (is_inactive ch.inactive l ≡ false)

  -- what is known where a reason is given
  abbrev pub Says : Reason → Type 0
  Says NotPresent = is_absent setup l ≡ true
  Says NoRequest = (is_absent setup l ≡ false) × (lacks_request ch l ≡ true)
  Says Owns = (is_absent setup l ≡ false) × (lacks_request ch l ≡ false) × (owns ch.phase l ≡ true)
  Says Inactive = (is_absent setup l ≡ false) × (lacks_request ch l ≡ false) × (owns ch.phase l ≡ false) × (is_inactive ch.inactive l ≡ true)
  Says (Holds o) = Unless × (ch.phase ≡ Granted o) × (o ≡ l → ⊥)
  Says (Outranked w) = Unless × (ch.phase ≡ Arbitrating) × (w ≡ winner ch.left ch.inactive) × (w ≡ l → ⊥)
  Says WinsNext = Unless × (ch.phase ≡ Arbitrating) × (l ≡ winner ch.left ch.inactive)

  -- then it is one of the last three
  abbrev pub last_ones : Phase → Reason
  last_ones p =
      cond
      (holds_against p l (owner_of p))
      (Holds (owner_of p))
      (cond (outranks ch l (winner ch.left ch.inactive)) (Outranked (winner ch.left ch.inactive)) WinsNext)

  -- a level that takes part in the arbitration is outranked by the winner, unless it is that
  pub ranks : Unless → ch.phase ≡ Arbitrating → (other : Bool) → not (eqb (winner ch.left ch.inactive) l) ≡ other
      → outranks ch l (winner ch.left ch.inactive) ≡ other
  unfolding outranks waits
  ranks u e other n = rw (e, not-false (has_request ch.left l) u.1, u.3, eq-eqb (winner ch.left ch.inactive) _ refl, n)

  pub at_last : Unless → reason_of setup ch l ≡ last_ones ch.phase
  unfolding reason_of
  at_last u = rw (u.0, u.1, u.2, u.3)

  last_says : (p : Phase) → ch.phase ≡ p → Unless → Says (last_ones p)
  last_says (Granted o) e u =
      let other : eqb o l ≡ false = rw e at u.2 in
      rw (eq-eqb o o refl, other) (u, e, eqb-false o l other)
  last_says Arbitrating e u =
      let w = winner ch.left ch.inactive in
      by_test (eqb w l)
      (λ t. rw (ranks u e false (rw t refl)) (u, e, sym (eqb-true w l t)))
      (λ f. rw (ranks u e true (rw f refl)) (u, e, refl, eqb-false w l f))

  given : Says (reason_of setup ch l)
  unfolding reason_of
  given =
      by_test (is_absent setup l)
      (λ t. rw t t)
      (λ a.
      by_test (lacks_request ch l)
      (λ t. rw (a, t) (a, t))
      (λ r.
      by_test (owns ch.phase l)
      (λ t. rw (a, r, t) (a, r, t))
      (λ o.
      by_test (is_inactive ch.inactive l)
      (λ t. rw (a, r, o, t) (a, r, o, t))
      (λ m. rw (a, r, o, m) (last_says ch.phase refl (a, r, o, m))))))

  pub says : (r : Reason) → reason_of setup ch l ≡ r → Says r
  says r e = rw e at given

  -- "the reason given is true"
  true_of : (r : Reason) → Says r → is_true setup ch l r ≡ true
  unfolding outranks wins_next waits
  true_of NotPresent s = s
  true_of NoRequest s = s.1
  true_of Owns s = s.2
  true_of Inactive s = s.3
  true_of (Holds o) s = rw (s.1, eq-eqb o o refl, ne_eqb o l s.2)
  true_of (Outranked w) s = rw (s.1, not-false (has_request ch.left l) s.0.1, s.0.3, eq-eqb w _ s.2, ne_eqb w l s.3)
  true_of WinsNext s = rw (s.1, eq-eqb l _ s.2)

  pub given_true : is_true setup ch l (reason_of setup ch l) ≡ true
  given_true = true_of (reason_of setup ch l) given

  -- "that one always is true"
  pub one_true : (r : Reason) × (is_true setup ch l r ≡ true)
  one_true = (reason_of setup ch l, given_true)

  -- a bound on the reason's number that the first four meet is one on all, where the last three meet it
  past_four : (n : ℕ) → 3 ≤ n → reason_number (last_ones ch.phase) ≤ n → reason_number (reason_of setup ch l) ≤ n
  unfolding reason_of
  past_four n h k =
      most (is_absent setup l) NotPresent _ n (omega arith)
      (most (lacks_request ch l) NoRequest _ n (omega arith)
      (most (owns ch.phase l) Owns _ n (omega arith) (most (is_inactive ch.inactive l) Inactive _ n (omega arith) k)))

  holds_most : (p : Phase) (o : ℕ) → holds_against p l o ≡ true → reason_number (last_ones p) ≤ 4
  holds_most Arbitrating o e = absurd (false≢true e)
  holds_most (Granted owner) o e =
      let same = eqb-true owner o (and_left _ _ e) in
      let other : eqb owner l ≡ false = rw same (not-true _ (and_right (eqb owner o) _ e)) in
      rw (eq-eqb owner owner refl, other) (omega arith)

  outranks_is : (w : ℕ) → outranks ch l w ≡ true → w ≡ winner ch.left ch.inactive
  unfolding outranks
  outranks_is w e =
      let v = winner ch.left ch.inactive in
      eqb-true w v (and_left _ _ (and_right (waits ch.left ch.inactive l) _ (and_right (is_arbitrating ch.phase) _ e)))

  -- no reason that is true stands before the one given
  pub none_before : (r : Reason) → is_true setup ch l r ≡ true → reason_number (reason_of setup ch l) ≤ reason_number r
  unfolding reason_of
  none_before NotPresent t = rw t (omega arith)
  none_before NoRequest t = most (is_absent setup l) NotPresent _ 1 (omega arith) (rw t (omega arith))
  none_before Owns t =
      most (is_absent setup l) NotPresent _ 2 (omega arith) (most (lacks_request ch l) NoRequest _ 2 (omega arith) (rw t (omega arith)))
  none_before Inactive t =
      most (is_absent setup l) NotPresent _ 3 (omega arith)
      (most (lacks_request ch l) NoRequest _ 3 (omega arith) (most (owns ch.phase l) Owns _ 3 (omega arith) (rw t (omega arith))))
  none_before (Holds o) t = past_four 4 (omega arith) (holds_most ch.phase o t)
  none_before (Outranked w) t =
      let e = rw (outranks_is w t) at t in
      past_four 5 (omega arith) (most (holds_against ch.phase l (owner_of ch.phase)) _ _ 5 (omega arith) (rw e (omega arith)))
  none_before WinsNext t =
      past_four 6 (omega arith)
      (most (holds_against ch.phase l (owner_of ch.phase)) _ _ 6 (omega arith)
      (most (outranks ch l (winner ch.left ch.inactive)) _ WinsNext 6 (omega arith) (omega arith)))

  -- "and all before it false"
  pub before_false : (r : Reason) → reason_number r < reason_number (reason_of setup ch l) → is_true setup ch l r ≡ false
  before_false r h = by_test (is_true setup ch l r) (λ t. absurd (omega (arith, h, none_before r t))) (λ f. f)

  -- So the one given is the only one that is true while all before it are false: whoever tells another tells one that is false, or not the first.
  pub first_is : (r : Reason) → is_true setup ch l r ≡ true → ((s : Reason) → reason_number s < reason_number r → is_true setup ch l s ≡ false)
      → reason_of setup ch l ≡ r
  unfolding reason_of
  first_is NotPresent t b = rw t
  first_is NoRequest t b = rw (b NotPresent (omega arith), t)
  first_is Owns t b = rw (b NotPresent (omega arith), b NoRequest (omega arith), t)
  first_is Inactive t b = rw (b NotPresent (omega arith), b NoRequest (omega arith), b Owns (omega arith), t)
  first_is (Holds o) t b =
      let p = owns_is ch.phase o (and_left _ _ t) in
      rw (b NotPresent (omega arith), b NoRequest (omega arith), b Owns (omega arith), b Inactive (omega arith), p, rw p at t)
  first_is (Outranked w) t b =
      rw (
        b NotPresent (omega arith),
        b NoRequest (omega arith),
        b Owns (omega arith),
        b Inactive (omega arith),
        b (Holds (owner_of ch.phase)) (omega arith),
        ← outranks_is w t,
        t,
      )
  first_is WinsNext t b =
      rw (
        b NotPresent (omega arith),
        b NoRequest (omega arith),
        b Owns (omega arith),
        b Inactive (omega arith),
        b (Holds (owner_of ch.phase)) (omega arith),
        b (Outranked (winner ch.left ch.inactive)) (omega arith),
      )

-- no two reasons share their numbers
abbrev reason_by : ℕ → ℕ → Reason
reason_by n level =
    cond
    (eqb n 0)
    NotPresent
    (cond
    (eqb n 1)
    NoRequest
    (cond (eqb n 2) Owns (cond (eqb n 3) Inactive (cond (eqb n 4) (Holds level) (cond (eqb n 5) (Outranked level) WinsNext)))))

back : (r : Reason) → reason_by (reason_number r) (reason_level r) ≡ r
back NotPresent = refl
back NoRequest = refl
back Owns = refl
back Inactive = refl
back (Holds o) = refl
back (Outranked w) = refl
back WinsNext = refl

pub one_reason : (a b : Reason) → reason_numbers a ≡ reason_numbers b → a ≡ b
one_reason a b e = sym (back a) ∙ ap₂ reason_by (at 0 e) (at 1 e) ∙ back b
