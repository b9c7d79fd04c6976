-- What the test for an unsound channel says, as facts, and back.
-- `Settled` is what an act of the channel has to bring about by itself; what the line rule then settles completes it to `Sound`.
use Prim.Native.Nat.{ℕ, ◌≤◌, ◌<◌}
use mathlib.Core.Path.{◌≡◌, refl, sym, ap, ap₂, ◌∙◌}
use mathlib.Core.Bool.{Bool, true, false, not, ◌||◌, and-false, false≢true}
use mathlib.Core.Logic.{◌⊎◌, inl, inr, ⊎_elim}
use native.Mathlib.Omega.{arith}
use borrow.Author.Tests.{leb-true, le-leb, eqb-true, eq-eqb, not-true, not-false}
use lib.Dec.{eqb, leb}
use lib.ListN.{get_or}
use Rattle.std.specs.Prelude.{Err, None, Ok, Option, Result, Some}
use Rattle.refusal.specs.declared.Refusal.{Refusal}
use Rattle.refusal.specs.Refusal.{accepted, is_accepted}
use Rattle.basics.specs.Limits.{places, system_master, clock_limit}
use Rattle.basics.proofs.ScanLaws.{all_at, all_intro}
use Rattle.basics.proofs.Tests.{by_test, need, and_left, and_right, or_cases, or_left, or_right}
use Rattle.frame.specs.declared.LevelRows.{LevelRows}
use Rattle.frame.specs.declared.Setup.{Setup}
use Rattle.frame.specs.Rows.{is_fair, is_present, level_of}
use Rattle.channel.specs.declared.Phase.{Phase}
use Rattle.channel.specs.declared.Phase.TheVariants.{Arbitrating, Granted}
use Rattle.channel.specs.declared.Channel.{Channel}
use Rattle.channel.specs.Channel.{is_arbitrating, has_request, request_of}
use Rattle.channel.specs.Line.{is_inactive, line}
use Rattle.sound.specs.Request.{request_verdict}
use Rattle.sound.specs.Sound.{
  are_unmarked,
  is_never_granted_sound,
  is_grant_sound,
  owner_sound,
  is_owner_sound,
  is_blank,
  is_request_sound,
  are_requests_sound,
  is_mark_sound,
  are_marks_sound,
  is_in_time,
  is_asked_at,
  asked_sound,
  is_asked_sound,
  is_sound,
}

-- a channel before its first grant
pub record NeverGranted (ch : Channel) : Type 0 where
  pub phase : ch.phase ≡ Arbitrating
  pub clock : ch.clock ≡ 0
  pub unmarked : (l : ℕ) → l < places → is_inactive ch.inactive l ≡ false

-- a level that the channel may be granted to
pub record Grant (levels : LevelRows) (ch : Channel) (owner : ℕ) : Type 0 where
  pub small : owner ≤ system_master
  pub present : is_present levels owner ≡ true
  pub asking : (owner ≡ system_master) ⊎ (has_request ch.left owner ≡ true)
  pub active : is_inactive ch.inactive owner ≡ false

-- an asked time that the owner keeps to
pub record InTime (setup : Setup) (ch : Channel) (owner t : ℕ) : Type 0 where
  pub line : line ch ≡ true
  pub past : t ≤ ch.clock
  pub kept : is_in_time setup owner (request_of ch owner) ch.clock t ≡ true

pub record Settled (setup : Setup) (ch : Channel) : Type 0 where
  pub never : ch.ever ≡ false → NeverGranted ch
  pub owner : (o : ℕ) → ch.phase ≡ Granted o → Grant setup.levels ch o
  pub request : (l : ℕ) → l < places → has_request ch.left l ≡ true
      → (is_present setup.levels l ≡ true) × (request_verdict setup l (request_of ch l) ≡ accepted)
  pub blank : (l : ℕ) → l < places → has_request ch.left l ≡ false → is_blank (request_of ch l) ≡ true
  pub fair : (l : ℕ) → l < places → is_inactive ch.inactive l ≡ true
      → (is_present setup.levels l ≡ true) × (is_fair (level_of setup.levels l).options ≡ true)
  pub clock : ch.clock ≤ clock_limit
  pub unasked : ch.phase ≡ Arbitrating → ch.asked ≡ None
  pub asked : (o t : ℕ) → ch.phase ≡ Granted o → ch.asked ≡ Some t → InTime setup ch o t

pub record Sound (setup : Setup) (ch : Channel) : Type 0 where
  pub settled : Settled setup ch
  pub marked : (l : ℕ) → l < places → is_inactive ch.inactive l ≡ true → line ch ≡ true
  pub quiet : (o : ℕ) → ch.phase ≡ Granted o → ch.asked ≡ None → line ch ≡ false

pub accepted_is : (v : Result Unit Refusal) → is_accepted v ≡ true → v ≡ accepted
accepted_is (Ok _) e = refl
accepted_is (Err r) e = absurd (false≢true e)

pub arbitrating_is : (p : Phase) → is_arbitrating p ≡ true → p ≡ Arbitrating
arbitrating_is Arbitrating e = refl
arbitrating_is (Granted o) e = absurd (false≢true e)

module _ (setup : Setup) (ch : Channel) where
  -- before the first grant
  never_is : is_never_granted_sound ch.ever ch.phase ch.clock ch.inactive ≡ true → ch.ever ≡ false → NeverGranted ch
  unfolding is_never_granted_sound are_unmarked
  never_is h e =
      let r = rw e at h in
      let s = and_right (is_arbitrating ch.phase) _ r in
      record {
        phase = arbitrating_is ch.phase (and_left _ _ r);
        clock = eqb-true ch.clock 0 (and_right (are_unmarked ch.inactive) _ s);
        unmarked = λ l k. not-true _ (all_at (λ (m : ℕ). not (is_inactive ch.inactive m)) places (and_left _ _ s) l k);
      }

  never_by : (ch.ever ≡ false → NeverGranted ch) → is_never_granted_sound ch.ever ch.phase ch.clock ch.inactive ≡ true
  unfolding is_never_granted_sound are_unmarked
  never_by h =
      by_test ch.ever
      (λ t. rw t)
      (λ f.
      let n = h f in
      rw (
        f,
        n.phase,
        eq-eqb ch.clock 0 n.clock,
        all_intro (λ (l : ℕ). not (is_inactive ch.inactive l)) places (λ l k. rw (n.unmarked l k)),
      ))

  -- the owner
  grant_is : (o : ℕ) → is_grant_sound setup.levels ch o ≡ true → Grant setup.levels ch o
  unfolding is_grant_sound
  grant_is o e =
      let whole = is_grant_sound setup.levels ch o in
      let asks = need (eqb o system_master || has_request ch.left o) whole (λ f. simp (f, and-false)) e in
      record {
        small = leb-true o system_master (need (leb o system_master) whole (λ f. simp f) e);
        present = need (is_present setup.levels o) whole (λ f. simp (f, and-false)) e;
        asking = ⊎_elim (λ t. inl (eqb-true o system_master t)) inr (or_cases (eqb o system_master) (has_request ch.left o) asks);
        active = not-true _ (need (not (is_inactive ch.inactive o)) whole (λ f. simp (f, and-false)) e);
      }

  grant_by : (o : ℕ) → Grant setup.levels ch o → is_grant_sound setup.levels ch o ≡ true
  unfolding is_grant_sound
  grant_by o g =
      let asks : (eqb o system_master || has_request ch.left o) ≡ true =
      ⊎_elim (λ e. or_left _ _ (eq-eqb o system_master e)) (λ e. or_right (eqb o system_master) _ e) g.asking
      in
      rw (le-leb o system_master g.small, g.present, g.active, asks)

  owner_is : is_owner_sound setup.levels ch ≡ true → (o : ℕ) → ch.phase ≡ Granted o → Grant setup.levels ch o
  unfolding is_owner_sound
  owner_is h o e = grant_is o (sym (ap (λ (p : Phase). owner_sound setup.levels ch p) e) ∙ h)

  owner_by : ((o : ℕ) → ch.phase ≡ Granted o → Grant setup.levels ch o) → (p : Phase) → ch.phase ≡ p → owner_sound setup.levels ch p ≡ true
  owner_by h Arbitrating e = refl
  owner_by h (Granted o) e = grant_by o (h o e)

  -- the requests
  request_is : (l : ℕ) → is_request_sound setup ch l ≡ true → has_request ch.left l ≡ true
      → (is_present setup.levels l ≡ true) × (request_verdict setup l (request_of ch l) ≡ accepted)
  unfolding is_request_sound
  request_is l h e =
      let r = rw (not-true (eqb (get_or ch.left l 0) 0) e) at h in
      (and_left _ _ r, accepted_is _ (and_right (is_present setup.levels l) _ r))

  blank_is : (l : ℕ) → is_request_sound setup ch l ≡ true → has_request ch.left l ≡ false → is_blank (request_of ch l) ≡ true
  unfolding is_request_sound
  blank_is l h e = rw (not-false (eqb (get_or ch.left l 0) 0) e) at h

  request_by : Settled setup ch → (l : ℕ) → l < places → is_request_sound setup ch l ≡ true
  unfolding is_request_sound
  request_by s l k =
      by_test (has_request ch.left l)
      (λ t. let r = s.request l k t in rw (not-true (eqb (get_or ch.left l 0) 0) t, r.0, r.1))
      (λ f. rw (not-false (eqb (get_or ch.left l 0) 0) f) (s.blank l k f))

  -- the marks
  mark_is : (active : Bool) (l : ℕ) → is_mark_sound setup.levels (is_inactive ch.inactive l) active l ≡ true → is_inactive ch.inactive l ≡ true
      → (is_present setup.levels l ≡ true) × (is_fair (level_of setup.levels l).options ≡ true) × (active ≡ true)
  unfolding is_mark_sound
  mark_is active l h e =
      let r = rw e at h in
      let s = and_right (is_present setup.levels l) _ r in
      (and_left _ _ r, and_left _ _ s, and_right (is_fair (level_of setup.levels l).options) _ s)

  mark_at : are_marks_sound setup.levels ch.inactive (line ch) ≡ true → (l : ℕ) → l < places → is_inactive ch.inactive l ≡ true
      → (is_present setup.levels l ≡ true) × (is_fair (level_of setup.levels l).options ≡ true) × (line ch ≡ true)
  unfolding are_marks_sound
  mark_at h l k e =
      mark_is (line ch) l (all_at (λ (m : ℕ). is_mark_sound setup.levels (is_inactive ch.inactive m) (line ch) m) places h l k) e

  mark_by : Sound setup ch → (l : ℕ) → l < places → is_mark_sound setup.levels (is_inactive ch.inactive l) (line ch) l ≡ true
  unfolding is_mark_sound
  mark_by s l k =
      by_test (is_inactive ch.inactive l)
      (λ t. let f = s.settled.fair l k t in rw (t, f.0, f.1) (s.marked l k t))
      (λ f. rw f)

  -- the asked time
  at_is : (o t : ℕ) → is_asked_at setup ch (line ch) o t ≡ true → InTime setup ch o t
  unfolding is_asked_at
  at_is o t e =
      let r = and_right (line ch) _ e in
      record { line = and_left _ _ e; past = leb-true t _ (and_left _ _ r); kept = and_right (leb t ch.clock) _ r }

  at_by : (o t : ℕ) → InTime setup ch o t → is_asked_at setup ch (line ch) o t ≡ true
  unfolding is_asked_at
  at_by o t i = rw (i.line, le-leb t _ i.past, i.kept)

  asked_by_lem : Sound setup ch → (p : Phase) (a : Option ℕ) → ch.phase ≡ p → ch.asked ≡ a → asked_sound setup ch (line ch) p a ≡ true
  asked_by_lem s Arbitrating None e f = refl
  asked_by_lem s Arbitrating (Some t) e f = let n = s.settled.unasked e in let z : ◌≡◌ {A = ℕ} 0 1 = cc in absurd (omega arith)
  asked_by_lem s (Granted o) None e f = rw (s.quiet o e f)
  asked_by_lem s (Granted o) (Some t) e f = at_by o t (s.settled.asked o t e f)

  asked_is : (p : Phase) (a : Option ℕ) → is_asked_sound setup ch (line ch) ≡ true → ch.phase ≡ p → ch.asked ≡ a → asked_sound setup ch (line ch) p a ≡ true
  unfolding is_asked_sound
  asked_is p a h e f = sym (ap₂ (asked_sound setup ch (line ch)) e f) ∙ h

  unasked_is : (a : Option ℕ) → asked_sound setup ch (line ch) Arbitrating a ≡ true → a ≡ None
  unasked_is None h = refl
  unasked_is (Some t) h = absurd (false≢true h)

  pub sound_is : is_sound setup ch ≡ true → Sound setup ch
  unfolding is_sound are_requests_sound
  sound_is h =
      let never = need (is_never_granted_sound ch.ever ch.phase ch.clock ch.inactive) (is_sound setup ch) (λ f. simp f) h in
      let owner = need (is_owner_sound setup.levels ch) (is_sound setup ch) (λ f. simp (f, and-false)) h in
      let requests = need (are_requests_sound setup ch) (is_sound setup ch) (λ f. simp (f, and-false)) h in
      let marks = need (are_marks_sound setup.levels ch.inactive (line ch)) (is_sound setup ch) (λ f. simp (f, and-false)) h in
      let clock = need (leb ch.clock clock_limit) (is_sound setup ch) (λ f. simp (f, and-false)) h in
      let asked = need (is_asked_sound setup ch (line ch)) (is_sound setup ch) (λ f. simp (f, and-false)) h in
      record {
        settled =
            record {
              never = never_is never;
              owner = owner_is owner;
              request = λ l k. request_is l (all_at (is_request_sound setup ch) places requests l k);
              blank = λ l k. blank_is l (all_at (is_request_sound setup ch) places requests l k);
              fair = λ l k e. let m = mark_at marks l k e in (m.0, m.1);
              clock = leb-true ch.clock clock_limit clock;
              unasked = λ e. unasked_is ch.asked (asked_is Arbitrating ch.asked asked e refl);
              asked = λ o t e f. at_is o t (asked_is (Granted o) (Some t) asked e f);
            };
        marked = λ l k e. (mark_at marks l k e).2;
        quiet = λ o e f. not-true (line ch) (asked_is (Granted o) None asked e f);
      }

  pub sound_by : Sound setup ch → is_sound setup ch ≡ true
  unfolding is_sound is_owner_sound are_requests_sound are_marks_sound is_asked_sound
  sound_by s =
      rw (
        never_by s.settled.never,
        owner_by s.settled.owner ch.phase refl,
        all_intro (is_request_sound setup ch) places (request_by s.settled),
        all_intro (λ (l : ℕ). is_mark_sound setup.levels (is_inactive ch.inactive l) (line ch) l) places (mark_by s),
        le-leb ch.clock clock_limit s.settled.clock,
      )
      (asked_by_lem s ch.phase ch.asked refl refl)

-- whoever is granted has been granted
pub granted_ever : (setup : Setup) (ch : Channel) → Sound setup ch → (o : ℕ) → ch.phase ≡ Granted o → ch.ever ≡ true
granted_ever setup ch s o e =
    by_test ch.ever
    (λ t. t)
    (λ f. let n = (s.settled.never f).phase in let z : ◌≡◌ {A = ℕ} 0 1 = cc in absurd (omega arith))
