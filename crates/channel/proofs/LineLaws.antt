-- Laws of the line, the line rule and the winner.
use Prim.Native.Nat.{ℕ, ◌<◌, ◌≤◌}
use mathlib.Core.Path.{◌≡◌, refl, sym, ◌∙◌}
use mathlib.Core.Bool.{Bool, true, false, not, and-true}
use mathlib.Core.Logic.{◌⊎◌, inl, inr}
use mathlib.Core.List.{List}
use native.Mathlib.Omega.{arith}
use borrow.Author.Tests.{eqb-false, ne_eqb, not-true}
use lib.ListN.{length, replicate, get_or-replicate, length-replicate}
use lib.Seq.{ext_get_or}
use Rattle.std.specs.Prelude.{None, Some}
use Rattle.basics.specs.Limits.{places, no_owner, system_master}
use Rattle.basics.specs.Scan.{any_below}
use Rattle.basics.proofs.ScanLaws.{any_hit, any_ext, any_some, any_mono, any_none, first_least, first_finds, first_default}
use Rattle.basics.proofs.Tests.{by_test, and_left, and_right}
use Rattle.channel.specs.declared.Phase.{Phase}
use Rattle.channel.specs.declared.Phase.TheVariants.{Arbitrating, Granted}
use Rattle.channel.specs.declared.Channel.{Channel}
use Rattle.channel.specs.Channel.{owner_of, has_request}
use Rattle.channel.specs.Line.{is_inactive, waits, drives, line_active, line, asks, others_ask, clear_marks, set_asked, line_rule, winner, winner_from}

-- what it takes to drive the line, as facts
pub record Drives (left : List ℕ) (inactive : List Bool) (owner l : ℕ) : Type 0 where
  pub request : has_request left l ≡ true
  pub active : is_inactive inactive l ≡ false
  pub other : l ≡ owner → ⊥

module _ (left : List ℕ) (inactive : List Bool) (owner l : ℕ) where
  pub drives_is : drives left inactive owner l ≡ true → Drives left inactive owner l
  unfolding drives
  drives_is e =
      let r = and_right (has_request left l) _ e in
      record {
        request = and_left _ _ e;
        active = not-true _ (and_left _ _ r);
        other = eqb-false l owner (not-true _ (and_right (not (is_inactive inactive l)) _ r));
      }

  pub drives_by : Drives left inactive owner l → drives left inactive owner l ≡ true
  unfolding drives
  drives_by d = rw (d.request, d.active, ne_eqb l owner d.other)

  pub waits_is : waits left inactive l ≡ true → (has_request left l ≡ true) × (is_inactive inactive l ≡ false)
  unfolding waits
  waits_is e = (and_left _ _ e, not-true _ (and_right (has_request left l) _ e))

-- while arbitrating, whoever waits drives the line
pub waits_drives : (left : List ℕ) (inactive : List Bool) (l : ℕ) → l < places → drives left inactive no_owner l ≡ waits left inactive l
unfolding drives waits
waits_drives left inactive l h = rw (ne_eqb l no_owner (omega arith), and-true)

-- the line, from and to one level that drives it
pub line_by : (left : List ℕ) (inactive : List Bool) (phase : Phase) (l : ℕ) → l < places → Drives left inactive (owner_of phase) l
    → line_active left inactive phase ≡ true
unfolding line_active
line_by left inactive phase l h d = any_hit _ l places h (drives_by left inactive (owner_of phase) l d)

pub line_some : (left : List ℕ) (inactive : List Bool) (phase : Phase) → line_active left inactive phase ≡ true
    → (l : ℕ) × (l < places) × Drives left inactive (owner_of phase) l
unfolding line_active
line_some left inactive phase e = let s = any_some _ places e in (s.0, s.1, drives_is left inactive (owner_of phase) s.0 s.2)

-- the asked time does not matter to the line
pub line_asked : (ch : Channel) → line (set_asked ch) ≡ line ch
unfolding set_asked
line_asked ch = refl

pub cleared_on : (ch : Channel) → line ch ≡ true → clear_marks ch ≡ ch
unfolding clear_marks
cleared_on ch t = rw t

-- without marks, the line is driven by whoever asks
cleared_off : (ch : Channel) → line ch ≡ false → (l : ℕ) → l < places
    → drives (clear_marks ch).left (clear_marks ch).inactive (owner_of (clear_marks ch).phase) l ≡ asks ch.left (owner_of ch.phase) l
unfolding clear_marks drives asks
cleared_off ch f l h = rw (f, get_or-replicate places l false false h)

drives_asks : (left : List ℕ) (inactive : List Bool) (owner l : ℕ) → drives left inactive owner l ≡ true → asks left owner l ≡ true
unfolding asks
drives_asks left inactive owner l e =
    let d = drives_is left inactive owner l e in
    rw (d.request, ne_eqb l owner d.other)

-- after the line rule the line is active exactly when a level other than the owner has an open request
pub line_after : (ch : Channel) → line (line_rule ch) ≡ others_ask ch
unfolding line_active others_ask
line_after ch =
    line_asked (clear_marks ch)
    ∙ by_test (line ch)
    (λ t.
    rw (cleared_on ch t, t)
    (sym
    (any_mono (drives ch.left ch.inactive (owner_of ch.phase)) (asks ch.left (owner_of ch.phase)) places
    (λ l h e. drives_asks ch.left ch.inactive (owner_of ch.phase) l e) t)))
    (λ f.
    any_ext (drives (clear_marks ch).left (clear_marks ch).inactive (owner_of (clear_marks ch).phase)) (asks ch.left (owner_of ch.phase)) places
    (cleared_off ch f))

-- the winner waits, or nobody does and it is 15
pub winner_is : (left : List ℕ) (inactive : List Bool)
    → ((waits left inactive (winner left inactive) ≡ true) × (winner left inactive < places))
    ⊎ ((winner left inactive ≡ system_master) × (any_below (waits left inactive) places ≡ false))
unfolding winner_from
winner_is left inactive =
    by_test (any_below (waits left inactive) places)
    (λ t.
    let s = any_some (waits left inactive) places t in
    let r = first_finds (waits left inactive) 0 places system_master s.0 (omega arith) (omega (arith, s.1)) s.2 in
    inl (r.0, omega (arith, r.2)))
    (λ f.
    inr (first_default (waits left inactive) 0 places system_master (λ j l h. any_none (waits left inactive) places f j (omega arith)), f))

-- "The lowest-numbered level with an open request and no inactive mark wins": whoever waits is not below the winner
pub winner_lowest : (left : List ℕ) (inactive : List Bool) (l : ℕ) → l < places → waits left inactive l ≡ true → winner left inactive ≤ l
unfolding winner_from
winner_lowest left inactive l h e = first_least (waits left inactive) 0 places system_master l (omega arith) (omega (arith, h)) e

-- an asked time stays while the channel is granted: the 7,800 ns begin once
pub asked_stays : (ch : Channel) (o t : ℕ) → ch.phase ≡ Granted o → ch.asked ≡ Some t → (line_rule ch).asked ≡ Some t
unfolding set_asked clear_marks
asked_stays ch o t p a = rw (p, a)

-- and it begins with an active line alone, not with the grant
pub unasked : (ch : Channel) (o : ℕ) → ch.phase ≡ Granted o → ch.asked ≡ None → line ch ≡ false → (set_asked ch).asked ≡ None
unfolding set_asked
unasked ch o p a f = rw (f, p, a)

-- while arbitrating, the line is not active where nobody waits
pub none_waits : (ch : Channel) → ch.phase ≡ Arbitrating → any_below (waits ch.left ch.inactive) places ≡ false → line ch ≡ false
unfolding line_active
none_waits ch p f = rw p (any_ext _ (waits ch.left ch.inactive) places (waits_drives ch.left ch.inactive) ∙ f)

-- an array of marks of which none is set
pub no_marks : (inactive : List Bool) → length inactive ≡ places → ((l : ℕ) → l < places → is_inactive inactive l ≡ false)
    → inactive ≡ replicate places false
no_marks inactive n h =
    ext_get_or false inactive (replicate places false) (n ∙ sym (length-replicate places false))
    (λ l k. h l (omega (arith, n)) ∙ sym (get_or-replicate places l false false (omega (arith, n))))
