-- Searches from a level on: who waits above the winner, and which levels a search may leave out.
use Prim.Native.Nat.{ℕ, zero, suc, ◌+◌, ◌-◌, ◌≤◌, ◌<◌}
use mathlib.Core.Path.{◌≡◌, sym, ap, ◌∙◌}
use mathlib.Core.Bool.{Bool, true, false, false≢true}
use mathlib.Core.Logic.{⊎_elim}
use mathlib.Core.List.{List}
use native.Mathlib.Numerals.{add-one}
use native.Mathlib.Omega.{arith}
use borrow.Author.Tests.{eqb-true, eqb-false, ne_eqb, leb-true, leb-false, not-true}
use lib.Dec.{eqb, leb}
use lib.ListN.{get_or, replicate, get_or-replicate}
use Rattle.basics.specs.Limits.{places, system_master}
use Rattle.basics.specs.Scan.{first_from}
use Rattle.basics.proofs.ScanLaws.{first_miss}
use Rattle.basics.proofs.Tests.{by_test, same_test, and_left, and_right, or_left, or_right}
use Rattle.channel.specs.declared.Phase.TheVariants.{Granted}
use Rattle.channel.specs.declared.Channel.{Channel}
use Rattle.channel.specs.Channel.{has_request}
use Rattle.channel.specs.Line.{is_inactive, waits, line_active, winner, winner_from}
use Rattle.channel.proofs.LineLaws.{waits_is, line_by, line_some, winner_is, winner_lowest}
use Rattle.step.specs.inner.Machine.{any_from, waits_from, asks_beside, others_from, NoneAsk, NoneWait, Search, marked, marks_left, IsChosen}

-- one of the numbers from i on
pub from_hit : (f : ℕ → Bool) (i k j : ℕ) → i ≤ j → j < i + k → f j ≡ true → any_from f i k ≡ true
unfolding any_from
from_hit f i zero j h l e = absurd (omega (arith, h, l))
from_hit f i (suc k) j h l e =
    by_test (eqb i j)
    (λ t. let same : i ≡ j = eqb-true i j t in or_left (f i) _ (ap f same ∙ e))
    (λ n. or_right (f i) _ (from_hit f (suc i) k j (omega (arith, h, eqb-false i j n)) (omega (arith, l)) e))

pub from_some : (f : ℕ → Bool) (i k : ℕ) → any_from f i k ≡ true → (j : ℕ) × (i ≤ j) × (j < i + k) × (f j ≡ true)
unfolding any_from
from_some f i zero e = absurd (false≢true e)
from_some f i (suc k) e =
    by_test (f i)
    (λ t. (i, omega arith, omega arith, t))
    (λ n. let s = from_some f (suc i) k (rw n at e) in (s.0, omega (arith, s.1), omega (arith, s.2), s.3))

-- after a grant the line is active where a level above the winner waits: no level below it does
pub above_winner : (left : List ℕ) (inactive : List Bool) (w : ℕ) → w ≡ winner left inactive
    → line_active left inactive (Granted w) ≡ waits_from left inactive (w + 1)
unfolding waits_from waits
above_winner left inactive w e =
    same_test (line_active left inactive (Granted w)) (any_from (waits left inactive) (w + 1) (places - (w + 1)))
    (λ t.
    let d = line_some left inactive (Granted w) t in
    let a : waits left inactive d.0 ≡ true = rw (d.2.request, d.2.active) in
    let low = winner_lowest left inactive d.0 d.1 a in
    from_hit (waits left inactive) (w + 1) (places - (w + 1)) d.0 (omega (arith, low, e, d.2.other)) (omega (arith, d.1)) a)
    (λ t.
    let s = from_some (waits left inactive) (w + 1) (places - (w + 1)) t in
    let a = waits_is left inactive 0 s.0 s.3 in
    line_by left inactive (Granted w) s.0 (omega (arith, s.1, s.2))
    (record { request = a.0; active = a.1; other = λ q. omega (arith, q, s.1) }))

pub winner_small : (left : List ℕ) (inactive : List Bool) → winner left inactive ≤ system_master
winner_small left inactive = ⊎_elim (λ w. omega (arith, w.1)) (λ n. omega (arith, n.0)) (winner_is left inactive)

pub from_miss : (f : ℕ → Bool) (i n : ℕ) → i < n → f i ≡ false → any_from f i (n - i) ≡ any_from f (i + 1) (n - (i + 1))
unfolding any_from
from_miss f i n h e = let k : n - i ≡ suc (n - (i + 1)) = omega arith in rw (k, e, add-one i)

-- a search may leave out the first numbers where none of them is right
first_skip : (f : ℕ → Bool) (i n d : ℕ) → i ≤ n → ((l : ℕ) → l < i → f l ≡ false) → first_from f i (n - i) d ≡ first_from f 0 n d
first_skip f zero n d h none = let e : n - 0 ≡ n = omega arith in rw e
first_skip f (suc i) n d h none =
    let s = sym (first_miss f i n d (omega (arith, h)) (none i (omega arith))) in
    let e : i + 1 ≡ suc i = omega arith in
    (rw e at s) ∙ first_skip f i n d (omega (arith, h)) (λ l k. none l (omega (arith, k)))

-- without marks, whoever has a request drives the line
no_mark : (l : ℕ) → l < places → is_inactive (replicate places false) l ≡ false
no_mark l h = get_or-replicate places l false false h

pub others_line : (left : List ℕ) (base w : ℕ) → NoneAsk left base → base ≤ places
    → others_from left base w ≡ line_active left (replicate places false) (Granted w)
unfolding others_from asks_beside
others_line left base w none small =
    same_test (others_from left base w) (line_active left (replicate places false) (Granted w))
    (λ t.
    let s = from_some (asks_beside left w) base (places - base) t in
    line_by left (replicate places false) (Granted w) s.0 (omega (arith, s.2, small))
    (record {
      request = and_left (has_request left s.0) _ s.3;
      active = no_mark s.0 (omega (arith, s.2, small));
      other = eqb-false s.0 w (not-true (eqb s.0 w) (and_right (has_request left s.0) _ s.3));
    }))
    (λ t.
    let d = line_some left (replicate places false) (Granted w) t in
    from_hit (asks_beside left w) base (places - base) d.0 (not_below d.0 d.2.request) (omega (arith, d.1))
    (rw (d.2.request, ne_eqb d.0 w d.2.other)))
  where
    not_below : (l : ℕ) → has_request left l ≡ true → base ≤ l
    not_below l e =
        by_test (leb base l)
        (λ t. leb-true base l t)
        (λ f. absurd (false≢true (sym (none l (omega (arith, leb-false base l f))) ∙ e)))

module _ (ch : Channel) (base low w : ℕ) (s : Search ch base low) (found : w ≡ winner_from ch.left ch.inactive low) where
  -- the search from `low` on finds the winner
  pub is : w ≡ winner ch.left ch.inactive
  unfolding winner_from
  is = found ∙ first_skip (waits ch.left ch.inactive) low places system_master s.small s.clear

  -- below the winner nobody waits
  below_winner : NoneWait ch.left ch.inactive (winner ch.left ch.inactive)
  below_winner l h =
      by_test (waits ch.left ch.inactive l)
      (λ t. absurd (omega (arith, h, winner_lowest ch.left ch.inactive l (omega (arith, h, winner_small ch.left ch.inactive)) t)))
      (λ f. f)

  -- some level above the winner waits: the marks stay
  pub chosen_active : waits_from ch.left ch.inactive (w + 1) ≡ true → IsChosen ch ch base
      (record { winner = w; active = true; low = w })
  unfolding marks_left
  chosen_active t =
      let line = ap (λ (x : ℕ). line_active ch.left ch.inactive (Granted x)) (sym is) ∙ above_winner ch.left ch.inactive w is ∙ t in
      record {
        won = is;
        marks = rw line;
        active = sym line;
        low = omega (arith, is);
        clear = λ l h. below_winner l (omega (arith, is, h));
      }

  -- none does: the marks go
  base_low : base ≤ winner ch.left ch.inactive
  base_low =
      ⊎_elim
      (λ p. at_least (waits_is ch.left ch.inactive 0 (winner ch.left ch.inactive) p.0).0)
      (λ n. omega (arith, n.0, s.most))
      (winner_is ch.left ch.inactive)
    where
      at_least : has_request ch.left (winner ch.left ch.inactive) ≡ true → base ≤ winner ch.left ch.inactive
      at_least e =
          by_test (leb base (winner ch.left ch.inactive))
          (λ t. leb-true base _ t)
          (λ f. absurd (false≢true (sym (s.none _ (omega (arith, leb-false base _ f))) ∙ e)))

  pub chosen_quiet : (active : Bool) → waits_from ch.left ch.inactive (w + 1) ≡ false → active ≡ others_from ch.left base w
      → IsChosen ch (marked ch (replicate places false)) base (record { winner = w; active = active; low = base })
  unfolding marks_left waits
  chosen_quiet active f e =
      let line = ap (λ (x : ℕ). line_active ch.left ch.inactive (Granted x)) (sym is) ∙ above_winner ch.left ch.inactive w is ∙ f in
      record {
        won = is;
        marks = rw line;
        active = e ∙ others_line ch.left base w s.none (omega (arith, s.most))
            ∙ ap (λ (x : ℕ). line_active ch.left (replicate places false) (Granted x)) is;
        low = base_low;
        clear = λ l h. rw (s.none l h);
      }

-- one level more without a request
pub none_more : (left : List ℕ) (i : ℕ) → NoneAsk left i → get_or left i 0 ≡ 0 → NoneAsk left (i + 1)
none_more left i h e l n =
    by_test (eqb l i)
    (λ t. let same : l ≡ i = eqb-true l i t in rw (same, e))
    (λ f. h l (omega (arith, n, eqb-false l i f)))
