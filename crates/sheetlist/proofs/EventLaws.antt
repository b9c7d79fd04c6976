-- The events of a valid list: each is where the walk from the first comes, with its numbers in range, and the last ends
-- where the list ends. Assumes nothing.
use Prim.Native.Nat.{ℕ, zero, suc, ◌+◌, ◌≤◌, ◌<◌}
use mathlib.Core.Path.{◌≡◌, refl, sym, ◌∙◌}
use mathlib.Core.Bool.{false, true, cond, false≢true}
use mathlib.Core.List.{List}
use mathlib.Core.Logic.{⊎_elim}
use native.Mathlib.Nat.{zero-add, eq-or-lt_of_le}
use native.Mathlib.Numerals.{add-one}
use native.Mathlib.Omega.{arith}
use borrow.Author.Tests.{lt-ltb}
use lib.ListN.{length, get_or}
use lib.Dec.{eqb}
use Rattle.std.specs.Prelude.{Ok}
use Rattle.basics.specs.Limits.{steps_most, events_most}
use Rattle.basics.proofs.Tests.{by_test}
use Rattle.refusal.specs.declared.Refusal.TheVariants.{BadEvents}
use Rattle.numbers.specs.Numbers.{Part, list_at, number_between, passed}
use Rattle.numbers.proofs.Laws.{in_range_lem, stands}
use Rattle.numbers.proofs.Parts.{with_good, then_good}
use Rattle.sheet.specs.Sheet.{step_count, event, events, counted_events, sheet}
use Rattle.sheet.proofs.RoundTrip.{list_whole}
use Rattle.sheetlist.specs.declared.Event.TheVariants.{Steps, Post}
use Rattle.sheetlist.specs.Held.{is_steps, post_at, events_from, event_count, event_at, first_event, next_event, event_from, event_of}
use Rattle.sheetlist.proofs.Framed.{passed_listed, events_placed}

good_one : {a b : ℕ} → ◌≡◌ {A = Part} (Ok a) (Ok b) → a ≡ b
good_one e = cc

module _ (list : List ℕ) where
  -- a step count that was judged
  record StepCount (at next : ℕ) : Type 0 where
    next_is : next ≡ at + 1
    least : 1 ≤ get_or list at 0
    most : get_or list at 0 ≤ steps_most

  step_count_lem : (at : ℕ) {next : ℕ} → step_count (list_at list) at ≡ Ok next → StepCount at next
  unfolding step_count
  step_count_lem at {next} e =
      let w = with_good (number_between (list_at list) 1 steps_most BadEvents at) (λ n to. Ok to) e in
      let r = in_range_lem (list_at list) 1 steps_most BadEvents at w.2 in
      let s = stands list at r.stands in
      let same : w.1 ≡ next = good_one w.3 in
      record {
        next_is = omega (arith, same, s.next_is);
        least = omega (arith, r.least, s.value);
        most = omega (arith, r.most, s.value);
      }

  -- an event that was judged: where the next begins, and its step count
  pub record Event-good (at next : ℕ) : Type 0 where
    pub inside : at < length list
    pub kind : get_or list at 0 ≤ 1
    pub next_is : next ≡ next_event list at
    pub steps : is_steps list at ≡ true → (1 ≤ get_or list (at + 1) 0) × (get_or list (at + 1) 0 ≤ steps_most)

  event_from_lem : (at kind to : ℕ) {next : ℕ} → kind ≡ get_or list at 0 → kind ≤ 1 → to ≡ at + 1 → at < length list
      → cond (eqb kind 0) (step_count (list_at list) to) (passed (list_at list) 6 to) ≡ Ok next → Event-good at next
  unfolding next_event
  event_from_lem at kind to {next} k m p h e =
      let inside = lt-ltb at (length list) h in
      by_test (is_steps list at)
      (λ t.
      let q : step_count (list_at list) (at + 1) ≡ Ok next = rw (k, p, t) at e in
      let c = step_count_lem (at + 1) q in
      record {
        inside = h;
        kind = omega arith;
        next_is = rw (inside, t) (omega (arith, c.next_is));
        steps = λ b. (c.least, c.most);
      })
      (λ f.
      let q : passed (list_at list) 6 (at + 1) ≡ Ok next = rw (k, p, f) at e in
      let c = passed_listed list 6 (at + 1) q in
      record {
        inside = h;
        kind = omega arith;
        next_is = rw (inside, f) (omega arith);
        steps = λ b. absurd (false≢true (sym f ∙ b));
      })

  event_good : (at : ℕ) {next : ℕ} → event (list_at list) at ≡ Ok next → Event-good at next
  unfolding event
  event_good at e =
      let w = with_good (number_between (list_at list) 0 1 BadEvents at)
      (λ kind to. cond (eqb kind 0) (step_count (list_at list) to) (passed (list_at list) 6 to)) e in
      let r = in_range_lem (list_at list) 0 1 BadEvents at w.2 in
      let s = stands list at r.stands in
      event_from_lem at w.0 w.1 s.value r.most s.next_is s.inside w.3

  -- the events from i up to m that were judged stand where the walk comes
  record Events-good (i m end : ℕ) : Type 0 where
    ends : end ≡ event_from list m
    each : (j : ℕ) → i ≤ j → j < m → Event-good (event_from list j) (event_from list (suc j))

  events_good : (n i m : ℕ) {end : ℕ} → m ≡ i + n → events (list_at list) n (event_from list i) ≡ Ok end → Events-good i m end
  unfolding event_from
  events_good zero i m {end} p e =
      let all : i ≡ m = omega arith in
      record { ends = sym (rw all at (good_one e)); each = λ j l h. absurd (omega arith) }
  events_good (suc n) i m {end} p e =
      let w = then_good (event (list_at list) (event_from list i)) (events (list_at list) n) e in
      let g = event_good (event_from list i) w.1 in
      let r = events_good n (suc i) m (omega arith) (rw g.next_is at w.2) in
      record {
        ends = r.ends;
        each = λ j l h. ⊎_elim (λ q. rw (← q) (record { inside = g.inside; kind = g.kind; next_is = refl; steps = g.steps }))
            (λ k. r.each j k h) (eq-or-lt_of_le l);
      }

  events_all : {end : ℕ} → sheet (list_at list) (length list) ≡ Ok end → Events-good 0 (event_count list) (length list)
  unfolding counted_events event_count event_from
  events_all g =
      let e = rw (list_whole list g).0 at (events_placed list g) in
      let w = with_good (number_between (list_at list) 0 events_most BadEvents (events_from list)) (λ n next. events (list_at list) n next) e in
      let s = stands list (events_from list) (in_range_lem (list_at list) 0 events_most BadEvents (events_from list) w.2).stands in
      events_good (event_count list) 0 (event_count list) (sym (zero-add (event_count list))) (rw (s.value, s.next_is) at w.3)

  -- Every event of a valid list passes the judge where the walk comes to it.
  pub event_each : {end : ℕ} → sheet (list_at list) (length list) ≡ Ok end → (i : ℕ) → i < event_count list
      → Event-good (event_from list i) (event_from list (suc i))
  event_each g i h = (events_all g).each i (omega arith) h

  pub few_events : {end : ℕ} → sheet (list_at list) (length list) ≡ Ok end → event_count list ≤ events_most
  unfolding counted_events event_count
  few_events g =
      let w = with_good (number_between (list_at list) 0 events_most BadEvents (events_from list)) (λ n next. events (list_at list) n next)
      (events_placed list g) in
      let r = in_range_lem (list_at list) 0 events_most BadEvents (events_from list) w.2 in
      omega (arith, r.most, (stands list (events_from list) r.stands).value)

  -- where an event of each kind ends
  pub next_steps : (at : ℕ) → at < length list → is_steps list at ≡ true → next_event list at ≡ at + 2
  unfolding next_event
  next_steps at h t = rw (lt-ltb at (length list) h, t)

  pub next_post : (at : ℕ) → at < length list → is_steps list at ≡ false → next_event list at ≡ at + 7
  unfolding next_event
  next_post at h f = rw (lt-ltb at (length list) h, f)

  -- The events of a valid list end where the list ends.
  pub events_end : {end : ℕ} → sheet (list_at list) (length list) ≡ Ok end → event_from list (event_count list) ≡ length list
  events_end g = sym (events_all g).ends

  -- Every event of a valid list that is no post is of 1 to 65,535 steps.
  pub steps_in_range : {end : ℕ} (i n : ℕ) → sheet (list_at list) (length list) ≡ Ok end → i < event_count list → event_of list i ≡ Steps n
      → (1 ≤ n) × (n ≤ steps_most)
  unfolding event_of event_at
  steps_in_range i n g h e =
      let at = event_from list i in
      let good = (events_all g).each i (omega arith) h in
      by_test (is_steps list at)
      (λ t.
      let q : Steps (get_or list (at + 1) 0) ≡ Steps n = rw t at e in
      let same : get_or list (at + 1) 0 ≡ n = cc in
      rw same at (good.steps t))
      (λ f. let q : Post (post_at list at) ≡ Steps n = rw f at e in let z : ◌≡◌ {A = ℕ} 0 1 = cc in absurd (omega arith))

  -- A walk from the first event, each time to the next, comes to every event by its index.
  pub walked : (i : ℕ)
      → (event_from list 0 ≡ first_event list) × (event_from list (i + 1) ≡ next_event list (event_from list i)) ×
      (event_of list i ≡ event_at list (event_from list i))
  unfolding event_from event_of
  walked i = (refl, rw add-one, refl)
