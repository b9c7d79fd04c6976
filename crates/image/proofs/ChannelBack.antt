-- A source that spells a channel's numbers is read as that channel, where nothing follows them. Assumes nothing.
use Prim.Native.Nat.{ℕ, zero, suc, ◌+◌, ◌≤◌, ◌<◌}
use mathlib.Core.Path.{◌≡◌, refl, sym, ap, ap₂, ◌∙◌}
use mathlib.Core.Bool.{Bool, true, false}
use mathlib.Core.List.{[], ◌∷◌}
use native.Mathlib.Numerals.{add-one}
use native.Mathlib.Omega.{arith}
use borrow.Author.Tests.{eqb-true, ltb-true, ltb-false, le-ltb}
use lib.ListN.{get_or}
use lib.Seq.{ext_get_or}
use lib.Dec.{eqb, ltb}
use Rattle.basics.specs.Limits.{places}
use Rattle.basics.proofs.Tests.{by_test}
use Rattle.refusal.specs.Refusal.{refusal_by}
use Rattle.std.specs.Prelude.{Ok, None, Option, Some}
use Rattle.number.specs.Number.{Number}
use Rattle.numbers.specs.Numbers.{Reading, passed, numbers}
use Rattle.numbers.proofs.Spelt.{Spells, spells_as, spells_first, spells_none, spells_split, spelt_passed, spelt_numbers, ranged_by}
use Rattle.channel.specs.declared.Phase.{Phase}
use Rattle.channel.specs.declared.Phase.TheVariants.{Arbitrating, Granted}
use Rattle.channel.specs.declared.Channel.{Channel}
use Rattle.channel.specs.declared.Request.{Request}
use Rattle.channel.specs.Channel.{request_of, no_request, with_request, changed, fresh_channel, Shaped}
use Rattle.channel.proofs.RequestLaws.{same_channel, request_same, request_other, fresh_shaped, with_shaped, changed_shaped}
use Rattle.image.specs.Layout.{flag_number, phase_number, asked_numbers, marks_number, request_numbers, requests_numbers, channel_numbers}
use Rattle.image.specs.Read.{
  phase_of,
  marks_of,
  marks_most,
  time_at,
  asked_at,
  channel_read,
  marks_at,
  owner_at,
  clock_at,
  state_at,
  requests_at,
  channel_part_at,
}
use Rattle.image.proofs.MarkLaws.{flag_most, marks_most_lem, marks_back}
use Rattle.image.proofs.ChannelSpelt.{marks_numbers, state_numbers, fresh_none, channel_parts}

-- the flag by its own number, which is one of two, and the phase by its
flag_is : (so : Bool) → eqb (flag_number so) 1 ≡ so
flag_is true = refl
flag_is false = refl

phase_is : (phase : Phase) → phase_of (phase_number phase) ≡ phase
phase_is Arbitrating = refl
phase_is (Granted owner) = rw (add-one owner)

module _ (src : Reading) where
  -- the asked time
  asked_read_lem : (asked : Option ℕ) (at : ℕ) {end : ℕ} → Spells src at (asked_numbers asked) end → asked_at src at ≡ Ok (asked, end)
  unfolding asked_at time_at
  asked_read_lem None at s =
      let f = spells_first s in
      rw (ranged_by src 0 1 (refusal_by 18) at f.1 (omega arith) (omega arith), spells_none f.2)
  asked_read_lem (Some time) at s =
      let f = spells_first s in
      let t = spells_first f.2 in
      rw (ranged_by src 0 1 (refusal_by 18) at f.1 (omega arith) (omega arith), t.1, spells_none t.2)

  -- a place with a request, by its numbers
  request_read_lem : (more l : ℕ) (own : Channel) (at : ℕ) (q : Request) {next mid : ℕ} → src at ≡ Number q.left next → eqb q.left 0 ≡ false
      → Spells src next (q.direction ∷ q.space ∷ q.address ∷ q.offset ∷ []) mid
      → requests_at src (suc more) l own at ≡ requests_at src more (l + 1) (with_request own l q) mid
  unfolding requests_at
  request_read_lem more l own at q {next} {mid} r some s =
      let good : passed src 4 next ≡ Ok mid = spelt_passed s in
      let read : numbers src 4 next ≡ q.direction ∷ q.space ∷ q.address ∷ q.offset ∷ [] = spelt_numbers s in
      rw (r, some, good, read)

  module _ (ch : Channel) (shaped : Shaped ch) where
    -- the state: a channel that has it and no requests
    abbrev begun : Channel
    begun = changed fresh_channel ch.phase ch.asked ch.ever ch.clock ch.inactive

    marks_read : (at : ℕ) {end : ℕ} → Spells src at (marks_numbers ch) end
        → marks_at src ch.ever ch.clock ch.phase at ≡ Ok (begun, end)
    unfolding marks_at
    marks_read at s =
        let t = spells_split (asked_numbers ch.asked) s in
        let f = spells_first t.2 in
        let most = marks_most_lem ch.inactive (omega (arith, shaped.inactive)) in
        let back : marks_of places (marks_number ch.inactive) ≡ ch.inactive = rw shaped.inactive at (marks_back ch.inactive) in
        rw (asked_read_lem ch.asked at t.1, ranged_by src 0 marks_most (refusal_by 18) t.0 f.1 (omega arith) most, back, spells_none f.2)

    state_read : phase_number ch.phase ≤ places → (at : ℕ) {end : ℕ} → Spells src at (state_numbers ch) end
        → state_at src at ≡ Ok (begun, end)
    unfolding state_at clock_at owner_at
    state_read owner at s =
        let e = spells_first s in
        let f = spells_first e.2 in
        let g = spells_first f.2 in
        rw (
          ranged_by src 0 1 (refusal_by 18) at e.1 (omega arith) (flag_most ch.ever),
          flag_is ch.ever,
          f.1,
          ranged_by src 0 places (refusal_by 18) f.0 g.1 (omega arith) owner,
          phase_is ch.phase,
        )
        (marks_read g.0 g.2)

    -- of the requests those of the levels below l are the channel's, and there are no others
    record Filled (l : ℕ) (own : Channel) : Type 0 where
      state : begun ≡ changed fresh_channel own.phase own.asked own.ever own.clock own.inactive
      shaped_own : Shaped own
      request : (j : ℕ) → j < l → request_of own j ≡ request_of ch j
      none : (j : ℕ) → l ≤ j → request_of own j ≡ no_request

    -- of all levels
    filled_all : (own : Channel) → Filled places own → own ≡ ch
    filled_all own f =
        let s = f.shaped_own in
        let same : (part : Request → ℕ) (j : ℕ) → j < places → part (request_of own j) ≡ part (request_of ch j) = λ part j h. ap part (f.request j h) in
        same_channel own ch
        (ap (λ (c : Channel). c.phase) (sym f.state))
        (ap (λ (c : Channel). c.asked) (sym f.state))
        (ap (λ (c : Channel). c.ever) (sym f.state))
        (ap (λ (c : Channel). c.clock) (sym f.state))
        (ap (λ (c : Channel). c.inactive) (sym f.state))
        (ext_get_or 0 own.direction ch.direction (s.direction ∙ sym shaped.direction)
        (λ j h. same (λ q. q.direction) j (omega (arith, s.direction))))
        (ext_get_or 0 own.space ch.space (s.space ∙ sym shaped.space) (λ j h. same (λ q. q.space) j (omega (arith, s.space))))
        (ext_get_or 0 own.address ch.address (s.address ∙ sym shaped.address)
        (λ j h. same (λ q. q.address) j (omega (arith, s.address))))
        (ext_get_or 0 own.left ch.left (s.left ∙ sym shaped.left) (λ j h. same (λ q. q.left) j (omega (arith, s.left))))
        (ext_get_or 0 own.offset ch.offset (s.offset ∙ sym shaped.offset)
        (λ j h. same (λ q. q.offset) j (omega (arith, s.offset))))

    -- a level more, with a request and without
    filled_on : (l : ℕ) (own : Channel) → l < places → Filled l own → Filled (l + 1) (with_request own l (request_of ch l))
    unfolding with_request
    filled_on l own h f =
        let q = request_of ch l in
        record {
          state = f.state;
          shaped_own = with_shaped own l q f.shaped_own;
          request = λ j k.
              by_test (ltb j l)
              (λ t. let b = ltb-true j l t in request_other own l j q (omega arith) ∙ f.request j b)
              (λ e. let b : j ≡ l = omega (arith, ltb-false j l e) in rw b (request_same own l q f.shaped_own h));
          none = λ j k. request_other own l j q (omega arith) ∙ f.none j (omega arith);
        }

    filled_none : (l : ℕ) (own : Channel) → request_of ch l ≡ no_request → Filled l own → Filled (l + 1) own
    filled_none l own e f =
        record {
          state = f.state;
          shaped_own = f.shaped_own;
          request = λ j k.
              by_test (ltb j l)
              (λ t. f.request j (ltb-true j l t))
              (λ n. let b : j ≡ l = omega (arith, ltb-false j l n) in rw b (f.none l (omega arith) ∙ sym e));
          none = λ j k. f.none j (omega arith);
        }

    module _ (blank : (l : ℕ) → get_or ch.left l 0 ≡ 0 → request_of ch l ≡ no_request) where
      -- the requests of `more` places from level l on
      requests_read : (more l : ℕ) (own : Channel) (at : ℕ) {end : ℕ} → l + more ≡ places → Filled l own
          → Spells src at (requests_numbers ch more l) end
          → requests_at src more l own at ≡ channel_read ch (Ok end)
      unfolding requests_at requests_numbers
      requests_read zero l own at all f s =
          let last : l ≡ places = omega arith in
          ap₂ (λ (x : Channel) (e : ℕ). channel_read x (Ok e)) (filled_all own (rw last at f)) (spells_none s)
      requests_read (suc more) l own at all f s =
          let q = request_of ch l in
          let t = spells_split (request_numbers q) s in
          by_test (eqb q.left 0)
          (λ none.
          let stands : Spells src at (0 ∷ []) t.0 = spells_as (rw none) t.1 in
          let v = spells_first stands in
          rw (v.1, spells_none v.2)
          (requests_read more (l + 1) own t.0 (omega arith) (filled_none l own (blank l (eqb-true q.left 0 none)) f) t.2))
          (λ some.
          let stands : Spells src at (q.left ∷ q.direction ∷ q.space ∷ q.address ∷ q.offset ∷ []) t.0 = spells_as (rw some) t.1 in
          let v = spells_first stands in
          request_read_lem more l own at q v.1 some v.2
          ∙ requests_read more (l + 1) (with_request own l q) t.0 (omega arith) (filled_on l own (omega arith) f) t.2)

      -- The channel, where its numbers end no sooner than the image.
      pub channel_read_lem : phase_number ch.phase ≤ places → (len at : ℕ) {end : ℕ} → len ≤ end → Spells src at (channel_numbers ch) end
          → channel_part_at src len at ≡ channel_read ch (Ok end)
      unfolding channel_part_at
      channel_read_lem owner len at {end} h s =
          let t = spells_split (state_numbers ch) (spells_as (sym (channel_parts ch)) s) in
          let empty : Filled 0 begun = record {
            state = refl;
            shaped_own = changed_shaped fresh_channel ch.phase ch.asked ch.ever ch.clock ch.inactive shaped.inactive fresh_shaped;
            request = λ j k. absurd (omega arith);
            none = λ j k. fresh_none j;
          } in
          rw (state_read owner at t.1, requests_read places 0 begun t.0 (omega arith) empty t.2, le-ltb end len h)
