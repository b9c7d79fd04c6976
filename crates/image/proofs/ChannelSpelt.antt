-- A good part of a channel is spelt by the numbers of the channel that was read from it: its state, its requests, the whole. And of what was read the arrays
-- have their places, the owner has one, and where no request is open there are zeros. Assumes nothing.
use Prim.Native.Nat.{ℕ, zero, suc, ◌+◌, ◌≤◌, ◌<◌}
use mathlib.Core.Path.{◌≡◌, refl, sym, ap, ◌∙◌}
use mathlib.Core.Bool.{Bool, true, false, cond}
use mathlib.Core.List.{List, [], ◌∷◌, ◌++◌, append_assoc}
use native.Mathlib.Numerals.{add-one}
use native.Mathlib.Omega.{arith}
use borrow.Author.Tests.{eqb-true, eqb-false, ltb-false}
use lib.ListN.{get_or}
use lib.Dec.{eqb, ltb}
use Rattle.basics.specs.Limits.{places}
use Rattle.basics.proofs.Arrays.{replicate_at}
use Rattle.basics.proofs.Tests.{by_test}
use Rattle.refusal.specs.Refusal.{refusal_by}
use Rattle.std.specs.Prelude.{Result, Ok, Err, None, Option, Some}
use Rattle.number.specs.declared.Fault.{Fault}
use Rattle.number.specs.Number.{Number}
use Rattle.numbers.specs.Numbers.{Reading, passed, numbers}
use Rattle.numbers.proofs.Laws.{in_range_lem}
use Rattle.numbers.proofs.Parts.{no_good, at_good}
use Rattle.numbers.proofs.Spelt.{Spells, spells_one, spells_as, spells_append, passed_spells, passed_many}
use Rattle.numbers.proofs.Spelt.Spells.{done, then}
use Rattle.channel.specs.declared.Phase.{Phase}
use Rattle.channel.specs.declared.Channel.{Channel}
use Rattle.channel.specs.declared.Request.{Request}
use Rattle.channel.specs.Channel.{request_of, no_request, with_request, changed, fresh_channel, Shaped}
use Rattle.channel.proofs.RequestLaws.{request_same, request_other, fresh_shaped, with_shaped, changed_shaped}
use Rattle.image.specs.declared.ChannelRead.{ChannelRead}
use Rattle.image.specs.Layout.{flag_number, phase_number, asked_numbers, marks_number, request_numbers, requests_numbers, channel_numbers}
use Rattle.image.specs.Read.{
  number_in,
  phase_of,
  marks_of,
  marks_most,
  time_at,
  asked_at,
  with_state,
  marks_at,
  owner_at,
  clock_at,
  state_at,
  request_from,
  requests_at,
  channel_part_at,
}
use Rattle.image.proofs.Told.{Told, at_told, then_told}
use Rattle.image.proofs.MarkLaws.{marks_length, marks_number_back}
use Rattle.image.proofs.RowLaws.{firsts_all}

-- what holds of a channel that was read, as far as that came, and of its end, where its part is good
abbrev pub State : (Channel → ℕ → Type 0) → ChannelRead → Type 0
State P r = (end : ℕ) → r.part ≡ Ok end → P r.channel end

module _ (P : Channel → ℕ → Type 0) where
  state_with : {A : Type 0} (got : Result A Fault) (ch : Channel) (f : A → ChannelRead) → ((x : A) → got ≡ Ok x → State P (f x))
      → State P (with_state got ch f)
  state_with (Ok x) ch f h = h x refl
  state_with (Err x) ch f h = λ end e. no_good e

  state_cond : (b : Bool) (x y : ChannelRead) → (b ≡ true → State P x) → (b ≡ false → State P y) → State P (cond b x y)
  state_cond true x y p q = p refl
  state_cond false x y p q = q refl

-- the number of the flag, and of the phase, that it stands for
flag_back : (n : ℕ) → n ≤ 1 → flag_number (eqb n 1) ≡ n
flag_back zero h = refl
flag_back (suc zero) h = refl
flag_back (suc (suc n)) h = absurd (omega arith)

phase_back : (n : ℕ) → phase_number (phase_of n) ≡ n
phase_back zero = refl
phase_back (suc owner) = add-one owner

-- the fresh channel has no requests
pub fresh_none : (l : ℕ) → request_of fresh_channel l ≡ no_request
fresh_none l =
    let zero_at : get_or fresh_channel.left l 0 ≡ 0 = replicate_at places l 0 in
    λ i. record { direction = zero_at i; space = zero_at i; address = zero_at i; left = zero_at i; offset = zero_at i }

-- the state of a channel: asked time and marks, the owner before them, the clock before it, and whether it was ever granted before that
abbrev pub marks_numbers : Channel → List ℕ
marks_numbers ch = asked_numbers ch.asked ++ (marks_number ch.inactive ∷ [])

abbrev pub owner_numbers : Channel → List ℕ
owner_numbers ch = phase_number ch.phase ∷ marks_numbers ch

abbrev pub clock_numbers : Channel → List ℕ
clock_numbers ch = ch.clock ∷ owner_numbers ch

abbrev pub state_numbers : Channel → List ℕ
state_numbers ch = flag_number ch.ever ∷ clock_numbers ch

-- the whole channel is its state and its requests
pub channel_parts : (ch : Channel) → state_numbers ch ++ requests_numbers ch places 0 ≡ channel_numbers ch
unfolding channel_numbers
channel_parts ch =
    ap (λ (x : List ℕ). flag_number ch.ever ∷ ch.clock ∷ phase_number ch.phase ∷ x)
    (append_assoc (asked_numbers ch.asked) (marks_number ch.inactive ∷ []) (requests_numbers ch places 0))

module _ (src : Reading) where
  -- the asked time
  abbrev AskedTold : ℕ → Option ℕ → ℕ → Type 0
  AskedTold at asked end = Spells src at (asked_numbers asked) end

  asked_told : (at : ℕ) → Told (AskedTold at) (asked_at src at)
  unfolding asked_at time_at
  asked_told at =
      then_told (AskedTold at) (number_in src 0 1 at) _ (λ tag e.
      let r = in_range_lem src 0 1 (refusal_by 18) at e in
      by_test (eqb tag.0 0)
      (λ t. let none = eqb-true tag.0 0 t in rw t (at_told (AskedTold at) (None, tag.1) (spells_one (rw none at r.stands))))
      (λ f.
      let some = eqb-false tag.0 0 f in
      let one : tag.0 ≡ 1 = omega (arith, r.most) in
      rw f
      (then_told (AskedTold at) (src tag.1) _ (λ time s.
      at_told (AskedTold at) (Some time.0, time.1) (then (rw one at r.stands) (spells_one s))))))

  -- A channel without requests, by the parts of its state that were read; those before them are `Known`.
  record StateTold (parts : Channel → List ℕ) (Known : Channel → Type 0) (at : ℕ) (ch : Channel) (end : ℕ) : Type 0 where
    spelt : Spells src at (parts ch) end
    known : Known ch
    shaped : Shaped ch
    none : (l : ℕ) → request_of ch l ≡ no_request

  -- asked time and marks
  abbrev MarksTold : Bool → ℕ → Phase → ℕ → Channel → ℕ → Type 0
  MarksTold ever clock phase = StateTold marks_numbers (λ ch. (ch.phase ≡ phase) × (ch.clock ≡ clock) × (ch.ever ≡ ever))

  marks_told : (ever : Bool) (clock : ℕ) (phase : Phase) (at : ℕ) → Told (MarksTold ever clock phase at) (marks_at src ever clock phase at)
  unfolding marks_at
  marks_told ever clock phase at =
      then_told (MarksTold ever clock phase at) (asked_at src at) _ (λ asked e.
      then_told (MarksTold ever clock phase at) (number_in src 0 marks_most asked.1) _ (λ n g.
      let r = in_range_lem src 0 marks_most (refusal_by 18) asked.1 g in
      let marks = marks_of places n.0 in
      let back : n.0 ≡ marks_number marks = sym (marks_number_back n.0 r.most) in
      at_told (MarksTold ever clock phase at) (changed fresh_channel phase asked.0 ever clock marks, n.1)
      (record {
        spelt = spells_append (asked_told at asked e) (spells_one (r.stands ∙ ap (λ (v : ℕ). Number v n.1) back));
        known = (refl, refl, refl);
        shaped = changed_shaped fresh_channel phase asked.0 ever clock marks (marks_length places n.0) fresh_shaped;
        none = fresh_none;
      })))

  -- the owner before them
  abbrev OwnerTold : Bool → ℕ → ℕ → Channel → ℕ → Type 0
  OwnerTold ever clock = StateTold owner_numbers (λ ch. (phase_number ch.phase ≤ places) × (ch.clock ≡ clock) × (ch.ever ≡ ever))

  owner_told : (ever : Bool) (clock at : ℕ) → Told (OwnerTold ever clock at) (owner_at src ever clock at)
  unfolding owner_at
  owner_told ever clock at =
      then_told (OwnerTold ever clock at) (number_in src 0 places at) _ (λ n e x g.
      let r = in_range_lem src 0 places (refusal_by 18) at e in
      let m = marks_told ever clock (phase_of n.0) n.1 x g in
      let number : phase_number x.0.phase ≡ n.0 = ap phase_number m.known.0 ∙ phase_back n.0 in
      record {
        spelt = then (r.stands ∙ ap (λ (v : ℕ). Number v n.1) (sym number)) m.spelt;
        known = (omega (arith, number, r.most), m.known.1, m.known.2);
        shaped = m.shaped;
        none = m.none;
      })

  -- the clock before it
  abbrev ClockTold : Bool → ℕ → Channel → ℕ → Type 0
  ClockTold ever = StateTold clock_numbers (λ ch. (phase_number ch.phase ≤ places) × (ch.ever ≡ ever))

  clock_told : (ever : Bool) (at : ℕ) → Told (ClockTold ever at) (clock_at src ever at)
  unfolding clock_at
  clock_told ever at =
      then_told (ClockTold ever at) (src at) _ (λ clock e x g.
      let o = owner_told ever clock.0 clock.1 x g in
      record {
        spelt = then (e ∙ ap (λ (v : ℕ). Number v clock.1) (sym o.known.1)) o.spelt;
        known = (o.known.0, o.known.2);
        shaped = o.shaped;
        none = o.none;
      })

  -- whether it was ever granted before that: the whole state
  abbrev WholeState : ℕ → Channel → ℕ → Type 0
  WholeState = StateTold state_numbers (λ ch. phase_number ch.phase ≤ places)

  state_told : (at : ℕ) → Told (WholeState at) (state_at src at)
  unfolding state_at
  state_told at =
      then_told (WholeState at) (number_in src 0 1 at) _ (λ n e x g.
      let r = in_range_lem src 0 1 (refusal_by 18) at e in
      let c = clock_told (eqb n.0 1) n.1 x g in
      let number : flag_number x.0.ever ≡ n.0 = ap flag_number c.known.1 ∙ flag_back n.0 r.most in
      record {
        spelt = then (r.stands ∙ ap (λ (v : ℕ). Number v n.1) (sym number)) c.spelt;
        known = c.known.0;
        shaped = c.shaped;
        none = c.none;
      })

  -- the requests of `more` places from level l on, read into the channel `first`, which has none there
  record RequestsTold (more l at : ℕ) (first ch : Channel) (end : ℕ) : Type 0 where
    spelt : Spells src at (requests_numbers ch more l) end
    before : (j : ℕ) → j < l → request_of ch j ≡ request_of first j
    state : state_numbers ch ≡ state_numbers first
    shaped : Shaped ch
    blank : (j : ℕ) → get_or ch.left j 0 ≡ 0 → request_of ch j ≡ no_request

  -- what the channel has so far
  record SoFar (l : ℕ) (ch : Channel) : Type 0 where
    shaped : Shaped ch
    blank : (j : ℕ) → get_or ch.left j 0 ≡ 0 → request_of ch j ≡ no_request
    none : (j : ℕ) → l ≤ j → request_of ch j ≡ no_request

  so_far_none : (l : ℕ) (ch : Channel) → SoFar l ch → SoFar (l + 1) ch
  so_far_none l ch s = record { shaped = s.shaped; blank = s.blank; none = λ j k. s.none j (omega arith) }

  so_far_on : (l : ℕ) (ch : Channel) (q : Request) → l < places → (q.left ≡ 0 → ⊥) → SoFar l ch → SoFar (l + 1) (with_request ch l q)
  so_far_on l ch q h some s =
      record {
        shaped = with_shaped ch l q s.shaped;
        blank = λ j e.
            by_test (eqb j l)
            (λ t.
            let here : j ≡ l = eqb-true j l t in
            let same = ap (λ (r : Request). r.left) (request_same ch l q s.shaped h) in
            absurd (some (sym same ∙ rw here at e)))
            (λ f.
            let other = request_other ch l j q (eqb-false j l f) in
            other ∙ s.blank j (sym (ap (λ (r : Request). r.left) other) ∙ e));
        none = λ j k. request_other ch l j q (omega arith) ∙ s.none j (omega arith);
      }

  -- one place more before them, by the numbers that stand there
  place_told : (more l at mid : ℕ) (first next ch : Channel) {end : ℕ} (here : List ℕ) → request_numbers (request_of ch l) ≡ here → Spells src at here mid
      → ((j : ℕ) → j < l → request_of next j ≡ request_of first j) → state_numbers next ≡ state_numbers first
      → RequestsTold more (l + 1) mid next ch end
      → RequestsTold (suc more) l at first ch end
  unfolding requests_numbers
  place_told more l at mid first next ch here e stands same state rest =
      record {
        spelt = spells_append (spells_as (sym e) stands) rest.spelt;
        before = λ j h. rest.before j (omega arith) ∙ same j h;
        state = rest.state ∙ state;
        shaped = rest.shaped;
        blank = rest.blank;
      }

  requests_told : (more l : ℕ) (first : Channel) (at : ℕ) → l + more ≤ places → SoFar l first
      → State (RequestsTold more l at first) (requests_at src more l first at)
  unfolding requests_at requests_numbers with_request
  requests_told zero l first at few s =
      at_good (RequestsTold zero l at first first)
      (record { spelt = done; before = λ j h. refl; state = refl; shaped = s.shaped; blank = s.blank })
  requests_told (suc more) l first at few s =
      state_with (RequestsTold (suc more) l at first) (src at) first _ (λ read r.
      let left = read.0 in
      let next = read.1 in
      state_cond (RequestsTold (suc more) l at first) (eqb left 0) _ _
      (λ t end g.
      let rest = requests_told more (l + 1) first next (omega arith) (so_far_none l first s) end g in
      let here = rest.before l (omega arith) ∙ s.none l (omega arith) in
      let none = eqb-true left 0 t in
      place_told more l at next first first _ (0 ∷ []) (ap request_numbers here) (spells_one (rw none at r)) (λ j h. refl) refl rest)
      (λ f.
      state_with (RequestsTold (suc more) l at first) (passed src 4 next) first _ (λ mid e end g.
      let four = numbers src 4 next in
      let q = request_from left four in
      let some = eqb-false left 0 f in
      let rest = requests_told more (l + 1) (with_request first l q) mid (omega arith) (so_far_on l first q (omega arith) some s) end g in
      let here = rest.before l (omega arith) ∙ request_same first l q s.shaped (omega arith) in
      let spelt : request_numbers q ≡ left ∷ four = rw f (ap (λ (x : List ℕ). left ∷ x) (firsts_all 4 four (passed_many src 4 next e))) in
      place_told more l at mid first (with_request first l q) _ (left ∷ four) (ap request_numbers here ∙ spelt) (then r (passed_spells src 4 next e))
      (λ j h. request_other first l j q (omega arith)) refl rest)))

  -- The channel's part of an image that is `len` long: nothing follows it.
  pub record ChannelTold (len at : ℕ) (ch : Channel) (end : ℕ) : Type 0 where
    pub spelt : Spells src at (channel_numbers ch) end
    pub whole : len ≤ end
    pub owner : phase_number ch.phase ≤ places
    pub shaped : Shaped ch
    pub blank : (l : ℕ) → get_or ch.left l 0 ≡ 0 → request_of ch l ≡ no_request

  all_told : (len at next : ℕ) (state ch : Channel) (end : ℕ) → WholeState at state next → RequestsTold places 0 next state ch end → len ≤ end
      → ChannelTold len at ch end
  all_told len at next state ch end s q h =
      let same = ap (λ (x : List ℕ). get_or x 2 0) q.state in
      record {
        spelt = spells_as (channel_parts ch) (spells_append (spells_as (sym q.state) s.spelt) q.spelt);
        whole = h;
        owner = omega (arith, same, s.known);
        shaped = q.shaped;
        blank = q.blank;
      }

  pub channel_told : (len at : ℕ) → State (ChannelTold len at) (channel_part_at src len at)
  unfolding channel_part_at
  channel_told len at =
      state_with (ChannelTold len at) (state_at src at) fresh_channel _ (λ state e.
      let next = state.1 in
      let s = state_told at state e in
      let none : SoFar 0 state.0 = record { shaped = s.shaped; blank = λ l z. s.none l; none = λ l h. s.none l } in
      let all = requests_at src places 0 state.0 next in
      state_with (ChannelTold len at) all.part all.channel _ (λ end g.
      let q = requests_told places 0 state.0 next (omega arith) none end g in
      by_test (ltb end len)
      (λ t last h. no_good (rw t at h))
      (λ f. rw f (at_good (ChannelTold len at all.channel) (all_told len at next _ _ end s q (ltb-false end len f))))))
