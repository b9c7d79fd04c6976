-- Document 02, CR 3: "that "wins next" agrees with the step unless the clock is full"; and what "outranked" and "another owner still holds" have to do with the
-- step. Of every framed set-up and sound channel, over stores of the right lengths. Assumes nothing.
use Prim.Native.Nat.{ℕ, ◌<◌}
use mathlib.Core.Path.{◌≡◌, refl, sym, ap, subst, ◌∙◌}
use mathlib.Core.Bool.{true, false, false≢true}
use mathlib.Core.Logic.{⊎_elim}
use mathlib.Core.List.{List}
use native.Mathlib.Nat.{eq-or-lt_of_le}
use borrow.Author.Tests.{eqb-true, eq-eqb, ne_eqb, ltb-true, ltb-false, not-false}
use lib.Dec.{ltb}
use lib.ListN.{length}
use Rattle.std.specs.Prelude.{Err, Ok, Result}
use Rattle.act.specs.declared.Entry.{Entry}
use Rattle.refusal.specs.declared.Refusal.{Refusal}
use Rattle.basics.specs.Limits.{places, system_master, clock_limit}
use Rattle.basics.proofs.Tests.{by_test, and_left, and_right}
use Rattle.refusal.specs.Refusal.{refusal_by}
use Rattle.frame.specs.declared.Setup.{Setup}
use Rattle.frame.specs.Rows.{is_present}
use Rattle.frame.proofs.FrameLaws.{framed_levels, fifteen_present}
use Rattle.channel.specs.declared.Phase.TheVariants.{Arbitrating, Granted}
use Rattle.channel.specs.declared.Channel.{Channel}
use Rattle.channel.specs.declared.Request.{Request}
use Rattle.channel.specs.Channel.{is_arbitrating, has_request, Shaped}
use Rattle.channel.specs.Line.{is_inactive, waits, winner}
use Rattle.channel.proofs.LineLaws.{waits_is, winner_is, winner_lowest, none_waits}
use Rattle.channel.proofs.RequestLaws.{no_request_lem}
use Rattle.act.specs.declared.Entry.TheVariants as entry
use Rattle.act.specs.Turn.{grant_clock, grant_turn}
use Rattle.sound.proofs.SoundFacts.{arbitrating_is, sound_is}
use Rattle.tally.specs.declared.Tally.{Tally}
use Rattle.step.specs.declared.Plan.{Plan}
use Rattle.step.specs.declared.Plan.TheVariants as plan
use Rattle.step.specs.inner.Machine.{plan_in}
use Rattle.step.specs.Plan.{act_plan}
use Rattle.step.specs.Step.{Ready, advanced_by, step_of}
use Rattle.step.proofs.PlanLaws.{says, plan_ready, plan_in_lem}
use Rattle.why.specs.declared.Reason.TheVariants.{NoRequest, Holds, Outranked, WinsNext}
use Rattle.why.specs.Reason.{is_absent, wins_next}
use Rattle.why.specs.Why.{reason_of}
use Rattle.why.proofs.ReasonLaws as reasons

-- "wins next" is true of a level: what that is
pub wins_is : (ch : Channel) (l : ℕ) → wins_next ch l ≡ true → (ch.phase ≡ Arbitrating) × (l ≡ winner ch.left ch.inactive)
unfolding wins_next
wins_is ch l e =
    (arbitrating_is ch.phase (and_left _ _ e), eqb-true l (winner ch.left ch.inactive) (and_right (is_arbitrating ch.phase) _ e))

-- what a level that has a request is: one of the sixteen
asking_small : (ch : Channel) (l : ℕ) → Shaped ch → has_request ch.left l ≡ true → l < places
asking_small ch l shaped asks =
    by_test (ltb l places)
    (λ t. ltb-true l places t)
    (λ f. absurd (false≢true (sym (none f) ∙ asks)))
  where
    none : ltb l places ≡ false → has_request ch.left l ≡ false
    none f = let z = ap (λ (q : Request). q.left) (no_request_lem ch l shaped (ltb-false l places f)) in rw z

module _ (setup : Setup) (ch : Channel) (t : Tally) (slave master : List ℕ) (ready : Ready setup ch (length slave) (length master)) where
  abbrev answer : Result Entry Refusal
  answer = (step_of setup ch t slave master).answer

  -- the step is that of the plan
  planned : answer ≡ (advanced_by setup ch (act_plan setup ch)).answer
  unfolding step_of
  planned = ap (λ (p : Plan). (advanced_by setup ch p).answer) (plan_ready setup ch (length slave) (length master) ready)

  -- The step grants a level; or the clock has no room for an arbitration, and the step is refused by 6.
  pub data GrantedNext (w : ℕ) : Type 0 where
    granted_next : answer ≡ Ok (entry.Grant (grant_clock ch) w) → GrantedNext w
    clock_full : clock_limit < grant_clock ch → answer ≡ Err (refusal_by 6) → GrantedNext w

  -- while arbitrating, that level is the winner
  arbitrates : ch.phase ≡ Arbitrating → GrantedNext (winner ch.left ch.inactive)
  unfolding act_plan grant_turn
  arbitrates p =
      by_test (ltb clock_limit (grant_clock ch))
      (λ full. clock_full (ltb-true clock_limit (grant_clock ch) full) (planned ∙ rw (p, full)))
      (λ room. granted_next (planned ∙ rw (p, room)))

  -- a level that the step grants, at whatever clock
  module _ (clock w : ℕ) (e : answer ≡ Ok (entry.Grant clock w)) where
    grants_is : (ch.phase ≡ Arbitrating) × (w ≡ winner ch.left ch.inactive)
    grants_is =
        let p : act_plan setup ch ≡ plan.Grant w = sym (plan_in_lem setup ch (act_plan setup ch)) ∙ ap plan_in (sym planned ∙ e) in
        let s = says setup ch (plan.Grant w) p in
        (s.0, s.1)

    -- "wins next" is true of a level exactly where the step grants it, unless the clock is full: where the step grants it
    pub granted_wins : wins_next ch w ≡ true
    unfolding wins_next
    granted_wins = rw (grants_is.0, eq-eqb w _ grants_is.1)

  -- and where it is true
  pub wins_granted : (l : ℕ) → wins_next ch l ≡ true → GrantedNext l
  wins_granted l e = let w = wins_is ch l e in rw w.1 (arbitrates w.0)

  module _ (shaped : Shaped ch) (l : ℕ) where
    -- a level that has a request is in the set-up
    asking_present : has_request ch.left l ≡ true → is_absent setup l ≡ false
    asking_present asks = rw ((sound_is setup ch ready.sound).settled.request l (asking_small ch l shaped asks) asks).0

    -- one that takes part in the arbitration, and one that waits while another owns the channel: the first four reasons are false
    takes_part : ch.phase ≡ Arbitrating → has_request ch.left l ≡ true → is_inactive ch.inactive l ≡ false → reasons.Unless setup ch l
    takes_part p asks active = (asking_present asks, rw asks, rw p, active)

    stands_by : (o : ℕ) → ch.phase ≡ Granted o → (o ≡ l → ⊥) → has_request ch.left l ≡ true → is_inactive ch.inactive l ≡ false
        → reasons.Unless setup ch l
    stands_by o p other asks active = (asking_present asks, rw asks, rw (p, ne_eqb o l other), active)

    -- a winner that has a request is not inactive: where nobody else waits there are no marks
    winner_active : ch.phase ≡ Arbitrating → l ≡ winner ch.left ch.inactive → has_request ch.left l ≡ true → is_inactive ch.inactive l ≡ false
    winner_active p e asks =
        ⊎_elim
        (λ w. (waits_is ch.left ch.inactive 0 l (subst (λ (x : ℕ). waits ch.left ch.inactive x ≡ true) (sym e) w.0)).1)
        (λ n.
        by_test (is_inactive ch.inactive l)
        (λ m. absurd (false≢true (sym (none_waits ch p n.1) ∙ (sound_is setup ch ready.sound).marked l (asking_small ch l shaped asks) m)))
        (λ f. f))
        (winner_is ch.left ch.inactive)

    -- "Wins next" is told exactly where the step grants the level and it has a request, unless the clock is full.
    pub told_wins : reason_of setup ch l ≡ WinsNext → GrantedNext l × (has_request ch.left l ≡ true)
    told_wins e =
        let s = reasons.says setup ch l WinsNext e in
        (rw s.2 (arbitrates s.1), not-false _ s.0.1)

    pub wins_told : (clock : ℕ) → answer ≡ Ok (entry.Grant clock l) → has_request ch.left l ≡ true → reason_of setup ch l ≡ WinsNext
    wins_told clock e asks =
        let g = grants_is clock l e in
        let u = takes_part g.0 asks (winner_active g.0 g.1 asks) in
        let self = eq-eqb (winner ch.left ch.inactive) l (sym g.1) in
        reasons.at_last setup ch l u ∙ rw (reasons.ranks setup ch l u g.0 false (rw self refl), g.0)

    -- The one level that the step may grant without a request is 15, and it is told that it has none.
    pub default_told : (clock : ℕ) → answer ≡ Ok (entry.Grant clock l) → has_request ch.left l ≡ false
        → (l ≡ system_master) × (reason_of setup ch l ≡ NoRequest)
    unfolding reason_of is_present
    default_told clock e none =
        let g = grants_is clock l e in
        let fifteen : l ≡ system_master =
        ⊎_elim
        (λ w.
        absurd
        (false≢true
        (sym none ∙ (waits_is ch.left ch.inactive 0 l (subst (λ (x : ℕ). waits ch.left ch.inactive x ≡ true) (sym g.1) w.0)).0)))
        (λ n. g.1 ∙ n.0)
        (winner_is ch.left ch.inactive)
        in
        let row = fifteen_present setup.levels (framed_levels setup ready.framed) in
        (fifteen, rw (none, fifteen, row.1))

    -- "Outranked" by a level is told exactly where the step grants that one, another, and the level has a request and no mark, unless the clock is full. It is a
    -- lower number.
    pub told_outranked : (w : ℕ) → reason_of setup ch l ≡ Outranked w
        → GrantedNext w × (has_request ch.left l ≡ true) × (is_inactive ch.inactive l ≡ false) × (w < l)
    unfolding waits
    told_outranked w e =
        let s = reasons.says setup ch l (Outranked w) e in
        let asks = not-false _ s.0.1 in
        let least = winner_lowest ch.left ch.inactive l (asking_small ch l shaped asks) (rw (asks, s.0.3)) in
        (rw s.2 (arbitrates s.1), asks, s.0.3, ⊎_elim (λ q. absurd (s.3 q)) (λ h. h) (eq-or-lt_of_le (rw s.2 least)))

    pub outranked_told : (clock w : ℕ) → answer ≡ Ok (entry.Grant clock w) → (w ≡ l → ⊥) → has_request ch.left l ≡ true
        → is_inactive ch.inactive l ≡ false → reason_of setup ch l ≡ Outranked w
    outranked_told clock w e other asks active =
        let g = grants_is clock w e in
        let u = takes_part g.0 asks active in
        let apart = ne_eqb (winner ch.left ch.inactive) l (λ q. other (g.1 ∙ q)) in
        reasons.at_last setup ch l u ∙ rw (reasons.ranks setup ch l u g.0 true (rw apart refl), g.0, ← g.1)

    -- "Another owner still holds" is told exactly where another owns the channel and the level has a request and no mark; it names the owner.
    pub told_holds : (o : ℕ) → reason_of setup ch l ≡ Holds o
        → (ch.phase ≡ Granted o) × (o ≡ l → ⊥) × (has_request ch.left l ≡ true) × (is_inactive ch.inactive l ≡ false)
    told_holds o e = let s = reasons.says setup ch l (Holds o) e in (s.1, s.2, not-false _ s.0.1, s.0.3)

    pub holds_told : (o : ℕ) → ch.phase ≡ Granted o → (o ≡ l → ⊥) → has_request ch.left l ≡ true → is_inactive ch.inactive l ≡ false
        → reason_of setup ch l ≡ Holds o
    holds_told o p other asks active =
        reasons.at_last setup ch l (stands_by o p other asks active) ∙ rw (p, eq-eqb o o refl, ne_eqb o l other)
