-- What a step decides, case by case.
use Prim.Native.Nat.{ℕ, ◌+◌}
use mathlib.Core.Path.{◌≡◌, sym, ap, ap₂, ◌∙◌}
use mathlib.Core.Bool.{Bool, true, false}
use native.Mathlib.Omega.{arith}
use lib.Dec.{eqb, ltb}
use Rattle.basics.specs.Limits.{clock_limit}
use Rattle.channel.specs.declared.Phase.{Phase}
use Rattle.channel.specs.declared.Phase.TheVariants.{Arbitrating, Granted}
use Rattle.channel.specs.declared.Channel.{Channel}
use Rattle.channel.specs.declared.Request.{Request}
use Rattle.channel.specs.Line.{winner, line_active}
use Rattle.act.specs.declared.Route.{Route}
use Rattle.act.specs.Turn.{arbitration_time}
use Rattle.step.specs.declared.acts.Standing.{Standing}
use Rattle.step.specs.declared.acts.Decided.{Decided}
use Rattle.step.specs.declared.acts.Chosen.{Chosen}
use Rattle.step.specs.inner.Machine.{
  Search,
  marked,
  IsChosen,
  full_acted,
  granted_by,
  rest_acted,
  stay_of,
  cycle_decided,
  cycle_marks,
  decided_by,
  marks_by,
  decided_of,
  decided_marks,
}

-- a search that begins at the first level
pub from_first : (ch : Channel) → Search ch 0 0
from_first ch =
    record { most = omega arith; small = omega arith; none = λ l h. absurd (omega (arith, h)); clear = λ l h. absurd (omega (arith, h)) }

module _ (route : Route) (s : Standing) (ever : Bool) (q : Request) (ch : Channel) where
  abbrev Right : Decided → Channel → Type 0
  Right d after = (d ≡ decided_of route s ever q ch.left ch.inactive) × (after ≡ marked ch (decided_marks route s ever q ch.left ch.inactive))

  by_phase : (p : Phase) → s.phase ≡ p → (d : Decided) (after : Channel) → d ≡ decided_by route s ever q ch.left ch.inactive p
      → after ≡ marked ch (marks_by route s ever q ch.left ch.inactive p) → Right d after
  unfolding decided_of decided_marks
  by_phase p e d after a b =
      let marks = ap (λ (x : Phase). marked ch (marks_by route s ever q ch.left ch.inactive x)) (sym e) in
      (a ∙ ap (decided_by route s ever q ch.left ch.inactive) (sym e), b ∙ marks)

  module _ (e : s.phase ≡ Arbitrating) where
    pub decides_full : (d : Decided) → ltb clock_limit (s.clock + arbitration_time ever) ≡ true → d ≡ stay_of (full_acted s) q → Right d ch
    decides_full d t a = by_phase Arbitrating e d ch (a ∙ rw t) (rw t)

    pub decides_grant : (d : Decided) (after : Channel) (base : ℕ) (c : Chosen) → ltb clock_limit (s.clock + arbitration_time ever) ≡ false
        → IsChosen ch after base c → d ≡ stay_of (granted_by s ever c.winner c.active) q → Right d after
    decides_grant d after base c f x a =
        by_phase Arbitrating e d after
        (a
        ∙ ap₂ (λ (w : ℕ) (active : Bool). stay_of (granted_by s ever w active) q) x.won x.active
        ∙ ap
        (λ (m : Channel).
        stay_of
        (granted_by s ever (winner ch.left ch.inactive)
        (line_active ch.left m.inactive (Granted (winner ch.left ch.inactive)))) q)
        x.marks
        ∙ rw f)
        (x.marks ∙ rw f)

  module _ (o : ℕ) (e : s.phase ≡ Granted o) where
    pub decides_rest : (d : Decided) → eqb q.left 0 ≡ true → d ≡ stay_of (rest_acted s.asked s o) q → Right d ch
    decides_rest d z a = by_phase (Granted o) e d ch (a ∙ rw z) (rw z)

    module _ (n : eqb q.left 0 ≡ false) where
      pub decides_late : (d : Decided) → ltb clock_limit (s.clock + route.time) ≡ true → d ≡ stay_of (full_acted s) q → Right d ch
      decides_late d t a = by_phase (Granted o) e d ch (a ∙ rw (n, t)) (rw (n, t))

      pub decides_cycle : (d : Decided) (after : Channel) → ltb clock_limit (s.clock + route.time) ≡ false → d ≡ cycle_decided route s o q
          → after ≡ marked ch (cycle_marks route s o q ch.inactive) → Right d after
      decides_cycle d after f a b = by_phase (Granted o) e d after (a ∙ rw (n, f)) (b ∙ rw (n, f))
