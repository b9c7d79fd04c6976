-- One cycle more of an owner, in the form of the loop's needs.
use Prim.Native.Nat.{ℕ, suc, ◌+◌, ◌-◌, ◌≤◌, ◌<◌}
use mathlib.Core.Path.{◌≡◌, refl, sym, ◌∙◌}
use mathlib.Core.Bool.{true, false, false≢true}
use mathlib.Core.List.{List}
use native.Mathlib.Omega.{arith}
use borrow.Author.Tests.{lt-ltb, le-ltb, eqb-true, eqb-false}
use lib.Dec.{eqb}
use Rattle.std.specs.Prelude.{None, Option, Some}
use Rattle.basics.specs.Limits.{clock_limit}
use Rattle.basics.proofs.Tests.{by_test}
use Rattle.frame.specs.Rows.{is_fair}
use Rattle.channel.specs.declared.Request.{Request}
use Rattle.act.specs.declared.Route.{Route}
use Rattle.act.specs.declared.Ending.{Ending}
use Rattle.act.specs.declared.Ending.TheVariants.{Kept, Released, Marked}
use Rattle.act.specs.Cycle.{cycle_of, released_by, ending_of, is_leaving, is_kept}
use Rattle.step.specs.Step.{Way, Roomy, carry_of, moved_slave, moved_master}
use Rattle.step.specs.declared.turns.Tenure.{Tenure}
use Rattle.step.specs.inner.Turns.{held_of, held, cycle_on, filled}
use Rattle.step.proofs.CycleFacts.{Leaves, leaves}

module _ (route : Route) (asked : Option ℕ) (budget : ℕ) (t : Tenure) (slave master : List ℕ) (h : t.done < budget) where
  left_one : budget - t.done ≡ suc (budget - (t.done + 1))
  left_one = omega arith

  pub held_full : clock_limit < t.clock + route.time → held route asked (budget - t.done) t slave master ≡ held_of (filled t) slave master
  unfolding held
  held_full k = rw (left_one, lt-ltb clock_limit (t.clock + route.time) k)

  module _ (room : t.clock + route.time ≤ clock_limit) where
    pub held_ends : is_kept (cycle_on route asked t).ending ≡ false
        → held route asked (budget - t.done) t slave master
        ≡ held_of (cycle_on route asked t) (moved_slave (carry_of route t.request) slave master)
        (moved_master (carry_of route t.request) slave master)
    unfolding held
    held_ends e = rw (left_one, le-ltb clock_limit (t.clock + route.time) room, e)

    pub held_on : is_kept (cycle_on route asked t).ending ≡ true
        → held route asked (budget - t.done) t slave master
        ≡ held route asked (budget - (cycle_on route asked t).done) (cycle_on route asked t) (moved_slave (carry_of route t.request) slave master)
        (moved_master (carry_of route t.request) slave master)
    unfolding held cycle_on
    held_on e = rw (left_one, le-ltb clock_limit (t.clock + route.time) room, e)

-- an owner that keeps the channel has something left
not_kept : (options : ℕ) (asked : Option ℕ) (clock : ℕ) → is_kept (released_by options asked clock) ≡ false
not_kept options None clock = refl
not_kept options (Some t) clock = by_test (is_fair options) (λ f. rw f) (λ n. rw n)

pub kept_is : (ending : Ending) → is_kept ending ≡ true → ending ≡ Kept
kept_is Kept e = refl
kept_is (Released hold) e = absurd (false≢true e)
kept_is (Marked hold) e = absurd (false≢true e)

module _ (route : Route) (q : Request) (way : Way route q) where
  moves : Leaves q (cycle_of route q)
  moves = leaves route q way.width way.port way.some

  pub kept_some : (asked : Option ℕ) (clock : ℕ) → is_kept (ending_of route asked clock (cycle_of route q)) ≡ true → 0 < (cycle_of route q).rest.left
  unfolding ending_of is_leaving
  kept_some asked clock e =
      by_test (eqb (cycle_of route q).rest.left 0)
      (λ z.
      let ends = moves.ends (eqb-true (cycle_of route q).rest.left 0 z) in
      absurd (false≢true (sym (not_kept route.options asked clock) ∙ (rw (ends, z) at e))))
      (λ n. omega (arith, eqb-false (cycle_of route q).rest.left 0 n))

  -- what is left has room where the whole request has
  pub roomy_on : (s m : ℕ) → Roomy route q s m → 0 < (cycle_of route q).rest.left → Roomy route (cycle_of route q).rest s m
  roomy_on s m r some =
      let e = moves.onward some in
      let n = moves.most in
      record {
        way =
            record {
              width = way.width;
              port = way.port;
              some = some;
              end = rw e (omega (arith, n, way.end));
              offset = rw e (omega (arith, n, way.offset));
              begins = rw e (omega (arith, way.begins));
              start = way.start;
            };
        slave = rw e (omega (arith, n, r.slave, way.begins));
        master = rw e (omega (arith, n, r.master));
      }

pub cycled_facts : (route : Route) (asked : Option ℕ) (t : Tenure)
    → ((cycle_on route asked t).clock ≡ t.clock + route.time) × ((cycle_on route asked t).done ≡ t.done + 1) ×
    ((cycle_on route asked t).request ≡ (cycle_of route t.request).rest)
    × ((cycle_on route asked t).ending ≡ ending_of route asked (t.clock + route.time) (cycle_of route t.request))
unfolding cycle_on
cycled_facts route asked t = (refl, refl, refl, refl)

pub cycled_going : (route : Route) (asked : Option ℕ) (t : Tenure) → (cycle_on route asked t).full ≡ false
unfolding cycle_on
cycled_going route asked t = refl
