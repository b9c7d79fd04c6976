-- How a cycle ends, by what it leaves.
use Prim.Native.Nat.{ℕ, ◌%◌, ◌<◌}
use mathlib.Core.Path.{◌≡◌, sym, ap, ◌∙◌}
use mathlib.Core.Bool.{true, false}
use native.Mathlib.Omega.{arith}
use borrow.Author.Tests.{eq-eqb, ne_eqb, not-true, not-false}
use lib.Dec.{eqb}
use Rattle.std.specs.Prelude.{Option}
use Rattle.channel.specs.declared.Request.{Request}
use Rattle.channel.specs.Channel.{no_request}
use Rattle.frame.specs.Rows.{has_burst}
use Rattle.act.specs.declared.Route.{Route}
use Rattle.act.specs.declared.Ending.TheVariants.{Kept}
use Rattle.act.specs.Cycle.{cycle_bytes, rest_after, cycle_of, is_late, is_leaving, released_by, ending_of, next_time}
use Rattle.step.specs.inner.Machine.{is_inside, leaves_at, after_cycle}

module _ (route : Route) (asked : Option ℕ) (clock : ℕ) (rest : Request) (some : 0 < rest.left) where
  open_rest : eqb rest.left 0 ≡ false
  open_rest = ne_eqb rest.left 0 (λ e. omega (arith, e, some))

  -- "Nothing is released inside a transfer."
  pub leaves_inside : is_inside route.width rest.address ≡ true → false ≡ leaves_at route asked clock rest
  unfolding leaves_at is_leaving
  leaves_inside e = rw (open_rest, not-true (eqb (rest.address % route.width) 0) e)

  module _ (end : is_inside route.width rest.address ≡ false) where
    pub leaves_single : has_burst route.options ≡ false → true ≡ leaves_at route asked clock rest
    unfolding leaves_at is_leaving
    leaves_single e = rw (open_rest, not-false (eqb (rest.address % route.width) 0) end, e)

    pub leaves_late : has_burst route.options ≡ true → is_late route asked clock (next_time route rest) ≡ leaves_at route asked clock rest
    unfolding leaves_at is_leaving
    leaves_late e = rw (open_rest, not-false (eqb (rest.address % route.width) 0) end, e)

module _ (route : Route) (asked : Option ℕ) (clock : ℕ) (q : Request) (n : ℕ) (bytes : n ≡ cycle_bytes route q) where
  -- a request that is done
  pub after_done : n ≡ q.left → record { rest = no_request; ending = released_by route.options asked clock } ≡ after_cycle route asked clock q
  unfolding after_cycle cycle_of rest_after ending_of is_leaving
  after_done e = rw (eq-eqb (cycle_bytes route q) q.left (sym bytes ∙ e))

  -- one that goes on
  pub some_left : (rest : Request) → rest ≡ rest_after q n → (n ≡ q.left → ⊥) → 0 < rest.left
  unfolding rest_after
  some_left rest is e = rw (is, ne_eqb n q.left e) (omega (arith, bytes, e))

  module _ (rest : Request) (is : rest ≡ rest_after q n) where
    by_bytes : rest ≡ rest_after q (cycle_bytes route q)
    by_bytes = is ∙ ap (rest_after q) bytes

    pub after_leaving : leaves_at route asked clock rest ≡ true
        → record { rest = rest; ending = released_by route.options asked clock } ≡ after_cycle route asked clock q
    unfolding after_cycle cycle_of ending_of leaves_at is_leaving
    after_leaving e = let f = rw by_bytes at e in rw (by_bytes, f)

    pub after_staying : leaves_at route asked clock rest ≡ false → record { rest = rest; ending = Kept } ≡ after_cycle route asked clock q
    unfolding after_cycle cycle_of ending_of leaves_at is_leaving
    after_staying e = let f = rw by_bytes at e in rw (by_bytes, f)
