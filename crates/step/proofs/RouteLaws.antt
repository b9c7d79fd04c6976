-- The routes of the open requests, level by level.
use Prim.Native.Nat.{ℕ, ◌+◌, ◌<◌}
use mathlib.Core.Path.{◌≡◌, ap, sym, ◌∙◌}
use mathlib.Core.Bool.{false≢true}
use mathlib.Core.List.{List}
use native.Mathlib.Omega.{arith}
use borrow.Author.Tests.{eqb-true, eqb-false, eq-eqb}
use lib.ListN.{length, set}
use lib.Seq.{get_or-set_same, get_or-set_other}
use lib.Dec.{eqb}
use Rattle.basics.proofs.Tests.{by_test}
use Rattle.frame.specs.declared.Setup.{Setup}
use Rattle.channel.specs.declared.Request.{Request}
use Rattle.act.specs.declared.Route.{Route}
use Rattle.act.specs.Cycle.{route_of}
use Rattle.step.specs.inner.Machine.{no_route}
use Rattle.step.specs.inner.Turns.{AreRoutes}

-- the levels below one more: of one with an open request, and of one without
module _ (setup : Setup) (request : ℕ → Request) (routes : List Route) (i : ℕ) where
  pub route_more : (route : Route) → i < length routes → AreRoutes setup request routes i → route ≡ route_of setup i (request i)
      → AreRoutes setup request (set routes i route) (i + 1)
  route_more route k h e l n a =
      by_test (eqb l i)
      (λ t. let same : l ≡ i = eqb-true l i t in rw same (get_or-set_same routes i route no_route k ∙ e))
      (λ f.
      let other = eqb-false l i f in
      get_or-set_other routes i l route no_route other ∙ h l (omega (arith, n, other)) a)

  pub route_none : AreRoutes setup request routes i → (request i).left ≡ 0 → AreRoutes setup request routes (i + 1)
  route_none h e l n a =
      by_test (eqb l i)
      (λ t.
      let same : l ≡ i = eqb-true l i t in
      absurd (false≢true (sym a ∙ ap (λ (x : ℕ). eqb (request x).left 0) same ∙ eq-eqb (request i).left 0 e)))
      (λ f. h l (omega (arith, n, eqb-false l i f)) a)
