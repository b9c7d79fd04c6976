-- The bytes of a cycle: how many, how long the next transfer takes, and a few stored one by one.
use Prim.Native.Nat.{ℕ, ◌+◌, ◌*◌, ◌/◌, ◌%◌, ◌≤◌, ◌<◌, min}
use mathlib.Core.Path.{◌≡◌, refl, subst, ◌∙◌}
use mathlib.Core.Bool.{true, ◌&&◌}
use mathlib.Core.List.{List}
use native.Mathlib.Nat.{zero-add}
use native.Mathlib.Omega.{arith}
use lib.ListN.{length, get_or, set}
use lib.Dec.{eqb, leb}
use lib.Seq.{paste}
use borrow.Author.Tests.{eqb-true, leb-true}
use Rattle.std.proofs.lemmas.List.Edits.{paste_more}
use Rattle.basics.proofs.Tests.{and_left, and_right}
use Rattle.cycle.specs.Cycle.{is_width, is_port, narrower_of, cycle_length, tabled_length, transfer_length, count_of, transfer_time}
use Rattle.cycle.proofs.Widths.{Pair, two_one, two_two, four_one, four_two, four_four, paired}
use Rattle.channel.specs.declared.Request.{Request}
use Rattle.act.specs.declared.Route.{Route}
use Rattle.act.specs.Cycle.{cycle_bytes, next_time}
use Rattle.step.specs.Step.{Way}

-- four bytes from a multiple of 4 on hold whole blocks of any Q, and a block of 1 is a byte
whole_block : (w q a r : ℕ) → Pair w q → a % 4 ≡ 0 → 4 ≤ r → q ≡ cycle_length q a r
whole_block _ _ a r two_one e h = omega arith
whole_block _ _ a r two_two e h = omega arith
whole_block _ _ a r four_one e h = omega arith
whole_block _ _ a r four_two e h = omega arith
whole_block _ _ a r four_four e h = omega arith

-- the table has every Q of a set-up
pair_port : (w q : ℕ) → Pair w q → is_port q ≡ true
unfolding is_port
pair_port _ _ two_one = refl
pair_port _ _ two_two = refl
pair_port _ _ four_one = refl
pair_port _ _ four_two = refl
pair_port _ _ four_four = refl

-- the cycles of a transfer from a multiple of W on, by Q
next_four : (w a r : ℕ) → Pair w 4 → a % w ≡ 0 → 0 < r → 1 ≡ count_of 4 a (transfer_length w a r)
next_four _ a r four_four e h = omega arith

next_two : (w a r : ℕ) → Pair w 2 → a % w ≡ 0 → 0 < r → (min r w + 1) / 2 ≡ count_of 2 a (transfer_length w a r)
next_two _ a r two_two e h = omega arith
next_two _ a r four_two e h = omega arith

next_one : (w a r : ℕ) → Pair w 1 → a % w ≡ 0 → 0 < r → min r w ≡ count_of 1 a (transfer_length w a r)
next_one _ a r two_one e h = omega arith
next_one _ a r four_one e h = omega arith

module _ (route : Route) (q : Request) (way : Way route q) where
  abbrev narrow : ℕ
  narrow = narrower_of route.width route.port

  pair : Pair route.width narrow
  pair = paired route.width route.port way.width way.port

  pub whole_bytes : {n : ℕ} → n ≡ narrow → (leb 4 q.left && eqb (q.address % 4) 0) ≡ true → n ≡ cycle_bytes route q
  whole_bytes e t =
      e
      ∙ whole_block route.width narrow q.address q.left pair (eqb-true (q.address % 4) 0 (and_right (leb 4 q.left) _ t))
      (leb-true 4 q.left (and_left (leb 4 q.left) _ t))

  pub single_byte : narrow ≡ 1 → 1 ≡ cycle_bytes route q
  single_byte e = rw e (omega (arith, way.some))

  pub table_bytes : {n m : ℕ} → m ≡ narrow → n ≡ tabled_length m q.address q.left → n ≡ cycle_bytes route q
  unfolding tabled_length
  table_bytes e t = t ∙ rw (e, pair_port route.width narrow pair)

-- a Q that is neither 4 nor 2 is 1
one_of : (w q : ℕ) → Pair w q → (q ≡ 4 → ⊥) → (q ≡ 2 → ⊥) → q ≡ 1
one_of _ _ two_one f t = refl
one_of _ _ two_two f t = absurd (t refl)
one_of _ _ four_one f t = refl
one_of _ _ four_two f t = absurd (t refl)
one_of _ _ four_four f t = absurd (f refl)

pub one_left : (w p : ℕ) {n : ℕ} → is_width w ≡ true → is_port p ≡ true → n ≡ narrower_of w p → (n ≡ 4 → ⊥) → (n ≡ 2 → ⊥) → n ≡ 1
one_left w p x y e f t = one_of w _ (rw (← e) at (paired w p x y)) f t

-- the time of the next transfer
module _ (route : Route) (rest : Request) (w : is_width route.width ≡ true) (p : is_port route.port ≡ true)
    (aligned : rest.address % route.width ≡ 0) (some : 0 < rest.left) where
  of_pair : (q : ℕ) → narrower_of route.width route.port ≡ q → Pair route.width q
  of_pair q e = rw e at (paired route.width route.port w p)

  pub time_four : narrower_of route.width route.port ≡ 4 → route.time ≡ next_time route rest
  unfolding next_time transfer_time
  time_four e = rw (e, ← next_four route.width rest.address rest.left (of_pair 4 e) aligned some) (omega arith)

  pub time_two : {n : ℕ} → narrower_of route.width route.port ≡ 2 → n ≡ min rest.left route.width
      → (n + 1) / 2 * route.time ≡ next_time route rest
  unfolding next_time transfer_time
  time_two e m = rw (e, m, next_two route.width rest.address rest.left (of_pair 2 e) aligned some)

  pub time_one : {n : ℕ} → narrower_of route.width route.port ≡ 1 → n ≡ min rest.left route.width → n * route.time
      ≡ next_time route rest
  unfolding next_time transfer_time
  time_one e m = rw (e, m, next_one route.width rest.address rest.left (of_pair 1 e) aligned some)

-- one byte more of those that are loaded
pub load_more : (d s : List ℕ) (i : ℕ) → i < length d → i < length s → set (paste d 0 s i) i (get_or s i 0) ≡ paste d 0 s (i + 1)
load_more d s i h k =
    subst (λ (j : ℕ). set (paste d 0 s i) j (get_or s i 0) ≡ paste d 0 s (i + 1)) (zero-add i)
    (paste_more d 0 s i 0 (omega (arith, h)) k)
