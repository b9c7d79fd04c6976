-- The loop over the groups after a number's first: what it knows at each turn, and what the byte there then means. Assumes nothing.
use Prim.Native.Nat.{ℕ, zero, suc, ◌+◌, ◌-◌, ◌*◌, ◌≤◌, ◌<◌}
use mathlib.Core.Path.{◌≡◌, refl, sym, ap, ◌∙◌}
use mathlib.Core.List.{List}
use mathlib.Core.Bool.{Bool, true, false, cond, ◌||◌}
use native.Mathlib.Nat.{mul-suc, mul-add, mul_assoc, mul-le-mul_left}
use native.Mathlib.Omega.{arith}
use borrow.Author.Tests.{ltb-false, ne_eqb}
use lib.ListN.{length, get_or, drop}
use lib.Dec.{ltb, eqb, eqb-suc-zero}
use Rattle.basics.proofs.Tests.{or_none}
use Rattle.refusal.specs.declared.Refusal.TheVariants.{SheetEnds, BadNumber}
use Rattle.std.specs.Prelude.{Err}
use Rattle.number.specs.Number.{NumberRead, Number, fault, groups, below, top}
use Rattle.number.proofs.Laws.{none, fifth, last, more, top_step, top_least}

-- what was read stands after groups of the value `low`, and counts `weight` times; 0 is "not shortest" there
abbrev raised : ℕ → ℕ → ℕ → NumberRead → NumberRead
raised start low weight (Number v next) = cond (eqb v 0) (Err (fault BadNumber start)) (Number (low + weight * v) next)
raised start low weight (Err f) = Err f

-- after a single group that is `below`
raised_first : (start low : ℕ) (g : NumberRead) → raised start low 128 g ≡ below start low g
raised_first start low (Number v next) = refl
raised_first start low (Err f) = refl

-- a group `d` more is passed
raised_more : (start low weight d : ℕ) (g : NumberRead)
    → raised start (low + weight * d) (weight * 128) g ≡ raised start low weight (below start d g)
raised_more start low weight d (Err f) = refl
raised_more start low weight d (Number zero next) = refl
raised_more start low weight d (Number (suc v) next) =
    simp (eqb-suc-zero v, ne_eqb (d + 128 * suc v) 0 (omega arith))
    (ap (λ (x : ℕ). Number x next) (omega (arith, mul-add weight d (128 * suc v), mul_assoc weight 128 (suc v))))

-- the fifth byte: too large, or 0
raised_fifth : (start low weight v next : ℕ) (large : Bool)
    → cond (large || eqb v 0) (Err (fault BadNumber start)) (Number (low + weight * v) next)
    ≡ raised start low weight (cond large (Err (fault BadNumber start)) (Number v next))
raised_fifth start low weight v next true = refl
raised_fifth start low weight v next false = refl

-- a value below the weight, and a group below n: together they are below n times the weight
under : (low weight v n : ℕ) → low < weight → v < n → low + weight * v < weight * n
under low weight v n h l = omega (arith, mul-le-mul_left weight l, mul-suc weight v)

-- At a turn the groups from `at` on, of which as many as `left` may follow the next, give the whole with the value of those passed. The weight times the
-- bound on what is left is the bound on a number, so that every sum fits.
pub record Turn (s : List ℕ) (start : ℕ) (whole : NumberRead) (at low weight : ℕ) : Type 0 where
  left : ℕ
  fits : weight * top left ≡ 4294967296
  small : low < weight
  rest : raised start low weight (groups start left at (drop at s)) ≡ whole

-- the weight tells the fifth byte, which none may follow
none_left : (weight left : ℕ) → weight * top left ≡ 4294967296 → weight ≡ 268435456 → left ≡ 0
none_left weight zero f e = refl
none_left weight (suc left) f e = let g = rw e at f in absurd (omega (arith, top_least left))

some_left : (weight left : ℕ) → weight * top left ≡ 4294967296 → (weight ≡ 268435456 → ⊥) → (0 < left) × (2048 ≤ top left)
some_left weight zero f n = absurd (n (omega arith))
some_left weight (suc left) f n = omega (arith, top_least left)

pub first_turn : (s : List ℕ) (start first : ℕ) → first < 128
    → Turn s start (below start first (groups start 3 (start + 1) (drop (start + 1) s))) (start + 1) first 128
first_turn s start first h =
    record { left = 3; fits = refl; small = h; rest = raised_first start first (groups start 3 (start + 1) (drop (start + 1) s)) }

module _ {s : List ℕ} {start at low weight : ℕ} {whole : NumberRead} (t : Turn s start whole at low weight) where
  pub no_turn : length s ≤ at → Err (fault SheetEnds start) ≡ whole
  no_turn h = rw (none start at s t.left h) at t.rest

  -- at the fifth byte
  module _ {byte : ℕ} (e : weight ≡ 268435456) (b : byte ≡ get_or s at 0) where
    pub fifth_turn : at < length s
        → cond (ltb 15 byte || eqb byte 0) (Err (fault BadNumber start)) (Number (low + weight * byte) (at + 1)) ≡ whole
    fifth_turn h =
        rw b
        (raised_fifth start low weight (get_or s at 0) (at + 1) (ltb 15 (get_or s at 0))
        ∙ ap (raised start low weight) (sym (fifth start at s t.left (none_left weight t.left t.fits e) h))
        ∙ t.rest)

    pub fifth_fits : (ltb 15 byte || eqb byte 0) ≡ false → low + weight * byte < 4294967296
    fifth_fits f = let l = t.small in rw e (omega (arith, ltb-false 15 byte (or_none _ _ f).0))

  -- before it
  pub weight_fits : (weight ≡ 268435456 → ⊥) → weight * 128 < 4294967296
  weight_fits n = omega (arith, t.fits, mul-le-mul_left weight (some_left weight t.left t.fits n).1)

  module _ {byte : ℕ} (n : weight ≡ 268435456 → ⊥) (b : byte ≡ get_or s at 0) where
    group_fits : (v : ℕ) → v < 128 → low + weight * v < 4294967296
    group_fits v h =
        let some = some_left weight t.left t.fits n in
        omega (arith, t.fits, under low weight v (top t.left) t.small (omega arith))

    pub last_fits : byte < 128 → low + weight * byte < 4294967296
    last_fits = group_fits byte

    pub next_fits : byte < 256 → low + weight * (byte - 128) < 4294967296
    next_fits h = group_fits (byte - 128) (omega arith)

    pub last_turn : at < length s → byte < 128
        → cond (eqb byte 0) (Err (fault BadNumber start)) (Number (low + weight * byte) (at + 1)) ≡ whole
    last_turn h l = rw (last start at s t.left (some_left weight t.left t.fits n).0 h (omega arith), ← b) at t.rest

    pub next_turn : at < length s → 128 ≤ byte → byte < 256
        → Turn s start whole (at + 1) (low + weight * (byte - 128)) (weight * 128)
    next_turn h l m =
        let p = (some_left weight t.left t.fits n).0 in
        let d = byte - 128 in
        let g = groups start (t.left - 1) (at + 1) (drop (at + 1) s) in
        let on = rw (← b) at (more start at s t.left g p h (omega arith) refl) in
        record {
          left = t.left - 1;
          fits = mul_assoc weight 128 (top (t.left - 1)) ∙ ap (λ (x : ℕ). weight * x) (sym (top_step t.left p)) ∙ t.fits;
          small = under low weight d 128 t.small (omega arith);
          rest = raised_more start low weight d g ∙ ap (raised start low weight) (sym on) ∙ t.rest;
        }
