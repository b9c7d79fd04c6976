-- A list of numbers stands in a source from a place to another. Lists that stand one after the other stand there together, and back; numbers that were read
-- stand there, and those that stand there are read; in bytes they are the bytes of the list, and no other list stands there. Assumes nothing.
use Prim.Native.Nat.{ℕ, zero, suc, ◌+◌, ◌≤◌}
use mathlib.Core.Path.{◌≡◌, refl, sym, ap, ap₂, ◌∙◌}
use mathlib.Core.List.{List, [], ◌∷◌, ◌++◌, append_assoc, append-nil}
use native.Mathlib.Nat.{add-zero, zero-add, add_assoc}
use native.Mathlib.Omega.{arith}
use borrow.Author.Tests.{le-leb}
use lib.ListN.{length, drop, length-append}
use Rattle.std.specs.Prelude.{Ok}
use Rattle.refusal.specs.declared.Refusal.{Refusal}
use Rattle.number.specs.Number.{Number, bytes_of, read_number, Bytes}
use Rattle.number.proofs.RoundTrip.{read_appended, written_back}
use Rattle.number.proofs.Laws.{number_is, read_within}
use Rattle.numbers.specs.Numbers.{Reading, number_between, passed, numbers, all_bytes}
use Rattle.numbers.proofs.Parts.{with_good}
use Rattle.numbers.proofs.RoundTrip.{Numbers}

-- the list's numbers stand one after the other, from a place to another
pub data Spells (src : Reading) : ℕ → List ℕ → ℕ → Type 0 where
  done : {at : ℕ} → Spells src at [] at
  then : {at v next end : ℕ} {list : List ℕ} → src at ≡ Number v next → Spells src next list end → Spells src at (v ∷ list) end

module _ {src : Reading} where
  pub spells_one : {at v next : ℕ} → src at ≡ Number v next → Spells src at (v ∷ []) next
  spells_one r = then r done

  -- an equal list
  pub spells_as : {at end : ℕ} {xs ys : List ℕ} → xs ≡ ys → Spells src at xs end → Spells src at ys end
  spells_as e s = rw e at s

  -- two lists, one after the other
  pub spells_append : {at mid end : ℕ} {xs ys : List ℕ} → Spells src at xs mid → Spells src mid ys end → Spells src at (xs ++ ys) end
  spells_append done t = t
  spells_append (then r s) t = then r (spells_append s t)

  -- the first number, and the numbers after it
  pub spells_first : {at v end : ℕ} {list : List ℕ} → Spells src at (v ∷ list) end
      → (next : ℕ) × (src at ≡ Number v next) × Spells src next list end
  spells_first (then {next = next} r s) = (next, r, s)

  pub spells_none : {at end : ℕ} → Spells src at [] end → at ≡ end
  spells_none done = refl

  pub spells_split : (xs : List ℕ) {ys : List ℕ} {at end : ℕ} → Spells src at (xs ++ ys) end
      → (mid : ℕ) × Spells src at xs mid × Spells src mid ys end
  spells_split [] {at = at} s = (at, done, s)
  spells_split (x ∷ xs) s = let f = spells_first s in let t = spells_split xs f.2 in (t.0, then f.1 t.1, t.2)

module _ (src : Reading) where
  -- n numbers that were read, as many as were asked for, stand there
  pub passed_spells : (n at : ℕ) {end : ℕ} → passed src n at ≡ Ok end → Spells src at (numbers src n at) end
  passed_spells zero at {end} e = let same : at ≡ end = cc in rw (← same) done
  passed_spells (suc n) at e =
      let w = with_good (src at) (λ v next. passed src n next) e in
      rw w.2 (then w.2 (passed_spells n w.1 w.3))

  pub passed_many : (n at : ℕ) {end : ℕ} → passed src n at ≡ Ok end → length (numbers src n at) ≡ n
  passed_many zero at e = refl
  passed_many (suc n) at e =
      let w = with_good (src at) (λ v next. passed src n next) e in
      rw w.2 (ap suc (passed_many n w.1 w.3))

module _ {src : Reading} where
  -- numbers that stand there are read
  pub spelt_passed : {at end : ℕ} {list : List ℕ} → Spells src at list end → passed src (length list) at ≡ Ok end
  spelt_passed done = refl
  spelt_passed (then r s) = rw r (spelt_passed s)

  pub spelt_numbers : {at end : ℕ} {list : List ℕ} → Spells src at list end → numbers src (length list) at ≡ list
  spelt_numbers done = refl
  spelt_numbers (then {v = v} r s) = rw r (ap (λ (x : List ℕ). v ∷ x) (spelt_numbers s))

-- a number that stands there and is in range; `in_range_lem` is the way back
pub ranged_by : (src : Reading) (low high : ℕ) (why : Refusal) (at : ℕ) {v next : ℕ} → src at ≡ Number v next → low ≤ v → v ≤ high
    → number_between src low high why at ≡ Number v next
unfolding number_between
ranged_by src low high why at {v} r l m = rw (r, le-leb low v l, le-leb v high m)

-- in bytes
module _ (s : List ℕ) where
  -- each number ends after its place, and inside the bytes
  pub spells_on : {at end : ℕ} {list : List ℕ} → Spells (read_number s) at list end → at ≤ end
  spells_on done = omega arith
  spells_on (then {at = at} r t) = omega (arith, read_within s at r, spells_on t)

  pub spells_within : {at end : ℕ} {list : List ℕ} → Spells (read_number s) at list end → at ≤ length s → end ≤ length s
  spells_within done h = h
  spells_within (then {at = at} r t) h = spells_within t (read_within s at r).1

  none_here : {at end : ℕ} {list : List ℕ} → Spells (read_number s) at list end → end ≤ at → [] ≡ list
  none_here done h = refl
  none_here (then {at = at} r t) h = absurd (omega (arith, read_within s at r, spells_on t))

  one_here : {at v next end : ℕ} (xs : List ℕ) {ys : List ℕ} → read_number s at ≡ Number v next → next ≤ end
      → ((zs : List ℕ) → Spells (read_number s) next zs end → xs ≡ zs)
      → Spells (read_number s) at ys end
      → v ∷ xs ≡ ys
  one_here xs q l same (done {at = at}) = absurd (omega (arith, read_within s at q))
  one_here {v = v} {next = next} {end = end} xs q l same (then {v = w} {next = to} {list = ys} r t) =
      let i = number_is (sym q ∙ r) in
      ap₂ ◌∷◌ i.0 (same ys (rw (← i.1) at t))

  -- no two lists stand from one place to another
  pub spells_same : {at end : ℕ} {xs ys : List ℕ} → Spells (read_number s) at xs end → Spells (read_number s) at ys end → xs ≡ ys
  spells_same done u = none_here u (omega arith)
  spells_same (then {list = xs} r t) u = one_here xs r (spells_on t) (λ zs. spells_same t) u

  module _ (bytes : Bytes s) where
    -- they are the bytes of the list, from the one place to the other
    pub spells_bytes : {at end : ℕ} {list : List ℕ} → Spells (read_number s) at list end → drop at s ≡ all_bytes list ++ drop end s
    spells_bytes done = refl
    spells_bytes (then {at = at} {v = v} {end = end} {list = list} r t) =
        (written_back s at bytes r).form
        ∙ ap (λ (x : List ℕ). bytes_of v ++ x) (spells_bytes t)
        ∙ sym (append_assoc (bytes_of v) (all_bytes list) (drop end s))

    pub spells_size : {at end : ℕ} {list : List ℕ} → Spells (read_number s) at list end → end ≡ at + length (all_bytes list)
    spells_size (done {at = at}) = sym (add-zero at)
    spells_size (then {at = at} {v = v} {list = list} r t) =
        omega (arith, (written_back s at bytes r).past, spells_size t, length-append (bytes_of v) (all_bytes list))

    -- and each is at most 4,294,967,295
    pub spells_fit : {at end : ℕ} {list : List ℕ} → Spells (read_number s) at list end → Numbers list
    spells_fit done i = omega arith
    spells_fit (then {at = at} r t) zero = (written_back s at bytes r).fits
    spells_fit (then r t) (suc i) = spells_fit t i

-- The bytes of a list are spelt as that list, whatever stands before and after them.
pub bytes_spell : (before list after : List ℕ) → Numbers list
    → Spells (read_number (before ++ (all_bytes list ++ after))) (length before) list (length before + length (all_bytes list))
bytes_spell before [] after fit = rw (add-zero (length before)) done
bytes_spell before (v ∷ list) after fit =
    let b = bytes_of v in
    let rest = bytes_spell (before ++ b) list after (λ i. fit (suc i)) in
    rw (append_assoc b (all_bytes list) after, length-append b (all_bytes list))
    (then (read_appended before (all_bytes list ++ after) v (fit 0))
    (rw (append_assoc before b (all_bytes list ++ after), length-append before b, add_assoc (length before) (length b) (length (all_bytes list))) at rest))

-- with nothing before or after them
pub all_spell : (list : List ℕ) → Numbers list → Spells (read_number (all_bytes list)) 0 list (length (all_bytes list))
all_spell list fit = rw (append-nil (all_bytes list), zero-add (length (all_bytes list))) at (bytes_spell [] list [] fit)
