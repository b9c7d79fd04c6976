-- Laws of a store that is gone through from its start on: filled, one byte more, then all; or added to its digest.
use Prim.Native.Nat.{ℕ, zero, suc, ◌+◌, ◌*◌, ◌%◌, ◌≤◌, ◌<◌}
use mathlib.Core.Path.{◌≡◌, refl, sym, ap, ◌∙◌}
use mathlib.Core.List.{List, [], ◌∷◌, ◌++◌}
use native.Mathlib.Nat.{add-zero, zero-add}
use native.Mathlib.Numerals.{add-one}
use native.Mathlib.Omega.{arith}
use lib.ListN.{length, get_or, take, drop, set, replicate-append-replicate, drop_of_length-le}
use lib.Seq.{take_all, take-suc-set, drop-cons}
use Rattle.sheethost.specs.Host.{master_from, master_store, slave_store, digest_from}

-- a store whose first i bytes are the first of a filled one, and that has no more, is filled
pub all_filled : (filled : ℕ → List ℕ) (store : List ℕ) (i size : ℕ) → take i store ≡ filled i → length store ≡ size → i ≤ size
    → length store ≤ i → store ≡ filled size
all_filled filled store i size begun same most whole =
    sym (take_all i store whole) ∙ begun ∙ ap filled (omega (arith, same, most, whole))

bytes_more : (at i : ℕ) → master_from at (suc i) ≡ master_from at i ++ (((at + i) % 251) ∷ [])
bytes_more at zero = rw add-zero refl
bytes_more at (suc i) =
    ap (λ (bytes : List ℕ). (at % 251) ∷ bytes)
    (bytes_more (suc at) i ∙ ap (λ (n : ℕ). master_from (suc at) i ++ ((n % 251) ∷ [])) (omega arith))

-- byte i is i mod 251
pub master_more : (store : List ℕ) (i : ℕ) → i < length store → take i store ≡ master_store i
    → take (i + 1) (set store i (i % 251)) ≡ master_store (i + 1)
master_more store i inside begun =
    ap (λ (n : ℕ). take n (set store i (i % 251))) (add-one i)
    ∙ take-suc-set store i (i % 251) inside
    ∙ ap (λ (bytes : List ℕ). bytes ++ ((i % 251) ∷ [])) begun
    ∙ sym (ap master_store (add-one i) ∙ bytes_more 0 i ∙ ap (λ (n : ℕ). master_store i ++ ((n % 251) ∷ [])) (zero-add i))

-- and in the slave store 0
pub slave_more : (store : List ℕ) (i : ℕ) → i < length store → take i store ≡ slave_store i → take (i + 1) (set store i 0) ≡ slave_store
    (i + 1)
slave_more store i inside begun =
    ap (λ (n : ℕ). take n (set store i 0)) (add-one i)
    ∙ take-suc-set store i 0 inside
    ∙ ap (λ (bytes : List ℕ). bytes ++ (0 ∷ [])) begun
    ∙ replicate-append-replicate i 1 0

-- one byte more in the digest
pub digest_more : (store : List ℕ) (i d byte : ℕ) → i < length store → byte ≡ get_or store i 0
    → digest_from ((d * 257 + byte + 1) % 4294967291) (drop (i + 1) store) ≡ digest_from d (drop i store)
digest_more store i d byte inside e = rw (add-one i, e, drop-cons store i 0 inside)

pub digest_whole : (store : List ℕ) (i d : ℕ) → length store ≤ i → digest_from d (drop i store) ≡ d
digest_whole store i d whole = ap (digest_from d) (drop_of_length-le store whole)
