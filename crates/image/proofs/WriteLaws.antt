-- The numbers of a channel laid as bytes into a row, one part after the other, and how many they are at most. Assumes nothing.
use Prim.Native.Nat.{ℕ, zero, suc, ◌+◌, ◌*◌, ◌≤◌, ◌<◌}
use mathlib.Core.Path.{◌≡◌, refl, sym, ◌∙◌}
use mathlib.Core.List.{List, [], ◌∷◌, ◌++◌, append-nil}
use native.Mathlib.Nat.{add-zero}
use native.Mathlib.Numerals.{add-one}
use native.Mathlib.Omega.{arith}
use borrow.Author.Tests.{eq-eqb, ne_eqb}
use lib.Dec.{eqb}
use lib.ListN.{length, get_or, drop, set, length-append}
use lib.Seq.{sets, drop-cons}
use Rattle.std.specs.Prelude.{None, Option, Some}
use Rattle.basics.specs.Limits.{places}
use Rattle.basics.proofs.Tests.{by_test}
use Rattle.number.specs.Number.{bytes_of}
use Rattle.number.proofs.Laws.{bytes_most}
use Rattle.numbers.specs.Numbers.{all_bytes}
use Rattle.numbers.proofs.Laws.{sets_append, sizes_most}
use Rattle.numbers.proofs.RoundTrip.{all_append}
use Rattle.channel.specs.declared.Channel.{Channel}
use Rattle.channel.specs.declared.Request.{Request}
use Rattle.channel.specs.Channel.{request_of}
use Rattle.image.specs.Layout.{flag_number, phase_number, asked_numbers, marks_number, request_numbers, requests_numbers, channel_numbers}

-- bytes were laid from a place on: where they end, and what the row is then; the same of a list of numbers
abbrev pub Put : List ℕ → ℕ → List ℕ → ℕ → List ℕ → Type 0
Put row at bytes next after = (next ≡ at + length bytes) × (after ≡ sets row at bytes)

abbrev pub Laid : List ℕ → ℕ → List ℕ → ℕ → List ℕ → Type 0
Laid row at list next after = Put row at (all_bytes list) next after

pub laid_none : (row : List ℕ) (at : ℕ) {list : List ℕ} → list ≡ [] → Laid row at list at row
laid_none row at none = rw none (sym (add-zero at), refl)

pub laid_one : (row : List ℕ) (at v : ℕ) {next : ℕ} {after : List ℕ} → Put row at (bytes_of v) next after → Laid row at (v ∷ []) next after
laid_one row at v put = rw append-nil put

pub laid_both : (row : List ℕ) (at : ℕ) (a b : List ℕ) {mid end : ℕ} {between after : List ℕ} → Laid row at a mid between → Laid between mid b end after
    → Laid row at (a ++ b) end after
laid_both row at a b {mid} {end} {between} {after} first second =
    let size = length-append (all_bytes a) (all_bytes b) in
    let whole : after ≡ sets row at (all_bytes a ++ all_bytes b) =
    second.1 ∙ rw (first.0, first.1) (sym (sets_append (all_bytes a) (all_bytes b) row at)) in
    rw (all_append a b) (omega arith, whole)

pub laid_more : (row : List ℕ) (at v : ℕ) (list : List ℕ) {mid end : ℕ} {between after : List ℕ} → Put row at (bytes_of v) mid between
    → Laid between mid list end after
    → Laid row at (v ∷ list) end after
laid_more row at v list first second = laid_both row at (v ∷ []) list (laid_one row at v first) second

-- the number 0 is the byte 0
zero_put : (row : List ℕ) (at : ℕ) → Put row at (bytes_of 0) (at + 1) (set row at 0)
unfolding bytes_of
zero_put row at = (refl, refl)

-- a request: of an open one five numbers, and never more
pub fields_most : (q : Request)
    → (length (bytes_of q.left) ≤ 5) × (length (bytes_of q.direction) ≤ 5) × (length (bytes_of q.space) ≤ 5)
    × (length (bytes_of q.address) ≤ 5) × (length (bytes_of q.offset) ≤ 5)
fields_most q = (bytes_most q.left, bytes_most q.direction, bytes_most q.space, bytes_most q.address, bytes_most q.offset)

pub request_laid : (q : Request) (row : List ℕ) (at : ℕ) {second third fourth fifth end : ℕ} {b c d e after : List ℕ} → (q.left ≡ 0 → ⊥)
    → Put row at (bytes_of q.left) second b → Put b second (bytes_of q.direction) third c → Put c third (bytes_of q.space) fourth d
    → Put d fourth (bytes_of q.address) fifth e → Put e fifth (bytes_of q.offset) end after
    → Laid row at (request_numbers q) end after
request_laid q row at {second} {third} {fourth} {fifth} {end} {b} {c} {d} {e} {after} some left direction space address offset =
    let four = laid_more d fourth q.address (q.offset ∷ []) address (laid_one e fifth q.offset offset) in
    let three = laid_more c third q.space (q.address ∷ q.offset ∷ []) space four in
    let two = laid_more b second q.direction (q.space ∷ q.address ∷ q.offset ∷ []) direction three in
    rw (ne_eqb q.left 0 some) (laid_more row at q.left (q.direction ∷ q.space ∷ q.address ∷ q.offset ∷ []) left two)

request_most_lem : (q : Request) → length (request_numbers q) ≤ 5
request_most_lem q = by_test (eqb q.left 0) (λ t. rw t (omega arith)) (λ f. rw f (omega arith))

pub request_size : (q : Request) → length (all_bytes (request_numbers q)) ≤ 25
request_size q = omega (arith, sizes_most (request_numbers q), request_most_lem q)

-- one more place is due, with a request or without, or none
module _ (ch : Channel) (row : List ℕ) (at l : ℕ) {left k : ℕ} (more : left ≡ suc k) {end : ℕ} {after : List ℕ} where
  pub some_on : {next : ℕ} {between : List ℕ} → Laid row at (request_numbers (request_of ch l)) next between
      → Laid between next (requests_numbers ch k (l + 1)) end after
      → Laid row at (requests_numbers ch left l) end after
  unfolding requests_numbers
  some_on first rest = rw more (laid_both row at (request_numbers (request_of ch l)) (requests_numbers ch k (l + 1)) first rest)

  pub none_on : get_or ch.left l 0 ≡ 0 → Laid (set row at 0) (at + 1) (requests_numbers ch k (l + 1)) end after
      → Laid row at (requests_numbers ch left l) end after
  none_on none rest =
      let nothing_after : request_numbers (request_of ch l) ≡ 0 ∷ [] = rw (eq-eqb (get_or ch.left l 0) 0 none) in
      some_on (rw nothing_after (laid_one row at 0 (zero_put row at))) rest

pub requests_done : (ch : Channel) (l : ℕ) {left : ℕ} → left ≡ 0 → requests_numbers ch left l ≡ []
unfolding requests_numbers
requests_done ch l none = rw none

requests_most : (ch : Channel) (left l : ℕ) → length (requests_numbers ch left l) ≤ 5 * left
unfolding requests_numbers
requests_most ch zero l = omega arith
requests_most ch (suc left) l =
    let both = length-append (request_numbers (request_of ch l)) (requests_numbers ch left (l + 1)) in
    omega (arith, both, request_most_lem (request_of ch l), requests_most ch left (l + 1))

-- the asked time
asked_most : (asked : Option ℕ) → length (asked_numbers asked) ≤ 2
asked_most None = omega arith
asked_most (Some time) = omega arith

pub asked_size : (asked : Option ℕ) → length (all_bytes (asked_numbers asked)) ≤ 10
asked_size asked = omega (arith, sizes_most (asked_numbers asked), asked_most asked)

-- the whole channel: whether it was ever granted, clock, owner, asked time, marks and requests, each after the other
pub channel_laid : (ch : Channel) (row : List ℕ) (at : ℕ) {v p n second third fourth fifth sixth end : ℕ} {b c d e f after : List ℕ}
    → v ≡ flag_number ch.ever → Put row at (bytes_of v) second b → Put b second (bytes_of ch.clock) third c
    → p ≡ phase_number ch.phase → Put c third (bytes_of p) fourth d
    → Laid d fourth (asked_numbers ch.asked) fifth e → n ≡ marks_number ch.inactive → Put e fifth (bytes_of n) sixth f
    → Laid f sixth (requests_numbers ch places 0) end after
    → Laid row at (channel_numbers ch) end after
unfolding channel_numbers
channel_laid ch row at {v} {p} {n} {second} {third} {fourth} {fifth} {sixth} {end} {b} {c} {d} {e} {f} {after} v-is ever clock p-is phase asked
    n_is marks requests =
    let four = marks_number ch.inactive ∷ requests_numbers ch places 0 in
    let three = asked_numbers ch.asked ++ four in
    let last = laid_more e fifth (marks_number ch.inactive) (requests_numbers ch places 0) (rw n_is at marks) requests in
    let when = laid_both d fourth (asked_numbers ch.asked) four asked last in
    let owner = laid_more c third (phase_number ch.phase) three (rw p-is at phase) when in
    let time = laid_more b second ch.clock (phase_number ch.phase ∷ three) clock owner in
    laid_more row at (flag_number ch.ever) (ch.clock ∷ phase_number ch.phase ∷ three) (rw v-is at ever) time

channel_most : (ch : Channel) → length (channel_numbers ch) ≤ 6 + 5 * places
unfolding channel_numbers
channel_most ch =
    let both = length-append (asked_numbers ch.asked) (marks_number ch.inactive ∷ requests_numbers ch places 0) in
    omega (arith, both, asked_most ch.asked, requests_most ch places 0)

pub channel_size : (ch : Channel) → length (all_bytes (channel_numbers ch)) ≤ 30 + 25 * places
channel_size ch = omega (arith, sizes_most (channel_numbers ch), channel_most ch)

-- bytes copied one by one
pub copied_on : (from out : List ℕ) (at i : ℕ) → i < length from
    → sets (set out (at + i) (get_or from i 0)) (at + (i + 1)) (drop (i + 1) from) ≡ sets out (at + i) (drop i from)
copied_on from out at i h = let next : at + (i + 1) ≡ suc (at + i) = omega arith in rw (next, drop-cons from i 0 h, add-one i)
