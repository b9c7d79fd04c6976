-- Equal channels; a request laid in a level's place: what stands there then, and what stays; and that every call keeps the arrays' shape.
use Prim.Native.Nat.{ℕ, ◌<◌, ◌≤◌}
use mathlib.Core.Path.{◌≡◌, refl, ◌∙◌}
use mathlib.Core.Bool.{Bool}
use mathlib.Core.List.{List}
use native.Mathlib.Omega.{arith}
use lib.ListN.{length, length-set, get_or-eq_default}
use lib.Seq.{set_out, get_or-set_same, get_or-set_other}
use Rattle.std.specs.Prelude.{Option}
use Rattle.basics.specs.Limits.{places}
use Rattle.basics.proofs.Tests.{by_test}
use Rattle.channel.specs.declared.Phase.{Phase}
use Rattle.channel.specs.declared.Channel.{Channel}
use Rattle.channel.specs.declared.Request.{Request}
use Rattle.channel.specs.Channel.{request_of, no_request, with_request, changed, fresh_channel, Shaped}
use Rattle.channel.specs.Line.{line, clear_marks, set_asked, line_rule}

-- equal fields, equal channels
pub same_channel : (a b : Channel) → a.phase ≡ b.phase → a.asked ≡ b.asked → a.ever ≡ b.ever → a.clock ≡ b.clock
    → a.inactive ≡ b.inactive → a.direction ≡ b.direction → a.space ≡ b.space → a.address ≡ b.address → a.left ≡ b.left
    → a.offset ≡ b.offset → a ≡ b
same_channel a b phase asked ever clock inactive direction space address left offset =
    λ i. record {
      phase = phase i;
      asked = asked i;
      ever = ever i;
      clock = clock i;
      inactive = inactive i;
      direction = direction i;
      space = space i;
      address = address i;
      left = left i;
      offset = offset i;
    }

pub request_same : (ch : Channel) (l : ℕ) (q : Request) → Shaped ch → l < places → request_of (with_request ch l q) l ≡ q
unfolding with_request
request_same ch l q s h =
    λ i. record {
      direction = get_or-set_same ch.direction l q.direction 0 (omega (arith, s.direction)) i;
      space = get_or-set_same ch.space l q.space 0 (omega (arith, s.space)) i;
      address = get_or-set_same ch.address l q.address 0 (omega (arith, s.address)) i;
      left = get_or-set_same ch.left l q.left 0 (omega (arith, s.left)) i;
      offset = get_or-set_same ch.offset l q.offset 0 (omega (arith, s.offset)) i;
    }

pub request_other : (ch : Channel) (l m : ℕ) (q : Request) → (m ≡ l → ⊥) → request_of (with_request ch l q) m ≡ request_of ch m
unfolding with_request
request_other ch l m q n =
    λ i. record {
      direction = get_or-set_other ch.direction l m q.direction 0 n i;
      space = get_or-set_other ch.space l m q.space 0 n i;
      address = get_or-set_other ch.address l m q.address 0 n i;
      left = get_or-set_other ch.left l m q.left 0 n i;
      offset = get_or-set_other ch.offset l m q.offset 0 n i;
    }

-- past the last level there is no request
pub no_request_lem : (ch : Channel) (l : ℕ) → Shaped ch → places ≤ l → request_of ch l ≡ no_request
no_request_lem ch l s h =
    λ i. record {
      direction = get_or-eq_default ch.direction 0 {n = l} (omega (arith, s.direction)) i;
      space = get_or-eq_default ch.space 0 {n = l} (omega (arith, s.space)) i;
      address = get_or-eq_default ch.address 0 {n = l} (omega (arith, s.address)) i;
      left = get_or-eq_default ch.left 0 {n = l} (omega (arith, s.left)) i;
      offset = get_or-eq_default ch.offset 0 {n = l} (omega (arith, s.offset)) i;
    }

pub no_place : (ch : Channel) (l : ℕ) (q : Request) → Shaped ch → places ≤ l → with_request ch l q ≡ ch
unfolding with_request
no_place ch l q s h =
    same_channel (with_request ch l q) ch refl refl refl refl refl
    (set_out ch.direction l q.direction (omega (arith, s.direction)))
    (set_out ch.space l q.space (omega (arith, s.space)))
    (set_out ch.address l q.address (omega (arith, s.address)))
    (set_out ch.left l q.left (omega (arith, s.left)))
    (set_out ch.offset l q.offset (omega (arith, s.offset)))

-- the shape of the arrays
pub fresh_shaped : Shaped fresh_channel
fresh_shaped = record { inactive = refl; direction = refl; space = refl; address = refl; left = refl; offset = refl }

pub with_shaped : (ch : Channel) (l : ℕ) (q : Request) → Shaped ch → Shaped (with_request ch l q)
unfolding with_request
with_shaped ch l q s =
    record {
      inactive = s.inactive;
      direction = length-set ch.direction l q.direction ∙ s.direction;
      space = length-set ch.space l q.space ∙ s.space;
      address = length-set ch.address l q.address ∙ s.address;
      left = length-set ch.left l q.left ∙ s.left;
      offset = length-set ch.offset l q.offset ∙ s.offset;
    }

-- a changed channel has the shape where its marks have
pub changed_shaped : (ch : Channel) (phase : Phase) (asked : Option ℕ) (ever : Bool) (clock : ℕ) (marks : List Bool) → length marks ≡ places → Shaped ch
    → Shaped (changed ch phase asked ever clock marks)
changed_shaped ch phase asked ever clock marks n s =
    record { inactive = n; direction = s.direction; space = s.space; address = s.address; left = s.left; offset = s.offset }

pub rule_shaped : (ch : Channel) → Shaped ch → Shaped (line_rule ch)
unfolding set_asked clear_marks
rule_shaped ch s =
    changed_shaped ch ch.phase (line_rule ch).asked ch.ever ch.clock (line_rule ch).inactive
    (by_test (line ch) (λ t. rw t s.inactive) (λ f. rw f refl)) s
