-- Demand 3, whole: from any channel that isn't unsound, and from set-up.
use Prim.Native.Nat.{ℕ}
use mathlib.Core.Path.{◌≡◌, sym, ap, ◌∙◌}
use mathlib.Core.List.{List, ◌++◌}
use native.Mathlib.Omega.{arith}
use borrow.Author.Tests.{ltb-true, ltb-false}
use lib.ListN.{get_or-replicate, length-replicate, get_or-eq_default}
use lib.Dec.{ltb}
use Rattle.basics.specs.Limits.{places}
use Rattle.basics.proofs.Tests.{by_test}
use Rattle.frame.specs.declared.Setup.{Setup}
use Rattle.frame.specs.Allowance.{allowance_of}
use Rattle.channel.specs.Channel.{request_of, fresh_channel}
use Rattle.channel.proofs.RequestLaws.{fresh_shaped}
use Rattle.sound.proofs.SoundFacts.{sound_by}
use Rattle.post.proofs.FreshLaws.{fresh_sound}
use Rattle.demands.specs.History.{Moment, Start}
use Rattle.demands.specs.Calls.{Call, acts_over}
use Rattle.demands.specs.Bytes.{bytes_from, first_byte, asked_bytes}
use Rattle.demands.specs.Demand.{Demand3, set_up_with, AfterSetUp}
use Rattle.demands.proofs.CallLaws.{calls_are_acts}
use Rattle.demands.proofs.OrderLaws.{in_order, sums}
use Rattle.demands.proofs.OwnerLaws.{only_owners}
use Rattle.demands.proofs.StoreLaws.{last_cycle}
use Rattle.demands.proofs.BoundLaws.{hold_bounded}

pub demand_3 : (setup : Setup) (first : Moment) (calls : List (Call setup)) → Start setup first → Demand3 setup first calls
demand_3 setup first calls s =
    let acts = acts_over setup first calls in
    let now = calls_are_acts setup first calls in
    record {
      sums = λ l. rw now (sums setup first l acts s.shaped);
      order = λ l. rw now (in_order setup first l acts s.shaped);
      owners = only_owners setup first acts;
      stores = λ side x. rw now (last_cycle setup first side x acts);
      hold = λ past rest e o t f. hold_bounded setup first past o t s f;
    }

-- the fresh channel is sound under every set-up
pub fresh_start : (setup : Setup) (slave master : List ℕ) → Start setup (set_up_with slave master)
fresh_start setup slave master = record { shaped = fresh_shaped; sound = sound_by setup fresh_channel (fresh_sound setup) }

-- and has nothing open
zero_at : (l : ℕ) → (request_of fresh_channel l).left ≡ 0
zero_at l =
    by_test (ltb l places)
    (λ t. get_or-replicate {A = ℕ} places l 0 0 (ltb-true l places t))
    (λ f. get_or-eq_default fresh_channel.left 0 {n = l} (omega (arith, ltb-false l places f, length-replicate {A = ℕ} places 0)))

pub after_set_up : (setup : Setup) (slave master : List ℕ) (calls : List (Call setup)) → AfterSetUp setup slave master calls
unfolding allowance_of
after_set_up setup slave master calls =
    let first = set_up_with slave master in
    let acts = acts_over setup first calls in
    let d = demand_3 setup first calls (fresh_start setup slave master) in
    record {
      sums = λ l. let e = d.sums l in omega (arith, e, zero_at l);
      order = λ l.
          sym (ap (λ (left : ℕ). bytes_from left (first_byte (request_of fresh_channel l)) ++ asked_bytes setup first l acts) (zero_at l)) ∙ d.order l;
      owners = d.owners;
      stores = d.stores;
      hold = λ past rest e o t f a. (d.hold past rest e o t f).onward a;
    }
