-- All that the laws of a step know of a cycle: the bytes that it moves, what it leaves of the request, and the time of its transfer.
use Prim.Native.Nat.{ℕ, ◌+◌, ◌-◌, ◌≤◌, ◌<◌}
use mathlib.Core.Path.{◌≡◌, refl, sym, ap, ◌∙◌}
use mathlib.Core.Bool.{true, false, cond, false≢true}
use native.Mathlib.Nat.{add-zero}
use native.Mathlib.Omega.{arith}
use borrow.Author.Tests.{eqb-true, eqb-false}
use lib.Dec.{eqb}
use Rattle.std.specs.Prelude.{Some}
use Rattle.basics.proofs.Tests.{by_test}
use Rattle.cycle.specs.Cycle.{is_width, is_port, narrower_of, is_transfer_end, transfer_time}
use Rattle.cycle.proofs.CountLaws.{length_some}
use Rattle.cycle.proofs.Widths.{port_some, width_some}
use Rattle.cycle.proofs.TransferLaws.{time_left, time_ended}
use Rattle.frame.specs.declared.Setup.{Setup}
use Rattle.frame.specs.Frame.{is_framed}
use Rattle.frame.proofs.FrameLaws.{framed_slaves, level_facts_of}
use Rattle.frame.proofs.SlaveLaws.{found_part}
use Rattle.channel.specs.declared.Request.{Request}
use Rattle.channel.specs.Channel.{no_request}
use Rattle.frame.specs.Rows.{is_present, slave_or, start_or}
use Rattle.channel.specs.Slave.{slave_for, slave_of, start_of}
use Rattle.sound.specs.Request.{transfer_of}
use Rattle.sound.proofs.RequestFacts.{Fits, slave_facts_of}
use Rattle.act.specs.declared.Route.{Route}
use Rattle.act.specs.Cycle.{Cycle, route_of, cycle_bytes, rest_after, next_time, cycle_of}

-- "The i-th byte goes with address + i and offset + i.": the request from its n-th byte on
abbrev pub further : Request → ℕ → Request
further q n =
    record { direction = q.direction; space = q.space; address = q.address + n; left = q.left - n; offset = q.offset + n }

-- a cycle moves some of the bytes that are left, from the next one on, and what it leaves is the request after them, or nothing
pub record Leaves (q : Request) (c : Cycle) : Type 0 where
  pub address : c.address ≡ q.address
  pub some : 0 < c.bytes
  pub most : c.bytes ≤ q.left
  pub left : c.rest.left ≡ q.left - c.bytes
  pub onward : 0 < c.rest.left → c.rest ≡ further q c.bytes
  pub done : c.rest.left ≡ 0 → c.rest ≡ no_request
  pub ends : c.rest.left ≡ 0 → c.ends ≡ true

-- the running transfer has this cycle and, unless it ends with it, those of `next`, which is the rest's
pub record Takes (setup : Setup) (l : ℕ) (q : Request) (c : Cycle) : Type 0 where
  pub transfer : transfer_of setup l q ≡ c.time + cond c.ends 0 c.next
  pub next : 0 < c.rest.left → transfer_of setup l c.rest ≡ c.next

-- the words of a cycle
cycle_time : (route : Route) (q : Request) → (cycle_of route q).time ≡ route.time
unfolding cycle_of
cycle_time route q = refl

next_by : (route : Route) (q : Request) → (cycle_of route q).next ≡ next_time route (cycle_of route q).rest
unfolding cycle_of
next_by route q = refl

-- what is left after n bytes
rest_left : (q : Request) (n : ℕ) → n ≤ q.left → (rest_after q n).left ≡ q.left - n
unfolding rest_after
rest_left q n h = by_test (eqb n q.left) (λ t. rw t (omega (arith, eqb-true n q.left t))) (λ f. rw f)

rest_done : (q : Request) (n : ℕ) → q.left ≤ n → n ≤ q.left → rest_after q n ≡ no_request
unfolding rest_after
rest_done q n h k = by_test (eqb n q.left) (λ t. rw t) (λ f. absurd (omega (arith, eqb-false n q.left f)))

rest_onward : (q : Request) (n : ℕ) → n < q.left → rest_after q n ≡ further q n
unfolding rest_after
rest_onward q n h = by_test (eqb n q.left) (λ t. absurd (omega (arith, eqb-true n q.left t))) (λ f. rw f)

module _ (route : Route) (q : Request) (width : is_width route.width ≡ true) (port : is_port route.port ≡ true) (some : 0 < q.left) where
  bytes_some : 0 < cycle_bytes route q
  bytes_some = length_some (narrower_of route.width route.port) q.address q.left
      (omega (arith, (width_some route.width width).0, (port_some route.port port).0)) some

  pub leaves : Leaves q (cycle_of route q)
  unfolding cycle_of
  leaves =
      let n = cycle_bytes route q in
      let k : n ≤ q.left = omega arith in
      let left = rest_left q n k in
      record {
        address = refl;
        some = bytes_some;
        most = k;
        left = left;
        onward = λ h. rest_onward q n (omega (arith, left));
        done = λ h. rest_done q n (omega (arith, left)) k;
        ends = λ h. rw h;
      }

  -- the transfer's end and its time are those of the next byte, which the rest tells where there is one
  ends_is : (cycle_of route q).ends ≡ is_transfer_end route.width (q.address + cycle_bytes route q) (q.left - cycle_bytes route q)
  unfolding cycle_of rest_after
  ends_is =
      let n = cycle_bytes route q in
      by_test (eqb n q.left)
      (λ t. let z : q.left - n ≡ 0 = omega (arith, eqb-true n q.left t) in rw (t, z))
      (λ f. rw f)

  next_is : (cycle_of route q).ends ≡ false → (cycle_of route q).next
      ≡ transfer_time route.width route.port route.time (q.address + cycle_bytes route q) (q.left - cycle_bytes route q)
  unfolding cycle_of rest_after next_time
  next_is e =
      let n = cycle_bytes route q in
      by_test (eqb n q.left) (λ t. absurd (false≢true (sym (rw t at e)))) (λ f. rw f)

  transfer_is : next_time route q ≡ (cycle_of route q).time + cond (cycle_of route q).ends 0 (cycle_of route q).next
  unfolding next_time
  transfer_is =
      by_test (cycle_of route q).ends
      (λ t.
      rw (cycle_time route q, t, add-zero route.time)
      (time_ended route.width route.port width port q.address q.left route.time some (sym ends_is ∙ t)))
      (λ f.
      rw (cycle_time route q, f, next_is f)
      (time_left route.width route.port width port q.address q.left route.time (sym ends_is ∙ f)))

-- a request that fits, and any cycle of it
module _ (setup : Setup) (framed : is_framed setup ≡ true) {k : ℕ} (q : Request) (fits : Fits setup k q) (c : Cycle)
    (leaves : Leaves q c) where
  -- what is left lies in the same row
  further_found : (n : ℕ) → n < q.left
      → slave_for setup.slaves (further q n) ≡ Some (slave_of setup.slaves q, start_of setup.slaves q)
  further_found n h =
      found_part setup.slaves (framed_slaves setup framed) q.space q.address q.left (q.address + n) (q.left - n) _ _
      fits.found
      (omega arith) (omega arith) (omega arith)

  rest_found : 0 < c.rest.left → slave_for setup.slaves c.rest ≡ Some (slave_of setup.slaves q, start_of setup.slaves q)
  rest_found h =
      ap (slave_for setup.slaves) (leaves.onward h) ∙ further_found c.bytes (omega (arith, leaves.left))

  pub rest_slave : 0 < c.rest.left → slave_of setup.slaves c.rest ≡ slave_of setup.slaves q
  unfolding slave_of
  rest_slave h = ap slave_or (rest_found h)

  pub rest_start : 0 < c.rest.left → start_of setup.slaves c.rest ≡ start_of setup.slaves q
  unfolding start_of
  rest_start h = ap start_or (rest_found h)

  -- so it goes the same way
  pub rest_route : (l : ℕ) → 0 < c.rest.left → route_of setup l c.rest ≡ route_of setup l q
  unfolding route_of
  rest_route l h = rw (rest_slave h, rest_start h)

  -- and fits as the whole does
  pub rest_fits_lem : 0 < c.rest.left → Fits setup k c.rest
  rest_fits_lem h =
      let e = leaves.onward h in
      record {
        some = h;
        most = omega (arith, leaves.left, fits.most);
        direction = rw e fits.direction;
        space = rw e fits.space;
        found = rest_found h ∙ sym (λ i. Some (rest_slave h i, rest_start h i));
        master = rw e (omega (arith, leaves.most, fits.master));
      }

transfer_by : (setup : Setup) (l : ℕ) (q : Request) → transfer_of setup l q ≡ next_time (route_of setup l q) q
unfolding transfer_of
transfer_by setup l q = refl

-- the next cycle of a level's request that fits
module _ (setup : Setup) (framed : is_framed setup ≡ true) (l : ℕ) (present : is_present setup.levels l ≡ true) (q : Request)
    (fits : Fits setup l q) where
  route_width : is_width (route_of setup l q).width ≡ true
  unfolding route_of
  route_width = (level_facts_of setup framed l present).0.width

  route_port : is_port (route_of setup l q).port ≡ true
  unfolding route_of
  route_port = (slave_facts_of setup framed q fits).facts.port

  pub cycle_leaves : Leaves q (cycle_of (route_of setup l q) q)
  cycle_leaves = leaves (route_of setup l q) q route_width route_port fits.some

  pub cycle_takes : Takes setup l q (cycle_of (route_of setup l q) q)
  cycle_takes =
      let route = route_of setup l q in
      record {
        transfer = transfer_by setup l q ∙ transfer_is route q route_width route_port fits.some;
        next = λ h.
            transfer_by setup l (cycle_of route q).rest
            ∙ ap (λ (p : Route). next_time p (cycle_of route q).rest) (rest_route setup framed q fits (cycle_of route q) cycle_leaves l h)
            ∙ sym (next_by route q);
      }
