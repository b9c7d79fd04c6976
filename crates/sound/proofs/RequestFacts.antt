-- What an accepted request has, as facts, and back; and that its transfers fit the allowance.
use Prim.Native.Nat.{ℕ, ◌+◌, ◌≤◌}
use mathlib.Core.Path.{◌≡◌}
use mathlib.Core.Bool.{true, and-false}
use native.Mathlib.Omega.{arith}
use borrow.Author.Tests.{leb-true, le-leb, ltb-false, le-ltb}
use lib.Dec.{leb}
use Rattle.std.specs.Prelude.{Err, Some}
use Rattle.refusal.specs.Refusal.{accepted}
use Rattle.refusal.specs.declared.Refusal.{Refusal}
use Rattle.basics.specs.Limits.{request_most}
use Rattle.basics.proofs.Tests.{by_test, need}
use Rattle.cycle.specs.Cycle.{is_length}
use Rattle.cycle.proofs.TransferLaws.{time_most}
use Rattle.frame.specs.declared.Setup.{Setup}
use Rattle.frame.specs.Frame.{is_framed}
use Rattle.frame.specs.Rows.{is_present, level_of}
use Rattle.frame.specs.Allowance.{allowance_of}
use Rattle.frame.proofs.FoundLaws.{slave_row_of}
use Rattle.frame.proofs.FrameLaws.{framed_slaves, level_facts_of, quarter}
use Rattle.frame.proofs.SlaveLaws.{Found, found_slave}
use Rattle.channel.specs.declared.Request.{Request}
use Rattle.channel.specs.Slave.{slave_for, slave_of, start_of}
use Rattle.act.specs.Cycle.{route_of, next_time}
use Rattle.sound.specs.Request.{is_in_range, is_inside_slave, is_outside_master, request_verdict, transfer_of}

-- a level's request that meets none of 3, 4 and 5
pub record Fits (setup : Setup) (l : ℕ) (q : Request) : Type 0 where
  pub some : 1 ≤ q.left
  pub most : q.left ≤ request_most
  pub direction : q.direction ≤ 1
  pub space : q.space ≤ 1
  pub found : slave_for setup.slaves q ≡ Some (slave_of setup.slaves q, start_of setup.slaves q)
  pub master : q.offset + q.left ≤ setup.master

module _ (setup : Setup) (l : ℕ) (q : Request) where
  not_refused : {r : Refusal} → Err r ≡ accepted → ⊥
  not_refused e = let z : ◌≡◌ {A = ℕ} 0 1 = cc in omega arith

  pub fits_is : request_verdict setup l q ≡ accepted → Fits setup l q
  unfolding request_verdict is_in_range is_length slave_of start_of
  fits_is e =
      let range = by_test (is_in_range q) (λ t. t) (λ f. absurd (not_refused (rw f at e))) in
      let e1 = rw range at e in
      let inside = by_test (is_inside_slave setup q) (λ t. t) (λ f. absurd (not_refused (rw f at e1))) in
      let e2 = rw inside at e1 in
      let master = by_test (is_outside_master setup q) (λ t. absurd (not_refused (rw t at e2))) (λ f. f) in
      record {
        some = leb-true 1 q.left (need (leb 1 q.left) (is_in_range q) (λ f. simp f) range);
        most = leb-true q.left request_most (need (leb q.left request_most) (is_in_range q) (λ f. simp (f, and-false)) range);
        direction = leb-true q.direction 1 (need (leb q.direction 1) (is_in_range q) (λ f. simp (f, and-false)) range);
        space = leb-true q.space 1 (need (leb q.space 1) (is_in_range q) (λ f. simp (f, and-false)) range);
        found = slave_row_of (slave_for setup.slaves q) inside;
        master = ltb-false setup.master (q.offset + q.left) master;
      }

  pub fits_by : Fits setup l q → request_verdict setup l q ≡ accepted
  unfolding request_verdict is_in_range is_length
  fits_by f =
      rw (
        le-leb 1 q.left f.some,
        le-leb q.left request_most f.most,
        le-leb q.direction 1 f.direction,
        le-leb q.space 1 f.space,
        f.found,
        le-ltb setup.master (q.offset + q.left) f.master,
      )

-- in a framed set-up
module _ (setup : Setup) (framed : is_framed setup ≡ true) where
  pub slave_facts_of : {l : ℕ} (q : Request) → Fits setup l q
      → Found setup.slaves (framed_slaves setup framed) q.space q.address q.left (slave_of setup.slaves q) (start_of setup.slaves q)
  slave_facts_of q f = found_slave setup.slaves (framed_slaves setup framed) q.space q.address q.left _ _ f.found

  -- a transfer of an accepted request fits the allowance
  pub transfer_fits : (l : ℕ) (q : Request) → is_present setup.levels l ≡ true → Fits setup l q → transfer_of setup l q ≤ allowance_of setup
  unfolding transfer_of next_time route_of
  transfer_fits l q p f =
      let s = (slave_facts_of q f).facts in
      time_most (level_of setup.levels l).width (slave_of setup.slaves q).port
      (level_facts_of setup framed l p).0.width s.port q.address q.left
      (slave_of setup.slaves q).time (allowance_of setup) (quarter setup (slave_of setup.slaves q) s)
