-- A logged run: a step of it and its line are those of the definitions.
use Prim.Native.Nat.{ℕ, ◌+◌, ◌-◌, ◌≤◌, ◌<◌}
use mathlib.Core.Path.{◌≡◌, refl, sym, ap, ◌∙◌}
use mathlib.Core.Bool.{Bool, true, false, not, ◌&&◌, ◌||◌}
use mathlib.Core.Logic.{◌⊎◌, inl, inr}
use mathlib.Core.List.{List}
use native.Mathlib.Nat.{sub-zero}
use native.Mathlib.Omega.{arith}
use borrow.Author.Tests.{lt-ltb, ltb-true, ltb-false}
use lib.ListN.{length, get_or}
use lib.Dec.{ltb}
use Rattle.std.specs.Prelude.{Err, Ok, Result}
use Rattle.basics.proofs.Tests.{by_test, and_left, and_right}
use Rattle.refusal.specs.Refusal.{refusal_by}
use Rattle.refusal.specs.declared.Refusal.{Refusal}
use Rattle.frame.specs.declared.Setup.{Setup}
use Rattle.channel.specs.declared.Channel.{Channel}
use Rattle.channel.specs.declared.Request.{Request}
use Rattle.channel.specs.Channel.{owner_place, request_of, with_request}
use Rattle.act.specs.declared.Route.{Route}
use Rattle.act.specs.declared.Entry.{Entry}
use Rattle.logline.specs.Line.{entry_text}
use Rattle.logline.specs.Text.{has_room_in, place_after, out_after}
use Rattle.step.specs.declared.acts.Decided.{Decided}
use Rattle.step.specs.declared.logs.Log.{Log}
use Rattle.step.specs.Step.{Room, moved_slave, moved_master}
use Rattle.step.specs.inner.Machine.{no_route, marked, standing_of, decided_of, decided_marks, Actable}
use Rattle.step.specs.Run.{World}
use Rattle.step.specs.Log.{Page, page_after, closed, log_from}
use Rattle.step.specs.inner.Turns.{
  Running,
  world_of,
  verdict_of,
  steps_after,
  stops,
  decided_in,
  marks_in,
  step_run,
  Logging,
  logging_of,
  page_by,
  log_step,
  log_to_come,
  Loggable,
}
use Rattle.step.proofs.RunLaws.{log_more, log_stop, log_end}
use Rattle.step.proofs.TurnLaws.{OneStep}
use Rattle.step.proofs.GoingLaws.{Going, go_on_lem, goes_on, stepped}

-- what was still to come, comes after the step
log_once : (setup : Setup) (budget : ℕ) (w later : Running) (p : Page) (answer : Result Entry Refusal) → w.full ≡ false → w.done < budget
    → has_room_in p.out p.at ≡ true → OneStep setup w later answer
    → log_to_come setup budget (record { running = later; page = page_by answer p }) ≡ log_to_come setup budget (record { running = w; page = p })
unfolding log_to_come
log_once setup budget w later p (Ok e) f h room s =
    rw (f, s.full, s.done)
    (sym
    (log_more setup budget w.done (world_of w) h p e room s.told
    ∙ ap (λ (x : _). log_from setup (budget - (w.done + 1)) (w.done + 1) x (page_after p e)) s.next))
log_once setup budget w later p (Err why) f h room s =
    let x = s.stopped why refl in
    rw (f, s.full, s.done)
    (ap (λ (y : World). closed (Err (refusal_by 6)) w.done y p) x.1
    ∙ sym (log_stop setup budget w.done (world_of w) h p why room s.told ∙ rw x.0))

-- after a step that was done the channel has been granted
done_one : (first : Bool) (done : ℕ) → (ltb 0 (done + 1) || first) ≡ true
done_one first done = rw (lt-ltb 0 (done + 1) (omega arith))

-- a step put back into the arrays, from what the calls said
module _ (route : Route) (log : Log) (first : Bool) (ch : Channel) (slave master out : List ℕ) (place : ℕ)
    (here : place ≡ owner_place log.standing.phase) (q : Request) (request : q ≡ request_of ch place)
    (d : Decided) (after : Channel) (e : d ≡ decided_of route log.standing (ltb 0 log.done || first) q ch.left ch.inactive)
    (m : after ≡ marked ch (decided_marks route log.standing (ltb 0 log.done || first) q ch.left ch.inactive)) (put : Channel)
    (is_put : put ≡ with_request after place d.slot) (slaves masters : List ℕ)
    (moved : (slaves ≡ moved_slave d.carry slave master) × (masters ≡ moved_master d.carry slave master)) where
  abbrev was : Logging
  was = logging_of log first ch slave master out

  decided_is : d ≡ decided_in route was.running.channel was.running.tally
  decided_is = e ∙ rw (request, here)

  put_is : put ≡ with_request (marked ch (marks_in route was.running.channel was.running.tally)) (owner_place log.standing.phase) d.slot
  put_is = is_put ∙ rw (m, request, here)

  pub log_done : (entry : Entry) (at : ℕ) (page : List ℕ) → d.acted.answer ≡ Ok entry → at ≡ place_after out log.at (entry_text entry)
      → page ≡ out_after out log.at (entry_text entry)
      → logging_of (record { standing = d.acted.standing; done = log.done + 1; full = false; at = at }) first put slaves masters page
      ≡ log_step route was
  unfolding log_step step_run with_request page_after
  log_done entry at page a b c = rw (put_is, ← decided_is, a, b, c, moved.0, moved.1, done_one first log.done)

  pub log_full : (why : Refusal) → d.acted.answer ≡ Err why
      → logging_of (record { standing = d.acted.standing; done = log.done; full = true; at = log.at }) first put slaves masters out
      ≡ log_step route was
  unfolding log_step step_run with_request
  log_full why a = rw (put_is, ← decided_is, a, moved.0, moved.1)

-- what the step relies on, in the form of its calls' needs
pub acts_at : (route : Route) (w : Running) → Loggable route w → (place : ℕ) → place ≡ owner_place w.channel.phase → (q : Request)
    → q ≡ request_of w.channel place → Actable route (standing_of w.channel w.tally) q
acts_at route w l place here q request = rw (request, here) l.acts

pub room_at : (route : Route) (w : Running) → Loggable route w → (place : ℕ) → place ≡ owner_place w.channel.phase → (q : Request)
    → q ≡ request_of w.channel place → (d : Decided)
    → d ≡ decided_of route (standing_of w.channel w.tally) w.channel.ever q w.channel.left w.channel.inactive
    → Room d.carry (length w.slave) (length w.master)
room_at route w l place here q request d e = rw (e, request, here) l.room

-- a logged run at its start and later
pub record Logs (setup : Setup) (budget : ℕ) (routes : List Route) (first g : Logging) : Type 0 where
  pub going : Going setup routes g.running
  pub same : log_to_come setup budget g ≡ log_to_come setup budget first
  pub least : g.running.done ≤ budget

pub logs_first : (setup : Setup) (budget : ℕ) (routes : List Route) (first : Logging) → first.running.done ≡ 0
    → Going setup routes first.running → Logs setup budget routes first first
logs_first setup budget routes first z g = record { going = g; same = refl; least = omega (arith, z) }

-- what the loop's test says
pub goes : (done budget : ℕ) (full room : Bool) → ((ltb done budget && not full) && room) ≡ true
    → (done < budget) × (full ≡ false) × (room ≡ true)
goes done budget full room e =
    let more = goes_on done budget full (and_left (ltb done budget && not full) room e) in
    (more.0, more.1, and_right (ltb done budget && not full) room e)

steps_more : (answer : Result Entry Refusal) (done : ℕ) → (stops answer ≡ true) ⊎ (done < steps_after answer done)
steps_more (Ok e) done = inr (omega arith)
steps_more (Err why) done = inl refl

steps_most_lem : (answer : Result Entry Refusal) (done budget : ℕ) → done < budget → steps_after answer done ≤ budget
steps_most_lem (Ok e) done budget h = omega (arith, h)
steps_most_lem (Err why) done budget h = omega (arith, h)

module _ (setup : Setup) (budget : ℕ) (routes : List Route) (first g : Logging) (l : Logs setup budget routes first g)
    (h : g.running.done < budget) (f : g.running.full ≡ false) (room : has_room_in g.page.out g.page.at ≡ true) (i : ℕ)
    (here : i ≡ owner_place g.running.channel.phase) (later : Logging) (is : later ≡ log_step (get_or routes i no_route) g) where
  abbrev w : Running
  w = g.running

  abbrev route : Route
  route = get_or routes (owner_place w.channel.phase) no_route

  abbrev answer : Result Entry Refusal
  answer = (decided_in route w.channel w.tally).acted.answer

  one : OneStep setup w (step_run route w) answer
  one = stepped setup routes w l.going

  later_is : later ≡ record { running = step_run route w; page = page_by answer g.page }
  unfolding log_step
  later_is = is ∙ rw here

  pub logs_on : Logs setup budget routes first later
  logs_on =
      rw later_is
      (record {
        going = go_on_lem setup routes w (step_run route w) l.going one.ready one.shaped one.ways;
        same = log_once setup budget w (step_run route w) g.page answer f h room one ∙ l.same;
        least = rw one.done (steps_most_lem answer w.done budget h);
      })

  pub logs_more : (later.running.full ≡ true) ⊎ (w.done < later.running.done)
  logs_more = rw (later_is, one.full, one.done) (steps_more answer w.done)

-- where it ends: the budget is used up, the clock is full, or the page is
pub log_finished : (setup : Setup) (budget : ℕ) (g : Logging) (room : Bool) → room ≡ has_room_in g.page.out g.page.at
    → ((ltb g.running.done budget && not g.running.full) && room) ≡ false → g.running.done ≤ budget
    → log_to_come setup budget g ≡ closed (verdict_of g.running.full) g.running.done (world_of g.running) g.page
unfolding log_to_come log_from
log_finished setup budget g room r e l =
    by_test g.running.full
    (λ t. rw t)
    (λ n.
    by_test (ltb g.running.done budget)
    (λ more.
    let none = sym r ∙ (rw (more, n) at e) in
    rw n (log_end setup budget g.running.done (world_of g.running) (ltb-true g.running.done budget more) g.page none))
    (λ last.
    let z : budget - g.running.done ≡ 0 = omega (arith, ltb-false g.running.done budget last) in
    rw (n, z)))

pub log_first : (setup : Setup) (budget : ℕ) (g : Logging) → g.running.full ≡ false → g.running.done ≡ 0
    → log_to_come setup budget g ≡ log_from setup budget 0 (world_of g.running) g.page
unfolding log_to_come
log_first setup budget g f d = rw (f, d, sub-zero budget)
