-- A level's cycles cover its requests in posting order, each byte once.
use Prim.Native.Nat.{ℕ, zero, suc, ◌+◌}
use mathlib.Core.Path.{◌≡◌, refl, sym, ap, ◌∙◌}
use mathlib.Core.Bool.{true, cond, false≢true}
use mathlib.Core.List.{List, [], ◌∷◌, ◌++◌, append_assoc, append-nil}
use native.Mathlib.Nat.{add-zero, suc-add, zero-add}
use native.Mathlib.Omega.{arith}
use borrow.Author.Tests.{eqb-true, eqb-false}
use lib.ListN.{length, length-append}
use lib.Dec.{eqb}
use Rattle.std.specs.Prelude.{Err, Ok, Result}
use Rattle.refusal.specs.declared.Refusal.{Refusal}
use Rattle.basics.proofs.Tests.{by_test}
use Rattle.refusal.specs.Refusal.{is_accepted}
use Rattle.frame.specs.declared.Setup.{Setup}
use Rattle.frame.specs.Frame.{is_framed}
use Rattle.channel.specs.declared.Channel.{Channel}
use Rattle.channel.specs.declared.Request.{Request}
use Rattle.channel.specs.Channel.{has_request, request_of, with_request, Shaped}
use Rattle.channel.proofs.RequestLaws.{request_same, request_other}
use Rattle.sound.proofs.SoundFacts.{Sound, sound_is, accepted_is}
use Rattle.frame.proofs.FrameLaws.{level_facts_of}
use Rattle.frame.specs.declared.Order.{Order}
use Rattle.post.specs.Post.{request_in, post_verdict, posted, post_of}
use Rattle.post.proofs.PostLaws.{Allowed, allowed}
use Rattle.act.specs.declared.Entry.{Entry}
use Rattle.act.specs.declared.Entry.TheVariants.{Idle, Grant, Cycle as CycleLine, Release}
use Rattle.act.specs.Cycle.{Cycle, ending_at, freed, cycle_entry, cycle_turn}
use Rattle.step.proofs.CycleFacts.{Leaves}
use Rattle.act.specs.Turn.{granted, grant_turn, leave_turn}
use Rattle.act.proofs.EndingLaws.{ended_request}
use Rattle.step.specs.declared.Plan.{Plan}
use Rattle.step.specs.declared.Plan.TheVariants as plan
use Rattle.step.specs.Plan.{act_plan}
use Rattle.step.specs.Step.{advanced_by, step_of}
use Rattle.step.proofs.PlanLaws.{says, plan_ready}
use Rattle.step.proofs.KeepLaws.{route_at, next_cycle, moved_at, ended_at, leaves, here, other}
use Rattle.demands.specs.History.{Moment, Act, posts, steps, no_tally, next, moment_after}
use Rattle.demands.specs.Log.{added, log_of}
use Rattle.demands.specs.Bytes.{
  Byte,
  further,
  bytes_from,
  first_byte,
  request_bytes,
  open_bytes,
  asked_by,
  moved_for,
  answer_at,
  moved_by,
  asked_bytes,
  moved_bytes,
  logged_bytes,
}
use Rattle.demands.proofs.KeptLaws.{by_ready, next_shaped}
use Rattle.demands.proofs.TransferLaws.{rule_request}

-- bytes in two parts
pub further_none : (b : Byte) → further 0 b ≡ b
further_none b =
    λ i. record { direction = b.direction; space = b.space; address = add-zero b.address i; offset = add-zero b.offset i }

pub further_more : (n : ℕ) (b : Byte) → further n (further 1 b) ≡ further (suc n) b
further_more n b =
    let a : b.address + 1 + n ≡ b.address + suc n = omega arith in
    let o : b.offset + 1 + n ≡ b.offset + suc n = omega arith in
    λ i. record { direction = b.direction; space = b.space; address = a i; offset = o i }

pub in_parts : (n k : ℕ) (b : Byte) → bytes_from (n + k) b ≡ bytes_from n b ++ bytes_from k (further n b)
in_parts zero k b = rw (zero-add k, further_none b)
in_parts (suc n) k b = rw (suc-add n k, in_parts n k (further 1 b), further_more n b)

pub how_many : (n : ℕ) (b : Byte) → length (bytes_from n b) ≡ n
how_many zero b = refl
how_many (suc n) b = ap suc (how_many n (further 1 b))

-- a request is the bytes of its next cycle and those that are left after it
rest_bytes : (q : Request) (c : Cycle) → Leaves q c → bytes_from c.rest.left (further c.bytes (first_byte q)) ≡ request_bytes c.rest
rest_bytes q c k =
    by_test (eqb c.rest.left 0)
    (λ t. rw (eqb-true c.rest.left 0 t))
    (λ f. ap (λ (r : Request). bytes_from c.rest.left (first_byte r)) (sym (k.onward (omega (arith, eqb-false c.rest.left 0 f)))))

abbrev cycle_byte : Request → Cycle → Byte
cycle_byte q c = record { direction = q.direction; space = q.space; address = c.address; offset = q.offset }

cycle_parts : (q : Request) (c : Cycle) → Leaves q c → request_bytes q ≡ bytes_from c.bytes (cycle_byte q c) ++ request_bytes c.rest
cycle_parts q c k =
    let e : q.left ≡ c.bytes + c.rest.left = omega (arith, k.most, k.left) in
    rw k.address
    (ap (λ (n : ℕ). bytes_from n (first_byte q)) e
    ∙ in_parts c.bytes c.rest.left (first_byte q)
    ∙ ap (λ (x : List Byte). bytes_from c.bytes (first_byte q) ++ x) (rest_bytes q c k))

-- what an act asks for and moves, for one level, leaves the order of its bytes
abbrev Flows : List Byte → List Byte → List Byte → List Byte → Type 0
Flows before new gone later = before ++ new ≡ gone ++ later

still : (before later : Request) → later ≡ before → Flows (request_bytes before) [] [] (request_bytes later)
still before later e = append-nil (request_bytes before) ∙ ap request_bytes (sym e)

module _ (setup : Setup) (framed : is_framed setup ≡ true) (ch : Channel) (shaped : Shaped ch) (s : Sound setup ch) (l : ℕ) where
  -- the level's bytes before and after a step, whatever it does
  abbrev StepFlows : Plan → Type 0
  StepFlows p =
      Flows (request_bytes (request_of ch l)) [] (moved_for ch l (advanced_by setup ch p).answer) (request_bytes (request_of (advanced_by setup ch p).channel l))

  cycle_flows : (o : ℕ) → act_plan setup ch ≡ plan.Cycle o → StepFlows (plan.Cycle o)
  unfolding cycle_turn cycle_entry
  cycle_flows o e =
      let p = says setup ch (plan.Cycle o) e in
      let q = request_of ch o in
      let c = next_cycle setup ch o in
      let asks : has_request ch.left o ≡ true = rw p.1 in
      let k = leaves setup framed ch shaped s o p.0 asks p.2 in
      let r = rule_request (ended_at setup ch o) l ∙ ended_request (ending_at (route_at setup ch o) ch c) (moved_at setup ch o) o l in
      by_test (eqb o l)
      (λ t.
      let same : l ≡ o = sym (eqb-true o l t) in
      let later = r ∙ here setup framed ch shaped s o p.0 asks p.2 l same in
      rw t
      (append-nil (request_bytes (request_of ch l))
      ∙ ap (λ (x : ℕ). request_bytes (request_of ch x)) same
      ∙ cycle_parts q c k
      ∙ ap (λ (x : List Byte). bytes_from c.bytes (cycle_byte q c) ++ x) (sym (ap request_bytes later))))
      (λ f.
      let n = eqb-false o l f in
      rw f (still (request_of ch l) _ (r ∙ other setup framed ch shaped s o p.0 asks p.2 l (λ c. n (sym c)))))

  act_flows : (p : Plan) → act_plan setup ch ≡ p → StepFlows p
  unfolding grant_turn granted leave_turn freed
  act_flows plan.Idle e = still (request_of ch l) (request_of ch l) refl
  act_flows (plan.Refused why) e = still (request_of ch l) (request_of ch l) refl
  act_flows (plan.Grant w) e = still (request_of ch l) _ (rule_request (granted ch w) l)
  act_flows (plan.Leave o) e = still (request_of ch l) _ (rule_request (freed ch ch.inactive) l)
  act_flows (plan.Cycle o) e = cycle_flows o e

step_flows : (setup : Setup) (m : Moment) (l : ℕ) → Shaped m.channel
    → Flows (open_bytes m l) []
    (moved_for m.channel l (step_of setup m.channel no_tally m.slave m.master).answer)
    (open_bytes (next setup m steps) l)
unfolding step_of
step_flows setup m l k =
    let ch = m.channel in
    by_ready setup m
    (λ r.
    rw (plan_ready setup ch (length m.slave) (length m.master) r)
    (act_flows setup r.framed ch k (sound_is setup ch r.sound) l (act_plan setup ch) refl))
    (λ why e. rw e (still (request_of ch l) (request_of ch l) refl))

-- an accepted post: its level had nothing open, and the others are as they were
posted_flows : (setup : Setup) (ch : Channel) (p : Order) (l : ℕ) → Shaped ch → Allowed setup ch p
    → Flows (request_bytes (request_of ch l)) (cond (eqb p.level l) (request_bytes (request_in p)) []) [] (request_bytes (request_of (posted ch p) l))
unfolding posted
posted_flows setup ch p l shaped ok =
    let r = rule_request (with_request ch p.level (request_in p)) l in
    by_test (eqb p.level l)
    (λ t.
    let same : l ≡ p.level = sym (eqb-true p.level l t) in
    let small = (level_facts_of setup ok.framed p.level ok.present).1 in
    let none : (request_of ch l).left ≡ 0 =
    eqb-true _ 0 (by_test (eqb (request_of ch l).left 0) (λ z. z) (λ n. absurd (false≢true (sym ok.none ∙ rw (← same, n))))) in
    let k = r ∙ ap (request_of (with_request ch p.level (request_in p))) same ∙ request_same ch p.level (request_in p) shaped (omega (arith, small)) in
    rw (t, none) (sym (ap request_bytes k)))
    (λ f.
    let n = eqb-false p.level l f in
    rw f (still (request_of ch l) _ (r ∙ request_other ch p.level l (request_in p) (λ c. n (sym c)))))

post_flows : (setup : Setup) (m : Moment) (l : ℕ) (p : Order) → Shaped m.channel
    → Flows (open_bytes m l) (asked_by setup m l (posts p)) [] (open_bytes (next setup m (posts p)) l)
unfolding post_of
post_flows setup m l p k =
    by_test (is_accepted (post_verdict setup m.channel p))
    (λ t. rw t (posted_flows setup m.channel p l k (allowed setup m.channel p (accepted_is _ t))))
    (λ f. rw f (still (request_of m.channel l) (request_of m.channel l) refl))

-- what later acts move follows what an act moved
joined : {A : Type 0} (before new gone mid later went last : List A) → before ++ new ≡ gone ++ mid → mid ++ later ≡ went ++ last
    → before ++ (new ++ later) ≡ gone ++ went ++ last
joined before new gone mid later went last e f =
    sym (append_assoc before new later)
    ∙ ap (λ (x : List _). x ++ later) e
    ∙ append_assoc gone mid later
    ∙ ap (λ (x : List _). gone ++ x) f
    ∙ sym (append_assoc gone went last)

act_flows_on : (setup : Setup) (m : Moment) (l : ℕ) (a : Act) → Shaped m.channel
    → Flows (open_bytes m l) (asked_by setup m l a) (moved_by setup m l a) (open_bytes (next setup m a) l)
act_flows_on setup m l (posts p) k = post_flows setup m l p k
act_flows_on setup m l steps k = step_flows setup m l k

-- Demand 3, the bytes. From any start, after any posts and steps, of every level: the bytes of all its cycles in log order, followed by its open ones,
-- are exactly those that were open at the start, followed by those of its accepted posts in posting order.
pub in_order : (setup : Setup) (m : Moment) (l : ℕ) (acts : List Act) → Shaped m.channel
    → open_bytes m l ++ asked_bytes setup m l acts ≡ moved_bytes setup m l acts ++ open_bytes (moment_after setup m acts) l
in_order setup m l [] k = append-nil (open_bytes m l)
in_order setup m l (a ∷ acts) k =
    joined (open_bytes m l) (asked_by setup m l a) (moved_by setup m l a) (open_bytes (next setup m a) l) (asked_bytes setup (next setup m a) l acts)
    (moved_bytes setup (next setup m a) l acts) (open_bytes (moment_after setup (next setup m a) acts) l) (act_flows_on setup m l a k)
    (in_order setup (next setup m a) l acts (next_shaped setup m a k))

-- the log alone shows how many bytes were moved
answer_logged : (ch : Channel) (l : ℕ) (answer : Result Entry Refusal) (log : List Entry)
    → logged_bytes l (added answer log) ≡ length (moved_for ch l answer) + logged_bytes l log
answer_logged ch l (Ok (Idle clock)) log = sym (zero-add (logged_bytes l log))
answer_logged ch l (Ok (Grant clock level)) log = sym (zero-add (logged_bytes l log))
answer_logged ch l (Ok (Release clock level hold)) log = sym (zero-add (logged_bytes l log))
answer_logged ch l (Err why) log = sym (zero-add (logged_bytes l log))
answer_logged ch l (Ok (CycleLine entry)) log =
    by_test (eqb entry.level l) (λ t. rw (t, how_many entry.bytes _)) (λ f. rw f)

pub log_counts : (setup : Setup) (m : Moment) (l : ℕ) (acts : List Act) → logged_bytes l (log_of setup m acts) ≡ length (moved_bytes setup m l acts)
log_counts setup m l [] = refl
log_counts setup m l (posts p ∷ acts) = log_counts setup (next setup m (posts p)) l acts
log_counts setup m l (steps ∷ acts) =
    answer_logged m.channel l (answer_at setup m) (log_of setup (next setup m steps) acts)
    ∙ ap (λ (n : ℕ). length (moved_by setup m l steps) + n) (log_counts setup (next setup m steps) l acts)
    ∙ sym (length-append (moved_by setup m l steps) (moved_bytes setup (next setup m steps) l acts))

-- "per level, bytes asked = bytes moved + bytes open", with what was open at the start counted as asked, and the bytes moved added up from the log
pub sums : (setup : Setup) (m : Moment) (l : ℕ) (acts : List Act) → Shaped m.channel
    → (request_of m.channel l).left + length (asked_bytes setup m l acts)
    ≡ logged_bytes l (log_of setup m acts) + (request_of (moment_after setup m acts).channel l).left
sums setup m l acts k =
    let e = ap (λ (x : List Byte). length x) (in_order setup m l acts k) in
    let a = length-append (open_bytes m l) (asked_bytes setup m l acts) in
    let b = length-append (moved_bytes setup m l acts) (open_bytes (moment_after setup m acts) l) in
    let c = how_many (request_of m.channel l).left (first_byte (request_of m.channel l)) in
    let d = how_many (request_of (moment_after setup m acts).channel l).left (first_byte (request_of (moment_after setup m acts).channel l)) in
    omega (arith, e, a, b, c, d, log_counts setup m l acts)
