-- The bytes that a level asks for, those that its cycles move and those that are open, each in order.
use Rattle.refusal.specs.declared.Refusal.{Refusal}
use Rattle.std.specs.Prelude.{ℕ, zero, suc, ◌+◌, Bool, false, cond, ◌&&◌, List, [], ◌∷◌, ◌++◌, eqb, Err, Ok, Result}
use Rattle.refusal.specs.Refusal.{is_accepted}
use Rattle.frame.specs.declared.Setup.{Setup}
use Rattle.channel.specs.declared.Channel.{Channel}
use Rattle.channel.specs.declared.Request.{Request}
use Rattle.channel.specs.Channel.{request_of}
use Rattle.post.specs.Post.{request_in, post_verdict}
use Rattle.act.specs.declared.CycleEntry.{CycleEntry}
use Rattle.act.specs.declared.Entry.{Entry}
use Rattle.act.specs.declared.Entry.TheVariants.{Idle, Grant, Cycle, Release}
use Rattle.step.specs.Step.{step_of}
use Rattle.demands.specs.History.{Moment, Act, posts, steps, no_tally, next}

-- one byte of a request: which way it goes, and its two ends
pub record Byte : Type 0 where
  pub direction : ℕ
  pub space : ℕ
  pub address : ℕ
  pub offset : ℕ

-- "The i-th byte goes with address + i and offset + i."
abbrev pub further : ℕ → Byte → Byte
further i b = record { direction = b.direction; space = b.space; address = b.address + i; offset = b.offset + i }

-- n bytes, one after the other
abbrev pub bytes_from : ℕ → Byte → List Byte
bytes_from zero b = []
bytes_from (suc n) b = b ∷ bytes_from n (further 1 b)

-- the bytes of a request, or of what is left of one
abbrev pub first_byte : Request → Byte
first_byte q = record { direction = q.direction; space = q.space; address = q.address; offset = q.offset }

abbrev pub request_bytes : Request → List Byte
request_bytes q = bytes_from q.left (first_byte q)

-- the open bytes of a level
abbrev pub open_bytes : Moment → ℕ → List Byte
open_bytes m l = request_bytes (request_of m.channel l)

-- an accepted post asks for the bytes of its request
abbrev pub asked_by : Setup → Moment → ℕ → Act → List Byte
asked_by setup m l (posts p) = cond (is_accepted (post_verdict setup m.channel p) && eqb p.level l) (request_bytes (request_in p)) []
asked_by setup m l steps = []

-- a cycle moves the bytes that the log shows, from the address that it shows; the space and the offset are those of its level's request
abbrev pub cycled : CycleEntry → Request → List Byte
cycled entry q =
    bytes_from entry.bytes (record { direction = entry.direction; space = q.space; address = entry.address; offset = q.offset })

abbrev pub carried_in : Channel → Entry → List Byte
carried_in ch (Idle clock) = []
carried_in ch (Grant clock level) = []
carried_in ch (Cycle entry) = cycled entry (request_of ch entry.level)
carried_in ch (Release clock level hold) = []

abbrev pub is_cycle_of : ℕ → Entry → Bool
is_cycle_of l (Idle clock) = false
is_cycle_of l (Grant clock level) = false
is_cycle_of l (Cycle entry) = eqb entry.level l
is_cycle_of l (Release clock level hold) = false

-- what a step moved, and what it moved for one level
abbrev pub carried : Channel → Result Entry Refusal → List Byte
carried ch (Ok entry) = carried_in ch entry
carried ch (Err why) = []

abbrev pub moved_for : Channel → ℕ → Result Entry Refusal → List Byte
moved_for ch l (Ok entry) = cond (is_cycle_of l entry) (carried_in ch entry) []
moved_for ch l (Err why) = []

abbrev pub answer_at : Setup → Moment → Result Entry Refusal
answer_at setup m = (step_of setup m.channel no_tally m.slave m.master).answer

abbrev pub moved_by : Setup → Moment → ℕ → Act → List Byte
moved_by setup m l (posts p) = []
moved_by setup m l steps = moved_for m.channel l (answer_at setup m)

-- over a history: asked in posting order, moved in log order
abbrev pub asked_bytes : Setup → Moment → ℕ → List Act → List Byte
asked_bytes setup m l [] = []
asked_bytes setup m l (a ∷ acts) = asked_by setup m l a ++ asked_bytes setup (next setup m a) l acts

abbrev pub moved_bytes : Setup → Moment → ℕ → List Act → List Byte
moved_bytes setup m l [] = []
moved_bytes setup m l (a ∷ acts) = moved_by setup m l a ++ moved_bytes setup (next setup m a) l acts

-- the bytes of a level's cycles, added up from the log alone
abbrev pub logged_bytes : ℕ → List Entry → ℕ
logged_bytes l [] = 0
logged_bytes l (Idle clock ∷ log) = logged_bytes l log
logged_bytes l (Grant clock level ∷ log) = logged_bytes l log
logged_bytes l (Cycle entry ∷ log) = cond (eqb entry.level l) entry.bytes 0 + logged_bytes l log
logged_bytes l (Release clock level hold ∷ log) = logged_bytes l log
