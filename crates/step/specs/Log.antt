-- Document 01, "One step" and "One sheet, whole": a run that writes the log line of each of its steps into a lent buffer, as far as this has room.
use Rattle.refusal.specs.declared.Refusal.{Refusal}
use Rattle.std.specs.Prelude.{ℕ, zero, suc, cond, List, length, ltb, Err, Ok, Result}
use Rattle.basics.specs.Limits.{steps_most}
use Rattle.refusal.specs.Refusal.{accepted, refusal_by}
use Rattle.frame.specs.declared.Setup.{Setup}
use Rattle.act.specs.declared.Entry.{Entry}
use Rattle.logline.specs.Line.{entry_text}
use Rattle.logline.specs.Text.{has_room_in, place_after, out_after}
use Rattle.step.specs.declared.Logged.{Logged}
use Rattle.step.specs.Plan.{ready_verdict}
use Rattle.step.specs.Run.{World, stopped, step_in, world_after}

-- the lent buffer, and where the next log line goes
pub record Page : Type 0 where
  pub out : List ℕ
  pub at : ℕ

abbrev pub page : List ℕ → ℕ → Page
page out at = record { out = out; at = at }

-- the page with the log line of an entry
unfoldable pub page_after : Page → Entry → Page
page_after p entry =
    record { out = out_after p.out p.at (entry_text entry); at = place_after p.out p.at (entry_text entry) }

-- what a logged run gives back, and the stores and the buffer then
pub record LoggedOut : Type 0 where
  pub result : Logged
  pub slave : List ℕ
  pub master : List ℕ
  pub out : List ℕ

abbrev pub closed : Result Unit Refusal → ℕ → World → Page → LoggedOut
closed verdict steps w p =
    record {
      result = record { ran = (stopped verdict steps w).result; end = p.at };
      slave = w.slave;
      master = w.master;
      out = p.out;
    }

-- "stops before a refused one"
abbrev pub log_on : Result Entry Refusal → (Entry → LoggedOut) → (Result Unit Refusal → LoggedOut) → LoggedOut
log_on (Ok entry) on stop = on entry
log_on (Err why) on stop = stop (Err why)

-- the steps that are left, after `done` of them: each is taken only where there is room for its line, and then writes it
unfoldable pub log_from : Setup → ℕ → ℕ → World → Page → LoggedOut
log_from setup zero done w p = closed accepted done w p
log_from setup (suc left) done w p =
    cond (has_room_in p.out p.at)
    (log_on (step_in setup w).answer (λ (entry : Entry). log_from setup left (suc done) (world_after setup w) (page_after p entry))
    (λ (verdict : Result Unit Refusal). closed verdict done w p))
    (closed accepted done w p)

-- the refusals are those of a run: "9 first, then 8, then 7"
abbrev pub log_by : Setup → Result Unit Refusal → ℕ → World → Page → LoggedOut
log_by setup (Err why) budget w p = closed (Err why) 0 w p
log_by setup (Ok _) budget w p = cond (ltb steps_most budget) (closed (Err (refusal_by 7)) 0 w p) (log_from setup budget 0 w p)

unfoldable pub log_run_of : Setup → ℕ → World → Page → LoggedOut
log_run_of setup budget w p = log_by setup (ready_verdict setup w.channel (length w.slave) (length w.master)) budget w p
