-- Document 01, "One sheet, whole": what the program sheetrun prints for the bytes of a sheet.
use Rattle.act.specs.declared.Entry.{Entry}
use Rattle.refusal.specs.declared.Refusal.{Refusal}
use Rattle.std.specs.Prelude.{ℕ, zero, suc, List, [], ◌∷◌, ◌++◌, length, Ok, Err, Result}
use Rattle.refusal.specs.Refusal.{refusal_number, verdict_number}
use Rattle.number.specs.Number.{read_number}
use Rattle.frame.specs.declared.Setup.{Setup}
use Rattle.frame.specs.Find.{slave_store_length}
use Rattle.channel.specs.declared.Judged.{Judged}
use Rattle.channel.specs.Channel.{fresh_channel}
use Rattle.post.specs.Post.{post_of}
use Rattle.tally.specs.Tally.{no_tally}
use Rattle.step.specs.Run.{World, world, step_in, world_after}
use Rattle.logline.specs.Line.{entry_text, post_text, stop_text, end_text, fault_text}
use Rattle.numbers.specs.Numbers.{Part, numbers_of}
use Rattle.sheet.specs.Sheet.{sheet}
use Rattle.sheetlist.specs.declared.Event.{Event}
use Rattle.sheetlist.specs.declared.Event.TheVariants.{Steps, Post}
use Rattle.sheetlist.specs.Held.{setup_of, event_count, event_of}
use Rattle.sheethost.specs.Host.{master_store, slave_store}

-- what is printed, and the channel, the tally and the stores after it
pub record Printed : Type 0 where
  pub text : List ℕ
  pub world : World

abbrev pub printed : List ℕ → World → Printed
printed text w = record { text = text; world = w }

-- a step has the line of its entry; "X clock 6 (the event ends there, the next goes on)"
abbrev pub step_then : Result Entry Refusal → World → Printed → Printed
step_then (Ok entry) w rest = printed (entry_text entry ++ rest.text) rest.world
step_then (Err why) w rest = printed (stop_text w.channel.clock) w

abbrev pub steps_print : Setup → ℕ → World → Printed
steps_print setup zero w = printed [] w
steps_print setup (suc left) w = step_then (step_in setup w).answer w (steps_print setup left (world_after setup w))

-- "P: level, refusal or 0.", after "the clock afterwards"
abbrev pub judged_print : ℕ → Judged → World → Printed
judged_print level j w =
    printed (post_text j.channel.clock level (verdict_number j.verdict)) (world j.channel w.tally w.slave w.master)

abbrev pub event_print : Setup → Event → World → Printed
event_print setup (Post p) w = judged_print p.level (post_of setup w.channel p) w
event_print setup (Steps steps) w = steps_print setup steps w

-- the events in their order; then "E: bytes moved."
abbrev pub events_print : Setup → List Event → World → List ℕ
events_print setup [] w = end_text w.channel.clock w.tally.bytes
events_print setup (e ∷ events) w = (event_print setup e w).text ++ events_print setup events (event_print setup e w).world

-- the channel, the tally and the stores after events
abbrev pub after_events : Setup → List Event → World → World
after_events setup [] w = w
after_events setup (e ∷ events) w = after_events setup events (event_print setup e w).world

-- `left` events of a list, from the i-th on
abbrev pub listed_events : List ℕ → ℕ → ℕ → List Event
listed_events list i zero = []
listed_events list i (suc left) = event_of list i ∷ listed_events list (suc i) left

abbrev pub events_of : List ℕ → List Event
events_of list = listed_events list 0 (event_count list)

-- the fresh channel, a tally of nothing, "slave store zero", and "Master store: 4,096 bytes"
abbrev pub begun : Setup → World
begun setup = world fresh_channel no_tally (slave_store (slave_store_length setup.slaves)) (master_store 4096)

-- the numbers of a good sheet
abbrev pub list_print : List ℕ → List ℕ
list_print list = events_print (setup_of list 4096) (events_of list) (begun (setup_of list 4096))

-- "A bad sheet prints only S, number, place."
abbrev pub verdict_print : Part → List ℕ → List ℕ
verdict_print (Ok end) list = list_print list
verdict_print (Err f) list = fault_text (refusal_number f.why) f.place

unfoldable pub sheet_print : List ℕ → List ℕ
sheet_print bytes = verdict_print (sheet (read_number bytes) (length bytes)) (numbers_of bytes)
