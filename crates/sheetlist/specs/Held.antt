-- Document 01, "The job sheet": the set-up and the events that the list of a valid sheet holds. The set-up is the one that the sheet's judge has judged; what
-- the definitions give for a list that no valid sheet has is of no interest.
use Rattle.std.specs.Prelude.{ℕ, zero, suc, ◌+◌, Bool, cond, List, length, get_or, eqb, ltb, Ok, Err}
use Rattle.numbers.specs.Numbers.{Part}
use Rattle.frame.specs.declared.Setup.{Setup}
use Rattle.frame.specs.declared.Order.{Order}
use Rattle.sheet.specs.Sheet.{head_of}
use Rattle.sheetlist.specs.declared.Event.{Event}
use Rattle.sheetlist.specs.declared.Event.TheVariants.{Steps, Post}

-- the set-up; the sheet has no master length, and whoever runs it adds it
unfoldable pub setup_of : List ℕ → ℕ → Setup
setup_of list master = record { levels = (head_of list).setup.levels; slaves = (head_of list).setup.slaves; master = master }

-- "Sheet: edition 1; level count and rows ..; slave count and rows ..; event count .. and events": the event count stands after the rows. Where those
-- are at fault there is none, as after the list's end
abbrev pub place_or : Part → ℕ → ℕ
place_or (Ok at) other = at
place_or (Err f) other = other

unfoldable pub events_from : List ℕ → ℕ
events_from list = place_or (head_of list).part (length list)

unfoldable pub event_count : List ℕ → ℕ
event_count list = get_or list (events_from list) 0

-- "An event is 0 and a step count .., or 1, level, direction, space, address, length, offset": the event at an index
abbrev pub post_at : List ℕ → ℕ → Order
post_at list at =
    record {
      level = get_or list (at + 1) 0;
      direction = get_or list (at + 2) 0;
      space = get_or list (at + 3) 0;
      address = get_or list (at + 4) 0;
      length = get_or list (at + 5) 0;
      offset = get_or list (at + 6) 0;
    }

abbrev pub is_steps : List ℕ → ℕ → Bool
is_steps list at = eqb (get_or list at 0) 0

unfoldable pub event_at : List ℕ → ℕ → Event
event_at list at = cond (is_steps list at) (Steps (get_or list (at + 1) 0)) (Post (post_at list at))

-- the index past it; past the end of the list there is no event to pass
unfoldable pub next_event : List ℕ → ℕ → ℕ
next_event list at = cond (ltb at (length list)) (at + cond (is_steps list at) 2 7) at

-- the events in their order: the first begins after the event count, and each of the others after the one before it
abbrev pub first_event : List ℕ → ℕ
first_event list = events_from list + 1

unfoldable pub event_from : List ℕ → ℕ → ℕ
event_from list zero = first_event list
event_from list (suc i) = next_event list (event_from list i)

unfoldable pub event_of : List ℕ → ℕ → Event
event_of list i = event_at list (event_from list i)
