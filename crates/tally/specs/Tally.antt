-- Document 01, "One step": "There is a tally the host lends: grants, cycles, bytes moved, longest hold (the greatest release clock less asked time, over
-- releases that had one). .. Each step, in a run too, adds to the tally by that entry; a figure stops at 4,294,967,295."
use Rattle.std.specs.Prelude.{ℕ, ◌+◌, min, max, None, Option, Some}
use Rattle.act.specs.declared.Ending.{Ending}
use Rattle.act.specs.declared.Ending.TheVariants.{Kept, Released, Marked}
use Rattle.act.specs.declared.Entry.{Entry}
use Rattle.act.specs.declared.Entry.TheVariants.{Idle, Grant, Cycle, Release}
use Rattle.tally.specs.declared.Tally.{Tally}

-- "a figure stops at 4,294,967,295"
abbrev pub add_capped : ℕ → ℕ → ℕ
add_capped a b = min (a + b) 4294967295

abbrev pub larger_of : ℕ → ℕ → ℕ
larger_of a b = max a b

-- a tally of nothing
abbrev pub no_tally : Tally
no_tally = record { grants = 0; cycles = 0; bytes = 0; hold = 0 }

-- what a release adds to the longest hold: without an asked time nothing, which 0 is, as no hold is below it
abbrev pub hold_figure : Option ℕ → ℕ
hold_figure None = 0
hold_figure (Some time) = time

abbrev pub ending_figure : Ending → ℕ
ending_figure Kept = 0
ending_figure (Released hold) = hold_figure hold
ending_figure (Marked time) = time

-- "grants": one more
unfoldable pub add_grant : Tally → Tally
add_grant t = record { grants = add_capped t.grants 1; cycles = t.cycles; bytes = t.bytes; hold = t.hold }

-- "cycles, bytes moved": one more cycle, of these bytes; and "longest hold" where it ends in a release
unfoldable pub add_cycle : Tally → ℕ → Ending → Tally
add_cycle t bytes ending =
    record {
      grants = t.grants;
      cycles = add_capped t.cycles 1;
      bytes = add_capped t.bytes bytes;
      hold = larger_of t.hold (ending_figure ending);
    }

-- "longest hold": a release without a request
unfoldable pub add_release : Tally → Option ℕ → Tally
add_release t hold = record { grants = t.grants; cycles = t.cycles; bytes = t.bytes; hold = larger_of t.hold (hold_figure hold) }

-- "Each step .. adds to the tally by that entry"
abbrev pub add_entry : Tally → Entry → Tally
add_entry t (Idle clock) = t
add_entry t (Grant clock level) = add_grant t
add_entry t (Cycle e) = add_cycle t e.bytes e.ending
add_entry t (Release clock level hold) = add_release t hold
