-- Document 01, "One sheet, whole": a log entry in the paper's letter and numbers; and the hold, which its line does not show.
use Rattle.std.specs.Prelude.{ℕ, List, [], ◌∷◌, ◌++◌, None, Option, Some}
use Rattle.act.specs.declared.Ending.{Ending}
use Rattle.act.specs.declared.Ending.TheVariants.{Kept, Released, Marked}
use Rattle.act.specs.declared.CycleEntry.{CycleEntry}
use Rattle.act.specs.declared.Entry.{Entry}
use Rattle.act.specs.declared.Entry.TheVariants.{Idle, Grant, Cycle, Release}

-- "then 0 kept, 1 released, 2 released and marked"
abbrev pub ending_number : Ending → ℕ
ending_number Kept = 0
ending_number (Released hold) = 1
ending_number (Marked hold) = 2

-- "C: level, address, bytes, direction, first master lane, first slave lane, then .."
unfoldable pub cycle_fields : CycleEntry → List ℕ
cycle_fields e =
    e.clock ∷ e.level ∷ e.address ∷ e.bytes ∷ e.direction ∷ e.master_lane ∷ e.slave_lane ∷ ending_number e.ending ∷ []

-- the letter of the line: I, G, C or R
abbrev pub letter_of : Entry → ℕ
letter_of (Idle clock) = 73
letter_of (Grant clock owner) = 71
letter_of (Cycle e) = 67
letter_of (Release clock level hold) = 82

-- "The second field is the clock afterwards." "G: owner."; "Also R clock level (release without a request), I clock (idle step)"
abbrev pub fields_of : Entry → List ℕ
fields_of (Idle clock) = clock ∷ []
fields_of (Grant clock owner) = clock ∷ owner ∷ []
fields_of (Cycle e) = cycle_fields e
fields_of (Release clock level hold) = clock ∷ level ∷ []

-- "at a release, the clock less the asked time or that there was none"
abbrev pub hold_numbers : Option ℕ → List ℕ
hold_numbers None = []
hold_numbers (Some time) = time ∷ []

abbrev pub ending_hold : Ending → List ℕ
ending_hold Kept = []
ending_hold (Released hold) = hold_numbers hold
ending_hold (Marked time) = time ∷ []

abbrev pub hold_in : Entry → List ℕ
hold_in (Idle clock) = []
hold_in (Grant clock owner) = []
hold_in (Cycle e) = ending_hold e.ending
hold_in (Release clock level hold) = hold_numbers hold

-- "what its sheetrun line shows and, at a release, the clock less the asked time or that there was none"
abbrev pub entry_numbers : Entry → List ℕ
entry_numbers entry = letter_of entry ∷ (fields_of entry ++ hold_in entry)
