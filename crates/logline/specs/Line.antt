-- Document 01, "One sheet, whole": "The second field is the clock afterwards."
use Rattle.std.specs.Prelude.{ℕ, List, [], ◌∷◌}
use Rattle.act.specs.declared.CycleEntry.{CycleEntry}
use Rattle.act.specs.declared.Entry.{Entry}
use Rattle.act.specs.Entry.{cycle_fields, letter_of, fields_of}
use Rattle.logline.specs.Text.{line_text}

-- the letter of an entry and its numbers
abbrev pub cycle_text : CycleEntry → List ℕ
cycle_text e = line_text 67 (cycle_fields e)

abbrev pub entry_text : Entry → List ℕ
entry_text entry = line_text (letter_of entry) (fields_of entry)

-- "P: level, refusal or 0."
abbrev pub post_text : ℕ → ℕ → ℕ → List ℕ
post_text clock level number = line_text 80 (clock ∷ level ∷ number ∷ [])

-- "X clock 6 (the event ends there, the next goes on)"
abbrev pub stop_text : ℕ → List ℕ
stop_text clock = line_text 88 (clock ∷ 6 ∷ [])

-- "E: bytes moved."
abbrev pub end_text : ℕ → ℕ → List ℕ
end_text clock bytes = line_text 69 (clock ∷ bytes ∷ [])

-- "A bad sheet prints only S, number, place."
abbrev pub fault_text : ℕ → ℕ → List ℕ
fault_text number place = line_text 83 (number ∷ place ∷ [])
