-- Document 02, CR 3: the answer in words, for the owner of a card: "event 3, 630 ns, level 9: outranked; level 3 wins next".
use Rattle.std.specs.Prelude.{ℕ, List, [], ◌∷◌, ◌++◌}
use Prim.Native.Char.{code}
use Prim.Native.String.{String, [] as empty, ◌∷◌ as ◌∷ˢ◌}
use Rattle.logline.specs.Text.{digits}
use Rattle.why.specs.declared.Reason.{Reason}
use Rattle.why.specs.declared.Reason.TheVariants as reason

-- the bytes of words
abbrev pub spelled : String → List ℕ
spelled empty = []
spelled (c ∷ˢ text) = code c ∷ spelled text

-- the bytes of words that end a line
abbrev pub ending : String → List ℕ
ending text = spelled text ++ (10 ∷ [])

-- words and then a number
abbrev pub counted : List ℕ → ℕ → List ℕ
counted words n = words ++ digits 9 n

-- what is said of a level, by the reason
abbrev pub reason_text : Reason → List ℕ
reason_text reason.NotPresent = ending ": not present"
reason_text reason.NoRequest = ending ": no request"
reason_text reason.Owns = ending ": owns the channel"
reason_text reason.Inactive = ending ": inactive; others go first"
reason_text (reason.Holds owner) = counted (spelled ": waits; level ") owner ++ ending " still holds"
reason_text (reason.Outranked w) = counted (spelled ": outranked; level ") w ++ ending " wins next"
reason_text reason.WinsNext = ending ": wins next"

-- the line of an answer: after which event, counted from 1, at what clock, of which level
abbrev pub told_text : ℕ → ℕ → ℕ → Reason → List ℕ
told_text event clock level r =
    counted (spelled "event ") event ++ (counted (spelled ", ") clock ++ (counted (spelled " ns, level ") level ++ reason_text r))
