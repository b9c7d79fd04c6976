-- The text of a line: a letter, numbers in decimal, each after a blank, and the end of the line.
use Rattle.std.specs.Prelude.{ℕ, zero, suc, ◌+◌, ◌/◌, ◌%◌, List, [], ◌∷◌, ◌++◌, Bool, cond, length, get_or, ltb, leb}
use Rattle.std.proofs.lemmas.List.Edits.{sets}

-- the decimal digits of n, of which at most `left` follow the first
abbrev pub digits : ℕ → ℕ → List ℕ
digits zero n = (48 + n % 10) ∷ []
digits (suc left) n = cond (ltb n 10) ((48 + n) ∷ []) (digits left (n / 10) ++ ((48 + n % 10) ∷ []))

-- a blank and a number up to 4,294,967,295
abbrev pub field : ℕ → List ℕ
field n = 32 ∷ digits 9 n

-- the fields of `left` numbers, from place i on
abbrev pub fields_from : List ℕ → ℕ → ℕ → List ℕ
fields_from numbers i zero = []
fields_from numbers i (suc left) = field (get_or numbers i 0) ++ fields_from numbers (suc i) left

-- the text of a line with all the numbers of a list
abbrev pub line_text : ℕ → List ℕ → List ℕ
line_text letter numbers = letter ∷ (fields_from numbers 0 (length numbers) ++ (10 ∷ []))

-- a line is written where there is room for the longest of them; otherwise nothing is written, and the place stays
abbrev pub has_room : ℕ → ℕ → Bool
has_room size at = leb (at + 96) size

abbrev pub has_room_in : List ℕ → ℕ → Bool
has_room_in out at = has_room (length out) at

unfoldable pub place_after : List ℕ → ℕ → List ℕ → ℕ
place_after out at text = cond (has_room_in out at) (at + length text) at

unfoldable pub out_after : List ℕ → ℕ → List ℕ → List ℕ
out_after out at text = cond (has_room_in out at) (sets out at text) out

-- a number by itself, in decimal: written where there is room for the longest, ten digits; otherwise nothing is written, and the place stays
abbrev pub has_digit_room : ℕ → ℕ → Bool
has_digit_room size at = leb (at + 10) size

unfoldable pub put_decimal : List ℕ → ℕ → ℕ → ℕ
put_decimal out at n = cond (has_digit_room (length out) at) (at + length (digits 9 n)) at

unfoldable pub put_decimal_after : List ℕ → ℕ → ℕ → List ℕ
put_decimal_after out at n = cond (has_digit_room (length out) at) (sets out at (digits 9 n)) out
