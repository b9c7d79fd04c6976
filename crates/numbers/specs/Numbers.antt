-- Document 01, "The job sheet": "a row of numbers". What stands in it is said once, over a source of numbers, which is the
-- bytes of the row or a list of its numbers.
use Rattle.std.specs.Prelude.{ℕ, zero, suc, ◌+◌, min, cond, ◌&&◌, List, [], ◌∷◌, ◌++◌, length, get_or, replicate, leb, ltb, Result, Ok, Err}
use Rattle.std.proofs.lemmas.List.Edits.{sets}
use Rattle.refusal.specs.declared.Refusal.{Refusal}
use Rattle.refusal.specs.Refusal.{refusal_number, refusal_by}
use Rattle.basics.specs.Limits.{numbers_most}
use Rattle.number.specs.declared.Fault.{Fault}
use Rattle.number.specs.Number.{NumberRead, NumberWritten, Number, fault, read_number, bytes_of, whole_at, whole_after}
use Rattle.numbers.specs.declared.Source.{Source}
use Rattle.numbers.specs.declared.Source.TheVariants as source
use Rattle.numbers.specs.declared.Taken.{Taken}

-- a part of a row as its judge finds it: the place after it, or its first fault
abbrev pub Part : Type 0
Part = Result ℕ Fault

-- a part in the paper's numbers: 0 and the place after it, or the refusal and its place
abbrev pub part_numbers : Part → List ℕ
part_numbers (Ok at) = 0 ∷ at ∷ []
part_numbers (Err f) = refusal_number f.why ∷ f.place ∷ []

-- what stands at a place of a row: `read_number` says it of bytes, and this of a list. "10: the sheet ends .. before [a number] that is due"
unfoldable pub list_at : List ℕ → ℕ → NumberRead
list_at list at = cond (ltb at (length list)) (Number (get_or list at 0) (at + 1)) (Err (fault (refusal_by 10) at))

abbrev pub Reading : Type 0
Reading = ℕ → NumberRead

-- the bytes or the list, and how long that is
abbrev pub number_at : Source → Reading
number_at (source.Bytes bytes) = read_number bytes.now
number_at (source.List list) = list_at list.now

abbrev pub length_of : Source → ℕ
length_of (source.Bytes bytes) = length bytes.now
length_of (source.List list) = length list.now

-- "Numbers are read in order and the first fault counts": go on from what is good, and from a number
infixl 10 ◌>>=◌
abbrev pub ◌>>=◌ : {A B : Type 0} → Result A Fault → (A → Result B Fault) → Result B Fault
(Ok x) >>= f = f x
(Err x) >>= f = Err x

abbrev pub with_number : NumberRead → (ℕ → ℕ → Part) → Part
with_number (Number v next) f = f v next
with_number (Err x) f = Err x

-- "a count, edition or event kind is judged when read .. any other fault but 17 at the number itself"
abbrev pub in_range : ℕ → ℕ → Refusal → ℕ → NumberRead → NumberRead
in_range low high why at (Number v next) = cond (leb low v && leb v high) (Number v next) (Err (fault why at))
in_range low high why at (Err f) = Err f

unfoldable pub number_between : Reading → ℕ → ℕ → Refusal → ℕ → NumberRead
number_between src low high why at = in_range low high why at (src at)

-- n numbers from a place on: the place after them, or the first fault; and the numbers, as far as they can be read
abbrev pub passed : Reading → ℕ → ℕ → Part
passed src zero at = Ok at
passed src (suc n) at = with_number (src at) (λ v next. passed src n next)

abbrev pub followed : NumberRead → (ℕ → List ℕ) → List ℕ
followed (Number v next) f = v ∷ f next
followed (Err x) f = []

abbrev pub numbers : Reading → ℕ → ℕ → List ℕ
numbers src zero at = []
numbers src (suc n) at = followed (src at) (λ next. numbers src n next)

-- up to six of them, in six places; those after them hold 0
abbrev pub padded : List ℕ → List ℕ
padded row = sets (replicate numbers_most 0) 0 row

abbrev pub taken : Reading → ℕ → ℕ → Taken
taken src n at = record { values = padded (numbers src n at); part = passed src n at }

unfoldable pub numbers_at : Reading → ℕ → ℕ → Taken
numbers_at src n at = taken src (min n numbers_most) at

-- the numbers of bytes, up to the end or to a fault; and the bytes of a list of numbers
unfoldable pub numbers_of : List ℕ → List ℕ
numbers_of bytes = numbers (read_number bytes) (length bytes) 0

abbrev pub all_bytes : List ℕ → List ℕ
all_bytes [] = []
all_bytes (v ∷ list) = bytes_of v ++ all_bytes list

-- how many they are
abbrev pub count_numbers : List ℕ → ℕ
count_numbers bytes = length (numbers_of bytes)

abbrev pub bytes_size : List ℕ → ℕ
bytes_size list = length (all_bytes list)

-- "17: the lent result is too short"; "a refusal writes nothing": the one into a list, the other into bytes
abbrev pub copy_numbers : List ℕ → List ℕ → NumberWritten
copy_numbers bytes out = whole_at out 0 (numbers_of bytes)

abbrev pub copy_numbers_after : List ℕ → List ℕ → List ℕ
copy_numbers_after bytes out = whole_after out 0 (numbers_of bytes)

abbrev pub write_numbers : List ℕ → List ℕ → ℕ → NumberWritten
write_numbers list out at = whole_at out at (all_bytes list)

abbrev pub write_numbers_after : List ℕ → List ℕ → ℕ → List ℕ
write_numbers_after list out at = whole_after out at (all_bytes list)
