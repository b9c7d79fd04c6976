-- A row and a request by their numbers, one after the other; where one of these isn't there, none was read.
use Rattle.std.specs.Prelude.{ℕ, Ok}
use Rattle.numbers.specs.Numbers.{Reading, ◌>>=◌, passed, numbers}
use Rattle.frame.specs.declared.LevelRow.{LevelRow}
use Rattle.frame.specs.declared.SlaveRow.{SlaveRow}
use Rattle.frame.specs.Kind.{level_from, slave_from}
use Rattle.channel.specs.declared.Request.{Request}
use Rattle.image.specs.Read.{Read, request_from}

abbrev pub read_level : Reading → ℕ → Read LevelRow
read_level src at = passed src 3 at >>= λ end. Ok (level_from (numbers src 3 at), end)

abbrev pub read_slave : Reading → ℕ → Read SlaveRow
read_slave src at = passed src 5 at >>= λ end. Ok (slave_from (numbers src 5 at), end)

abbrev pub read_request : Reading → ℕ → ℕ → Read Request
read_request src left at = passed src 4 at >>= λ end. Ok (request_from left (numbers src 4 at), end)

-- what was read, made into something else
abbrev pub made : {A B : Type 0} → (A → B) → Read A → Read B
made f read = read >>= λ x. Ok (f x.0, x.1)
