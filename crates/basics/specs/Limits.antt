-- The numbers of document 01 that bound something, each once. Some are equal and mean different things: a channel has a place for each
-- level, a table of a set-up a place for each row. The code has them under the same names, in capitals.
use Rattle.std.specs.Prelude.{ℕ}

-- "an inactive mark per level", "levels 0 to 15": the places of a channel's arrays, one for each level
abbrev pub places : ℕ
places = 16

-- "The channel is arbitrating, or granted to one level.": what stands for the owner while there is none, the place past the last
abbrev pub no_owner : ℕ
no_owner = places

-- "1 to 16 level rows, 1 to 16 slave rows": the places of a table of rows
abbrev pub rows_most : ℕ
rows_most = 16

-- what a search among the rows gives where no row is meant, the place past the last
abbrev pub no_row : ℕ
no_row = rows_most

-- "Level row: level 0 to 15 .., the last row being 15 (the system master and default owner)": the highest level
abbrev pub system_master : ℕ
system_master = 15

-- "a clock in ns, up to 4,000,000,000"
abbrev pub clock_limit : ℕ
clock_limit = 4000000000

-- "A row ends at or below 65,536 in I/O and 16,777,216 in memory."
abbrev pub io_end : ℕ
io_end = 65536

abbrev pub memory_end : ℕ
memory_end = 16777216

-- "a master store length of 1 to 65,536"; "All lengths together are at most 65,536."
abbrev pub store_most : ℕ
store_most = 65536

-- "A request is .. length 1 to 4,096"
abbrev pub request_most : ℕ
request_most = 4096

-- "A run takes 0 to 65,535 steps"; "An event is 0 and a step count 1 to 65,535"
abbrev pub steps_most : ℕ
steps_most = 65535

-- "1, level, direction, space, address, length, offset": the most numbers that are read together, those of a post; no row has more
abbrev pub numbers_most : ℕ
numbers_most = 6

-- "event count, 0 to 1,024"
abbrev pub events_most : ℕ
events_most = 1024
