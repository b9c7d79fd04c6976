-- The sheet of document 01 as a history of posts and steps: where it starts, its acts, and the entries of its log.
use Rattle.std.specs.Prelude.{ℕ, List, [], ◌∷◌, ◌++◌, replicate, None}
use Rattle.channel.specs.Channel.{fresh_channel}
use Rattle.act.specs.declared.Ending.{Ending}
use Rattle.act.specs.declared.Ending.TheVariants.{Kept, Released, Marked}
use Rattle.act.specs.declared.Entry.{Entry}
use Rattle.act.specs.declared.Entry.TheVariants.{Grant, Cycle}
use Rattle.demands.specs.History.{Moment, Act, posts, steps, no_tally}
use Rattle.demands.specs.Calls.{Call, post, step, run}
use Rattle.demands.specs.Bytes.{Byte, bytes_from}
use Rattle.sheethost.specs.Host.{master_store}
use Rattle.examples.specs.Sheet.{setup, first, second}

abbrev pub slave : List ℕ
slave = replicate 16 0

abbrev pub master : List ℕ
master = master_store 4096

abbrev pub begin : Moment
begin = record { channel = fresh_channel; slave = slave; master = master }

-- the sheet's events: a post, two steps, a post that comes while level 3 owns the channel inside a transfer, and seven steps
abbrev pub before : List Act
before = posts first ∷ steps ∷ []

abbrev pub until : List Act
until = posts first ∷ steps ∷ steps ∷ posts second ∷ []

abbrev pub later : List Act
later = steps ∷ steps ∷ steps ∷ steps ∷ steps ∷ steps ∷ steps ∷ []

abbrev pub acts : List Act
acts = until ++ later

-- the same as calls: step by step, and by runs
abbrev pub calls : List (Call setup)
calls =
    post first ∷ step no_tally ∷ step no_tally ∷ post second
    ∷ step no_tally ∷ step no_tally ∷ step no_tally ∷ step no_tally ∷ step no_tally ∷ step no_tally ∷ step no_tally ∷ []

abbrev pub as_runs : List (Call setup)
as_runs = post first ∷ run no_tally 2 ∷ post second ∷ run no_tally 7 ∷ []

-- the seven bytes that level 3 asks for, and the two of level 7
abbrev pub bytes_of3 : List Byte
bytes_of3 = bytes_from 7 (record { direction = 1; space = 1; address = 4097; offset = 0 })

abbrev pub bytes_of7 : List Byte
bytes_of7 = bytes_from 2 (record { direction = 0; space = 1; address = 4096; offset = 16 })

abbrev pub cycle_by : ℕ → ℕ → ℕ → ℕ → ℕ → ℕ → ℕ → Ending → Entry
cycle_by clock l a n d m s ending =
    Cycle (record { clock = clock; level = l; address = a; bytes = n; direction = d; master_lane = m; slave_lane = s; ending = ending })

abbrev pub entries : List Entry
entries =
    Grant 100 3
    ∷ cycle_by 300 3 4097 1 1 1 1 Kept
    ∷ cycle_by 500 3 4098 2 1 2 0 (Marked 200)
    ∷ Grant 630 7
    ∷ cycle_by 830 7 4096 2 0 0 0 (Marked 200)
    ∷ Grant 960 3
    ∷ cycle_by 1160 3 4100 2 1 0 0 Kept
    ∷ cycle_by 1360 3 4102 2 1 2 0 (Released None)
    ∷ Grant 1490 15
    ∷ []
