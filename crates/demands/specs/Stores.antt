-- Where each byte of the stores came from: the last cycle into it, or the start.
use Rattle.std.specs.Prelude.{ℕ, Bool, false, cond, ◌&&◌, List, [], ◌∷◌, get_or, eqb, None, Option, Some}
use Rattle.frame.specs.declared.Setup.{Setup}
use Rattle.frame.specs.Find.{store_place}
use Rattle.demands.specs.History.{Moment, Act, posts, steps, next}
use Rattle.demands.specs.Bytes.{Byte, carried, answer_at}

-- the two stores
pub data Side : Type 0 where
  slave_side : Side
  master_side : Side

abbrev pub across : Side → Side
across slave_side = master_side
across master_side = slave_side

abbrev pub store_of : Side → Moment → List ℕ
store_of slave_side m = m.slave
store_of master_side m = m.master

-- a byte's two ends: in the slave store where its row's bytes lie, in the master store at its offset
abbrev pub end_in : Setup → Side → Byte → Option ℕ
end_in setup slave_side b = store_place setup.slaves b.space b.address
end_in setup master_side b = Some b.offset

-- "direction (0 read: slave to master; 1 write)"
abbrev pub goes_to : Side → Byte → Bool
goes_to slave_side b = eqb b.direction 1
goes_to master_side b = eqb b.direction 0

abbrev pub is_at : Option ℕ → ℕ → Bool
is_at None x = false
is_at (Some k) x = eqb k x

-- of the bytes of a cycle, the place across that the one into place x came from
abbrev pub source_in : Setup → Side → ℕ → List Byte → Option ℕ
source_in setup side x [] = None
source_in setup side x (b ∷ bytes) =
    cond (goes_to side b && is_at (end_in setup side b) x) (end_in setup (across side) b) (source_in setup side x bytes)

abbrev pub source_by : Setup → Side → ℕ → Moment → Act → Option ℕ
source_by setup side x m (posts p) = None
source_by setup side x m steps = source_in setup side x (carried m.channel (answer_at setup m))

-- where a byte came from: it stands there from the start, or a cycle brought it from a place across, as that stood at the moment before the cycle
pub data Origin : Type 0 where
  start : Origin
  cycle : Moment → ℕ → Origin

abbrev pub brought_from : Moment → Option ℕ → Origin
brought_from before None = start
brought_from before (Some k) = cycle before k

-- the later one of two
abbrev pub or_else : Origin → Origin → Origin
or_else start earlier = earlier
or_else (cycle before k) earlier = cycle before k

-- over a history: the last cycle into place x
abbrev pub last_into : Setup → Side → ℕ → Moment → List Act → Origin
last_into setup side x m [] = start
last_into setup side x m (a ∷ acts) =
    or_else (last_into setup side x (next setup m a) acts) (brought_from m (source_by setup side x m a))

-- the value that it brought
abbrev pub brought : Side → ℕ → Moment → Origin → ℕ
brought side x m start = get_or (store_of side m) x 0
brought side x m (cycle before k) = get_or (store_of (across side) before) k 0
