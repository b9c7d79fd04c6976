-- How a cycle ends, in the words of document 01, "One step".
use Prim.Native.Nat.{ℕ}
use mathlib.Core.Path.{◌≡◌, refl}
use mathlib.Core.Bool.{true, false, and-false}
use lib.Dec.{eqb}
use Rattle.std.specs.Prelude.{None, Option}
use Rattle.channel.specs.declared.Channel.{Channel}
use Rattle.channel.specs.Channel.{request_of}
use Rattle.frame.specs.Rows.{has_burst}
use Rattle.act.specs.declared.Route.{Route}
use Rattle.act.specs.declared.Ending.{Ending}
use Rattle.act.specs.declared.Ending.TheVariants.{Kept, Released, Marked}
use Rattle.act.specs.Cycle.{Cycle, is_late, is_leaving, ending_of, freed, ended_by}

-- "Nothing is released inside a transfer."
pub kept_inside : (route : Route) (asked : Option ℕ) (clock : ℕ) (c : Cycle) → c.ends ≡ false → ending_of route asked clock c ≡ Kept
unfolding ending_of is_leaving
kept_inside route asked clock c e = rw e

-- a bursting owner that nobody asks keeps the channel until its request is done
pub kept_unasked : (route : Route) (clock : ℕ) (c : Cycle) → eqb c.rest.left 0 ≡ false → has_burst route.options ≡ true
    → is_leaving route None clock c ≡ false
unfolding is_leaving is_late
kept_unasked route clock c e b = rw (e, b, and-false)

-- however a cycle ends, the requests are as it left them
pub ended_request : (ending : Ending) (ch : Channel) (o l : ℕ) → request_of (ended_by ending ch o) l ≡ request_of ch l
unfolding freed
ended_request Kept ch o l = refl
ended_request (Released h) ch o l = refl
ended_request (Marked h) ch o l = refl
