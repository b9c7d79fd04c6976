-- Document 01, "The line rule", and the winner of "One step".
use Rattle.std.specs.Prelude.{ℕ, ◌-◌, Bool, false, cond, not, ◌&&◌, List, get_or, replicate, eqb, None, Option, Some}
use Rattle.basics.specs.Limits.{places, system_master}
use Rattle.basics.specs.Scan.{any_below, first_from}
use Rattle.channel.specs.declared.Phase.{Phase}
use Rattle.channel.specs.declared.Phase.TheVariants.{Arbitrating, Granted}
use Rattle.channel.specs.declared.Channel.{Channel}
use Rattle.channel.specs.Channel.{owner_of, has_request, changed}

-- an inactive mark per level
abbrev pub is_inactive : List Bool → ℕ → Bool
is_inactive inactive l = get_or inactive l false

-- "has an open request and isn't inactive"
unfoldable pub waits : List ℕ → List Bool → ℕ → Bool
waits left inactive l = has_request left l && not (is_inactive inactive l)

-- the same of a level "other than the owner (while arbitrating, any level)"
unfoldable pub drives : List ℕ → List Bool → ℕ → ℕ → Bool
drives left inactive owner l = has_request left l && (not (is_inactive inactive l) && not (eqb l owner))

-- "-PREEMPT is active when some level other than the owner (while arbitrating, any level) has an open request and isn't inactive."
unfoldable pub line_active : List ℕ → List Bool → Phase → Bool
line_active left inactive phase = any_below (drives left inactive (owner_of phase)) places

abbrev pub line : Channel → Bool
line ch = line_active ch.left ch.inactive ch.phase

-- a level other than the owner that has an open request, inactive or not
unfoldable pub asks : List ℕ → ℕ → ℕ → Bool
asks left owner l = has_request left l && not (eqb l owner)

unfoldable pub others_ask : Channel → Bool
others_ask ch = any_below (asks ch.left (owner_of ch.phase)) places

-- "1. If the line is not active, every inactive mark is removed, and the line is judged afresh."
unfoldable pub clear_marks : Channel → Channel
clear_marks ch =
    changed ch ch.phase ch.asked ch.ever ch.clock (cond (line ch) ch.inactive (replicate places false))

-- "an active line .. sets the asked time to the clock"
abbrev pub asked_if : Bool → ℕ → Option ℕ
asked_if active clock = cond active (Some clock) None

-- "2. While granted, an active line with no asked time sets the asked time to the clock. While arbitrating there is no asked time."
abbrev pub asked_now : Phase → Option ℕ → Bool → ℕ → Option ℕ
asked_now Arbitrating asked active clock = None
asked_now (Granted owner) (Some t) active clock = Some t
asked_now (Granted owner) None active clock = asked_if active clock

unfoldable pub set_asked : Channel → Channel
set_asked ch =
    changed ch ch.phase (asked_now ch.phase ch.asked (line ch) ch.clock) ch.ever ch.clock ch.inactive

-- "After each accepted post and step"
abbrev pub line_rule : Channel → Channel
line_rule ch = set_asked (clear_marks ch)

-- "The lowest-numbered level with an open request and no inactive mark wins (001: 0 is highest). With none, level 15 wins.": the lowest from a level on,
-- and of all
unfoldable pub winner_from : List ℕ → List Bool → ℕ → ℕ
winner_from left inactive low = first_from (waits left inactive) low (places - low) system_master

abbrev pub winner : List ℕ → List Bool → ℕ
winner left inactive = winner_from left inactive 0
