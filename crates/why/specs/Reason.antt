-- Document 02, CR 3: "not present, no request, it owns the channel, inactive, another owner still holds (with its level), outranked at the next arbitration (with
-- the winner), wins next": what each says of a channel and a level, by itself. None of them speaks of another, or of the order.
use Rattle.std.specs.Prelude.{ℕ, Bool, false, not, ◌&&◌, List, [], ◌∷◌, eqb}
use Rattle.frame.specs.declared.Setup.{Setup}
use Rattle.frame.specs.Rows.{is_present}
use Rattle.channel.specs.declared.Phase.{Phase}
use Rattle.channel.specs.declared.Phase.TheVariants.{Arbitrating, Granted}
use Rattle.channel.specs.declared.Channel.{Channel}
use Rattle.channel.specs.Channel.{is_arbitrating, has_request}
use Rattle.channel.specs.Line.{is_inactive, waits, winner}
use Rattle.why.specs.declared.Reason.{Reason}
use Rattle.why.specs.declared.Reason.TheVariants as reason

-- "not present"
abbrev pub is_absent : Setup → ℕ → Bool
is_absent setup l = not (is_present setup.levels l)

-- "no request"
abbrev pub lacks_request : Channel → ℕ → Bool
lacks_request ch l = not (has_request ch.left l)

-- "it owns the channel"; while arbitrating nobody does
abbrev pub owns : Phase → ℕ → Bool
owns Arbitrating l = false
owns (Granted owner) l = eqb owner l

-- "inactive" is `is_inactive`, of channel/Line

-- "another owner still holds (with its level)": this one owns the channel, and is another. It may be 15 without a request
abbrev pub holds_against : Phase → ℕ → ℕ → Bool
holds_against phase l owner = owns phase owner && not (eqb owner l)

-- "outranked at the next arbitration (with the winner)": the channel is arbitrating, the level takes part in it, and this one wins, and is another
unfoldable pub outranks : Channel → ℕ → ℕ → Bool
outranks ch l w =
    is_arbitrating ch.phase
    && (waits ch.left ch.inactive l && (eqb w (winner ch.left ch.inactive) && not (eqb w l)))

-- "wins next": the channel is arbitrating, and the level wins. By default 15 does so without a request
unfoldable pub wins_next : Channel → ℕ → Bool
wins_next ch l = is_arbitrating ch.phase && eqb l (winner ch.left ch.inactive)

-- a reason is true of a level
abbrev pub is_true : Setup → Channel → ℕ → Reason → Bool
is_true setup ch l reason.NotPresent = is_absent setup l
is_true setup ch l reason.NoRequest = lacks_request ch l
is_true setup ch l reason.Owns = owns ch.phase l
is_true setup ch l reason.Inactive = is_inactive ch.inactive l
is_true setup ch l (reason.Holds owner) = holds_against ch.phase l owner
is_true setup ch l (reason.Outranked w) = outranks ch l w
is_true setup ch l reason.WinsNext = wins_next ch l

-- the number of a reason: its place in the list
abbrev pub reason_number : Reason → ℕ
reason_number reason.NotPresent = 0
reason_number reason.NoRequest = 1
reason_number reason.Owns = 2
reason_number reason.Inactive = 3
reason_number (reason.Holds owner) = 4
reason_number (reason.Outranked w) = 5
reason_number reason.WinsNext = 6

-- "with its level", "with the winner": the level that a reason names; of the others 0
abbrev pub reason_level : Reason → ℕ
reason_level reason.NotPresent = 0
reason_level reason.NoRequest = 0
reason_level reason.Owns = 0
reason_level reason.Inactive = 0
reason_level (reason.Holds owner) = owner
reason_level (reason.Outranked w) = w
reason_level reason.WinsNext = 0

-- a reason in numbers: its own, and its level
abbrev pub reason_numbers : Reason → List ℕ
reason_numbers r = reason_number r ∷ reason_level r ∷ []
