-- Document 01, "One step": the grant, the release without a request, and the idle step.
use Rattle.std.specs.Prelude.{ℕ, ◌+◌, ◌-◌, Bool, true, false, None, Option, Some}
use Rattle.channel.specs.declared.Phase.TheVariants.{Granted}
use Rattle.channel.specs.declared.Channel.{Channel}
use Rattle.channel.specs.Channel.{changed}
use Rattle.channel.specs.Line.{line_rule}
use Rattle.act.specs.declared.Entry.TheVariants.{Idle, Grant, Release}
use Rattle.act.specs.Cycle.{freed, Turned}

-- document 02, CR 2: "Besides T44, document 002 gives T41, at least 30 ns from end of transfer to ARB. An arbitration now takes 130 ns, except the first after
-- set-up, 100.": by whether the channel has ever been granted
unfoldable pub arbitration_time : Bool → ℕ
arbitration_time false = 100
arbitration_time true = 130

-- the clock after an arbitration
abbrev pub grant_clock : Channel → ℕ
grant_clock ch = ch.clock + arbitration_time ch.ever

-- "The winner is the owner, with no asked time until the line rule sets one."; it has now been granted
unfoldable pub granted : Channel → ℕ → Channel
granted ch winner = changed ch (Granted winner) None true (grant_clock ch) ch.inactive

unfoldable pub grant_turn : Channel → ℕ → Turned
grant_turn ch winner = record { channel = line_rule (granted ch winner); entry = Grant (grant_clock ch) winner }

-- "the clock less the asked time or that there was none"
abbrev pub hold_of : Option ℕ → ℕ → Option ℕ
hold_of None clock = None
hold_of (Some t) clock = Some (clock - t)

-- "Active line: release, no time passes, 15 is not marked inactive."
unfoldable pub leave_turn : Channel → ℕ → Turned
leave_turn ch owner =
    record { channel = line_rule (freed ch ch.inactive); entry = Release ch.clock owner (hold_of ch.asked ch.clock) }

-- "Otherwise idle: nothing changes."
abbrev pub idle_turn : Channel → Turned
idle_turn ch = record { channel = ch; entry = Idle ch.clock }
