-- The tests of `Sound` as the functions make them: what a level's row says is looked up in arrays by level number, and the places without a request
-- are tested apart from the open requests. That they are those tests is shown in proofs/TableLaws, and put together in the law `clauses_sound`.
use Rattle.frame.specs.declared.LevelRow.{LevelRow}
use Rattle.std.specs.Prelude.{ℕ, ◌<◌, ◌≡◌, Bool, true, false, not, ◌&&◌, ◌||◌, List, get_or, set, eqb, leb, None, Option, Some}
use Rattle.refusal.specs.Refusal.{is_accepted}
use Rattle.basics.specs.Limits.{places, system_master}
use Rattle.basics.specs.Scan.{all_below}
use Rattle.frame.specs.declared.LevelRows.{LevelRows}
use Rattle.frame.specs.declared.Setup.{Setup}
use Rattle.frame.specs.Find.{level_row}
use Rattle.frame.specs.Rows.{is_fair, is_level}
use Rattle.channel.specs.declared.Phase.{Phase}
use Rattle.channel.specs.declared.Phase.TheVariants.{Arbitrating, Granted}
use Rattle.channel.specs.declared.Channel.{Channel}
use Rattle.channel.specs.declared.Request.{Request}
use Rattle.channel.specs.Channel.{has_request, request_of}
use Rattle.channel.specs.Line.{is_inactive}
use Rattle.sound.specs.declared.Members.{Members}
use Rattle.sound.specs.Request.{request_verdict}
use Rattle.sound.specs.Sound.{is_blank}

-- a present level is fair
abbrev pub is_fair_row : Option LevelRow → Bool
is_fair_row None = false
is_fair_row (Some row) = is_fair row.options

-- an array by level number holds what is asked of each level's row
abbrev pub Tells : LevelRows → (Option LevelRow → Bool) → List Bool → Type 0
Tells levels asked table = (l : ℕ) → l < places → get_or table l false ≡ asked (level_row levels l)

pub record AreMembers (levels : LevelRows) (members : Members) : Type 0 where
  pub present : Tells levels is_level members.present
  pub fair : Tells levels is_fair_row members.fair

-- the tables with the level of one row more
abbrev pub with_level : Members → LevelRow → Members
with_level members row =
    record { present = set members.present row.level true; fair = set members.fair row.level (is_fair row.options) }

-- the owner
abbrev pub grant_fits : Members → Channel → ℕ → Bool
grant_fits members ch owner =
    leb owner system_master
    && (get_or members.present owner false && ((eqb owner system_master || has_request ch.left owner) && not (is_inactive ch.inactive owner)))

abbrev pub owner_fits : Members → Channel → Phase → Bool
owner_fits members ch Arbitrating = true
owner_fits members ch (Granted owner) = grant_fits members ch owner

-- the places without a request
abbrev pub is_blank_or : Request → Bool
is_blank_or q = not (eqb q.left 0) || is_blank q

unfoldable pub are_blank : Channel → Bool
are_blank ch = all_below (λ (l : ℕ). is_blank_or (request_of ch l)) places

-- the open requests
unfoldable pub open_sound : Setup → Members → Channel → ℕ → Bool
open_sound setup members ch l =
    eqb (request_of ch l).left 0 || (get_or members.present l false && is_accepted (request_verdict setup l (request_of ch l)))

unfoldable pub are_open_sound : Setup → Members → Channel → Bool
are_open_sound setup members ch = all_below (open_sound setup members ch) places

-- the requests
abbrev pub requests_fit : Setup → Members → Channel → Bool
requests_fit setup members ch = are_blank ch && are_open_sound setup members ch

-- the marks
abbrev pub is_marked_well : Members → Channel → Bool → ℕ → Bool
is_marked_well members ch active l = not (is_inactive ch.inactive l) || (get_or members.fair l false && active)

unfoldable pub are_marked : Members → Channel → Bool → Bool
are_marked members ch active = all_below (is_marked_well members ch active) places
