-- Document 01, "Unsound": a definition for each clause, in its order, after the one that document 02 added. Each is true where the clause does not hold; a
-- channel is sound where all are.
use Rattle.std.specs.Prelude.{ℕ, Bool, true, false, cond, not, ◌&&◌, ◌||◌, List, eqb, leb, None, Option, Some}
use Rattle.refusal.specs.Refusal.{is_accepted}
use Rattle.basics.specs.Limits.{places, system_master, clock_limit}
use Rattle.basics.specs.Scan.{all_below}
use Rattle.frame.specs.declared.LevelRows.{LevelRows}
use Rattle.frame.specs.declared.Setup.{Setup}
use Rattle.frame.specs.Frame.{is_framed}
use Rattle.frame.specs.Find.{store_if}
use Rattle.frame.specs.Rows.{is_fair, is_present, level_of}
use Rattle.frame.specs.Allowance.{allowance_of, is_within}
use Rattle.channel.specs.declared.Phase.{Phase}
use Rattle.channel.specs.declared.Phase.TheVariants.{Arbitrating, Granted}
use Rattle.channel.specs.declared.Channel.{Channel}
use Rattle.channel.specs.declared.Request.{Request}
use Rattle.channel.specs.Channel.{is_arbitrating, has_request, request_of}
use Rattle.channel.specs.Line.{is_inactive, line}
use Rattle.sound.specs.Request.{request_verdict, transfer_of}

-- no level has a mark
unfoldable pub are_unmarked : List Bool → Bool
are_unmarked inactive = all_below (λ (l : ℕ). not (is_inactive inactive l)) places

-- document 02, CR 2: "a channel never granted is unsound if it is granted now, has a mark or has a clock above 0"
unfoldable pub is_never_granted_sound : Bool → Phase → ℕ → List Bool → Bool
is_never_granted_sound ever phase clock inactive = ever || (is_arbitrating phase && (are_unmarked inactive && eqb clock 0))

-- "granted to an absent level, or to one other than 15 without a request, or to an inactive one"
unfoldable pub is_grant_sound : LevelRows → Channel → ℕ → Bool
is_grant_sound levels ch owner =
    leb owner system_master
    && (is_present levels owner && ((eqb owner system_master || has_request ch.left owner) && not (is_inactive ch.inactive owner)))

abbrev pub owner_sound : LevelRows → Channel → Phase → Bool
owner_sound levels ch Arbitrating = true
owner_sound levels ch (Granted owner) = is_grant_sound levels ch owner

unfoldable pub is_owner_sound : LevelRows → Channel → Bool
is_owner_sound levels ch = owner_sound levels ch ch.phase

-- a place without a request holds zeros
unfoldable pub is_blank : Request → Bool
is_blank q = eqb q.direction 0 && (eqb q.space 0 && (eqb q.address 0 && eqb q.offset 0))

-- "an open request at an absent level or whose rest would meet 3, 4 or 5"
abbrev pub request_sound : Setup → ℕ → Request → Bool
request_sound setup l q =
    cond (eqb q.left 0) (is_blank q) (is_present setup.levels l && is_accepted (request_verdict setup l q))

unfoldable pub is_request_sound : Setup → Channel → ℕ → Bool
is_request_sound setup ch l = request_sound setup l (request_of ch l)

unfoldable pub are_requests_sound : Setup → Channel → Bool
are_requests_sound setup ch = all_below (is_request_sound setup ch) places

-- "an inactive mark at an absent or unfair level, or while the line isn't active"
unfoldable pub is_mark_sound : LevelRows → Bool → Bool → ℕ → Bool
is_mark_sound levels marked active l = not marked || (is_present levels l && (is_fair (level_of levels l).options && active))

unfoldable pub are_marks_sound : LevelRows → List Bool → Bool → Bool
are_marks_sound levels inactive active = all_below (λ (l : ℕ). is_mark_sound levels (is_inactive inactive l) active l) places

-- "a clock above the limit"
abbrev pub is_clock_sound : Channel → Bool
is_clock_sound ch = leb ch.clock clock_limit

-- "an asked time .. from which the owner's running or next transfer would end more than 7,800 later; for 15 without a request, an asked time other
-- than the clock"
unfoldable pub is_in_time : Setup → ℕ → Request → ℕ → ℕ → Bool
is_in_time setup owner q clock t = cond (eqb q.left 0) (eqb t clock) (is_within (allowance_of setup) (transfer_of setup owner q) clock t)

-- "while granted, an asked time without an active line ..; an asked time later than the clock, or .."
unfoldable pub is_asked_at : Setup → Channel → Bool → ℕ → ℕ → Bool
is_asked_at setup ch active owner t = active && (leb t ch.clock && is_in_time setup owner (request_of ch owner) ch.clock t)

-- "an asked time while arbitrating; while granted .. none with one"
abbrev pub asked_sound : Setup → Channel → Bool → Phase → Option ℕ → Bool
asked_sound setup ch active Arbitrating None = true
asked_sound setup ch active Arbitrating (Some t) = false
asked_sound setup ch active (Granted owner) None = not active
asked_sound setup ch active (Granted owner) (Some t) = is_asked_at setup ch active owner t

unfoldable pub is_asked_sound : Setup → Channel → Bool → Bool
is_asked_sound setup ch active = asked_sound setup ch active ch.phase ch.asked

-- the channel is sound: before its first grant, and always owner, requests, marks, clock and asked time
unfoldable pub is_sound : Setup → Channel → Bool
is_sound setup ch =
    is_never_granted_sound ch.ever ch.phase ch.clock ch.inactive
    && (is_owner_sound setup.levels ch
    && (are_requests_sound setup ch
    && (are_marks_sound setup.levels ch.inactive (line ch)
    && (is_clock_sound ch
    && is_asked_sound setup ch (line ch)))))

-- "the slave store, as long as all rows together": its length, of a set-up that keeps the frame and a channel that is sound, which meet no 9
unfoldable pub sound_store : Setup → Channel → Option ℕ
sound_store setup ch = store_if (is_framed setup && is_sound setup ch) setup.slaves
