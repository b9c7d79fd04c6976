-- Document 01, "The frame", its last part: requests, the phase, and the channel after set-up.
use Rattle.std.specs.Prelude.{ℕ, ◌≡◌, Bool, true, false, not, List, [], ◌∷◌, length, get_or, set, replicate, eqb, None, Option}
use Rattle.refusal.specs.Refusal.{accepted, refused_by}
use Rattle.basics.specs.Limits.{places, no_owner}
use Rattle.frame.specs.declared.Setup.{Setup}
use Rattle.frame.specs.Frame.{is_framed}
use Rattle.channel.specs.declared.Phase.{Phase}
use Rattle.channel.specs.declared.Phase.TheVariants.{Arbitrating, Granted}
use Rattle.channel.specs.declared.Channel.{Channel}
use Rattle.channel.specs.declared.Request.{Request}
use Rattle.channel.specs.declared.Judged.{Judged}

-- "The channel is arbitrating, or granted to one level.": whether it is arbitrating
abbrev pub is_arbitrating : Phase → Bool
is_arbitrating Arbitrating = true
is_arbitrating (Granted owner) = false

-- the owner's level; while arbitrating `no_owner`, which is no level
abbrev pub owner_of : Phase → ℕ
owner_of Arbitrating = no_owner
owner_of (Granted owner) = owner

-- "A level has at most one open request.": it has one while bytes of it are left
abbrev pub has_request : List ℕ → ℕ → Bool
has_request left l = not (eqb (get_or left l 0) 0)

-- where the owner stands in the arrays
abbrev pub owner_place : Phase → ℕ
owner_place Arbitrating = 0
owner_place (Granted owner) = owner

-- "A request is level, direction .., space, address, length .. and an offset in the master store.": what is left of a level's
abbrev pub request_of : Channel → ℕ → Request
request_of ch l =
    record {
      direction = get_or ch.direction l 0;
      space = get_or ch.space l 0;
      address = get_or ch.address l 0;
      left = get_or ch.left l 0;
      offset = get_or ch.offset l 0;
    }

-- what stands in the place of a level without a request
abbrev pub no_request : Request
no_request = record { direction = 0; space = 0; address = 0; left = 0; offset = 0 }

-- the channel with a level's request laid in its place
unfoldable pub with_request : Channel → ℕ → Request → Channel
with_request ch l q =
    record {
      phase = ch.phase;
      asked = ch.asked;
      ever = ch.ever;
      clock = ch.clock;
      inactive = ch.inactive;
      direction = set ch.direction l q.direction;
      space = set ch.space l q.space;
      address = set ch.address l q.address;
      left = set ch.left l q.left;
      offset = set ch.offset l q.offset;
    }

-- the channel with another phase, asked time, clock and marks, and whether it was ever granted; its requests stay
abbrev pub changed : Channel → Phase → Option ℕ → Bool → ℕ → List Bool → Channel
changed ch phase asked ever clock inactive =
    record {
      phase = phase;
      asked = asked;
      ever = ever;
      clock = clock;
      inactive = inactive;
      direction = ch.direction;
      space = ch.space;
      address = ch.address;
      left = ch.left;
      offset = ch.offset;
    }

-- "After set-up: arbitrating, clock 0, no requests, no marks."; and it was never granted (document 02, CR 2: "The channel and its image keep whether it has
-- ever been granted")
abbrev pub fresh_channel : Channel
fresh_channel =
    record {
      phase = Arbitrating;
      asked = None;
      ever = false;
      clock = 0;
      inactive = replicate places false;
      direction = replicate places 0;
      space = replicate places 0;
      address = replicate places 0;
      left = replicate places 0;
      offset = replicate places 0;
    }

-- "9: set-up ..: the set-up breaks the frame"; "A refused set-up gives the fresh channel"
unfoldable pub set_up : Setup → Judged
set_up setup = record { channel = fresh_channel; verdict = refused_by ((9, not (is_framed setup)) ∷ []) accepted }

-- For the laws only. Every channel of the program: its arrays have a place for each level
pub record Shaped (ch : Channel) : Type 0 where
  pub inactive : length ch.inactive ≡ places
  pub direction : length ch.direction ≡ places
  pub space : length ch.space ≡ places
  pub address : length ch.address ≡ places
  pub left : length ch.left ≡ places
  pub offset : length ch.offset ≡ places
