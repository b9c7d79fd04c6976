-- Demand 3: "For any order of posts and steps after set-up, refused ones included: per level, bytes asked = bytes moved + bytes open; its cycles cover its
-- requests in posting order, each byte once, only between its grant and its release; every store byte is the source byte, as it then stood, that the last cycle
-- into it carried, or its starting value; no owner holds the channel more than 7,800 ns past the first moment, from its grant on, when another level has an
-- open request." The theorems are `demand_3` and `after_set_up` in proofs/DemandLaws.
use Rattle.std.specs.Prelude.{ℕ, ◌+◌, ◌≤◌, ◌≡◌, true, List, ◌++◌, length, get_or}
use Rattle.frame.specs.declared.Setup.{Setup}
use Rattle.frame.specs.Allowance.{allowance_of}
use Rattle.channel.specs.declared.Phase.TheVariants.{Arbitrating, Granted}
use Rattle.channel.specs.Channel.{request_of, fresh_channel}
use Rattle.demands.specs.History.{Moment, Act, next, moment_after}
use Rattle.demands.specs.Calls.{Call, called_all, acts_over}
use Rattle.demands.specs.Log.{log_of, keeps_to_owners}
use Rattle.demands.specs.Bytes.{open_bytes, asked_bytes, moved_bytes, logged_bytes}
use Rattle.demands.specs.Stores.{Side, store_of, last_into, brought}
use Rattle.demands.specs.Waiting.{nobody, since, first_of, first_over}

-- the bytes that a level has open
abbrev pub bytes_open : Moment → ℕ → ℕ
bytes_open m l = (request_of m.channel l).left

-- the bytes that it asked for over some acts, and those that its cycles moved, added up from the log
abbrev pub bytes_asked : Setup → Moment → ℕ → List Act → ℕ
bytes_asked setup first l acts = length (asked_bytes setup first l acts)

abbrev pub bytes_moved : Setup → Moment → ℕ → List Act → ℕ
bytes_moved setup first l acts = logged_bytes l (log_of setup first acts)

-- an owner o for which another level has waited since the clock t: the clock is at most the allowance past t, and so it is after one more post or step,
-- at the release too
pub record Bounded (setup : Setup) (m : Moment) (o t : ℕ) : Type 0 where
  pub owner : m.channel.phase ≡ Granted o
  pub here : m.channel.clock ≤ t + allowance_of setup
  pub onward : (a : Act) → (next setup m a).channel.clock ≤ t + allowance_of setup

-- From a channel that isn't unsound, as a host restores it, over any calls: what is open there counts as posted there, its owner as granted there, and its
-- asked time, if any, as that first moment. Of the acts that the calls come to, every part from the start on is a history, too: inside a run as well.
pub record Demand3 (setup : Setup) (first : Moment) (calls : List (Call setup)) : Type 0 where
  -- "per level, bytes asked = bytes moved + bytes open"
  pub sums : (l : ℕ) → bytes_open first l + bytes_asked setup first l (acts_over setup first calls)
      ≡ bytes_moved setup first l (acts_over setup first calls) + bytes_open (called_all setup first calls) l
  -- "its cycles cover its requests in posting order, each byte once"
  pub order : (l : ℕ) → open_bytes first l ++ asked_bytes setup first l (acts_over setup first calls)
      ≡ moved_bytes setup first l (acts_over setup first calls) ++ open_bytes (called_all setup first calls) l
  -- "only between its grant and its release"
  pub owners : keeps_to_owners first.channel.phase (log_of setup first (acts_over setup first calls)) ≡ true
  -- "every store byte is the source byte, as it then stood, that the last cycle into it carried, or its starting value"
  pub stores : (side : Side) (x : ℕ) → get_or (store_of side (called_all setup first calls)) x 0
      ≡ brought side x first (last_into setup side x first (acts_over setup first calls))
  -- "no owner holds the channel more than 7,800 ns past the first moment, from its grant on, when another level has an open request"
  pub hold : (past rest : List Act) → acts_over setup first calls ≡ past ++ rest → (o t : ℕ)
      → first_over setup first (first_of first.channel) past ≡ since o t → Bounded setup (moment_after setup first past) o t

-- From set-up, with any set-up and any stores at all: nothing is open, and nobody owns the channel.
abbrev pub set_up_with : List ℕ → List ℕ → Moment
set_up_with slave master = record { channel = fresh_channel; slave = slave; master = master }

pub record AfterSetUp (setup : Setup) (slave master : List ℕ) (calls : List (Call setup)) : Type 0 where
  pub sums : (l : ℕ) → bytes_asked setup (set_up_with slave master) l (acts_over setup (set_up_with slave master) calls)
      ≡ bytes_moved setup (set_up_with slave master) l (acts_over setup (set_up_with slave master) calls)
      + bytes_open (called_all setup (set_up_with slave master) calls) l
  pub order : (l : ℕ) → asked_bytes setup (set_up_with slave master) l (acts_over setup (set_up_with slave master) calls)
      ≡ moved_bytes setup (set_up_with slave master) l (acts_over setup (set_up_with slave master) calls)
      ++ open_bytes (called_all setup (set_up_with slave master) calls) l
  pub owners : keeps_to_owners Arbitrating (log_of setup (set_up_with slave master) (acts_over setup (set_up_with slave master) calls)) ≡ true
  pub stores : (side : Side) (x : ℕ) → get_or (store_of side (called_all setup (set_up_with slave master) calls)) x 0
      ≡ brought side x (set_up_with slave master) (last_into setup side x (set_up_with slave master) (acts_over setup (set_up_with slave master) calls))
  pub hold : (past rest : List Act) → acts_over setup (set_up_with slave master) calls ≡ past ++ rest → (o t : ℕ)
      → first_over setup (set_up_with slave master) nobody past ≡ since o t
      → (a : Act) → (next setup (moment_after setup (set_up_with slave master) past) a).channel.clock ≤ t + 7800
