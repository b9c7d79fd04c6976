-- Document 02, CR 1: "The host is C and saves its machine at any moment." What such a host does with bytes: it has an image in memory of its own and both
-- stores, and makes the calls with these as they then stand, in any order and with any numbers. To restore is to start: nothing is kept anywhere else.
use Rattle.std.specs.Prelude.{ℕ, cond, List, [], ◌∷◌, ◌++◌, take, eqb}
use Rattle.frame.specs.declared.Setup.{Setup}
use Rattle.frame.specs.declared.Order.{Order}
use Rattle.channel.specs.declared.Channel.{Channel}
use Rattle.tally.specs.declared.Tally.{Tally}
use Rattle.image.specs.Image.{read_image, imaged_setup, imaged_channel}
use Rattle.demands.specs.History.{Moment}
use Rattle.demands.specs.Calls.{Differ, Call}
use Rattle.demands.specs.Calls as plain
use Rattle.lobrinkas.specs.Calls.{Answered, Stepping, RunAnswered, lobrinkas_post, lobrinkas_step, lobrinkas_run}

-- the memory, the length of the image at its start, and both stores
pub record Machine : Type 0 where
  pub memory : List ℕ
  pub used : ℕ
  pub slave : List ℕ
  pub master : List ℕ

-- what it says: the set-up and the channel that its image reads as, and the moment of a history that this is
abbrev pub setup_in : Machine → Setup
setup_in m = imaged_setup (read_image m.memory m.used)

abbrev pub channel_in : Machine → Channel
channel_in m = imaged_channel (read_image m.memory m.used)

abbrev pub moment_in : Machine → Moment
moment_in m = record { channel = channel_in m; slave = m.slave; master = m.master }

-- What the host may do: a post with any six numbers; a step, and a run of any number of steps, with any tally; the same two over other stores, of which a
-- length differs from the set-up; and, between calls, bring its image to other memory, longer or shorter, as long as the image fits: there any bytes follow it
pub data HostCall (setup : Setup) : Type 0 where
  host_post : Order → HostCall setup
  host_step : Tally → HostCall setup
  host_run : Tally → ℕ → HostCall setup
  host_stray_step : Tally → (slave master : List ℕ) → Differ setup slave master → HostCall setup
  host_stray_run : Tally → ℕ → (slave master : List ℕ) → Differ setup slave master → HostCall setup
  host_move : (rest : List ℕ) → HostCall setup

-- each call, made with the machine as it stands
abbrev pub post_made : Machine → Order → Answered
post_made m p = lobrinkas_post m.memory m.used p

abbrev pub step_made : Machine → List ℕ → List ℕ → Tally → Stepping
step_made m slave master t = lobrinkas_step m.memory m.used slave master t

abbrev pub run_made : Machine → List ℕ → List ℕ → Tally → ℕ → RunAnswered
run_made m slave master t budget = lobrinkas_run m.memory m.used slave master t budget

-- the machine after a call, as the call's promise says it: the memory then, the length that was answered, the stores then. Stray stores are not the machine's
abbrev pub with_image : Machine → List ℕ → ℕ → Machine
with_image m memory used = record { memory = memory; used = used; slave = m.slave; master = m.master }

abbrev pub after_step : Stepping → Machine
after_step s = record { memory = s.image; used = s.result.length; slave = s.slave; master = s.master }

abbrev pub after_run : RunAnswered → Machine
after_run r = record { memory = r.image; used = r.result.length; slave = r.slave; master = r.master }

abbrev pub played : (setup : Setup) → Machine → HostCall setup → Machine
played setup m (host_post p) = with_image m (post_made m p).image (post_made m p).result.length
played setup m (host_step t) = after_step (step_made m m.slave m.master t)
played setup m (host_run t budget) = after_run (run_made m m.slave m.master t budget)
played setup m (host_stray_step t slave master d) =
    with_image m (step_made m slave master t).image (step_made m slave master t).result.length
played setup m (host_stray_run t budget slave master d) =
    with_image m (run_made m slave master t budget).image (run_made m slave master t budget).result.length
played setup m (host_move rest) = with_image m (take m.used m.memory ++ rest) m.used

-- over any calls
abbrev pub played_all : (setup : Setup) → Machine → List (HostCall setup) → Machine
played_all setup m [] = m
played_all setup m (c ∷ calls) = played_all setup (played setup m c) calls

-- what a call answers, the refusal or 0. To bring the image elsewhere is no call, and is not refused
abbrev pub refusal_in : (setup : Setup) → Machine → HostCall setup → ℕ
refusal_in setup m (host_post p) = (post_made m p).result.refusal
refusal_in setup m (host_step t) = (step_made m m.slave m.master t).result.refusal
refusal_in setup m (host_run t budget) = (run_made m m.slave m.master t budget).result.refusal
refusal_in setup m (host_stray_step t slave master d) = (step_made m slave master t).result.refusal
refusal_in setup m (host_stray_run t budget slave master d) = (run_made m slave master t budget).result.refusal
refusal_in setup m (host_move rest) = 0

-- the same call among those of demand 3's histories (demands/Calls), which are made on a set-up and a channel and not on bytes
abbrev pub plainly : {setup : Setup} → HostCall setup → List (Call setup)
plainly (host_post p) = plain.post p ∷ []
plainly (host_step t) = plain.step t ∷ []
plainly (host_run t budget) = plain.run t budget ∷ []
plainly (host_stray_step t slave master d) = plain.stray_step t slave master d ∷ []
plainly (host_stray_run t budget slave master d) = plain.stray_run t budget slave master d ∷ []
plainly (host_move rest) = []

-- What the host's calls come to: the same calls in the same order, each unless it was refused by 17. Then the memory was too short, of which those histories
-- know nothing, and nothing has happened. Every other call counts, refused or not
abbrev pub comes_to_one : (setup : Setup) → Machine → HostCall setup → List (Call setup)
comes_to_one setup m c = cond (eqb (refusal_in setup m c) 17) [] (plainly c)

abbrev pub comes_to : (setup : Setup) → Machine → List (HostCall setup) → List (Call setup)
comes_to setup m [] = []
comes_to setup m (c ∷ calls) = comes_to_one setup m c ++ comes_to setup (played setup m c) calls
