-- Document 02, CR 1: "After a restore demand 3 counts from the restored channel: bytes open then plus bytes asked since equal bytes moved since plus bytes open
-- now, and the bound runs from its asked time, if any. What is open in the restored channel counts as posted there, and its owner as granted there."
-- Said of the host's own calls on its own bytes; the theorems are `after_restore` and `after_first` in proofs/HistoryLaws.
use Rattle.refusal.specs.Refusal.{accepted}
use Rattle.std.specs.Prelude.{ℕ, ◌+◌, ◌≡◌, true, List, take}
use Rattle.number.specs.Number.{Bytes}
use Rattle.frame.specs.Frame.{is_framed}
use Rattle.channel.specs.Channel.{request_of, fresh_channel}
use Rattle.sound.specs.Sound.{is_sound}
use Rattle.image.specs.Layout.{image_bytes}
use Rattle.image.specs.Image.{read_image, read_head, imaged_verdict, imaged_setup}
use Rattle.demands.specs.History.{Act}
use Rattle.demands.specs.Calls.{Call, called_all, acts_over}
use Rattle.demands.specs.Demand.{bytes_asked, bytes_moved, Demand3, set_up_with, AfterSetUp}
use Rattle.lobrinkas.specs.Calls.{lobrinkas_set_up}
use Rattle.lobrinkas.specs.History.{Machine, setup_in, channel_in, moment_in, HostCall, played_all, comes_to}

-- A machine that a host may restore: any bytes that are an image, whose set-up keeps the frame and whose channel is sound, in any memory; and any stores.
pub record Restorable (m : Machine) : Type 0 where
  pub bytes : Bytes (take m.used m.memory)
  pub read : imaged_verdict (read_image m.memory m.used) ≡ accepted
  pub framed : is_framed (setup_in m) ≡ true
  pub sound : is_sound (setup_in m) (channel_in m) ≡ true

-- after any calls of the host: the machine, the plain calls that they come to, and the posts and steps that these come to
abbrev pub machine_then : (m : Machine) → List (HostCall (setup_in m)) → Machine
machine_then m calls = played_all (setup_in m) m calls

abbrev pub calls_since : (m : Machine) → List (HostCall (setup_in m)) → List (Call (setup_in m))
calls_since m calls = comes_to (setup_in m) m calls

abbrev pub acts_since : (m : Machine) → List (HostCall (setup_in m)) → List Act
acts_since m calls = acts_over (setup_in m) (moment_in m) (calls_since m calls)

-- From a restored machine m, over any calls of the host.
pub record AfterRestore (m : Machine) (calls : List (HostCall (setup_in m))) : Type 0 where
  -- the bytes are an image again, and may be saved and restored as these were: all that is said here holds from there, too
  pub saved : Restorable (machine_then m calls)
  -- it is of the same set-up; and the channel that it reads as and both stores are those that the plain calls lead to from the restored channel and stores
  pub setup : setup_in (machine_then m calls) ≡ setup_in m
  pub moment : moment_in (machine_then m calls) ≡ called_all (setup_in m) (moment_in m) (calls_since m calls)
  -- "one image for each channel": no other bytes could stand there
  pub image : take (machine_then m calls).used (machine_then m calls).memory ≡ image_bytes (setup_in m) (channel_in (machine_then m calls))
  -- "bytes open then plus bytes asked since equal bytes moved since plus bytes open now", those that are open as they are read from the bytes then and now
  pub sums : (l : ℕ) → (request_of (channel_in m) l).left + bytes_asked (setup_in m) (moment_in m) l (acts_since m calls)
      ≡ bytes_moved (setup_in m) (moment_in m) l (acts_since m calls) + (request_of (channel_in (machine_then m calls)) l).left
  -- Demand 3, all five clauses. Its first moment is the restored one (demands/Demand): "what is open there counts as posted there, its owner as granted there,
  -- and its asked time, if any, as that first moment". So `hold` says that "the bound runs from its asked time, if any"
  pub demand : Demand3 (setup_in m) (moment_in m) (calls_since m calls)

-- The machine with a first image, of a sheet's head and the length of the master store, in some memory; and any stores.
abbrev pub first_machine : List ℕ → List ℕ → ℕ → List ℕ → List ℕ → Machine
first_machine memory head length slave master =
    record {
      memory = (lobrinkas_set_up memory head length).image;
      used = (lobrinkas_set_up memory head length).result.length;
      slave = slave;
      master = master;
    }

-- It is one to restore; its set-up is the head's, and its channel the fresh one.
pub record FirstMade (m : Machine) (head : List ℕ) (length : ℕ) : Type 0 where
  pub restorable : Restorable m
  pub setup : setup_in m ≡ (imaged_setup (read_head head length))
  pub fresh : channel_in m ≡ fresh_channel

-- So over any calls of the host demand 3 holds as it does "after set-up", where nothing is open and nobody owns the channel.
pub record AfterFirst (m : Machine) (calls : List (HostCall (setup_in m))) : Type 0 where
  pub since : AfterRestore m calls
  pub moment : moment_in (machine_then m calls) ≡ called_all (setup_in m) (set_up_with m.slave m.master) (calls_since m calls)
  pub demand : AfterSetUp (setup_in m) m.slave m.master (calls_since m calls)
