-- Document 01, "What the stand-in covers": how long a preempted owner may still hold the channel. The tests of the rows may speak of it: it needs none of them.
use Rattle.std.specs.Prelude.{ℕ, ◌+◌, Bool, leb}
use Rattle.frame.specs.declared.Setup.{Setup}

-- "The number is 7,800 ns."
unfoldable pub allowance_of : Setup → ℕ
allowance_of setup = 7800

-- what takes so long from the clock on ends within the allowance after t
unfoldable pub is_within : ℕ → ℕ → ℕ → ℕ → Bool
is_within allowed duration clock t = leb (duration + clock) (t + allowed)
