-- Document 01, "Both sides of the line": "A lingering burst asked at its grant, W and P of 4, 4,096 bytes from an aligned address".
use Rattle.std.specs.Prelude.{ℕ, ◌-◌, [], ◌∷◌, replicate}
use Rattle.basics.specs.Limits.{rows_most}
use Rattle.frame.specs.declared.Setup.{Setup}
use Rattle.frame.specs.Frame.{no_level, no_slave}
use Rattle.tally.specs.declared.Tally.{Tally}
use Rattle.sheetlist.specs.declared.Event.{Event}
use Rattle.sheetlist.specs.declared.Event.TheVariants.{Steps, Post}
use Rattle.examples.specs.Printed.{after_events, begun}
use Rattle.examples.specs.Sheet.{level_row_by, slave_row_by, order_by}
use Rattle.step.specs.Run.{World}

-- level 3 bursts and lingers; the slave has this port and this cycle time
abbrev pub burst_setup : ℕ → ℕ → Setup
burst_setup port time =
    record {
      levels = record { rows = level_row_by 3 4 5 ∷ level_row_by 15 4 0 ∷ replicate (rows_most - 2) no_level; count = 2 };
      slaves = record { rows = slave_row_by 1 0 4096 port time ∷ replicate (rows_most - 1) no_slave; count = 1 };
      master = 4096;
    }

-- level 3 posts the whole slave
abbrev pub burst : Event
burst = Post (order_by 3 1 1 0 4096 0)

-- level 15 asks
abbrev pub other_post : Event
other_post = Post (order_by 15 1 1 0 4 0)

-- both posts, the grant, and then some cycles: the world then
abbrev pub asked_at_grant : ℕ → ℕ → ℕ → World
asked_at_grant port time cycles = after_events (burst_setup port time) (burst ∷ other_post ∷ Steps 1 ∷ Steps cycles ∷ []) (begun (burst_setup port time))

-- the grant, the first cycles, and only then the other's post; and some cycles more
abbrev pub asked_later : ℕ → ℕ → ℕ → ℕ → World
asked_later port time first more =
    after_events (burst_setup port time) (burst ∷ Steps 1 ∷ Steps first ∷ other_post ∷ Steps more ∷ []) (begun (burst_setup port time))

-- one grant, these cycles and bytes, and this longest hold
abbrev pub figures : ℕ → ℕ → ℕ → Tally
figures cycles bytes hold = record { grants = 1; cycles = cycles; bytes = bytes; hold = hold }
