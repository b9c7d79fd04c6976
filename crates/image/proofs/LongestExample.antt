-- There is an image of 410 bytes, computed by the checker from the definitions: the bound on an image's length is met. Assumes nothing.
use Prim.Native.Nat.{ℕ, zero, suc, ◌+◌}
use mathlib.Core.Path.{◌≡◌, refl}
use mathlib.Core.Bool.{true, false}
use mathlib.Core.List.{List, [], ◌∷◌, ◌++◌}
use lib.ListN.{length, replicate}
use Rattle.std.specs.Prelude.{Some}
use Rattle.basics.specs.Scan.{all_below, any_below, first_from}
use Rattle.cycle.specs.Cycle.{is_length, is_width, is_port, transfer_time}
use Rattle.number.specs.Number.{bytes_of}
use Rattle.frame.specs.declared.LevelRow.{LevelRow}
use Rattle.frame.specs.declared.SlaveRow.{SlaveRow}
use Rattle.frame.specs.declared.Setup.{Setup}
use Rattle.frame.specs.Frame.{
  is_row_count,
  is_master_length,
  is_level_in_range,
  is_rising,
  is_last_fifteen,
  level_row_fits,
  levels_fit,
  is_time,
  limit_of,
  is_placed,
  is_slave_in_range,
  are_apart,
  is_apart,
  lengths_before,
  slave_row_fits,
  slaves_fit,
  is_framed,
}
use Rattle.frame.specs.Allowance.{allowance_of, is_within}
use Rattle.frame.specs.Rows.{is_present, level_of}
use Rattle.frame.specs.Find.{level_index, level_row, row_holds, slave_index, slave_row}
use Rattle.channel.specs.declared.Phase.TheVariants.{Granted}
use Rattle.channel.specs.declared.Channel.{Channel}
use Rattle.channel.specs.Line.{drives, line_active}
use Rattle.channel.specs.Slave.{slave_of, start_of}
use Rattle.act.specs.Cycle.{route_of, next_time}
use Rattle.sound.specs.Request.{is_in_range, request_verdict, transfer_of}
use Rattle.sound.specs.Sound.{
  is_never_granted_sound,
  is_grant_sound,
  is_owner_sound,
  is_blank,
  is_request_sound,
  are_requests_sound,
  is_mark_sound,
  are_marks_sound,
  is_in_time,
  is_asked_at,
  is_asked_sound,
  is_sound,
}
use Rattle.image.specs.Layout.{head_numbers, setup_numbers, requests_numbers, channel_numbers, image_bytes, image_most}

-- all sixteen levels, and fair
abbrev level_rows : ℕ → ℕ → List LevelRow
level_rows zero l = []
level_rows (suc left) l = record { level = l; width = 2; options = 2 } ∷ level_rows left (l + 1)

-- rows of memory from 2 MB on, one after the other
abbrev slave_rows : ℕ → ℕ → ℕ → List SlaveRow
slave_rows zero base size = []
slave_rows (suc left) base size = record { space = 1; base = base; length = size; port = 1; time = 200 } ∷ slave_rows left (base + size) size

-- three of them are 16,384 bytes long, the others 128
abbrev setup : Setup
setup =
    record {
      levels = record { rows = level_rows 16 0; count = 16 };
      slaves = record { rows = slave_rows 3 2097152 16384 ++ slave_rows 13 2146304 128; count = 16 };
      master = 65536;
    }

-- each level has a request of 128 bytes in the first row; level 0 owns the channel, at the last moment that a clock has; level 14 is inactive
abbrev channel : Channel
channel =
    record {
      phase = Granted 0;
      asked = Some 4000000000;
      ever = true;
      clock = 4000000000;
      inactive = replicate 14 false ++ (true ∷ false ∷ []);
      direction = replicate 16 1;
      space = replicate 16 1;
      address = replicate 16 2097152;
      left = replicate 16 128;
      offset = replicate 16 16384;
    }

pub record Reached : Type 0 where
  pub framed : is_framed setup ≡ true
  pub sound : is_sound setup channel ≡ true
  pub longest : length (image_bytes setup channel) ≡ image_most

pub reached : Reached
unfolding all_below any_below first_from is_length is_width is_port transfer_time bytes_of
    is_row_count is_master_length is_level_in_range is_rising is_last_fifteen level_row_fits levels_fit is_time limit_of is_placed is_slave_in_range are_apart is_apart
    lengths_before slave_row_fits slaves_fit is_framed level_index level_row row_holds slave_index slave_row
    drives line_active is_present level_of slave_of start_of is_in_range request_verdict transfer_of allowance_of is_within route_of next_time
    is_never_granted_sound is_grant_sound is_owner_sound is_blank is_request_sound are_requests_sound is_mark_sound are_marks_sound is_in_time is_asked_at is_asked_sound is_sound
    head_numbers setup_numbers requests_numbers channel_numbers image_bytes
reached = record { framed = refl; sound = refl; longest = refl }
