-- Frame and soundness together: what the answer of `sound_store` says.
use Prim.Native.Nat.{ℕ}
use mathlib.Core.Path.{◌≡◌}
use mathlib.Core.Bool.{true, false, ◌&&◌}
use Rattle.std.specs.Prelude.{None, Some}
use Rattle.frame.specs.declared.Setup.{Setup}
use Rattle.frame.specs.Frame.{is_framed}
use Rattle.frame.specs.Find.{slave_store_length}
use Rattle.frame.proofs.SlaveLaws.{broken_by, length_by}
use Rattle.channel.specs.declared.Channel.{Channel}
use Rattle.sound.specs.Sound.{is_sound, sound_store}

module _ (setup : Setup) (ch : Channel) where
  -- what the answer says of 9
  pub store_nine : sound_store setup ch ≡ None → (is_framed setup && is_sound setup ch) ≡ false
  unfolding sound_store
  store_nine e = broken_by (is_framed setup && is_sound setup ch) setup.slaves e

  pub store_told : (n : ℕ) → sound_store setup ch ≡ Some n → ((is_framed setup && is_sound setup ch) ≡ true) × (n ≡ slave_store_length setup.slaves)
  unfolding sound_store
  store_told n e = length_by (is_framed setup && is_sound setup ch) setup.slaves n e
