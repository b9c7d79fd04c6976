-- What has to hold of a set-up and a channel so that their image can be read again; it holds wherever they keep the frame and are sound. Assumes nothing.
use Prim.Native.Nat.{ℕ, ◌≤◌}
use mathlib.Core.Path.{◌≡◌, refl}
use mathlib.Core.Bool.{true, and-false}
use mathlib.Core.List.{◌++◌}
use borrow.Author.Tests.{eqb-true, eq-eqb, ltb-true, ltb-false}
use lib.ListN.{get_or}
use lib.Dec.{eqb, ltb}
use Rattle.basics.specs.Limits.{places, rows_most}
use Rattle.basics.proofs.Tests.{by_test, need}
use Rattle.numbers.proofs.RoundTrip.{Numbers}
use Rattle.frame.specs.declared.Setup.{Setup}
use Rattle.frame.specs.declared.RowKind.{RowKind}
use Rattle.frame.specs.Frame.{is_framed}
use Rattle.frame.specs.Kind.{row_count}
use Rattle.frame.proofs.FrameLaws.{level_count_lem, framed_levels, framed_slaves}
use Rattle.frame.proofs.KindLaws.{by_kind, Wide}
use Rattle.frame.proofs.SlaveLaws.{slave_count_lem}
use Rattle.channel.specs.declared.Channel.{Channel}
use Rattle.channel.specs.declared.Request.{Request}
use Rattle.channel.specs.Channel.{request_of, no_request, Shaped}
use Rattle.channel.proofs.RequestLaws.{no_request_lem}
use Rattle.sound.specs.Sound.{is_blank, is_sound}
use Rattle.sound.proofs.SoundFacts.{sound_is}
use Rattle.image.specs.Layout.{phase_number, setup_numbers, channel_numbers}
use Rattle.image.proofs.LongestLaws.{owner_most, image_small}

-- The counts have room in the tables and the owner in the channel; the arrays are those of the program; every number of the image is at most 4,294,967,295;
-- and a place without a request holds zeros, as nothing of it stands in the image.
pub record Writable (setup : Setup) (ch : Channel) : Type 0 where
  pub few : (kind : RowKind) → row_count setup kind ≤ rows_most
  pub wide : Wide setup
  pub shaped : Shaped ch
  pub owner : phase_number ch.phase ≤ places
  pub blank : (l : ℕ) → get_or ch.left l 0 ≡ 0 → request_of ch l ≡ no_request
  pub fits : Numbers (setup_numbers setup ++ channel_numbers ch)

-- a place without a request, of which the test says that it holds zeros
blank_none : (q : Request) → q.left ≡ 0 → is_blank q ≡ true → q ≡ no_request
unfolding is_blank
blank_none q none e =
    let direction = eqb-true q.direction 0 (need (eqb q.direction 0) (is_blank q) (λ f. simp f) e) in
    let space = eqb-true q.space 0 (need (eqb q.space 0) (is_blank q) (λ f. simp (f, and-false)) e) in
    let address = eqb-true q.address 0 (need (eqb q.address 0) (is_blank q) (λ f. simp (f, and-false)) e) in
    let offset = eqb-true q.offset 0 (need (eqb q.offset 0) (is_blank q) (λ f. simp (f, and-false)) e) in
    λ i. record { direction = direction i; space = space i; address = address i; left = none i; offset = offset i }

-- A set-up of the program that keeps the frame, with a channel of the program that is sound, has an image that can be read again.
pub sound_writable : (setup : Setup) (ch : Channel) → is_framed setup ≡ true → is_sound setup ch ≡ true → Wide setup → Shaped ch → Writable setup ch
sound_writable setup ch framed sound wide shaped =
    let s = (sound_is setup ch sound).settled in
    record {
      few = by_kind _ (level_count_lem setup.levels (framed_levels setup framed)).1 (slave_count_lem setup.slaves (framed_slaves setup framed)).1;
      wide = wide;
      shaped = shaped;
      owner = owner_most setup ch framed sound ch.phase refl;
      blank = λ l none.
          by_test (ltb l places)
          (λ t. blank_none (request_of ch l) none (s.blank l (ltb-true l places t) (rw (eq-eqb (get_or ch.left l 0) 0 none))))
          (λ f. no_request_lem ch l shaped (ltb-false l places f));
      fits = (image_small setup ch framed sound shaped).fits;
    }
