-- The fresh channel is sound.
use Prim.Native.Nat.{ℕ, ◌<◌}
use mathlib.Core.Path.{◌≡◌, refl, sym, ◌∙◌}
use mathlib.Core.Bool.{true, false, false≢true}
use native.Mathlib.Omega.{arith}
use lib.ListN.{get_or-replicate}
use Rattle.basics.specs.Limits.{places}
use Rattle.frame.specs.declared.Setup.{Setup}
use Rattle.channel.specs.Channel.{fresh_channel, has_request, request_of}
use Rattle.sound.specs.Sound.{is_blank}
use Rattle.sound.proofs.SoundFacts.{Sound}

-- no level has a request
fresh_none : (l : ℕ) → l < places → has_request fresh_channel.left l ≡ false
fresh_none l k = rw (get_or-replicate {A = ℕ} places l 0 0 k)

fresh_blank : (l : ℕ) → l < places → is_blank (request_of fresh_channel l) ≡ true
unfolding is_blank
fresh_blank l k = rw (get_or-replicate {A = ℕ} places l 0 0 k)

pub fresh_sound : (setup : Setup) → Sound setup fresh_channel
fresh_sound setup =
    record {
      settled =
          record {
            never = λ e. record { phase = refl; clock = refl; unmarked = λ l k. get_or-replicate places l false false k };
            owner = λ o e. let z : ◌≡◌ {A = ℕ} 0 1 = cc in absurd (omega arith);
            request = λ l k e. absurd (false≢true (sym (fresh_none l k) ∙ e));
            blank = λ l k e. fresh_blank l k;
            fair = λ l k e. absurd (false≢true (sym (get_or-replicate places l false false k) ∙ e));
            clock = omega arith;
            unasked = λ e. refl;
            asked = λ o t e a. let z : ◌≡◌ {A = ℕ} 0 1 = cc in absurd (omega arith);
          };
      marked = λ l k e. absurd (false≢true (sym (get_or-replicate places l false false k) ∙ e));
      quiet = λ o e a. let z : ◌≡◌ {A = ℕ} 0 1 = cc in absurd (omega arith);
    }
