-- Whatever the host does, a channel that isn't unsound stays so.
use mathlib.Core.Path.{◌≡◌, refl, ap}
use mathlib.Core.Bool.{true}
use mathlib.Core.List.{List, [], ◌∷◌}
use lib.ListN.{length}
use Rattle.std.specs.Prelude.{Err, Ok, Result}
use Rattle.refusal.specs.Refusal.{is_accepted}
use Rattle.refusal.specs.declared.Refusal.{Refusal}
use Rattle.basics.proofs.Tests.{by_test}
use Rattle.frame.specs.declared.Setup.{Setup}
use Rattle.channel.specs.declared.Channel.{Channel}
use Rattle.channel.specs.Channel.{with_request, Shaped}
use Rattle.channel.proofs.RequestLaws.{with_shaped, rule_shaped}
use Rattle.sound.specs.Sound.{is_sound}
use Rattle.sound.proofs.SoundFacts.{sound_is, sound_by, accepted_is}
use Rattle.frame.specs.declared.Order.{Order}
use Rattle.post.specs.Post.{request_in, post_verdict, posted, post_of}
use Rattle.post.proofs.PostLaws.{post_sound}
use Rattle.step.specs.declared.Plan.TheVariants as plan
use Rattle.step.specs.Plan.{act_plan, ready_verdict, plan_by, plan_of}
use Rattle.step.specs.Step.{Ready, step_of}
use Rattle.step.proofs.PlanLaws.{ready_is, plan_ready}
use Rattle.step.proofs.KeepLaws.{step_sound, step_shaped}
use Rattle.demands.specs.History.{Moment, Act, posts, steps, next, moment_after, Start}

posted_shaped : (ch : Channel) (p : Order) → Shaped ch → Shaped (posted ch p)
unfolding posted
posted_shaped ch p k = rule_shaped (with_request ch p.level (request_in p)) (with_shaped ch p.level (request_in p) k)

-- a step is taken by a channel that is ready, or it is refused and leaves everything
pub by_ready : {A : Type 0} (setup : Setup) (m : Moment) → (Ready setup m.channel (length m.slave) (length m.master) → A)
    → ((why : Refusal) → plan_of setup m.channel (length m.slave) (length m.master) ≡ plan.Refused why → A) → A
unfolding plan_of
by_ready {A} setup m f g = by (ready_verdict setup m.channel (length m.slave) (length m.master)) refl
  where
    by : (v : Result Unit Refusal) → ready_verdict setup m.channel (length m.slave) (length m.master) ≡ v → A
    by (Ok _) e = f (ready_is setup m.channel (length m.slave) (length m.master) e)
    by (Err why) e = g why (ap (plan_by setup m.channel) e)

-- the shape stays
pub next_shaped : (setup : Setup) (m : Moment) (a : Act) → Shaped m.channel → Shaped (next setup m a).channel
unfolding post_of step_of
next_shaped setup m (posts p) k =
    by_test (is_accepted (post_verdict setup m.channel p)) (λ t. rw t (posted_shaped m.channel p k)) (λ f. rw f k)
next_shaped setup m steps k = step_shaped setup m.channel (plan_of setup m.channel (length m.slave) (length m.master)) k

-- the channel stays sound
next_sound : (setup : Setup) (m : Moment) (a : Act) → Start setup m → is_sound setup (next setup m a).channel ≡ true
unfolding post_of step_of
next_sound setup m (posts p) s =
    by_test (is_accepted (post_verdict setup m.channel p))
    (λ t. rw t (sound_by setup _ (post_sound setup m.channel p s.shaped (accepted_is _ t))))
    (λ f. rw f s.sound)
next_sound setup m steps s =
    let ch = m.channel in
    by_ready setup m
    (λ r.
    rw (plan_ready setup ch (length m.slave) (length m.master) r)
    (sound_by setup _ (step_sound setup r.framed ch s.shaped (sound_is setup ch s.sound) (act_plan setup ch) refl)))
    (λ why e. rw e s.sound)

pub next_kept : (setup : Setup) (m : Moment) (a : Act) → Start setup m → Start setup (next setup m a)
next_kept setup m a s = record { shaped = next_shaped setup m a s.shaped; sound = next_sound setup m a s }

-- every moment of a history is one that a history may start from
pub always : (setup : Setup) (m : Moment) (acts : List Act) → Start setup m → Start setup (moment_after setup m acts)
always setup m [] s = s
always setup m (a ∷ acts) s = always setup (next setup m a) acts (next_kept setup m a s)
