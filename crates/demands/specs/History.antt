-- Any order of posts and steps, refused ones included.
use Rattle.std.specs.Prelude.{ℕ, ◌≡◌, true, List, [], ◌∷◌}
use Rattle.frame.specs.declared.Setup.{Setup}
use Rattle.channel.specs.declared.Channel.{Channel}
use Rattle.channel.specs.Channel.{Shaped}
use Rattle.sound.specs.Sound.{is_sound}
use Rattle.frame.specs.declared.Order.{Order}
use Rattle.post.specs.Post.{post_of}
pub use Rattle.tally.specs.Tally.{no_tally}
use Rattle.step.specs.Step.{step_of, slave_after, master_after}

-- the channel and the two stores
pub record Moment : Type 0 where
  pub channel : Channel
  pub slave : List ℕ
  pub master : List ℕ

-- what the host may do: post six numbers, or take a step
pub data Act : Type 0 where
  posts : Order → Act
  steps : Act

-- the moment after an act; a refused one leaves everything. The tally has no part in what happens (laws `step_tally` and `run_tally`): any will do
abbrev pub next : Setup → Moment → Act → Moment
next setup m (posts p) = record { channel = (post_of setup m.channel p).channel; slave = m.slave; master = m.master }
next setup m steps =
    record {
      channel = (step_of setup m.channel no_tally m.slave m.master).channel;
      slave = slave_after setup m.channel m.slave m.master;
      master = master_after setup m.channel m.slave m.master;
    }

-- the moment after a history
abbrev pub moment_after : Setup → Moment → List Act → Moment
moment_after setup m [] = m
moment_after setup m (a ∷ acts) = moment_after setup (next setup m a) acts

-- a channel of the program that isn't unsound. That the set-up keeps its frame and that the stores have its lengths is assumed nowhere: a post that is
-- accepted and a step that is taken bring it, and any other act changes nothing.
pub record Start (setup : Setup) (m : Moment) : Type 0 where
  pub shaped : Shaped m.channel
  pub sound : is_sound setup m.channel ≡ true
