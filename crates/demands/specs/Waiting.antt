-- "the first moment, from its grant on, when another level has an open request", read off a history, without the asked time.
use Rattle.std.specs.Prelude.{ℕ, cond, List, [], ◌∷◌, eqb, None, Option, Some}
use Rattle.frame.specs.declared.Setup.{Setup}
use Rattle.channel.specs.declared.Phase.{Phase}
use Rattle.channel.specs.declared.Phase.TheVariants.{Arbitrating, Granted}
use Rattle.channel.specs.declared.Channel.{Channel}
use Rattle.channel.specs.Line.{others_ask}
use Rattle.demands.specs.History.{Moment, Act, next}

-- nobody but the owner has had an open request since its grant; or, of this owner, somebody has since this clock
pub data First : Type 0 where
  nobody : First
  since : ℕ → ℕ → First

-- another level has an open request now
abbrev pub asks_now : ℕ → Channel → First
asks_now owner ch = cond (others_ask ch) (since owner ch.clock) nobody

-- one moment later: while arbitrating nobody waits for an owner; once somebody does, that clock stays for as long as the owner does
abbrev pub noted : Phase → First → Channel → First
noted Arbitrating first ch = nobody
noted (Granted owner) nobody ch = asks_now owner ch
noted (Granted owner) (since o clock) ch = cond (eqb o owner) (since o clock) (asks_now owner ch)

abbrev pub first_after : First → Channel → First
first_after first ch = noted ch.phase first ch

-- at the start the owner counts as granted there, and its asked time, if any, as that moment
abbrev pub first_in : Phase → Option ℕ → First
first_in Arbitrating asked = nobody
first_in (Granted owner) None = nobody
first_in (Granted owner) (Some clock) = since owner clock

abbrev pub first_of : Channel → First
first_of ch = first_in ch.phase ch.asked

-- over a history
abbrev pub first_over : Setup → Moment → First → List Act → First
first_over setup m first [] = first
first_over setup m first (a ∷ acts) = first_over setup (next setup m a) (first_after first (next setup m a).channel) acts
