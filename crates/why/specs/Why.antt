-- Document 02, CR 3: "For a channel and a level, give the first that is true of" the seven reasons. "Refusals: 9 as before."
use Rattle.std.specs.Prelude.{ℕ, Bool, cond, not, ◌&&◌, List, [], ◌∷◌, Result, Ok}
use Rattle.refusal.specs.Refusal.{refused_by}
use Rattle.refusal.specs.declared.Refusal.{Refusal}
use Rattle.frame.specs.Frame.{is_framed}
use Rattle.frame.specs.declared.Setup.{Setup}
use Rattle.channel.specs.declared.Channel.{Channel}
use Rattle.channel.specs.Channel.{owner_of}
use Rattle.channel.specs.Line.{winner}
use Rattle.sound.specs.Sound.{is_sound}
use Rattle.why.specs.declared.Reason.{Reason}
use Rattle.why.specs.declared.Reason.TheVariants as reason
use Rattle.why.specs.Reason.{is_true}

-- the first of some reasons that is true, or the last of all
abbrev pub first_true : (Reason → Bool) → List Reason → Reason → Reason
first_true test [] last = last
first_true test (r ∷ rs) last = cond (test r) r (first_true test rs last)

-- all but the last, in their order; a reason that names a level has the only one of which it can be true
abbrev pub reasons_before : Channel → List Reason
reasons_before ch =
    reason.NotPresent ∷
    reason.NoRequest ∷
    reason.Owns ∷
    reason.Inactive ∷
    reason.Holds (owner_of ch.phase) ∷
    reason.Outranked (winner ch.left ch.inactive) ∷
    []

-- "give the first that is true of: ..". Where all before are false, the last is true (`given_true` in proofs/ReasonLaws)
unfoldable pub reason_of : Setup → Channel → ℕ → Reason
reason_of setup ch l = first_true (is_true setup ch l) (reasons_before ch) reason.WinsNext

-- the call, of any number as a level
unfoldable pub why_of : Setup → Channel → ℕ → Result Reason Refusal
why_of setup ch l = refused_by ((9, not (is_framed setup && is_sound setup ch)) ∷ []) (Ok (reason_of setup ch l))
