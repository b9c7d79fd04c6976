-- Document 01, "The frame" and "Refusal numbers": the post.
use Rattle.refusal.specs.declared.Refusal.{Refusal}
use Rattle.std.specs.Prelude.{cond, not, ◌&&◌, [], ◌∷◌, Result}
use Rattle.refusal.specs.Refusal.{is_accepted, refused_by}
use Rattle.frame.specs.Frame.{is_framed}
use Rattle.frame.specs.Rows.{is_present}
use Rattle.frame.specs.declared.Setup.{Setup}
use Rattle.channel.specs.declared.Channel.{Channel}
use Rattle.channel.specs.declared.Request.{Request}
use Rattle.channel.specs.declared.Judged.{Judged}
use Rattle.channel.specs.Channel.{has_request, with_request}
use Rattle.channel.specs.Line.{line_rule}
use Rattle.sound.specs.Request.{request_verdict}
use Rattle.sound.specs.Sound.{is_sound}
use Rattle.frame.specs.declared.Order.{Order}

-- "A request is level, direction (0 read: slave to master; 1 write), space, address, length 1 to 4,096 and an offset in the master store."
abbrev pub request_in : Order → Request
request_in p =
    record { direction = p.direction; space = p.space; address = p.address; left = p.length; offset = p.offset }

-- "1: .. the level isn't in the set-up"; "2: .. that level has an open request"; 3, 4 and 5 are the request's own
abbrev pub order_verdict : Setup → Channel → Order → Result Unit Refusal
order_verdict setup ch p =
    refused_by
    ((1, not (is_present setup.levels p.level)) ∷ (2, has_request ch.left p.level) ∷ [])
    (request_verdict setup p.level (request_in p))

-- "Order: 9 first, .. then the rest by number." "9: .. the set-up breaks the frame .. the channel is unsound"
unfoldable pub post_verdict : Setup → Channel → Order → Result Unit Refusal
post_verdict setup ch p = refused_by ((9, not (is_framed setup && is_sound setup ch)) ∷ []) (order_verdict setup ch p)

-- an accepted post, then the line rule
unfoldable pub posted : Channel → Order → Channel
posted ch p = line_rule (with_request ch p.level (request_in p))

-- "A refused call gives back the channel it got"
unfoldable pub post_of : Setup → Channel → Order → Judged
post_of setup ch p =
    record {
      channel = cond (is_accepted (post_verdict setup ch p)) (posted ch p) ch;
      verdict = post_verdict setup ch p;
    }
