-- What a request, or what is left of one, meets: refusals 3, 4 and 5; and how long its transfers take.
use Rattle.refusal.specs.declared.Refusal.{Refusal}
use Rattle.std.specs.Prelude.{ℕ, ◌+◌, Bool, not, ◌&&◌, [], ◌∷◌, leb, ltb, Result}
use Rattle.refusal.specs.Refusal.{accepted, refused_by}
use Rattle.cycle.specs.Cycle.{is_length}
use Rattle.frame.specs.declared.Setup.{Setup}
use Rattle.frame.specs.Rows.{is_slave}
use Rattle.channel.specs.declared.Request.{Request}
use Rattle.channel.specs.Slave.{slave_for}
use Rattle.act.specs.Cycle.{route_of, next_time}

-- "3: post: length 0 or above 4,096, direction or space above 1"
unfoldable pub is_in_range : Request → Bool
is_in_range q = is_length q.left && (leb q.direction 1 && leb q.space 1)

-- "4: post: the range isn't wholly inside one slave row of the space"
abbrev pub is_inside_slave : Setup → Request → Bool
is_inside_slave setup q = is_slave (slave_for setup.slaves q)

-- "5: post: the range isn't wholly inside the master store"
abbrev pub is_outside_master : Setup → Request → Bool
is_outside_master setup q = ltb setup.master (q.offset + q.left)

-- the first of them that a level's request meets
unfoldable pub request_verdict : Setup → ℕ → Request → Result Unit Refusal
request_verdict setup l q =
    refused_by ((3, not (is_in_range q)) ∷ (4, not (is_inside_slave setup q)) ∷ (5, is_outside_master setup q) ∷ []) accepted

-- the time of the transfer of a level that holds the next byte of a request: the running or next one
unfoldable pub transfer_of : Setup → ℕ → Request → ℕ
transfer_of setup l q = next_time (route_of setup l q) q
