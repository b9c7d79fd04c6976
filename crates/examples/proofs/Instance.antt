-- Demand 3 of the example sheet of document 01, clause by clause, with its numbers. Its set-up, its stores and its calls are put into the theorem; what it then
-- says of them is read with what the checker computes of the sheet.
use Prim.Native.Nat.{◌+◌, ◌≤◌}
use mathlib.Core.Path.{◌≡◌, refl, sym, ap, ◌∙◌}
use mathlib.Core.Bool.{true}
use mathlib.Core.List.{◌∷◌, ◌++◌}
use lib.ListN.{get_or}
use Rattle.channel.specs.declared.Phase.TheVariants.{Arbitrating}
use Rattle.channel.specs.Channel.{request_of}
use Rattle.demands.specs.History.{Act, posts, steps, next, moment_after}
use Rattle.demands.specs.Calls.{called_all}
use Rattle.demands.specs.Log.{log_of, keeps_to_owners, runs_on}
use Rattle.demands.specs.Bytes.{open_bytes, moved_bytes}
use Rattle.demands.specs.Stores.{slave_side, brought}
use Rattle.demands.specs.Demand.{bytes_asked, bytes_moved, AfterSetUp}
use Rattle.demands.proofs.KeptLaws.{always}
use Rattle.demands.proofs.CallLaws.{calls_are_acts}
use Rattle.demands.proofs.TransferLaws.{whole_transfer}
use Rattle.demands.proofs.DemandLaws.{fresh_start, after_set_up}
use Rattle.examples.specs.Sheet.{setup, second}
use Rattle.examples.specs.Instance.{slave, master, begin, before, until, later, acts, calls, as_runs, bytes_of3, bytes_of7, entries}
use Rattle.examples.proofs.Whole.{history}

met : AfterSetUp setup slave master calls
met = after_set_up setup slave master calls

-- its calls are its posts and steps, and by runs they come to the same moment
now : called_all setup begin calls ≡ moment_after setup begin acts
now = calls_are_acts setup begin calls

by_runs : called_all setup begin as_runs ≡ moment_after setup begin acts
by_runs = calls_are_acts setup begin as_runs ∙ ap (moment_after setup begin) history.as_runs_lem

-- "per level, bytes asked = bytes moved + bytes open": 7 = 7 + 0 and 2 = 2 + 0
sums_3 : (bytes_asked setup begin 3 acts ≡ 7 + 0) × (bytes_moved setup begin 3 acts ≡ 7)
sums_3 = (met.sums 3 ∙ rw (history.open_3, history.log) refl, rw history.log refl)

sums_7 : (bytes_asked setup begin 7 acts ≡ 2 + 0) × (bytes_moved setup begin 7 acts ≡ 2)
sums_7 = (met.sums 7 ∙ rw (history.open_7, history.log) refl, rw history.log refl)

-- "its cycles cover its requests in posting order, each byte once": the bytes from 4097 on go through level 3's cycles, and the two from 4096 on
-- through level 7's
order_3 : moved_bytes setup begin 3 acts ++ open_bytes (moment_after setup begin acts) 3 ≡ bytes_of3
order_3 = sym (met.order 3) ∙ history.asked_3

order_7 : moved_bytes setup begin 7 acts ++ open_bytes (moment_after setup begin acts) 7 ≡ bytes_of7
order_7 = sym (met.order 7) ∙ history.asked_7

-- "only between its grant and its release"
owners : keeps_to_owners Arbitrating entries ≡ true
owners = rw history.log at met.owners

-- "every store byte is the source byte .. that the last cycle into it carried, or its starting value": byte 3 of the slave store is the master's byte 2,
-- and byte 0 is its starting value
came : get_or (moment_after setup begin acts).slave 3 0 ≡ 2
came = met.stores slave_side 3 ∙ history.into_3

stayed : get_or (moment_after setup begin acts).slave 0 0 ≡ 0
stayed = met.stores slave_side 0 ∙ ap (brought slave_side 0 begin) history.into_0

-- "no owner holds the channel more than 7,800 ns past the first moment ..": level 7 waits for level 3 since 300, and whatever the host does next, it is not
-- later than 8,100 then
in_time : (a : Act) → (next setup (moment_after setup begin until) a).channel.clock ≤ 300 + 7800
in_time = met.hold until later refl 3 300 history.first_moment

-- after its grant level 3 has the cycles of its transfer one after the other, though level 7 comes to wait inside it
transfer : runs_on setup 3 (request_of (moment_after setup begin before).channel 3)
    (log_of setup (moment_after setup begin before) (steps ∷ posts second ∷ later)) ≡ true
transfer =
    whole_transfer setup (moment_after setup begin before) (steps ∷ posts second ∷ later) 3
    (always setup begin before (fresh_start setup slave master)).shaped history.owner history.request
