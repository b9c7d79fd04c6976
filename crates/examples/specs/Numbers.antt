-- Document 01, "Refusal numbers": "No. | Given exactly when", the table's 1 to 9 in one place, a list of rows for each call in the order that the paper gives:
-- "9 first, then 8, then 7, then the rest by number"; and 17. "10 to 17: sheet, below": 10 to 16 stand, by their numbers, in number/Number and sheet/Sheet.
-- Document 02, CR 1, adds 18 and the calls over an image, at the end, and CR 3 the question why a level waits. That the calls' promises give these numbers is shown in proofs/Refusals.
use Rattle.std.specs.Prelude.{ℕ, ◌+◌, Bool, true, false, cond, not, ◌&&◌, List, [], ◌∷◌, ◌++◌, eqb, leb, ltb, length, Result, Ok, Err}
use Rattle.refusal.specs.Refusal.{refusal_number}
use Rattle.basics.specs.Limits.{clock_limit, memory_end, steps_most}
use Rattle.cycle.specs.Cycle.{is_length, is_width, is_port}
use Rattle.frame.specs.declared.Setup.{Setup}
use Rattle.frame.specs.Frame.{is_framed}
use Rattle.frame.specs.Find.{slave_store_length}
use Rattle.frame.specs.Rows.{is_present}
use Rattle.channel.specs.declared.Phase.{Phase}
use Rattle.channel.specs.declared.Phase.TheVariants.{Arbitrating, Granted}
use Rattle.channel.specs.declared.Channel.{Channel}
use Rattle.channel.specs.declared.Request.{Request}
use Rattle.channel.specs.Channel.{fresh_channel, has_request, request_of}
use Rattle.channel.specs.Slave.{slave_of}
use Rattle.sound.specs.Request.{is_in_range, is_inside_slave, is_outside_master}
use Rattle.sound.specs.Sound.{is_sound}
use Rattle.frame.specs.declared.Order.{Order}
use Rattle.post.specs.Post.{request_in, post_of}
use Rattle.act.specs.Turn.{arbitration_time}
use Rattle.logline.specs.Text.{has_room_in as line_room}
use Rattle.tally.specs.declared.Tally.{Tally}
use Rattle.step.specs.Step.{step_of}
use Rattle.step.specs.Run.{World, run_of}
use Rattle.step.specs.Log.{Page, LoggedOut, log_run_of}
use Rattle.number.specs.declared.Fault.{Fault}
use Rattle.numbers.specs.Numbers.{Part}
use Rattle.image.specs.Layout.{image_bytes, image_most}
use Rattle.image.specs.Image.{read_setup, read_channel, read_image, head_bytes, read_head, imaged_setup, imaged_channel}

-- a row: the number, and whether what the paper says of it is so
abbrev pub RefusalRow : Type 0
RefusalRow = ℕ × Bool

-- the number of the first row that holds, or 0
abbrev pub first_number : List RefusalRow → ℕ
first_number [] = 0
first_number ((number, holds) ∷ rows) = cond holds number (first_number rows)

-- "9: set-up, post, step, run: the set-up breaks the frame; post, step, run: the channel is unsound"
abbrev pub broken : Setup → RefusalRow
broken setup = (9, not (is_framed setup))

abbrev pub unsound : Setup → Channel → RefusalRow
unsound setup ch = (9, not (is_framed setup && is_sound setup ch))

-- "8: step, run: a lent store's length differs from the set-up"
abbrev pub other_length : Setup → ℕ → ℕ → RefusalRow
other_length setup slave master = (8, not (eqb slave (slave_store_length setup.slaves) && eqb master setup.master))

-- "3: .. length 0 or above 4,096, direction or space above 1"; "4: .. the range isn't wholly inside one slave row of the space"; "5: .. the range isn't
-- wholly inside the master store"
abbrev pub request_rows : Setup → Request → List RefusalRow
request_rows setup q = (3, not (is_in_range q)) ∷ (4, not (is_inside_slave setup q)) ∷ (5, is_outside_master setup q) ∷ []

-- "1: post: the level isn't in the set-up"; "2: post: that level has an open request"
abbrev pub post_rows : Setup → Channel → Order → List RefusalRow
post_rows setup ch p =
    unsound setup ch ∷ (1, not (is_present setup.levels p.level)) ∷ (2, has_request ch.left p.level) ∷ request_rows setup (request_in p)

-- "3: .. cycle count: the same lengths, W not 2 or 4, P not 1, 2 or 4"; "4: .. cycle count: it ends above 16,777,216"
abbrev pub count_rows : ℕ → ℕ → ℕ → ℕ → List RefusalRow
count_rows a n w p = (3, not (is_length n && (is_width w && is_port p))) ∷ (4, ltb memory_end (a + n)) ∷ []

-- "6: step: the clock would pass 4,000,000,000"; an idle step and a release without a request take no time
abbrev pub is_over : Channel → ℕ → Bool
is_over ch time = ltb clock_limit (ch.clock + time)

abbrev pub passes : Setup → Channel → Phase → Bool
passes setup ch Arbitrating = is_over ch (arbitration_time ch.ever)
passes setup ch (Granted o) = not (eqb (request_of ch o).left 0) && is_over ch (slave_of setup.slaves (request_of ch o)).time

abbrev pub step_rows : Setup → Channel → ℕ → ℕ → List RefusalRow
step_rows setup ch slave master = unsound setup ch ∷ other_length setup slave master ∷ (6, passes setup ch ch.phase) ∷ []

-- "7: run: more than 65,535 steps"; a run that meets 6 stops before its budget is used up, and nothing else stops it
abbrev pub run_rows : Setup → ℕ → World → List RefusalRow
run_rows setup budget w =
    unsound setup w.channel ∷ other_length setup (length w.slave) (length w.master) ∷ (7, ltb steps_most budget)
    ∷ (6, ltb (run_of setup budget w).result.steps budget) ∷ []

-- a logged run is refused as a run is; where it stops before its budget is used up, it was 6 while there is room for another line
abbrev pub room_left : LoggedOut → Bool
room_left o = line_room o.out o.result.end

abbrev pub log_rows : Setup → ℕ → World → Page → List RefusalRow
log_rows setup budget w p =
    unsound setup w.channel ∷ other_length setup (length w.slave) (length w.master) ∷ (7, ltb 65535 budget)
    ∷ (6, ltb (log_run_of setup budget w p).result.ran.steps budget && room_left (log_run_of setup budget w p)) ∷ []

-- "17: place 0, the lent result is too short"; of what is written whole or not at all, 17, and otherwise the place past it
abbrev pub written_told : List ℕ → ℕ → List ℕ → List ℕ
written_told s at what = cond (leb (at + length what) (length s)) (0 ∷ (at + length what) ∷ []) (17 ∷ 0 ∷ [])

-- "17 comes last": of a judged sheet the length of the result, or the number and the place of its fault
abbrev pub sheet_told : Part → ℕ → ℕ → List ℕ
sheet_told (Ok end) need room = cond (leb need room) (0 ∷ need ∷ []) (17 ∷ 0 ∷ [])
sheet_told (Err f) need room = refusal_number f.why ∷ f.place ∷ []

-- Document 02, CR 1: "18 for a malformed image, before 9; 17 as in the sheet". The bytes are an image where both its parts are good, and nothing follows them
abbrev pub is_good_then : {A : Type 0} → Result A Fault → (A → Bool) → Bool
is_good_then (Ok x) f = f x
is_good_then (Err x) f = false

abbrev pub is_image : List ℕ → ℕ → Bool
is_image bytes n = is_good_then (read_setup bytes n) (λ head. is_good_then (read_channel bytes n head.1).part (λ end. true))

abbrev pub malformed_image : List ℕ → ℕ → RefusalRow
malformed_image bytes n = (18, not (is_image bytes n))

-- a list is a sheet's head where the numbers with it are the set-up's part of an image, and nothing follows it
abbrev pub is_head : List ℕ → ℕ → Bool
is_head list master =
    let bytes = head_bytes list master in
    is_good_then (read_setup bytes (length bytes)) (λ head. not (ltb head.1 (length bytes)))

abbrev pub malformed_head : List ℕ → ℕ → RefusalRow
malformed_head list master = (18, not (is_head list master))

-- an image that is written: 9, then 17
abbrev pub image_told : Setup → Channel → List ℕ → List ℕ
image_told setup ch out = cond (unsound setup ch).1 (9 ∷ 0 ∷ []) (written_told out 0 (image_bytes setup ch))

-- the calls for C: 18, then the rows of the plain call on what was read, and 17 last, where the memory has no room for the new image
abbrev pub no_image_room : Setup → Channel → List ℕ → RefusalRow
no_image_room setup ch image = (17, not (leb (length (image_bytes setup ch)) (length image)))

-- 18 9 17
abbrev pub set_up_call_rows : List ℕ → List ℕ → ℕ → List RefusalRow
set_up_call_rows image list master =
    let setup = imaged_setup (read_head list master) in malformed_head list master ∷ broken setup ∷ no_image_room setup fresh_channel image ∷ []

-- 18 9 1 2 3 4 5 17
abbrev pub post_call_rows : List ℕ → ℕ → Order → List RefusalRow
post_call_rows image n p =
    let setup = imaged_setup (read_image image n) in
    let ch = imaged_channel (read_image image n) in
    malformed_image image n ∷ (post_rows setup ch p ++ (no_image_room setup (post_of setup ch p).channel image ∷ []))

-- 18 9 8 6 17
abbrev pub step_call_rows : List ℕ → ℕ → List ℕ → List ℕ → Tally → List RefusalRow
step_call_rows image n slave master t =
    let setup = imaged_setup (read_image image n) in
    let ch = imaged_channel (read_image image n) in
    malformed_image image n
    ∷ (step_rows setup ch (length slave) (length master) ++ (no_image_room setup (step_of setup ch t slave master).channel image ∷ []))

-- 18 9 8 7 17: a run's last image isn't known before, so there has to be room for the longest. Its 6 is no refusal
abbrev pub run_call_rows : List ℕ → ℕ → List ℕ → List ℕ → ℕ → List RefusalRow
run_call_rows image n slave master budget =
    let setup = imaged_setup (read_image image n) in
    malformed_image image n ∷ unsound setup (imaged_channel (read_image image n)) ∷ other_length setup (length slave) (length master) ∷ (7, ltb steps_most budget)
    ∷ (17, not (leb image_most (length image))) ∷ []

-- document 02, CR 3: "Refusals: 9 as before."; over an image 18 9
abbrev pub why_rows : Setup → Channel → List RefusalRow
why_rows setup ch = unsound setup ch ∷ []

abbrev pub why_call_rows : List ℕ → ℕ → List RefusalRow
why_call_rows image n = malformed_image image n ∷ why_rows (imaged_setup (read_image image n)) (imaged_channel (read_image image n))
