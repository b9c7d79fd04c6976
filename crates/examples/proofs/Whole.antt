-- Computed by the checker from the definitions: "One sheet, whole" of document 01, from the bytes of the sheet to the lines of its log; the lines that this
-- sheet does not have; the examples of "Both sides of the line" that are not starred; and the sheet as a history of posts and steps.
use Prim.Native.Nat.{ℕ}
use Prim.Native.Char.{code}
use Prim.Native.String.{String, [] as empty, ◌∷◌ as ◌∷ˢ◌}
use mathlib.Core.Path.{◌≡◌, refl}
use mathlib.Core.Bool.{Bool, true, false}
use mathlib.Core.List.{List, [], ◌∷◌, ◌++◌}
use lib.ListN.{length, replicate, set}
use Rattle.basics.specs.Scan.{all_below, any_below, first_from}
use Rattle.refusal.specs.Refusal.{verdict_number}
use Rattle.cycle.specs.Cycle.{is_length, is_width, is_port, transfer_time}
use Rattle.frame.specs.Frame.{
  is_row_count,
  is_master_length,
  is_level_in_range,
  is_rising,
  is_last_fifteen,
  level_row_fits,
  levels_fit,
  is_time,
  limit_of,
  is_placed,
  is_slave_in_range,
  are_apart,
  is_apart,
  lengths_before,
  slave_row_fits,
  slaves_fit,
  is_framed,
}
use Rattle.frame.specs.Allowance.{allowance_of, is_within}
use Rattle.frame.specs.Rows.{is_present, level_of}
use Rattle.frame.specs.Find.{level_index, level_row, row_holds, slave_index, slave_row, slave_store_length, store_place}
use Rattle.channel.specs.declared.Phase.{Phase}
use Rattle.channel.specs.declared.Phase.TheVariants.{Arbitrating, Granted}
use Rattle.channel.specs.declared.Channel.{Channel}
use Rattle.channel.specs.Channel.{fresh_channel, has_request, with_request, changed, request_of}
use Rattle.channel.specs.Line.{waits, drives, line_active, asks, others_ask, clear_marks, set_asked, winner_from}
use Rattle.channel.specs.Slave.{slave_of, start_of}
use Rattle.sound.specs.Request.{is_in_range, request_verdict, transfer_of}
use Rattle.sound.specs.Sound.{
  are_unmarked,
  is_never_granted_sound,
  is_grant_sound,
  is_owner_sound,
  is_blank,
  is_request_sound,
  are_requests_sound,
  is_mark_sound,
  are_marks_sound,
  is_in_time,
  is_asked_at,
  is_asked_sound,
  is_sound,
}
use Rattle.post.specs.Post.{request_in, post_verdict, posted, post_of}
use Rattle.act.specs.Cycle.{
  route_of,
  rest_after,
  next_time,
  cycle_of,
  is_late,
  is_leaving,
  ending_of,
  clocked,
  freed,
  moved_on,
  cycle_entry,
  cycle_turn,
}
use Rattle.act.specs.Turn.{arbitration_time, granted, grant_turn, leave_turn}
use Rattle.tally.specs.Tally.{add_grant, add_cycle, add_release}
use Rattle.step.specs.Plan.{owner_plan, act_plan, ready_verdict, plan_of}
use Rattle.step.specs.Step.{step_of, carry_of, moved_slave, moved_master, slave_after, master_after}
use Rattle.step.specs.Run.{World, world, world_after, run_from, run_of}
use Rattle.act.specs.Entry.{cycle_fields}
use Rattle.number.specs.Number.{read_number, bytes_of}
use Rattle.std.specs.Prelude.{Ok, None}
use Rattle.numbers.specs.Numbers.{list_at, number_between, numbers_of, all_bytes}
use Rattle.sheet.specs.Sheet.{counted_rows, head, head_of, step_count, event, counted_events, body, sheet}
use Rattle.sheetlist.specs.Held.{
  events_from,
  event_count,
  setup_of,
  event_at,
  next_event,
  event_from,
  event_of,
}
use Rattle.sheetlist.specs.declared.Event.{Event}
use Rattle.sheetlist.specs.declared.Event.TheVariants.{Steps, Post}
use Rattle.tally.specs.Tally.{no_tally}
use Rattle.demands.specs.History.{moment_after as after_acts}
use Rattle.demands.specs.Log.{log_of}
use Rattle.demands.specs.Calls.{acts_over}
use Rattle.demands.specs.Bytes.{asked_bytes}
use Rattle.demands.specs.Stores.{slave_side, master_side, start, last_into, brought}
use Rattle.demands.specs.Waiting.{nobody, since, first_over}
use Rattle.sheethost.specs.Host.{master_from}
use Rattle.why.specs.declared.Reason.{Reason}
use Rattle.why.specs.declared.Reason.TheVariants as reason
use Rattle.why.specs.Reason.{outranks, wins_next}
use Rattle.why.specs.Why.{reason_of, why_of}
use Rattle.whyline.specs.Words.{told_text}
use Rattle.examples.specs.Printed.{begun, events_of, events_print, after_events, sheet_print}
use Rattle.examples.specs.Sheet.{input, list, setup, order_by, first, second, sheet_events, output}
use Rattle.examples.specs.Instance.{slave, master, begin, before, until, acts, as_runs, bytes_of3, bytes_of7, entries}
use Rattle.examples.specs.Bursts.{asked_at_grant, asked_later, figures}

-- the bytes of lines, each with its end
codes : String → List ℕ
codes empty = 10 ∷ []
codes (c ∷ˢ text) = code c ∷ codes text

bytes : List String → List ℕ
bytes [] = []
bytes (text ∷ lines) = codes text ++ bytes lines

-- the sheet is good to its end; it has these numbers, and they are written as these bytes; they hold this set-up and these events, the last of which
-- ends where the list ends; and this is what sheetrun prints
record Whole : Type 0 where
  good : sheet (read_number input) (length input) ≡ Ok 40
  read : numbers_of input ≡ list
  written : all_bytes list ≡ input
  held : setup_of list 4096 ≡ setup
  happens : events_of list ≡ sheet_events
  ends : event_from list 4 ≡ length list
  log : sheet_print input ≡ bytes output

-- the fresh channel but for its phase, whether it was ever granted, its clock and its marks; one that is arbitrating, without marks; and one that has a
-- mark at level 3 while level 7 waits
abbrev standing : Phase → Bool → ℕ → List Bool → Channel
standing phase ever clock marks = changed fresh_channel phase None ever clock marks

abbrev arbitrating : Bool → ℕ → Channel
arbitrating ever clock = standing Arbitrating ever clock fresh_channel.inactive

abbrev marked : Bool → Channel
marked ever = with_request (standing Arbitrating ever 0 (set fresh_channel.inactive 3 true)) 7 (request_in second)

abbrev from : Channel → World
from ch = world ch no_tally (replicate 16 0) (replicate 4096 0)

-- Document 02, CR 2: "An arbitration now takes 130 ns, except the first after set-up, 100."; "a channel never granted is unsound if it is granted now, has a
-- mark or has a clock above 0"
record Grants : Type 0 where
  -- by the grant and not by the clock: granted before and at clock 0
  at_zero : events_print setup (Post first ∷ Steps 1 ∷ []) (from (arbitrating true 0)) ≡ bytes ("P 0 3 0" ∷ "G 130 3" ∷ "E 130 0" ∷ [])
  -- refusal 6 by 130, to the nanosecond
  last : events_print setup (Steps 1 ∷ []) (from (arbitrating true 3999999870)) ≡ bytes ("G 4000000000 15" ∷ "E 4000000000 0" ∷ [])
  past : events_print setup (Steps 1 ∷ []) (from (arbitrating true 3999999871)) ≡ bytes ("X 3999999871 6" ∷ "E 3999999871 0" ∷ [])
  -- each part of the clause, and the same channel granted before
  owner : is_sound setup (standing (Granted 15) false 0 fresh_channel.inactive) ≡ false
  owner_before : is_sound setup (standing (Granted 15) true 0 fresh_channel.inactive) ≡ true
  mark : is_sound setup (marked false) ≡ false
  mark_before : is_sound setup (marked true) ≡ true
  clock : is_sound setup (arbitrating false 1) ≡ false
  clock_before : is_sound setup (arbitrating true 1) ≡ true
  -- an open request is none of the three
  waiting : is_sound setup (with_request (arbitrating false 0) 7 (request_in second)) ≡ true
  waiting_before : is_sound setup (with_request (arbitrating true 0) 7 (request_in second)) ≡ true

-- Document 02, CR 3: why a level waits after these events
abbrev told : List Event → ℕ → Reason
told events l = reason_of setup (after_events setup events (begun setup)).channel l

record Waits : Type 0 where
  -- any number is a level to ask about: none of these is in the set-up
  no_level_lem : told [] 271 ≡ reason.NotPresent
  largest : told [] 4294967295 ≡ reason.NotPresent
  absent : told [] 9 ≡ reason.NotPresent
  -- nothing is posted; 15 wins by default, and is told that it has no request
  nothing : told [] 3 ≡ reason.NoRequest
  by_default : told [] 15 ≡ reason.NoRequest
  wins_so : wins_next fresh_channel 15 ≡ true
  -- an idle 15 owns the channel, and is told the same; level 7, which then asks, is told that 15 holds
  idle_owner : told (Steps 1 ∷ []) 15 ≡ reason.NoRequest
  idle_holder : told (Steps 1 ∷ Post second ∷ []) 7 ≡ reason.Holds 15
  -- two wait: the lowest-numbered wins, and then owns the channel
  outranked : told (Post second ∷ Post first ∷ []) 7 ≡ reason.Outranked 3
  wins : told (Post second ∷ Post first ∷ []) 3 ≡ reason.WinsNext
  owns : told (Post second ∷ Post first ∷ Steps 1 ∷ []) 3 ≡ reason.Owns
  holds : told (Post second ∷ Post first ∷ Steps 1 ∷ []) 7 ≡ reason.Holds 3
  -- level 3 has released and is marked: 7 wins, though 3 has a lower number; while 7 holds and 15 asks, 3 is told that it is inactive
  passed_over : told (Post first ∷ Steps 2 ∷ Post second ∷ Steps 1 ∷ []) 7 ≡ reason.WinsNext
  inactive : told (Post first ∷ Steps 2 ∷ Post second ∷ Steps 1 ∷ []) 3 ≡ reason.Inactive
  inactive_held : told (Post first ∷ Steps 2 ∷ Post second ∷ Post (order_by 15 0 1 4104 2 32) ∷ Steps 2 ∷ []) 3 ≡ reason.Inactive
  -- an unsound channel is refused by 9, of whatever level
  unsound : verdict_number (why_of setup (standing (Granted 15) false 0 fresh_channel.inactive) 271) ≡ 9
  -- and what the owner of a card reads
  words : told_text 3 630 9 (reason.Outranked 3) ≡ codes "event 3, 630 ns, level 9: outranked; level 3 wins next"

-- the lines that the sheet does not have, and a choice that it does not have to make: our own events, over its set-up
record Lines : Type 0 where
  -- an empty sheet
  bad : sheet_print [] ≡ bytes ("S 10 0" ∷ [])
  -- level 15 owns the channel without a request: idle, and then a release; the arbitration after that is not the first
  idle : events_print setup (Steps 2 ∷ Post first ∷ Steps 2 ∷ []) (begun setup)
      ≡ bytes ("G 100 15" ∷ "I 100" ∷ "P 100 3 0" ∷ "R 100 15" ∷ "G 230 3" ∷ "E 230 0" ∷ [])
  -- two levels wait: the lowest-numbered wins
  lowest : events_print setup (Post second ∷ Post first ∷ Steps 1 ∷ []) (begun setup)
      ≡ bytes ("P 0 7 0" ∷ "P 0 3 0" ∷ "G 100 3" ∷ "E 100 0" ∷ [])
  -- the clock would pass 4,000,000,000: the event ends there, the next goes on
  stops : events_print setup (Post first ∷ Steps 3 ∷ Post second ∷ []) (from (arbitrating true 3999999800))
      ≡ bytes ("P 3999999800 3 0" ∷ "G 3999999930 3" ∷ "X 3999999930 6" ∷ "P 3999999930 7 0" ∷ "E 3999999930 0" ∷ [])
  -- level 7 asks inside a transfer of level 3, which does not linger: nothing is released before its end
  not_torn : events_print setup (Post first ∷ Steps 1 ∷ Post second ∷ Steps 2 ∷ []) (begun setup)
      ≡ bytes ("P 0 3 0" ∷ "G 100 3" ∷ "P 100 7 0" ∷ "C 300 3 4097 1 1 1 1 0" ∷ "C 500 3 4098 2 1 2 0 2" ∷ "E 500 3" ∷ [])
  -- "Post at address 4,294,967,295, length 4,096: refusal 4, nothing wraps."
  wraps_not : events_print setup (Post (order_by 3 1 1 4294967295 4096 0) ∷ []) (begun setup) ≡ bytes ("P 0 3 4" ∷ "E 0 0" ∷ [])

-- "A lingering burst asked at its grant ..: 39 transfers at 200 ns, 26 at 300 ns, hold 7,800 both times. W 4, P 1, 1,950 ns: one transfer, hold 7,800.":
-- one cycle earlier the channel is still granted. The last is ours: asked two cycles after its grant, the 7,800 ns count from there.
record Bursts : Type 0 where
  before_39 : (asked_at_grant 4 200 38).channel.phase ≡ Granted 3
  at_39 : (asked_at_grant 4 200 39).channel.phase ≡ Arbitrating
  hold_39 : (asked_at_grant 4 200 39).tally ≡ figures 39 156 7800
  before_26 : (asked_at_grant 4 300 25).channel.phase ≡ Granted 3
  at_26 : (asked_at_grant 4 300 26).channel.phase ≡ Arbitrating
  hold_26 : (asked_at_grant 4 300 26).tally ≡ figures 26 104 7800
  before_one : (asked_at_grant 1 1950 3).channel.phase ≡ Granted 3
  at_one : (asked_at_grant 1 1950 4).channel.phase ≡ Arbitrating
  hold_one : (asked_at_grant 1 1950 4).tally ≡ figures 4 4 7800
  before_later : (asked_later 4 300 2 25).channel.phase ≡ Granted 3
  at_later : (asked_later 4 300 2 26).channel.phase ≡ Arbitrating
  hold_later : (asked_later 4 300 2 26).tally ≡ figures 28 112 7800

-- the sheet as a history: the hypotheses of demand 3's theorems, the log and the stores
pub record History : Type 0 where
  -- sheetrun begins where it begins
  pub begins : begun setup ≡ world fresh_channel no_tally slave master
  pub framed : is_framed setup ≡ true
  pub slave_length : length slave ≡ slave_store_length setup.slaves
  pub master_length : length master ≡ setup.master
  pub log : log_of setup begin acts ≡ entries
  pub slave_then : (after_acts setup begin acts).slave ≡ 0 ∷ 0 ∷ 1 ∷ 2 ∷ 3 ∷ 4 ∷ 5 ∷ 6 ∷ replicate 8 0
  pub master_then : (after_acts setup begin acts).master ≡ master_from 0 16 ++ (0 ∷ 0 ∷ master_from 18 4078)
  pub owner : (after_acts setup begin before).channel.phase ≡ Granted 3
  pub request : has_request (after_acts setup begin before).channel.left 3 ≡ true
  pub owner_until : (after_acts setup begin until).channel.phase ≡ Granted 3
  pub first_moment : first_over setup begin nobody until ≡ since 3 300
  pub asked_3 : asked_bytes setup begin 3 acts ≡ bytes_of3
  pub asked_7 : asked_bytes setup begin 7 acts ≡ bytes_of7
  pub open_3 : (request_of (after_acts setup begin acts).channel 3).left ≡ 0
  pub open_7 : (request_of (after_acts setup begin acts).channel 7).left ≡ 0
  -- the last cycle into byte 3 of the slave store brought a 2; no cycle went into byte 0, or into byte 3 of the master store
  pub into_3 : brought slave_side 3 begin (last_into setup slave_side 3 begin acts) ≡ 2
  pub into_0 : last_into setup slave_side 0 begin acts ≡ start
  pub master_3 : last_into setup master_side 3 begin acts ≡ start
  pub as_runs_lem : acts_over setup begin as_runs ≡ acts

-- all of them at once, as they share most of what is computed
all_computed : Whole × (Lines × (Bursts × (Grants × (Waits × History))))
unfolding codes bytes
    sheet_print sheet body head head_of counted_rows counted_events event step_count number_between numbers_of read_number bytes_of list_at
    events_from event_count setup_of event_at next_event event_from event_of
    all_below any_below first_from is_length is_width is_port transfer_time
    is_row_count is_master_length is_level_in_range is_rising is_last_fifteen level_row_fits levels_fit is_time limit_of is_placed is_slave_in_range are_apart is_apart
    lengths_before slave_row_fits slaves_fit is_framed level_index level_row row_holds slave_index slave_row slave_store_length
    with_request waits drives line_active asks others_ask clear_marks set_asked winner_from
    is_present level_of slave_of start_of is_in_range request_verdict transfer_of allowance_of is_within are_unmarked is_never_granted_sound is_grant_sound is_owner_sound
    is_blank is_request_sound
    are_requests_sound is_mark_sound are_marks_sound is_in_time is_asked_at is_asked_sound is_sound
    post_verdict posted post_of
    route_of rest_after next_time cycle_of is_late is_leaving ending_of clocked freed moved_on cycle_entry cycle_turn arbitration_time granted grant_turn leave_turn
    add_grant add_cycle add_release owner_plan act_plan ready_verdict plan_of step_of carry_of moved_slave moved_master slave_after master_after world_after run_from run_of
    cycle_fields store_place outranks wins_next reason_of why_of
all_computed = (
  record {
    good = refl;
    read = refl;
    written = refl;
    held = refl;
    happens = refl;
    ends = refl;
    log = refl;
  },
  (
    record {
      bad = refl;
      idle = refl;
      lowest = refl;
      stops = refl;
      not_torn = refl;
      wraps_not = refl;
    },
    (
      record {
        before_39 = refl;
        at_39 = refl;
        hold_39 = refl;
        before_26 = refl;
        at_26 = refl;
        hold_26 = refl;
        before_one = refl;
        at_one = refl;
        hold_one = refl;
        before_later = refl;
        at_later = refl;
        hold_later = refl;
      },
      (
        record {
          at_zero = refl;
          last = refl;
          past = refl;
          owner = refl;
          owner_before = refl;
          mark = refl;
          mark_before = refl;
          clock = refl;
          clock_before = refl;
          waiting = refl;
          waiting_before = refl;
        },
        (
          record {
            no_level_lem = refl;
            largest = refl;
            absent = refl;
            nothing = refl;
            by_default = refl;
            wins_so = refl;
            idle_owner = refl;
            idle_holder = refl;
            outranked = refl;
            wins = refl;
            owns = refl;
            holds = refl;
            passed_over = refl;
            inactive = refl;
            inactive_held = refl;
            unsound = refl;
            words = refl;
          },
          record {
            begins = refl;
            framed = refl;
            slave_length = refl;
            master_length = refl;
            log = refl;
            slave_then = refl;
            master_then = refl;
            owner = refl;
            request = refl;
            owner_until = refl;
            first_moment = refl;
            asked_3 = refl;
            asked_7 = refl;
            open_3 = refl;
            open_7 = refl;
            into_3 = refl;
            into_0 = refl;
            master_3 = refl;
            as_runs_lem = refl;
          },
        ),
      ),
    ),
  ),
)

computed : Whole × (Lines × (Bursts × (Grants × History)))
computed = (all_computed.0, (all_computed.1.0, (all_computed.1.1.0, (all_computed.1.1.1.0, all_computed.1.1.1.1.1))))

pub history : History
history = computed.1.1.1.1
