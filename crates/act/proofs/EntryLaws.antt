-- No two entries share their letter and numbers. Assumes nothing.
use mathlib.Core.Path.{◌≡◌, refl, ap}
use lib.ListN.{length, drop}
use Rattle.std.specs.Prelude.{None, Option, Some, ℕ}
use Rattle.basics.proofs.SameLaws.{at, apart}
use Rattle.act.specs.declared.Ending.{Ending}
use Rattle.act.specs.declared.Ending.TheVariants.{Kept, Released, Marked}
use Rattle.act.specs.declared.CycleEntry.{CycleEntry}
use Rattle.act.specs.declared.Entry.{Entry}
use Rattle.act.specs.declared.Entry.TheVariants.{Idle, Grant, Cycle, Release}
use Rattle.act.specs.Entry.{ending_number, cycle_fields, hold_numbers, ending_hold, entry_numbers}

pub one_hold : (a b : Option ℕ) → hold_numbers a ≡ hold_numbers b → a ≡ b
one_hold None None e = refl
one_hold None (Some y) e = apart (ap length e) refl
one_hold (Some x) None e = apart (ap length e) refl
one_hold (Some x) (Some y) e = ap Some (at 0 e)

pub one_ending : (a b : Ending) → ending_number a ≡ ending_number b → ending_hold a ≡ ending_hold b → a ≡ b
one_ending Kept Kept n h = refl
one_ending Kept (Released y) n h = apart n refl
one_ending Kept (Marked y) n h = apart n refl
one_ending (Released x) Kept n h = apart n refl
one_ending (Released x) (Released y) n h = ap Released (one_hold x y h)
one_ending (Released x) (Marked y) n h = apart n refl
one_ending (Marked x) Kept n h = apart n refl
one_ending (Marked x) (Released y) n h = apart n refl
one_ending (Marked x) (Marked y) n h = ap Marked (at 0 h)

one_cycle : (a b : CycleEntry) → entry_numbers (Cycle a) ≡ entry_numbers (Cycle b) → a ≡ b
unfolding cycle_fields
one_cycle a b e =
    let ending = one_ending a.ending b.ending (at 8 e) (ap (drop 9) e) in
    λ i.
    record {
      clock = at 1 e i;
      level = at 2 e i;
      address = at 3 e i;
      bytes = at 4 e i;
      direction = at 5 e i;
      master_lane = at 6 e i;
      slave_lane = at 7 e i;
      ending = ending i;
    }

pub one_entry : (a b : Entry) → entry_numbers a ≡ entry_numbers b → a ≡ b
one_entry (Idle c) (Idle d) e = ap Idle (at 1 e)
one_entry (Idle c) (Grant d o) e = apart (at 0 e) refl
one_entry (Idle c) (Cycle d) e = apart (at 0 e) refl
one_entry (Idle c) (Release d l h) e = apart (at 0 e) refl
one_entry (Grant c o) (Idle d) e = apart (at 0 e) refl
one_entry (Grant c o) (Grant d p) e = let x = at 1 e in let y = at 2 e in λ i. Grant (x i) (y i)
one_entry (Grant c o) (Cycle d) e = apart (at 0 e) refl
one_entry (Grant c o) (Release d l h) e = apart (at 0 e) refl
one_entry (Cycle c) (Idle d) e = apart (at 0 e) refl
one_entry (Cycle c) (Grant d o) e = apart (at 0 e) refl
one_entry (Cycle c) (Cycle d) e = ap Cycle (one_cycle c d e)
one_entry (Cycle c) (Release d l h) e = apart (at 0 e) refl
one_entry (Release c l h) (Idle d) e = apart (at 0 e) refl
one_entry (Release c l h) (Grant d o) e = apart (at 0 e) refl
one_entry (Release c l h) (Cycle d) e = apart (at 0 e) refl
one_entry (Release c l h) (Release d m k) e =
    let x = at 1 e in let y = at 2 e in let z = one_hold h k (ap (drop 3) e) in λ i. Release (x i) (y i) (z i)
