-- No two plans share their numbers, and no two answers. Assumes nothing.
use mathlib.Core.Path.{◌≡◌, refl, sym, ap}
use lib.ListN.{drop}
use Rattle.std.specs.Prelude.{Err, Ok, Result}
use Rattle.act.specs.declared.Entry.{Entry}
use Rattle.refusal.specs.declared.Refusal.{Refusal}
use Rattle.basics.proofs.SameLaws.{at, apart}
use Rattle.refusal.proofs.NumberLaws.{one_number, not_zero}
use Rattle.act.proofs.EntryLaws.{one_entry}
use Rattle.step.specs.declared.Plan.{Plan}
use Rattle.step.specs.declared.Plan.TheVariants.{Idle, Refused, Grant, Leave, Cycle}
use Rattle.step.specs.Step.{plan_numbers, step_numbers}

pub one_plan : (a b : Plan) → plan_numbers a ≡ plan_numbers b → a ≡ b
one_plan (Refused a) (Refused b) e = ap Refused (one_number a b (at 0 e))
one_plan (Refused a) Idle e = absurd (not_zero a (at 0 e))
one_plan (Refused a) (Grant w) e = absurd (not_zero a (at 0 e))
one_plan (Refused a) (Leave o) e = absurd (not_zero a (at 0 e))
one_plan (Refused a) (Cycle o) e = absurd (not_zero a (at 0 e))
one_plan Idle (Refused b) e = absurd (not_zero b (sym (at 0 e)))
one_plan Idle Idle e = refl
one_plan Idle (Grant w) e = apart (at 1 e) refl
one_plan Idle (Leave o) e = apart (at 1 e) refl
one_plan Idle (Cycle o) e = apart (at 1 e) refl
one_plan (Grant v) (Refused b) e = absurd (not_zero b (sym (at 0 e)))
one_plan (Grant v) Idle e = apart (at 1 e) refl
one_plan (Grant v) (Grant w) e = ap Grant (at 2 e)
one_plan (Grant v) (Leave o) e = apart (at 1 e) refl
one_plan (Grant v) (Cycle o) e = apart (at 1 e) refl
one_plan (Leave p) (Refused b) e = absurd (not_zero b (sym (at 0 e)))
one_plan (Leave p) Idle e = apart (at 1 e) refl
one_plan (Leave p) (Grant w) e = apart (at 1 e) refl
one_plan (Leave p) (Leave o) e = ap Leave (at 2 e)
one_plan (Leave p) (Cycle o) e = apart (at 1 e) refl
one_plan (Cycle p) (Refused b) e = absurd (not_zero b (sym (at 0 e)))
one_plan (Cycle p) Idle e = apart (at 1 e) refl
one_plan (Cycle p) (Grant w) e = apart (at 1 e) refl
one_plan (Cycle p) (Leave o) e = apart (at 1 e) refl
one_plan (Cycle p) (Cycle o) e = ap Cycle (at 2 e)

pub one_answer : (a b : Result Entry Refusal) → step_numbers a ≡ step_numbers b → a ≡ b
one_answer (Ok x) (Ok y) e = ap Ok (one_entry x y (ap (drop 1) e))
one_answer (Ok x) (Err b) e = absurd (not_zero b (sym (at 0 e)))
one_answer (Err a) (Ok y) e = absurd (not_zero a (at 0 e))
one_answer (Err a) (Err b) e = ap Err (one_number a b (at 0 e))
