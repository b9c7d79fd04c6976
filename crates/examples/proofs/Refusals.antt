-- "Each enum answer has a definition that gives this paper's number and values for each of its cases. The promises use that definition.": of every call that
-- can be refused, by its contract as the checker has it. Whatever outcome satisfies the contract, its answer, read through the answer's own definition, has the
-- number that the table of specs/Numbers gives; a number's 10 and 11 and a sheet's 10 to 16 are those of the definitions `read_number` and `sheet`.
-- `tests/statements` fails where a call is left out.
use mathlib.Core.Path.{◌≡◌, refl, sym, subst}
use mathlib.Core.List.{[], ◌∷◌}
use lib.ListN.{length}
use seplogic.Ra.Ura.{Ura}
use base.Logic.{SProp, ent, sep, via, fst∗}
use prog.Memory.{Memory}
use prog.Routine.{Routine}
use types.Logic.{Logic}
use contract.Monad.{Fun, fact, fact_mono}
use contract.Lifetimes.{Lfts}
use denote.Triple.Entry.{Args, Res}
use denote.Triple.Clauses.{Ended, Lasts, at_exit}
use Rattle.refusal.specs.declared.Refusal.{Refusal}
use Rattle.std.specs.Prelude.{ℕ, Ok, Result}
use Rattle.refusal.specs.Refusal.{verdict_number}
use Rattle.number.specs.Number.{NumberRead, NumberWritten, read_number, reading_numbers, bytes_of, write_number, writing_numbers}
use Rattle.channel.specs.declared.Judged.{Judged}
use Rattle.channel.specs.Channel.{Shaped}
use Rattle.step.specs.declared.Plan.{Plan}
use Rattle.step.specs.declared.Stepped.{Stepped}
use Rattle.step.specs.declared.Decision.{Decision}
use Rattle.step.specs.declared.Ran.{Ran}
use Rattle.step.specs.declared.Logged.{Logged}
use Rattle.step.specs.Step.{plan_numbers, step_numbers, decision_of}
use Rattle.step.specs.Run.{world}
use Rattle.step.specs.Log.{page}
use Rattle.numbers.specs.declared.Taken.{Taken}
use Rattle.numbers.specs.Numbers.{Part, ◌>>=◌, list_at, number_at, number_between, numbers_at, part_numbers, numbers_of, all_bytes}
use Rattle.frame.specs.declared.Setup.{Setup}
use Rattle.sheet.specs.declared.RowsRead.{RowsRead}
use Rattle.sheet.specs.Sheet.{SheetAnswer, sheet as judged, head_of, read_sheet, write_sheet, sheet_numbers}
use Rattle.image.specs.declared.ChannelRead.{ChannelRead}
use Rattle.image.specs.Layout.{channel_numbers}
use Rattle.image.specs.Read.{Read}
use Rattle.image.specs.Image.{Imaged, imaged_verdict, read_setup, read_channel, write_channel}
use Rattle.lobrinkas.specs.declared.Answer.{Answer}
use Rattle.lobrinkas.specs.declared.Stepped.{Stepped as StepCall}
use Rattle.lobrinkas.specs.declared.Ran.{Ran as RunCall}
use Rattle.lobrinkas.specs.declared.Counted.{Counted as CountCall}
use Rattle.lobrinkas.specs.declared.Told.{Told as WhyCall}
use Rattle.why.specs.declared.Reason.{Reason}
use Rattle.lobrinkas.specs.Calls.{order}
use Rattle.number.specs.contracts as number
use Rattle.numbers.specs.contracts as numbers
use Rattle.cycle.specs.contracts as cycle
use Rattle.channel.specs.contracts as channel
use Rattle.sound.specs.contracts as sound
use Rattle.post.specs.contracts as post
use Rattle.step.specs.contracts as step
use Rattle.why.specs.contracts as why
use Rattle.lent.specs.contracts as lent
use Rattle.sheet.specs.contracts as sheet
use Rattle.image.specs.contracts as image
use Rattle.lobrinkas.specs.contracts as lobrinkas
use Rattle.examples.specs.Numbers.{
  first_number,
  broken,
  unsound,
  other_length,
  request_rows,
  post_rows,
  count_rows,
  step_rows,
  run_rows,
  log_rows,
  written_told,
  sheet_told,
  malformed_image,
  malformed_head,
  image_told,
  set_up_call_rows,
  post_call_rows,
  step_call_rows,
  run_call_rows,
  why_rows,
  why_call_rows,
}
use Rattle.examples.proofs.Unique.{Contract}
use Rattle.examples.proofs.NumberLaws.{
  first,
  set_up_number,
  request_number,
  post_number,
  count_number,
  count_call_number,
  ready_number,
  plan_number,
  step_number,
  run_number,
  log_number,
  written_told_lem,
  sheet_told_lem,
  image_number,
  head_number,
  image_told_lem,
  set_up_call_number,
  post_call_number,
  step_call_number,
  run_call_number,
  why_number,
  why_call_number,
}

-- the part that was read
abbrev read_part : {A : Type 0} → Read A → Part
read_part read = read >>= λ x. Ok x.1

module _ {M : Type 1} {𝓤 : Ura M} (𝓛 : Logic 𝓤) (mem : Memory → SProp 𝓤) (call : Routine → Fun 𝓤) where
  -- a contract tells something of its result
  abbrev Tells : (T : Ended) → Contract 𝓤 T
      → ((κs : Lfts T.signature.lifetimes) → Args T.signature κs → Res T.signature κs → Type 0) → Type 1
  Tells T c K =
      (κs : Lfts T.signature.lifetimes) (a : Args T.signature κs) (g : (c 𝓛 mem call κs a).ghost)
      (r : Res T.signature κs) (ws : Lasts T κs a)
      → ent 𝓤 ((c 𝓛 mem call κs a).ensures g r (at_exit T κs a ws)) (fact 𝓤 (K κs a r))

  -- "result ≡ definition" tells what is so of the definition
  alone : {R : Type 0} (d : R) (K : R → Type 0) → K d → (r : R) → ent 𝓤 (fact 𝓤 (r ≡ d)) (fact 𝓤 (K r))
  alone d K k r = fact_mono 𝓤 (r ≡ d) (K r) (λ p. subst K (sym p) k)

  -- also where it says something of what was lent besides: of one slice, of two, or of two and a tally
  first_of : {R : Type 0} (d : R) (K : R → Type 0) → K d → (r : R) (rest : SProp 𝓤) → ent 𝓤 (sep 𝓤 (fact 𝓤 (r ≡ d)) rest) (fact 𝓤 (K r))
  first_of d K k r rest = via 𝓤 (fact 𝓤 (r ≡ d)) (fst∗ 𝓤 (fact 𝓤 (r ≡ d)) rest) (alone d K k r)

  lent_one : {R : Type 0} (d : R) (K : R → Type 0) → K d → (r : R) (P : Type 0) → ent 𝓤 (sep 𝓤 (fact 𝓤 (r ≡ d)) (fact 𝓤 P)) (fact 𝓤 (K r))
  lent_one d K k r P = first_of d K k r (fact 𝓤 P)

  lent_two : {R : Type 0} (d : R) (K : R → Type 0) → K d → (r : R) (P Q : Type 0)
      → ent 𝓤 (sep 𝓤 (fact 𝓤 (r ≡ d)) (sep 𝓤 (fact 𝓤 P) (fact 𝓤 Q))) (fact 𝓤 (K r))
  lent_two d K k r P Q = first_of d K k r (sep 𝓤 (fact 𝓤 P) (fact 𝓤 Q))

  lent_three : {R : Type 0} (d : R) (K : R → Type 0) → K d → (r : R) (P Q S : Type 0)
      → ent 𝓤 (sep 𝓤 (fact 𝓤 (r ≡ d)) (sep 𝓤 (fact 𝓤 P) (sep 𝓤 (fact 𝓤 Q) (fact 𝓤 S)))) (fact 𝓤 (K r))
  lent_three d K k r P Q S = first_of d K k r (sep 𝓤 (fact 𝓤 P) (sep 𝓤 (fact 𝓤 Q) (fact 𝓤 S)))

  of_set_up : Tells channel.set_up.ended channel.set_up.clauses (λ κs a (r : Judged). verdict_number r.verdict ≡ first_number (broken a.0 ∷ []))
  of_set_up κs a g r ws = alone _ (λ (r : Judged). verdict_number r.verdict ≡ _) (set_up_number a.0) r

  of_post : Tells post.post.ended post.post.clauses
      (λ κs a (r : Judged). verdict_number r.verdict ≡ first_number (post_rows a.0 a.1.0 a.1.1.0))
  of_post κs a g r ws =
      alone _ (λ (r : Judged). verdict_number r.verdict ≡ _) (post_number a.0 a.1.0 a.1.1.0) r

  of_request_verdict : Tells sound.request_verdict.ended sound.request_verdict.clauses
      (λ κs a (r : Result Unit Refusal). verdict_number r ≡ first_number (request_rows a.0 a.1.1.0))
  of_request_verdict κs a g r ws = alone _ (λ (r : Result Unit Refusal). verdict_number r ≡ _) (request_number a.0 a.1.0 a.1.1.0) r

  of_cycle_count : Tells cycle.cycle_count.ended cycle.cycle_count.clauses
      (λ κs a (r : Result ℕ Refusal). verdict_number r ≡ first_number (count_rows a.0 a.1.0 a.1.1.0 a.1.1.1.0))
  of_cycle_count κs a g r ws =
      alone _ (λ (r : Result ℕ Refusal). verdict_number r ≡ _) (count_number a.0 a.1.0 a.1.1.0 a.1.1.1.0) r

  of_ready_verdict : Tells step.ready_verdict.ended step.ready_verdict.clauses
      (λ κs a (r : Result Unit Refusal).
      verdict_number r ≡ first_number (unsound a.0 a.1.0 ∷ other_length a.0 a.1.1.0 a.1.1.1.0 ∷ []))
  of_ready_verdict κs a g r ws =
      alone _ (λ (r : Result Unit Refusal). verdict_number r ≡ _) (ready_number a.0 a.1.0 a.1.1.0 a.1.1.1.0) r

  of_plan_of : Tells step.plan_of.ended step.plan_of.clauses
      (λ κs a (r : Plan). first (plan_numbers r) ≡ first_number (step_rows a.0 a.1.0 a.1.1.0 a.1.1.1.0))
  of_plan_of κs a g r ws =
      alone _ (λ (r : Plan). first (plan_numbers r) ≡ _) (plan_number a.0 a.1.0 a.1.1.0 a.1.1.1.0) r

  of_decide : Tells step.decision_of.ended step.decision_of.clauses
      (λ κs a (r : Decision).
      first (step_numbers r.stepped.answer) ≡ first_number
      (step_rows a.0 a.1.0 (length a.1.1.1.0.now) (length a.1.1.1.1.0.now)))
  unfolding decision_of
  of_decide κs a g r ws =
      alone _ (λ (r : Decision). first (step_numbers r.stepped.answer) ≡ _)
      (step_number a.0 a.1.0 a.1.1.0 a.1.1.1.0.now a.1.1.1.1.0.now) r

  of_step : Tells step.step.ended step.step.clauses
      (λ κs a (r : Stepped).
      first (step_numbers r.answer) ≡ first_number (step_rows a.0 a.1.0 (length a.1.1.1.0.now) (length a.1.1.1.1.0.now)))
  of_step κs a g r ws =
      lent_two _ (λ (r : Stepped). first (step_numbers r.answer) ≡ _)
      (step_number a.0 a.1.0 a.1.1.0 a.1.1.1.0.now a.1.1.1.1.0.now) r _ _

  -- the arrays of a program's channel have a place for each level (`Shaped`), which the list of the logic does not know
  of_run : Tells step.run.ended step.run.clauses
      (λ κs a (r : Ran).
      Shaped a.1.0 → verdict_number r.verdict ≡ first_number
      (run_rows a.0 a.1.1.1.1.1.0 (world a.1.0 a.1.1.0 a.1.1.1.0.now a.1.1.1.1.0.now)))
  of_run κs a g r ws =
      lent_two _ (λ (r : Ran). Shaped a.1.0 → verdict_number r.verdict ≡ _)
      (run_number a.0 a.1.1.1.1.1.0 (world a.1.0 a.1.1.0 a.1.1.1.0.now a.1.1.1.1.0.now)) r _ _

  of_log_run : Tells step.log_run.ended step.log_run.clauses
      (λ κs a (r : Logged).
      Shaped a.1.0 → verdict_number r.ran.verdict ≡ first_number
      (log_rows a.0 a.1.1.1.1.1.1.1.0 (world a.1.0 a.1.1.0 a.1.1.1.0.now a.1.1.1.1.0.now)
      (page a.1.1.1.1.1.0.now a.1.1.1.1.1.1.0)))
  of_log_run κs a g r ws =
      lent_three _ (λ (r : Logged). Shaped a.1.0 → verdict_number r.ran.verdict ≡ _)
      (log_number a.0 a.1.1.1.1.1.1.1.0 (world a.1.0 a.1.1.0 a.1.1.1.0.now a.1.1.1.1.0.now)
      (page a.1.1.1.1.1.0.now a.1.1.1.1.1.1.0)) r _ _ _

  of_lent_step : Tells lent.step.ended lent.step.clauses
      (λ κs a (r : Stepped).
      first (step_numbers r.answer) ≡ first_number (step_rows a.0 a.1.0 (length a.1.1.1.0.now) (length a.1.1.1.1.0.now)))
  of_lent_step κs a g r ws =
      lent_three _ (λ (r : Stepped). first (step_numbers r.answer) ≡ _)
      (step_number a.0 a.1.0 a.1.1.0.now a.1.1.1.0.now a.1.1.1.1.0.now) r _ _ _

  of_lent_run : Tells lent.run.ended lent.run.clauses
      (λ κs a (r : Ran).
      Shaped a.1.0 → verdict_number r.verdict ≡ first_number
      (run_rows a.0 a.1.1.1.1.1.0 (world a.1.0 a.1.1.0.now a.1.1.1.0.now a.1.1.1.1.0.now)))
  of_lent_run κs a g r ws =
      lent_three _ (λ (r : Ran). Shaped a.1.0 → verdict_number r.verdict ≡ _)
      (run_number a.0 a.1.1.1.1.1.0 (world a.1.0 a.1.1.0.now a.1.1.1.0.now a.1.1.1.1.0.now)) r _ _ _

  -- 10 and 11 are in `read_number`, so this says no more than its equation; of a sheet 10 to 16 are in `sheet`, with their places
  of_read_number : Tells number.read_number.ended number.read_number.clauses
      (λ κs a (r : NumberRead). reading_numbers r ≡ reading_numbers (read_number a.0.now a.1.0))
  of_read_number κs a g r ws = alone _ (λ (r : NumberRead). reading_numbers r ≡ reading_numbers (read_number a.0.now a.1.0)) refl r

  of_number_at : Tells numbers.Source.number_at.ended numbers.Source.number_at.clauses
      (λ κs a (r : NumberRead). reading_numbers r ≡ reading_numbers (number_at a.0 a.1.0))
  of_number_at κs a g r ws = alone _ (λ (r : NumberRead). reading_numbers r ≡ _) refl r

  of_number_between : Tells numbers.Source.number_between.ended numbers.Source.number_between.clauses
      (λ κs a (r : NumberRead). reading_numbers r ≡ reading_numbers
      (number_between (number_at a.0) a.1.0 a.1.1.0 a.1.1.1.0 a.1.1.1.1.0))
  of_number_between κs a g r ws = alone _ (λ (r : NumberRead). reading_numbers r ≡ _) refl r

  of_numbers_at : Tells numbers.Source.numbers_at.ended numbers.Source.numbers_at.clauses
      (λ κs a (r : Taken). part_numbers r.part
      ≡ part_numbers (numbers_at (number_at a.0) a.1.0 a.1.1.0).part)
  of_numbers_at κs a g r ws = alone _ (λ (r : Taken). part_numbers r.part ≡ _) refl r

  of_head : Tells sheet.head_of.ended sheet.head_of.clauses (λ κs a (r : RowsRead). part_numbers r.part ≡ part_numbers (head_of a.0.now).part)
  of_head κs a g r ws = alone _ (λ (r : RowsRead). part_numbers r.part ≡ _) refl r

  of_write_number : Tells number.write_number.ended number.write_number.clauses
      (λ κs a (r : NumberWritten). writing_numbers r ≡ written_told a.0.now a.1.0 (bytes_of a.1.1.0))
  unfolding write_number
  of_write_number κs a g r ws =
      lent_one _ (λ (r : NumberWritten). writing_numbers r ≡ _) (written_told_lem a.0.now a.1.0 (bytes_of a.1.1.0)) r _

  of_copy_numbers : Tells numbers.copy_numbers.ended numbers.copy_numbers.clauses
      (λ κs a (r : NumberWritten). writing_numbers r ≡ written_told a.1.0.now 0 (numbers_of a.0.now))
  of_copy_numbers κs a g r ws =
      lent_one _ (λ (r : NumberWritten). writing_numbers r ≡ _) (written_told_lem a.1.0.now 0 (numbers_of a.0.now)) r _

  of_write_numbers : Tells numbers.write_numbers.ended numbers.write_numbers.clauses
      (λ κs a (r : NumberWritten). writing_numbers r ≡ written_told a.1.0.now a.1.1.0 (all_bytes a.0.now))
  of_write_numbers κs a g r ws =
      lent_one _ (λ (r : NumberWritten). writing_numbers r ≡ _) (written_told_lem a.1.0.now a.1.1.0 (all_bytes a.0.now)) r _

  of_read_sheet : Tells sheet.read_sheet.ended sheet.read_sheet.clauses
      (λ κs a (r : SheetAnswer).
      sheet_numbers r ≡ sheet_told (judged (read_number a.0.now) (length a.0.now)) (length (numbers_of a.0.now)) (length a.1.0.now))
  unfolding read_sheet
  of_read_sheet κs a g r ws =
      lent_one _ (λ (r : SheetAnswer). sheet_numbers r ≡ _)
      (sheet_told_lem (judged (read_number a.0.now) (length a.0.now)) (length (numbers_of a.0.now)) (length a.1.0.now)) r _

  of_write_sheet : Tells sheet.write_sheet.ended sheet.write_sheet.clauses
      (λ κs a (r : SheetAnswer).
      sheet_numbers r ≡ sheet_told (judged (list_at a.0.now) (length a.0.now)) (length (all_bytes a.0.now)) (length a.1.0.now))
  unfolding write_sheet
  of_write_sheet κs a g r ws =
      lent_one _ (λ (r : SheetAnswer). sheet_numbers r ≡ _)
      (sheet_told_lem (judged (list_at a.0.now) (length a.0.now)) (length (all_bytes a.0.now)) (length a.1.0.now)) r _

  -- the parts of an image have the faults of `read_setup` and `read_channel`, with their places; an image as a whole has 18 for each of them
  of_read_setup : Tells image.read_setup.ended image.read_setup.clauses
      (λ κs a (r : Read Setup). part_numbers (read_part r) ≡ part_numbers (read_part (read_setup a.0.now a.1.0)))
  of_read_setup κs a g r ws = alone _ (λ (r : Read Setup). part_numbers (read_part r) ≡ _) refl r

  of_read_channel : Tells image.read_channel.ended image.read_channel.clauses
      (λ κs a (r : ChannelRead). part_numbers r.part ≡ part_numbers (read_channel a.0.now a.1.0 a.1.1.0).part)
  of_read_channel κs a g r ws = alone _ (λ (r : ChannelRead). part_numbers r.part ≡ _) refl r

  of_read_image : Tells image.read_image.ended image.read_image.clauses
      (λ κs a (r : Imaged). verdict_number (imaged_verdict r) ≡ first_number (malformed_image a.0.now a.1.0 ∷ []))
  of_read_image κs a g r ws = alone _ (λ (r : Imaged). verdict_number (imaged_verdict r) ≡ _) (image_number a.0.now a.1.0) r

  of_read_head : Tells image.read_head.ended image.read_head.clauses
      (λ κs a (r : Imaged). verdict_number (imaged_verdict r) ≡ first_number (malformed_head a.0.now a.1.0 ∷ []))
  of_read_head κs a g r ws = alone _ (λ (r : Imaged). verdict_number (imaged_verdict r) ≡ _) (head_number a.0.now a.1.0) r

  of_write_channel : Tells image.write_channel.ended image.write_channel.clauses
      (λ κs a (r : NumberWritten). writing_numbers r ≡ written_told a.1.0.now a.1.1.0 (all_bytes (channel_numbers a.0)))
  unfolding write_channel
  of_write_channel κs a g r ws =
      lent_one _ (λ (r : NumberWritten). writing_numbers r ≡ _) (written_told_lem a.1.0.now a.1.1.0 (all_bytes (channel_numbers a.0))) r _

  of_write_image : Tells image.write_image.ended image.write_image.clauses
      (λ κs a (r : NumberWritten). writing_numbers r ≡ image_told a.0 a.1.0 a.1.1.0.now)
  of_write_image κs a g r ws =
      lent_one _ (λ (r : NumberWritten). writing_numbers r ≡ _) (image_told_lem a.0 a.1.0 a.1.1.0.now) r _

  -- the calls for C: what they answer is the number itself
  of_c_set_up : Tells lobrinkas.lobrinkas_set_up.ended lobrinkas.lobrinkas_set_up.clauses
      (λ κs a (r : Answer). r.refusal ≡ first_number (set_up_call_rows a.0.now a.1.0.now a.1.1.0))
  of_c_set_up κs a g r ws =
      lent_one _ (λ (r : Answer). r.refusal ≡ _) (set_up_call_number a.0.now a.1.0.now a.1.1.0) r _

  of_c_post : Tells lobrinkas.lobrinkas_post.ended lobrinkas.lobrinkas_post.clauses
      (λ κs a (r : Answer). r.refusal ≡ first_number
      (post_call_rows a.0.now a.1.0
      (order a.1.1.0 a.1.1.1.0 a.1.1.1.1.0 a.1.1.1.1.1.0 a.1.1.1.1.1.1.0 a.1.1.1.1.1.1.1.0)))
  of_c_post κs a g r ws =
      lent_one _ (λ (r : Answer). r.refusal ≡ _)
      (post_call_number a.0.now a.1.0
      (order a.1.1.0 a.1.1.1.0 a.1.1.1.1.0 a.1.1.1.1.1.0 a.1.1.1.1.1.1.0 a.1.1.1.1.1.1.1.0)) r _

  of_c_step : Tells lobrinkas.lobrinkas_step.ended lobrinkas.lobrinkas_step.clauses
      (λ κs a (r : StepCall). r.refusal ≡ first_number
      (step_call_rows a.0.now a.1.0 a.1.1.0.now a.1.1.1.0.now a.1.1.1.1.0))
  of_c_step κs a g r ws =
      lent_three _ (λ (r : StepCall). r.refusal ≡ _)
      (step_call_number a.0.now a.1.0 a.1.1.0.now a.1.1.1.0.now a.1.1.1.1.0) r _ _ _

  of_c_run : Tells lobrinkas.lobrinkas_run.ended lobrinkas.lobrinkas_run.clauses
      (λ κs a (r : RunCall). r.refusal ≡ first_number
      (run_call_rows a.0.now a.1.0 a.1.1.0.now a.1.1.1.0.now a.1.1.1.1.1.0))
  of_c_run κs a g r ws =
      lent_three _ (λ (r : RunCall). r.refusal ≡ _)
      (run_call_number a.0.now a.1.0 a.1.1.0.now a.1.1.1.0.now a.1.1.1.1.0 a.1.1.1.1.1.0) r _ _ _

  of_c_cycle_count : Tells lobrinkas.lobrinkas_cycle_count.ended lobrinkas.lobrinkas_cycle_count.clauses
      (λ κs a (r : CountCall). r.refusal ≡ first_number (count_rows a.0 a.1.0 a.1.1.0 a.1.1.1.0))
  of_c_cycle_count κs a g r ws =
      alone _ (λ (r : CountCall). r.refusal ≡ _) (count_call_number a.0 a.1.0 a.1.1.0 a.1.1.1.0) r

  -- why a level waits
  of_why : Tells why.why.ended why.why.clauses (λ κs a (r : Result Reason Refusal). verdict_number r ≡ first_number (why_rows a.0 a.1.0))
  of_why κs a g r ws = alone _ (λ (r : Result Reason Refusal). verdict_number r ≡ _) (why_number a.0 a.1.0 a.1.1.0) r

  of_c_why : Tells lobrinkas.lobrinkas_why.ended lobrinkas.lobrinkas_why.clauses
      (λ κs a (r : WhyCall). r.refusal ≡ first_number (why_call_rows a.0.now a.1.0))
  of_c_why κs a g r ws = alone _ (λ (r : WhyCall). r.refusal ≡ _) (why_call_number a.0.now a.1.0 a.1.1.0) r
