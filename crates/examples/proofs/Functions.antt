-- "Show that no two differing outcomes satisfy a statement.": of the contracts themselves, as the checker has them, for every public function, crate by
-- crate. Of two outcomes of one call that satisfy its contract, the results are the same, and so are the contents at exit of what was lent.
use mathlib.Core.Path.{refl}
use seplogic.Ra.Ura.{Ura}
use base.Logic.{SProp}
use prog.Memory.{Memory}
use prog.Routine.{Routine}
use types.Logic.{Logic}
use contract.Monad.{Fun}
use denote.Triple.Clauses.{Ended}
use Rattle.frame.specs.Find.{StartFits}
use Rattle.refusal.specs.contracts as refusal
use Rattle.basics.specs.contracts as basics
use Rattle.number.specs.contracts as number
use Rattle.numbers.specs.contracts as numbers
use Rattle.cycle.specs.contracts as cycle
use Rattle.frame.specs.contracts as frame
use Rattle.channel.specs.contracts as channel
use Rattle.act.specs.contracts as act
use Rattle.sound.specs.contracts as sound
use Rattle.post.specs.contracts as post
use Rattle.tally.specs.contracts as tally
use Rattle.step.specs.contracts as step
use Rattle.why.specs.contracts as why
use Rattle.whyline.specs.contracts as whyline
use Rattle.lent.specs.contracts as lent
use Rattle.logline.specs.contracts as logline
use Rattle.sheet.specs.contracts as sheet
use Rattle.sheetlist.specs.contracts as sheetlist
use Rattle.image.specs.contracts as image
use Rattle.lobrinkas.specs.contracts as lobrinkas
use Rattle.sheethost.specs.contracts as sheethost
use Rattle.examples.proofs.Unique as unique
use Rattle.examples.proofs.Unique.{Contract, alone, only_lent, only_two, lent_one, lent_two, lent_three, besides}

module _ {M : Type 1} {𝓤 : Ura M} (𝓛 : Logic 𝓤) (mem : Memory → SProp 𝓤) (call : Routine → Fun 𝓤) where
  abbrev One : (T : Ended) → Contract 𝓤 T → Type 1
  One = unique.One 𝓛 mem call

  of_refusal : One refusal.refusal_number.ended refusal.refusal_number.clauses
      × One refusal.verdict_number.ended refusal.verdict_number.clauses
      × One refusal.is_accepted.ended refusal.is_accepted.clauses
  of_refusal = (
    λ κs a g. alone 𝓤 _ (λ v w. refl),
    λ κs a g. alone 𝓤 _ (λ v w. refl),
    λ κs a g. alone 𝓤 _ (λ v w. refl),
  )

  of_basics : One basics.smaller.ended basics.smaller.clauses
      × One basics.less.ended basics.less.clauses
      × One basics.remainder.ended basics.remainder.clauses
      × One basics.quotient.ended basics.quotient.clauses
  of_basics = (
    λ κs a g. alone 𝓤 _ (λ v w. refl),
    λ κs a g. alone 𝓤 _ (λ v w. refl),
    λ κs a g. alone 𝓤 _ (λ v w. refl),
    λ κs a g. alone 𝓤 _ (λ v w. refl),
  )

  of_number : One number.read_number.ended number.read_number.clauses
      × One number.number_size.ended number.number_size.clauses
      × One number.write_number.ended number.write_number.clauses
  of_number = (
    λ κs a g. alone 𝓤 _ (λ v w. refl),
    λ κs a g. alone 𝓤 _ (λ v w. refl),
    λ κs a g. lent_one 𝓤 _ _ (λ ws. ws.0) (λ v w p i. (p i, (tt, (tt, tt)))),
  )

  of_numbers : One numbers.Source.number_at.ended numbers.Source.number_at.clauses
      × One numbers.Source.length_of.ended numbers.Source.length_of.clauses
      × One numbers.Source.number_between.ended numbers.Source.number_between.clauses
      × One numbers.Source.numbers_at.ended numbers.Source.numbers_at.clauses
      × One numbers.count_numbers.ended numbers.count_numbers.clauses
      × One numbers.copy_numbers.ended numbers.copy_numbers.clauses
      × One numbers.bytes_size.ended numbers.bytes_size.clauses
      × One numbers.write_numbers.ended numbers.write_numbers.clauses
  of_numbers = (
    λ κs a g. alone 𝓤 _ (λ v w. refl),
    λ κs a g. alone 𝓤 _ (λ v w. refl),
    λ κs a g. alone 𝓤 _ (λ v w. refl),
    λ κs a g. alone 𝓤 _ (λ v w. refl),
    λ κs a g. alone 𝓤 _ (λ v w. refl),
    λ κs a g. lent_one 𝓤 _ _ (λ ws. ws.1.0) (λ v w p i. (tt, (p i, tt))),
    λ κs a g. alone 𝓤 _ (λ v w. refl),
    λ κs a g. lent_one 𝓤 _ _ (λ ws. ws.1.0) (λ v w p i. (tt, (p i, (tt, tt)))),
  )

  of_cycle : One cycle.is_width.ended cycle.is_width.clauses
      × One cycle.is_port.ended cycle.is_port.clauses
      × One cycle.is_length.ended cycle.is_length.clauses
      × One cycle.narrower_of.ended cycle.narrower_of.clauses
      × One cycle.tabled_length.ended cycle.tabled_length.clauses
      × One cycle.cycle_length.ended cycle.cycle_length.clauses
      × One cycle.transfer_length.ended cycle.transfer_length.clauses
      × One cycle.is_transfer_end.ended cycle.is_transfer_end.clauses
      × One cycle.transfer_cycles.ended cycle.transfer_cycles.clauses
      × One cycle.transfer_time.ended cycle.transfer_time.clauses
      × One cycle.master_lane.ended cycle.master_lane.clauses
      × One cycle.slave_lane.ended cycle.slave_lane.clauses
      × One cycle.cycle_count.ended cycle.cycle_count.clauses
  of_cycle = (
    λ κs a g. alone 𝓤 _ (λ v w. refl),
    λ κs a g. alone 𝓤 _ (λ v w. refl),
    λ κs a g. alone 𝓤 _ (λ v w. refl),
    λ κs a g. alone 𝓤 _ (λ v w. refl),
    λ κs a g. alone 𝓤 _ (λ v w. refl),
    λ κs a g. alone 𝓤 _ (λ v w. refl),
    λ κs a g. alone 𝓤 _ (λ v w. refl),
    λ κs a g. alone 𝓤 _ (λ v w. refl),
    λ κs a g. alone 𝓤 _ (λ v w. refl),
    λ κs a g. alone 𝓤 _ (λ v w. refl),
    λ κs a g. alone 𝓤 _ (λ v w. refl),
    λ κs a g. alone 𝓤 _ (λ v w. refl),
    λ κs a g. alone 𝓤 _ (λ v w. refl),
  )

  of_frame : One frame.allowance_of.ended frame.allowance_of.clauses
      × One frame.is_within.ended frame.is_within.clauses
      × One frame.is_row_count.ended frame.is_row_count.clauses
      × One frame.is_master_length.ended frame.is_master_length.clauses
      × One frame.level_fits.ended frame.level_fits.clauses
      × One frame.levels_fit.ended frame.levels_fit.clauses
      × One frame.row_fits.ended frame.row_fits.clauses
      × One frame.no_rows.ended frame.no_rows.clauses
      × One frame.row_size.ended frame.row_size.clauses
      × One frame.with_count.ended frame.with_count.clauses
      × One frame.put_row.ended frame.put_row.clauses
      × One frame.fitting_store.ended frame.fitting_store.clauses
      × One frame.framed_store.ended frame.framed_store.clauses
      × One frame.is_framed.ended frame.is_framed.clauses
      × One frame.has_burst.ended frame.has_burst.clauses
      × One frame.is_fair.ended frame.is_fair.clauses
      × One frame.has_linger.ended frame.has_linger.clauses
      × One frame.level_row.ended frame.level_row.clauses
      × One frame.is_present.ended frame.is_present.clauses
      × One frame.level_of.ended frame.level_of.clauses
      × One frame.row_holds.ended frame.row_holds.clauses
      × One frame.slave_row.ended frame.slave_row.clauses
      × One frame.slave_store_length.ended frame.slave_store_length.clauses
      × One frame.store_place.ended frame.store_place.clauses
  of_frame = (
    λ κs a g. alone 𝓤 _ (λ v w. refl),
    λ κs a g. alone 𝓤 _ (λ v w. refl),
    λ κs a g. alone 𝓤 _ (λ v w. refl),
    λ κs a g. alone 𝓤 _ (λ v w. refl),
    λ κs a g. alone 𝓤 _ (λ v w. refl),
    λ κs a g. alone 𝓤 _ (λ v w. refl),
    λ κs a g. alone 𝓤 _ (λ v w. refl),
    λ κs a g. alone 𝓤 _ (λ v w. refl),
    λ κs a g. alone 𝓤 _ (λ v w. refl),
    λ κs a g. alone 𝓤 _ (λ v w. refl),
    λ κs a g. alone 𝓤 _ (λ v w. refl),
    λ κs a g. alone 𝓤 _ (λ v w. refl),
    λ κs a g. alone 𝓤 _ (λ v w. refl),
    λ κs a g. alone 𝓤 _ (λ v w. refl),
    λ κs a g. alone 𝓤 _ (λ v w. refl),
    λ κs a g. alone 𝓤 _ (λ v w. refl),
    λ κs a g. alone 𝓤 _ (λ v w. refl),
    λ κs a g. alone 𝓤 _ (λ v w. refl),
    λ κs a g. alone 𝓤 _ (λ v w. refl),
    λ κs a g. alone 𝓤 _ (λ v w. refl),
    λ κs a g. alone 𝓤 _ (λ v w. refl),
    λ κs a g. besides 𝓤 _ StartFits (λ v w. refl),
    λ κs a g. alone 𝓤 _ (λ v w. refl),
    λ κs a g. alone 𝓤 _ (λ v w. refl),
  )

  of_channel : One channel.owner_of.ended channel.owner_of.clauses
      × One channel.owner_place.ended channel.owner_place.clauses
      × One channel.no_request.ended channel.no_request.clauses
      × One channel.request_of.ended channel.request_of.clauses
      × One channel.with_request.ended channel.with_request.clauses
      × One channel.slave_of.ended channel.slave_of.clauses
      × One channel.line_active.ended channel.line_active.clauses
      × One channel.winner_from.ended channel.winner_from.clauses
      × One channel.asked_if.ended channel.asked_if.clauses
      × One channel.line_rule.ended channel.line_rule.clauses
      × One channel.fresh_channel.ended channel.fresh_channel.clauses
      × One channel.set_up.ended channel.set_up.clauses
  of_channel = (
    λ κs a g. alone 𝓤 _ (λ v w. refl),
    λ κs a g. alone 𝓤 _ (λ v w. refl),
    λ κs a g. alone 𝓤 _ (λ v w. refl),
    λ κs a g. alone 𝓤 _ (λ v w. refl),
    λ κs a g. alone 𝓤 _ (λ v w. refl),
    λ κs a g. alone 𝓤 _ (λ v w. refl),
    λ κs a g. alone 𝓤 _ (λ v w. refl),
    λ κs a g. alone 𝓤 _ (λ v w. refl),
    λ κs a g. alone 𝓤 _ (λ v w. refl),
    λ κs a g. alone 𝓤 _ (λ v w. refl),
    λ κs a g. alone 𝓤 _ (λ v w. refl),
    λ κs a g. alone 𝓤 _ (λ v w. refl),
  )

  of_act : One act.route_of.ended act.route_of.clauses
      × One act.released_by.ended act.released_by.clauses
      × One act.is_kept.ended act.is_kept.clauses
      × One act.is_marked.ended act.is_marked.clauses
      × One act.arbitration_time.ended act.arbitration_time.clauses
  of_act = (
    λ κs a g. alone 𝓤 _ (λ v w. refl),
    λ κs a g. alone 𝓤 _ (λ v w. refl),
    λ κs a g. alone 𝓤 _ (λ v w. refl),
    λ κs a g. alone 𝓤 _ (λ v w. refl),
    λ κs a g. alone 𝓤 _ (λ v w. refl),
  )

  of_sound : One sound.request_verdict.ended sound.request_verdict.clauses
      × One sound.transfer_of.ended sound.transfer_of.clauses
      × One sound.is_sound.ended sound.is_sound.clauses
      × One sound.sound_store.ended sound.sound_store.clauses
  of_sound = (
    λ κs a g. alone 𝓤 _ (λ v w. refl),
    λ κs a g. alone 𝓤 _ (λ v w. refl),
    λ κs a g. alone 𝓤 _ (λ v w. refl),
    λ κs a g. alone 𝓤 _ (λ v w. refl),
  )

  of_post : One post.post.ended post.post.clauses
  of_post = λ κs a g. alone 𝓤 _ (λ v w. refl)

  of_tally : One tally.no_tally.ended tally.no_tally.clauses
      × One tally.add_grant.ended tally.add_grant.clauses
      × One tally.add_cycle.ended tally.add_cycle.clauses
      × One tally.add_release.ended tally.add_release.clauses
      × One tally.add_entry.ended tally.add_entry.clauses
      × One tally.count.ended tally.count.clauses
  of_tally = (
    λ κs a g. alone 𝓤 _ (λ v w. refl),
    λ κs a g. alone 𝓤 _ (λ v w. refl),
    λ κs a g. alone 𝓤 _ (λ v w. refl),
    λ κs a g. alone 𝓤 _ (λ v w. refl),
    λ κs a g. alone 𝓤 _ (λ v w. refl),
    λ κs a g. only_lent 𝓤 _ (λ ws. ws.0) (λ v w p i. (p i, (tt, tt))),
  )

  of_step : One step.ready_verdict.ended step.ready_verdict.clauses
      × One step.plan_of.ended step.plan_of.clauses
      × One step.decision_of.ended step.decision_of.clauses
      × One step.carry_bytes.ended step.carry_bytes.clauses
      × One step.step.ended step.step.clauses
      × One step.run.ended step.run.clauses
      × One step.log_run.ended step.log_run.clauses
  of_step = (
    λ κs a g. alone 𝓤 _ (λ v w. refl),
    λ κs a g. alone 𝓤 _ (λ v w. refl),
    λ κs a g. alone 𝓤 _ (λ v w. refl),
    λ κs a g. only_two 𝓤 _ _ (λ ws. ws.1.0) (λ ws. ws.1.1.0) (λ v w p q i. (tt, (p i, (q i, tt)))),
    λ κs a g. lent_two 𝓤 _ _ _ (λ ws. ws.1.1.1.0) (λ ws. ws.1.1.1.1.0) (λ v w p q i. (tt, (tt, (tt, (p i, (q i, tt)))))),
    λ κs a g. lent_two 𝓤 _ _ _ (λ ws. ws.1.1.1.0) (λ ws. ws.1.1.1.1.0) (λ v w p q i. (tt, (tt, (tt, (p i, (q i, (tt, tt))))))),
    λ κs a g.
        lent_three 𝓤 _ _ _ _ (λ ws. ws.1.1.1.0) (λ ws. ws.1.1.1.1.0) (λ ws. ws.1.1.1.1.1.0)
        (λ v w p q r i. (tt, (tt, (tt, (p i, (q i, (r i, (tt, (tt, tt))))))))),
  )

  of_lent : One lent.step.ended lent.step.clauses
      × One lent.run.ended lent.run.clauses
  of_lent = (
    λ κs a g.
        lent_three 𝓤 _ _ _ _ (λ ws. ws.1.1.0) (λ ws. ws.1.1.1.0) (λ ws. ws.1.1.1.1.0)
        (λ v w p q r i. (tt, (tt, (p i, (q i, (r i, tt)))))),
    λ κs a g.
        lent_three 𝓤 _ _ _ _ (λ ws. ws.1.1.0) (λ ws. ws.1.1.1.0) (λ ws. ws.1.1.1.1.0)
        (λ v w p q r i. (tt, (tt, (p i, (q i, (r i, (tt, tt))))))),
  )

  of_logline : One logline.has_room.ended logline.has_room.clauses
      × One logline.put_entry.ended logline.put_entry.clauses
      × One logline.put_post.ended logline.put_post.clauses
      × One logline.put_stop.ended logline.put_stop.clauses
      × One logline.put_end.ended logline.put_end.clauses
      × One logline.put_fault.ended logline.put_fault.clauses
      × One logline.put_decimal.ended logline.put_decimal.clauses
  of_logline = (
    λ κs a g. alone 𝓤 _ (λ v w. refl),
    λ κs a g. lent_one 𝓤 _ _ (λ ws. ws.0) (λ v w p i. (p i, (tt, (tt, tt)))),
    λ κs a g. lent_one 𝓤 _ _ (λ ws. ws.0) (λ v w p i. (p i, (tt, (tt, (tt, (tt, tt)))))),
    λ κs a g. lent_one 𝓤 _ _ (λ ws. ws.0) (λ v w p i. (p i, (tt, (tt, tt)))),
    λ κs a g. lent_one 𝓤 _ _ (λ ws. ws.0) (λ v w p i. (p i, (tt, (tt, (tt, tt))))),
    λ κs a g. lent_one 𝓤 _ _ (λ ws. ws.0) (λ v w p i. (p i, (tt, (tt, (tt, tt))))),
    λ κs a g. lent_one 𝓤 _ _ (λ ws. ws.0) (λ v w p i. (p i, (tt, (tt, tt)))),
  )

  of_why : One why.reason_number.ended why.reason_number.clauses
      × One why.reason_level.ended why.reason_level.clauses
      × One why.why.ended why.why.clauses
  of_why = (
    λ κs a g. alone 𝓤 _ (λ v w. refl),
    λ κs a g. alone 𝓤 _ (λ v w. refl),
    λ κs a g. alone 𝓤 _ (λ v w. refl),
  )

  of_whyline : One whyline.put_told.ended whyline.put_told.clauses
  of_whyline = λ κs a g. lent_one 𝓤 _ _ (λ ws. ws.0) (λ v w p i. (p i, (tt, (tt, (tt, (tt, (tt, tt)))))))

  of_sheet : One sheet.head_of.ended sheet.head_of.clauses
      × One sheet.read_sheet.ended sheet.read_sheet.clauses
      × One sheet.write_sheet.ended sheet.write_sheet.clauses
  of_sheet = (
    λ κs a g. alone 𝓤 _ (λ v w. refl),
    λ κs a g. lent_one 𝓤 _ _ (λ ws. ws.1.0) (λ v w p i. (tt, (p i, tt))),
    λ κs a g. lent_one 𝓤 _ _ (λ ws. ws.1.0) (λ v w p i. (tt, (p i, tt))),
  )

  of_sheetlist : One sheetlist.setup_of.ended sheetlist.setup_of.clauses
      × One sheetlist.event_count.ended sheetlist.event_count.clauses
      × One sheetlist.first_event.ended sheetlist.first_event.clauses
      × One sheetlist.event_at.ended sheetlist.event_at.clauses
      × One sheetlist.next_event.ended sheetlist.next_event.clauses
      × One sheetlist.event_of.ended sheetlist.event_of.clauses
  of_sheetlist = (
    λ κs a g. alone 𝓤 _ (λ v w. refl),
    λ κs a g. alone 𝓤 _ (λ v w. refl),
    λ κs a g. alone 𝓤 _ (λ v w. refl),
    λ κs a g. alone 𝓤 _ (λ v w. refl),
    λ κs a g. alone 𝓤 _ (λ v w. refl),
    λ κs a g. alone 𝓤 _ (λ v w. refl),
  )

  of_sheethost : One sheethost.fill_master.ended sheethost.fill_master.clauses
      × One sheethost.fill_slave.ended sheethost.fill_slave.clauses
      × One sheethost.digest.ended sheethost.digest.clauses
      × One sheethost.four_bytes.ended sheethost.four_bytes.clauses
  of_sheethost = (
    λ κs a g. only_lent 𝓤 _ (λ ws. ws.0) (λ v w p i. (p i, tt)),
    λ κs a g. only_lent 𝓤 _ (λ ws. ws.0) (λ v w p i. (p i, tt)),
    λ κs a g. alone 𝓤 _ (λ v w. refl),
    λ κs a g. alone 𝓤 _ (λ v w. refl),
  )

  of_image : One image.read_setup.ended image.read_setup.clauses
      × One image.read_channel.ended image.read_channel.clauses
      × One image.read_image.ended image.read_image.clauses
      × One image.write_channel.ended image.write_channel.clauses
      × One image.write_image.ended image.write_image.clauses
      × One image.read_head.ended image.read_head.clauses
  of_image = (
    λ κs a g. alone 𝓤 _ (λ v w. refl),
    λ κs a g. alone 𝓤 _ (λ v w. refl),
    λ κs a g. alone 𝓤 _ (λ v w. refl),
    λ κs a g. lent_one 𝓤 _ _ (λ ws. ws.1.0) (λ v w p i. (tt, (p i, (tt, tt)))),
    λ κs a g. lent_one 𝓤 _ _ (λ ws. ws.1.1.0) (λ v w p i. (tt, (tt, (p i, tt)))),
    λ κs a g. alone 𝓤 _ (λ v w. refl),
  )

  of_lobrinkas : One lobrinkas.lobrinkas_cycle_count.ended lobrinkas.lobrinkas_cycle_count.clauses
      × One lobrinkas.lobrinkas_set_up.ended lobrinkas.lobrinkas_set_up.clauses
      × One lobrinkas.lobrinkas_post.ended lobrinkas.lobrinkas_post.clauses
      × One lobrinkas.lobrinkas_step.ended lobrinkas.lobrinkas_step.clauses
      × One lobrinkas.lobrinkas_run.ended lobrinkas.lobrinkas_run.clauses
      × One lobrinkas.lobrinkas_why.ended lobrinkas.lobrinkas_why.clauses
  of_lobrinkas = (
    λ κs a g. alone 𝓤 _ (λ v w. refl),
    λ κs a g. lent_one 𝓤 _ _ (λ ws. ws.0) (λ v w p i. (p i, (tt, (tt, tt)))),
    λ κs a g. lent_one 𝓤 _ _ (λ ws. ws.0) (λ v w p i. (p i, (tt, (tt, (tt, (tt, (tt, (tt, (tt, tt))))))))),
    λ κs a g.
        lent_three 𝓤 _ _ _ _ (λ ws. ws.0) (λ ws. ws.1.1.0) (λ ws. ws.1.1.1.0) (λ v w p q r i. (p i, (tt, (q i, (r i, (tt, tt)))))),
    λ κs a g.
        lent_three 𝓤 _ _ _ _ (λ ws. ws.0) (λ ws. ws.1.1.0) (λ ws. ws.1.1.1.0) (λ v w p q r i. (p i, (tt, (q i, (r i, (tt, (tt, tt))))))),
    λ κs a g. alone 𝓤 _ (λ v w. refl),
  )
