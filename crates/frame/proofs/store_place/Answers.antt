use Rattle.frame.proofs.FoundLaws.{slave_found_lem}
use mathlib.Core.Path.{sym, ◌∙◌}
use Rattle.frame.proofs.store_place.Goals as goal

-- the row holds the range, so that it begins no later
pub overflow_sub-result : goal.overflow_sub-result
overflow_sub-result c =
    let a = c.args in
    (slave_found_lem a.slaves a.space a.address 1 _ _ (sym c.slave_row.ensures.value ∙ c.in_ok-row.was)).range.begins
