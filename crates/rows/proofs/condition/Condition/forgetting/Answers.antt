-- Both sets lose the slot.
use Rattle.rows.proofs.Words.{without_below}
use Rattle.rows.proofs.condition.Condition.forgetting.Goals as goal

pub of_sets-requires : goal.of_sets-requires
of_sets-requires c = (without_below 12 _ _ _ c.on.ensures.1 c.without-on.ensures, without_below 12 _ _ _ c.off.ensures.1 c.without-off.ensures)
