-- A row that emits the signal has it present.
use Rattle.rows.proofs.Words.{without_below}
use Rattle.rows.proofs.change.HideChange.change.Goals as goal

pub with_emitted-requires : goal.with_emitted-requires
with_emitted-requires c = without_below 32 _ _ _ c.emitted-emitted.ensures.1 c.without.ensures
