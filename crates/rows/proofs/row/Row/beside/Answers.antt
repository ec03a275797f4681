-- The emitted sets, and the conditions, go together.
use Rattle.std.proofs.Common.{refl, ◌∙◌}
use mathlib.Core.Path.{ap₂}
use lib.Bits.{bit_or}
use Rattle.sets.specs.Set.{◌union◌}
use Rattle.esterel.specs.inner.Conditions.{both}
use Rattle.rows.proofs.Words.{row_equal}
use Rattle.rows.proofs.row.Row.beside.Goals as goal

pub returns : goal.returns
unfolding ◌union◌
returns c =
    c.new.ensures
    ∙ row_equal (c.both-both.ensures ∙ ap₂ both c.condition.ensures c.condition-2.ensures) (ap₂ bit_or c.emitted.ensures.0 c.emitted-2.ensures.0) refl refl
