-- By the test.
use Rattle.std.proofs.Common.{sym, ◌∙◌}
use Rattle.sets.specs.Set.{◌union◌}
use Rattle.esterel.specs.Reactions.{reached_together}
use Rattle.rows.proofs.pairing.reached.Goals as goal

pub returns-then-eq : goal.returns-then-eq
unfolding reached_together ◌union◌
returns-then-eq c = rw (sym c.eq.ensures ∙ c.if-eq.true)

pub returns-else-eq : goal.returns-else-eq
unfolding reached_together
returns-else-eq c = rw (sym c.eq.ensures ∙ c.if-eq.false)
