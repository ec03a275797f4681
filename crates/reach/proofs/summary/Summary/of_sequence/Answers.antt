-- `Summary::of_sequence` meets its contract.
use mathlib.Core.Path.{refl}
use Rattle.sets.specs.Set.{◌union◌}
use Rattle.reach.specs.inner.Summaries.{beside, in_turn}
use Rattle.reach.proofs.summary.Summary.of_sequence.Goals as goal

pub returns-clause-result_value : goal.returns-clause-result_value
unfolding in_turn beside ◌union◌
returns-clause-result_value c = rw (c.of_both.ensures, c.followed_by.ensures, c.set_if.ensures, c.ends.ensures) refl
