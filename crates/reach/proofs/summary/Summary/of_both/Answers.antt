-- `Summary::of_both` meets its contract.
use mathlib.Core.Path.{refl}
use Rattle.sets.specs.Set.{◌union◌}
use Rattle.reach.specs.inner.Summaries.{beside}
use Rattle.reach.proofs.summary.Summary.of_both.Goals as goal

pub returns : goal.returns
unfolding beside ◌union◌
returns c = refl
