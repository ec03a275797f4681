-- As the definition has it.
use mathlib.Core.Path.{refl}
use Rattle.sets.specs.Set.{◌minus◌}
use Rattle.sets.proofs.minus.Goals as goal

pub returns : goal.returns
unfolding ◌minus◌
returns c = refl
