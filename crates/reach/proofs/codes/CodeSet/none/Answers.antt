-- The words of no code are 0.
use mathlib.Core.Path.{refl}
use Rattle.sets.specs.Set.{has}
use Rattle.esterel.specs.Codes.{none}
use Rattle.reach.specs.inner.CodeSets.{codes_of}
use Rattle.reach.proofs.codes.CodeSet.none.Goals as goal

pub returns : goal.returns
unfolding codes_of none has
returns c = refl
