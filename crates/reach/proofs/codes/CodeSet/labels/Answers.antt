-- The labels are a word of their own.
use mathlib.Core.Path.{ap}
use Rattle.esterel.specs.Codes.{Codes}
use Rattle.reach.specs.inner.CodeSets.{codes_of}
use Rattle.reach.proofs.codes.CodeSet.labels.Goals as goal

pub returns : goal.returns
unfolding codes_of
returns c = ap (λ (K : Codes). K.pausing) c.self.view_is
