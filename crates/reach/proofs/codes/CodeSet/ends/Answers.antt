-- 0 is the lowest bit.
use mathlib.Core.Path.{ap, ◌∙◌}
use Rattle.esterel.specs.Codes.{Codes}
use Rattle.reach.specs.inner.CodeSets.{codes_of}
use Rattle.reach.proofs.CodeSets.{has_low_lem}
use Rattle.reach.proofs.codes.CodeSet.ends.Goals as goal

pub returns : goal.returns
unfolding codes_of
returns c = has_low_lem c.self.inside.codes ∙ ap (λ (K : Codes). K.ends) c.self.view_is
