-- Of both sets, what is no lower than some code of the other.
use mathlib.Core.Path.{ap₂, ◌∙◌}
use Rattle.esterel.specs.Codes.{join, maximum}
use Rattle.reach.proofs.codes.CodeSet.maximum.Goals as goal

pub returns : goal.returns
unfolding maximum
returns c = c.bitor.ensures ∙ ap₂ join c.no_lower_than.ensures c.no_lower_than-2.ensures
