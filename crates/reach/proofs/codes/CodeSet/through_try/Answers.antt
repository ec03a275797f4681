-- Each bit moves down by one place, and the lowest stays too.
use mathlib.Core.Path.{ap, ◌∙◌}
use Rattle.esterel.specs.Codes.{through_try}
use Rattle.reach.proofs.CodeSets.{view_try}
use Rattle.reach.proofs.codes.CodeSet.through_try.Goals as goal

pub returns : goal.returns
returns c = view_try c.self.inside ∙ ap through_try c.self.view_is
