-- The words of a union are the unions of the words.
use mathlib.Core.Path.{ap₂, ◌∙◌}
use Rattle.esterel.specs.Codes.{join}
use Rattle.reach.proofs.CodeSets.{view_join}
use Rattle.reach.proofs.codes.CodeSetBitOr.bitor.Goals as goal

pub returns : goal.returns
returns c = view_join c.self.inside c.rhs.inside ∙ ap₂ join c.self.view_is c.rhs.view_is
