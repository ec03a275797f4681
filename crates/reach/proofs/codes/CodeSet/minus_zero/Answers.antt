-- The lowest bit goes.
use mathlib.Core.Path.{ap, ◌∙◌}
use borrow.Author.Rules.{rules}
use Rattle.esterel.specs.Codes.{minus_zero}
use Rattle.reach.proofs.CodeSets.{view_minus}
use Rattle.reach.proofs.codes.CodeSet.minus_zero.Goals as goal

pub returns : goal.returns
returns c = view_minus c.self.inside (search rules) ∙ ap minus_zero c.self.view_is
