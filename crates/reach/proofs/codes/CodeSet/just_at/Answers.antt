-- A label has the bit of its number.
use borrow.Author.Rules.{rules}
use Rattle.reach.proofs.CodeSets.{view_at}
use Rattle.reach.proofs.codes.CodeSet.just_at.Goals as goal

pub returns : goal.returns
returns c = view_at c.args.label.0 (search rules)
