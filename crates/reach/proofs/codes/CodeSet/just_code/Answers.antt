-- Code k has the place k − 1.
use borrow.Author.Rules.{rules}
use Rattle.reach.proofs.CodeSets.{view_code}
use Rattle.reach.proofs.codes.CodeSet.just_code.Goals as goal

pub returns : goal.returns
returns c = view_code c.args.code.0 c.place_of.result c.place_of.ensures (search rules) (search rules)
