-- Code 0 has the lowest bit.
use Rattle.reach.proofs.CodeSets.{view_ended}
use Rattle.reach.proofs.codes.CodeSet.just_ended.Goals as goal

pub returns : goal.returns
returns c = view_ended c.place_of.result c.place_of.ensures
