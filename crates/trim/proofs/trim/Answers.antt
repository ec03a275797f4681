-- `trim::trim` meets its contract: zeros are nodes of kind 0, and nothing is written yet in the room that it lends.
use borrow.Author.Rules.{rules}
use Rattle.table.proofs.Loading.{known_zeros}
use Rattle.trim.proofs.trim.Goals as goal

pub trim_with-requires : goal.trim_with-requires
trim_with-requires c = (known_zeros 1024, search rules)
