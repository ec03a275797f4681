-- `reader::moves::Reader::bars` meets its contract: a statement is due, with a `||` behind it.
use Rattle.reader.proofs.Moving.{moved_due}
use Rattle.reader.proofs.moves.Reader.bars.Goals as goal

pub returns : goal.returns
returns c = λ m R. moved_due _ _ m _ c.due.ensures R
