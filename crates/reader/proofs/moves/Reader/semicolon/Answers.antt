-- `reader::moves::Reader::semicolon` meets its contract: a statement is due, with a `;` behind it.
use Rattle.reader.proofs.Moving.{moved_before}
use Rattle.reader.proofs.moves.Reader.semicolon.Goals as goal

pub returns : goal.returns
returns c = λ m R. moved_before _ m R
