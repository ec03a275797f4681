-- `reader::moves::Reader::met` meets its contract: a single statement that was met is what the machine meets.
use Rattle.reader.specs.inner.Nodes.{chained}
use Rattle.reader.proofs.Moving.{moved_met}
use Rattle.reader.proofs.moves.Reader.met.Goals as goal

pub returns : goal.returns
unfolding chained
returns c = moved_met _ _ _ _ c.requires (rw c.node_of-sequence.ensures at c.put_if.ensures)
