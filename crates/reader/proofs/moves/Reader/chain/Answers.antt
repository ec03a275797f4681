-- `reader::moves::Reader::chain` meets its contract: the node of the `||` is what the machine puts aside.
use mathlib.Core.Path.{refl}
use Rattle.reader.specs.inner.Nodes.{aside}
use Rattle.reader.proofs.moves.Reader.chain.Goals as goal

pub returns : goal.returns
unfolding aside
returns c = (refl, rw c.node_of-parallel.ensures at c.put_if.ensures, refl)
