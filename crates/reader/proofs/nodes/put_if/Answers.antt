-- `reader::nodes::put_if` meets its contract.
use Rattle.reader.proofs.Held.{stored_asked, stored_unasked}
use Rattle.reader.proofs.nodes.put_if.Goals as goal

pub returns-then-asked : goal.returns-then-asked
returns-then-asked c = stored_asked _ c.if-asked.true c.put.ensures

pub returns : goal.returns
returns c = stored_unasked _ c.if-asked.false c.requires c.told-nodes
