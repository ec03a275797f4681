-- The word holds the nodes before the place.
use lib.ListN.{take}
use Rattle.table.specs.inner.Making.{Gathered}
use Rattle.table.proofs.writing.gather.Given as goal

abbrev pub invariant-loop-node : goal.invariant-loop-node
invariant-loop-node l = Gathered (take l.node-index l.nodes) l.node-index l.word
