-- After i turns the word holds the first i nodes.
use native.Mathlib.Omega.{arith}
use Rattle.table.proofs.Packing.{gathered_none, gathered_more}
use Rattle.table.proofs.writing.gather.Goals as goal

pub loop-node-init : goal.loop-node-init
loop-node-init c = gathered_none c.args.nodes.now

pub loop-node-preserved : goal.loop-node-preserved
loop-node-preserved c = gathered_more c.args.nodes.now c.loop-node.node-index c.loop-node.word (omega arith) (omega arith) c.requires.1 c.loop-node.invariant
