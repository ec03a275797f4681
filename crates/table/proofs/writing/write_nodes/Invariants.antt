-- The nodes before the place are written.
use Prim.Native.Nat.{◌+◌, ◌*◌}
use Rattle.table.proofs.Packing.{Written}
use Rattle.table.proofs.writing.write_nodes.Given as goal

abbrev pub invariant-loop-four : goal.invariant-loop-four
invariant-loop-four l = Written l.nodes l.initial.out l.out (2 + 5 * l.four) (4 * l.four)
