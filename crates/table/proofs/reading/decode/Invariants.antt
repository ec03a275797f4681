-- The nodes before the place are cut, four at a time and then one by one.
use Prim.Native.Nat.{◌*◌}
use Rattle.table.specs.inner.Loading.{Cut}
use Rattle.table.proofs.reading.decode.Given as goal

abbrev pub invariant-loop-four : goal.invariant-loop-four
invariant-loop-four l = Cut l.table 0 (4 * l.four) l.initial.nodes l.nodes

abbrev pub invariant-loop-i : goal.invariant-loop-i
invariant-loop-i l = Cut l.table (4 * l.fours) l.i l.initial.nodes l.nodes
