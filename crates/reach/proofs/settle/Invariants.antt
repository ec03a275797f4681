use Prim.Native.Nat.{◌-◌}
use Rattle.sets.specs.Set.{count}
use Rattle.table.specs.inner.Places.{statement_of}
use Rattle.reach.proofs.Rounds.{Going}
use Rattle.reach.proofs.settle.Given as goal

abbrev pub invariant-loop-set : goal.invariant-loop-set
invariant-loop-set l = Going (statement_of l.nodes) l.labels l.set l.rounds

abbrev pub decreases-loop-set : goal.decreases-loop-set
decreases-loop-set l = count 64 l.found.pauses - count 64 l.set
