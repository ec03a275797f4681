use Prim.Native.Nat.{◌≤◌}
use Rattle.list.proofs.Slotting.{Taken}
use Rattle.list.proofs.preparing.slotted.Given as goal

abbrev pub invariant-loop-node : goal.invariant-loop-node
invariant-loop-node l = (l.used ≤ 12) × Taken l.unknown l.set l.used
