-- The invariant: so many signals at most are taken, the unknown ones among them.
use mathlib.Core.Path.{ap, ◌∙◌}
use Prim.Native.Nat.{ℕ}
use native.Mathlib.Omega.{arith}
use Rattle.sets.specs.Set.{only, ◌union◌}
use Rattle.list.proofs.Slotting.{taken_none, taken_more}
use Rattle.list.proofs.preparing.slotted.Goals as goal

pub loop-node-init : goal.loop-node-init
loop-node-init c = taken_none c.requires c.count-used.ensures

pub loop-node-preserved : goal.loop-node-preserved
loop-node-preserved c = (
  omega arith,
  taken_more _ c.loop-node.invariant.1 (c.declares.ensures c.if-not-declares.false) (c.with-set.ensures ∙ ap (λ (z : ℕ). c.loop-node.set union only z) c.operand_of.ensures),
)
