-- By the signals that were chosen once, where there is room beside the unknown ones, or by a choice made anew.
use mathlib.Core.Path.{subst}
use Prim.Native.Nat.{ℕ, ◌≤◌}
use Rattle.sets.specs.Set.{◌union◌}
use Rattle.list.proofs.Slotting.{joined_slotted}
use Rattle.list.proofs.program.Program.presence.Goals as goal
use Rattle.list.proofs.program.Program.presence.Goals.{then-count-le-MOST_SLOTS, else-count-le-MOST_SLOTS}

pub invariant_of-result : goal.invariant_of-result
unfolding ◌union◌
invariant_of-result c = record {
  slots = elim c.if-count-le-MOST_SLOTS.branch [
    | then-count-le-MOST_SLOTS w ↦ rw w.slotted-is (joined_slotted c.args.self.now.slots c.requires (subst (λ (z : ℕ). z ≤ 12) c.count.ensures w.if-count-le-MOST_SLOTS.true))
    | else-count-le-MOST_SLOTS w ↦ rw w.slotted-is w.slotted-slotted.ensures
  ];
}
