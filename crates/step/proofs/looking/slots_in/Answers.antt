-- The invariant: what is gathered, with the slots of what is left, is all.
use mathlib.Core.Path.{ap, ◌∙◌}
use native.Mathlib.Omega.{arith}
use Rattle.sets.specs.Set.{◌intersect◌}
use Rattle.sets.specs.declared.Rising.{Rising}
use Rattle.step.proofs.Slots.{gathered_none, gathered_next, gathered_all, slot_low}
use Rattle.step.proofs.looking.slots_in.Goals as goal

pub loop-signal-init : goal.loop-signal-init
unfolding ◌intersect◌
loop-signal-init c = gathered_none _ _ (ap (λ (r : Rising). r.rest) c.into_iter-signal-iterator.ensures.into_iter_gives ∙ c.each-signal-items.ensures)

pub with-slots-requires : goal.with-slots-requires
with-slots-requires c = omega (arith, slot_low c.args.slotted c.in-Some.signal, c.in-Some.ensures.steps.1)

pub loop-signal-preserved : goal.loop-signal-preserved
loop-signal-preserved c =
    let step = c.in-Some.ensures.steps in
    gathered_next _ _ _ step.2 c.loop-signal.invariant c.slot_of.ensures c.with-slots.ensures step.4

pub returns : goal.returns
returns c = gathered_all _ _ c.in-None.ensures.steps.0 c.loop-signal.invariant
