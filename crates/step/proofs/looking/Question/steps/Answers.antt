-- By the tests: a row without a condition needs no slots.
use Rattle.sets.specs.Set.{◌union◌}
use Rattle.step.proofs.Rows.{steps_off, steps_met, steps_sure}
use Rattle.step.proofs.looking.Question.steps.Goals as goal

pub returns-then-minus : goal.returns-then-minus
unfolding ◌union◌
returns-then-minus c =
    steps_off _ _ _ _ _ c.emitted.ensures.0 c.minus.ensures c.minus-2.ensures c.if-minus.true

pub returns-then-is_unconditional : goal.returns-then-is_unconditional
unfolding ◌union◌
returns-then-is_unconditional c =
    steps_sure _ _ _ _ _ c.emitted.ensures.0 c.minus.ensures c.minus-2.ensures c.if-minus.false
    (c.is_unconditional.ensures c.if-is_unconditional.true)

pub returns : goal.returns
unfolding ◌union◌
returns c =
    steps_met _ _ _ _ _ c.emitted.ensures.0 c.minus.ensures c.minus-2.ensures c.if-minus.false c.slots_in.ensures c.meets.ensures
