-- The invariant: what the rows from the last on come to.
use mathlib.Core.Path.{sym, ap, ◌∙◌}
use Rattle.std.proofs.Common.{Iter}
use Rattle.std.specs.declared.iter.Rev.{Rev}
use Rattle.rows.specs.declared.row.Row.{Row}
use Rattle.step.proofs.Rows.{gathered_none, gathered_step, gathered_other}
use Rattle.step.proofs.looking.Question.gather.Goals as goal

pub loop-row-init : goal.loop-row-init
loop-row-init c =
    gathered_none
    (ap (λ (z : Rev (Iter Row)). z.iter.rest.now) c.into_iter-row-iterator.ensures.into_iter_gives ∙ ap (λ (z : Iter Row). z.rest.now) c.rev-row-items.ensures.source ∙ c.iter.ensures.rest)

pub loop-row-preserved-then-steps : goal.loop-row-preserved-then-steps
loop-row-preserved-then-steps c =
    gathered_step _ c.in-Some.ensures.steps c.loop-row.invariant
    (sym c.if-steps.true ∙ c.steps.ensures) c.step_of.ensures c.combined-found.ensures

pub loop-row-preserved : goal.loop-row-preserved
loop-row-preserved c =
    gathered_other _ c.in-Some.ensures.steps c.loop-row.invariant
    (sym c.if-steps.false ∙ c.steps.ensures)
