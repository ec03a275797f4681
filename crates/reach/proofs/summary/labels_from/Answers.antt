-- `summary::labels_from` meets its contract: each label of the set is still left, or its labels are in.
use mathlib.Core.Path.{ap, ◌∙◌}
use native.Mathlib.Omega.{arith}
use Rattle.sets.specs.Set.{◌union◌}
use Rattle.esterel.specs.Codes.{Codes}
use Rattle.reach.proofs.Summaries.{read_at, gather_begins, gather_on, gather_ends}
use Rattle.reach.proofs.summary.labels_from.Goals as goal

pub loop-label-init : goal.loop-label-init
loop-label-init c =
    gather_begins c.args.set _ c.args.kept.now (ap (λ r. r.rest) c.into_iter-label-iterator.ensures.into_iter_gives ∙ c.each-label-items.ensures)

pub loop-label-preserved : goal.loop-label-preserved
unfolding ◌union◌
loop-label-preserved c =
    let (some, low, in_it, first, left) = c.in-Some.ensures.steps in
    let before = read_at c.args.kept.now c.in-Some.label c.index-kept-label.result (omega (arith, low, c.told-kept)) in
    gather_on c.args.set _ c.args.kept.now c.loop-label.labels c.loop-label.invariant c.in-Some.label low in_it
    c.labels-labels.result (c.labels-labels.ensures ∙ ap (λ (K : Codes). K.pausing) before) _ left

pub returns : goal.returns
returns c = gather_ends c.args.set _ c.args.kept.now c.loop-label.labels c.loop-label.invariant c.in-None.ensures.steps.0
