-- `summary::follow_each` meets its contract. The invariant: the labels of the set that are left are still to be changed.
use mathlib.Core.Path.{ap, ◌∙◌}
use Rattle.esterel.specs.Codes.{Codes, join, minus_zero}
use Rattle.reach.proofs.Summaries.{walk_begins, read_on, walk_on, walk_ends}
use Rattle.reach.proofs.summary.follow_each.Goals as goal

pub loop-label-init : goal.loop-label-init
loop-label-init c =
    walk_begins c.args.set _ _ c.args.kept.now (ap (λ r. r.rest) c.into_iter-label-iterator.ensures.into_iter_gives ∙ c.each-label-items.ensures)

pub loop-label-preserved : goal.loop-label-preserved
loop-label-preserved c =
    let (some, low, in_it, first, left) = c.in-Some.ensures.steps in
    let before = read_on c.args.set _ _ c.args.kept.now c.loop-label.kept c.loop-label.invariant c.in-Some.label low in_it c.told-kept c.index-kept-at.result in
    walk_on c.args.set _ _ c.args.kept.now c.loop-label.kept c.loop-label.invariant c.in-Some.label low in_it c.told-kept
    c.bitor.result (c.bitor.ensures ∙ ap (λ (K : Codes). join K c.args.after) (c.minus_zero.ensures ∙ ap minus_zero before)) _ left

pub returns : goal.returns
returns c = walk_ends c.args.set _ _ c.args.kept.now c.loop-label.kept c.loop-label.invariant c.in-None.ensures.steps.0
