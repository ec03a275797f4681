-- `summary::lower_each` meets its contract, as `follow_each` does; `ending` is said of the labels that are done.
use mathlib.Core.Path.{ap, ◌∙◌}
use mathlib.Core.Bool.{Bool, cond}
use Rattle.sets.specs.Set.{only, ◌union◌}
use Rattle.esterel.specs.Codes.{through_try}
use Rattle.reach.proofs.Summaries.{lower_begins, own_shift, read_on, lower_on, lower_ends}
use Rattle.reach.proofs.summary.lower_each.Goals as goal

pub loop-label-init : goal.loop-label-init
loop-label-init c =
    lower_begins c.args.set _ c.args.kept.now (ap (λ r. r.rest) c.into_iter-label-iterator.ensures.into_iter_gives ∙ c.each-label-items.ensures)

pub loop-label-preserved : goal.loop-label-preserved
unfolding ◌union◌
loop-label-preserved c =
    let (some, low, in_it, first, left) = c.in-Some.ensures.steps in
    let before = read_on c.args.set _ _ c.args.kept.now c.loop-label.kept c.loop-label.invariant.walking c.in-Some.label low in_it c.told-kept c.index-kept-at.result in
    lower_on c.args.set _ c.args.kept.now c.loop-label.kept c.loop-label.ending c.loop-label.invariant c.in-Some.label low in_it c.told-kept
    c.through_try-lowered.result (c.through_try-lowered.ensures ∙ ap through_try before) _
    (own_shift c.ends.result c.in-Some.label low ∙ ap (λ (z : Bool). cond z (only c.in-Some.label) 0) c.ends.ensures) _ left

pub returns : goal.returns
returns c = lower_ends c.args.set _ c.args.kept.now c.loop-label.kept c.loop-label.ending c.loop-label.invariant c.in-None.ensures.steps.0
