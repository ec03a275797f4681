-- By the test for 0.
use mathlib.Core.Path.{sym, ap, ◌∙◌}
use Rattle.esterel.specs.Codes.{Codes, join}
use Rattle.reach.proofs.CodeSets.{goes_on, stops}
use Rattle.reach.proofs.codes.CodeSet.followed_by.Goals as goal

pub returns-then-ends : goal.returns-then-ends
returns-then-ends c =
    c.bitor.ensures ∙ ap (λ (K : Codes). join K c.args.next) c.minus_zero.ensures
    ∙ goes_on c.args.self c.args.next (sym c.ends.ensures ∙ c.if-ends.true)

pub returns-else-ends : goal.returns-else-ends
returns-else-ends c = stops c.args.self c.args.next (sym c.ends.ensures ∙ c.if-ends.false)
