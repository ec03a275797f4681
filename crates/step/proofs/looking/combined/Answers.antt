-- By what is equal.
use mathlib.Core.Path.{sym, ◌∙◌}
use Rattle.step.proofs.Joins.{first_none, second_none, both_equal, two_differ}
use Rattle.step.proofs.looking.combined.Goals as goal
use Rattle.step.proofs.looking.combined.Goals.{then-eq-2-via-then-eq-2, then-eq-2-via-else-eq-2+then-eq-3}

pub returns-then-eq : goal.returns-then-eq
returns-then-eq c = first_none _ _ (sym c.eq.ensures ∙ c.if-eq.true)

pub returns-then-eq-2 : goal.returns-then-eq-2
returns-then-eq-2 c = elim c.then-eq-2.branch [
  | then-eq-2-via-then-eq-2 w ↦ second_none _ _ (sym c.eq-2.ensures ∙ w.if-eq-2.true)
  | then-eq-2-via-else-eq-2+then-eq-3 w ↦ both_equal _ _ (sym w.eq-else-eq-2.ensures ∙ w.if-eq-3.true)
]

pub returns : goal.returns
returns c = two_differ _ _ (sym c.eq.ensures ∙ c.if-eq.false) (sym c.eq-2.ensures ∙ c.if-eq-2.false) (sym c.eq-else-eq-2.ensures ∙ c.if-eq-3.false)
