use Rattle.list.proofs.Passing.{Passed}
use Rattle.list.proofs.noting.note_all.Given as goal

abbrev pub invariant-loop-at : goal.invariant-loop-at
invariant-loop-at l = Passed l.count l.nodes l.notes l.unions l.at l.behind l.labels
