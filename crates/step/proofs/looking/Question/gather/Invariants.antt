use Rattle.step.proofs.Rows.{Gathered}
use Rattle.step.proofs.looking.Question.gather.Given as goal

abbrev pub invariant-loop-row : goal.invariant-loop-row
invariant-loop-row l = Gathered l.signals l.self.provided l.rows l.row-iterator.iter.rest.now l.found
