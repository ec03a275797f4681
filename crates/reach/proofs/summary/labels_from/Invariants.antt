use Rattle.reach.proofs.Summaries.{Gathering}
use Rattle.reach.proofs.summary.labels_from.Given as goal

abbrev pub invariant-loop-label : goal.invariant-loop-label
invariant-loop-label l = Gathering l.set l.label-iterator.rest l.kept l.labels
