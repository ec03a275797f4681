use Rattle.reach.proofs.Summaries.{Lowering}
use Rattle.reach.proofs.summary.lower_each.Given as goal

abbrev pub invariant-loop-label : goal.invariant-loop-label
invariant-loop-label l = Lowering l.set l.label-iterator.rest l.initial.kept l.kept l.ending
