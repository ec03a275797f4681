use Rattle.esterel.specs.Codes.{join, minus_zero}
use Rattle.reach.proofs.Summaries.{Walking}
use Rattle.reach.proofs.summary.follow_each.Given as goal

abbrev pub invariant-loop-label : goal.invariant-loop-label
invariant-loop-label l = Walking l.set l.label-iterator.rest (λ K. join (minus_zero K) l.after) l.initial.kept l.kept
