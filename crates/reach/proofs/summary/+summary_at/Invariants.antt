use Rattle.reach.proofs.summary.+summary_at.Given as goal

abbrev pub decreases-summary_at : goal.decreases-summary_at
decreases-summary_at l = l.left
