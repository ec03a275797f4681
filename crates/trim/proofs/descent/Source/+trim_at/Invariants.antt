use Rattle.trim.proofs.descent.Source.+trim_at.Given as goal

abbrev pub decreases-trim_at : goal.decreases-trim_at
decreases-trim_at l = l.left
