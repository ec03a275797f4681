use Rattle.trim.proofs.marks.+mark_at.Given as goal

abbrev pub decreases-mark_at : goal.decreases-mark_at
decreases-mark_at l = l.left
