-- The difference of the two sets.
use Rattle.lister.specs.inner.Notes.{labels_noted}
use Rattle.lister.proofs.noted.Prepared.pauses_of.Goals as goal

pub returns : goal.returns
unfolding labels_noted
returns c = c.minus.ensures
