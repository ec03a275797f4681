-- `Marked::refused` meets its contract.
use mathlib.Core.Path.{refl}
use Rattle.trim.proofs.Marking.{found_nothing}
use Rattle.trim.proofs.marks.Marked.refused.Goals as goal

pub returns : goal.returns
returns c = (found_nothing c.leaf.ensures 0 c.just_ended.ensures refl).next
