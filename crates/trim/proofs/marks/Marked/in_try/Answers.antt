-- `Marked::in_try` meets its contract.
use mathlib.Core.Path.{refl}
use Rattle.trim.proofs.Marking.{found_try}
use Rattle.trim.proofs.marks.Marked.in_try.Goals as goal

pub returns : goal.returns
returns c =
    λ R P F. found_try R P F _ refl refl c.through_try.ensures c.through_try-2.ensures c.outside_try.ensures
