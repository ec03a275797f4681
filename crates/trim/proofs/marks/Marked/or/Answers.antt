-- `Marked::or` meets its contract.
use mathlib.Core.Path.{refl}
use Rattle.trim.proofs.Marking.{found_present}
use Rattle.trim.proofs.marks.Marked.or.Goals as goal

pub returns : goal.returns
returns c =
    rw c.of_both.ensures (λ S R P Q F G. found_present R P Q F G _ refl refl S c.bitor.ensures refl refl)
