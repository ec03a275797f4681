-- `Marked::beside` meets its contract.
use mathlib.Core.Path.{refl}
use Rattle.trim.proofs.Marking.{found_parallel}
use Rattle.trim.proofs.marks.Marked.beside.Goals as goal

pub returns : goal.returns
returns c =
    rw c.of_both.ensures (λ R P Q F G. found_parallel R P Q F G _ refl refl c.maximum.ensures refl refl)
