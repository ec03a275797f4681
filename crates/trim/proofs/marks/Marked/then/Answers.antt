-- `Marked::then` meets its contract.
use mathlib.Core.Path.{refl, ap, ap₂, ◌∙◌}
use mathlib.Core.Bool.{Bool, ◌||◌}
use Rattle.esterel.specs.Codes.{Codes, join}
use Rattle.trim.specs.inner.Marking.{in_turn_of}
use Rattle.trim.proofs.Marking.{found_sequence}
use Rattle.trim.proofs.marks.Marked.then.Goals as goal

pub returns : goal.returns
returns c =
    λ R P Q F G. found_sequence R P Q F G _ refl refl c.followed_by.ensures (c.bitor.ensures ∙ ap (λ (K : Codes). join K c.args.q.d) c.followed_by-2.ensures)
    (c.then.ensures ∙ ap₂ (λ (y z : Bool). in_turn_of y (y || z) c.args.self.exits c.args.q.exits) c.ends-resumed.ensures c.ends.ensures)
