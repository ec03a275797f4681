-- `Marked::in_loop` meets its contract.
use mathlib.Core.Path.{refl, ap, ◌∙◌}
use mathlib.Core.Bool.{Bool}
use Rattle.trim.specs.inner.Marking.{again_of}
use Rattle.trim.proofs.Marking.{found_loop}
use Rattle.trim.proofs.marks.Marked.in_loop.Goals as goal

pub returns : goal.returns
returns c =
    λ R P F. found_loop R P F _ refl refl c.minus_zero-s.ensures c.followed_by.ensures (c.again.ensures ∙ ap (λ (z : Bool). again_of z c.args.self.exits) c.ends.ensures)
