-- `Marked::leaf` meets its contract.
use mathlib.Core.Path.{refl, sym, ◌∙◌}
use Rattle.trim.proofs.marks.Marked.leaf.Goals as goal

pub returns : goal.returns
returns c = record { found = λ R t k n e l. record { start = k; resumed = c.none.ensures ∙ sym n; leaving = e; lives = sym l; next = refl } }
