-- No node is of a table, so nothing is said of its pauses.
use Prim.Native.Nat.{ℕ}
use mathlib.Core.Path.{subst}
use Rattle.lister.specs.inner.Notes.{ReadWhole}
use Rattle.lister.proofs.Nodes.{none_whole}
use Rattle.lister.proofs.noted.Prepared.new.Goals as goal

pub invariant_of-result : goal.invariant_of-result
invariant_of-result c = record { labels = λ at i w. absurd (none_whole (subst (λ (n : ℕ). ReadWhole n c.new-noted.result.nodes at) c.new-noted.ensures w)) }
