-- A set as a word has no number past the width.
use mathlib.Core.Path.{ap, ◌∙◌}
use Prim.Native.Nat.{ℕ}
use Rattle.sets.specs.Set.{◌minus◌}
use Rattle.sets.proofs.Words.{without_word}
use borrow.Author.Rules.{rules}
use Rattle.sets.proofs.without.Goals as goal

pub returns : goal.returns
unfolding ◌minus◌
returns c = ap (λ (z : ℕ). c.args.set minus z) c.singleton-own.ensures ∙ without_word 64 c.args.set c.args.number (search rules)
