-- The label is one word.
use mathlib.Core.Path.{ap₂, ◌∙◌}
use Prim.Native.Nat.{ℕ}
use Rattle.sets.proofs.Members.{only_fits}
use Rattle.esterel.specs.Listing.{reaction}
use Rattle.esterel.specs.inner.Conditions.{Condition}
use Rattle.esterel.specs.inner.Rows.{row_when}
use Rattle.lister.proofs.reacting.paused.Goals as goal

pub returns : goal.returns
returns c = c.new.ensures ∙ ap₂ (λ (d : Condition) (z : ℕ). row_when d (reaction 0 1 z)) c.always.ensures (c.singleton.ensures ∙ only_fits 64 c.args.label.0 c.requires)
