-- The two sets share a slot.
use Rattle.std.proofs.Common.{ℕ, not, eqb}
use mathlib.Core.Path.{ap₂}
use lib.Bits.{bit_and}
use Rattle.sets.specs.Set.{◌intersect◌}
use Rattle.esterel.specs.inner.Conditions.{clashes}
use Rattle.rows.proofs.condition.Condition.clashes.Goals as goal

pub returns : goal.returns
unfolding clashes ◌intersect◌
returns c = ap₂ (λ (a b : ℕ). not (eqb (bit_and a b) 0)) c.on.ensures.0 c.off.ensures.0
