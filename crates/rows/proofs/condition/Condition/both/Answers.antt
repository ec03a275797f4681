-- The conditions are bits of the two together.
use lib.Bits.{or_lt}
use Rattle.rows.proofs.condition.Condition.both.Goals as goal

pub invariant_of-result : goal.invariant_of-result
invariant_of-result c = or_lt 24 _ _ c.self.invariant c.other.invariant
