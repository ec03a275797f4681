-- `table::operand_of` meets its contract: a mask of six bits is a remainder.
use native.Mathlib.Omega.{arith}
use lib.Bits.{and_mask, mask_lt}
use Rattle.table.proofs.kinds.operand_of.Goals as goal

pub overflow_cast-result : goal.overflow_cast-result
overflow_cast-result c = omega (arith, mask_lt c.args.node 6)

pub returns : goal.returns
returns c = and_mask c.args.node 6
