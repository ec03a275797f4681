-- `table::reading::word_at` meets its contract: two bytes side by side, by a shift.
use Prim.Native.Nat.{◌+◌}
use native.Mathlib.Omega.{arith}
use Rattle.table.proofs.Cutting.{joined}
use Rattle.table.proofs.reading.word_at.Goals as goal

pub overflow_cast-result : goal.overflow_cast-result
overflow_cast-result c = omega (arith, c.type_inv.table c.args.at)

pub overflow_cast-result-2 : goal.overflow_cast-result-2
overflow_cast-result-2 c = omega (arith, c.type_inv.table (c.args.at + 1))

pub returns : goal.returns
returns c =
    joined _ _ (omega (arith, c.type_inv.table c.args.at)) (omega (arith, c.type_inv.table (c.args.at + 1)))
