-- The node lies in the word at its first byte.
use native.Mathlib.Omega.{arith}
use Rattle.table.specs.Reading.{length_of}
use Rattle.table.proofs.Cutting.{bit_even, one_cut}
use Rattle.table.proofs.reading.cut_one.Goals as goal

pub overflow_sub-bit : goal.overflow_sub-bit
overflow_sub-bit c = bit_even c.args.i

pub field_at-requires : goal.field_at-requires
unfolding length_of
field_at-requires c = (omega arith, omega arith)

pub returns : goal.returns
returns c = one_cut c.args.table.now _ _ (λ i. omega (arith, c.type_inv.table i)) _ c.requires.2 c.requires.1 c.field_at.ensures
