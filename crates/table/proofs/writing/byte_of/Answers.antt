-- `table::writing::byte_of` meets its contract: the mask is the remainder by 256.
use Prim.Native.Nat.{◌/◌, ◌^◌}
use lib.Bits.{and_mask, mask_lt}
use Rattle.table.proofs.writing.byte_of.Goals as goal

pub overflow_cast-result : goal.overflow_cast-result
overflow_cast-result c = record { fits = mask_lt (c.args.word / 2 ^ c.args.shift) 8 }

pub returns : goal.returns
returns c = and_mask (c.args.word / 2 ^ c.args.shift) 8
