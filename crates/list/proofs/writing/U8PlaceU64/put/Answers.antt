-- All of its bytes are put.
use mathlib.Core.Path.{◌∙◌}
use Prim.Native.Nat.{◌*◌}
use native.Mathlib.Omega.{arith}
use Rattle.list.proofs.Fills.{put_is}
use Rattle.list.proofs.writing.U8PlaceU64.put.Goals as goal

pub returns : goal.returns
returns c =
    put_is 8 c.args.number (8 * c.args.place) _ c.args.buffer.now _ (omega arith) (c.copy_from_slice.ensures.after ∙ c.to_be_bytes.ensures) (omega (arith, c.requires))
