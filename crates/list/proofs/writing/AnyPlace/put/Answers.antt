-- The element that was put stands alone.
use native.Mathlib.Omega.{arith}
use Rattle.list.proofs.Fills.{set_is}
use Rattle.list.proofs.writing.AnyPlace.put.Goals as goal

pub returns : goal.returns
returns g c = set_is c.args.buffer.now c.args.place c.args.number (omega (arith, c.requires))
