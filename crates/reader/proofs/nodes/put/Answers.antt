-- `reader::nodes::put` meets its contract.
use native.Mathlib.Omega.{arith}
use mathlib.Core.Path.{refl}
use Rattle.reader.specs.inner.Nodes.{put_on}
use Rattle.reader.proofs.Held.{not_told, put_one, put_none}
use Rattle.reader.proofs.nodes.put.Goals as goal

pub returns-in_err-count : goal.returns-in_err-count
unfolding put_on
returns-in_err-count c = not_told (put_on _) _ refl c.in_err-count.was c.from_residual.ensures c.told-nodes

pub returns-in_err-at : goal.returns-in_err-at
returns-in_err-at c =
    put_none c.in_ok-count.count _ _ c.in_ok-count.was c.from_residual-in_err-at.ensures (omega (arith, c.in_err-at.ensures)) c.told-nodes

pub returns : goal.returns
returns c = put_one _ _ _ _ c.in_ok-count.was (omega (arith, c.in_ok-at.ensures)) c.told-nodes
