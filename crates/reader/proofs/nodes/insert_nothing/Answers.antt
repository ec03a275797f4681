-- `reader::nodes::insert_nothing` meets its contract: the nodes before the place are copied one place forward.
use native.Mathlib.Omega.{arith}
use Prim.Native.Nat.{◌+◌, ◌-◌, min}
use mathlib.Core.Path.{◌≡◌, refl, ◌∙◌}
use Rattle.reader.specs.inner.Nodes.{insert_on}
use Rattle.reader.proofs.Held.{Shifted, not_told, shifted_to, inserted, insert_none}
use Rattle.reader.proofs.nodes.insert_nothing.Goals as goal

pub returns-in_err-count : goal.returns-in_err-count
unfolding insert_on
returns-in_err-count c = not_told (insert_on _) _ refl c.in_err-count.was c.from_residual.ensures c.told-nodes

pub returns-in_err-at : goal.returns-in_err-at
returns-in_err-at c =
    insert_none c.in_ok-count.count _ _ c.in_ok-count.was c.from_residual-in_err-at.ensures (omega (arith, c.in_err-at.ensures)) c.told-nodes

pub returns : goal.returns
returns c =
    let place = c.in_ok-at.ensures in
    let least = c.min-end.ensures in
    let end : 1024 - c.min-end.result ≡ 1024 - min c.args.behind c.in_ok-count.count = omega arith in
    let shifted : Shifted c.in_ok-count.count (1024 - c.min-end.result) c.args.nodes.now c.copy_within.new.self =
    shifted_to c.in_ok-count.count c.args.nodes.now (omega arith) c.told-nodes (c.in_ok-at.at + 1) _ c.in_ok-at.at c.copy_within.ensures.after (omega arith) (omega arith) (omega arith) (omega arith) in
    inserted c.in_ok-count.count c.args.nodes.now (omega arith) c.told-nodes c.args.behind c.copy_within.new.self c.in_ok-count.was shifted c.node_of.ensures end refl (c.copy_within.ensures.len ∙ c.told-nodes)
