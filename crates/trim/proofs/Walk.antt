-- A step of a walk over the nodes, past the node that is there.
use mathlib.Core.Path.{ap, ◌∙◌}
use mathlib.Core.List.{List}
use Prim.Native.Nat.{ℕ, ◌+◌, ◌-◌, ◌≤◌}
use native.Mathlib.Omega.{arith}
use lib.ListN.{get_or}
use Rattle.table.specs.Kinds.{kind_of, row_of}
use Rattle.table.specs.Reading.{operand_of}
use Rattle.table.specs.inner.Places.{Placed, statement_at}
use Rattle.table.proofs.Places.{Node, placed_node, place_next, follow_forward, next_forward}

-- a node that is there is passed
pub next_after : {left : ℕ} {nodes : List ℕ} {at k : ℕ} → Node left nodes at k → at + 1 ≤ (statement_at left nodes at).next
next_after {left} {nodes} {at} {k} n =
    let e = ap (λ (p : Placed). p.next) (placed_node n) ∙ place_next (kind_of k) (operand_of (get_or nodes at 0)) (statement_at (left - 1) nodes) (at + 1) in
    let f = follow_forward (statement_at (left - 1) nodes) (next_forward nodes (left - 1)) (row_of (kind_of k)).children (at + 1) in
    omega arith
