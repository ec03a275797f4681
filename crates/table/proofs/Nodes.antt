-- The nodes of a statement: their kinds and operands, and how many there are.
use mathlib.Core.Path.{◌≡◌, refl, ap, ◌∙◌}
use Prim.Native.Nat.{ℕ, suc, ◌/◌, ◌%◌, ◌≤◌, ◌<◌}
use native.Mathlib.Omega.{arith}
use lib.ListN.{length, length-append}
use Rattle.esterel.specs.Statement.{Statement, nothing, pause, gotopause, emit, exit, signal, present, sequence, parallel, loop, try, size, depth}
use Rattle.table.specs.Writing.{node, nodes}

-- ---- A node
pub kind_node : (k o : ℕ) → o < 64 → node k o / 64 ≡ k
kind_node k o h = omega arith

pub operand_node : (k o : ℕ) → o < 64 → node k o % 64 ≡ o
operand_node k o h = omega arith

pub node_split : (x : ℕ) → node (x / 64) (x % 64) ≡ x
node_split x = omega arith

-- ---- The nodes of a statement
pub length_nodes : (p : Statement) → length (nodes p) ≡ size p
unfolding nodes size
length_nodes nothing = refl
length_nodes (pause l) = refl
length_nodes (gotopause l) = refl
length_nodes (emit S) = refl
length_nodes (exit d) = refl
length_nodes (signal S p) = ap suc (length_nodes p)
length_nodes (present S p q) = ap suc (length-append (nodes p) (nodes q) ∙ rw (length_nodes p, length_nodes q))
length_nodes (sequence p q) = ap suc (length-append (nodes p) (nodes q) ∙ rw (length_nodes p, length_nodes q))
length_nodes (parallel p q) = ap suc (length-append (nodes p) (nodes q) ∙ rw (length_nodes p, length_nodes q))
length_nodes (loop p) = ap suc (length_nodes p)
length_nodes (try p) = ap suc (length_nodes p)

pub depth_positive : (p : Statement) → 1 ≤ depth p
unfolding depth
depth_positive nothing = omega arith
depth_positive (pause l) = omega arith
depth_positive (gotopause l) = omega arith
depth_positive (emit S) = omega arith
depth_positive (exit d) = omega arith
depth_positive (signal S p) = omega arith
depth_positive (present S p q) = omega arith
depth_positive (sequence p q) = omega arith
depth_positive (parallel p q) = omega arith
depth_positive (loop p) = omega arith
depth_positive (try p) = omega arith
