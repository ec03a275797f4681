-- Writing a statement as a table, also one that no table may hold.
use Rattle.std.specs.Prelude.{ℕ, ◌+◌, ◌*◌, ◌≤◌, List, [], ◌∷◌, ◌++◌, length}
use Rattle.esterel.specs.Statement.{Statement, nothing, pause, gotopause, emit, exit, signal, present, sequence, parallel, loop, try, size, depth, Valid}
use Rattle.table.specs.Bits.{bits, bytes_of}
use Rattle.table.specs.Reading.{deepest}

abbrev pub node : ℕ → ℕ → ℕ
node kind operand = kind * 64 + operand

-- "Nodes stand parent first, then first child with all below it, then second child"
unfoldable pub nodes : Statement → List ℕ
nodes nothing = node 0 0 ∷ []
nodes (pause l) = node 1 l ∷ []
nodes (gotopause l) = node 2 l ∷ []
nodes (emit S) = node 3 S ∷ []
nodes (exit d) = node 4 d ∷ []
nodes (signal S p) = node 5 S ∷ nodes p
nodes (present S p q) = node 6 S ∷ nodes p ++ nodes q
nodes (sequence p q) = node 7 0 ∷ nodes p ++ nodes q
nodes (parallel p q) = node 8 0 ∷ nodes p ++ nodes q
nodes (loop p) = node 9 0 ∷ nodes p
nodes (try p) = node 10 0 ∷ nodes p

-- a statement that may stand in a table: "N is 1 to 1,024", "no node is deeper than 60"
pub record Allowed (p : Statement) : Type 0 where
  pub valid : Valid 0 p
  pub few : size p ≤ 1024
  pub deep : depth p ≤ deepest

-- nodes of 10 bits each
unfoldable pub node_bits : List ℕ → List ℕ
node_bits [] = []
node_bits (x ∷ xs) = bits 10 x ++ node_bits xs

-- "4 bits edition (1), 12 bits node count N, then N nodes"
unfoldable pub write_nodes : List ℕ → List ℕ
write_nodes xs = bytes_of (bits 4 1 ++ (bits 12 (length xs) ++ node_bits xs))

unfoldable pub write : Statement → List ℕ
write p = write_nodes (nodes p)
