-- What the functions that write a table ask and make: nodes out of kinds and operands, and nodes as one number.
use Rattle.std.specs.Prelude.{ℕ, ◌*◌, ◌^◌, ◌≤◌, ◌<◌, ◌≡◌, cond, List, ltb, length}
use Rattle.table.specs.declared.Row.{Row}
use Rattle.table.specs.Kinds.{kind_of, row_of}
use Rattle.table.specs.Bits.{bits, Below}
use Rattle.table.specs.Reading.{length_of}
use Rattle.table.specs.Writing.{node, node_bits}

-- the operand, or the nearest in the range of a kind
abbrev pub in_range : Row → ℕ → ℕ
in_range row o = cond (ltb o row.least) row.least (cond (ltb row.most o) row.most o)

-- the node that is made of a kind and an operand
unfoldable pub node_of : ℕ → ℕ → ℕ
node_of kind operand = node kind (in_range (row_of (kind_of kind)) operand)

-- nodes that fit their fields, few enough for the count's field, and room for their table
pub record Writable (xs : List ℕ) (room : ℕ) : Type 0 where
  pub few : length xs < 4096
  pub fields : Below 1024 xs
  pub fits : length_of (length xs) ≤ room

-- nodes as one number
pub record Gathered (xs : List ℕ) (count word : ℕ) : Type 0 where
  pub fields : bits (10 * count) word ≡ node_bits xs
  pub small : word < 2 ^ (10 * count)
