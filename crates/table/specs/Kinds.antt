-- The kinds of nodes (document 01, the table under "The node table").
use Rattle.std.specs.Prelude.{ℕ, List, [], ◌∷◌, get_or}
use Rattle.table.specs.declared.Row.{Row}

pub data Kind : Type 0 where
  nothing pause gotopause emit exit signal present sequence parallel loop try unused : Kind

-- by their numbers, 0 to 15
unfoldable pub kinds : List Kind
kinds =
    nothing ∷ pause ∷ gotopause ∷ emit ∷ exit ∷ signal ∷ present ∷ sequence ∷ parallel ∷ loop ∷ try
    ∷ unused ∷ unused ∷ unused ∷ unused ∷ unused ∷ []

unfoldable pub kind_of : ℕ → Kind
kind_of k = get_or kinds k unused

abbrev pub row : ℕ → ℕ → ℕ → Row
row c l m = record { children = c; least = l; most = m }

-- "Each kind fixes its operand's range and its children": the children, the smallest and the largest operand
unfoldable pub row_of : Kind → Row
row_of nothing = row 0 0 0
row_of pause = row 0 1 63
row_of gotopause = row 0 1 63
row_of emit = row 0 0 31
row_of exit = row 0 1 63
row_of signal = row 1 0 31
row_of present = row 2 0 31
row_of sequence = row 2 0 0
row_of parallel = row 2 0 0
row_of loop = row 1 0 0
row_of try = row 1 0 0
row_of unused = row 0 0 0
