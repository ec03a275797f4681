-- Lists of rows in front of an area: what is asked and left by the functions that make one list of them.
use Rattle.std.specs.Prelude.{◌≡◌, Bool, true, false, cond, List, ◌++◌, ℕ, ◌+◌, ◌*◌, ◌≤◌, Result, Ok, Err, length, get_or}
use Rattle.esterel.specs.Statement.{Statement, depth}
use Rattle.esterel.specs.Reactions.{State, start}
use Rattle.sets.specs.Set.{only, ◌union◌, ◌without◌}
use Rattle.esterel.specs.inner.Rows.{Row, each_row, going_rows, hide_rows}
use Rattle.esterel.specs.inner.CappedRows.{CappedRows, collect_rows, change_rows, join_rows, capped_rows}
use Rattle.rows.specs.declared.row.Row.{Row as Packed}
use Rattle.rows.specs.declared.lists.Unlisted.{Unlisted}
use Rattle.rows.specs.declared.lists.Unlisted.TheVariants.{Over, Cramped, Refused}
use Rattle.rows.specs.inner.Rules.{Clashless}
use Rattle.rows.specs.inner.Area.{rows, InOrder, Made}
use Rattle.table.specs.Reading.{kind_of_node, operand_of}
use Rattle.lister.specs.declared.noted.Noted.{Noted}
use Rattle.lister.specs.declared.presence.Presence.{Presence}
use Rattle.lister.specs.inner.Notes.{ReadWhole}

-- so many rows are room enough to list a statement
abbrev pub room_for : Statement → ℕ
room_for p = 64 * depth p + 65

-- the rows of p in the state x
abbrev pub rows_under : Presence → Statement → State → CappedRows
rows_under s p x = capped_rows s.slotted p x s.assumed s.unknown

-- the rows of p with the signal S present, and its emission hidden, and with S absent; and both together
abbrev pub present_rows : Presence → ℕ → Statement → State → CappedRows
present_rows g S p x = change_rows (hide_rows S) (capped_rows g.slotted p x (g.assumed union only S) 0)

abbrev pub absent_rows : Presence → ℕ → Statement → State → CappedRows
absent_rows g S p x = capped_rows g.slotted p x (g.assumed without S) 0

abbrev pub twice : Presence → ℕ → Statement → State → CappedRows
twice g S p x = join_rows ◌++◌ (present_rows g S p x) (absent_rows g S p x)

-- they were made in an area that is now a
abbrev pub MadeRows : Presence → Statement → State → List Packed → Result ℕ Unlisted → Type 0
MadeRows s p x a r = Made a (room_for p) (rows_under s p x) r

-- the statement at a place is read whole, and its node is of the kind k and names the signal S
pub record Declares (s : Noted) (at k S : ℕ) : Type 0 where
  pub whole : ReadWhole s.count s.nodes at
  pub kind : kind_of_node (get_or s.nodes at 0) ≡ k
  pub operand : S ≡ operand_of (get_or s.nodes at 0)

-- the list of which r tells in the area a was changed row by row, and r' tells of it in b
abbrev pub Altered : (Row → List Row) → Result ℕ Unlisted → List Packed → List Packed → Result ℕ Unlisted → Type 0
Altered f (Ok n) a b r' = Made b 0 (collect_rows (each_row (rows a n) f)) r'
Altered f (Err e) a b r' = r' ≡ Err e

-- a list would have over 64 rows
abbrev pub is_over : Result ℕ Unlisted → Bool
is_over (Ok n) = false
is_over (Err Over) = true
is_over (Err Cramped) = false
is_over (Err Refused) = false

-- n rows stand in front
pub record Front (a : List Packed) (n : ℕ) : Type 0 where
  pub small : n ≤ 64
  pub fits : n ≤ length a
  pub rising : InOrder (rows a n)
  pub free : Clashless (rows a n)

-- the rows of a started statement; where it starts again, as the body of a loop, of these those that go on
abbrev pub following : Presence → Bool → Statement → CappedRows
following s again p = cond again (change_rows going_rows (rows_under s p start)) (rows_under s p start)
