-- What is prepared of a table, once for all of its states and all assumed sets.
use Rattle.std.specs.Prelude.{◌≡◌, true, false, cond, ℕ, List, ltb, Result, Ok, Err}
use Rattle.esterel.specs.Statement.{Statement, Valid}
use Rattle.esterel.specs.Reactions.{State, start, resumed}
use Rattle.esterel.specs.Listing.{listing, crowded, nesting}
use Rattle.table.specs.declared.Refusal.{Refusal}
use Rattle.table.specs.Outcomes.{number_of_refusal}
use Rattle.table.specs.Reading.{Table}
use Rattle.table.specs.Reading as table
use Rattle.table.specs.inner.Places.{statement_of}
use Rattle.list.specs.declared.State.{State as Asked}
use Rattle.list.specs.declared.State.TheVariants.{Start, Resumed}
use Rattle.list.specs.declared.program.Program.{Program}
use Rattle.list.specs.Answers.{Listing, refused, listed, list_for}

-- the state that a value of the code stands for
unfoldable pub state_in : Asked → State
state_in Start = start
state_in (Resumed X) = resumed X

-- the statement that a program stands for
abbrev pub statement_in : Program → Statement
statement_in p = statement_of p.prepared.now.noted.nodes

-- what listing comes to in a state of a table, and of a statement whose nesting is not refused
unfoldable pub list_at : Table → State → ℕ → Listing
list_at (table.refused w) x E = refused w
list_at (table.holds n p) x E = list_for p x E

unfoldable pub limited : Statement → State → ℕ → Listing
limited p x E = cond (crowded p x E) (refused 15) (listed (listing p x E))

-- the table T is refused with w: by check, or with 14
pub data Unready : Table → ℕ → Type 0 where
  malformed : {w : ℕ} → Unready (table.refused w) w
  nested : {n : ℕ} {p : Statement} → ltb 12 (nesting p) ≡ true → Unready (table.holds n p) 14

-- or it holds the statement of the nodes xs
pub record Ready (T : Table) (xs : List ℕ) : Type 0 where
  pub count : ℕ
  pub holds : T ≡ table.holds count (statement_of xs)
  pub shallow : ltb 12 (nesting (statement_of xs)) ≡ false
  pub valid : Valid 0 (statement_of xs)

-- as r tells
abbrev pub Prepares : Table → Result Program Refusal → Type 0
Prepares T (Ok p) = Ready T p.prepared.now.noted.nodes
Prepares T (Err e) = Unready T (number_of_refusal e)
