-- What a lister asks of the nodes: that the statement at a place is read whole, and that it is noted of each place where the
-- statement there ends, and its pauses.
use Rattle.std.specs.Prelude.{◌≡◌, Bool, ◌&&◌, ◌||◌, List, ℕ, ◌+◌, ◌≤◌, ◌<◌, eqb, get_or}
use Rattle.sets.specs.Set.{◌minus◌}
use Rattle.esterel.specs.Statement.{Statement, pauses, size, depth}
use Rattle.table.specs.Reading.{kind_of_node, operand_of, deepest}
use Rattle.table.specs.inner.Places.{Placed, statement_at}
use Rattle.lister.specs.declared.noted.Note.{Note}

-- the statement at a place and the place after it, read down to the depth that no table exceeds
abbrev pub place_at : List ℕ → ℕ → Placed
place_at xs at = statement_at deepest xs at

abbrev pub part_at : List ℕ → ℕ → Statement
part_at xs at = (place_at xs at).statement

-- the statement at a place is read whole, from the first n nodes: none of it is missing, or too deep
pub record ReadWhole (n : ℕ) (xs : List ℕ) (at : ℕ) : Type 0 where
  pub shallow : depth (part_at xs at) ≤ deepest
  pub full : at + size (part_at xs at) ≤ (place_at xs at).next
  pub within : (place_at xs at).next ≤ n

-- where nothing is noted
abbrev pub unnoted : Note
unnoted = record { end = 0; from = 0; behind = 0; nest = 0 }

-- the labels of the pauses of a statement by its note, where the place j of `unions` has the labels of the last j pauses
unfoldable pub labels_noted : List ℕ → Note → ℕ
labels_noted unions note = get_or unions note.from 0 minus get_or unions note.behind 0

-- from the place i on, the notes are right of each statement that is read whole
abbrev pub EndsFrom : ℕ → ℕ → List ℕ → List Note → Type 0
EndsFrom i n xs notes = (at : ℕ) → i ≤ at → ReadWhole n xs at → (get_or notes at unnoted).end ≡ (place_at xs at).next

-- a note counts pauses, and by it the labels of the statement are those of its pauses
pub record LabelsNoted (unions : List ℕ) (note : Note) (labels : ℕ) : Type 0 where
  pub from_few : note.from < 64
  pub behind_few : note.behind < 64
  pub right : labels_noted unions note ≡ labels

abbrev pub PausesFrom : ℕ → ℕ → List ℕ → List Note → List ℕ → Type 0
PausesFrom i n xs notes unions = (at : ℕ) → i ≤ at → ReadWhole n xs at → LabelsNoted unions (get_or notes at unnoted) (pauses (part_at xs at))

-- an emit or a present of the signal S
abbrev pub names_at : ℕ → ℕ → Bool
names_at S x = eqb (operand_of x) S && (eqb (kind_of_node x) 3 || eqb (kind_of_node x) 6)

-- signals that are emitted are below 32, as in every table
abbrev pub SmallSignals : ℕ → List ℕ → Type 0
SmallSignals n xs = (i : ℕ) → i < n → kind_of_node (get_or xs i 0) ≡ 3 → operand_of (get_or xs i 0) < 32

-- no node is of a kind above 10
abbrev pub KnownTo : ℕ → List ℕ → Type 0
KnownTo n xs = (i : ℕ) → i < n → kind_of_node (get_or xs i 0) ≤ 10
