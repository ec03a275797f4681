-- The notes that marking leaves at the nodes, and that trimming goes by.
use Rattle.std.specs.Prelude.{ℕ, zero, suc, ◌+◌, ◌<◌, ◌≡◌, Bool, true, false, cond, not, List, eqb, length, get_or}
use Rattle.sets.specs.Set.{◌intersect◌}
use Rattle.esterel.specs.Statement.{Statement, pauses}
use Rattle.esterel.specs.Codes.{s, d}
use Rattle.esterel.specs.Trimming.{ends_at, trim}
use Rattle.table.specs.Kinds.{kind_of, row_of}
use Rattle.table.specs.Reading.{kind_of_node}
use Rattle.table.specs.inner.Places.{Placed, statement_at}
use Rattle.trim.specs.declared.noted.Ending.{Ending}
use Rattle.trim.specs.declared.noted.Ending.TheVariants.{Never, Started, Always}
use Rattle.trim.specs.declared.noted.Note.{Note}

-- the statement is live: some pause of it has its label in R
unfoldable pub live : ℕ → Statement → Bool
live R p = not (eqb (pauses p intersect R) 0)

-- ---- a note: a place, a flag of the statement, and what is known of its child

-- from whether something holds where the statement is only resumed, and where it may be started
abbrev pub ending_of : Bool → Bool → Ending
ending_of true started = Always
ending_of false true = Started
ending_of false false = Never

-- whether it holds where the statement may be started, and where it is only resumed
abbrev pub holds : Ending → Bool → Bool
holds Never started = false
holds Started started = started
holds Always started = true

-- the place of the second child; whether the statement is live; and what holds of the first or only child
abbrev pub note_with : ℕ → Bool → Bool → Bool → Note
note_with second lives resumed started = record { second = second; live = lives; ending = ending_of resumed started }

-- at a place without a note
abbrev pub no_note : Note
no_note = record { second = 0; live = false; ending = Never }

-- whether the child can end, and of a try whether it is kept
abbrev pub ends_of : Note → Bool → Bool
ends_of note started = holds note.ending started

-- ---- the notes of a statement

-- of a node without children: whether it is live
abbrev pub leaf_note : ℕ → Statement → Note
leaf_note R p = note_with 0 (live R p) false false

-- of a try, with its body: whether an exit left in the body ends at the try, with 0 and with 1
abbrev pub try_note : ℕ → Statement → Placed → Note
try_note R p body = note_with 0 (live R p) (ends_at 0 (trim R false body.statement)) (ends_at 0 (trim R true body.statement))

-- of the others, with their first child: where the second stands, and whether the first can end, resumed and started
abbrev pub child_note : ℕ → Statement → Placed → ℕ → Note
child_note R p first second = note_with second (live R p) (d R first.statement).ends (s first.statement).ends

-- where a second child stands, by the number of the children
abbrev pub second_place : ℕ → Placed → ℕ
second_place children first = cond (eqb children 2) first.next 0

-- the note of the statement p at a node, by the kind of the node and its first child
unfoldable pub note_for : ℕ → ℕ → Statement → Placed → Note
note_for R kind p first =
    cond (eqb (row_of (kind_of kind)).children 0) (leaf_note R p)
    (cond (eqb kind 10) (try_note R p first) (child_note R p first (second_place (row_of (kind_of kind)).children first)))

-- by the number of children of a node
abbrev pub for_children : ℕ → Type 0 → Type 0 → Type 0
for_children zero first second = Unit {0}
for_children (suc zero) first second = first
for_children (suc (suc n)) first second = first × second

-- each node of the statement at a place has its note
unfoldable pub Noted : ℕ → List Note → List ℕ → ℕ → ℕ → Type 0
Noted R notes nodes zero at = Unit {0}
Noted R notes nodes (suc left) at =
    (at < length nodes → get_or notes at no_note ≡ note_for R (kind_of_node (get_or nodes at 0)) (statement_at (suc left) nodes at).statement (statement_at left nodes (at + 1)))
    × for_children (row_of (kind_of (kind_of_node (get_or nodes at 0)))).children (Noted R notes nodes left (at + 1))
    (Noted R notes nodes left (statement_at left nodes (at + 1)).next)
