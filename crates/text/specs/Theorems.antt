-- What holds of texts: the theorems that order 2 asks for, each as one statement. They are proved in proofs/Theorems.
use Rattle.std.specs.Prelude.{ℕ, ◌≤◌, ◌≡◌, ◌↔◌, ◌⊎◌, List}
use Rattle.std.proofs.Math.Option.{some}
use Rattle.esterel.specs.Statement.{Statement, size, depth}
use Rattle.table.specs.Bits.{Below}
use Rattle.table.specs.Reading.{Table, holds, table_of}
use Rattle.table.specs.Writing.{write, Allowed}
use Rattle.text.specs.Parts.{Part}
use Rattle.text.specs.Grammar.{whole, Text}
use Rattle.text.specs.Spelling.{Spelled, TextOf}
use Rattle.text.specs.Writing.{parts_of, bracket_pairs, write_text}
use Rattle.text.specs.inner.Lexer.{read_text}
use Rattle.text.specs.Reading.{table_in}

-- A text is the text of at most one statement.
abbrev pub Unambiguous : Type 0
Unambiguous = (bs : List ℕ) (p q : Statement) → TextOf bs p → TextOf bs q → p ≡ q

-- The reader reads exactly the texts that have a derivation, each as its statement.
abbrev pub ExactReading : Type 0
ExactReading = (bs : List ℕ) (p : Statement) → (read_text bs ≡ some p) ↔ TextOf bs p

-- A text is accepted exactly where a table may hold its statement, and that statement's table is given.
abbrev pub ExactAccepting : Type 0
ExactAccepting = (bs : List ℕ) (n : ℕ) (p : Statement) → (table_in bs ≡ holds n p) ↔ (TextOf bs p × Allowed p × (n ≡ size p))

-- "18 the text breaks the grammar or that depth": a text is refused with 18 exactly where it is the text of no statement.
abbrev pub ExactBreaking : Type 0
ExactBreaking = (bs : List ℕ) → (table_in bs ≡ Table.refused 18) ↔ ((p : Statement) → TextOf bs p → ⊥)

-- "Errors: 18 .. 19 .. 3; then 8, 9, 10": a text is refused with no other number.
abbrev pub RefusedAs : Type 0
RefusedAs = (bs : List ℕ) (w : ℕ) → table_in bs ≡ Table.refused w → (w ≡ 18) ⊎ ((w ≡ 19) ⊎ ((w ≡ 3) ⊎ ((w ≡ 8) ⊎ ((w ≡ 9) ⊎ (w ≡ 10)))))

-- What is written of a statement at most 60 deep, as every statement of a table is, is a text of it, with brackets and statements
-- closed by `end` at most 59 deep.
abbrev pub WrittenDepth : Type 0
WrittenDepth = (p : Statement) → depth p ≤ 60 → Spelled (write_text p) (parts_of p) × Text whole 59 (parts_of p) p

-- "reading that text returns the same table": what is written of an accepted table is read as that table.
abbrev pub ReadBack : Type 0
ReadBack = (t : List ℕ) (n : ℕ) (p : Statement) → Below 256 t → table_of t ≡ holds n p → (table_in (write_text p) ≡ holds n p) × (write p ≡ t)

-- "only the brackets that grouping needs": no text of the statement, however deep, has fewer.
abbrev pub FewestBrackets : Type 0
FewestBrackets = (n : ℕ) (ts : List Part) (p : Statement) → Text whole n ts p → bracket_pairs (parts_of p) ≤ bracket_pairs ts

-- Reading, then writing, then reading gives the table of the first reading: texts of one statement are brought to one form.
abbrev pub ReadWriteRead : Type 0
ReadWriteRead = (bs : List ℕ) (n : ℕ) (p : Statement) → table_in bs ≡ holds n p → table_in (write_text p) ≡ holds n p
