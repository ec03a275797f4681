-- Reading a text as a table: any list of bytes is refused, or is a text of a statement that a table may hold.
use Rattle.std.specs.Prelude.{ℕ, Bool, true, cond, ◌&&◌, List, leb, ltb}
use Rattle.std.proofs.Math.Option.{Option, none, some}
use Rattle.esterel.specs.Statement.{Statement, nothing, pause, gotopause, emit, exit, signal, present, sequence, parallel, loop, try, size}
use Rattle.table.specs.Reading.{Table, table_of}
use Rattle.table.specs.Writing.{write}
use Rattle.text.specs.inner.Lexer.{read_text}

-- "a number is out of its kind's range": labels and levels 1 to 63, signals 0 to 31
unfoldable pub label_ranged : ℕ → Bool
label_ranged l = leb 1 l && leb l 63

unfoldable pub signal_ranged : ℕ → Bool
signal_ranged S = leb S 31

unfoldable pub ranged : Statement → Bool
ranged nothing = true
ranged (pause l) = label_ranged l
ranged (gotopause l) = label_ranged l
ranged (emit S) = signal_ranged S
ranged (exit d) = label_ranged d
ranged (signal S p) = signal_ranged S && ranged p
ranged (present S p q) = signal_ranged S && (ranged p && ranged q)
ranged (sequence p q) = ranged p && ranged q
ranged (parallel p q) = ranged p && ranged q
ranged (loop p) = ranged p
ranged (try p) = ranged p

-- "18 the text breaks the grammar or that depth; then 19 a number is out of its kind's range; then 3; then 8, 9, 10 at the first
-- node that earns one", which are those of the table that the statement would have
unfoldable pub table_for : Option Statement → Table
table_for none = Table.refused 18
table_for (some p) = cond (ranged p) (cond (ltb 1024 (size p)) (Table.refused 3) (table_of (write p))) (Table.refused 19)

-- "The text becomes a table". read_text gives the statement of which the grammar makes the bytes a text, and nothing else: that is
-- ExactReading of Theorems, so how it goes about it need not be read.
unfoldable pub table_in : List ℕ → Table
table_in bs = table_for (read_text bs)
