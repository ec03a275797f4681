-- What reading a text and writing a table as text answer, and what they leave in the caller's buffer, for all bytes and every buffer.
use Rattle.std.specs.Prelude.{Result, ℕ, List, [], ◌∷◌, length}
use Rattle.esterel.specs.Statement.{Statement}
use Rattle.table.specs.declared.Refusal.{Refusal}
use Rattle.table.specs.Outcomes.{Outcome, refusal, outcome, fitted, buffer_after}
use Rattle.table.specs.Reading.{Table, refused, holds, table_of}
use Rattle.table.specs.Writing.{write}
use Rattle.text.specs.Writing.{write_text}
use Rattle.text.specs.Reading.{table_in}

-- what is said of an answer: the refusal, or how many bytes were written
abbrev pub answer_outcome : Result ℕ Refusal → Outcome
answer_outcome = outcome (λ n. n ∷ [])

-- the refusals of a table, then 13; else the statement is written, in a form
unfoldable pub answer_for : (Statement → List ℕ) → Table → ℕ → Outcome
answer_for form (refused w) room = refusal w
answer_for form (holds n p) room = fitted (form p) room

unfoldable pub buffer_for : (Statement → List ℕ) → Table → List ℕ → List ℕ
buffer_for form (refused w) out = out
buffer_for form (holds n p) out = buffer_after (fitted (form p) (length out)) (form p) out

-- "The text becomes a table": what reading answers, and the buffer as it returns
unfoldable pub read_of : List ℕ → ℕ → Outcome
read_of text room = answer_for write (table_in text) room

unfoldable pub read_buffer : List ℕ → List ℕ → List ℕ
read_buffer text out = buffer_for write (table_in text) out

-- "Writing gives check's refusals, then 13"
unfoldable pub write_of : List ℕ → ℕ → Outcome
write_of table room = answer_for write_text (table_of table) room

unfoldable pub write_buffer : List ℕ → List ℕ → List ℕ
write_buffer table out = buffer_for write_text (table_of table) out
