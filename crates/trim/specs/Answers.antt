-- What trim answers, and what it leaves in the caller's buffer, for all bytes and every buffer.
use Rattle.std.specs.Prelude.{ℕ, cond, ◌||◌, Result, List, [], ◌∷◌, ltb, length}
use Rattle.esterel.specs.Statement.{Statement, size, depth}
use Rattle.esterel.specs.Trimming.{trimmed}
use Rattle.esterel.specs.Shares.{thousandths, remainder}
use Rattle.table.specs.Outcomes.{Outcome, refusal, values, outcome, buffer_after}
use Rattle.table.specs.Reading.{Table, refused, holds, table_of, deepest}
use Rattle.table.specs.Writing.{write}
use Rattle.table.specs.declared.Refusal.{Refusal}
use Rattle.trim.specs.declared.Written.{Written}

-- what is said of an answer of trim: the refusal, or the node count, the byte length and the share that was kept
unfoldable pub trimmed_outcome : Result Written Refusal → Outcome
trimmed_outcome = outcome (λ written. written.nodes ∷ written.bytes ∷ written.share.thousandths ∷ written.share.remainder ∷ [])

-- "Accepted: node count, byte length", of the trimmed statement q; order 4: "Trim also returns the quotient and the remainder of
-- 1,000 × (nodes after) divided by (nodes before)", where n are those of the table
unfoldable pub values_for : ℕ → Statement → List ℕ
values_for n q = size q ∷ length (write q) ∷ thousandths n (size q) ∷ remainder n (size q) ∷ []

-- for a buffer of `room` bytes: "12 the trimmed table has over 1,024 nodes or depth over 60; 13 the output buffer is shorter than
-- the trimmed table"
unfoldable pub trim_for : ℕ → Statement → ℕ → Outcome
trim_for n q room =
    cond (ltb 1024 (size q) || ltb deepest (depth q)) (refusal 12)
    (cond (ltb room (length (write q))) (refusal 13) (values (values_for n q)))

-- "Check's refusals"; else what the trimmed statement of the table comes to
unfoldable pub trim_in : Table → ℕ → Outcome
trim_in (refused w) room = refusal w
trim_in (holds n p) room = trim_for n (trimmed p) room

-- "the output begins with the table"
unfoldable pub buffer_in : Table → List ℕ → List ℕ
buffer_in (refused w) out = out
buffer_in (holds n p) out = buffer_after (trim_for n (trimmed p) (length out)) (write (trimmed p)) out

-- what trim answers, and the buffer as it returns
unfoldable pub trim_of : List ℕ → ℕ → Outcome
trim_of t room = trim_in (table_of t) room

unfoldable pub buffer_of : List ℕ → List ℕ → List ℕ
buffer_of t out = buffer_in (table_of t) out
