-- Trimming a whole statement: where the trimmed statement stands, and how the operation ends.
use Rattle.std.specs.Prelude.{ℕ, ◌+◌, ◌-◌, ◌≤◌, ◌<◌, ◌≡◌, ◌≢◌, Result, List, length, get_or, drop}
use Rattle.esterel.specs.Statement.{Statement, size, depth}
use Rattle.table.specs.Bits.{Below}
use Rattle.table.specs.Outcomes.{buffer_after}
use Rattle.table.specs.Writing.{nodes, write}
use Rattle.trim.specs.declared.descent.Room.{Room}
use Rattle.trim.specs.inner.Parts.{Laid}
use Rattle.table.specs.declared.Refusal.{Refusal}
use Rattle.trim.specs.declared.Written.{Written}
use Rattle.trim.specs.Answers.{trimmed_outcome, trim_for}

-- room for trimming the nodes of a table
pub record Lent (room : Room) : Type 0 where
  pub outermost : get_or room.places 0 0 ≡ 0
  pub whole : room.work.from ≡ 4096

-- the statement q stands at the end of the work area, as far as that holds it
pub record Ends (q : Statement) (part : Laid) (work : List ℕ) : Type 0 where
  pub count : part.from + size q ≡ 4096
  pub stands : 3072 ≤ part.from → drop (part.from - 3072) work ≡ nodes q
  pub deep : part.depth ≡ depth q

-- nodes at the end of the work area, one at least, that fit their fields
pub record EndFits (part : Laid) (work : List ℕ) : Type 0 where
  pub within : part.from < 4096
  pub not_all : part.from ≢ 0
  pub fields : 3072 ≤ part.from → Below 1024 (drop (part.from - 3072) work)

-- the end of trimming a table of n nodes, whatever statement stands there
unfoldable pub Finished : ℕ → List ℕ → Laid → List ℕ → Result Written Refusal → List ℕ → Type 0
Finished n work part out r out' =
    (q : Statement) → Ends q part work → (trimmed_outcome r ≡ trim_for n q (length out)) × (out' ≡ buffer_after (trim_for n q (length out)) (write q) out)
