-- What reach answers: check's refusal, or s, R and the number of rounds of the statement that the table holds.
use Rattle.std.specs.Prelude.{cond, Result, List, [], ◌∷◌, ℕ}
use Rattle.esterel.specs.Codes.{labels, s}
use Rattle.esterel.specs.Reachability as rounds
use Rattle.table.specs.Outcomes.{Outcome, refusal, values, outcome}
use Rattle.table.specs.Reading.{Table, refused, holds, table_of}
use Rattle.table.specs.declared.Refusal.{Refusal}
use Rattle.reach.specs.declared.Reached.{Reached}

-- what is said of an answer of reach: the refusal, or whether s has 0, as 1 or 0, the labels of s, R and the rounds
abbrev pub reached_outcome : Result Reached Refusal → Outcome
reached_outcome = outcome (λ r. cond r.ends 1 0 ∷ r.labels ∷ r.set ∷ r.rounds ∷ [])

-- "Accepted: s (whether it has 0, and its labels as a set; a whole table has no higher code), R, rounds"
unfoldable pub reach_in : Table → Outcome
reach_in (refused w) = refusal w
reach_in (holds n p) = values (cond (s p).ends 1 0 ∷ labels (s p) ∷ (rounds.reach p).set ∷ (rounds.reach p).rounds ∷ [])

-- what reach answers
unfoldable pub reach_of : List ℕ → Outcome
reach_of t = reach_in (table_of t)
