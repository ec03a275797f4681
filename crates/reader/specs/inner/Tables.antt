-- What a whole text becomes.
use Rattle.std.specs.Prelude.{Result, ℕ, ◌-◌, ◌≤◌, ◌≡◌, true, List, length, drop}
use Rattle.esterel.specs.Statement.{Statement}
use Rattle.table.specs.declared.Refusal.{Refusal}
use Rattle.table.specs.Reading.{Table}
use Rattle.table.specs.Writing.{nodes, write}
use Rattle.text.specs.Answers.{answer_outcome, answer_for, buffer_for}
use Rattle.text.specs.Reading.{ranged}

-- the nodes of a statement whose numbers are in range stand at the end of the buffer
pub record AtEnd (count : ℕ) (xs : List ℕ) : Type 0 where
  pub statement : Statement
  pub inside : ranged statement ≡ true
  pub counted : count ≤ 1024
  pub filled : length xs ≡ 1024
  pub stand : drop (1024 - count) xs ≡ nodes statement

-- what is answered for a table that is to be written, and the buffer afterwards
pub record Answered (t : Table) (out : List ℕ) (r : Result ℕ Refusal) (out' : List ℕ) : Type 0 where
  pub outcome : answer_outcome r ≡ answer_for write t (length out)
  pub buffer : out' ≡ buffer_for write t out
