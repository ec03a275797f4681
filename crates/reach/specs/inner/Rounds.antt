-- The rounds over the nodes of one statement: what they ask, and what they come to.
use Rattle.std.specs.Prelude.{ℕ, ◌≡◌, List, Result, Ok}
use Rattle.esterel.specs.Codes.{s}
use Rattle.esterel.specs.Reachability.{reach}
use Rattle.table.specs.inner.Places.{statement_of}
use Rattle.reach.specs.declared.Settled.{Settled}
use Rattle.table.specs.declared.Refusal.{Refusal}

-- the nodes are not refused, and the rounds have come to rest: "Rounds go on until a round adds no label; the last R is the
-- answer"
pub record Reaches (nodes : List ℕ) (r : Result Settled Refusal) : Type 0 where
  pub found : Settled
  pub rest : r ≡ Ok found
  pub start : found.start ≡ s (statement_of nodes)
  pub set : found.set ≡ (reach (statement_of nodes)).set
  pub rounds : found.rounds ≡ (reach (statement_of nodes)).rounds
