-- Steps and runs (document 01, "Reactions").
use Rattle.std.specs.Prelude.{ℕ, ◌≡◌, ◌≢◌, ◌⊎◌, List, [], ◌∷◌}
use Rattle.esterel.specs.Statement.{Statement}
use Rattle.esterel.specs.Reactions.{State, start, resumed, Reaction, Reacts}

-- "A step is any (E, O, k, L): two signal sets, a number, a label set"
pub record Step : Type 0 where
  pub assumed : ℕ
  pub reaction : Reaction

-- the steps are taken one after the other from the state x: "after k = 1 the next state is L; after another code the run
-- has ended and no step follows"
unfoldable pub RunFrom : Statement → State → List Step → Type 0
RunFrom p x [] = Unit {0}
RunFrom p x (t ∷ ts) =
    Reacts p x t.assumed t.reaction
    × (((t.reaction.code ≡ 1) × RunFrom p (resumed t.reaction.reached) ts) ⊎ ((t.reaction.code ≢ 1) × (ts ≡ [])))

-- "A run begins at the start"; the empty list is one
abbrev pub Run : Statement → List Step → Type 0
Run p ts = RunFrom p start ts

-- x is a state of the run with these steps: "the start and each L reached with code 1"
unfoldable pub StateOf : List Step → State → Type 0
StateOf [] x = x ≡ start
StateOf (t ∷ ts) x = ((t.reaction.code ≡ 1) × (x ≡ resumed t.reaction.reached)) ⊎ StateOf ts x
