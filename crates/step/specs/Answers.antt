-- What step answers, for every list of bytes (document 02, order 1).
use Rattle.std.specs.Prelude.{cond, List, [], ◌∷◌, ℕ, ltb, Result}
use Rattle.esterel.specs.Statement.{Statement}
use Rattle.esterel.specs.Reactions.{State}
use Rattle.esterel.specs.Listing.{nesting}
use Rattle.esterel.specs.Stepping.{Answer, one, none, several, stepping, many_free, crowded_from}
use Rattle.table.specs.declared.Refusal.{Refusal}
use Rattle.table.specs.Outcomes.{Outcome, refusal, values, outcome}
use Rattle.table.specs.Reading.{Table, refused, holds, table_of}
use Rattle.list.specs.Answers.{state_of}
use Rattle.step.specs.declared.Stepped.{Stepped}
use Rattle.step.specs.declared.Stepped.TheVariants.{One, None, Several}

-- the values of an answer: 0 for one, with E, O, k, L; 1 for none; 2 for several
unfoldable pub stepping_outcome : Answer → Outcome
stepping_outcome (one t) = values (0 ∷ t.assumed ∷ t.reaction.emitted ∷ t.reaction.code ∷ t.reaction.reached ∷ [])
stepping_outcome none = values (1 ∷ [])
stepping_outcome several = values (2 ∷ [])

-- "after check's refusals and 14, 17 if over 10 different signals are emitted outside a declaration of them; then 15"
unfoldable pub step_for : Statement → State → ℕ → Outcome
step_for p x I =
    cond (ltb 12 (nesting p)) (refusal 14) (cond (many_free p) (refusal 17) (cond (crowded_from p x I) (refusal 15) (stepping_outcome (stepping p x I))))

unfoldable pub step_in : Table → ℕ → ℕ → ℕ → Outcome
step_in (refused w) I mark X = refusal w
step_in (holds n p) I mark X = step_for p (state_of mark X) I

-- of the bytes t, from I, in the state of a mark and a label set
unfoldable pub step_of : List ℕ → ℕ → ℕ → ℕ → Outcome
step_of t I mark X = step_in (table_of t) I mark X

-- the same values of the answer that the code gives
unfoldable pub stepped_values : Stepped → List ℕ
stepped_values (One E O k L) = 0 ∷ E ∷ O ∷ k ∷ L ∷ []
stepped_values None = 1 ∷ []
stepped_values Several = 2 ∷ []

-- what is said of an answer of step: the number of its refusal, or its values
abbrev pub stepped_outcome : Result Stepped Refusal → Outcome
stepped_outcome = outcome stepped_values
