-- Looking for steps with signals unknown: the sets E that agree with A outside U are looked at together, in one list of rows.
use Rattle.std.specs.Prelude.{◌≡◌, Bool, true, false, cond, ◌&&◌, List, [], ◌∷◌, ℕ, eqb}
use Rattle.sets.specs.Set.{◌union◌, ◌minus◌}
use Rattle.esterel.specs.Statement.{Statement}
use Rattle.esterel.specs.Reactions.{State}
use Rattle.esterel.specs.Runs.{Step}
use Rattle.esterel.specs.Listing as listing
use Rattle.esterel.specs.Stepping.{StepFrom, Answer, one, none, Says, combined}
use Rattle.esterel.specs.inner.Conditions.{seen, holds}
use Rattle.esterel.specs.inner.Rows.{Row, Agree}

-- a step from I whose E agrees with A outside U
pub record StepAmong (p : Statement) (x : State) (I A U : ℕ) (t : Step) : Type 0 where
  pub from : StepFrom p x I t
  pub agrees : Agree U A t.assumed

-- what the row is a step from I under, if it is one
abbrev pub row_assumed : ℕ → Row → ℕ
row_assumed I w = I union w.reacts.emitted

unfoldable pub row_steps : ℕ → ℕ → ℕ → ℕ → Row → Bool
row_steps M I A U w = eqb (row_assumed I w minus U) (A minus U) && holds w.when (seen M (row_assumed I w))

unfoldable pub row_answer : ℕ → ℕ → ℕ → ℕ → Row → Answer
row_answer M I A U w = cond (row_steps M I A U w) (one (record { assumed = row_assumed I w; reaction = w.reacts })) none

-- of all rows
unfoldable pub rows_answer : ℕ → ℕ → ℕ → ℕ → List Row → Answer
rows_answer M I A U [] = none
rows_answer M I A U (w ∷ ws) = combined (row_answer M I A U w) (rows_answer M I A U ws)

-- what looking comes to: refusal 15, or an answer
pub data Found : Type 0 where
  crowded : Found
  answer : Answer → Found

-- under the sets that agree with A outside U: 15 where it is due under one of them, and else what there is of steps
pub data Looked (p : Statement) (x : State) (I A U : ℕ) : Found → Type 0 where
  over : (E : ℕ) → Agree U A E → listing.crowded p x E ≡ true → Looked p x I A U crowded
  within : (a : Answer) → Says a (StepAmong p x I A U) → ((E : ℕ) → Agree U A E → listing.crowded p x E ≡ false) → Looked p x I A U (answer a)
