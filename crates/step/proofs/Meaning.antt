-- What step answers is the answer: where it is not refused, the table holds a statement, and the values are those of the one answer
-- that says what there is of steps of that statement in the state from I.
use mathlib.Core.Path.{◌≡◌, refl, sym, ap, ◌∙◌, subst}
use mathlib.Core.List.{List}
use Prim.Native.Nat.{ℕ}
use Rattle.esterel.specs.Statement.{Statement}
use Rattle.esterel.specs.Reactions.{State}
use Rattle.esterel.specs.Stepping.{StepFrom, Answer, IsAnswer, stepping}
use Rattle.esterel.proofs.Bounds.{valid_free}
use Rattle.esterel.proofs.Stepping.{answer_unique, stepping_is}
use Rattle.table.specs.Outcomes.{Outcome, refusal, values}
use Rattle.table.specs.Reading.{Table, table_of}
use Rattle.table.specs.Reading as table
use Rattle.table.proofs.Accepted.{accepted}
use Rattle.list.specs.Answers.{state_of}
use Rattle.step.specs.Answers.{stepping_outcome, step_in, step_of}
use Rattle.step.proofs.Outcomes.{Tested, nested, many, crowds, answers, tested}

-- an outcome that is no refusal
abbrev Accepts : Outcome → Type 0
Accepts (refusal w) = ⊥
Accepts (values vs) = Unit {0}

tested_values : {p : Statement} {x : State} {I : ℕ} {v : Outcome} (vs : List ℕ) → Tested p x I v → v ≡ values vs → stepping_outcome (stepping p x I) ≡ values vs
tested_values vs (nested s) e = absurd (subst Accepts (sym e) tt)
tested_values vs (many f s) e = absurd (subst Accepts (sym e) tt)
tested_values vs (crowds f s) e = absurd (subst Accepts (sym e) tt)
tested_values vs (answers f s) e = e

module _ (t : List ℕ) (I mark X : ℕ) (vs : List ℕ) (e : step_of t I mark X ≡ values vs) where
  abbrev state : State
  state = state_of mark X

  computed : (n : ℕ) (p : Statement) → table_of t ≡ table.holds n p → stepping_outcome (stepping p state I) ≡ values vs
  unfolding step_of step_in
  computed n p h = tested_values vs (tested p state I) (sym (ap (λ (T : Table). step_in T I mark X) h) ∙ e)

  right : (n : ℕ) (p : Statement) → table_of t ≡ table.holds n p → IsAnswer p state I (stepping p state I)
  right n p h = stepping_is p state I (valid_free 0 p (accepted t n p h).valid)

  -- the values are those of an answer that is right
  pub answers_mean : (n : ℕ) × (p : Statement) × (a : Answer) × (table_of t ≡ table.holds n p) × IsAnswer p state I a × (stepping_outcome a ≡ values vs)
  unfolding step_of step_in
  answers_mean = go (table_of t) refl
    where
      go : (T : Table) → table_of t ≡ T → (n : ℕ) × (p : Statement) × (a : Answer) × (table_of t ≡ table.holds n p) × IsAnswer p state I a × (stepping_outcome a ≡ values vs)
      go (table.refused w) h = absurd (subst Accepts (sym e ∙ ap (λ (T : Table). step_in T I mark X) h) tt)
      go (table.holds n p) h = (n, p, stepping p state I, h, right n p h, computed n p h)

  -- and of each that is
  pub meant_answered : (n : ℕ) (p : Statement) → table_of t ≡ table.holds n p → (a : Answer) → IsAnswer p state I a → stepping_outcome a ≡ values vs
  meant_answered n p h a m = ap stepping_outcome (answer_unique (StepFrom p state I) a (stepping p state I) m (right n p h)) ∙ computed n p h
