-- The refusals of step: check's, 14, 15 and 17. So 0 is never one, and an entry for C that returns 0 has answered.
use mathlib.Core.Path.{◌≡◌, refl, subst}
use mathlib.Core.Logic.{◌⊎◌, inl, inr}
use mathlib.Core.List.{List}
use Prim.Native.Nat.{ℕ, ◌≤◌}
use native.Mathlib.Omega.{arith}
use Rattle.esterel.specs.Statement.{Statement}
use Rattle.esterel.specs.Reactions.{State}
use Rattle.esterel.specs.Stepping.{Answer, one, none, several, stepping}
use Rattle.table.specs.Outcomes.{Outcome, refusal, values, number_of}
use Rattle.table.specs.Reading.{Table, table_of}
use Rattle.table.specs.Reading as table
use Rattle.table.proofs.Refusals.{OfCheck, table_refusals}
use Rattle.list.specs.Answers.{state_of}
use Rattle.step.specs.Answers.{stepping_outcome, step_in, step_of}
use Rattle.step.proofs.Outcomes.{Tested, nested, many, crowds, answers, tested}

-- the numbers of step's refusals
abbrev pub OfStep : ℕ → Type 0
OfStep w = OfCheck w ⊎ ((14 ≤ w) × (w ≤ 15)) ⊎ (w ≡ 17)

abbrev Refuses : Outcome → Type 0
Refuses (refusal w) = OfStep w
Refuses (values vs) = Unit {0}

answer_refusals : (a : Answer) → Refuses (stepping_outcome a)
unfolding stepping_outcome
answer_refusals (one t) = tt
answer_refusals none = tt
answer_refusals several = tt

tested_refusals : {p : Statement} {x : State} {I : ℕ} {v : Outcome} → Tested p x I v → Refuses v
tested_refusals (nested s) = inr (inl (omega arith, omega arith))
tested_refusals (many f s) = inr (inr refl)
tested_refusals (crowds f s) = inr (inl (omega arith, omega arith))
tested_refusals {p} {x} {I} (answers f s) = answer_refusals (stepping p x I)

module _ (t : List ℕ) (I mark X : ℕ) where
  all_refusals : Refuses (step_of t I mark X)
  unfolding step_of step_in
  all_refusals = go (table_of t) refl
    where
      go : (T : Table) → table_of t ≡ T → Refuses (step_in T I mark X)
      go (table.refused w) e = inl (table_refusals t w e)
      go (table.holds n p) e = tested_refusals (tested p (state_of mark X) I)

  -- check's, or 14, 15 or 17
  pub step_refusals : (w : ℕ) → step_of t I mark X ≡ refusal w → OfStep w
  step_refusals w e = subst Refuses e all_refusals

  -- a returned 0 means an answer
  pub zero_stepped : number_of (step_of t I mark X) ≡ 0 → (vs : List ℕ) × (step_of t I mark X ≡ values vs)
  unfolding number_of
  zero_stepped z = go (step_of t I mark X) all_refusals z
    where
      go : (v : Outcome) → Refuses v → number_of v ≡ 0 → (vs : List ℕ) × (v ≡ values vs)
      go (refusal w) (inl b) z = absurd (omega arith)
      go (refusal w) (inr (inl b)) z = absurd (omega arith)
      go (refusal w) (inr (inr b)) z = absurd (omega arith)
      go (values vs) b z = (vs, refl)
