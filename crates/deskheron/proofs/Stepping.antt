-- What is promised of step. Where it refuses nothing, its values are those of the answer for the statement that the bytes hold, and
-- that is what the rules give. The answer follows from the listings, which trimming keeps; and trimming nests signals no deeper and
-- brings no signal that is emitted outside a declaration, so neither 14 nor 17.
use mathlib.Core.Path.{◌≡◌, refl, sym, ap, ◌∙◌, subst}
use mathlib.Core.Logic.{◌≢◌}
use mathlib.Core.Bool.{false}
use mathlib.Core.List.{List}
use Prim.Native.Nat.{ℕ}
use native.Mathlib.Omega.{arith}
use lib.Dec.{ltb}
use Rattle.sets.proofs.Booleans.{clash}
use Rattle.sets.proofs.Members.{in_right}
use Rattle.esterel.specs.Statement.{Statement}
use Rattle.esterel.specs.Trimming.{trimmed}
use Rattle.esterel.specs.Reactions.{State}
use Rattle.esterel.specs.Runs.{Step, Run, StateOf}
use Rattle.esterel.specs.Listing.{nesting}
use Rattle.esterel.specs.Stepping.{IsAnswer, emitted_free, stepping, many_free}
use Rattle.esterel.proofs.Bounds.{valid_free}
use Rattle.esterel.proofs.Stepping.{FreeSignals, step_within, step_looked_at, stepping_is}
use Rattle.esterel.proofs.Limits.{shallow_trimmed, few_trimmed}
use Rattle.esterel.proofs.Indistinguishable.{same_steps}
use Rattle.table.specs.Outcomes.{Outcome, values, number_of}
use Rattle.table.specs.Reading.{Table, refused, holds, table_of}
use Rattle.table.specs.Writing.{write}
use Rattle.table.proofs.Refusals.{table_refusals}
use Rattle.list.specs.Answers.{state_of}
use Rattle.step.specs.Answers.{stepping_outcome, step_in, step_of}
use Rattle.step.proofs.Outcomes.{Tested, nested, many, crowds, answers, tested, number_answer}
use Rattle.step.proofs.Meaning.{answers_mean, meant_answered}
use Rattle.deskheron.specs.Demand.{Marked, AnswersByTheRules, StepsByTheRules, TrimmedStepsTheSame}
use Rattle.deskheron.proofs.Trimmed.{state_is, held, levels, reads}

-- ---- the limits, from what step comes to of a statement
module _ {p : Statement} {x : State} {I : ℕ} where
  shallow : {v : Outcome} → Tested p x I v → number_of v ≢ 14 → ltb 12 (nesting p) ≡ false
  unfolding number_of
  shallow (nested s) n = absurd (n refl)
  shallow (many f s) n = s
  shallow (crowds f s) n = s
  shallow (answers f s) n = s

  few : {v : Outcome} → Tested p x I v → number_of v ≢ 14 → number_of v ≢ 17 → many_free p ≡ false
  unfolding number_of
  few (nested s) n m = absurd (n refl)
  few (many f s) n m = absurd (m refl)
  few (crowds f s) n m = f
  few (answers f s) n m = f

  never_14 : {v : Outcome} → Tested p x I v → ltb 12 (nesting p) ≡ false → number_of v ≢ 14
  unfolding number_of
  never_14 (nested s) h = clash s h
  never_14 (many f s) h = λ e. omega arith
  never_14 (crowds f s) h = λ e. omega arith
  never_14 (answers f s) h = λ e. let z = number_answer (stepping p x I) in omega arith

  never_17 : {v : Outcome} → Tested p x I v → many_free p ≡ false → number_of v ≢ 17
  unfolding number_of
  never_17 (nested s) h = λ e. omega arith
  never_17 (many f s) h = clash f h
  never_17 (crowds f s) h = λ e. omega arith
  never_17 (answers f s) h = λ e. let z = number_answer (stepping p x I) in omega arith

-- ---- what it comes to of bytes that hold the statement
module _ (t : List ℕ) (n : ℕ) (p : Statement) (h : table_of t ≡ holds n p) where
  step_tested : (I mark X : ℕ) → Tested p (state_of mark X) I (step_of t I mark X)
  unfolding step_of step_in
  step_tested I mark X = subst (λ (T : Table). Tested p (state_of mark X) I (step_in T I mark X)) (sym h) (tested p (state_of mark X) I)

  free : FreeSignals p
  free = valid_free 0 p (held t n p h).valid

  -- in the state that the call is for
  step_values : (x : State) (I mark X : ℕ) → Marked x mark X → (vs : List ℕ) → step_of t I mark X ≡ values vs → stepping_outcome (stepping p x I) ≡ values vs
  step_values x I mark X m vs e =
      let right = subst (λ (y : State). IsAnswer p y I (stepping p x I)) (sym (state_is x mark X m)) (stepping_is p x I free) in
      meant_answered t I mark X vs e n p h (stepping p x I) right

  by_the_rules : AnswersByTheRules t p
  by_the_rules = record {
    answers = λ x I m X f vs e. (stepping p x I, step_values x I m X f vs e, stepping_is p x I free);
    looked = λ x I r s. (λ S m. in_right I (emitted_free p) S (step_within p x I r s S m), step_looked_at p x I free r s);
  }

-- ---- the trimmed table
module _ (t : List ℕ) (s : ℕ) (p : Statement) (h : table_of t ≡ holds s p) where
  abbrev q : Statement
  q = trimmed p

  abbrev u : List ℕ
  u = write q

  answers_same : (ts : List Step) → Run p ts → (x : State) → StateOf ts x → (I m X n Y : ℕ) → Marked x m X → Marked x n Y
      → (vs ws : List ℕ) → step_of t I m X ≡ values vs → step_of u I n Y ≡ values ws → vs ≡ ws
  answers_same ts run x state I m X n Y f g vs ws e k =
      let (s', r, w, i, right, is) = answers_mean u I n Y ws k in
      let hu : table_of u ≡ holds s' q = i ∙ ap (holds s') (reads t s p h s' r i) in
      let a = step_values t s p h x I m X f vs e in
      let b = step_values u s' q hu x I n Y g ws k in
      let same = same_steps p (levels t s p h) (free t s p h) ts run x state I in
      let z : values vs ≡ values ws = sym a ∙ ap stepping_outcome same ∙ b in
      cc

  no_more_refused : (I m X J n Y : ℕ) → number_of (step_of t I m X) ≢ 14
      → (number_of (step_of u J n Y) ≢ 14) × (number_of (step_of t I m X) ≢ 17 → number_of (step_of u J n Y) ≢ 17)
  unfolding step_of step_in number_of
  no_more_refused I m X J n Y f = go (table_of u) refl
    where
      go : (T : Table) → table_of u ≡ T → (number_of (step_of u J n Y) ≢ 14) × (number_of (step_of t I m X) ≢ 17 → number_of (step_of u J n Y) ≢ 17)
      go (refused w) e =
          let b = table_refusals u w e in
          let k : number_of (step_of u J n Y) ≡ w = ap (λ (T : Table). number_of (step_in T J n Y)) e in
          (λ i. omega arith, λ g i. omega arith)
      go (holds s' r) e =
          let hu : table_of u ≡ holds s' q = e ∙ ap (holds s') (reads t s p h s' r e) in
          let a = step_tested t s p h I m X in
          let b = step_tested u s' q hu J n Y in
          (never_14 b (shallow_trimmed 12 p (shallow a f)), λ g. never_17 b (few_trimmed p (few a f g)))

pub steps_by_the_rules : StepsByTheRules
unfolding StepsByTheRules
steps_by_the_rules = by_the_rules

pub trimmed_steps_the_same : TrimmedStepsTheSame
unfolding TrimmedStepsTheSame
trimmed_steps_the_same t s p h = record { answers = answers_same t s p h; refusals = no_more_refused t s p h }
