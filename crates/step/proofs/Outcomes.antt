-- What step comes to of a statement, and why: one of three tests refuses it, or the outcome is that of the answer, which is no refusal.
use mathlib.Core.Path.{◌≡◌, refl, ap, ◌∙◌}
use mathlib.Core.Bool.{Bool, true, false, cond}
use Prim.Native.Nat.{ℕ}
use lib.Dec.{ltb}
use Rattle.sets.proofs.Booleans.{by_cond}
use Rattle.esterel.specs.Statement.{Statement}
use Rattle.esterel.specs.Reactions.{State}
use Rattle.esterel.specs.Listing.{nesting}
use Rattle.esterel.specs.Stepping.{Answer, one, none, several, stepping, many_free, crowded_from}
use Rattle.table.specs.Outcomes.{Outcome, refusal, number_of}
use Rattle.std.specs.Prelude.{Ok}
use Rattle.step.specs.Answers.{stepping_outcome, step_for, stepped_values, stepped_outcome}
use Rattle.step.specs.inner.Looking.{answered}

pub data Tested (p : Statement) (x : State) (I : ℕ) : Outcome → Type 0 where
  nested : ltb 12 (nesting p) ≡ true → Tested p x I (refusal 14)
  many : many_free p ≡ true → ltb 12 (nesting p) ≡ false → Tested p x I (refusal 17)
  crowds : many_free p ≡ false → ltb 12 (nesting p) ≡ false → Tested p x I (refusal 15)
  answers : many_free p ≡ false → ltb 12 (nesting p) ≡ false → Tested p x I (stepping_outcome (stepping p x I))

module _ (p : Statement) (x : State) (I : ℕ) where
  -- what is left of the tests after those of 14 and 17, and after that of 14
  abbrev last : Outcome
  last = cond (crowded_from p x I) (refusal 15) (stepping_outcome (stepping p x I))

  abbrev after : Outcome
  after = cond (many_free p) (refusal 17) last

  pub tested : Tested p x I (step_for p x I)
  unfolding step_for
  tested =
      by_cond (Tested p x I) (ltb 12 (nesting p)) (refusal 14) after nested
      (λ s. by_cond (Tested p x I) (many_free p) (refusal 17) last (λ f. many f s)
      (λ f. by_cond (Tested p x I) (crowded_from p x I) (refusal 15) (stepping_outcome (stepping p x I)) (λ c. crowds f s) (λ c. answers f s)))

  pub for_nested : ltb 12 (nesting p) ≡ true → step_for p x I ≡ refusal 14
  unfolding step_for
  for_nested s = ap (λ (b : Bool). cond b (refusal 14) after) s

  for_shallow : ltb 12 (nesting p) ≡ false → step_for p x I ≡ after
  unfolding step_for
  for_shallow s = ap (λ (b : Bool). cond b (refusal 14) after) s

  pub for_many : ltb 12 (nesting p) ≡ false → many_free p ≡ true → step_for p x I ≡ refusal 17
  for_many s f = for_shallow s ∙ ap (λ (b : Bool). cond b (refusal 17) last) f

  pub for_few : ltb 12 (nesting p) ≡ false → many_free p ≡ false → step_for p x I ≡ cond (crowded_from p x I) (refusal 15) (stepping_outcome (stepping p x I))
  for_few s f = for_shallow s ∙ ap (λ (b : Bool). cond b (refusal 17) last) f

-- ---- the outcome of an answer
pub outcome_answered : (a : Answer) → stepped_outcome (Ok (answered a)) ≡ stepping_outcome a
unfolding stepped_values answered stepping_outcome
outcome_answered (one t) = refl
outcome_answered none = refl
outcome_answered several = refl

pub number_answer : (a : Answer) → number_of (stepping_outcome a) ≡ 0
unfolding number_of stepping_outcome
number_answer (one t) = refl
number_answer none = refl
number_answer several = refl
