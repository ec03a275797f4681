-- From what is prepared of a table, and what looking comes to for its program, where all signals that it emits free and that are not
-- provided are unknown, to the answer.
use mathlib.Core.Path.{◌≡◌, refl, sym, ap, ◌∙◌, subst}
use mathlib.Core.Bool.{Bool, true, false, cond, not}
use mathlib.Core.List.{List}
use Prim.Native.Nat.{ℕ, ◌≤◌, ◌<◌}
use native.Mathlib.Omega.{arith}
use borrow.Author.Tests.{lt-ltb, le-ltb}
use Rattle.sets.specs.Set.{has, ◌minus◌, count}
use Rattle.sets.proofs.Booleans.{and_cases, clash, not_true}
use Rattle.sets.proofs.Members.{has_minus}
use Rattle.sets.proofs.Counts.{count_within, count_narrow}
use Rattle.esterel.specs.Statement.{Statement}
use Rattle.esterel.specs.Reactions.{State}
use Rattle.esterel.specs.Stepping.{Answer, emitted_free, stepping, many_free, crowded_from}
use Rattle.esterel.specs.inner.Stepping.{crowded, answer, Looked}
use Rattle.esterel.proofs.Bounds.{valid_free}
use Rattle.esterel.proofs.Looking.{looked_whole}
use Rattle.table.specs.declared.Refusal.{Refusal}
use Rattle.table.specs.declared.Refusal.TheVariants.{Free}
use Rattle.table.specs.Outcomes.{refusal, number_of_refusal}
use Rattle.table.specs.Reading.{Table, table_of}
use Rattle.table.specs.inner.Places.{statement_of}
use Rattle.list.specs.Answers.{state_of}
use Rattle.list.specs.inner.Preparing.{Unready, malformed, nested, Ready}
use Rattle.step.specs.declared.Stepped.{Stepped}
use Rattle.std.specs.Prelude.{Result, Err}
use Rattle.step.specs.Answers.{stepping_outcome, step_for, step_in, step_of, stepped_outcome}
use Rattle.step.specs.inner.Looking.{found, Looks}
use Rattle.step.specs.inner.Unknowns.{Unknowns}
use Rattle.step.proofs.Outcomes.{for_nested, for_many, for_few, outcome_answered}

-- ---- a table that is refused
unready : {T : Table} {w : ℕ} → Unready T w → (I mark X : ℕ) → refusal w ≡ step_in T I mark X
unfolding step_in
unready malformed I mark X = refl
unready (nested {n} {p} h) I mark X = sym (for_nested p (state_of mark X) I h)

pub unready_step : (t : List ℕ) (I mark X : ℕ) (e : Refusal) → Unready (table_of t) (number_of_refusal e) → stepped_outcome (Err e) ≡ step_of t I mark X
unfolding step_of
unready_step t I mark X e u = unready u I mark X

-- ---- one that is not
outcome_found : (b : Bool) (a : Answer) → stepped_outcome (found (cond b crowded (answer a))) ≡ cond b (refusal 15) (stepping_outcome a)
unfolding found
outcome_found true a = refl
outcome_found false a = outcome_answered a

module _ (t : List ℕ) (I : ℕ) {xs : List ℕ} (r : Ready (table_of t) xs) where
  abbrev program : Statement
  program = statement_of xs

  narrow : (S : ℕ) → has (emitted_free program) S ≡ true → S < 32
  narrow = valid_free 0 program r.valid

  of_program : (mark X : ℕ) → step_of t I mark X ≡ step_for program (state_of mark X) I
  unfolding step_of step_in
  of_program mark X = ap (λ (T : Table). step_in T I mark X) r.holds

  module _ {free k : ℕ} (e : free ≡ emitted_free program) (c : k ≡ count 64 free) where
    count_is : k ≡ count 32 (emitted_free program)
    count_is = c ∙ ap (count 64) e ∙ count_narrow (emitted_free program) 32 32 narrow

    pub many_step : (mark X : ℕ) → 10 < k → stepped_outcome (Err Free) ≡ step_of t I mark X
    unfolding many_free
    many_step mark X l =
        let many = lt-ltb 10 (count 32 (emitted_free program)) (subst (λ (z : ℕ). 10 < z) count_is l) in
        sym (of_program mark X ∙ for_many program (state_of mark X) I r.shallow many)

    module _ {unknown : ℕ} (u : unknown ≡ free minus I) (l : k ≤ 10) where
      unknown_is : unknown ≡ emitted_free program minus I
      unknown_is = u ∙ ap (λ (z : ℕ). z minus I) e

      both_tests : (S : ℕ) → has unknown S ≡ true → (has (emitted_free program) S ≡ true) × (not (has I S) ≡ true)
      both_tests S h = and_cases (has (emitted_free program) S) (not (has I S)) (sym (has_minus (emitted_free program) I S) ∙ ap (λ (z : ℕ). has z S) (sym unknown_is) ∙ h)

      pub few_unknown : Unknowns I unknown
      few_unknown = record {
        few = let f = count_within 32 unknown (emitted_free program) (λ S h. (both_tests S h).0) in let g = count_is in omega arith;
        narrow = λ S h. narrow S (both_tests S h).0;
        apart = λ S h. not_true (has I S) (λ i. clash (both_tests S h).1 (ap not i));
      }

      pub looked_step : (mark X : ℕ) {x : State} {s : Result Stepped Refusal} → x ≡ state_of mark X → Looks program x I I unknown s
          → stepped_outcome s ≡ step_of t I mark X
      unfolding many_free
      looked_step mark X {x} {s} y m =
          let state = state_of mark X in
          let looked : Looked program state I I (emitted_free program minus I) m.all =
          subst (λ (z : State). Looked program z I I (emitted_free program minus I) m.all) y (subst (λ (z : ℕ). Looked program x I I z m.all) unknown_is m.looked) in
          let few = le-ltb 10 (count 32 (emitted_free program)) (subst (λ (z : ℕ). z ≤ 10) count_is l) in
          ap stepped_outcome (m.result ∙ ap found (looked_whole program state I m.all narrow looked))
          ∙ outcome_found (crowded_from program state I) (stepping program state I)
          ∙ sym (of_program mark X ∙ for_few program state I r.shallow few)
