-- What of a label set step's answer ignores, refusals 15 and 17 included: the labels that are of no pause of the program, and at the
-- start all of them.
use mathlib.Core.Path.{◌≡◌, refl, sym, ap, ap₂, ◌∙◌}
use mathlib.Core.Bool.{Bool, cond, ◌||◌}
use mathlib.Core.List.{List, [], ◌∷◌}
use Prim.Native.Nat.{ℕ, zero, suc}
use lib.Dec.{ltb}
use Rattle.sets.specs.Set.{◌intersect◌}
use Rattle.esterel.specs.Statement.{Statement, pauses}
use Rattle.esterel.specs.Reactions.{resumed}
use Rattle.esterel.specs.Listing.{listing, nesting, crowded, some}
use Rattle.esterel.specs.Stepping.{Answer, combined, looked_at, answer_under, answer_among, stepping, many_free, crowded_from}
use Rattle.esterel.proofs.Ignored.{agree_intersect, list_agree, crowded_agree}
use Rattle.table.specs.Outcomes.{refusal}
use Rattle.table.specs.Reading.{Table, table_of}
use Rattle.table.specs.Reading as table
use Rattle.list.specs.Answers.{state_of}
use Rattle.step.specs.Answers.{stepping_outcome, step_for, step_in, step_of}

module _ (p : Statement) (X Y : ℕ) (e : X intersect pauses p ≡ Y intersect pauses p) where
  among_same : (I : ℕ) (Es : List ℕ) → answer_among p (resumed X) I Es ≡ answer_among p (resumed Y) I Es
  unfolding answer_among listing
  among_same I [] = refl
  among_same I (E ∷ Es) = ap₂ combined (ap (answer_under I E) (list_agree X Y p (agree_intersect (pauses p) X Y e) E)) (among_same I Es)

  crowded_same : (Es : List ℕ) → some (crowded p (resumed X)) Es ≡ some (crowded p (resumed Y)) Es
  unfolding some
  crowded_same [] = refl
  crowded_same (E ∷ Es) = ap₂ ◌||◌ (crowded_agree X Y p (agree_intersect (pauses p) X Y e) E) (crowded_same Es)

  for_same : (I mark : ℕ) → step_for p (state_of mark X) I ≡ step_for p (state_of mark Y) I
  unfolding state_of step_for stepping crowded_from
  for_same I zero = refl
  for_same I (suc m) =
      ap₂ (λ (b : Bool) (a : Answer). cond (ltb 12 (nesting p)) (refusal 14) (cond (many_free p) (refusal 17) (cond b (refusal 15) (stepping_outcome a))))
      (crowded_same (looked_at p I)) (among_same I (looked_at p I))

-- "label bits without a pause, bit 0 among them, are ignored in a state"
pub labels_ignored : (t : List ℕ) (n : ℕ) (p : Statement) → table_of t ≡ table.holds n p → (I mark X Y : ℕ) → X intersect pauses p ≡ Y intersect pauses p
    → step_of t I mark X ≡ step_of t I mark Y
unfolding step_of step_in
labels_ignored t n p h I mark X Y e =
    ap (λ (T : Table). step_in T I mark X) h ∙ for_same p X Y e I mark ∙ sym (ap (λ (T : Table). step_in T I mark Y) h)

-- "0 the start, whose label set is then ignored"
pub start_ignores : (t : List ℕ) (I X Y : ℕ) → step_of t I 0 X ≡ step_of t I 0 Y
unfolding step_of step_in state_of
start_ignores t I X Y = same (table_of t)
  where
    same : (T : Table) → step_in T I 0 X ≡ step_in T I 0 Y
    same (table.refused w) = refl
    same (table.holds n p) = refl
