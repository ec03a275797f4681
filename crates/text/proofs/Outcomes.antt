-- The refusals of reading and of writing lie where document 02 puts them, so a returned 0 means that the buffer was written.
use Prim.Native.Nat.{ℕ, ◌≤◌}
use mathlib.Core.Path.{◌≡◌, ap}
use mathlib.Core.Logic.{◌⊎◌, inl, inr, ⊎_elim}
use mathlib.Core.Bool.{Bool, true, false, cond}
use mathlib.Core.List.{List, [], ◌∷◌}
use native.Mathlib.Omega.{arith}
use lib.Dec.{ltb}
use lib.ListN.{length}
use Rattle.esterel.specs.Statement.{Statement}
use Rattle.table.specs.Outcomes.{refusal, values, number_of, fitted}
use Rattle.table.specs.Reading.{Table, refused, holds, table_of}
use Rattle.table.proofs.Refusals.{table_refusals, zero_accepted}
use Rattle.text.specs.Answers.{answer_for, read_of, write_of}
use Rattle.text.specs.Reading.{table_in}
use Rattle.text.proofs.Theorems.{refused_as}

fitted_refused : (bs : List ℕ) (room w : ℕ) → fitted bs room ≡ refusal w → w ≡ 13
unfolding fitted
fitted_refused bs room w = go (ltb room (length bs))
  where
    go : (x : Bool) → cond x (refusal 13) (values (length bs ∷ [])) ≡ refusal w → w ≡ 13
    go true e = let z : 13 ≡ w = cc in omega arith
    go false e = absurd (let z : ◌≡◌ {A = ℕ} 0 1 = cc in omega arith)

-- the refusals of a table, then 13
answer_refused : (form : Statement → List ℕ) (T : Table) (room w : ℕ) → answer_for form T room ≡ refusal w → (T ≡ refused w) ⊎ (w ≡ 13)
unfolding answer_for
answer_refused form (refused v) room w e = inl (ap refused (let z : v ≡ w = cc in z))
answer_refused form (holds n p) room w e = inr (fitted_refused (form p) room w e)

-- "18 .. 19 .. 3; then 8, 9, 10 ..; then 13"
pub read_refusals : (bs : List ℕ) (room w : ℕ) → read_of bs room ≡ refusal w → (3 ≤ w) × (w ≤ 19)
unfolding read_of
read_refusals bs room w e = ⊎_elim table (λ h. (omega arith, omega arith)) (answer_refused _ (table_in bs) room w e)
  where
    is : (v : ℕ) → 3 ≤ v → v ≤ 19 → w ≡ v → (3 ≤ w) × (w ≤ 19)
    is v a b h = (omega arith, omega arith)

    table : table_in bs ≡ refused w → (3 ≤ w) × (w ≤ 19)
    table h =
        ⊎_elim (is 18 (omega arith) (omega arith)) (⊎_elim (is 19 (omega arith) (omega arith)) (⊎_elim (is 3 (omega arith) (omega arith))
        (⊎_elim (is 8 (omega arith) (omega arith)) (⊎_elim (is 9 (omega arith) (omega arith)) (is 10 (omega arith) (omega arith))))))
        (refused_as bs w h)

-- "check's refusals, then 13"
pub write_refusals : (t : List ℕ) (room w : ℕ) → write_of t room ≡ refusal w → (1 ≤ w) × (w ≤ 13)
unfolding write_of
write_refusals t room w e = ⊎_elim table (λ h. (omega arith, omega arith)) (answer_refused _ (table_of t) room w e)
  where
    table : table_of t ≡ refused w → (1 ≤ w) × (w ≤ 13)
    table h = let b = table_refusals t w h in (b.0, omega arith)

pub zero_read : (bs : List ℕ) (room : ℕ) → number_of (read_of bs room) ≡ 0 → (vs : List ℕ) × (read_of bs room ≡ values vs)
zero_read bs room = zero_accepted (read_of bs room) (λ w e. let b = read_refusals bs room w e in omega arith)

pub zero_written : (t : List ℕ) (room : ℕ) → number_of (write_of t room) ≡ 0 → (vs : List ℕ) × (write_of t room ≡ values vs)
zero_written t room = zero_accepted (write_of t room) (λ w e. (write_refusals t room w e).0)
