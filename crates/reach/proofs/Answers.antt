-- The answer of reach, from what loading and the rounds gave: on an accepted table the buffer holds its statement, so the
-- rounds are those of reach, and the analysis refuses nothing. And the answer loses nothing, since s has no higher code; its
-- refusals are check's.
use mathlib.Core.Path.{◌≡◌, refl, sym, ap, ◌∙◌}
use mathlib.Core.Bool.{Bool}
use mathlib.Core.List.{List}
use Rattle.std.proofs.Common.{Result, Ok, Err}
use Prim.Native.Nat.{ℕ, suc, ◌≤◌}
use native.Mathlib.Omega.{arith}
use Rattle.esterel.specs.Statement.{Statement, pause_count}
use Rattle.esterel.specs.Codes.{Codes, labels, s}
use Rattle.esterel.specs.Reachability as rounds
use Rattle.esterel.proofs.Codes.{codes_equal}
use Rattle.esterel.proofs.Exits.{valid_exits, no_higher}
use Rattle.esterel.proofs.Reachability.{rounds_few}
use Rattle.esterel.proofs.Validity.{valid_levels}
use Rattle.table.specs.Outcomes.{refusal, values, number_of, number_of_refusal}
use Rattle.table.specs.Reading.{Table, refused, holds, table_of}
use Rattle.table.specs.inner.Places.{statement_of}
use Rattle.table.proofs.Accepted.{accepted}
use Rattle.table.proofs.Refusals.{OfCheck, table_refusals, zero_accepted}
use Rattle.table.specs.declared.Refusal.{Refusal}
use Rattle.reach.specs.declared.Settled.{Settled}
use Rattle.reach.specs.inner.Rounds.{Reaches}
use Rattle.reach.specs.Answers.{reached_outcome, reach_in, reach_of}

-- ---- The analysis rests
pub rest_same : {a b : Settled} → ◌≡◌ {A = Result Settled Refusal} (Ok a) (Ok b) → a ≡ b
rest_same e = cc

pub never_refused : (xs : List ℕ) {r : Result Settled Refusal} {w : Refusal} → Reaches xs r → r ≡ Err w → ⊥
never_refused xs x e = let q : ◌≡◌ {A = Result Settled Refusal} (Ok x.found) (Err _) = sym x.rest ∙ e in let z : ◌≡◌ {A = ℕ} 0 1 = cc in omega arith

-- ---- The answer
module _ (t : List ℕ) where
  pub reach_refused : (w : Refusal) → table_of t ≡ refused (number_of_refusal w) → reached_outcome (Err w) ≡ reach_of t
  unfolding reach_of reach_in
  reach_refused w h = sym (ap reach_in h)

  -- of what was found, the answer has whether s has 0, and its labels
  pub reach_found : (xs : List ℕ) (n : ℕ) (p : Statement) → table_of t ≡ holds n p → statement_of xs ≡ p → (found : Settled) → Reaches xs (Ok found)
      → (ends : Bool) (own : ℕ) → ends ≡ found.start.ends → own ≡ found.start.pausing
      → reached_outcome (Ok (record { ends = ends; labels = own; set = found.set; rounds = found.rounds })) ≡ reach_of t
  unfolding reach_of reach_in labels
  reach_found xs n p h is found x ends own b l =
      let same : x.found ≡ found = rest_same (sym x.rest) in
      let start_is : found.start ≡ s (statement_of xs) = ap (λ (f : Settled). f.start) (sym same) ∙ x.start in
      let ends-are : ends ≡ (s (statement_of xs)).ends = b ∙ ap (λ (K : Codes). K.ends) start_is in
      let labels-are : own ≡ (s (statement_of xs)).pausing = l ∙ ap (λ (K : Codes). K.pausing) start_is in
      let set_is : found.set ≡ (rounds.reach (statement_of xs)).set = ap (λ (f : Settled). f.set) (sym same) ∙ x.set in
      let rounds-are : found.rounds ≡ (rounds.reach (statement_of xs)).rounds = ap (λ (f : Settled). f.rounds) (sym same) ∙ x.rounds in
      rw (ends-are, labels-are, set_is, rounds-are, is) (sym (ap reach_in h))

-- ---- What it tells of a table
module _ (t : List ℕ) (n : ℕ) (p : Statement) (h : table_of t ≡ holds n p) where
  -- "a whole table has no higher code": the answer has all of s
  pub table_codes : s p ≡ record { ends = (s p).ends; pausing = labels (s p); higher = 0 }
  unfolding labels
  table_codes =
      let v = (accepted t n p h).valid in
      codes_equal (s p) _ refl refl (no_higher p (valid_levels 0 p v) (valid_exits 0 p v)).0

  -- "never exceeds the number of pauses plus 1"
  pub table_rounds : (rounds.reach p).rounds ≤ suc (pause_count p)
  table_rounds = rounds_few p

-- ---- Its refusals
-- they are check's, 1 to 11
pub reach_refusals : (t : List ℕ) (w : ℕ) → reach_of t ≡ refusal w → OfCheck w
unfolding reach_of reach_in
reach_refusals t w h = go (table_of t) refl h
  where
    go : (T : Table) → table_of t ≡ T → reach_in T ≡ refusal w → OfCheck w
    go (refused v) e h = table_refusals t w (e ∙ ap refused (let q : v ≡ w = cc in q))
    go (holds n p) e h = absurd (let z : ◌≡◌ {A = ℕ} 0 1 = cc in omega arith)

-- so a returned 0 means that the table was accepted
pub reach_accepted : (t : List ℕ) → number_of (reach_of t) ≡ 0 → (vs : List ℕ) × (reach_of t ≡ values vs)
reach_accepted t = zero_accepted (reach_of t) (λ w e. (reach_refusals t w e).0)
