-- The refusals of list: check's, and 14 to 16. So 0 is never one, and an entry for C that returns 0 has listed.
use mathlib.Core.Path.{◌≡◌, refl, subst}
use mathlib.Core.Logic.{◌⊎◌, inl, inr}
use mathlib.Core.Bool.{Bool, true, false, cond, ◌||◌}
use mathlib.Core.List.{List}
use Prim.Native.Nat.{ℕ, ◌≤◌}
use native.Mathlib.Omega.{arith}
use lib.Dec.{ltb}
use lib.ListN.{length}
use Rattle.esterel.specs.Statement.{Statement}
use Rattle.esterel.specs.Reactions.{State, Reaction}
use Rattle.esterel.specs.Listing.{listing, crowded, nesting}
use Rattle.table.specs.Outcomes.{number_of}
use Rattle.table.specs.Reading.{Table, table_of}
use Rattle.table.specs.Reading as table
use Rattle.table.proofs.Refusals.{OfCheck, table_refusals}
use Rattle.list.specs.Answers.{state_of, Listing, refused, listed, list_for, list_in, fitted, list_of, listing_outcome}

-- the numbers of list's refusals
abbrev pub OfList : ℕ → Type 0
OfList w = OfCheck w ⊎ ((14 ≤ w) × (w ≤ 16))

abbrev Refuses : Listing → Type 0
Refuses (refused w) = OfList w
Refuses (listed ts) = Unit {0}

for_refusals : (p : Statement) (x : State) (E : ℕ) → Refuses (list_for p x E)
unfolding list_for
for_refusals p x E = go (ltb 12 (nesting p)) (crowded p x E) (listing p x E)
  where
    go : (b c : Bool) (ts : List Reaction) → Refuses (cond b (refused 14) (cond c (refused 15) (listed ts)))
    go true c ts = inr (omega arith, omega arith)
    go false true ts = inr (omega arith, omega arith)
    go false false ts = tt

in_refusals : (t : List ℕ) (E mark X : ℕ) → Refuses (list_in (table_of t) E mark X)
unfolding list_in
in_refusals t E mark X = go (table_of t) refl
  where
    go : (T : Table) → table_of t ≡ T → Refuses (list_in T E mark X)
    go (table.refused w) e = inl (table_refusals t w e)
    go (table.holds n p) e = for_refusals p (state_of mark X) E

fitted_refusals : (o k l : ℕ) (v : Listing) → Refuses v → Refuses (fitted o k l v)
unfolding fitted
fitted_refusals o k l (refused w) h = h
fitted_refusals o k l (listed ts) h = go (ltb o (length ts) || (ltb k (length ts) || ltb l (length ts)))
  where
    go : (b : Bool) → Refuses (cond b (refused 16) (listed ts))
    go true = inr (omega arith, omega arith)
    go false = tt

module _ (t : List ℕ) (E mark X o k l : ℕ) where
  all_refusals : Refuses (list_of t E mark X o k l)
  unfolding list_of
  all_refusals = fitted_refusals o k l (list_in (table_of t) E mark X) (in_refusals t E mark X)

  -- check's, or 14, 15 or 16
  pub list_refusals : (w : ℕ) → list_of t E mark X o k l ≡ refused w → OfList w
  list_refusals w e = subst Refuses e all_refusals

  -- a returned 0 means that the reactions are listed
  pub zero_listed : number_of (listing_outcome (list_of t E mark X o k l)) ≡ 0 → (ts : List Reaction) × (list_of t E mark X o k l ≡ listed ts)
  unfolding number_of listing_outcome
  zero_listed z = go (list_of t E mark X o k l) all_refusals z
    where
      go : (v : Listing) → Refuses v → number_of (listing_outcome v) ≡ 0 → (ts : List Reaction) × (v ≡ listed ts)
      go (refused w) (inl b) z = absurd (omega arith)
      go (refused w) (inr b) z = absurd (omega arith)
      go (listed ts) b z = (ts, refl)
