-- The signals that may be unknown, taken one by one: each takes one slot at most.
use mathlib.Core.Path.{◌≡◌, sym, ◌∙◌, subst}
use mathlib.Core.Logic.{◌⊎◌, inl, inr}
use mathlib.Core.Bool.{true}
use Prim.Native.Nat.{ℕ, ◌+◌, ◌≤◌, ◌<◌}
use native.Mathlib.Omega.{arith}
use Rattle.sets.specs.Set.{has, only, ◌union◌, Within, count}
use Rattle.sets.proofs.Booleans.{or_cases, clash}
use Rattle.sets.proofs.Counts.{count_empty, count_only, count_union, count_narrow}
use Rattle.sets.proofs.Members.{has_empty, has_union, has_only_equal, in_left, in_right}
use Rattle.esterel.specs.inner.Conditions.{slot_of}
use Rattle.lister.specs.inner.Slots.{Slotted}

-- beside the unknown signals U others were taken, so many at most in all
pub record Taken (U M used : ℕ) : Type 0 where
  pub fits : slot_of M 32 ≤ used
  pub narrow : (S : ℕ) → has M S ≡ true → S < 32
  pub within : Within U M

pub taken_none : {U used : ℕ} → Slotted U U → used ≡ count 64 U → (used ≤ 12) × Taken U U used
taken_none {U} s e =
    let f = count_narrow U 32 32 s.narrow in
    let g = s.few in
    (omega arith, record { fits = omega arith; narrow = s.narrow; within = s.within })

narrow_more : (M s : ℕ) → ((S : ℕ) → has M S ≡ true → S < 32) → s < 32 → (S : ℕ) → has (M union only s) S ≡ true → S < 32
narrow_more M s f h S e = go (or_cases (has M S) (has (only s) S) (sym (has_union M (only s) S) ∙ e))
  where
    go : (has M S ≡ true) ⊎ (has (only s) S ≡ true) → S < 32
    go (inl g) = f S g
    go (inr g) = let q = has_only_equal s S g in omega arith

pub taken_more : {U M N used : ℕ} (s : ℕ) → Taken U M used → s < 32 → N ≡ M union only s → Taken U N (used + 1)
taken_more {U} {M} {N} {used} s t h e = subst (λ (L : ℕ). Taken U L (used + 1)) (sym e) more
  where
    more : Taken U (M union only s) (used + 1)
    more = record {
      fits = let e = count_union 32 M (only s) in let g = count_only 32 s in let f = t.fits in omega arith;
      narrow = narrow_more M s t.narrow h;
      within = λ S e. in_left M (only s) S (t.within S e);
    }

-- no signal is unknown
pub none_slotted : Slotted 0 0
none_slotted = record { few = let e = count_empty 32 in omega arith; narrow = λ S h. clash h (has_empty S); within = λ S h. h }

-- those that are unknown beside those that were chosen for none, where there is room for both
pub joined_slotted : {M U : ℕ} → Slotted M 0 → Slotted U U → count 64 (M union U) ≤ 12 → Slotted (M union U) U
joined_slotted {M} {U} m u h = record {
  few = let f = count_narrow (M union U) 32 32 narrow in omega arith;
  narrow = narrow;
  within = λ S e. in_right M U S e;
}
  where
    go : (S : ℕ) → (has M S ≡ true) ⊎ (has U S ≡ true) → S < 32
    go S (inl g) = m.narrow S g
    go S (inr g) = u.narrow S g

    narrow : (S : ℕ) → has (M union U) S ≡ true → S < 32
    narrow S e = go S (or_cases (has M S) (has U S) (sym (has_union M U S) ∙ e))
