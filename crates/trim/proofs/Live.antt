-- Which statements are live; and of one that is not, nothing is left where it is only resumed.
use mathlib.Core.Path.{◌≡◌, refl, sym, ap, ◌∙◌, subst}
use mathlib.Core.Bool.{Bool, true, false, not, ◌||◌}
use Prim.Native.Nat.{ℕ}
use lib.Dec.{eqb}
use Rattle.sets.specs.Set.{has, only, ◌union◌, ◌intersect◌, Apart}
use Rattle.sets.proofs.Booleans.{clash}
use Rattle.sets.proofs.Members.{has_only, has_only_equal, has_empty, apart_sym, apart_union, union_apart⁻, apart_test, test_apart}
use Rattle.esterel.specs.Statement.{Statement, nothing, pause, pauses}
use Rattle.esterel.specs.Trimming.{trim}
use Rattle.esterel.proofs.Idle.{idle}
use Rattle.trim.specs.inner.Notes.{live}

never_false : (z : Bool) → (z ≡ false → ⊥) → z ≡ true
never_false true f = refl
never_false false f = absurd (f refl)

pub not_false : (z : Bool) → not z ≡ false → z ≡ true
not_false true e = refl
not_false false e = sym e

-- ---- whether two sets meet
abbrev meets : ℕ → ℕ → Bool
meets a R = not (eqb (a intersect R) 0)

apart_meets : (a R : ℕ) → Apart a R → meets a R ≡ false
apart_meets a R h = ap not (apart_test a R h)

meets_apart : (a R : ℕ) → meets a R ≡ false → Apart a R
meets_apart a R h = test_apart a R (not_false (eqb (a intersect R) 0) h)

union_meets : (a b R : ℕ) → meets (a union b) R ≡ (meets a R || meets b R)
union_meets a b R = go (meets a R) (meets b R) refl refl
  where
    go : (x y : Bool) → meets a R ≡ x → meets b R ≡ y → meets (a union b) R ≡ (x || y)
    go true y e f = never_false (meets (a union b) R) (λ n. clash e (apart_meets a R (union_apart⁻ a b R (meets_apart (a union b) R n)).0))
    go false true e f = never_false (meets (a union b) R) (λ n. clash f (apart_meets b R (union_apart⁻ a b R (meets_apart (a union b) R n)).1))
    go false false e f =
        apart_meets (a union b) R (apart_sym R (a union b) (apart_union R a b (apart_sym a R (meets_apart a R e)) (apart_sym b R (meets_apart b R f))))

only_meets : (l R : ℕ) → meets (only l) R ≡ has R l
only_meets l R = go (has R l) refl
  where
    go : (z : Bool) → has R l ≡ z → meets (only l) R ≡ z
    go true e = never_false (meets (only l) R) (λ n. clash e (meets_apart (only l) R n l (has_only l)))
    go false e = apart_meets (only l) R (λ x m. subst (λ (y : ℕ). has R y ≡ false) (has_only_equal l x m) e)

-- ---- live statements
module _ (R : ℕ) where
  -- one without a pause
  pub live_none : (p : Statement) → pauses p ≡ 0 → live R p ≡ false
  unfolding live
  live_none p e = ap (λ (m : ℕ). meets m R) e ∙ apart_meets 0 R (λ x h. clash h (has_empty x))

  pub live_pause : (l : ℕ) → live R (pause l) ≡ has R l
  unfolding live pauses
  live_pause l = only_meets l R

  pub live_two : (t p q : Statement) → pauses t ≡ pauses p union pauses q → live R t ≡ (live R p || live R q)
  unfolding live
  live_two t p q e = ap (λ (m : ℕ). meets m R) e ∙ union_meets (pauses p) (pauses q) R

  pub dead_nothing : (p : Statement) → live R p ≡ false → trim R false p ≡ nothing
  unfolding live
  dead_nothing p h = (idle R p (apart_sym (pauses p) R (meets_apart (pauses p) R h))).0
