-- Codes through a try: order 3's arithmetic is document 01's rule, and a set passes as its members do.
use Prim.Native.Nat.{ℕ, zero, suc, ◌-◌, ◌≤◌, zero-le}
use mathlib.Core.Path.{◌≡◌, refl, sym, ap, ap₂, subst, ◌∙◌}
use mathlib.Core.Bool.{Bool, true, false, cond}
use lib.Dec.{leb, eqb}
use mir.Val.{bool_byte}
use native.Mathlib.Omega.{arith}
use borrow.Author.Tests.{leb-true, eqb-true, le-leb, ne_eqb}
use Rattle.sets.proofs.Booleans.{flag_byte}
use Rattle.esterel.specs.Codes.{plain, through, through_qualified, labels, through_try}
use Rattle.esterel.specs.Theorems.{ByArithmetic, HasCode, SetsPass}
use Rattle.esterel.proofs.Codes.{plain_through, contains_through_try}

-- ---- one code

from_two : (k : ℕ) → leb 2 (suc (suc k)) ≡ true
from_two k = le-leb 2 (suc (suc k)) (omega arith)

above_two : (k : ℕ) → eqb (suc (suc (suc k))) 2 ≡ false
above_two k = ne_eqb (suc (suc (suc k))) 2 (λ e. omega arith)

pub by_arithmetic : ByArithmetic
unfolding through
by_arithmetic zero = refl
by_arithmetic (suc zero) = refl
by_arithmetic (suc (suc zero)) = refl
by_arithmetic (suc (suc (suc k))) =
    let e : suc (suc (suc k)) - 1 - 0 ≡ suc (suc k) = omega arith in
    ap₂ (λ (a b : Bool). suc (suc (suc k)) - cond a 1 0 - cond b 1 0) (from_two (suc k)) (above_two k) ∙ e

-- ---- the numbers that a cast makes of the two tests

pub as_cast : (k : ℕ) → k - bool_byte (leb 2 k) - bool_byte (eqb k 2) ≡ through k
as_cast k = ap₂ (λ (m n : ℕ). k - m - n) (flag_byte (leb 2 k)) (flag_byte (eqb k 2)) ∙ by_arithmetic k

-- Each can be taken away. The numbers tested against are any, so that a wrong one is refused by what is returned.
pub first_fits : (n k : ℕ) → 1 ≤ n → bool_byte (leb n k) ≤ k
first_fits n k h = by_test (leb n k) refl
  where
    by_test : (b : Bool) → leb n k ≡ b → bool_byte b ≤ k
    by_test true e = let l = leb-true n k e in omega arith
    by_test false e = zero-le

pub second_fits : (m n k : ℕ) → 1 ≤ m - bool_byte (leb n m) → bool_byte (eqb k m) ≤ k - bool_byte (leb n k)
second_fits m n k h = by_test (eqb k m) refl
  where
    by_test : (b : Bool) → eqb k m ≡ b → bool_byte b ≤ k - bool_byte (leb n k)
    by_test true e = subst (λ (x : ℕ). 1 ≤ x - bool_byte (leb n x)) (sym (eqb-true k m e)) h
    by_test false e = zero-le

-- ---- a set of codes

pub sets_pass : SetsPass
unfolding labels through_try
sets_pass K = (λ k. (out k, into k), refl)
  where
    out : (k : ℕ) → HasCode (through_try K) k → (k' : ℕ) × HasCode K k' × (through k' ≡ k)
    out k (q, m, e) = let (q', m', e') = (contains_through_try K q).0 m in (plain q', (q', m', refl), sym (plain_through q') ∙ ap plain e' ∙ e)

    into : (k : ℕ) → (k' : ℕ) × HasCode K k' × (through k' ≡ k) → HasCode (through_try K) k
    into k (k', (q, m, e), f) = (through_qualified q, (contains_through_try K (through_qualified q)).1 (q, m, refl), plain_through q ∙ ap through e ∙ f)
