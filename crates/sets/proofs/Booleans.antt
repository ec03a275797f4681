-- Laws of Booleans, of the test eqb, and of a choice by a Boolean.
use mathlib.Core.Path.{◌≡◌, refl, sym, ◌∙◌, subst}
use mathlib.Core.Logic.{◌≢◌, ◌⊎◌, inl, inr}
use mathlib.Core.Bool.{Bool, true, false, ◌&&◌, ◌||◌, cond, true≢false}
use Prim.Native.Nat.{ℕ}
use lib.Dec.{eqb, eqb→eq, eqb_refl, T}
use mir.Val.{bool_byte}

pub or_left : {a : Bool} (b : Bool) → a ≡ true → (a || b) ≡ true
or_left {a} b h = rw h

pub or_right : (a : Bool) {b : Bool} → b ≡ true → (a || b) ≡ true
or_right true h = refl
or_right false h = h

pub or_cases : (a b : Bool) → (a || b) ≡ true → (a ≡ true) ⊎ (b ≡ true)
or_cases true b h = inl refl
or_cases false b h = inr h

pub or_neither : (a b : Bool) → (a || b) ≡ false → (a ≡ false) × (b ≡ false)
or_neither true b h = absurd (true≢false h)
or_neither false b h = (refl, h)

pub or_false : (b : Bool) → (b || false) ≡ b
or_false true = refl
or_false false = refl

pub or_same : (b : Bool) → (b || b) ≡ b
or_same true = refl
or_same false = refl

pub or_swap : (a b c d : Bool) → ((a || b) || (c || d)) ≡ ((a || c) || (b || d))
or_swap true b c d = refl
or_swap false true true d = refl
or_swap false true false d = refl
or_swap false false c d = refl

pub or_mono : (a b u v : Bool) → (a ≡ true → u ≡ true) → (b ≡ true → v ≡ true) → (a || b) ≡ true → (u || v) ≡ true
or_mono a b u v f g h = go (or_cases a b h)
  where
    go : (a ≡ true) ⊎ (b ≡ true) → (u || v) ≡ true
    go (inl h) = or_left _ (f h)
    go (inr h) = or_right u (g h)

pub and_both : (a b : Bool) → a ≡ true → b ≡ true → (a && b) ≡ true
and_both a b h k = rw (h, k)

pub and_cases : (a b : Bool) → (a && b) ≡ true → (a ≡ true) × (b ≡ true)
and_cases true b h = (refl, h)
and_cases false b h = absurd (true≢false (sym h))

pub not_true : (b : Bool) → (b ≡ true → ⊥) → b ≡ false
not_true true h = absurd (h refl)
not_true false h = refl

pub clash : {A : Type 0} {b : Bool} → b ≡ true → b ≡ false → A
clash p q = absurd (true≢false (sym p ∙ q))

-- Booleans that are true in the same cases are equal
pub same_bool : (a b : Bool) → (a ≡ true → b ≡ true) → (b ≡ true → a ≡ true) → a ≡ b
same_bool true b f g = sym (f refl)
same_bool false b f g = sym (not_true b (λ h. clash (g h) refl))

-- a fact about a choice, from the fact about each side
pub by_cond {ℓ} : {A : Type 0} (P : A → Type ℓ) (z : Bool) (a b : A) → (z ≡ true → P a) → (z ≡ false → P b) → P (cond z a b)
by_cond P true a b f g = f refl
by_cond P false a b f g = g refl

pub T_true : (b : Bool) → T b → b ≡ true
T_true true t = refl
T_true false t = absurd t

pub eqb_equal : (m n : ℕ) → eqb m n ≡ true → m ≡ n
eqb_equal m n e = eqb→eq m n (subst T (sym e) tt)

pub eqb_differ : (m n : ℕ) → m ≢ n → eqb m n ≡ false
eqb_differ m n h = not_true (eqb m n) (λ e. h (eqb_equal m n e))

pub eqb_same : (n : ℕ) → eqb n n ≡ true
eqb_same n = T_true (eqb n n) (eqb_refl n)

pub differ_eqb : (m n : ℕ) → eqb m n ≡ false → m ≢ n
differ_eqb m n e p = clash (subst (λ (x : ℕ). eqb m x ≡ true) p (eqb_same m)) e

-- the number that a cast makes of a Boolean
pub flag_byte : (b : Bool) → bool_byte b ≡ cond b 1 0
flag_byte true = refl
flag_byte false = refl
