-- The operations on sets, member by member, and that a set is determined by its members. Over every width.
use mathlib.Core.Path.{◌≡◌, refl, sym, ap, ◌∙◌, subst}
use mathlib.Core.Logic.{◌≢◌, ◌⊎◌, inl, inr, ⊎_elim}
use mathlib.Core.Bool.{Bool, true, false, not, ◌&&◌, ◌||◌, true≢false, false≢true}
use lib.Pow.{pow-add, pow-lt}
use Prim.Native.Nat.{ℕ, zero, suc, ◌-◌, ◌*◌, ◌/◌, ◌%◌, ◌^◌, ◌≤◌, ◌<◌, suc-le-suc}
use native.Mathlib.Nat.{div-one, div-div-eq-div-mul, mul_comm, pow-suc, mul-div_cancel, mul-mod_left, mod-lt, mod-eq_of_lt, not-suc-le-zero, le_of_suc-le-suc}
use native.Mathlib.Omega.{arith}
use lib.Arith.{bin_ind}
use lib.Bits.{bit_or, bit_and, bit_xor, and_mask, or_shr, and_shr, xor_shr, or_mod, and_mod, xor_mod, or_self, or_zero_r}
use lib.Count.{count_trailing_zeros}
use lib.Dec.{eqb, eqb→eq, T}
use Rattle.sets.specs.Set.{has, only, ◌union◌, ◌intersect◌, ◌minus◌, ◌without◌, Within, Apart}
use Rattle.sets.proofs.Booleans.{or_left, or_right, or_cases, or_neither, or_swap, and_cases, clash, not_true, eqb_equal, differ_eqb}

-- ---- a bit
pub bit : (n : ℕ) → (n % 2 ≡ 0) ⊎ (n % 2 ≡ 1)
bit n = go (n % 2) (mod-lt n (omega arith))
  where
    go : (m : ℕ) → m < 2 → (m ≡ 0) ⊎ (m ≡ 1)
    go zero h = inl refl
    go (suc zero) h = inr refl
    go (suc (suc m)) h = absurd (not-suc-le-zero (le_of_suc-le-suc (le_of_suc-le-suc h)))

-- a fact about two bits, from its four cases
bits : (P : ℕ → ℕ → Type 0) → P 0 0 → P 0 1 → P 1 0 → P 1 1 → (a b : ℕ) → P (a % 2) (b % 2)
bits P p00 p01 p10 p11 a b = go (bit a) (bit b)
  where
    go : (a % 2 ≡ 0) ⊎ (a % 2 ≡ 1) → (b % 2 ≡ 0) ⊎ (b % 2 ≡ 1) → P (a % 2) (b % 2)
    go (inl p) (inl q) = rw (p, q) p00
    go (inl p) (inr q) = rw (p, q) p01
    go (inr p) (inl q) = rw (p, q) p10
    go (inr p) (inr q) = rw (p, q) p11

-- the test that a program makes
pub has_shift : (m x : ℕ) → has m x ≡ eqb (m / 2 ^ x % 2) 1
unfolding has
has_shift m zero = ap (λ (n : ℕ). eqb (n % 2) 1) (sym (div-one m))
has_shift m (suc x) =
    has_shift (m / 2) x
    ∙ ap (λ (n : ℕ). eqb (n % 2) 1) (div-div-eq-div-mul m 2 (2 ^ x) ∙ ap (λ (n : ℕ). m / n) (mul_comm 2 (2 ^ x) ∙ sym (pow-suc 2 x)))

-- the same test as a shift and a mask of words
pub has_word : (m x : ℕ) → eqb (bit_and (m / 2 ^ x) 1) 1 ≡ has m x
has_word m x = ap (λ (n : ℕ). eqb n 1) (and_mask (m / 2 ^ x) 1) ∙ sym (has_shift m x)

-- ---- the empty set
pub has_empty : (x : ℕ) → has 0 x ≡ false
unfolding has
has_empty zero = refl
has_empty (suc x) = has_empty x

-- ---- union, intersection, difference
pub has_union : (a b x : ℕ) → has (a union b) x ≡ (has a x || has b x)
unfolding has ◌union◌
has_union a b zero = ap (λ (m : ℕ). eqb m 1) (or_mod a b 1) ∙ bits (λ m n. eqb (bit_or m n) 1 ≡ (eqb m 1 || eqb n 1)) refl refl refl refl a b
has_union a b (suc x) = ap (λ (m : ℕ). has m x) (or_shr a b 1) ∙ has_union (a / 2) (b / 2) x

has_and : (a b x : ℕ) → has (bit_and a b) x ≡ (has a x && has b x)
unfolding has
has_and a b zero = ap (λ (m : ℕ). eqb m 1) (and_mod a b 1) ∙ bits (λ m n. eqb (bit_and m n) 1 ≡ (eqb m 1 && eqb n 1)) refl refl refl refl a b
has_and a b (suc x) = ap (λ (m : ℕ). has m x) (and_shr a b 1) ∙ has_and (a / 2) (b / 2) x

-- a member of a union
pub either : {C : Type 0} (a b x : ℕ) → has (a union b) x ≡ true → (has a x ≡ true → C) → (has b x ≡ true → C) → C
either a b x h f g = ⊎_elim f g (or_cases (has a x) (has b x) (sym (has_union a b x) ∙ h))

pub in_left : (a b x : ℕ) → has a x ≡ true → has (a union b) x ≡ true
in_left a b x h = has_union a b x ∙ or_left _ h

pub in_right : (a b x : ℕ) → has b x ≡ true → has (a union b) x ≡ true
in_right a b x h = has_union a b x ∙ or_right (has a x) h

-- what is not in a union is in neither set
pub in_neither : (a b x : ℕ) → has (a union b) x ≡ false → (has a x ≡ false) × (has b x ≡ false)
in_neither a b x h = or_neither (has a x) (has b x) (sym (has_union a b x) ∙ h)

pub has_intersect : (a b x : ℕ) → has (a intersect b) x ≡ (has a x && has b x)
unfolding ◌intersect◌
has_intersect a b x = has_and a b x

differs : Bool → Bool → Bool
differs true b = not b
differs false b = b

has_xor : (a b x : ℕ) → has (bit_xor a b) x ≡ differs (has a x) (has b x)
unfolding has differs
has_xor a b zero = ap (λ (m : ℕ). eqb m 1) (xor_mod a b 1) ∙ bits (λ m n. eqb (bit_xor m n) 1 ≡ differs (eqb m 1) (eqb n 1)) refl refl refl refl a b
has_xor a b (suc x) = ap (λ (m : ℕ). has m x) (xor_shr a b 1) ∙ has_xor (a / 2) (b / 2) x

differs_and : (a b : Bool) → differs a (a && b) ≡ (a && not b)
unfolding differs
differs_and true b = refl
differs_and false b = refl

pub in_both : (a b x : ℕ) → has (a intersect b) x ≡ true → (has a x ≡ true) × (has b x ≡ true)
in_both a b x h = and_cases (has a x) (has b x) (sym (has_intersect a b x) ∙ h)

pub has_minus : (a b x : ℕ) → has (a minus b) x ≡ (has a x && not (has b x))
unfolding ◌minus◌
has_minus a b x =
    has_xor a (bit_and a b) x ∙ ap (differs (has a x)) (has_and a b x) ∙ differs_and (has a x) (has b x)

pub has_minus_in : (a b x : ℕ) → has b x ≡ true → has (a minus b) x ≡ false
has_minus_in a b x h = has_minus a b x ∙ ap (λ z. has a x && not z) h ∙ go (has a x)
  where
    go : (z : Bool) → (z && false) ≡ false
    go true = refl
    go false = refl

pub has_minus_out : (a b x : ℕ) → has b x ≡ false → has (a minus b) x ≡ has a x
has_minus_out a b x h = has_minus a b x ∙ ap (λ z. has a x && not z) h ∙ go (has a x)
  where
    go : (z : Bool) → (z && true) ≡ z
    go true = refl
    go false = refl

-- ---- one element
half_pow : (x : ℕ) → 2 ^ suc x / 2 ≡ 2 ^ x
half_pow x = rw pow-suc (mul-div_cancel (2 ^ x) (omega arith))

even_pow : (x : ℕ) → 2 ^ suc x % 2 ≡ 0
even_pow x = rw pow-suc (mul-mod_left (2 ^ x) 2)

pub has_only : (x : ℕ) → has (only x) x ≡ true
unfolding has only
has_only zero = refl
has_only (suc x) = rw half_pow (has_only x)

pub has_only_equal : (x y : ℕ) → has (only x) y ≡ true → x ≡ y
unfolding has only
has_only_equal zero zero h = refl
has_only_equal zero (suc y) h = clash h (has_empty y)
has_only_equal (suc x) zero h = clash h (ap (λ (m : ℕ). eqb m 1) (even_pow x))
has_only_equal (suc x) (suc y) h = ap suc (has_only_equal x y (rw half_pow at h))

pub has_only_other : (x y : ℕ) → x ≢ y → has (only x) y ≡ false
has_only_other x y h = not_true (has (only x) y) (λ e. h (has_only_equal x y e))

pub has_without_same : (a x : ℕ) → has (a without x) x ≡ false
has_without_same a x = has_minus_in a (only x) x (has_only x)

pub has_without_other : (a x y : ℕ) → x ≢ y → has (a without x) y ≡ has a y
has_without_other a x y h = has_minus_out a (only x) y (has_only_other x y h)

-- an element past the width is not in a word
pub only_past : (w x : ℕ) → w ≤ x → only x % 2 ^ w ≡ 0
unfolding only
only_past w x h =
    let e : 2 ^ x ≡ 2 ^ (x - w) * 2 ^ w = ap (λ (n : ℕ). 2 ^ n) (omega arith) ∙ pow-add 2 (x - w) w in
    ap (λ (n : ℕ). n % 2 ^ w) e ∙ mul-mod_left (2 ^ (x - w)) (2 ^ w)

-- and one below it is
pub only_fits : (w x : ℕ) → x < w → only x % 2 ^ w ≡ only x
unfolding only
only_fits w x h = mod-eq_of_lt (pow-lt h)

-- ---- the empty set joined
pub empty_union : (a : ℕ) → 0 union a ≡ a
unfolding ◌union◌
empty_union a = refl

pub union_empty : (a : ℕ) → a union 0 ≡ a
unfolding ◌union◌
union_empty a = or_zero_r a

-- ---- extensionality
same_bit : (a b : ℕ) → eqb (a % 2) 1 ≡ eqb (b % 2) 1 → a % 2 ≡ b % 2
same_bit a b = bits (λ m n. eqb m 1 ≡ eqb n 1 → m ≡ n) (λ e. refl) (λ e. absurd (false≢true e)) (λ e. absurd (true≢false e)) (λ e. refl) a b

-- sets with the same members are equal
pub ext : (a b : ℕ) → ((x : ℕ) → has a x ≡ has b x) → a ≡ b
unfolding has
ext a = bin_ind (λ (a : ℕ). (b : ℕ) → ((x : ℕ) → has a x ≡ has b x) → a ≡ b)
    (λ b h. sym (bin_ind (λ (b : ℕ). ((x : ℕ) → has 0 x ≡ has b x) → b ≡ 0) (λ k. refl)
    (λ n ih k. let u : n / 2 ≡ 0 = ih (λ x. k (suc x)) in let v : 0 % 2 ≡ n % 2 = same_bit 0 n (k 0) in omega arith) b h))
    (λ n ih b h. let u : n / 2 ≡ b / 2 = ih (b / 2) (λ x. h (suc x)) in let v : n % 2 ≡ b % 2 = same_bit n b (h 0) in omega arith) a

-- each within the other
pub within_ext : (a b : ℕ) → Within a b → Within b a → a ≡ b
within_ext a b f g = ext a b (λ x. go (has a x) (has b x) (f x) (g x))
  where
    go : (u v : Bool) → (u ≡ true → v ≡ true) → (v ≡ true → u ≡ true) → u ≡ v
    go true v f g = sym (f refl)
    go false true f g = clash (g refl) refl
    go false false f g = refl

-- ---- unions in any order
pub union_swap : (a b c d : ℕ) → (a union b) union (c union d) ≡ (a union c) union (b union d)
union_swap a b c d = ext ((a union b) union (c union d)) ((a union c) union (b union d)) (λ x. simp has_union (or_swap (has a x) (has b x) (has c x) (has d x)))

pub union_same : (a : ℕ) → a union a ≡ a
unfolding ◌union◌
union_same a = or_self a

-- a set joined to one that it is within
pub within_union : (a b : ℕ) → Within a b → a union b ≡ b
within_union a b f = within_ext (a union b) b (λ x h. either a b x h (f x) (λ k. k)) (in_right a b)

pub union_assoc : (a b c : ℕ) → (a union b) union c ≡ a union (b union c)
union_assoc a b c =
    ext ((a union b) union c) (a union (b union c)) (λ x.
    has_union (a union b) c x ∙ ap (λ z. z || has c x) (has_union a b x) ∙ go (has a x) (has b x) (has c x)
    ∙ sym (has_union a (b union c) x ∙ ap (λ z. has a x || z) (has_union b c x)))
  where
    go : (u v w : Bool) → ((u || v) || w) ≡ (u || (v || w))
    go true v w = refl
    go false v w = refl

-- ---- how large the number of a set is
-- a set has no element that is as large as its number
pub has_below : (x m : ℕ) → has m x ≡ true → x < m
unfolding has
has_below zero m h = let e : m % 2 ≡ 1 = eqb→eq (m % 2) 1 (subst T (sym h) tt) in omega arith
has_below (suc x) m h = let i : x < m / 2 = has_below x (m / 2) h in omega arith

-- a set whose elements are below w fits in w bits, and the other way round
pub fits : (w m : ℕ) → ((x : ℕ) → has m x ≡ true → x < w) → m < 2 ^ w
unfolding has
fits zero m f = let e : m ≡ 0 = ext m 0 (λ x. none x (has m x) refl) in omega arith
  where
    none : (x : ℕ) (b : Bool) → has m x ≡ b → has m x ≡ has 0 x
    none x true e = absurd (not-suc-le-zero (f x e))
    none x false e = e ∙ sym (has_empty x)
fits (suc w) m f = let i : m / 2 < 2 ^ w = fits w (m / 2) (λ x h. le_of_suc-le-suc (f (suc x) h)) in rw pow-suc (omega arith)

pub past_width : (w m x : ℕ) → m < 2 ^ w → w ≤ x → has m x ≡ false
unfolding has
past_width zero m x h l = let e : m ≡ 0 = omega arith in ap (λ (n : ℕ). has n x) e ∙ has_empty x
past_width (suc w) m zero h l = absurd (not-suc-le-zero l)
past_width (suc w) m (suc x) h l = past_width w (m / 2) x (let k : m < 2 ^ w * 2 = rw pow-suc at h in omega arith) (le_of_suc-le-suc l)

-- ---- apart and within, of unions
pub apart_sym : (a b : ℕ) → Apart a b → Apart b a
apart_sym a b f x h = not_true (has a x) (λ e. clash h (f x e))

pub apart_union : (a b c : ℕ) → Apart a b → Apart a c → Apart a (b union c)
apart_union a b c f g x h = has_union b c x ∙ rw (f x h, g x h)

pub apart_union⁻ : (a b c : ℕ) → Apart a (b union c) → Apart a b × Apart a c
apart_union⁻ a b c f = (λ x h. (in_neither b c x (f x h)).0, λ x h. (in_neither b c x (f x h)).1)

pub union_apart⁻ : (a b c : ℕ) → Apart (a union b) c → Apart a c × Apart b c
union_apart⁻ a b c f = (λ x h. f x (in_left a b x h), λ x h. f x (in_right a b x h))

pub union_within : (a b u v : ℕ) → Within a u → Within b v → Within (a union b) (u union v)
union_within a b u v f g x h = either a b x h (λ k. in_left u v x (f x k)) (λ k. in_right u v x (g x k))

pub union_within_both : (a b F : ℕ) → Within a F → Within b F → Within (a union b) F
union_within_both a b F f g x h = either a b x h (f x) (g x)

-- the test for sets with no element in common
pub apart_test : (a b : ℕ) → Apart a b → eqb (a intersect b) 0 ≡ true
apart_test a b f = ap (λ (z : ℕ). eqb z 0) (ext (a intersect b) 0 (λ x. has_intersect a b x ∙ go x (has a x) refl ∙ sym (has_empty x)))
  where
    go : (x : ℕ) (u : Bool) → has a x ≡ u → (has a x && has b x) ≡ false
    go x true e = rw e (f x e)
    go x false e = rw e

pub test_apart : (a b : ℕ) → eqb (a intersect b) 0 ≡ true → Apart a b
test_apart a b e x h =
    sym (rw h) ∙ sym (has_intersect a b x) ∙ ap (λ (z : ℕ). has z x) (eqb_equal (a intersect b) 0 e) ∙ has_empty x

-- the test for a set with a member
pub not_empty : (m x : ℕ) → has m x ≡ true → eqb m 0 ≡ false
not_empty m x h = not_true (eqb m 0) (λ e. clash (subst (λ (z : ℕ). has z x ≡ true) (eqb_equal m 0 e) h) (has_empty x))

-- a set that is not empty has a member
pub some_member : (m : ℕ) → m ≢ 0 → (x : ℕ) × (has m x ≡ true)
unfolding has
some_member = bin_ind (λ (m : ℕ). m ≢ 0 → (x : ℕ) × (has m x ≡ true)) (λ h. absurd (h refl)) (λ n ih h. go n ih h (bit n))
  where
    go : (n : ℕ) → (n / 2 ≢ 0 → (x : ℕ) × (has (n / 2) x ≡ true)) → n ≢ 0 → (n % 2 ≡ 0) ⊎ (n % 2 ≡ 1) → (x : ℕ) × (has n x ≡ true)
    go n ih h (inr e) = (0, ap (λ (z : ℕ). eqb z 1) e)
    go n ih h (inl e) = let (x, k) = ih (λ z. h (omega arith)) in (suc x, k)

-- two sets have a member in common, or are apart
pub meet : (a b : ℕ) → ((x : ℕ) × (has a x ≡ true) × (has b x ≡ true)) ⊎ Apart a b
meet a b = go (eqb (a intersect b) 0) refl
  where
    go : (z : Bool) → eqb (a intersect b) 0 ≡ z → ((x : ℕ) × (has a x ≡ true) × (has b x ≡ true)) ⊎ Apart a b
    go true e = inr (test_apart a b e)
    go false e =
        let (x, h) = some_member (a intersect b) (differ_eqb (a intersect b) 0 e) in
        let (u, v) = in_both a b x h in
        inl (x, u, v)

-- ---- the least member, where a program counts the zeros below it
module _ (w m : ℕ) (h : m < 2 ^ suc w) (z : m ≢ 0) (e : m % 2 ≡ 0) where
  half_small : m / 2 < 2 ^ w
  half_small = let g : m < 2 ^ w * 2 = rw pow-suc at h in omega arith

  half_some : m / 2 ≢ 0
  half_some q = z (omega arith)

pub least_within : (w m : ℕ) → m < 2 ^ w → m ≢ 0 → count_trailing_zeros w m < w
unfolding count_trailing_zeros
least_within zero m h z = absurd (z (omega arith))
least_within (suc w) m h z = go (least_within w (m / 2)) (bit m)
  where
    go : (m / 2 < 2 ^ w → m / 2 ≢ 0 → count_trailing_zeros w (m / 2) < w) → (m % 2 ≡ 0) ⊎ (m % 2 ≡ 1) → count_trailing_zeros (suc w) m < suc w
    go ih (inl e) = rw e (suc-le-suc (ih (half_small w m h z e) (half_some w m h z e)))
    go ih (inr e) = rw e (omega arith)

pub least_member : (w m : ℕ) → m < 2 ^ w → m ≢ 0 → has m (count_trailing_zeros w m) ≡ true
unfolding count_trailing_zeros has
least_member zero m h z = absurd (z (omega arith))
least_member (suc w) m h z = go (least_member w (m / 2)) (bit m)
  where
    go : (m / 2 < 2 ^ w → m / 2 ≢ 0 → has (m / 2) (count_trailing_zeros w (m / 2)) ≡ true) → (m % 2 ≡ 0) ⊎ (m % 2 ≡ 1) → has m (count_trailing_zeros (suc w) m) ≡ true
    go ih (inl e) = rw e (ih (half_small w m h z e) (half_some w m h z e))
    go ih (inr e) = rw e (ap (λ (n : ℕ). eqb n 1) e)

pub least_first : (w m : ℕ) → m < 2 ^ w → m ≢ 0 → (x : ℕ) → x < count_trailing_zeros w m → has m x ≡ false
unfolding count_trailing_zeros has
least_first zero m h z x l = absurd (z (omega arith))
least_first (suc w) m h z x l = go (least_first w (m / 2)) (bit m) x l
  where
    go : (m / 2 < 2 ^ w → m / 2 ≢ 0 → (y : ℕ) → y < count_trailing_zeros w (m / 2) → has (m / 2) y ≡ false) → (m % 2 ≡ 0) ⊎ (m % 2 ≡ 1)
        → (y : ℕ) → y < count_trailing_zeros (suc w) m → has m y ≡ false
    go ih (inl e) zero k = ap (λ (n : ℕ). eqb n 1) e
    go ih (inl e) (suc y) k = ih (half_small w m h z e) (half_some w m h z e) y (le_of_suc-le-suc (rw e at k))
    go ih (inr e) y k = absurd (let none : y < 0 = rw e at k in omega arith)
