-- The operations on code sets, as a program computes them in words, are those of Figures 5 and 6 on the sets that the
-- words stand for. Each law compares the three parts of a set.
use mathlib.Core.Path.{◌≡◌, refl, sym, ap, ap₂, ◌∙◌}
use mathlib.Core.Logic.{◌≢◌, ◌⊎◌, inl, inr}
use mathlib.Core.Bool.{Bool, true, false, cond, not, ◌&&◌, ◌||◌, and-true, and-false}
use Prim.Native.Nat.{ℕ, zero, suc, ◌+◌, ◌-◌, ◌*◌, ◌/◌, ◌%◌, ◌^◌, ◌≤◌, ◌<◌}
use native.Mathlib.Nat.{mod-eq_of_lt, one-mul, pow-suc, mul_comm, div-div-eq-div-mul, div-mul-le_self}
use native.Mathlib.Omega.{arith}
use lib.Bits.{bit_or, bit_and, and_mask, or_shr, or_block, or_zero_l}
use lib.Count.{count_trailing_zeros, under}
use lib.Dec.{eqb}
use Rattle.sets.specs.Set.{has, only, ◌union◌}
use Rattle.sets.proofs.Booleans.{clash, eqb_differ}
use Rattle.sets.proofs.Members.{has_union, bit, only_fits}
use Rattle.esterel.specs.Codes.{Codes, none, just_ended, just_at, just_code, join, minus_zero, through_try, has_low, not_below, no_lower_than}
use Rattle.esterel.proofs.Codes.{join_none}
use Rattle.reach.specs.declared.codes.CodeSet.TheInside.{Inside}
use Rattle.reach.specs.inner.CodeSets.{place_of, codes_of, followed_by}

abbrev pub words : ℕ → ℕ → Inside
words l k = record { labels = l; codes = k }

abbrev codes : Bool → ℕ → ℕ → Codes
codes z l h = record { ends = z; pausing = l; higher = h }

-- sets with the same parts
parts : {z z' : Bool} {l l' h h' : ℕ} → z ≡ z' → l ≡ l' → h ≡ h' → codes z l h ≡ codes z' l' h'
parts e f g = rw (e, f, g)

-- ---- one code
pub view_ended : (place : ℕ) → place ≡ place_of 0 → codes_of (words 0 (1 * 2 ^ place % 2 ^ 64)) ≡ just_ended
unfolding codes_of just_ended has
view_ended place e = rw e

one_bit : (w x : ℕ) → x < w → 1 * 2 ^ x % 2 ^ w ≡ only x
unfolding only
one_bit w x h = ap (λ (n : ℕ). n % 2 ^ w) (one-mul (2 ^ x)) ∙ only_fits w x h

pub view_at : (l : ℕ) → l < 64 → codes_of (words (1 * 2 ^ l % 2 ^ 64) 0) ≡ just_at l
unfolding codes_of just_at has
view_at l h = parts refl (one_bit 64 l h) refl

at_place : (k : ℕ) → 2 ≤ k → k ≤ 64 → codes_of (words 0 (1 * 2 ^ place_of k % 2 ^ 64)) ≡ just_code k
unfolding codes_of just_code has only
at_place k h l =
    let e : k ≡ suc (suc (k - 2)) = omega arith in
    let f : k - 1 ≡ suc (k - 2) = omega arith in
    let g : 1 * 2 ^ (k - 1) % 2 ^ 64 ≡ 2 ^ (k - 2) * 2 = one_bit 64 (k - 1) (omega arith) ∙ ap (λ (n : ℕ). 2 ^ n) f ∙ pow-suc 2 (k - 2) in
    let even : 1 * 2 ^ (k - 1) % 2 ^ 64 % 2 ≡ 0 = rw g (omega arith) in
    let up : 1 * 2 ^ (k - 1) % 2 ^ 64 / 2 * 4 ≡ 2 ^ k = rw g (let q : 2 ^ k ≡ 2 ^ (k - 2) * 2 * 2 = ap (λ (n : ℕ). 2 ^ n) e ∙ pow-suc 2 (suc (k - 2)) ∙ ap (λ (n : ℕ). n * 2) (pow-suc 2 (k - 2)) in omega arith) in
    parts (ap (λ (n : ℕ). eqb n 1) even) refl up

pub view_code : (k place : ℕ) → place ≡ place_of k → 2 ≤ k → k ≤ 64 → codes_of (words 0 (1 * 2 ^ place % 2 ^ 64)) ≡ just_code k
view_code k place p h l = ap (λ (n : ℕ). codes_of (words 0 (1 * 2 ^ n % 2 ^ 64))) p ∙ at_place k h l

-- the lowest bit as a test
pub has_low_lem : (m : ℕ) → eqb (bit_and m 1) 1 ≡ has m 0
unfolding has
has_low_lem m = ap (λ (n : ℕ). eqb n 1) (and_mask m 1)

-- ---- join, minus 0, through a try
or_up : (x y : ℕ) → bit_or x y * 4 ≡ bit_or (x * 4) (y * 4)
or_up x y =
    let e : x * 4 + 0 ≡ x * 4 = omega arith in
    let f : y * 4 + 0 ≡ y * 4 = omega arith in
    let g : bit_or x y * 4 + 0 ≡ bit_or x y * 4 = omega arith in
    sym g ∙ sym (or_block 2 x y 0 0 (omega arith) (omega arith)) ∙ ap₂ bit_or e f

pub view_join : (a b : Inside) → codes_of (words (bit_or a.labels b.labels) (bit_or a.codes b.codes)) ≡ join (codes_of a) (codes_of b)
unfolding codes_of join ◌union◌
view_join a b =
    let e : bit_or a.codes b.codes / 2 ≡ bit_or (a.codes / 2) (b.codes / 2) = or_shr a.codes b.codes 1 in
    parts (has_union a.codes b.codes 0) refl (ap (λ (n : ℕ). n * 4) e ∙ or_up (a.codes / 2) (b.codes / 2))

pub view_minus : (a : Inside) → a.codes < 2 ^ 64 → codes_of (words a.labels (a.codes / 2 * 2 % 2 ^ 64)) ≡ minus_zero (codes_of a)
unfolding codes_of minus_zero has
view_minus a h =
    let f : a.codes / 2 * 2 % 2 ^ 64 ≡ a.codes / 2 * 2 = mod-eq_of_lt (omega arith) in
    let e : a.codes / 2 * 2 % 2 ^ 64 % 2 ≡ 0 = rw f (omega arith) in
    parts (ap (λ (n : ℕ). eqb n 1) e) refl (rw f (omega arith))

pub view_try : (a : Inside) → codes_of (words a.labels (bit_or (bit_and a.codes 1) (a.codes / 2))) ≡ through_try (codes_of a)
unfolding codes_of through_try has ◌union◌
view_try a = parts low refl high
  where
    one : bit_and a.codes 1 ≡ a.codes % 2
    one = and_mask a.codes 1

    low : has (bit_or (bit_and a.codes 1) (a.codes / 2)) 0 ≡ (has a.codes 0 || has (a.codes / 2 * 4) 2)
    low =
        let e : a.codes % 2 % 2 ≡ a.codes % 2 = omega arith in
        let f : a.codes / 2 % 2 ≡ a.codes / 2 * 4 / 2 / 2 % 2 = omega arith in
        has_union (bit_and a.codes 1) (a.codes / 2) 0
        ∙ ap₂ (λ (m n : ℕ). eqb m 1 || eqb n 1) (ap (λ (n : ℕ). n % 2) one ∙ e) f

    high : bit_or (bit_and a.codes 1) (a.codes / 2) / 2 * 4 ≡ a.codes / 2 * 4 / 8 * 4
    high =
        let e : bit_or (bit_and a.codes 1) (a.codes / 2) / 2 ≡ bit_or (bit_and a.codes 1 / 2) (a.codes / 2 / 2) = or_shr (bit_and a.codes 1) (a.codes / 2) 1 in
        let f : bit_and a.codes 1 / 2 ≡ 0 = rw one (omega arith) in
        let g : bit_or (bit_and a.codes 1 / 2) (a.codes / 2 / 2) ≡ a.codes / 2 / 2 = ap (λ (n : ℕ). bit_or n (a.codes / 2 / 2)) f ∙ or_zero_l (a.codes / 2 / 2) in
        let k : a.codes / 2 / 2 * 4 ≡ a.codes / 2 * 4 / 8 * 4 = omega arith in
        ap (λ (n : ℕ). n * 4) (e ∙ g) ∙ k

-- ---- one after the other
pub goes_on : (K K' : Codes) → K.ends ≡ true → join (minus_zero K) K' ≡ followed_by K K'
unfolding followed_by
goes_on K K' h = sym (ap (λ (z : Bool). join (minus_zero K) (cond z K' none)) h)

pub stops : (K K' : Codes) → K.ends ≡ false → K ≡ followed_by K K'
unfolding followed_by minus_zero
stops K K' h = parts h refl refl ∙ sym (ap (λ (z : Bool). join (minus_zero K) (cond z K' none)) h ∙ join_none (minus_zero K))

-- ---- the maximum: the members of a that are no lower than some member of m
zero_shift : (p : ℕ) → 0 / p * p ≡ 0
zero_shift p = let h = div-mul-le_self 0 p in omega arith

up_shift : (a t : ℕ) → a / 2 / 2 ^ t * 2 ^ t * 2 ≡ a / 2 ^ suc t * 2 ^ suc t
up_shift a t =
    let e : 2 ^ suc t ≡ 2 * 2 ^ t = pow-suc 2 t ∙ mul_comm (2 ^ t) 2 in
    rw (e, ← div-div-eq-div-mul a 2 (2 ^ t)) (omega arith)

-- as a shift down and up again by the place of the lowest member
pub shift_not_below : (w n a m : ℕ) → a ≤ n → m < 2 ^ w → m ≢ 0 → not_below n a m ≡ a / 2 ^ count_trailing_zeros w m * 2 ^ count_trailing_zeros w m
unfolding not_below count_trailing_zeros
shift_not_below zero n a m h l z = absurd (z (omega arith))
shift_not_below (suc w) zero a m h l z = let e : a ≡ 0 = omega arith in sym (ap (λ (x : ℕ). x / p * p) e ∙ zero_shift p)
  where
    p : ℕ
    p = 2 ^ count_trailing_zeros (suc w) m
shift_not_below (suc w) (suc n) zero m h l z = sym (zero_shift (2 ^ count_trailing_zeros (suc w) m))
shift_not_below (suc w) (suc n) (suc a) m h l z = go (shift_not_below w n (suc a / 2) (m / 2)) (bit m)
  where
    t : ℕ
    t = count_trailing_zeros w (m / 2)

    go : (suc a / 2 ≤ n → m / 2 < 2 ^ w → m / 2 ≢ 0 → not_below n (suc a / 2) (m / 2) ≡ suc a / 2 / 2 ^ t * 2 ^ t)
        → (m % 2 ≡ 0) ⊎ (m % 2 ≡ 1) → cond (eqb (m % 2) 1) (suc a) (not_below n (suc a / 2) (m / 2) * 2) ≡ suc a / 2 ^ under (m % 2) t * 2 ^ under (m % 2) t
    go ih (inl e) = rw e (
        ap (λ (x : ℕ). x * 2) (ih (omega arith) (let g : m < 2 ^ w * 2 = rw (pow-suc 2 w) at l in omega arith) (λ q. z (omega arith)))
        ∙ up_shift (suc a) t
        )
    go ih (inr e) = rw e (omega arith)

pub not_below_empty : (n a : ℕ) → not_below n a 0 ≡ 0
unfolding not_below
not_below_empty zero a = refl
not_below_empty (suc n) zero = refl
not_below_empty (suc n) (suc a) = ap (λ (x : ℕ). x * 2) (not_below_empty n (suc a / 2))

-- by what K' has of 0 and of the labels
choose : (K K' : Codes) (z l : Bool) → K'.ends ≡ z → has_low K' ≡ l
    → no_lower_than K K' ≡ codes (K.ends && z) (cond l K.pausing 0) (cond l K.higher (not_below K.higher K.higher K'.higher))
unfolding no_lower_than
choose K K' z l e f = parts (ap (λ (b : Bool). K.ends && b) e) (ap (λ (b : Bool). cond b K.pausing 0) f)
    (ap (λ (b : Bool). cond b K.higher (not_below K.higher K.higher K'.higher)) f)

-- 0 is in K': all of K stays
pub all_kept : (K K' : Codes) → K'.ends ≡ true → K ≡ no_lower_than K K'
unfolding has_low
all_kept K K' h = sym (choose K K' true true h (ap (λ (b : Bool). b || not (eqb K'.pausing 0)) h) ∙ parts (and-true K.ends) refl refl)

-- a label is in K', and 0 is not: all but 0 stays
pub zero_dropped : (K K' : Codes) → K'.ends ≡ false → K'.pausing ≢ 0 → minus_zero K ≡ no_lower_than K K'
unfolding has_low minus_zero
zero_dropped K K' h l =
    sym (choose K K' false true h (ap₂ (λ (b c : Bool). b || not c) h (eqb_differ K'.pausing 0 l)) ∙ parts (and-false K.ends) refl refl)

-- steps enough for every member of a
not_below_none : (n m : ℕ) → not_below n 0 m ≡ 0
unfolding not_below
not_below_none zero m = refl
not_below_none (suc n) m = refl

not_below_enough : (n n' a m : ℕ) → a ≤ n → a ≤ n' → not_below n a m ≡ not_below n' a m
unfolding not_below
not_below_enough zero n' a m h h' = let e : 0 ≡ a = omega arith in sym (not_below_none n' m) ∙ ap (λ (x : ℕ). not_below n' x m) e
not_below_enough (suc n) zero a m h h' = let e : a ≡ 0 = omega arith in ap (λ (x : ℕ). not_below (suc n) x m) e
not_below_enough (suc n) (suc n') zero m h h' = refl
not_below_enough (suc n) (suc n') (suc a) m h h' =
    ap (λ (x : ℕ). cond (eqb (m % 2) 1) (suc a) (x * 2)) (not_below_enough n n' (suc a / 2) (m / 2) (omega arith) (omega arith))

-- 0 is not in m
not_below_even : (n a m : ℕ) → m % 2 ≡ 0 → not_below (suc n) a m ≡ not_below n (a / 2) (m / 2) * 2
unfolding not_below
not_below_even n zero m e = sym (ap (λ (x : ℕ). x * 2) (not_below_none n (m / 2)))
not_below_even n (suc a) m e = rw e

not_below_half : (e f : ℕ) → f % 2 ≡ 0 → not_below e e f ≡ not_below e (e / 2) (f / 2) * 2
not_below_half e f h = not_below_enough e (suc e) e f (omega arith) (omega arith) ∙ not_below_even e e f h

-- the view moves each code of 2 and up by one place
not_below_moved : (e f : ℕ) → f % 2 ≡ 0 → not_below e e f / 2 * 4 ≡ not_below (e / 2 * 4) (e / 2 * 4) (f / 2 * 4)
not_below_moved e f h =
    let E = e / 2 * 4 in
    let F = f / 2 * 4 in
    let k : not_below e (e / 2) (f / 2) * 2 / 2 * 4 ≡ not_below e (e / 2) (f / 2) * 2 * 2 = omega arith in
    let u : E / 2 / 2 ≡ e / 2 = omega arith in
    let v : F / 2 / 2 ≡ f / 2 = omega arith in
    ap (λ (x : ℕ). x / 2 * 4) (not_below_half e f h) ∙ k
    ∙ ap (λ (x : ℕ). x * 2 * 2) (not_below_enough e E (e / 2) (f / 2) (omega arith) (omega arith) ∙ sym (ap₂ (not_below E) u v))
    ∙ sym (
    not_below_enough E (suc (suc E)) E F (omega arith) (omega arith)
    ∙ not_below_even (suc E) E F (omega arith)
    ∙ ap (λ (x : ℕ). x * 2) (not_below_even E (E / 2) (F / 2) (omega arith))
    )

even_low : (m : ℕ) → has m 0 ≡ false → m % 2 ≡ 0
unfolding has
even_low m h = go (bit m)
  where
    go : (m % 2 ≡ 0) ⊎ (m % 2 ≡ 1) → m % 2 ≡ 0
    go (inl e) = e
    go (inr e) = clash (ap (λ (n : ℕ). eqb n 1) e) h

-- only codes of 2 and up are in b
pub higher_kept : (a b : Inside) → (codes_of b).ends ≡ false → b.labels ≡ 0
    → codes_of (words 0 (not_below a.codes a.codes b.codes)) ≡ no_lower_than (codes_of a) (codes_of b)
unfolding codes_of has_low has
higher_kept a b h l =
    let e = even_low b.codes h in
    let z : not_below a.codes a.codes b.codes % 2 ≡ 0 = rw (not_below_half a.codes b.codes e) (omega arith) in
    parts (ap (λ (n : ℕ). eqb n 1) z ∙ sym (and-false (has a.codes 0))) refl (not_below_moved a.codes b.codes e)
    ∙ sym (choose (codes_of a) (codes_of b) false false h (ap₂ (λ (b c : Bool). b || not c) h (ap (λ (n : ℕ). eqb n 0) l)))
