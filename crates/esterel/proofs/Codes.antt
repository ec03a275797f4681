-- The operations on code sets, code by code: each is the set that the paper writes. Then the laws of joins, and the equations
-- of a sequence and of a loop in one form, over which soundness and reachability go.
use mathlib.Core.Path.{◌≡◌, refl, sym, ap, ◌∙◌, subst}
use mathlib.Core.Logic.{◌↔◌, ◌⊎◌, inl, inr}
use mathlib.Core.Bool.{Bool, true, false, not, ◌&&◌, ◌||◌, cond, false≢true}
use Prim.Native.Nat.{ℕ, zero, suc, ◌*◌, ◌/◌, ◌%◌, ◌≤◌, ◌<◌}
use native.Mathlib.Nat.{le_refl, mul-div_cancel, mul-mod_left, not-suc-le-zero, le_of_suc-le-suc}
use native.Mathlib.Omega.{arith}
use lib.Arith.{half_le}
use lib.Dec.{eqb, eqb-suc-zero}
use Rattle.sets.specs.Set.{has, only, ◌union◌, Within}
use Rattle.sets.proofs.Booleans.{or_left, or_right, or_cases, or_false, or_same, or_swap, and_both, and_cases, by_cond, clash, differ_eqb, not_true}
use Rattle.sets.proofs.Members.{bit, ext, has_empty, has_union, has_only, has_only_equal, not_empty, some_member, empty_union, union_empty, union_same, union_swap}
use Rattle.esterel.specs.Statement.{Statement, sequence, loop}
use Rattle.esterel.specs.Codes.{Codes, Qualified, ended, at, above, plain, through, through_qualified, contains, labels, none, just_ended, just_at, just_code, join, minus_zero, through_try, has_low, not_below, no_lower_than, maximum, s, d}

-- ---- Equal sets
pub codes_equal : (K K' : Codes) → K.ends ≡ K'.ends → K.pausing ≡ K'.pausing → K.higher ≡ K'.higher → K ≡ K'
codes_equal K K' a b c = λ i. record { ends = a i; pausing = b i; higher = c i }

-- every higher code of K has the property P
abbrev pub EachHigher : (ℕ → Type 0) → Codes → Type 0
EachHigher P K = (k : ℕ) → has K.higher k ≡ true → P k

-- bits 0 and 1 of `higher` mean nothing: here they are not set
abbrev pub FromTwo : Codes → Type 0
FromTwo = EachHigher (λ k. 2 ≤ k)

from_two_low : (K : Codes) → FromTwo K → (k : ℕ) → k < 2 → has K.higher k ≡ false
from_two_low K f k i = not_true (has K.higher k) (λ h. let j = f k h in omega arith)

-- sets with the same codes are equal
pub codes_ext : (K K' : Codes) → FromTwo K → FromTwo K' → ((q : Qualified) → contains K q ≡ contains K' q) → K ≡ K'
unfolding contains labels
codes_ext K K' f g h = codes_equal K K' (h ended) (ext K.pausing K'.pausing (λ l. h (at l))) (ext K.higher K'.higher same)
  where
    same : (k : ℕ) → has K.higher k ≡ has K'.higher k
    same zero = from_two_low K f 0 (omega arith) ∙ sym (from_two_low K' g 0 (omega arith))
    same (suc zero) = from_two_low K f 1 (omega arith) ∙ sym (from_two_low K' g 1 (omega arith))
    same (suc (suc n)) = h (above n)

-- ---- One code or none
pub contains_none : (q : Qualified) → contains none q ≡ false
unfolding contains labels none
contains_none ended = refl
contains_none (at l) = has_empty l
contains_none (above n) = has_empty (suc (suc n))

pub contains_just_ended : (q : Qualified) → contains just_ended q ≡ true ↔ (q ≡ ended)
unfolding contains labels just_ended
contains_just_ended q = (out q, λ e. ap (contains just_ended) e)
  where
    out : (q : Qualified) → contains just_ended q ≡ true → q ≡ ended
    out ended h = refl
    out (at l) h = clash h (has_empty l)
    out (above n) h = clash h (has_empty (suc (suc n)))

pub contains_just_at : (l : ℕ) (q : Qualified) → contains (just_at l) q ≡ true ↔ (q ≡ at l)
unfolding contains labels just_at
contains_just_at l q = (out q, λ e. ap (contains (just_at l)) e ∙ has_only l)
  where
    out : (q : Qualified) → contains (just_at l) q ≡ true → q ≡ at l
    out ended h = absurd (false≢true h)
    out (at m) h = ap at (sym (has_only_equal l m h))
    out (above n) h = clash h (has_empty (suc (suc n)))

pub contains_just_code : (k : ℕ) (q : Qualified) → 2 ≤ k → contains (just_code k) q ≡ true ↔ (plain q ≡ k)
unfolding contains labels just_code plain
contains_just_code k q i = (out q, into q)
  where
    out : (q : Qualified) → contains (just_code k) q ≡ true → plain q ≡ k
    out ended h = absurd (false≢true h)
    out (at l) h = clash h (has_empty l)
    out (above n) h = sym (has_only_equal k (suc (suc n)) h)

    into : (q : Qualified) → plain q ≡ k → contains (just_code k) q ≡ true
    into ended e = absurd (omega arith)
    into (at l) e = absurd (omega arith)
    into (above n) e = ap (has (only k)) e ∙ has_only k

-- ---- K ∪ K'
pub contains_join : (K K' : Codes) (q : Qualified) → contains (join K K') q ≡ (contains K q || contains K' q)
unfolding contains labels join
contains_join K K' ended = refl
contains_join K K' (at l) = has_union K.pausing K'.pausing l
contains_join K K' (above n) = has_union K.higher K'.higher (suc (suc n))

pub contains_left : (K K' : Codes) (q : Qualified) → contains K q ≡ true → contains (join K K') q ≡ true
contains_left K K' q h = contains_join K K' q ∙ or_left _ h

pub contains_right : (K K' : Codes) (q : Qualified) → contains K' q ≡ true → contains (join K K') q ≡ true
contains_right K K' q h = contains_join K K' q ∙ or_right (contains K q) h

pub join_cases : (K K' : Codes) (q : Qualified) → contains (join K K') q ≡ true → (contains K q ≡ true) ⊎ (contains K' q ≡ true)
join_cases K K' q h = or_cases (contains K q) (contains K' q) (sym (contains_join K K' q) ∙ h)

-- ---- K \ {0}
pub contains_minus_zero : (K : Codes) (q : Qualified) → contains (minus_zero K) q ≡ (not (eqb (plain q) 0) && contains K q)
unfolding contains labels minus_zero plain
contains_minus_zero K ended = refl
contains_minus_zero K (at l) = refl
contains_minus_zero K (above n) = ap (λ b. not b && has K.higher (suc (suc n))) (sym (eqb-suc-zero (suc n)))

-- ---- ↓K
pub plain_through : (q : Qualified) → plain (through_qualified q) ≡ through (plain q)
unfolding plain through through_qualified
plain_through ended = refl
plain_through (at l) = refl
plain_through (above zero) = refl
plain_through (above (suc n)) = refl

pub none_through : through_try none ≡ none
unfolding through_try none has
none_through = refl

-- `higher / 8 * 4` holds each code above 2, one lower, and nothing else
pub has_lowered : (m x : ℕ) → has (m / 8 * 4) (suc (suc x)) ≡ has m (suc (suc (suc x)))
unfolding has
has_lowered m x = ap (λ (n : ℕ). has n x) (omega arith)

pub lowered_low : (m x : ℕ) → x < 2 → has (m / 8 * 4) x ≡ false
unfolding has
lowered_low m zero h = let e : m / 8 * 4 % 2 ≡ 0 = omega arith in ap (λ (n : ℕ). eqb n 1) e
lowered_low m (suc zero) h = let e : m / 8 * 4 / 2 % 2 ≡ 0 = omega arith in ap (λ (n : ℕ). eqb n 1) e
lowered_low m (suc (suc x)) h = absurd (omega arith)

lowered_union : (a b : ℕ) → (a union b) / 8 * 4 ≡ (a / 8 * 4) union (b / 8 * 4)
lowered_union a b = ext ((a union b) / 8 * 4) ((a / 8 * 4) union (b / 8 * 4)) (λ x. same x ∙ sym (has_union (a / 8 * 4) (b / 8 * 4) x))
  where
    low : (x : ℕ) → x < 2 → has ((a union b) / 8 * 4) x ≡ (has (a / 8 * 4) x || has (b / 8 * 4) x)
    low x i = rw (lowered_low (a union b) x i, lowered_low a x i, lowered_low b x i)

    same : (x : ℕ) → has ((a union b) / 8 * 4) x ≡ (has (a / 8 * 4) x || has (b / 8 * 4) x)
    same zero = low 0 (omega arith)
    same (suc zero) = low 1 (omega arith)
    same (suc (suc x)) = rw (has_lowered (a union b) x, has_lowered a x, has_lowered b x) (has_union a b (suc (suc (suc x))))

pub contains_through_try⁺ : (K : Codes) (q : Qualified) → contains K q ≡ true → contains (through_try K) (through_qualified q) ≡ true
unfolding contains labels through_try through_qualified
contains_through_try⁺ K ended h = or_left _ h
contains_through_try⁺ K (at l) h = h
contains_through_try⁺ K (above zero) h = or_right K.ends h
contains_through_try⁺ K (above (suc n)) h = has_lowered K.higher n ∙ h

pub contains_through_try : (K : Codes) (q : Qualified)
    → contains (through_try K) q ≡ true ↔ ((q' : Qualified) × (contains K q' ≡ true) × (through_qualified q' ≡ q))
unfolding contains labels through_try through_qualified
contains_through_try K q = (out q, λ t. subst (λ z. contains (through_try K) z ≡ true) t.2 (contains_through_try⁺ K t.0 t.1))
  where
    out : (q : Qualified) → contains (through_try K) q ≡ true → (q' : Qualified) × (contains K q' ≡ true) × (through_qualified q' ≡ q)
    out ended h = go (or_cases K.ends (has K.higher 2) h)
      where
        go : (K.ends ≡ true) ⊎ (has K.higher 2 ≡ true) → (q' : Qualified) × (contains K q' ≡ true) × (through_qualified q' ≡ ended)
        go (inl u) = (ended, u, refl)
        go (inr u) = (above 0, u, refl)
    out (at l) h = (at l, h, refl)
    out (above n) h = (above (suc n), sym (has_lowered K.higher n) ∙ h, refl)

-- ---- max(K, K')

-- the set m has a member of at most x
abbrev HasUpTo : ℕ → ℕ → Type 0
HasUpTo m x = (y : ℕ) × (y ≤ x) × (has m y ≡ true)

not_below⁺ : (n a m x y : ℕ) → a ≤ n → has a x ≡ true → y ≤ x → has m y ≡ true → has (not_below n a m) x ≡ true
unfolding not_below has
not_below⁺ zero zero m x y l h o k = h
not_below⁺ zero (suc a) m x y l h o k = absurd (not-suc-le-zero l)
not_below⁺ (suc n) zero m x y l h o k = h
not_below⁺ (suc n) (suc a) m x y l h o k = go (λ i j. not_below⁺ n (suc a / 2) (m / 2) i j (half_le l)) (bit m) x y h o k
  where
    go : ((i j : ℕ) → has (suc a / 2) i ≡ true → j ≤ i → has (m / 2) j ≡ true → has (not_below n (suc a / 2) (m / 2)) i ≡ true)
        → (m % 2 ≡ 0) ⊎ (m % 2 ≡ 1) → (x y : ℕ) → has (suc a) x ≡ true → y ≤ x → has m y ≡ true → has (not_below (suc n) (suc a) m) x ≡ true
    go ih (inr e) x y h o k = rw e h
    go ih (inl e) x zero h o k = clash k (ap (λ (z : ℕ). eqb z 1) e)
    go ih (inl e) zero (suc y) h o k = absurd (not-suc-le-zero o)
    go ih (inl e) (suc x) (suc y) h o k =
        rw e (subst (λ (z : ℕ). has z x ≡ true) (sym (mul-div_cancel (not_below n (suc a / 2) (m / 2)) (omega arith))) (ih x y h (le_of_suc-le-suc o) k))

not_below⁻ : (n a m x : ℕ) → has (not_below n a m) x ≡ true → (has a x ≡ true) × HasUpTo m x
unfolding not_below has
not_below⁻ zero a m x h = clash h (has_empty x)
not_below⁻ (suc n) zero m x h = clash h (has_empty x)
not_below⁻ (suc n) (suc a) m x h = go (not_below⁻ n (suc a / 2) (m / 2)) (bit m) x h
  where
    go : ((i : ℕ) → has (not_below n (suc a / 2) (m / 2)) i ≡ true → (has (suc a / 2) i ≡ true) × HasUpTo (m / 2) i)
        → (m % 2 ≡ 0) ⊎ (m % 2 ≡ 1) → (x : ℕ) → has (not_below (suc n) (suc a) m) x ≡ true → (has (suc a) x ≡ true) × HasUpTo m x
    go ih (inr e) x h = (rw e at h, (0, omega arith, ap (λ (z : ℕ). eqb z 1) e))
    go ih (inl e) zero h = let k = rw e at h in clash k (ap (λ (z : ℕ). eqb z 1) (mul-mod_left (not_below n (suc a / 2) (m / 2)) 2))
    go ih (inl e) (suc x) h =
        let k : has (not_below n (suc a / 2) (m / 2) * 2 / 2) x ≡ true = rw e at h in
        let t = ih x (subst (λ (z : ℕ). has z x ≡ true) (mul-div_cancel (not_below n (suc a / 2) (m / 2)) (omega arith)) k) in
        (t.0, (suc t.1.0, (let i = t.1.1 in omega arith), t.1.2))

-- a code of K is at most k
abbrev pub HasCodeUpTo : Codes → ℕ → Type 0
HasCodeUpTo K k = (q : Qualified) × (plain q ≤ k) × (contains K q ≡ true)

has_low⁺ : (K : Codes) (q : Qualified) → plain q ≤ 1 → contains K q ≡ true → has_low K ≡ true
unfolding has_low contains labels plain
has_low⁺ K ended i h = or_left _ h
has_low⁺ K (at l) i h = or_right K.ends (ap not (not_empty K.pausing l h))
has_low⁺ K (above n) i h = absurd (omega arith)

has_low⁻ : (K : Codes) (k : ℕ) → 1 ≤ k → has_low K ≡ true → HasCodeUpTo K k
unfolding has_low contains labels plain
has_low⁻ K k i h = go K.ends refl (eqb K.pausing 0) refl
  where
    go : (a : Bool) → K.ends ≡ a → (b : Bool) → eqb K.pausing 0 ≡ b → HasCodeUpTo K k
    go true e b f = (ended, omega arith, e)
    go false e false f = let (l, u) = some_member K.pausing (differ_eqb K.pausing 0 f) in (at l, i, u)
    go false e true f = clash h (rw (e, f))

contains_no_lower_than⁺ : (K K' : Codes) (q : Qualified) → contains K q ≡ true → HasCodeUpTo K' (plain q) → contains (no_lower_than K K') q ≡ true
unfolding no_lower_than contains labels plain
contains_no_lower_than⁺ K K' ended h (ended, i, u) = and_both K.ends K'.ends h u
contains_no_lower_than⁺ K K' ended h (at l, i, u) = absurd (omega arith)
contains_no_lower_than⁺ K K' ended h (above n, i, u) = absurd (omega arith)
contains_no_lower_than⁺ K K' (at l) h (q', i, u) = ap (λ b. has (cond b K.pausing 0) l) (has_low⁺ K' q' i u) ∙ h
contains_no_lower_than⁺ K K' (above n) h (q', i, u) =
    by_cond (λ (m : ℕ). has m (suc (suc n)) ≡ true) (has_low K') K.higher (not_below K.higher K.higher K'.higher) (λ e. h) (λ e. go q' i u e)
  where
    go : (q' : Qualified) → plain q' ≤ suc (suc n) → contains K' q' ≡ true → has_low K' ≡ false
        → has (not_below K.higher K.higher K'.higher) (suc (suc n)) ≡ true
    go ended i u e = clash (has_low⁺ K' ended (omega arith) u) e
    go (at l) i u e = clash (has_low⁺ K' (at l) (omega arith) u) e
    go (above m) i u e = not_below⁺ K.higher K.higher K'.higher (suc (suc n)) (suc (suc m)) (le_refl K.higher) h i u

pub no_lower_than_higher : (K K' : Codes) → Within (no_lower_than K K').higher K.higher
unfolding no_lower_than
no_lower_than_higher K K' k =
    by_cond (λ (m : ℕ). has m k ≡ true → has K.higher k ≡ true) (has_low K') K.higher (not_below K.higher K.higher K'.higher)
    (λ e u. u) (λ e u. (not_below⁻ K.higher K.higher K'.higher k u).0)

-- what is no lower than a code of K' is a code of K
contains_no_lower_than⁻ : (K K' : Codes) (q : Qualified) → contains (no_lower_than K K') q ≡ true → contains K q ≡ true
unfolding no_lower_than contains labels
contains_no_lower_than⁻ K K' ended h = (and_cases K.ends K'.ends h).0
contains_no_lower_than⁻ K K' (at l) h =
    by_cond (λ (m : ℕ). has m l ≡ true → has K.pausing l ≡ true) (has_low K') K.pausing 0 (λ e u. u) (λ e u. clash u (has_empty l)) h
contains_no_lower_than⁻ K K' (above n) h = no_lower_than_higher K K' (suc (suc n)) h

no_lower_than_up_to : (K K' : Codes) (q : Qualified) → FromTwo K' → contains (no_lower_than K K') q ≡ true → HasCodeUpTo K' (plain q)
unfolding no_lower_than contains labels plain
no_lower_than_up_to K K' ended f h = (ended, omega arith, (and_cases K.ends K'.ends h).1)
no_lower_than_up_to K K' (at l) f h =
    by_cond (λ (m : ℕ). has m l ≡ true → HasCodeUpTo K' 1) (has_low K') K.pausing 0
    (λ e u. has_low⁻ K' 1 (omega arith) e) (λ e u. clash u (has_empty l)) h
no_lower_than_up_to K K' (above n) f h =
    by_cond (λ (m : ℕ). has m (suc (suc n)) ≡ true → HasCodeUpTo K' (suc (suc n))) (has_low K') K.higher
    (not_below K.higher K.higher K'.higher)
    (λ e u. has_low⁻ K' (suc (suc n)) (omega arith) e)
    (λ e u. go (not_below⁻ K.higher K.higher K'.higher (suc (suc n)) u).1) h
  where
    go : HasUpTo K'.higher (suc (suc n)) → HasCodeUpTo K' (suc (suc n))
    go (zero, i, u) = clash u (from_two_low K' f 0 (omega arith))
    go (suc zero, i, u) = clash u (from_two_low K' f 1 (omega arith))
    go (suc (suc m), i, u) = (above m, i, u)

-- max(K, K'): the codes of either that are no lower than some code of the other
abbrev pub Maximal : Codes → Codes → Qualified → Type 0
Maximal K K' q = ((contains K q ≡ true) × HasCodeUpTo K' (plain q)) ⊎ ((contains K' q ≡ true) × HasCodeUpTo K (plain q))

pub contains_maximum⁺ : (K K' : Codes) (q : Qualified) → Maximal K K' q → contains (maximum K K') q ≡ true
unfolding maximum
contains_maximum⁺ K K' q (inl t) = contains_left (no_lower_than K K') (no_lower_than K' K) q (contains_no_lower_than⁺ K K' q t.0 t.1)
contains_maximum⁺ K K' q (inr t) = contains_right (no_lower_than K K') (no_lower_than K' K) q (contains_no_lower_than⁺ K' K q t.0 t.1)

pub contains_maximum : (K K' : Codes) (q : Qualified) → FromTwo K → FromTwo K' → contains (maximum K K') q ≡ true ↔ Maximal K K' q
unfolding maximum
contains_maximum K K' q f g = (λ h. out (join_cases (no_lower_than K K') (no_lower_than K' K) q h), contains_maximum⁺ K K' q)
  where
    out : (contains (no_lower_than K K') q ≡ true) ⊎ (contains (no_lower_than K' K) q ≡ true) → Maximal K K' q
    out (inl h) = inl (contains_no_lower_than⁻ K K' q h, no_lower_than_up_to K K' q g h)
    out (inr h) = inr (contains_no_lower_than⁻ K' K q h, no_lower_than_up_to K' K q f h)

pub maximum_joins : (K K' : Codes) (q : Qualified) → contains (maximum K K') q ≡ true → contains (join K K') q ≡ true
unfolding maximum
maximum_joins K K' q h = go (join_cases (no_lower_than K K') (no_lower_than K' K) q h)
  where
    go : (contains (no_lower_than K K') q ≡ true) ⊎ (contains (no_lower_than K' K) q ≡ true) → contains (join K K') q ≡ true
    go (inl h) = contains_left K K' q (contains_no_lower_than⁻ K K' q h)
    go (inr h) = contains_right K K' q (contains_no_lower_than⁻ K' K q h)

-- ---- Joins
pub join_none : (K : Codes) → join K none ≡ K
unfolding join none
join_none K = codes_equal (join K none) K (or_false K.ends) (union_empty K.pausing) (union_empty K.higher)

pub none_join : (K : Codes) → join none K ≡ K
unfolding join none
none_join K = codes_equal (join none K) K refl (empty_union K.pausing) (empty_union K.higher)

pub join_same : (K : Codes) → join K K ≡ K
unfolding join
join_same K = codes_equal (join K K) K (or_same K.ends) (union_same K.pausing) (union_same K.higher)

pub join_swap : (A B C D : Codes) → join (join A B) (join C D) ≡ join (join A C) (join B D)
unfolding join
join_swap A B C D =
    codes_equal (join (join A B) (join C D)) (join (join A C) (join B D)) (or_swap A.ends B.ends C.ends D.ends)
    (union_swap A.pausing B.pausing C.pausing D.pausing) (union_swap A.higher B.higher C.higher D.higher)

pub through_try_join : (K K' : Codes) → through_try (join K K') ≡ join (through_try K) (through_try K')
unfolding through_try join
through_try_join K K' =
    codes_equal (through_try (join K K')) (join (through_try K) (through_try K'))
    (ap (λ b. (K.ends || K'.ends) || b) (has_union K.higher K'.higher 2) ∙ or_swap K.ends K'.ends (has K.higher 2) (has K'.higher 2))
    refl (lowered_union K.higher K'.higher)

-- S where a flag says so
pub cond_or : (a b : Bool) (S : Codes) → cond (a || b) S none ≡ join (cond a S none) (cond b S none)
cond_or true true S = sym (join_same S)
cond_or true false S = sym (join_none S)
cond_or false b S = sym (none_join (cond b S none))

-- ---- K followed by S: the codes of K, and for 0 those of S
unfoldable pub followed : Codes → Codes → Codes
followed K S = join (minus_zero K) (cond K.ends S none)

pub followed_join : (K K' S : Codes) → followed (join K K') S ≡ join (followed K S) (followed K' S)
unfolding followed join minus_zero
followed_join K K' S =
    ap (join (minus_zero (join K K'))) (cond_or K.ends K'.ends S)
    ∙ join_swap (minus_zero K) (minus_zero K') (cond K.ends S none) (cond K'.ends S none)

-- what Figures 5 and 6 choose for a sequence and a loop
followed_by : (K S : Codes) (b : Bool) → K.ends ≡ b → cond b (join (minus_zero K) S) K ≡ join (minus_zero K) (cond b S none)
unfolding join minus_zero none
followed_by K S true e = refl
followed_by K S false e = codes_equal K (join (minus_zero K) none) e (sym (union_empty K.pausing)) (sym (union_empty K.higher))

cond_join : (b : Bool) (A B D : Codes) → cond b (join A D) (join B D) ≡ join (cond b A B) D
cond_join true A B D = refl
cond_join false A B D = refl

pub s_sequence : (p q : Statement) → s (sequence p q) ≡ followed (s p) (s q)
unfolding s followed
s_sequence p q = followed_by (s p) (s q) (s p).ends refl

pub d_sequence : (R : ℕ) (p q : Statement) → d R (sequence p q) ≡ join (followed (d R p) (s q)) (d R q)
unfolding d followed
d_sequence R p q =
    cond_join (d R p).ends (join (minus_zero (d R p)) (s q)) (d R p) (d R q)
    ∙ ap (λ K. join K (d R q)) (followed_by (d R p) (s q) (d R p).ends refl)

pub d_loop : (R : ℕ) (p : Statement) → d R (loop p) ≡ followed (d R p) (minus_zero (s p))
unfolding d followed join minus_zero
d_loop R p = followed_by (d R p) (minus_zero (s p)) (d R p).ends refl
