-- How many members a set has below w: a set strictly within another has fewer; and how a word counts them.
use mathlib.Core.Path.{◌≡◌, refl, sym, ap, ◌∙◌}
use mathlib.Core.Logic.{◌⊎◌, inl, inr}
use mathlib.Core.Bool.{Bool, true, false, not, ◌&&◌, ◌||◌, cond}
use Prim.Native.Nat.{ℕ, zero, suc, ◌+◌, ◌/◌, ◌%◌, ◌^◌, ◌≤◌, ◌<◌}
use native.Mathlib.Decide.{ℕ_discrete}
use native.Mathlib.Nat.{mod-lt, mod-eq_of_lt}
use native.Mathlib.Omega.{arith}
use lib.Dec.{eqb}
use lib.Count.{ones_in, ones, ones_cat}
use lib.Pow.{pow_pos, mod-pow-add}
use Rattle.sets.specs.Set.{has, only, ◌union◌, ◌intersect◌, ◌without◌, Within, Apart, count}
use Rattle.sets.proofs.Booleans.{and_cases, clash, not_true}
use Rattle.sets.proofs.Members.{bit, has_shift, has_empty, has_union, in_left, in_right, has_intersect, has_minus, has_only, has_only_other, has_without_same}

bit_mono : (a b : Bool) → (a ≡ true → b ≡ true) → cond a 1 0 ≤ cond b 1 0
bit_mono true true f = omega arith
bit_mono true false f = clash (f refl) refl
bit_mono false true f = omega arith
bit_mono false false f = omega arith

pub count_within : (w a b : ℕ) → Within a b → count w a ≤ count w b
unfolding count
count_within zero a b f = omega arith
count_within (suc w) a b f = let i = count_within w a b f in let j = bit_mono (has a w) (has b w) (f w) in omega arith

pub count_more : (w a b x : ℕ) → Within a b → x < w → has a x ≡ false → has b x ≡ true → count w a < count w b
unfolding count
count_more zero a b x f l u v = absurd (omega arith)
count_more (suc w) a b x f l u v = go (λ (h : x < w). count_more w a b x f h u v) (ℕ_discrete x w)
  where
    go : (x < w → count w a < count w b) → Dec (x ≡ w) → count (suc w) a < count (suc w) b
    go ih (yes e) = rw (← e, u, v) (let i = count_within x a b f in omega arith)
    go ih (no h) = let i = ih (omega arith) in let j = bit_mono (has a w) (has b w) (f w) in omega arith

-- one member fewer
pub count_without : (w m x : ℕ) → x < w → has m x ≡ true → count w (m without x) < count w m
count_without w m x l h = count_more w (m without x) m x (λ y k. (and_cases (has m y) (not (has (only x) y)) (sym (has_minus m (only x) y) ∙ k)).0) l (has_without_same m x) h

-- a member of b below w that a lacks, or there is none
abbrev pub Lacks : ℕ → ℕ → ℕ → Type 0
Lacks w a b = ((x : ℕ) × (x < w) × (has a x ≡ false) × (has b x ≡ true)) ⊎ ((x : ℕ) → x < w → has b x ≡ true → has a x ≡ true)

pub lacking : (w a b : ℕ) → Lacks w a b
lacking zero a b = inr (λ x l h. absurd (omega arith))
lacking (suc w) a b = go (lacking w a b) (has a w) refl (has b w) refl
  where
    more : (has b w ≡ true → has a w ≡ true) → ((x : ℕ) → x < w → has b x ≡ true → has a x ≡ true)
        → (x : ℕ) → x < suc w → has b x ≡ true → Dec (x ≡ w) → has a x ≡ true
    more f t x l h (yes i) = ap (has a) i ∙ f (sym (ap (has b) i) ∙ h)
    more f t x l h (no n) = t x (omega arith) h

    go : Lacks w a b → (u : Bool) → has a w ≡ u → (v : Bool) → has b w ≡ v → Lacks (suc w) a b
    go (inl t) u e v f = inl (t.0, (let i = t.1 in omega arith), t.2, t.3)
    go (inr t) false e true f = inl (w, (omega arith), e, f)
    go (inr t) true e v f = inr (λ x l h. more (λ k. e) t x l h (ℕ_discrete x w))
    go (inr t) false e false f = inr (λ x l h. more (λ k. clash k f) t x l h (ℕ_discrete x w))

-- at most one for each place
pub count_width : (w m : ℕ) → count w m ≤ w
unfolding count
count_width zero m = omega arith
count_width (suc w) m = let i = count_width w m in let j = bit_mono (has m w) true (λ e. refl) in omega arith

pub count_empty : (w : ℕ) → count w 0 ≡ 0
unfolding count
count_empty zero = refl
count_empty (suc w) = rw (has_empty w, count_empty w)

pub count_only : (w l : ℕ) → count w (only l) ≤ 1
unfolding count
count_only zero l = omega arith
count_only (suc w) l = go (count_only w l) (ℕ_discrete l w)
  where
    below : (w l : ℕ) → w ≤ l → count w (only l) ≡ 0
    below zero l h = refl
    below (suc w) l h = rw (has_only_other l w (λ e. omega arith)) (let i = below w l (omega arith) in omega arith)

    go : count w (only l) ≤ 1 → Dec (l ≡ w) → count (suc w) (only l) ≤ 1
    go i (yes e) = rw (e, has_only w, below w w (omega arith)) (omega arith)
    go i (no h) = rw (has_only_other l w h) (omega arith)

bit_or : (a b : Bool) → cond (a || b) 1 0 ≤ cond a 1 0 + cond b 1 0
bit_or true true = omega arith
bit_or true false = omega arith
bit_or false true = omega arith
bit_or false false = omega arith

pub count_union : (w a b : ℕ) → count w (a union b) ≤ count w a + count w b
unfolding count
count_union zero a b = omega arith
count_union (suc w) a b = rw (has_union a b w) (let i = count_union w a b in let j = bit_or (has a w) (has b w) in omega arith)

bit_apart : (a b c : Bool) → (a ≡ true → b ≡ false) → cond (a && c) 1 0 + cond (b && c) 1 0 ≤ cond ((a || b) && c) 1 0
bit_apart true true c f = clash refl (f refl)
bit_apart true false true f = omega arith
bit_apart true false false f = omega arith
bit_apart false b c f = omega arith

-- what two sets with no member in common have of c, their union has
pub count_apart : (w a b c : ℕ) → Apart a b → count w (a intersect c) + count w (b intersect c) ≤ count w ((a union b) intersect c)
unfolding count
count_apart zero a b c f = omega arith
count_apart (suc w) a b c f =
    rw (has_intersect a c w, has_intersect b c w, has_intersect (a union b) c w, has_union a b w)
    (let i = count_apart w a b c f in let j = bit_apart (has a w) (has b w) (has c w) (f w) in omega arith)

-- a set with a member below w
pub count_some : (w a l : ℕ) → l < w → has a l ≡ true → 1 ≤ count w a
count_some w a l i h = let j = count_more w 0 a l (λ x k. clash k (has_empty x)) i (has_empty l) h in let e = count_empty w in omega arith

-- a set of labels, of which 0 is none
pub count_labels : (a : ℕ) → has a 0 ≡ false → count 64 a ≤ 63
count_labels a z =
    let i = count_more 64 a (only 0 union a) 0 (in_right (only 0) a) (omega arith) z (in_left (only 0) a 0 (has_only 0)) in
    let j = count_width 64 (only 0 union a) in
    omega arith

-- where all members are below v, counting further finds no more
pub count_narrow : (m v d : ℕ) → ((x : ℕ) → has m x ≡ true → x < v) → count (d + v) m ≡ count v m
unfolding count
count_narrow m v zero h = let e : zero + v ≡ v = omega arith in ap (λ (w : ℕ). count w m) e
count_narrow m v (suc d) h =
    let e : suc d + v ≡ suc (d + v) = omega arith in
    let f : has m (d + v) ≡ false = not_true (has m (d + v)) (λ k. let l = h (d + v) k in omega arith) in
    let g : ◌≡◌ {A = ℕ} (cond (has m (d + v)) 1 0) 0 = ap (λ (z : Bool). cond {A = ℕ} z 1 0) f in
    let i : count (d + v) m + cond (has m (d + v)) 1 0 ≡ count v m = let k = count_narrow m v d h in omega arith in
    ap (λ (w : ℕ). count w m) e ∙ i

-- ---- as the ones among the lowest bits
one_bit : (b : ℕ) → (b ≡ 0) ⊎ (b ≡ 1) → ones b ≡ cond (eqb b 1) 1 0
unfolding ones ones_in
one_bit b (inl e) = ap (λ (z : ℕ). ones z) e ∙ sym (ap (λ (z : ℕ). cond {A = ℕ} (eqb z 1) 1 0) e)
one_bit b (inr e) = ap (λ (z : ℕ). ones z) e ∙ sym (ap (λ (z : ℕ). cond {A = ℕ} (eqb z 1) 1 0) e)

pub ones_count : (M S : ℕ) → ones (M % 2 ^ S) ≡ count S M
unfolding count ones ones_in
ones_count M zero = let e : M % 2 ^ zero ≡ 0 = omega arith in ap (λ (z : ℕ). ones z) e
ones_count M (suc S) =
    let e : suc S ≡ 1 + S = omega arith in
    let b : ℕ = M / 2 ^ S % 2 in
    let g : ones b ≡ cond (has M S) 1 0 = one_bit b (bit (M / 2 ^ S)) ∙ ap (λ (z : Bool). cond {A = ℕ} z 1 0) (sym (has_shift M S)) in
    let s : ones b + ones (M % 2 ^ S) ≡ count S M + cond (has M S) 1 0 = let h = ones_count M S in omega arith in
    ap (λ (z : ℕ). ones (M % 2 ^ z)) e ∙ ap ones (mod-pow-add M 1 S) ∙ ones_cat S b (M % 2 ^ S) (mod-lt M (pow_pos S)) ∙ s

pub count_ones : (w m : ℕ) → m < 2 ^ w → ones m ≡ count w m
count_ones w m h = ap ones (sym (mod-eq_of_lt h)) ∙ ones_count m w
