-- The slots of the members of M differ, so what a set F of signals is to a condition says of each member of M whether F has it.
use mathlib.Core.Path.{◌≡◌, refl, sym, ap, ◌∙◌, subst}
use mathlib.Core.Logic.{◌≢◌}
use mathlib.Core.Bool.{Bool, true, false, cond, ◌&&◌}
use Prim.Native.Nat.{ℕ, zero, suc, ◌+◌, ◌^◌, ◌≤◌, ◌<◌}
use native.Mathlib.Decide.{dec_lt}
use native.Mathlib.Omega.{arith}
use Rattle.sets.specs.Set.{has, only, ◌union◌, ◌without◌, Within, count}
use Rattle.sets.proofs.Booleans.{and_both, and_cases, not_true, clash, same_bool}
use Rattle.sets.proofs.Members.{has_empty, has_only, has_only_equal, has_without_other, within_ext, has_below, fits, past_width, either, in_left, in_right}
use Rattle.esterel.specs.inner.Conditions.{slot_of, seen_below, seen}
use Rattle.esterel.proofs.Unnamed.{SameBut}
use Rattle.esterel.proofs.Conditions.{other}

-- ---- slots

slot_mono : (M S T : ℕ) → S ≤ T → slot_of M S ≤ slot_of M T
unfolding count
slot_mono M S zero h = let e : S ≡ 0 = omega arith in let i : slot_of M S ≡ slot_of M 0 = ap (slot_of M) e in omega arith
slot_mono M S (suc T) h = go (dec_lt S (suc T)) (λ l. slot_mono M S T l)
  where
    go : Dec (S < suc T) → (S ≤ T → slot_of M S ≤ slot_of M T) → slot_of M S ≤ slot_of M (suc T)
    go (yes l) ih = let i = ih (omega arith) in omega arith
    go (no l) ih = let e : S ≡ suc T = omega arith in let i : slot_of M S ≡ slot_of M (suc T) = ap (slot_of M) e in omega arith

slot_rise : (M S T : ℕ) → has M S ≡ true → S < T → slot_of M S < slot_of M T
unfolding count
slot_rise M S T h l =
    let i = slot_mono M (suc S) T l in
    let j : slot_of M (suc S) ≡ slot_of M S + 1 = ap (λ b. slot_of M S + cond b 1 0) h in
    omega arith

pub slot_injective : (M S T : ℕ) → has M S ≡ true → has M T ≡ true → slot_of M S ≡ slot_of M T → S ≡ T
slot_injective M S T h k e = go (dec_lt S T) (dec_lt T S)
  where
    go : Dec (S < T) → Dec (T < S) → S ≡ T
    go (yes l) m = absurd (let i = slot_rise M S T h l in omega arith)
    go (no l) (yes m) = absurd (let i = slot_rise M T S k m in omega arith)
    go (no l) (no m) = omega arith

-- ---- the slots of a set

below_in : (M F S n : ℕ) → S < n → has M S ≡ true → has F S ≡ true → has (seen_below M F n) (slot_of M S) ≡ true
unfolding seen_below
below_in M F S zero l m f = absurd (omega arith)
below_in M F S (suc n) l m f = go (dec_lt S n) (λ k. below_in M F S n k m f)
  where
    at : ℕ → ℕ
    at z = cond (has M z && has F z) (only (slot_of M z)) 0

    go : Dec (S < n) → (S < n → has (seen_below M F n) (slot_of M S) ≡ true) → has (seen_below M F n union at n) (slot_of M S) ≡ true
    go (yes k) ih = in_left (seen_below M F n) (at n) (slot_of M S) (ih k)
    go (no k) ih =
        let e : S ≡ n = omega arith in
        in_right (seen_below M F n) (at n) (slot_of M S) (subst (λ (z : ℕ). has (at z) (slot_of M S) ≡ true) e
        (ap (λ b. has (cond b (only (slot_of M S)) 0) (slot_of M S)) (and_both (has M S) (has F S) m f) ∙ has_only (slot_of M S)))

below_out : (M F n s : ℕ) → has (seen_below M F n) s ≡ true → (S : ℕ) × (has M S ≡ true) × (has F S ≡ true) × (slot_of M S ≡ s)
unfolding seen_below
below_out M F zero s h = clash h (has_empty s)
below_out M F (suc n) s h =
    either (seen_below M F n) (cond (has M n && has F n) (only (slot_of M n)) 0) s h (λ k. below_out M F n s k) (λ k. last (has M n && has F n) refl k)
  where
    last : (b : Bool) → (has M n && has F n) ≡ b → has (cond b (only (slot_of M n)) 0) s ≡ true → (S : ℕ) × (has M S ≡ true) × (has F S ≡ true) × (slot_of M S ≡ s)
    last true e k = let (m, f) = and_cases (has M n) (has F n) e in (n, m, f, has_only_equal (slot_of M n) s k)
    last false e k = clash k (has_empty s)

-- each is the slot of a member
pub seen_slot : (M F s : ℕ) → has (seen M F) s ≡ true → (S : ℕ) × (has M S ≡ true) × (has F S ≡ true) × (slot_of M S ≡ s)
unfolding seen
seen_slot M F s h = below_out M F M s h

pub has_seen : (M F S : ℕ) → has M S ≡ true → has (seen M F) (slot_of M S) ≡ has F S
unfolding seen
has_seen M F S m =
    same_bool (has (seen M F) (slot_of M S)) (has F S)
    (λ h. let (T, t, f, e) = seen_slot M F (slot_of M S) h in subst (λ (z : ℕ). has F z ≡ true) (slot_injective M T S t m e) f)
    (λ f. below_in M F S M (has_below S M m) m f)

-- a slot of F, from its signal
at_slot : (M F S s : ℕ) → has M S ≡ true → slot_of M S ≡ s → has F S ≡ true → has (seen M F) s ≡ true
at_slot M F S s m e f = subst (λ (z : ℕ). has (seen M F) z ≡ true) e (has_seen M F S m ∙ f)

pub seen_empty : (M s : ℕ) → has (seen M 0) s ≡ false
seen_empty M s = not_true (has (seen M 0) s) (λ h. let (S, m, f, e) = seen_slot M 0 s h in clash f (has_empty S))

seen_within : (M F G : ℕ) → ((S : ℕ) → has M S ≡ true → has F S ≡ true → has G S ≡ true) → Within (seen M F) (seen M G)
seen_within M F G g s h = let (S, m, f, e) = seen_slot M F s h in at_slot M G S s m e (g S m f)

-- a signal that is not in M has no slot
pub seen_but : (M S F G : ℕ) → has M S ≡ false → SameBut S F G → seen M F ≡ seen M G
seen_but M S F G n s =
    within_ext (seen M F) (seen M G) (seen_within M F G (λ x m f. sym (s x (off x m)) ∙ f)) (seen_within M G F (λ x m g. s x (off x m) ∙ g))
  where
    off : (x : ℕ) → has M x ≡ true → S ≢ x
    off x m e = clash (ap (has M) e ∙ m) n

pub seen_added : (M F S : ℕ) → has M S ≡ true → seen M (F union only S) ≡ seen M F union only (slot_of M S)
seen_added M F S m = within_ext (seen M (F union only S)) (seen M F union only (slot_of M S)) there back
  where
    there : Within (seen M (F union only S)) (seen M F union only (slot_of M S))
    there s h =
        let (T, t, f, e) = seen_slot M (F union only S) s h in
        either F (only S) T f (λ k. in_left (seen M F) (only (slot_of M S)) s (at_slot M F T s t e k))
        (λ k. in_right (seen M F) (only (slot_of M S)) s
        (subst (λ (z : ℕ). has (only (slot_of M S)) z ≡ true) (ap (slot_of M) (has_only_equal S T k) ∙ e) (has_only (slot_of M S))))

    back : Within (seen M F union only (slot_of M S)) (seen M (F union only S))
    back s h =
        either (seen M F) (only (slot_of M S)) s h
        (λ k. let (T, t, f, e) = seen_slot M F s k in at_slot M (F union only S) T s t e (in_left F (only S) T f))
        (λ k. at_slot M (F union only S) S s m (has_only_equal (slot_of M S) s k) (in_right F (only S) S (has_only S)))

pub seen_removed : (M F S : ℕ) → has M S ≡ true → seen M (F without S) ≡ seen M F without slot_of M S
seen_removed M F S m = within_ext (seen M (F without S)) (seen M F without slot_of M S) there back
  where
    there : Within (seen M (F without S)) (seen M F without slot_of M S)
    there s h =
        let (T, t, f, e) = seen_slot M (F without S) s h in
        let (n, k) = other F S T f in
        has_without_other (seen M F) (slot_of M S) s (λ d. n (slot_injective M S T m t (d ∙ sym e))) ∙ at_slot M F T s t e k

    back : Within (seen M F without slot_of M S) (seen M (F without S))
    back s h =
        let (n, k) = other (seen M F) (slot_of M S) s h in
        let (T, t, f, e) = seen_slot M F s k in
        at_slot M (F without S) T s t e (has_without_other F S T (λ d. n (ap (slot_of M) d ∙ e)) ∙ f)

pub below : (n m x : ℕ) → m < 2 ^ n → has m x ≡ true → x < n
below n m x h k = go (dec_lt x n)
  where
    go : Dec (x < n) → x < n
    go (yes l) = l
    go (no l) = clash k (past_width n m x h (omega arith))

-- where M fits in a word of n bits, slots fit in one with a bit for each of its members
pub seen_fits : (n M F : ℕ) → M < 2 ^ n → seen M F < 2 ^ slot_of M n
seen_fits n M F h =
    fits (slot_of M n) (seen M F) (λ s k. let (S, m, f, e) = seen_slot M F s k in let i = slot_rise M S n m (below n M S h m) in omega arith)

-- ---- the numbers below n for which f says so
unfoldable pub those : (ℕ → Bool) → ℕ → ℕ
those f zero = 0
those f (suc n) = those f n union cond (f n) (only n) 0

those_in : (f : ℕ → Bool) (n x : ℕ) → x < n → f x ≡ true → has (those f n) x ≡ true
unfolding those
those_in f zero x l h = absurd (omega arith)
those_in f (suc n) x l h = go (dec_lt x n) (λ k. those_in f n x k h)
  where
    go : Dec (x < n) → (x < n → has (those f n) x ≡ true) → has (those f n union cond (f n) (only n) 0) x ≡ true
    go (yes k) ih = in_left (those f n) (cond (f n) (only n) 0) x (ih k)
    go (no k) ih =
        let e : x ≡ n = omega arith in
        in_right (those f n) (cond (f n) (only n) 0) x (subst (λ (z : ℕ). has (cond (f z) (only z) 0) x ≡ true) e
        (ap (λ b. has (cond b (only x) 0) x) h ∙ has_only x))

those_out : (f : ℕ → Bool) (n x : ℕ) → has (those f n) x ≡ true → f x ≡ true
unfolding those
those_out f zero x h = clash h (has_empty x)
those_out f (suc n) x h = either (those f n) (cond (f n) (only n) 0) x h (λ k. those_out f n x k) (λ k. last (f n) refl k)
  where
    last : (b : Bool) → f n ≡ b → has (cond b (only n) 0) x ≡ true → f x ≡ true
    last true e k = subst (λ (z : ℕ). f z ≡ true) (has_only_equal n x k) e
    last false e k = clash k (has_empty x)

pub has_those : (f : ℕ → Bool) (n x : ℕ) → x < n → has (those f n) x ≡ f x
has_those f n x l = same_bool (has (those f n) x) (f x) (those_out f n x) (those_in f n x l)
