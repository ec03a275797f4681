-- Rows of two words: their order, and the parts of which they are put together.
use Rattle.std.proofs.Common.{◌≡◌, refl, sym, ap, ◌∙◌, subst, ◌≢◌, Bool, true, cond, ◌&&◌, max, ℕ, ◌+◌, ◌*◌, ◌/◌, ◌%◌, ◌^◌, ◌<◌, arith, ltb, eqb, Some}
use Rattle.std.specs.declared.cmp.Ordering.{Ordering}
use Rattle.std.specs.declared.cmp.Ordering.TheVariants.{Less, Equal, Greater}
use Rattle.std.specs.Ordering.{ordering_then, partial_ordering_then, nat_cmp, is_lt, is_some_and}
use Rattle.std.specs.Cmp.{nat_cmp_is}
use native.Mathlib.Decide.{dec_lt}
use lib.Bits.{bit_or, bit_and, or_shr, or_mod}
use borrow.Author.Tests.{lt-ltb, le-ltb, eq-eqb}
use Rattle.sets.specs.Set.{only, ◌union◌, ◌intersect◌, ◌minus◌, ◌without◌}
use Rattle.sets.proofs.Booleans.{eqb_differ, not_true}
use Rattle.sets.proofs.Members.{only_fits}
use Rattle.sets.proofs.Words.{only_below, minus_below}
use Rattle.esterel.specs.Listing.{reaction}
use Rattle.esterel.specs.inner.Conditions.{Condition, condition, always, holds, both, forget}
use Rattle.esterel.specs.inner.Rows.{row_when}
use Rattle.esterel.specs.inner.CappedRows.{less_or, before_row}
use Rattle.esterel.specs.declared.Code.{Code}
use Rattle.rows.specs.declared.row.Row.{Row as Packed}
use Rattle.rows.specs.inner.Layout.{condition_in, unpacked_words, unpacked}
use Rattle.rows.proofs.Order.{row_asym, row_self}

-- ---- the order
less_first : (a b : ℕ) (c : Bool) → a < b → less_or a b c ≡ true
unfolding less_or
less_first a b c h = rw (lt-ltb a b h)

less_next : (a b : ℕ) (c : Bool) → a ≡ b → less_or a b c ≡ c
unfolding less_or
less_next a b c e = rw (le-ltb a b (omega arith), eq-eqb a b e)

abbrev offs : ℕ → ℕ → Bool → Bool
offs w v c = less_or (w % 2 ^ 12) (v % 2 ^ 12) c

abbrev ons : ℕ → ℕ → Bool → Bool
ons w v c = less_or (w / 2 ^ 12 % 2 ^ 12) (v / 2 ^ 12 % 2 ^ 12) (offs w v c)

abbrev codes : ℕ → ℕ → Bool → Bool
codes w v c = less_or (w / 2 ^ 24 % 256) (v / 2 ^ 24 % 256) (ons w v c)

offs_less : (w v : ℕ) (c : Bool) → w < v → w / 2 ^ 12 ≡ v / 2 ^ 12 → offs w v c ≡ true
offs_less w v c h e = less_first (w % 2 ^ 12) (v % 2 ^ 12) c (omega arith)

ons_less : (w v : ℕ) (c : Bool) → w < v → w / 2 ^ 24 ≡ v / 2 ^ 24 → ons w v c ≡ true
ons_less w v c h e = go (dec_lt (w / 2 ^ 12 % 2 ^ 12) (v / 2 ^ 12 % 2 ^ 12))
  where
    go : Dec (w / 2 ^ 12 % 2 ^ 12 < v / 2 ^ 12 % 2 ^ 12) → ons w v c ≡ true
    go (yes k) = less_first (w / 2 ^ 12 % 2 ^ 12) (v / 2 ^ 12 % 2 ^ 12) (offs w v c) k
    go (no k) = less_next (w / 2 ^ 12 % 2 ^ 12) (v / 2 ^ 12 % 2 ^ 12) (offs w v c) (omega arith) ∙ offs_less w v c h (omega arith)

codes_less : (w v : ℕ) (c : Bool) → w < v → w / 2 ^ 32 ≡ v / 2 ^ 32 → codes w v c ≡ true
codes_less w v c h e = go (dec_lt (w / 2 ^ 24 % 256) (v / 2 ^ 24 % 256))
  where
    go : Dec (w / 2 ^ 24 % 256 < v / 2 ^ 24 % 256) → codes w v c ≡ true
    go (yes k) = less_first (w / 2 ^ 24 % 256) (v / 2 ^ 24 % 256) (ons w v c) k
    go (no k) = less_next (w / 2 ^ 24 % 256) (v / 2 ^ 24 % 256) (ons w v c) (omega arith) ∙ ons_less w v c h (omega arith)

first_less : (w l v m : ℕ) → w < v → before_row (unpacked_words w l) (unpacked_words v m) ≡ true
unfolding before_row unpacked_words
first_less w l v m h = go (dec_lt (w / 2 ^ 32) (v / 2 ^ 32))
  where
    go : Dec (w / 2 ^ 32 < v / 2 ^ 32) → less_or (w / 2 ^ 32) (v / 2 ^ 32) (codes w v (ltb l m)) ≡ true
    go (yes k) = less_first (w / 2 ^ 32) (v / 2 ^ 32) (codes w v (ltb l m)) k
    go (no k) = less_next (w / 2 ^ 32) (v / 2 ^ 32) (codes w v (ltb l m)) (omega arith) ∙ codes_less w v (ltb l m) h (omega arith)

second_less : (w l v m : ℕ) → w ≡ v → l < m → before_row (unpacked_words w l) (unpacked_words v m) ≡ true
unfolding before_row unpacked_words
second_less w l v m e h =
    less_next (w / 2 ^ 32) (v / 2 ^ 32) (codes w v (ltb l m)) (ap (λ (z : ℕ). z / 2 ^ 32) e)
    ∙ less_next (w / 2 ^ 24 % 256) (v / 2 ^ 24 % 256) (ons w v (ltb l m)) (ap (λ (z : ℕ). z / 2 ^ 24 % 256) e)
    ∙ less_next (w / 2 ^ 12 % 2 ^ 12) (v / 2 ^ 12 % 2 ^ 12) (offs w v (ltb l m)) (ap (λ (z : ℕ). z / 2 ^ 12 % 2 ^ 12) e)
    ∙ less_next (w % 2 ^ 12) (v % 2 ^ 12) (ltb l m) (ap (λ (z : ℕ). z % 2 ^ 12) e)
    ∙ lt-ltb l m h

-- what a comparison of two rows of the code says of the rows
abbrev pub row_cmp : Packed → Packed → Ordering
row_cmp a b = ordering_then (nat_cmp a.word b.word) (nat_cmp a.labels b.labels)

abbrev pub Compared : Ordering → Packed → Packed → Type 0
Compared Less a b = before_row (unpacked a) (unpacked b) ≡ true
Compared Equal a b = a ≡ b
Compared Greater a b = before_row (unpacked b) (unpacked a) ≡ true

cmp_less : (x y : ℕ) → x < y → nat_cmp x y ≡ Less
cmp_less x y h = sym (nat_cmp_is x y Less h)

cmp_equal : (x y : ℕ) → x ≡ y → nat_cmp x y ≡ Equal
cmp_equal x y h = sym (nat_cmp_is x y Equal h)

cmp_greater : (x y : ℕ) → y < x → nat_cmp x y ≡ Greater
cmp_greater x y h = sym (nat_cmp_is x y Greater h)

-- the larger of two codes
pub larger_code : (a b : Code) → (cond (is_lt (nat_cmp b.0 a.0)) a b).0 ≡ max a.0 b.0
larger_code a b = go (dec_lt b.0 a.0) (dec_lt a.0 b.0)
  where
    go : Dec (b.0 < a.0) → Dec (a.0 < b.0) → (cond (is_lt (nat_cmp b.0 a.0)) a b).0 ≡ max a.0 b.0
    go (yes h) k = rw (cmp_less b.0 a.0 h) (omega arith)
    go (no h) (yes k) = rw (cmp_greater b.0 a.0 k) (omega arith)
    go (no h) (no k) = let e : b.0 ≡ a.0 = omega arith in rw (cmp_equal b.0 a.0 e) (omega arith)

pub compared : (a b : Packed) → Compared (row_cmp a b) a b
unfolding unpacked
compared a b = go (dec_lt a.word b.word) (dec_lt b.word a.word) (dec_lt a.labels b.labels) (dec_lt b.labels a.labels)
  where
    go : Dec (a.word < b.word) → Dec (b.word < a.word) → Dec (a.labels < b.labels) → Dec (b.labels < a.labels) → Compared (row_cmp a b) a b
    go (yes h) k m n = rw (cmp_less a.word b.word h) (first_less a.word a.labels b.word b.labels h)
    go (no h) (yes k) m n = rw (cmp_greater a.word b.word k) (first_less b.word b.labels a.word a.labels k)
    go (no h) (no k) (yes m) n =
        let e : a.word ≡ b.word = omega arith in
        rw (cmp_equal a.word b.word e, cmp_less a.labels b.labels m) (second_less a.word a.labels b.word b.labels e m)
    go (no h) (no k) (no m) (yes n) =
        let e : a.word ≡ b.word = omega arith in
        rw (cmp_equal a.word b.word e, cmp_greater a.labels b.labels n) (second_less b.word b.labels a.word a.labels (sym e) n)
    go (no h) (no k) (no m) (no n) =
        let e : a.word ≡ b.word = omega arith in
        let f : a.labels ≡ b.labels = omega arith in
        rw (cmp_equal a.word b.word e, cmp_equal a.labels b.labels f) (λ i. record { word = e i; labels = f i })

pub compared_as : (o : Ordering) (a b : Packed) → row_cmp a b ≡ o → Compared o a b
compared_as o a b e = subst (λ (p : Ordering). Compared p a b) e (compared a b)

partial_both : (o p : Ordering) → partial_ordering_then (Some o) (Some p) ≡ Some (ordering_then o p)
partial_both Less p = refl
partial_both Equal p = refl
partial_both Greater p = refl

pub lt_before : (a b : Packed) → is_some_and is_lt (partial_ordering_then (Some (nat_cmp a.word b.word)) (Some (nat_cmp a.labels b.labels))) ≡ before_row (unpacked a) (unpacked b)
lt_before a b = ap (is_some_and is_lt) (partial_both (nat_cmp a.word b.word) (nat_cmp a.labels b.labels)) ∙ go (row_cmp a b) (compared a b)
  where
    go : (o : Ordering) → Compared o a b → is_lt o ≡ before_row (unpacked a) (unpacked b)
    go Less h = sym h
    go Equal h = sym (ap (λ (r : Packed). before_row (unpacked a) (unpacked r)) (sym h) ∙ not_true (before_row (unpacked a) (unpacked a)) (row_self (unpacked a)))
    go Greater h = sym (row_asym (unpacked b) (unpacked a) h)

-- ---- a row put together
pub put_together : (o k d l : ℕ) (c : Condition) → k < 256 → d < 2 ^ 24 → condition_in d ≡ c → unpacked_words ((o * 256 + k) * 2 ^ 24 + d) l ≡ row_when c (reaction o k l)
unfolding unpacked_words
put_together o k d l c b h is =
    let x : ℕ = (o * 256 + k) * 2 ^ 24 + d in
    let e : x / 2 ^ 32 ≡ o = omega arith in
    let g : x / 2 ^ 24 % 256 ≡ k = omega arith in
    let i : x / 2 ^ 12 % 2 ^ 12 ≡ d / 2 ^ 12 % 2 ^ 12 = omega arith in
    let j : x % 2 ^ 12 ≡ d % 2 ^ 12 = omega arith in
    ap (λ (z : Condition). row_when z (reaction (x / 2 ^ 32) (x / 2 ^ 24 % 256) l)) ((λ n. condition (i n) (j n)) ∙ is) ∙ (λ n. row_when c (reaction (e n) (g n) l))

pub row_equal : {c d : Condition} {o p k m l n : ℕ} → c ≡ d → o ≡ p → k ≡ m → l ≡ n → row_when c (reaction o k l) ≡ row_when d (reaction p m n)
row_equal c o k l = λ i. row_when (c i) (reaction (o i) (k i) (l i))

-- ---- conditions
pub condition_both : (w v : ℕ) → condition_in (bit_or w v) ≡ both (condition_in w) (condition_in v)
unfolding both ◌union◌
condition_both w v =
    let i : bit_or w v / 2 ^ 12 % 2 ^ 12 ≡ bit_or (w / 2 ^ 12 % 2 ^ 12) (v / 2 ^ 12 % 2 ^ 12) =
    ap (λ (z : ℕ). z % 2 ^ 12) (or_shr w v 12) ∙ or_mod (w / 2 ^ 12) (v / 2 ^ 12) 12 in
    λ n. condition (i n) (or_mod w v 12 n)

pub condition_zero : condition_in 0 ≡ always
unfolding always
condition_zero = refl

-- a set of slots meets a condition
pub not_met : (c : Condition) (F on out : ℕ) → on ≡ c.on → out ≡ on minus F → out ≢ 0 → eqb out 0 ≡ holds c F
unfolding holds
not_met c F on out e f h = eqb_differ out 0 h ∙ sym (ap (λ (b : Bool). b && eqb (c.off intersect F) 0) (ap (λ (z : ℕ). eqb z 0) (ap (λ (z : ℕ). z minus F) (sym e) ∙ sym f) ∙ eqb_differ out 0 h))

pub is_met : (c : Condition) (F on out off : ℕ) → on ≡ c.on → out ≡ on minus F → out ≡ 0 → off ≡ c.off → eqb (bit_and off F) 0 ≡ holds c F
unfolding holds ◌intersect◌
is_met c F on out off e f h g =
    ap (λ (z : ℕ). eqb (bit_and z F) 0) g
    ∙ sym (ap (λ (b : Bool). b && eqb (bit_and c.off F) 0) (ap (λ (z : ℕ). eqb z 0) (ap (λ (z : ℕ). z minus F) (sym e) ∙ sym f) ∙ eq-eqb out 0 h))

-- slots
module _ (s r : ℕ) (h : s < 12) (e : r ≡ only s % 2 ^ 64) where
  pub slot_word : r ≡ only s
  slot_word = e ∙ only_fits 64 s (omega arith)

  pub slot_below : r < 2 ^ 12
  slot_below = let b = only_below 12 s h in let f = slot_word in omega arith

pub without_below : (k a s r : ℕ) → a < 2 ^ k → r ≡ a without s → r < 2 ^ k
without_below k a s r h e = let m = minus_below k a (only s) h in subst (λ (z : ℕ). z < 2 ^ k) (sym e) m

pub forget_parts : (c : Condition) (s on off a b : ℕ) → on ≡ c.on → a ≡ on without s → off ≡ c.off → b ≡ off without s → condition a b ≡ forget s c
unfolding forget
forget_parts c s on off a b h k i j =
    let p : a ≡ c.on without s = k ∙ ap (λ (z : ℕ). z without s) h in
    let q : b ≡ c.off without s = j ∙ ap (λ (z : ℕ). z without s) i in
    λ x. condition (p x) (q x)

-- what the conditions of the code are shown by
pub ruleset condition_laws = (slot_word, slot_below, forget_parts, condition_zero, condition_both, is_met, not_met)
