-- The order of rows is total, and sorting by it keeps the rows and gives a rising list.
use mathlib.Core.Path.{◌≡◌, refl, sym, ap, ◌∙◌, subst}
use mathlib.Core.Logic.{◌⊎◌, inl, inr}
use mathlib.Core.Bool.{Bool, true, false, cond, ◌&&◌, ◌||◌}
use mathlib.Core.List.{List, [], ◌∷◌}
use Prim.Native.Nat.{ℕ, ◌≤◌, ◌<◌}
use native.Mathlib.Omega.{arith}
use lib.Dec.{eqb, ltb}
use borrow.Author.Tests.{ltb-true, ltb-false}
use Rattle.sets.proofs.Booleans.{or_cases, or_neither, and_both, and_cases, not_true, clash, by_cond, eqb_equal, eqb_same}
use Rattle.esterel.specs.Listing.{Listed}
use Rattle.esterel.specs.inner.Rows.{Row}
use Rattle.esterel.specs.inner.CappedRows.{less_or, before_row, insert_row, sorted_rows}

-- ---- the order

abbrev pub LessOr : ℕ → ℕ → Type 0 → Type 0
LessOr a b R = (a < b) ⊎ ((a ≡ b) × R)

abbrev pub BeforeRow : Row → Row → Type 0
BeforeRow w v =
    LessOr w.reacts.emitted v.reacts.emitted (LessOr w.reacts.code v.reacts.code
    (LessOr w.when.on v.when.on (LessOr w.when.off v.when.off (w.reacts.reached < v.reacts.reached))))

-- each stands before all that follow it, so none stands there twice
abbrev pub RisingRows : List Row → Type 0
RisingRows [] = Unit {0}
RisingRows (w ∷ ws) = ((v : Row) → Listed v ws → BeforeRow w v) × RisingRows ws

less_yes : (a b : ℕ) {c : Bool} {R : Type 0} → (c ≡ true → R) → less_or a b c ≡ true → LessOr a b R
unfolding less_or
less_yes a b {c} {R} f h = go (or_cases (ltb a b) (eqb a b && c) h)
  where
    go : (ltb a b ≡ true) ⊎ ((eqb a b && c) ≡ true) → LessOr a b R
    go (inl e) = inl (ltb-true a b e)
    go (inr e) = let (i, j) = and_cases (eqb a b) c e in inr (eqb_equal a b i, f j)

-- where neither stands before the other, they are the same, and it is left to what follows
less_same : (a b : ℕ) {c d : Bool} → less_or a b c ≡ false → less_or b a d ≡ false → (a ≡ b) × (c ≡ false) × (d ≡ false)
unfolding less_or
less_same a b {c} {d} h k = (same, rest a b c same h, rest b a d (sym same) k)
  where
    no : (m n : ℕ) (e : Bool) → (ltb m n || e) ≡ false → n ≤ m
    no m n e l = ltb-false m n (or_neither (ltb m n) e l).0

    same : a ≡ b
    same = let i = no a b (eqb a b && c) h in let j = no b a (eqb b a && d) k in omega arith

    rest : (m n : ℕ) (e : Bool) → m ≡ n → (ltb m n || (eqb m n && e)) ≡ false → e ≡ false
    rest m n e p l =
        not_true e (λ t. clash (and_both (eqb m n) e (ap (λ (z : ℕ). eqb z n) p ∙ eqb_same n) t) (or_neither (ltb m n) (eqb m n && e) l).1)

less_trans : {a b c : ℕ} {P Q R : Type 0} → (P → Q → R) → LessOr a b P → LessOr b c Q → LessOr a c R
less_trans f (inl h) (inl k) = inl (omega arith)
less_trans f (inl h) (inr k) = inl (let i = k.0 in omega arith)
less_trans f (inr h) (inl k) = inl (let i = h.0 in omega arith)
less_trans f (inr h) (inr k) = inr (h.0 ∙ k.0, f h.1 k.1)

pub row_yes : (w v : Row) → before_row w v ≡ true → BeforeRow w v
unfolding before_row
row_yes w v h =
    less_yes w.reacts.emitted v.reacts.emitted (less_yes w.reacts.code v.reacts.code
    (less_yes w.when.on v.when.on (less_yes w.when.off v.when.off (ltb-true w.reacts.reached v.reacts.reached)))) h

pub row_same : (w v : Row) → before_row w v ≡ false → before_row v w ≡ false → w ≡ v
unfolding before_row
row_same w v a b =
    let (o, a1, b1) = less_same w.reacts.emitted v.reacts.emitted a b in
    let (k, a2, b2) = less_same w.reacts.code v.reacts.code a1 b1 in
    let (n, a3, b3) = less_same w.when.on v.when.on a2 b2 in
    let (f, a4, b4) = less_same w.when.off v.when.off a3 b3 in
    let i = ltb-false w.reacts.reached v.reacts.reached a4 in
    let j = ltb-false v.reacts.reached w.reacts.reached b4 in
    let l : w.reacts.reached ≡ v.reacts.reached = omega arith in
    λ z. record { when = record { on = n z; off = f z }; reacts = record { emitted = o z; code = k z; reached = l z } }

pub row_trans : (u v w : Row) → BeforeRow u v → BeforeRow v w → BeforeRow u w
row_trans u v w = less_trans (less_trans (less_trans (less_trans (λ h k. omega arith))))

-- ---- sorting

insert_out : (u w : Row) (vs : List Row) → Listed u (insert_row w vs) → (u ≡ w) ⊎ Listed u vs
unfolding insert_row
insert_out u w [] (inl e) = inl e
insert_out u w [] (inr x'') = elim x'' [ ]
insert_out u w (v ∷ vs) m =
    by_cond (λ z. Listed u z → (u ≡ w) ⊎ Listed u (v ∷ vs)) (before_row w v) (w ∷ v ∷ vs) (cond (before_row v w) (v ∷ insert_row w vs) (v ∷ vs))
    (λ e h. h)
    (λ e. by_cond (λ z. Listed u z → (u ≡ w) ⊎ Listed u (v ∷ vs)) (before_row v w) (v ∷ insert_row w vs) (v ∷ vs)
    (λ f h. second (λ k. insert_out u w vs k) h) (λ f h. inr h)) m
  where
    later : (u ≡ w) ⊎ Listed u vs → (u ≡ w) ⊎ Listed u (v ∷ vs)
    later (inl e) = inl e
    later (inr h) = inr (inr h)

    second : (Listed u (insert_row w vs) → (u ≡ w) ⊎ Listed u vs) → Listed u (v ∷ insert_row w vs) → (u ≡ w) ⊎ Listed u (v ∷ vs)
    second ih (inl e) = inr (inl e)
    second ih (inr h) = later (ih h)

insert_new : (w : Row) (vs : List Row) → Listed w (insert_row w vs)
unfolding insert_row
insert_new w [] = inl refl
insert_new w (v ∷ vs) =
    by_cond (Listed w) (before_row w v) (w ∷ v ∷ vs) (cond (before_row v w) (v ∷ insert_row w vs) (v ∷ vs))
    (λ e. inl refl)
    (λ e. by_cond (Listed w) (before_row v w) (v ∷ insert_row w vs) (v ∷ vs) (λ f. inr (insert_new w vs)) (λ f. inl (row_same w v e f)))

insert_old : (u w : Row) (vs : List Row) → Listed u vs → Listed u (insert_row w vs)
unfolding insert_row
insert_old u w (v ∷ vs) h =
    by_cond (Listed u) (before_row w v) (w ∷ v ∷ vs) (cond (before_row v w) (v ∷ insert_row w vs) (v ∷ vs))
    (λ e. inr h)
    (λ e. by_cond (Listed u) (before_row v w) (v ∷ insert_row w vs) (v ∷ vs) (λ f. go (λ k. insert_old u w vs k) h) (λ f. h))
  where
    go : (Listed u vs → Listed u (insert_row w vs)) → Listed u (v ∷ vs) → Listed u (v ∷ insert_row w vs)
    go ih (inl e) = inl e
    go ih (inr k) = inr (ih k)
insert_old u w [] h = elim h [ ]

pub insert_rising : (w : Row) (vs : List Row) → RisingRows vs → RisingRows (insert_row w vs)
unfolding insert_row
insert_rising w [] h = (λ u m. absurd m, tt)
insert_rising w (v ∷ vs) h =
    by_cond RisingRows (before_row w v) (w ∷ v ∷ vs) (cond (before_row v w) (v ∷ insert_row w vs) (v ∷ vs))
    (λ e. (λ u m. first (row_yes w v e) u m, h))
    (λ e. by_cond RisingRows (before_row v w) (v ∷ insert_row w vs) (v ∷ vs)
    (λ f. (λ u m. second (row_yes v w f) u (insert_out u w vs m), insert_rising w vs h.1)) (λ f. h))
  where
    first : BeforeRow w v → (u : Row) → Listed u (v ∷ vs) → BeforeRow w u
    first b u (inl e) = subst (BeforeRow w) (sym e) b
    first b u (inr m) = row_trans w v u b (h.0 u m)

    second : BeforeRow v w → (u : Row) → (u ≡ w) ⊎ Listed u vs → BeforeRow v u
    second b u (inl e) = subst (BeforeRow v) (sym e) b
    second b u (inr m) = h.0 u m

pub sorted_rows_out : (u : Row) (ws : List Row) → Listed u (sorted_rows ws) → Listed u ws
unfolding sorted_rows
sorted_rows_out u [] h = h
sorted_rows_out u (w ∷ ws) h = go (λ k. sorted_rows_out u ws k) (insert_out u w (sorted_rows ws) h)
  where
    go : (Listed u (sorted_rows ws) → Listed u ws) → (u ≡ w) ⊎ Listed u (sorted_rows ws) → Listed u (w ∷ ws)
    go ih (inl e) = inl e
    go ih (inr k) = inr (ih k)

pub sorted_rows_in : (u : Row) (ws : List Row) → Listed u ws → Listed u (sorted_rows ws)
unfolding sorted_rows
sorted_rows_in u (w ∷ ws) (inl e) = subst (λ z. Listed z (insert_row w (sorted_rows ws))) (sym e) (insert_new w (sorted_rows ws))
sorted_rows_in u (w ∷ ws) (inr h) = insert_old u w (sorted_rows ws) (sorted_rows_in u ws h)
sorted_rows_in u [] x' = elim x' [ ]

pub sorted_rows_rising : (ws : List Row) → RisingRows (sorted_rows ws)
unfolding sorted_rows
sorted_rows_rising [] = tt
sorted_rows_rising (w ∷ ws) = insert_rising w (sorted_rows ws) (sorted_rows_rising ws)
