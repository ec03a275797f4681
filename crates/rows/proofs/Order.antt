-- Lists of rows in order: such a list is determined by its members, and sorting gives one with the same members.
use mathlib.Core.Path.{◌≡◌, refl, sym, ap₂, ◌∙◌, subst}
use mathlib.Core.Logic.{◌⊎◌, inl, inr}
use mathlib.Core.Bool.{Bool, true, false, ◌&&◌}
use mathlib.Core.List.{List, [], ◌∷◌, ◌++◌}
use Prim.Native.Nat.{ℕ, suc, ◌≤◌}
use native.Mathlib.Omega.{arith}
use lib.Dec.{eqb, ltb}
use lib.ListN.{length}
use borrow.Author.Tests.{lt-ltb, eq-eqb}
use Rattle.sets.proofs.Booleans.{or_left, or_right, and_both, not_true}
use Rattle.esterel.specs.Listing.{Listed}
use Rattle.esterel.specs.inner.Rows.{Row}
use Rattle.esterel.specs.inner.CappedRows.{less_or, before_row, insert_row, sorted_rows}
use Rattle.esterel.proofs.Order.{append_left, append_right, append_cases}
use Rattle.esterel.proofs.RowOrder.{LessOr, BeforeRow, RisingRows, row_yes, row_trans, row_same, insert_rising, sorted_rows_out, sorted_rows_in, sorted_rows_rising}
use Rattle.rows.specs.inner.Area.{InOrder}

-- ---- the order, by its test
less_is : {R : Type 0} (a b : ℕ) (c : Bool) → (R → c ≡ true) → LessOr a b R → less_or a b c ≡ true
unfolding less_or
less_is a b c f (inl h) = or_left (eqb a b && c) (lt-ltb a b h)
less_is a b c f (inr (e, x)) = or_right (ltb a b) (and_both (eqb a b) c (eq-eqb a b e) (f x))

less_self : {R : Type 0} {a : ℕ} → (R → ⊥) → LessOr a a R → ⊥
less_self f (inl h) = omega arith
less_self f (inr (e, x)) = f x

row_is : (w v : Row) → BeforeRow w v → before_row w v ≡ true
unfolding before_row
row_is w v =
    less_is w.reacts.emitted v.reacts.emitted codes (less_is w.reacts.code v.reacts.code ons
    (less_is w.when.on v.when.on offs (less_is w.when.off v.when.off (ltb w.reacts.reached v.reacts.reached)
    (lt-ltb w.reacts.reached v.reacts.reached))))
  where
    offs : Bool
    offs = less_or w.when.off v.when.off (ltb w.reacts.reached v.reacts.reached)

    ons : Bool
    ons = less_or w.when.on v.when.on offs

    codes : Bool
    codes = less_or w.reacts.code v.reacts.code ons

pub row_self : (w : Row) → before_row w w ≡ true → ⊥
row_self w h = less_self (less_self (less_self (less_self (λ a. omega arith)))) (row_yes w w h)

pub before_trans : (u v w : Row) → before_row u v ≡ true → before_row v w ≡ true → before_row u w ≡ true
before_trans u v w h k = row_is u w (row_trans u v w (row_yes u v h) (row_yes v w k))

pub row_asym : (w v : Row) → before_row w v ≡ true → before_row v w ≡ false
row_asym w v h = not_true (before_row v w) (λ k. row_self w (before_trans w v w h k))

-- ---- lists in order
in_order : (ws : List Row) → RisingRows ws → InOrder ws
in_order [] h = tt
in_order (w ∷ ws) h = (λ v m. row_is w v (h.0 v m), in_order ws h.1)

rising : (ws : List Row) → InOrder ws → RisingRows ws
rising [] h = tt
rising (w ∷ ws) h = (λ v m. row_yes w v (h.0 v m), rising ws h.1)

pub insert_in_order : (w : Row) (vs : List Row) → InOrder vs → InOrder (insert_row w vs)
insert_in_order w vs h = in_order (insert_row w vs) (insert_rising w vs (rising vs h))

pub sorted_in_order : (ws : List Row) → InOrder (sorted_rows ws)
sorted_in_order ws = in_order (sorted_rows ws) (sorted_rows_rising ws)

-- ---- lists in order that go on with another
before_weak : (w u v : Row) → before_row w u ≡ true → before_row v u ≡ false → before_row w v ≡ true
before_weak w u v h k = go (before_row u v) refl
  where
    go : (b : Bool) → before_row u v ≡ b → before_row w v ≡ true
    go true e = before_trans w u v h e
    go false e = subst (λ z. before_row w z ≡ true) (row_same u v e k) h

before_all : (w v : Row) (vs : List Row) → before_row w v ≡ true → InOrder (v ∷ vs) → (r : Row) → Listed r (v ∷ vs) → before_row w r ≡ true
before_all w v vs h o r (inl e) = subst (λ z. before_row w z ≡ true) (sym e) h
before_all w v vs h o r (inr m) = before_trans w v r h (o.0 r m)

pub in_order_left : (ws vs : List Row) → InOrder (ws ++ vs) → InOrder ws
in_order_left [] vs h = tt
in_order_left (w ∷ ws) vs h = (λ v m. h.0 v (append_left v ws vs m), in_order_left ws vs h.1)

pub in_order_right : (ws vs : List Row) → InOrder (ws ++ vs) → InOrder vs
in_order_right [] vs h = h
in_order_right (w ∷ ws) vs h = in_order_right ws vs h.1

-- what goes on with u goes on with v, which is not below u
pub in_order_on : (ws us vs : List Row) (u v : Row) → InOrder (ws ++ (u ∷ us)) → InOrder (v ∷ vs) → before_row v u ≡ false → InOrder (ws ++ (v ∷ vs))
in_order_on [] us vs u v h o k = o
in_order_on (w ∷ ws) us vs u v h o k = (λ r m. go r (append_cases r ws (v ∷ vs) m), in_order_on ws us vs u v h.1 o k)
  where
    go : (r : Row) → Listed r ws ⊎ Listed r (v ∷ vs) → before_row w r ≡ true
    go r (inl m) = h.0 r (append_left r ws (u ∷ us) m)
    go r (inr m) = before_all w v vs (before_weak w u v (h.0 u (append_right u ws (u ∷ us) (inl refl))) k) o r m

pub in_order_between : (ws us vs : List Row) (u v : Row) → InOrder (ws ++ (u ∷ us)) → InOrder (v ∷ vs) → before_row u v ≡ true → InOrder (ws ++ (u ∷ v ∷ vs))
in_order_between ws us vs u v h o k = in_order_on ws us (v ∷ vs) u u h (before_all u v vs k o, o) (not_true (before_row u u) (row_self u))

-- two lists in order with the same members are the same
same_list : (ts us : List Row) → InOrder ts → InOrder us → ((r : Row) → Listed r ts → Listed r us) → ((r : Row) → Listed r us → Listed r ts) → ts ≡ us
same_list [] [] a b f g = refl
same_list [] (u ∷ us) a b f g = absurd (g u (inl refl))
same_list (t ∷ ts) [] a b f g = absurd (f t (inl refl))
same_list (t ∷ ts) (u ∷ us) a b f g =
    ap₂ ◌∷◌ head (same_list ts us a.1 b.1 (λ r m. tail_l r m (f r (inr m))) (λ r m. tail_r r m (g r (inr m))))
  where
    heads : Listed t (u ∷ us) → Listed u (t ∷ ts) → t ≡ u
    heads (inl e) k = e
    heads (inr m) (inl e) = sym e
    heads (inr m) (inr n) = absurd (row_self t (before_trans t u t (a.0 u n) (b.0 t m)))

    head : t ≡ u
    head = heads (f t (inl refl)) (g u (inl refl))

    tail_l : (r : Row) → Listed r ts → Listed r (u ∷ us) → Listed r us
    tail_l r m (inl e) = absurd (row_self r (subst (λ z. before_row z r ≡ true) (head ∙ sym e) (a.0 r m)))
    tail_l r m (inr k) = k

    tail_r : (r : Row) → Listed r us → Listed r (t ∷ ts) → Listed r ts
    tail_r r m (inl e) = absurd (row_self r (subst (λ z. before_row z r ≡ true) (sym head ∙ sym e) (b.0 r m)))
    tail_r r m (inr k) = k

-- sorting forgets how a list stood
pub sorted_same : (ts us : List Row) → ((r : Row) → Listed r ts → Listed r us) → ((r : Row) → Listed r us → Listed r ts) → sorted_rows ts ≡ sorted_rows us
sorted_same ts us f g =
    same_list (sorted_rows ts) (sorted_rows us) (sorted_in_order ts) (sorted_in_order us)
    (λ r m. sorted_rows_in r us (f r (sorted_rows_out r ts m))) (λ r m. sorted_rows_in r ts (g r (sorted_rows_out r us m)))

pub sorted_there : (ts : List Row) → InOrder ts → sorted_rows ts ≡ ts
sorted_there ts h = same_list (sorted_rows ts) ts (sorted_in_order ts) h (λ r m. sorted_rows_out r ts m) (λ r m. sorted_rows_in r ts m)

-- a list in order whose members are all in another is no longer than that
pub shorter : (us ts : List Row) → InOrder ts → InOrder us → ((r : Row) → Listed r ts → Listed r us) → length ts ≤ length us
shorter us [] a b f = omega arith
shorter [] (t ∷ ts) a b f = absurd (f t (inl refl))
shorter (u ∷ us) (t ∷ ts) a b f =
    go (λ g. shorter us ts a.1 b.1 g) (λ g. shorter us (t ∷ ts) a b.1 g) (f t (inl refl))
  where
    past : (r : Row) → before_row u r ≡ true → Listed r (u ∷ us) → Listed r us
    past r h (inl e) = absurd (row_self r (subst (λ z. before_row z r ≡ true) (sym e) h))
    past r h (inr m) = m

    go : (((r : Row) → Listed r ts → Listed r us) → length ts ≤ length us)
        → (((r : Row) → Listed r (t ∷ ts) → Listed r us) → suc (length ts) ≤ length us)
        → (t ≡ u) ⊎ Listed t us → suc (length ts) ≤ suc (length us)
    go same later (inl e) = let i = same (λ r m. past r (subst (λ z. before_row z r ≡ true) e (a.0 r m)) (f r (inr m))) in omega arith
    go same later (inr n) = let i = later all in omega arith
      where
        all : (r : Row) → Listed r (t ∷ ts) → Listed r us
        all r (inl e) = subst (λ z. Listed z us) (sym e) n
        all r (inr m) = past r (before_trans u t r (b.0 t n) (a.0 r m)) (f r (inr m))
