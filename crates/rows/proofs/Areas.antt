-- Rows in an area: reading them by place, where one more belongs, and areas that have changed.
use Rattle.std.proofs.Common.{◌≡◌, refl, sym, ap, ◌∙◌, subst, inl, inr, true, List, [], ◌∷◌, ◌++◌, take, drop, length, get_or, set, ℕ, zero, suc, ◌+◌, ◌-◌, ◌≤◌, ◌<◌, arith, Result, Ok, Err}
use Rattle.std.specs.Ordering.{ordering_index}
use Rattle.std.specs.declared.cmp.Ordering.{Ordering}
use Rattle.std.specs.declared.cmp.Ordering.TheVariants.{Less, Equal, Greater}
use Rattle.std.specs.List.Sorted.{IsNonDecreasingBy, IsSearchInRange, IsBinarySearchResult}
use Rattle.std.proofs.Math.Seq.{paste, take-add, take-set-lt}
use Rattle.std.proofs.lemmas.List.{take-append-drop, map-append, length-map, length-take, length-drop, drop-take, get_or_default}
use Rattle.std.proofs.lemmas.List.Edits.{take-paste}
use native.Mathlib.Decide.{dec_lt}
use Rattle.esterel.specs.Listing.{Listed}
use Rattle.esterel.specs.inner.Rows.{Row}
use Rattle.esterel.specs.inner.CappedRows.{before_row, insert_row}
use Rattle.rows.specs.declared.row.Row.{Row as Packed}
use Rattle.rows.specs.inner.Layout.{unpacked}
use Rattle.rows.specs.inner.Area.{all_rows, rows, rows_from, InOrder, Searched}
use Rattle.rows.proofs.Order.{before_trans, row_asym, row_self}
use Rattle.rows.proofs.Words.{row_cmp, Compared, compared, compared_as}

-- ---- reading
pub drop_at : {X : Type 0} (a : List X) (i : ℕ) (d : X) → i < length a → drop i a ≡ get_or a i d ∷ drop (i + 1) a
drop_at [] i d h = absurd (omega arith)
drop_at (x ∷ a) zero d h = refl
drop_at (x ∷ a) (suc i) d h = let e : suc (i + 1) ≡ suc i + 1 = omega arith in drop_at a i d (omega arith) ∙ ap (λ (z : ℕ). get_or a i d ∷ drop z (x ∷ a)) e

pub rows_at : (a : List Packed) (i : ℕ) (d : Packed) → i < length a → all_rows (drop i a) ≡ unpacked (get_or a i d) ∷ all_rows (drop (i + 1) a)
rows_at a i d h = ap all_rows (drop_at a i d h)

pub all_split : (a : List Packed) (i : ℕ) → all_rows a ≡ all_rows (take i a) ++ all_rows (drop i a)
all_split a i = ap all_rows (sym (take-append-drop i a)) ∙ map-append unpacked (take i a) (drop i a)

pub all_at : (a : List Packed) (i : ℕ) (d : Packed) → i < length a → all_rows a ≡ all_rows (take i a) ++ (unpacked (get_or a i d) ∷ all_rows (drop (i + 1) a))
all_at a i d h = all_split a i ∙ ap (λ (z : List Row). all_rows (take i a) ++ z) (rows_at a i d h)

pub rows_length : (a : List Packed) (n : ℕ) → n ≤ length a → length (rows a n) ≡ n
rows_length a n h = length-map (take n a) unpacked ∙ length-take n a ∙ omega arith

pub listed_at : (a : List Packed) (i : ℕ) (d : Packed) → i < length a → Listed (unpacked (get_or a i d)) (all_rows a)
listed_at [] i d h = absurd (omega arith)
listed_at (x ∷ a) zero d h = inl refl
listed_at (x ∷ a) (suc i) d h = inr (listed_at a i d (omega arith))

-- the rows from the j-th on are read where an area agrees with another from there on
pub agree_at : (a b : List Packed) (j : ℕ) (d : Packed) → drop j a ≡ drop j b → j < length a → j < length b → get_or a j d ≡ get_or b j d
agree_at a b j d e h k = ap (λ (z : List Packed). get_or z 0 d) (sym (drop_at a j d h) ∙ e ∙ drop_at b j d k)

pub agree_next : (a b : List Packed) (j : ℕ) (d : Packed) → drop j a ≡ drop j b → j < length a → j < length b → drop (j + 1) a ≡ drop (j + 1) b
agree_next a b j d e h k = ap (drop 1) (sym (drop_at a j d h) ∙ e ∙ drop_at b j d k)

-- ---- order
pub rise_at : (a : List Packed) (i j : ℕ) (d : Packed) → InOrder (all_rows a) → i < j → j < length a → before_row (unpacked (get_or a i d)) (unpacked (get_or a j d)) ≡ true
rise_at [] i j d r h k = absurd (omega arith)
rise_at (x ∷ a) i zero d r h k = absurd (omega arith)
rise_at (x ∷ a) zero (suc j) d r h k = r.0 (unpacked (get_or a j d)) (listed_at a j d (omega arith))
rise_at (x ∷ a) (suc i) (suc j) d r h k = rise_at a i j d r.1 (omega arith) (omega arith)

index_rises : (x u v : Packed) → before_row (unpacked u) (unpacked v) ≡ true → ordering_index (row_cmp u x) ≤ ordering_index (row_cmp v x)
index_rises x u v h = go (row_cmp u x) (row_cmp v x) (compared u x) (compared v x)
  where
    go : (o p : Ordering) → Compared o u x → Compared p v x → ordering_index o ≤ ordering_index p
    go Less p e f = omega arith
    go Equal Less e f = absurd (row_self (unpacked x) (before_trans (unpacked x) (unpacked v) (unpacked x) (subst (λ (z : Packed). before_row (unpacked z) (unpacked v) ≡ true) e h) f))
    go Equal Equal e f = omega arith
    go Equal Greater e f = omega arith
    go Greater Less e f = absurd (row_self (unpacked x) (before_trans (unpacked x) (unpacked u) (unpacked x) e (before_trans (unpacked u) (unpacked v) (unpacked x) h f)))
    go Greater Equal e f = absurd (row_self (unpacked x) (before_trans (unpacked x) (unpacked u) (unpacked x) e (subst (λ (z : Packed). before_row (unpacked u) (unpacked z) ≡ true) f h)))
    go Greater Greater e f = omega arith

pub indices_rise : (x : Packed) (a : List Packed) → InOrder (all_rows a) → IsNonDecreasingBy (λ y. ordering_index (row_cmp y x)) a
indices_rise x a r i j d h k = go (dec_lt i j)
  where
    go : Dec (i < j) → ordering_index (row_cmp (get_or a i d) x) ≤ ordering_index (row_cmp (get_or a j d) x)
    go (yes l) = index_rises x (get_or a i d) (get_or a j d) (rise_at a i j d r l k)
    go (no l) = let e : i ≡ j = omega arith in subst (λ (z : ℕ). ordering_index (row_cmp (get_or a i d) x) ≤ ordering_index (row_cmp (get_or a z d) x)) e (omega arith)

-- ---- the place of one more
insert_here : (x y : Row) (ys : List Row) → before_row x y ≡ true → insert_row x (y ∷ ys) ≡ x ∷ y ∷ ys
unfolding insert_row
insert_here x y ys e = rw e

insert_pass : (x y : Row) (ys : List Row) → before_row y x ≡ true → insert_row x (y ∷ ys) ≡ y ∷ insert_row x ys
unfolding insert_row
insert_pass x y ys e = rw (row_asym y x e, e)

-- i of the rows stand before x, and the others behind it
pub insert_between : (x : Row) (a : List Packed) (i : ℕ) → i ≤ length a → ((k : ℕ) (d : Packed) → k < i → before_row (unpacked (get_or a k d)) x ≡ true)
    → ((k : ℕ) (d : Packed) → i ≤ k → k < length a → before_row x (unpacked (get_or a k d)) ≡ true) → insert_row x (all_rows a) ≡ all_rows (take i a) ++ (x ∷ all_rows (drop i a))
unfolding insert_row
insert_between x [] zero h f g = refl
insert_between x [] (suc i) h f g = absurd (omega arith)
insert_between x (y ∷ a) zero h f g = insert_here x (unpacked y) (all_rows a) (g zero y (omega arith) (omega arith))
insert_between x (y ∷ a) (suc i) h f g =
    insert_pass x (unpacked y) (all_rows a) (f zero y (omega arith))
    ∙ ap (λ (z : List Row). unpacked y ∷ z) (insert_between x a i (omega arith) (λ k d l. f (suc k) d (omega arith)) (λ k d l m. g (suc k) d (omega arith) (omega arith)))

-- all of them do
pub insert_behind : (x : Row) (a : List Packed) (e : Packed) → InOrder (all_rows a) → (0 < length a → before_row (unpacked (get_or a (length a - 1) e)) x ≡ true)
    → insert_row x (all_rows a) ≡ all_rows (take (length a) a) ++ (x ∷ all_rows (drop (length a) a))
insert_behind x a e r last = insert_between x a (length a) (omega arith) (λ k d h. go k d h (dec_lt k (length a - 1))) (λ k d h l. absurd (omega arith))
  where
    go : (k : ℕ) (d : Packed) → k < length a → Dec (k < length a - 1) → before_row (unpacked (get_or a k d)) x ≡ true
    go k d h (yes l) =
        before_trans (unpacked (get_or a k d)) (unpacked (get_or a (length a - 1) d)) x (rise_at a k (length a - 1) d r l (omega arith))
        (subst (λ (z : Packed). before_row (unpacked z) x ≡ true) (get_or_default a (length a - 1) e d (omega arith)) (last (omega arith)))
    go k d h (no l) =
        let f : length a - 1 ≡ k = omega arith in
        subst (λ (z : Packed). before_row (unpacked z) x ≡ true) (get_or_default a k e d h) (subst (λ (z : ℕ). before_row (unpacked (get_or a z e)) x ≡ true) f (last (omega arith)))

pub found_as : (x : Packed) (a : List Packed) (r : Result ℕ ℕ) → InOrder (all_rows a) → IsSearchInRange r (length a) → IsBinarySearchResult (λ y. row_cmp y x) a r → Searched a (unpacked x) r
found_as x a (Ok i) o b p =
    let e : get_or a i x ≡ x = compared_as Equal (get_or a i x) x (p x) in
    (b, all_at a i x b ∙ ap (λ (z : Packed). all_rows (take i a) ++ (unpacked z ∷ all_rows (drop (i + 1) a))) e)
found_as x a (Err i) o b p =
    let q = p (indices_rise x a o) in
    (b, insert_between (unpacked x) a i b (λ k d h. compared_as Less (get_or a k d) x (q.0 k d (omega arith) h)) (λ k d h l. compared_as Greater (get_or a k d) x (q.1 k d h l)))

-- ---- areas that have changed
pub take_take : {X : Type 0} (p n : ℕ) (a : List X) → p ≤ n → take p (take n a) ≡ take p a
take_take zero n a h = refl
take_take (suc p) zero a h = absurd (omega arith)
take_take (suc p) (suc n) [] h = refl
take_take (suc p) (suc n) (x ∷ a) h = ap (λ (z : List _). x ∷ z) (take_take p n a (omega arith))

take_front : {X : Type 0} (a b : List X) → take (length a) (a ++ b) ≡ a
take_front [] b = refl
take_front (x ∷ a) b = ap (λ (z : List _). x ∷ z) (take_front a b)

pub drop_front : {X : Type 0} (a b : List X) (n : ℕ) → n ≡ length a → drop n (a ++ b) ≡ b
drop_front a b n e = ap (λ (z : ℕ). drop z (a ++ b)) e ∙ go a
  where
    go : (a : List _) → drop (length a) (a ++ b) ≡ b
    go [] = refl
    go (x ∷ a) = go a

pub rows_part : (a : List Packed) (k n : ℕ) → n ≤ k → rows (take k a) n ≡ rows a n
rows_part a k n h = ap all_rows (take_take n k a h)

pub rows_front : (a b : List Packed) (n : ℕ) → n ≤ length a → rows (a ++ b) n ≡ rows a n
rows_front a b n h = ap all_rows (sym (take_take n (length a) (a ++ b) h) ∙ ap (take n) (take_front a b))

pub rows_both : (a : List Packed) (m n : ℕ) → rows a (m + n) ≡ rows a m ++ rows_from a m n
rows_both a m n = ap all_rows (take-add m n a) ∙ map-append unpacked (take m a) (take n (drop m a))

-- one row more at the end
seam : {X : Type 0} (a ys : List X) (p : ℕ) (x : X) → p < length a → set (take (suc p) a ++ ys) p x ≡ take p a ++ (x ∷ ys)
seam [] ys p x h = absurd (omega arith)
seam (y ∷ a) ys zero x h = refl
seam (y ∷ a) ys (suc p) x h = ap (λ (z : List _). y ∷ z) (seam a ys p x (omega arith))

-- the n rows in front opened at p for x
pub opened : (a : List Packed) (n p : ℕ) (x : Packed) → p ≤ n → n < length a
    → rows (set (paste a (p + 1) (drop p a) (n - p)) p x) (n + 1) ≡ all_rows (take p (take n a)) ++ (unpacked x ∷ all_rows (drop p (take n a)))
opened a n p x h k =
    let m : ℕ = n - p in
    let e : n + 1 ≡ p + 1 + m = omega arith in
    let f : p + m ≡ n = omega arith in
    let g : p + 1 ≡ suc p = omega arith in
    let l = length-drop p a in
    let t : take (n + 1) (set (paste a (p + 1) (drop p a) m) p x) ≡ take p a ++ (x ∷ take m (drop p a)) =
    ap (λ (z : ℕ). take z (set (paste a (p + 1) (drop p a) m) p x)) e ∙ take-set-lt (p + 1 + m) (paste a (p + 1) (drop p a) m) p x (omega arith)
    ∙ ap (λ (z : List Packed). set z p x) (take-paste a (p + 1) (drop p a) m (omega arith) (omega arith) ∙ ap (λ (z : ℕ). take z a ++ take m (drop p a)) g)
    ∙ seam a (take m (drop p a)) p x (omega arith) in
    ap all_rows t ∙ map-append unpacked (take p a) (x ∷ take m (drop p a))
    ∙ ap (λ (z : List Packed). all_rows z ++ (unpacked x ∷ all_rows (take m (drop p a)))) (sym (take_take p n a h))
    ∙ ap (λ (z : List Packed). all_rows (take p (take n a)) ++ (unpacked x ∷ all_rows z)) (sym (drop-take p m a) ∙ ap (λ (z : ℕ). drop p (take z a)) f)
