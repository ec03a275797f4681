-- Lists that are being filled: the rows still to be put in, and those that are, sort to the list that is wanted.
use Rattle.std.proofs.Common.{◌≡◌, refl, sym, ap, ◌∙◌, subst, List, [], ◌∷◌, ◌++◌, Result, Ok, Err, take, drop, length, get_or, ℕ, ◌+◌, ◌≤◌, ◌<◌, arith}
use mathlib.Core.Option.{none, some, none-ne-some, some-injective}
use native.Mathlib.Decide.{dec_le}
use Rattle.std.proofs.Math.ListN.{drop_of_length-le}
use Rattle.std.proofs.lemmas.List.{append-nil, length-append, length-take}
use Rattle.esterel.specs.inner.Rows.{Row, each_row}
use Rattle.esterel.specs.inner.CappedRows.{sorted_rows, cap_rows, collect_rows}
use Rattle.esterel.proofs.Order.{append_right}
use Rattle.rows.specs.declared.row.Row.{Row as Packed}
use Rattle.rows.specs.declared.lists.Unlisted.{Unlisted}
use Rattle.rows.specs.inner.Layout.{unpacked}
use Rattle.rows.specs.inner.Area.{all_rows, rows, InOrder, Standing, Put}
use Rattle.rows.proofs.Order.{sorted_there}
use Rattle.rows.proofs.Members.{Same, same, same_as, same_sym, same_trans, same_append, same_swap, same_assoc, same_sorted, sorted_equal, sorted_length, cap_some, cap_none}
use Rattle.rows.proofs.Areas.{rows_at, rows_length, rows_part, rows_front, drop_front, agree_at, agree_next}

-- the rows that stand in front, by the list that was collected
collected : {a : List Packed} {n : ℕ} (raw : List Row) → Standing a (collect_rows raw) n → rows a n ≡ sorted_rows raw
unfolding collect_rows
collected {a} {n} raw s = go (dec_le (length (sorted_rows raw)) 64)
  where
    go : Dec (length (sorted_rows raw) ≤ 64) → rows a n ≡ sorted_rows raw
    go (yes k) = some-injective _ _ (sym s.listed ∙ cap_some (sorted_rows raw) k)
    go (no k) = absurd (none-ne-some _ (sym (cap_none (sorted_rows raw) (omega arith)) ∙ s.listed))

collected_over : (raw : List Row) → collect_rows raw ≡ none → 64 < length (sorted_rows raw)
unfolding collect_rows
collected_over raw e = go (dec_le (length (sorted_rows raw)) 64)
  where
    go : Dec (length (sorted_rows raw) ≤ 64) → 64 < length (sorted_rows raw)
    go (yes k) = absurd (none-ne-some _ (sym e ∙ cap_some (sorted_rows raw) k))
    go (no k) = omega arith

-- n rows are in; `todo` is still to be put in, and `goal` comes of it
pub record Filling (a : List Packed) (n : ℕ) (todo goal : List Row) : Type 0 where
  pub small : n ≤ 64
  pub fits : n ≤ length a
  pub rising : InOrder (rows a n)
  pub sum : Same (todo ++ rows a n) goal

pub filling_start : (a : List Packed) (n : ℕ) (todo goal : List Row) → n ≤ 64 → n ≤ length a → InOrder (rows a n) → todo ++ rows a n ≡ goal → Filling a n todo goal
filling_start a n todo goal h k r e = record { small = h; fits = k; rising = r; sum = same_as e }

pub filling_empty : (a : List Packed) (todo : List Row) → Filling a 0 todo todo
filling_empty a todo = filling_start a 0 todo todo (omega arith) (omega arith) tt (append-nil todo)

-- the next row of what was to be put in goes
pub filling_skip : {a : List Packed} {n : ℕ} {goal : List Row} (rest todo : List Row) → Filling a n todo goal → todo ≡ rest → Filling a n rest goal
filling_skip {a} {n} {goal} rest todo f e = subst (λ (z : List Row). Filling a n z goal) e f

-- some rows are put in
module _ {a : List Packed} {n : ℕ} {goal : List Row} (xs rest todo : List Row) (f : Filling a n todo goal) (e : todo ≡ xs ++ rest) where
  left : Same (rest ++ (xs ++ rows a n)) goal
  left =
      same_trans (same_sym (same_assoc rest xs (rows a n)))
      (same_trans (same_append (rest ++ xs) todo (rows a n) (rows a n) (same_trans (same_swap rest xs) (same_as (sym e))) (same (rows a n))) f.sum)

  pub filling_step : {b : List Packed} {m : ℕ} → Standing b (collect_rows (xs ++ rows a n)) m → Filling b m rest goal
  filling_step {b} {m} s = record {
    small = s.small;
    fits = s.fits;
    rising = s.rising;
    sum = same_trans (same_append rest rest (rows b m) (xs ++ rows a n) (same rest) (same_trans (same_as (collected (xs ++ rows a n) s)) (same_sorted (xs ++ rows a n)))) left;
  }

  pub filling_over : collect_rows (xs ++ rows a n) ≡ none → collect_rows goal ≡ none
  unfolding collect_rows
  filling_over h =
      let long = collected_over (xs ++ rows a n) h in
      let more = sorted_length (xs ++ rows a n) goal (λ u i. left.to u (append_right u rest (xs ++ rows a n) i)) in
      cap_none (sorted_rows goal) (omega arith)

pub filling_end : {a : List Packed} {n : ℕ} {goal : List Row} (todo : List Row) → Filling a n todo goal → todo ≡ [] → Standing a (collect_rows goal) n
unfolding collect_rows
filling_end {a} {n} {goal} todo f e =
    let all : sorted_rows goal ≡ rows a n =
    sym (sorted_equal (same_trans (same_as (sym (ap (λ (z : List Row). z ++ rows a n) e))) f.sum)) ∙ sorted_there (rows a n) f.rising in
    let s = f.small in
    let k = f.fits in
    let l = rows_length a n k in
    record { small = s; fits = k; listed = ap cap_rows all ∙ cap_some (rows a n) (omega arith); rising = f.rising }

-- ---- what a list of the code still gives, from its j-th row on
module _ (a : List Packed) (f : Row → List Row) where
  abbrev pub still : ℕ → List Row
  still j = each_row (all_rows (drop j a)) f

  pub still_next : (j : ℕ) (d : Packed) (xs : List Row) → j < length a → xs ≡ f (unpacked (get_or a j d)) → still j ≡ xs ++ still (j + 1)
  unfolding each_row
  still_next j d xs h e = ap (λ (z : List Row). each_row z f) (rows_at a j d h) ∙ ap (λ (z : List Row). z ++ still (j + 1)) (sym e)

  pub still_done : (j : ℕ) → length a ≤ j → still j ≡ []
  unfolding each_row
  still_done j h = ap (λ (z : List Packed). each_row (all_rows z) f) (drop_of_length-le a h)

  -- the next row gives what was put among the n
  module _ {b : List Packed} {n : ℕ} {goal : List Row} (j : ℕ) (t : Filling b n (still j) goal) (d : Packed) (h : j < length a) where
    gives : still j ≡ f (unpacked (get_or a j d)) ++ still (j + 1)
    gives = still_next j d (f (unpacked (get_or a j d))) h refl

    pub row_in : {c : List Packed} {m : ℕ} → Standing c (collect_rows (f (unpacked (get_or a j d)) ++ rows b n)) m → Filling c m (still (j + 1)) goal
    row_in s = filling_step (f (unpacked (get_or a j d))) (still (j + 1)) (still j) t gives s

    pub row_over : collect_rows (f (unpacked (get_or a j d)) ++ rows b n) ≡ none → collect_rows goal ≡ none
    row_over e = filling_over (f (unpacked (get_or a j d))) (still (j + 1)) (still j) t gives e

-- ---- a put into the front of an area, whose rest stays
pub put_part : (a b : List Packed) (k n : ℕ) (w : Row) (r : Result ℕ Unlisted) → n ≤ k → k ≤ length a → length b ≡ k → Put (take k a) b n w r → Put a (b ++ drop k a) n w r
put_part a b k n w (Ok m) h l s p =
    let i = p.0 in
    let f = i.fits in
    let e : rows (b ++ drop k a) m ≡ rows b m = rows_front b (drop k a) m f in
    let g : collect_rows (w ∷ rows (take k a) n) ≡ collect_rows (w ∷ rows a n) = ap (λ (z : List Row). collect_rows (w ∷ z)) (rows_part a k n h) in (
      record {
        small = i.small;
        fits = omega (arith, length-append b (drop k a));
        listed = sym g ∙ i.listed ∙ ap some (sym e);
        rising = subst InOrder (sym e) i.rising;
      },
      p.1,
    )
put_part a b k n w (Err e) h l s p = (p.0, p.1, ap (λ (z : List Row). collect_rows (w ∷ z)) (sym (rows_part a k n h)) ∙ p.2)

-- ---- a list made in front of the rows that it is made of: from the i-th on they are as they were in a₀
module _ (a₀ : List Packed) (f : Row → List Row) (from : ℕ) where
  abbrev pub passing_goal : List Row
  passing_goal = still a₀ f from

  pub record Passing (a : List Packed) (n i : ℕ) : Type 0 where
    pub behind : n ≤ i
    pub unread : drop i a ≡ drop i a₀
    pub filling : Filling a n (still a₀ f i) passing_goal

  module _ (a : List Packed) (n i : ℕ) (t : Passing a n i) (s : length a ≡ length a₀) (h : i < length a) (d : Packed) where
    next : (xs : List Row) → xs ≡ f (unpacked (get_or a i d)) → still a₀ f i ≡ xs ++ still a₀ f (i + 1)
    next xs e = still_next a₀ f i d xs (omega arith) (e ∙ ap (λ (r : Packed). f (unpacked r)) (agree_at a a₀ i d t.unread h (omega arith)))

    pub passing_skip : [] ≡ f (unpacked (get_or a i d)) → Passing a n (i + 1)
    passing_skip e = record {
      behind = let b = t.behind in omega arith;
      unread = agree_next a a₀ i d t.unread h (omega arith);
      filling = filling_skip (still a₀ f (i + 1)) (still a₀ f i) t.filling (next [] e);
    }

    module _ (w : Row) (e : w ∷ [] ≡ f (unpacked (get_or a i d))) where
      pub passing_put : (b : List Packed) (m : ℕ) → length b ≡ length (take (i + 1) a) → Put (take (i + 1) a) b n w (Ok m) → Passing (b ++ drop (i + 1) a) m (i + 1)
      passing_put b m l p =
          let k = t.behind in
          let j : length b ≡ i + 1 = l ∙ length-take (i + 1) a ∙ omega arith in
          let q = put_part a b (i + 1) n w (Ok m) (omega arith) (omega arith) j p in
          record {
            behind = let z = q.1 in omega arith;
            unread = drop_front b (drop (i + 1) a) (i + 1) (sym j) ∙ agree_next a a₀ i d t.unread h (omega arith);
            filling = filling_step (w ∷ []) (still a₀ f (i + 1)) (still a₀ f i) t.filling (next (w ∷ []) e) q.0;
          }

      pub passing_over : (b : List Packed) (u : Unlisted) → length b ≡ length (take (i + 1) a) → Put (take (i + 1) a) b n w (Err u) → collect_rows passing_goal ≡ none
      passing_over b u l p =
          let k = t.behind in
          let q = put_part a b (i + 1) n w (Err u) (omega arith) (omega arith) (l ∙ length-take (i + 1) a ∙ omega arith) p in
          filling_over (w ∷ []) (still a₀ f (i + 1)) (still a₀ f i) t.filling (next (w ∷ []) e) q.2
