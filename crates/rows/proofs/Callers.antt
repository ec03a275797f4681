-- What a caller makes of the contracts: a list in front of an area, and one made in the rest of it, are those that the capped listing
-- makes one. The area of a call on `&mut area[n..]` is `drop n a` and leaves `take n a ++ b`, that of one on `&mut area[..n]` is `take n a` and
-- leaves `b ++ drop n a`.
use Rattle.std.proofs.Common.{◌≡◌, refl, sym, ap, ◌∙◌, subst, List, ◌++◌, take, drop, length, ℕ, ◌+◌, ◌-◌, ◌≤◌, ◌<◌, arith, Result, Err}
use mathlib.Core.Path.{ap₂}
use mathlib.Core.Option.{none}
use Rattle.std.proofs.lemmas.List.{length-take, length-append, append-nil}
use Rattle.std.proofs.lemmas.Slice.{take-put_mid, drop-put_mid}
use Rattle.std.proofs.Math.ListN.{drop_of_length-le}
use borrow.Rule.Slice.PartMut.{put_mid}
use Rattle.std.proofs.lemmas.List.{take-append-drop}
use Rattle.esterel.specs.inner.Rows.{Row, each_row}
use Rattle.esterel.specs.inner.CappedRows.{CappedRows, change_rows, join_rows, collect_rows}
use Rattle.rows.specs.declared.row.Row.{Row as Packed}
use Rattle.rows.specs.declared.lists.Unlisted.{Unlisted}
use Rattle.rows.specs.declared.lists.Unlisted.TheVariants.{Over, Cramped, Refused}
use Rattle.rows.specs.inner.Area.{rows, rows_from, InOrder, Standing, Made, Beside}
use Rattle.rows.proofs.Areas.{drop_front, rows_part, rows_front}
use Rattle.rows.proofs.Merges.{made_as, made_front}

-- ---- areas
pub rest_as : {X : Type 0} (a b : List X) (n k : ℕ) → n ≤ length a → k ≡ length a - n → length b ≡ k → put_mid n k a b ≡ take n a ++ b
rest_as a b n k h e l =
    let whole : put_mid n k a b ≡ take (n + length b) (put_mid n k a b) ++ drop (n + length b) (put_mid n k a b) = sym (take-append-drop (n + length b) (put_mid n k a b)) in
    whole ∙ ap (λ (z : List _). z ++ drop (n + length b) (put_mid n k a b)) (take-put_mid n k a b (n + length b) refl h)
    ∙ ap (λ (z : List _). (take n a ++ b) ++ z) (drop-put_mid n k a b (n + length b) (omega arith) h l ∙ drop_of_length-le a (omega arith))
    ∙ append-nil (take n a ++ b)

module _ (a b : List Packed) (n : ℕ) (h : n ≤ length a) where
  pub front_stays : rows (take n a ++ b) n ≡ rows a n
  front_stays = rows_front (take n a) b n (omega (arith, length-take n a)) ∙ rows_part a n n (omega arith)

  pub rest_is : (m : ℕ) → rows_from (take n a ++ b) n m ≡ rows b m
  rest_is m = ap (λ (z : List Packed). rows z m) (drop_front (take n a) b n (omega (arith, length-take n a)))

-- ---- why there is no list is handed on
pub handed_on : {need more : ℕ} (a b : List Packed) (v w : CappedRows) (e : Unlisted) → Made a need v (Err e) → (length a < need → length b < more) → (v ≡ none → w ≡ none) → Made b more w (Err e)
handed_on a b v w Over m f g = g m
handed_on a b v w Cramped m f g = f m
handed_on a b v w Refused m f g = f m

-- ---- one list changed, each row by f
module _ (a : List Packed) (v : CappedRows) (n : ℕ) (s : Standing a v n) (f : Row → List Row) where
  pub altered : (b : List Packed) (r : Result ℕ Unlisted) → Made b 0 (collect_rows (each_row (rows a n) f)) r → Made (b ++ drop n a) 0 (change_rows (λ ws. each_row ws f) v) r
  unfolding change_rows
  altered b r m = made_front b (drop n a) (change_rows (λ ws. each_row ws f) v) r (made_as 0 b (ap (change_rows (λ ws. each_row ws f)) (sym s.listed)) r m)

-- ---- two lists: v in front of a, and w in the rest of it, which is b now
module _ (a b : List Packed) (v w : CappedRows) (n₁ n₂ : ℕ) (s : Standing a v n₁) (t : Standing b w n₂) (l : length b ≡ length a - n₁) where
  pub beside : Beside (take n₁ a ++ b) n₁ n₂
  beside =
      let f = s.fits in
      let g = t.fits in
      record {
        small = s.small;
        within = omega (arith, length-append (take n₁ a) b, length-take n₁ a);
        first = subst InOrder (sym (front_stays a b n₁ f)) s.rising;
        second = subst InOrder (sym (rest_is a b n₁ f n₂)) t.rising;
      }

  pub joined : (need : ℕ) (g : List Row → List Row → List Row) (c : List Packed) (r : Result ℕ Unlisted)
      → Made c need (collect_rows (g (rows (take n₁ a ++ b) n₁) (rows_from (take n₁ a ++ b) n₁ n₂))) r → Made c need (join_rows g v w) r
  unfolding join_rows
  joined need g c r m =
      let f = s.fits in
      made_as need c (ap₂ (λ (x y : List Row). collect_rows (g x y)) (front_stays a b n₁ f) (rest_is a b n₁ f n₂) ∙ sym (ap₂ (join_rows g) s.listed t.listed)) r m
