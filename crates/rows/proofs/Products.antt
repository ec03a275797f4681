-- Each row of a list with each of another: those of one row after the other, put together above both and moved down.
use Rattle.std.proofs.Common.{◌≡◌, sym, ap, ◌∙◌, subst, Bool, true, false, List, [], ◌∷◌, ◌++◌, take, drop, length, get_or, ℕ, ◌+◌, ◌-◌, ◌≤◌, arith, Result, Ok, Err}
use mathlib.Core.Option.{none, some}
use Rattle.std.proofs.Math.Seq.{paste}
use Rattle.std.proofs.lemmas.List.{append-nil, length-append, drop-take}
use Rattle.std.proofs.lemmas.List.Edits.{take-paste}
use Rattle.esterel.specs.inner.Rows.{Row, each_row}
use Rattle.esterel.specs.inner.CappedRows.{CappedRows, insert_row, sorted_rows, collect_rows}
use Rattle.rows.specs.declared.row.Row.{Row as Packed}
use Rattle.rows.specs.declared.lists.Unlisted.{Unlisted}
use Rattle.rows.specs.declared.lists.Unlisted.TheVariants.{Over, Cramped, Refused}
use Rattle.rows.specs.inner.Layout.{unpacked}
use Rattle.rows.specs.inner.Rules.{unless_clash, joined_all, pairs, product}
use Rattle.rows.specs.inner.Area.{all_rows, rows, rows_from, InOrder, Standing, Made, Put}
use Rattle.rows.proofs.Areas.{drop_at, drop_front, take_take}
use Rattle.rows.proofs.Filling.{still}
use Rattle.rows.proofs.Members.{cap_some}

module _ (alone : Row → Bool) (join : Row → Row → Row) (vs : List Row) (w : Row) where
  pub pairs_alone : (b : Bool) → b ≡ alone w → b ≡ true → pairs alone join vs w ≡ w ∷ []
  unfolding pairs
  pairs_alone b e f = rw (sym e ∙ f)

  pub pairs_met : (b : Bool) → b ≡ alone w → b ≡ false → pairs alone join vs w ≡ each_row vs (λ v. unless_clash (join w v))
  unfolding pairs joined_all
  pairs_met b e f = rw (sym e ∙ f)

pub put_made : (a b : List Packed) (n : ℕ) (w : Row) (r : Result ℕ Unlisted) → Put a b n w r → Made b 0 (collect_rows (w ∷ rows a n)) r
put_made a b n w (Ok m) p = p.0
put_made a b n w (Err Over) p = p.2
put_made a b n w (Err Cramped) p = let e = p.0 in cc
put_made a b n w (Err Refused) p = let e = p.0 in cc

pub not_made : (a b : List Packed) (v : CappedRows) (e : Unlisted) → Made a 0 v (Err e) → v ≡ none
not_made a b v Over m = m
not_made a b v Cramped m = absurd (omega arith)
not_made a b v Refused m = absurd (omega arith)

pub made_err : (a b : List Packed) (v w : CappedRows) (e : Unlisted) → Made a 0 v (Err e) → (v ≡ none → w ≡ none) → Made b 0 w (Err e)
made_err a b v w Over m f = f m
made_err a b v w Cramped m f = absurd (omega arith)
made_err a b v w Refused m f = absurd (omega arith)

-- ---- one row with those above it
module _ (alone : Row → Bool) (join : Row → Row → Row) (a : List Packed) (vs : List Row) (d : Packed) (h : 1 ≤ length a) where
  abbrev w : Row
  w = unpacked (get_or a 0 d)

  row_one : rows a 1 ≡ w ∷ []
  row_one = ap (λ (z : List Packed). rows z 1) (drop_at a 0 d (omega arith))

  single : product alone join (rows a 1) vs ≡ pairs alone join vs w
  unfolding product each_row
  single = ap (λ (z : List Row). product alone join z vs) row_one ∙ append-nil (pairs alone join vs w)

  pub single_alone : (b : Bool) → b ≡ alone w → b ≡ true → Standing a (collect_rows (product alone join (rows a 1) vs)) 1
  unfolding collect_rows sorted_rows insert_row
  single_alone b e f =
      let g : product alone join (rows a 1) vs ≡ w ∷ [] = single ∙ pairs_alone alone join vs w b e f in
      record {
        small = omega arith;
        fits = h;
        listed = ap collect_rows g ∙ cap_some (w ∷ []) (omega arith) ∙ ap some (sym row_one);
        rising = subst InOrder (sym row_one) (λ v m. absurd m, tt);
      }

  pub single_met : (b : Bool) → b ≡ alone w → b ≡ false → product alone join (rows a 1) vs ≡ each_row vs (λ v. unless_clash (join w v))
  single_met b e f = single ∙ pairs_met alone join vs w b e f

-- ---- moved down
pub lowered : (lists top : List Packed) (both n : ℕ) (c : List Packed) (v : CappedRows) → both ≡ length lists → c ≡ paste (lists ++ top) 0 (drop both (lists ++ top)) (both + n - both)
    → length c ≡ length (lists ++ top) → Standing top v n → Standing c v n
lowered lists top both n c v e f l s =
    let g : drop both (lists ++ top) ≡ top = drop_front lists top both e in
    let h : both + n - both ≡ n = omega arith in
    let k = s.fits in
    let z : n ≡ 0 + n = omega arith in
    let t : take n c ≡ take n top =
    ap (take n) (f ∙ ap (λ (z : List Packed). paste (lists ++ top) 0 z (both + n - both)) g ∙ ap (paste (lists ++ top) 0 top) h) ∙ ap (λ (m : ℕ). take m (paste (lists ++ top) 0 top n)) z ∙ take-paste (lists ++ top) 0 top n (omega arith) k in
    let r : rows c n ≡ rows top n = ap all_rows t in
    record { small = s.small; fits = omega (arith, length-append lists top); listed = s.listed ∙ ap some (sym r); rising = subst InOrder (sym r) s.rising }

pub products_as : (alone : Row → Bool) (join : Row → Row → Row) (a lists firsts seconds : List Packed) (n₁ n₂ : ℕ) → lists ≡ take (n₁ + n₂) a → firsts ≡ take n₁ lists → seconds ≡ drop n₁ lists
    → still firsts (pairs alone join (all_rows seconds)) 0 ≡ product alone join (rows a n₁) (rows_from a n₁ n₂)
unfolding product
products_as alone join a lists firsts seconds n₁ n₂ l f s =
    let e : firsts ≡ take n₁ a = f ∙ ap (take n₁) l ∙ take_take n₁ (n₁ + n₂) a (omega arith) in
    let g : seconds ≡ take n₂ (drop n₁ a) = s ∙ ap (drop n₁) l ∙ drop-take n₁ n₂ a in
    ap (λ (z : List Packed). product alone join (all_rows z) (all_rows seconds)) e ∙ ap (λ (z : List Packed). product alone join (rows a n₁) (all_rows z)) g
