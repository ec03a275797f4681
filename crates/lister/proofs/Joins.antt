-- Lists in front of an area and above one another: what is made of them is what the capped listing makes of its parts. Over 64
-- rows, or too small an area, in a part is so of the whole.
use Rattle.std.proofs.Common.{◌≡◌, refl, sym, ap, ◌∙◌, subst, true, false, List, [], ◌++◌, take, length, ℕ, ◌+◌, ◌-◌, ◌≤◌, arith, Result, Ok, Err}
use Rattle.std.specs.Prelude.{IsErrAnd}
use mathlib.Core.Option.{none, some, some-injective}
use Rattle.std.proofs.lemmas.Result.{err_from_is_err_and}
use Rattle.std.proofs.lemmas.List.{length-append, length-take}
use borrow.Rule.Slice.PartMut.{put_mid}
use Rattle.esterel.specs.Listing.{some_ends}
use Rattle.esterel.specs.inner.Rows.{Row, each_row, reactions, follow_rows}
use Rattle.esterel.specs.inner.CappedRows.{CappedRows, collect_rows, change_rows, join_rows, then_rows}
use Rattle.rows.specs.declared.row.Row.{Row as Packed}
use Rattle.rows.specs.declared.lists.Unlisted.{Unlisted}
use Rattle.rows.specs.inner.Area.{rows, rows_from, Standing, Made}
use Rattle.rows.specs.inner.Rules.{Clashless, goes_on, follow_row, product}
use Rattle.rows.proofs.Rules.{product_sequence}
use Rattle.rows.proofs.Merges.{made_as, made_need}
use Rattle.rows.proofs.Callers.{rest_as, handed_on, joined as both_joined}
use Rattle.lister.specs.inner.Joins.{Altered, Front}

-- the exit of a `?`
pub passed_on : (P : Result ℕ Unlisted → Type 0) {r : Result ℕ Unlisted} {e : Unlisted} → IsErrAnd r (λ y. y ≡ e) → P (Err e) → P r
passed_on P {r} {e} h m = let p = err_from_is_err_and r h in subst P (sym (p.1 ∙ ap Err p.2)) m

pub stops : (a : List Packed) (need : ℕ) {v w : CappedRows} (r : Result ℕ Unlisted) (e : Unlisted) → IsErrAnd r (λ y. y ≡ e) → v ≡ w → Made a need v (Err e) → Made a need w r
stops a need {v} {w} r e h is m = passed_on (Made a need w) h (made_as need a is (Err e) m)

-- there is no list, so none is made of it
pub none_stops : (a : List Packed) {need more : ℕ} {v w : CappedRows} (e : Unlisted) → need ≤ more → (v ≡ none → w ≡ none) → Made a need v (Err e) → Made a more w (Err e)
none_stops a {need} {more} {v} {w} e h f m = handed_on a a v w e m (λ k. omega arith) f

-- with more room, and where it is the list of something else
pub made_more : (a : List Packed) {need more : ℕ} {v w : CappedRows} (r : Result ℕ Unlisted) → need ≤ more → v ≡ w → Made a need v r → Made a more w r
made_more a (Ok n) h e m = record { small = m.small; fits = m.fits; listed = sym e ∙ m.listed; rising = m.rising }
made_more a (Err e) h f m = none_stops a e h (λ k. sym f ∙ k) m

pub standing_as : {a : List Packed} {v w : CappedRows} {n : ℕ} → v ≡ w → Standing a v n → Standing a w n
standing_as e m = record { small = m.small; fits = m.fits; listed = sym e ∙ m.listed; rising = m.rising }

pub standing_empty : (a : List Packed) {v : CappedRows} → v ≡ some [] → Standing a v 0
standing_empty a e = record { small = omega arith; fits = omega arith; listed = e; rising = tt }

-- ---- one list changed row by row
none_changed : (f : List Row → List Row) (v : CappedRows) → v ≡ none → change_rows f v ≡ none
unfolding change_rows
none_changed f v e = ap (change_rows f) e

some_changed : (f : List Row → List Row) (v : CappedRows) (ws : List Row) → v ≡ some ws → change_rows f v ≡ collect_rows (f ws)
unfolding change_rows
some_changed f v ws e = ap (change_rows f) e

pub changed : (f : Row → List Row) (a b : List Packed) (need : ℕ) (v : CappedRows) (r r' : Result ℕ Unlisted) → length b ≡ length a → Made a need v r → Altered f r a b r' → Made b need (change_rows (λ ws. each_row ws f) v) r'
changed f a b need v (Ok n) r' l m x =
    made_as need b (sym (some_changed (λ ws. each_row ws f) v (rows a n) m.listed)) r' (made_need need b (collect_rows (each_row (rows a n) f)) r' (omega arith) x)
changed f a b need v (Err e) r' l m x =
    subst (Made b need (change_rows (λ ws. each_row ws f) v)) (sym x) (handed_on a b v (change_rows (λ ws. each_row ws f) v) e m (λ k. omega arith) (none_changed (λ ws. each_row ws f) v))

pub changed_as : {f g : List Row → List Row} (v : CappedRows) → ((ws : List Row) → v ≡ some ws → f ws ≡ g ws) → change_rows f v ≡ change_rows g v
unfolding change_rows
changed_as none h = refl
changed_as (some ws) h = ap collect_rows (h ws refl)

-- ---- two lists, n rows in front of an area and m in front of what is above them
pub joined_as : {f g : List Row → List Row → List Row} (v w : CappedRows) → ((ws vs : List Row) → v ≡ some ws → f ws vs ≡ g ws vs) → join_rows f v w ≡ join_rows g v w
unfolding join_rows
joined_as none w h = refl
joined_as (some ws) none h = refl
joined_as (some ws) (some vs) h = ap collect_rows (h ws vs refl)

pub none_first : (g : List Row → List Row → List Row) (v w : CappedRows) → v ≡ none → join_rows g v w ≡ none
unfolding join_rows
none_first g v w e = ap (λ (z : CappedRows). join_rows g z w) e

none_second : (g : List Row → List Row → List Row) (v w : CappedRows) → w ≡ none → join_rows g v w ≡ none
unfolding join_rows
none_second g v w e = ap (join_rows g v) e ∙ go v
  where
    go : (u : CappedRows) → join_rows g u none ≡ none
    go none = refl
    go (some ws) = refl

pub first_stops : (g : List Row → List Row → List Row) (a : List Packed) (need : ℕ) {more : ℕ} (v w : CappedRows) (e : Unlisted) → need ≤ more → Made a need v (Err e) → Made a more (join_rows g v w) (Err e)
first_stops g a need v w e h m = none_stops a e h (none_first g v w) m

module _ (a b : List Packed) (n : ℕ) (h : n ≤ length a) (l : n + length b ≡ length a) where
  abbrev both : List Packed
  both = put_mid n (length a - n) a b

  both_is : both ≡ take n a ++ b
  both_is = rest_as a b n (length a - n) h refl (omega arith)

  both_length : length both ≡ length a
  both_length = ap length both_is ∙ length-append (take n a) b ∙ omega (arith, length-take n a)

  module _ (g : List Row → List Row → List Row) (v w : CappedRows) where
    pub second_stops : (more : ℕ) {need : ℕ} (e : Unlisted) → n ≤ 64 → 64 + more ≤ need → Made b more w (Err e) → Made both need (join_rows g v w) (Err e)
    second_stops more e few room m = handed_on b both w (join_rows g v w) e m (λ k. omega (arith, both_length)) (none_second g v w)

    pub joined : (m : ℕ) → Standing a v n → Standing b w m → (c : List Packed) (r : Result ℕ Unlisted) {need : ℕ} → 193 ≤ need → Made c (n + m + 65) (collect_rows (g (rows both n) (rows_from both n m))) r
        → Made c need (join_rows g v w) r
    joined m f k c r {need} room x =
        made_more c r (omega (arith, f.small, k.small)) refl
        (both_joined a b v w n m f k (omega arith) (n + m + 65) g c r (subst (λ (z : List Packed). Made c (n + m + 65) (collect_rows (g (rows z n) (rows_from z n m))) r) both_is x))

-- ---- what follows a list
none_then : (v w : CappedRows) → v ≡ none → then_rows v w ≡ none
unfolding then_rows
none_then v w e = ap (λ (z : CappedRows). then_rows z w) e

pub then_as : {v : CappedRows} {ws : List Row} (w : CappedRows) → v ≡ some ws → then_rows (some ws) w ≡ then_rows v w
then_as w e = ap (λ (z : CappedRows). then_rows z w) (sym e)

pub first_stops_then : (a : List Packed) (need : ℕ) {more : ℕ} (v w : CappedRows) (e : Unlisted) → need ≤ more → Made a need v (Err e) → Made a more (then_rows v w) (Err e)
first_stops_then a need v w e h m = none_stops a e h (none_then v w) m

pub then_stays : (v w : CappedRows) (ws : List Row) → v ≡ some ws → some_ends (reactions ws) ≡ false → v ≡ then_rows v w
unfolding then_rows
then_stays v w ws e h = let g : then_rows (some ws) w ≡ some ws = rw h in e ∙ sym (ap (λ (z : CappedRows). then_rows z w) e ∙ g)

pub then_goes : (v w : CappedRows) (ws : List Row) → v ≡ some ws → Clashless ws → some_ends (reactions ws) ≡ true → join_rows (product goes_on follow_row) v w ≡ then_rows v w
unfolding then_rows
then_goes v w ws e free h =
    let g : then_rows (some ws) w ≡ join_rows follow_rows (some ws) w = rw h in
    let f : join_rows (product goes_on follow_row) (some ws) w ≡ join_rows follow_rows (some ws) w = joined_as (some ws) w (λ us vs i. product_sequence us vs (subst Clashless (some-injective ws us i) free)) in
    ap (λ (z : CappedRows). join_rows (product goes_on follow_row) z w) e ∙ f ∙ sym (ap (λ (z : CappedRows). then_rows z w) e ∙ g)

pub front_of : {a : List Packed} {v : CappedRows} {n : ℕ} → ((ws : List Row) → v ≡ some ws → Clashless ws) → Standing a v n → Front a n
front_of {a} {v} {n} free m = record { small = m.small; fits = m.fits; rising = m.rising; free = free (rows a n) m.listed }
