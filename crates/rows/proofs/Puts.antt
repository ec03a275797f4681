-- One more row put among rows in order: it is there, or there are 64 already, or a place was opened for it.
use Rattle.std.proofs.Common.{◌≡◌, refl, sym, ap, ◌∙◌, subst, inl, List, [], ◌∷◌, take, drop, length, set, ℕ, ◌+◌, ◌-◌, ◌≤◌, ◌<◌, arith, Ok, Err}
use mathlib.Core.Option.{some}
use Rattle.std.proofs.Math.Seq.{paste}
use Rattle.std.proofs.Math.ListN.{length-set}
use Rattle.std.proofs.lemmas.List.{length-append, length-take, length-map, take-append-drop}
use Rattle.esterel.specs.Listing.{Listed}
use Rattle.esterel.specs.inner.Rows.{Row}
use Rattle.esterel.specs.inner.CappedRows.{CappedRows, insert_row, sorted_rows, cap_rows, collect_rows}
use Rattle.esterel.proofs.Order.{append_right}
use Rattle.rows.specs.declared.row.Row.{Row as Packed}
use Rattle.rows.specs.declared.lists.Unlisted.TheVariants.{Over}
use Rattle.rows.specs.inner.Layout.{unpacked}
use Rattle.rows.specs.inner.Area.{all_rows, rows, InOrder, Searched, Standing, Put, Open}
use Rattle.rows.proofs.Order.{insert_in_order, sorted_there}
use Rattle.rows.proofs.Members.{same_again, collect_same, cap_some, cap_none}
use Rattle.rows.proofs.Areas.{rows_length, opened}

pub standing_one : (a : List Packed) (w : Packed) → 0 < length a → Standing (set a 0 w) (some (unpacked w ∷ [])) 1
standing_one [] w h = absurd (omega arith)
standing_one (y ∷ a) w h = record { small = omega arith; fits = omega arith; listed = refl; rising = (λ v m. absurd m, tt) }

module _ (a : List Packed) (n p : ℕ) (w : Packed) (o : Open a n) where
  abbrev x : Row
  x = unpacked w

  sorted_already : collect_rows (x ∷ rows a n) ≡ cap_rows (insert_row x (rows a n))
  unfolding collect_rows sorted_rows
  sorted_already = ap (λ (z : List Row). cap_rows (insert_row x z)) (sorted_there (rows a n) o.rising)

  -- rows in order are the list
  pub stands : (v : CappedRows) → v ≡ collect_rows (rows a n) → Standing a v n
  unfolding collect_rows
  stands v e =
      let l = rows_length a n (let r = o.room in omega arith) in
      let s = o.small in
      let r = o.room in
      record { small = s; fits = omega arith; listed = e ∙ ap cap_rows (sorted_there (rows a n) o.rising) ∙ cap_some (rows a n) (omega arith); rising = o.rising }

  pub put_there : Searched (take n a) x (Ok p) → Put a a n x (Ok n)
  put_there f =
      let m : Listed x (rows a n) = subst (Listed x) (sym f.1) (append_right x (all_rows (take p (take n a))) (x ∷ all_rows (drop (p + 1) (take n a))) (inl refl)) in
      (stands (collect_rows (x ∷ rows a n)) (collect_same (same_again x (rows a n) m)), omega arith)

  module _ (f : Searched (take n a) x (Err p)) where
    longer : length (insert_row x (rows a n)) ≡ n + 1
    longer =
        let r = o.room in
        let l = length-take n a in
        let k = rows_length (take n a) p f.0 in
        let h = ap length (take-append-drop p (take n a)) in
        let g = length-append (take p (take n a)) (drop p (take n a)) in
        let i = length-map (take p (take n a)) unpacked in
        let j = length-map (drop p (take n a)) unpacked in
        ap length f.1 ∙ length-append (all_rows (take p (take n a))) (x ∷ all_rows (drop p (take n a))) ∙ omega arith

    pub put_full : n ≡ 64 → Put a a n x (Err Over)
    put_full h = let l = longer in (refl, h, sorted_already ∙ cap_none (insert_row x (rows a n)) (omega arith))

    pub put_new : (l : List Packed) → l ≡ paste a (p + 1) (drop p a) (n - p) → length l ≡ length a → (n ≡ 64 → ⊥) → Put a (set l p w) n x (Ok (n + 1))
    put_new l c k h =
        let long = longer in
        let s = o.small in
        let r = o.room in
        let t = length-take n a in
        let q : p ≤ n = let z = f.0 in omega arith in
        let e : rows (set l p w) (n + 1) ≡ insert_row x (rows a n) = ap (λ (z : List Packed). rows (set z p w) (n + 1)) c ∙ opened a n p w q r ∙ sym f.1 in (
          record {
            small = omega arith;
            fits = omega (arith, length-set l p w);
            listed = sorted_already ∙ cap_some (insert_row x (rows a n)) (omega arith) ∙ ap some (sym e);
            rising = subst InOrder (sym e) (insert_in_order x (rows a n) o.rising);
          },
          omega arith,
        )
