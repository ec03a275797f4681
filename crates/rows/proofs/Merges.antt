-- Two lists that lie one above the other made one. What is written goes on, in order, with what is left of the first list, and with
-- what is left of the second: so what is left of one side alone ends the list.
use Rattle.std.proofs.Common.{◌≡◌, refl, sym, ap, ◌∙◌, subst, inl, inr, ◌⊎◌, true, List, [], ◌∷◌, ◌++◌, append_assoc, take, drop, length, get_or, set, ℕ, suc, ◌+◌, ◌-◌, ◌≤◌, ◌<◌, arith, Result, Ok, Err}
use mathlib.Core.Option.{none, some}
use Rattle.std.proofs.Math.Seq.{paste}
use Rattle.std.proofs.Math.ListN.{drop_of_length-le, length-set}
use Rattle.std.proofs.lemmas.List.{append-nil, map-append, take_more_set, drop-set-lt, length-append, length-drop, length-take, drop-take, take_rest, take_more}
use Rattle.std.proofs.lemmas.List.Edits.{take-paste}
use Rattle.std.proofs.lemmas.Slice.{take-put_mid, drop-put_mid}
use borrow.Rule.Slice.PartMut.{put_mid}
use Rattle.sets.proofs.Booleans.{not_true}
use Rattle.esterel.specs.inner.Rows.{Row}
use Rattle.esterel.specs.inner.CappedRows.{CappedRows, before_row, cap_rows, collect_rows}
use Rattle.rows.specs.declared.row.Row.{Row as Packed}
use Rattle.rows.specs.declared.lists.Unlisted.{Unlisted}
use Rattle.rows.specs.declared.lists.Unlisted.TheVariants.{Over, Cramped, Refused}
use Rattle.rows.specs.inner.Layout.{unpacked}
use Rattle.rows.specs.inner.Area.{all_rows, rows, rows_from, InOrder, Searched, Standing, Made, Beside, Split}
use Rattle.rows.proofs.Order.{row_self, sorted_there, insert_in_order, in_order_right, in_order_on, in_order_between}
use Rattle.rows.proofs.Members.{Same, same, same_as, same_sym, same_trans, same_append, same_swap, same_assoc, same_again, collect_same, cap_some, cap_none}
use Rattle.rows.proofs.Areas.{drop_at, rows_at, rows_length, rows_both, rows_part, rows_front, take_take}

pub made_as : {v w : CappedRows} (need : ℕ) (a : List Packed) → v ≡ w → (r : Result ℕ Unlisted) → Made a need v r → Made a need w r
made_as need a e r m = subst (λ (z : CappedRows). Made a need z r) e m

-- ---- rows that stand in order
sorted_already : (a : List Packed) (n : ℕ) → InOrder (rows a n) → collect_rows (rows a n) ≡ cap_rows (rows a n)
unfolding collect_rows
sorted_already a n r = ap cap_rows (sorted_there (rows a n) r)

pub counted_few : (a : List Packed) (n : ℕ) → n ≤ length a → InOrder (rows a n) → n ≤ 64 → Standing a (collect_rows (rows a n)) n
counted_few a n h r k =
    let l = rows_length a n h in
    record { small = k; fits = h; listed = sorted_already a n r ∙ cap_some (rows a n) (omega arith); rising = r }

pub counted_many : (a : List Packed) (n : ℕ) → n ≤ length a → InOrder (rows a n) → 64 < n → collect_rows (rows a n) ≡ none
counted_many a n h r k = let l = rows_length a n h in sorted_already a n r ∙ cap_none (rows a n) (omega arith)

-- the head of the second list, taken out of the middle
middle : (r : Row) (ts us : List Row) → Same (ts ++ (r ∷ us)) ((r ∷ []) ++ (ts ++ us))
middle r ts us =
    same_trans (same_sym (same_assoc ts (r ∷ []) us))
    (same_trans (same_append (ts ++ (r ∷ [])) ((r ∷ []) ++ ts) us us (same_swap ts (r ∷ [])) (same us)) (same_assoc (r ∷ []) ts us))

-- ---- on lists: ws is written, us and vs are left
pub record Merges (ws us vs goal : List Row) : Type 0 where
  pub first : InOrder (ws ++ us)
  pub second : InOrder (ws ++ vs)
  pub sum : Same (ws ++ (us ++ vs)) goal

merges_swap : {ws us vs goal : List Row} → Merges ws us vs goal → Merges ws vs us goal
merges_swap {ws} {us} {vs} m = record { first = m.second; second = m.first; sum = same_trans (same_append ws ws (vs ++ us) (us ++ vs) (same ws) (same_swap vs us)) m.sum }

merges_as : {ws us vs goal : List Row} (ws' us' vs' : List Row) → ws ≡ ws' → us ≡ us' → vs ≡ vs' → Merges ws us vs goal → Merges ws' us' vs' goal
merges_as {ws} {us} {vs} {goal} ws' us' vs' e f g m = subst (λ (z : List Row). Merges ws' us' z goal) g (subst (λ (z : List Row). Merges ws' z vs goal) f (subst (λ (z : List Row). Merges z us vs goal) e m))

merges_first : {goal : List Row} (ws us vs : List Row) (u v : Row) → Merges ws (u ∷ us) (v ∷ vs) goal → before_row u v ≡ true → Merges (ws ++ (u ∷ [])) us (v ∷ vs) goal
merges_first {goal} ws us vs u v m h = record {
  first = subst InOrder (sym (append_assoc ws (u ∷ []) us)) m.first;
  second = subst InOrder (sym (append_assoc ws (u ∷ []) (v ∷ vs))) (in_order_between ws us vs u v m.first (in_order_right ws (v ∷ vs) m.second) h);
  sum = subst (λ (z : List Row). Same z goal) (sym (append_assoc ws (u ∷ []) (us ++ (v ∷ vs)))) m.sum;
}

merges_second : {goal : List Row} (ws us vs : List Row) (u v : Row) → Merges ws (u ∷ us) (v ∷ vs) goal → before_row v u ≡ true → Merges (ws ++ (v ∷ [])) (u ∷ us) vs goal
merges_second ws us vs u v m h = merges_swap (merges_first ws vs us v u (merges_swap m) h)

merges_both : {goal : List Row} (ws us vs : List Row) (u v : Row) → Merges ws (u ∷ us) (v ∷ vs) goal → u ≡ v → Merges (ws ++ (v ∷ [])) us vs goal
merges_both {goal} ws us vs u v m e =
    let s : Same (ws ++ ((v ∷ us) ++ (v ∷ vs))) goal = subst (λ (z : Row). Same (ws ++ ((z ∷ us) ++ (v ∷ vs))) goal) e m.sum in
    let t : Same (v ∷ (us ++ (v ∷ vs))) (v ∷ v ∷ (us ++ vs)) = same_append (v ∷ []) (v ∷ []) (us ++ (v ∷ vs)) (v ∷ (us ++ vs)) (same (v ∷ [])) (middle v us vs) in
    let once : Same (v ∷ (us ++ vs)) (v ∷ (us ++ (v ∷ vs))) = same_sym (same_trans t (same_again v (v ∷ (us ++ vs)) (inl refl))) in
    record {
      first = subst InOrder (sym (append_assoc ws (v ∷ []) us)) (subst (λ (z : Row). InOrder (ws ++ (z ∷ us))) e m.first);
      second = subst InOrder (sym (append_assoc ws (v ∷ []) vs)) m.second;
      sum = same_trans (same_as (append_assoc ws (v ∷ []) (us ++ vs))) (same_trans (same_append ws ws (v ∷ (us ++ vs)) (v ∷ (us ++ (v ∷ vs))) (same ws) once) s);
    }

-- ---- in an area: n rows are written, i of the firsts and those of the list before j are taken
module _ (goal : List Row) (firsts a : List Packed) (n i j : ℕ) where
  pub record Merging : Type 0 where
    pub first : i ≤ length firsts
    pub second : j ≤ length a
    pub behind : n + (length firsts - i) ≤ j
    pub lists : Merges (rows a n) (all_rows (drop i firsts)) (all_rows (drop j a)) goal

module _ (goal : List Row) (firsts a : List Packed) (n i j : ℕ) (m : Merging goal firsts a n i j) where
  module _ (h : i < length firsts) (k : j < length a) (d : Packed) where
    abbrev p : Packed
    p = get_or firsts i d

    abbrev q : Packed
    q = get_or a j d

    heads : Merges (rows a n) (unpacked p ∷ all_rows (drop (i + 1) firsts)) (unpacked q ∷ all_rows (drop (j + 1) a)) goal
    heads = merges_as (rows a n) (unpacked p ∷ all_rows (drop (i + 1) firsts)) (unpacked q ∷ all_rows (drop (j + 1) a)) refl (rows_at firsts i d h) (rows_at a j d k) m.lists

    front : (x : Packed) → rows a n ++ (unpacked x ∷ []) ≡ rows (set a n x) (n + 1)
    front x = sym (ap all_rows (take_more_set a n x (let b = m.behind in omega arith)) ∙ map-append unpacked (take n a) (x ∷ []))

    rest : (x : Packed) (l : ℕ) → n < l → all_rows (drop l a) ≡ all_rows (drop l (set a n x))
    rest x l b = ap all_rows (sym (drop-set-lt l a n x b))

    pub merging_first : before_row (unpacked p) (unpacked q) ≡ true → Merging goal firsts (set a n p) (n + 1) (i + 1) j
    merging_first l =
        let b = m.behind in
        record {
          first = omega arith;
          second = omega (arith, length-set a n p);
          behind = omega arith;
          lists = merges_as (rows (set a n p) (n + 1)) (all_rows (drop (i + 1) firsts)) (all_rows (drop j (set a n p))) (front p) refl (sym (rows_at a j d k) ∙ rest p j (omega arith))
              (merges_first (rows a n) (all_rows (drop (i + 1) firsts)) (all_rows (drop (j + 1) a)) (unpacked p) (unpacked q) heads l);
        }

    pub merging_second : before_row (unpacked q) (unpacked p) ≡ true → Merging goal firsts (set a n q) (n + 1) i (j + 1)
    merging_second l =
        let b = m.behind in
        record {
          first = omega arith;
          second = omega (arith, length-set a n q);
          behind = omega arith;
          lists = merges_as (rows (set a n q) (n + 1)) (all_rows (drop i firsts)) (all_rows (drop (j + 1) (set a n q))) (front q) (sym (rows_at firsts i d h)) (rest q (j + 1) (omega arith))
              (merges_second (rows a n) (all_rows (drop (i + 1) firsts)) (all_rows (drop (j + 1) a)) (unpacked p) (unpacked q) heads l);
        }

    pub merging_both : p ≡ q → Merging goal firsts (set a n q) (n + 1) (i + 1) (j + 1)
    merging_both e =
        let b = m.behind in
        record {
          first = omega arith;
          second = omega (arith, length-set a n q);
          behind = omega arith;
          lists = merges_as (rows (set a n q) (n + 1)) (all_rows (drop (i + 1) firsts)) (all_rows (drop (j + 1) (set a n q))) (front q) refl (rest q (j + 1) (omega arith))
              (merges_both (rows a n) (all_rows (drop (i + 1) firsts)) (all_rows (drop (j + 1) a)) (unpacked p) (unpacked q) heads (ap unpacked e));
        }

  -- one side is used up, and what is left is moved where it belongs
  module _ (done : (length firsts ≤ i) ⊎ (length a ≤ j)) (k end : ℕ) (e : k ≡ length firsts - i) (l : end ≡ length a) (ys c : List Packed) (f : ys ≡ take (length firsts - i) (drop i firsts)) where
    abbrev moved : List Packed
    moved = put_mid n k a ys

    module _ (g : c ≡ paste moved (n + (length firsts - i)) (drop j moved) (length moved - j)) (s : length moved ≡ length a) (t : length c ≡ length moved) where
      abbrev total : ℕ
      total = n + (length firsts - i) + (end - j)

      left : ys ≡ drop i firsts
      left = f ∙ take_rest firsts i

      merged_rows : rows c total ≡ rows a n ++ (all_rows (drop i firsts) ++ all_rows (drop j a))
      merged_rows =
          let p = m.behind in
          let h = m.second in
          let o = ap length left ∙ length-drop i firsts in
          let q = length-drop j moved in
          let y : length moved - j ≡ end - j = omega arith in
          let u : drop j moved ≡ drop j a = drop-put_mid n k a ys j (omega arith) (omega arith) (omega arith) in
          let v : take (n + (length firsts - i)) moved ≡ take n a ++ drop i firsts = take-put_mid n k a ys (n + (length firsts - i)) (omega arith) (omega arith) ∙ ap (λ (z : List Packed). take n a ++ z) left in
          let w : take total c ≡ (take n a ++ drop i firsts) ++ drop j a =
          ap (take total) (g ∙ ap (λ (z : ℕ). paste moved (n + (length firsts - i)) (drop j moved) z) y) ∙ take-paste moved (n + (length firsts - i)) (drop j moved) (end - j) (omega arith) (omega arith)
          ∙ ap (λ (z : List Packed). z ++ take (end - j) (drop j moved)) v
          ∙ ap (λ (z : List Packed). (take n a ++ drop i firsts) ++ z) (ap (take (end - j)) u ∙ ap (λ (z : ℕ). take (z - j) (drop j a)) l ∙ take_rest a j) in
          ap all_rows w ∙ map-append unpacked (take n a ++ drop i firsts) (drop j a) ∙ ap (λ (z : List Row). z ++ all_rows (drop j a)) (map-append unpacked (take n a) (drop i firsts))
          ∙ append_assoc (rows a n) (all_rows (drop i firsts)) (all_rows (drop j a))

      merged_rise : InOrder (rows a n ++ (all_rows (drop i firsts) ++ all_rows (drop j a)))
      merged_rise = go done
        where
          go : (length firsts ≤ i) ⊎ (length a ≤ j) → InOrder (rows a n ++ (all_rows (drop i firsts) ++ all_rows (drop j a)))
          go (inl h) = subst (λ (z : List Packed). InOrder (rows a n ++ (all_rows z ++ all_rows (drop j a)))) (sym (drop_of_length-le firsts h)) m.lists.second
          go (inr h) = subst (λ (z : List Packed). InOrder (rows a n ++ (all_rows (drop i firsts) ++ all_rows z))) (sym (drop_of_length-le a h)) (subst (λ (z : List Row). InOrder (rows a n ++ z)) (sym (append-nil (all_rows (drop i firsts)))) m.lists.first)

      pub merged_in_order : (total ≤ length c) × InOrder (rows c total)
      merged_in_order = (let p = m.behind in omega (arith, m.second), subst InOrder (sym merged_rows) merged_rise)

      pub merged_end : (need : ℕ) (d : List Packed) (r : Result ℕ Unlisted) → Made d need (collect_rows (rows c total)) r → Made d need (collect_rows goal) r
      merged_end need d r p = made_as need d (collect_same (same_trans (same_as merged_rows) m.lists.sum)) r p

-- ---- what is made in front of an area
pub made_front : (b x : List Packed) (v : CappedRows) (r : Result ℕ Unlisted) → Made b 0 v r → Made (b ++ x) 0 v r
made_front b x v (Ok n) m =
    let f = m.fits in
    let e : rows (b ++ x) n ≡ rows b n = rows_front b x n f in
    record { small = m.small; fits = omega (arith, length-append b x); listed = m.listed ∙ ap some (sym e); rising = subst InOrder (sym e) m.rising }
made_front b x v (Err Over) m = m
made_front b x v (Err Cramped) m = absurd (omega arith)
made_front b x v (Err Refused) m = absurd (omega arith)

pub made_need : {need : ℕ} (more : ℕ) (b : List Packed) (v : CappedRows) (r : Result ℕ Unlisted) → need ≤ more → Made b need v r → Made b more v r
made_need more b v (Ok n) h m = m
made_need more b v (Err Over) h m = m
made_need more b v (Err Cramped) h m = omega arith
made_need more b v (Err Refused) h m = omega arith

-- ---- so many of the first list stay: w goes on behind them
abbrev pub Kept : List Packed → Row → ℕ → Type 0
Kept t w p = (p ≤ length t) × ((us : List Row) × InOrder (all_rows (take p t) ++ (w ∷ us)))

pub kept_there : (t : List Packed) (w : Row) (p : ℕ) → InOrder (all_rows t) → Searched t w (Ok p) → Kept t w p
kept_there t w p o s = (let h = s.0 in omega arith, (all_rows (drop (p + 1) t), subst InOrder s.1 o))

pub kept_place : (t : List Packed) (w : Row) (p : ℕ) → InOrder (all_rows t) → Searched t w (Err p) → Kept t w p
kept_place t w p o s = (s.0, (all_rows (drop p t), subst InOrder s.1 (insert_in_order w (all_rows t) o)))

-- the rows of the first list that have to move stand above the second
module _ (a lists firsts : List Packed) (n₁ n₂ kept : ℕ) (d : Packed) (p : Beside a n₁ n₂) (some-there : 0 < n₂) (k : Kept (take n₁ a) (unpacked (get_or a n₁ d)) kept)
    (l : lists ≡ take (n₁ + n₂) a) (f : firsts ≡ take (n₁ - kept) (drop kept lists)) where
  whole : kept ≤ n₁
  whole = let h = k.0 in omega (arith, length-take n₁ a)

  long : length lists ≡ n₁ + n₂
  long = let w = p.within in ap length l ∙ length-take (n₁ + n₂) a ∙ omega arith

  parts : rows lists kept ++ all_rows firsts ≡ rows a n₁
  parts =
      let h = whole in
      let e : kept + (n₁ - kept) ≡ n₁ = omega arith in
      ap (λ (z : List Packed). rows lists kept ++ all_rows z) f ∙ sym (rows_both lists kept (n₁ - kept)) ∙ ap (rows lists) e ∙ ap (λ (z : List Packed). rows z n₁) l
      ∙ rows_part a (n₁ + n₂) n₁ (omega arith)

  seconds : all_rows (drop n₁ lists) ≡ rows_from a n₁ n₂
  seconds = ap all_rows (ap (drop n₁) l ∙ drop-take n₁ n₂ a)

  stays : rows lists kept ≡ all_rows (take kept (take n₁ a))
  stays =
      let h = whole in
      ap (λ (z : List Packed). rows z kept) l ∙ ap all_rows (take_take kept (n₁ + n₂) a (omega arith) ∙ sym (take_take kept n₁ a h))

  head : rows_from a n₁ n₂ ≡ unpacked (get_or a n₁ d) ∷ rows (drop (n₁ + 1) a) (n₂ - 1)
  head =
      let w = p.within in
      let e : n₂ ≡ suc (n₂ - 1) = omega arith in
      ap (λ (z : List Packed). rows z n₂) (drop_at a n₁ d (omega arith)) ∙ ap (rows (get_or a n₁ d ∷ drop (n₁ + 1) a)) e

  pub split_made : Split lists kept n₁ firsts
  split_made =
      let h = whole in
      let g = long in
      let m = ap length f ∙ length-take (n₁ - kept) (drop kept lists) in
      let q = length-drop kept lists in
      record {
        below = omega arith;
        within = omega arith;
        first = subst InOrder (sym parts) p.first;
        second = subst (λ (z : List Row). InOrder (rows lists kept ++ z)) (sym (seconds ∙ head))
            (subst (λ (z : List Row). InOrder (z ++ (unpacked (get_or a n₁ d) ∷ rows (drop (n₁ + 1) a) (n₂ - 1)))) (sym stays)
            (in_order_on (all_rows (take kept (take n₁ a))) k.1.0 (rows (drop (n₁ + 1) a) (n₂ - 1)) (unpacked (get_or a n₁ d)) (unpacked (get_or a n₁ d)) k.1.1
            (subst InOrder head p.second) (not_true (before_row (unpacked (get_or a n₁ d)) (unpacked (get_or a n₁ d))) (row_self (unpacked (get_or a n₁ d))))));
      }

  pub split_end : (b x : List Packed) (r : Result ℕ Unlisted) → Made b 0 (collect_rows (rows lists kept ++ (all_rows firsts ++ all_rows (drop n₁ lists)))) r
      → Made (b ++ x) 0 (collect_rows (rows a n₁ ++ rows_from a n₁ n₂)) r
  split_end b x r m =
      let e : rows lists kept ++ (all_rows firsts ++ all_rows (drop n₁ lists)) ≡ rows a n₁ ++ rows_from a n₁ n₂ =
      sym (append_assoc (rows lists kept) (all_rows firsts) (all_rows (drop n₁ lists))) ∙ ap (λ (z : List Row). z ++ all_rows (drop n₁ lists)) parts ∙ ap (λ (z : List Row). rows a n₁ ++ z) seconds in
      made_front b x (collect_rows (rows a n₁ ++ rows_from a n₁ n₂)) r (made_as 0 b (ap collect_rows e) r m)

-- ---- two lists that are one as they stand
module _ (a : List Packed) (n₁ n₂ : ℕ) (p : Beside a n₁ n₂) where
  pub one_first : n₁ ≡ 0 → InOrder (rows a (n₁ + n₂))
  one_first e = subst InOrder (sym (rows_both a n₁ n₂ ∙ ap (λ (z : ℕ). rows a z ++ rows_from a n₁ n₂) e)) p.second

  pub one_second : n₂ ≡ 0 → InOrder (rows a (n₁ + n₂))
  one_second e = let f : n₁ ≡ n₁ + n₂ = omega arith in subst (λ (z : ℕ). InOrder (rows a z)) f p.first

  pub one_behind : (d : Packed) → 0 < n₁ → 0 < n₂ → before_row (unpacked (get_or a (n₁ - 1) d)) (unpacked (get_or a n₁ d)) ≡ true → InOrder (rows a (n₁ + n₂))
  one_behind d h k l =
      let w = p.within in
      let e : n₁ - 1 + 1 ≡ n₁ = omega arith in
      let u : Row = unpacked (get_or a (n₁ - 1) d) in
      let v : Row = unpacked (get_or a n₁ d) in
      let ws : List Row = rows a (n₁ - 1) in
      let vs : List Row = rows (drop (n₁ + 1) a) (n₂ - 1) in
      let f : rows a n₁ ≡ ws ++ (u ∷ []) = ap (rows a) (sym e) ∙ ap all_rows (take_more a (n₁ - 1) d (omega arith)) ∙ map-append unpacked (take (n₁ - 1) a) (get_or a (n₁ - 1) d ∷ []) in
      let m : n₂ ≡ suc (n₂ - 1) = omega arith in
      let g : rows_from a n₁ n₂ ≡ v ∷ vs = ap (λ (z : List Packed). rows z n₂) (drop_at a n₁ d (omega arith)) ∙ ap (rows (get_or a n₁ d ∷ drop (n₁ + 1) a)) m in
      let o : InOrder (ws ++ (u ∷ v ∷ vs)) = in_order_between ws [] vs u v (subst InOrder f p.first) (subst InOrder g p.second) l in
      subst InOrder (sym (rows_both a n₁ n₂ ∙ ap (λ (z : List Row). z ++ rows_from a n₁ n₂) f ∙ ap (λ (z : List Row). (ws ++ (u ∷ [])) ++ z) g ∙ append_assoc ws (u ∷ []) (v ∷ vs))) o

  pub one_list : (r : Result ℕ Unlisted) → Made a 0 (collect_rows (rows a (n₁ + n₂))) r → Made a (n₁ + n₂ + 65) (collect_rows (rows a n₁ ++ rows_from a n₁ n₂)) r
  one_list r m = made_need (n₁ + n₂ + 65) a (collect_rows (rows a n₁ ++ rows_from a n₁ n₂)) r (omega arith) (made_as 0 a (ap collect_rows (rows_both a n₁ n₂)) r m)
