-- The pauses among nodes: how many there are and their labels, node by node. Where no label is used twice there are at most 63, and
-- the nodes of a valid statement use none twice.
use mathlib.Core.Path.{◌≡◌, refl, sym, ap, ap₂, ◌∙◌, subst}
use mathlib.Core.Bool.{Bool, true, false, cond, ◌||◌}
use mathlib.Core.List.{List, [], ◌∷◌, ◌++◌}
use Prim.Native.Nat.{ℕ, zero, suc, ◌+◌, ◌-◌, ◌≤◌, ◌<◌}
use native.Mathlib.Omega.{arith}
use native.Mathlib.Decide.{ℕ_discrete}
use lib.Dec.{eqb}
use lib.ListN.{take, drop, get_or}
use lib.Seq.{drop-cons, drop-drop, get_or-take, length-take-le}
use borrow.Author.Tests.{eq-eqb, ne_eqb}
use Rattle.sets.specs.Set.{has, only, ◌union◌, Apart, count}
use Rattle.sets.proofs.Members.{has_empty, has_union, has_only, has_only_other, empty_union, union_empty, union_assoc, in_left, in_right}
use Rattle.sets.proofs.Counts.{count_more, count_labels}
use Rattle.esterel.specs.Statement.{Statement, nothing, pause, gotopause, emit, exit, signal, present, sequence, parallel, loop, try, pauses, Valid}
use Rattle.table.specs.Reading.{kind_of_node, operand_of}
use Rattle.table.specs.Writing.{node, nodes}
use Rattle.table.proofs.Nodes.{kind_node, operand_node}
use Rattle.list.specs.inner.Notes.{pauses_in, labels_in, Distinct, onward, pauses_from, labels_from, Passable}

-- ---- one node more in front
module _ (x : ℕ) (xs : List ℕ) where
  pause_more : kind_of_node x ≡ 1 → (pauses_in (x ∷ xs) ≡ pauses_in xs + 1) × (labels_in (x ∷ xs) ≡ only (operand_of x) union labels_in xs)
  unfolding pauses_in labels_in
  pause_more e =
      let b = eq-eqb (kind_of_node x) 1 e in
      let c : cond (eqb (kind_of_node x) 1) 1 0 + pauses_in xs ≡ 1 + pauses_in xs = ap (λ (z : Bool). cond z 1 0 + pauses_in xs) b in
      (c ∙ (omega arith), ap (λ (z : Bool). cond z (only (operand_of x)) 0 union labels_in xs) b)

  no_pause : (kind_of_node x ≡ 1 → ⊥) → (pauses_in (x ∷ xs) ≡ pauses_in xs) × (labels_in (x ∷ xs) ≡ labels_in xs)
  unfolding pauses_in labels_in
  no_pause h =
      let b = ne_eqb (kind_of_node x) 1 h in
      let c : cond (eqb (kind_of_node x) 1) 1 0 + pauses_in xs ≡ 0 + pauses_in xs = ap (λ (z : Bool). cond z 1 0 + pauses_in xs) b in
      (c ∙ (omega arith), ap (λ (z : Bool). cond z (only (operand_of x)) 0 union labels_in xs) b ∙ empty_union (labels_in xs))

neither : (a b x : ℕ) → has a x ≡ false → has b x ≡ false → has (a union b) x ≡ false
neither a b x f g = has_union a b x ∙ ap₂ ◌||◌ f g

-- ---- at most 63, since the labels are some of 1 to 63
counted : (xs : List ℕ) → Distinct xs → (pauses_in xs ≤ count 64 (labels_in xs)) × (has (labels_in xs) 0 ≡ false)
unfolding Distinct pauses_in labels_in
counted [] d = (omega arith, has_empty 0)
counted (x ∷ xs) d = go (counted xs d.1) (ℕ_discrete (kind_of_node x) 1)
  where
    l : ℕ
    l = labels_in xs

    o : ℕ
    o = operand_of x

    go : (pauses_in xs ≤ count 64 l) × (has l 0 ≡ false) → Dec (kind_of_node x ≡ 1) → (pauses_in (x ∷ xs) ≤ count 64 (labels_in (x ∷ xs))) × (has (labels_in (x ∷ xs)) 0 ≡ false)
    go (c, z) (yes e) =
        let m = pause_more x xs e in
        let (g, f) = d.0 e in
        let k = count_more 64 l (only o union l) o (in_right (only o) l) (omega arith) f (in_left (only o) l o (has_only o)) in
        let n : pauses_in (x ∷ xs) ≤ count 64 (only o union l) = omega (arith, m.0, c, k) in
        (subst (λ (z : ℕ). pauses_in (x ∷ xs) ≤ count 64 z) (sym m.1) n, ap (λ (z : ℕ). has z 0) m.1 ∙ neither (only o) l 0 (has_only_other o 0 (λ q. omega arith)) z)
    go (c, z) (no h) =
        let m = no_pause x xs h in
        let n : pauses_in (x ∷ xs) ≤ count 64 l = omega (arith, m.0, c) in
        (subst (λ (z : ℕ). pauses_in (x ∷ xs) ≤ count 64 z) (sym m.1) n, ap (λ (z : ℕ). has z 0) m.1 ∙ z)

at_most_63 : (xs : List ℕ) → Distinct xs → pauses_in xs ≤ 63
at_most_63 xs d =
    let (c, z) = counted xs d in
    omega (arith, c, count_labels (labels_in xs) z)

distinct_drop : (i : ℕ) (xs : List ℕ) → Distinct xs → Distinct (drop i xs)
unfolding Distinct
distinct_drop zero xs d = d
distinct_drop (suc i) [] d = d
distinct_drop (suc i) (x ∷ xs) d = distinct_drop i xs d.1

fewer_dropped : (i : ℕ) (xs : List ℕ) → pauses_in (drop i xs) ≤ pauses_in xs
unfolding pauses_in
fewer_dropped zero xs = omega arith
fewer_dropped (suc i) [] = omega arith
fewer_dropped (suc i) (x ∷ xs) = let h = fewer_dropped i xs in omega arith

-- ---- from a place on
pub fewer_onward : (n : ℕ) (xs : List ℕ) (j i : ℕ) → j ≤ i → pauses_from n xs i ≤ pauses_from n xs j
fewer_onward n xs j i h =
    let e : j + (i - j) ≡ i = omega arith in
    subst (λ (l : List ℕ). pauses_in l ≤ pauses_from n xs j) (drop-drop (i - j) j (take n xs) ∙ ap (λ (k : ℕ). drop k (take n xs)) e) (fewer_dropped (i - j) (onward n xs j))

module _ {n : ℕ} {xs : List ℕ} (p : Passable n xs) where
  onward_node : (at : ℕ) → at < n → onward n xs at ≡ get_or xs at 0 ∷ onward n xs (at + 1)
  onward_node at h =
      let e : suc at ≡ at + 1 = omega arith in
      let l = length-take-le n xs (p.all) in
      drop-cons (take n xs) at 0 (omega arith) ∙ ap₂ (λ (x : ℕ) (ys : List ℕ). x ∷ ys) (get_or-take n xs at 0 h) (ap (λ (i : ℕ). drop i (take n xs)) e)

  pub here_pause : {at : ℕ} → at < n → kind_of_node (get_or xs at 0) ≡ 1
      → (pauses_from n xs at ≡ pauses_from n xs (at + 1) + 1) × (labels_from n xs at ≡ only (operand_of (get_or xs at 0)) union labels_from n xs (at + 1))
  here_pause {at} h e =
      let o = onward_node at h in
      let m = pause_more (get_or xs at 0) (onward n xs (at + 1)) e in
      (ap pauses_in o ∙ m.0, ap labels_in o ∙ m.1)

  pub here_none : {at : ℕ} → at < n → (kind_of_node (get_or xs at 0) ≡ 1 → ⊥) → (pauses_from n xs at ≡ pauses_from n xs (at + 1)) × (labels_from n xs at ≡ labels_from n xs (at + 1))
  here_none {at} h e =
      let o = onward_node at h in
      let m = no_pause (get_or xs at 0) (onward n xs (at + 1)) e in
      (ap pauses_in o ∙ m.0, ap labels_in o ∙ m.1)

  pub few_from : (at : ℕ) → pauses_from n xs at ≤ 63
  few_from at = at_most_63 (onward n xs at) (distinct_drop at (take n xs) p.distinct)

  pub here_fresh : {at : ℕ} → at < n → kind_of_node (get_or xs at 0) ≡ 1 → has (labels_from n xs (at + 1)) (operand_of (get_or xs at 0)) ≡ false
  unfolding Distinct
  here_fresh {at} h e = ((subst Distinct (onward_node at h) (distinct_drop at (take n xs) p.distinct)).0 e).1

-- ---- the nodes of a valid statement
labels_append : (xs ys : List ℕ) → labels_in (xs ++ ys) ≡ labels_in xs union labels_in ys
unfolding labels_in
labels_append [] ys = sym (empty_union (labels_in ys))
labels_append (x ∷ xs) ys =
    let own = cond (eqb (kind_of_node x) 1) (only (operand_of x)) 0 in
    ap (λ (z : ℕ). own union z) (labels_append xs ys) ∙ sym (union_assoc own (labels_in xs) (labels_in ys))

distinct_append : (xs ys : List ℕ) → Distinct xs → Distinct ys → Apart (labels_in xs) (labels_in ys) → Distinct (xs ++ ys)
unfolding Distinct labels_in
distinct_append [] ys d e a = e
distinct_append (x ∷ xs) ys d e a = (own, distinct_append xs ys d.1 e (λ y h. a y (in_right (cond (eqb (kind_of_node x) 1) (only (operand_of x)) 0) (labels_in xs) y h)))
  where
    own : kind_of_node x ≡ 1 → (1 ≤ operand_of x) × (has (labels_in (xs ++ ys)) (operand_of x) ≡ false)
    own k =
        let o = operand_of x in
        let (g, f) = d.0 k in
        let h : has (labels_in (x ∷ xs)) o ≡ true = ap (λ (z : ℕ). has z o) (pause_more x xs k).1 ∙ in_left (only o) (labels_in xs) o (has_only o) in
        (g, ap (λ (z : ℕ). has z o) (labels_append xs ys) ∙ neither (labels_in xs) (labels_in ys) o f (a o h))

-- nodes whose labels are those of a set, none twice
record Fresh (xs : List ℕ) (m : ℕ) : Type 0 where
  labels : labels_in xs ≡ m
  distinct : Distinct xs

fresh_none : Fresh [] 0
unfolding labels_in Distinct
fresh_none = record { labels = refl; distinct = tt }

fresh_cons : (k o : ℕ) {xs : List ℕ} {m : ℕ} → o < 64 → (k ≡ 1 → ⊥) → Fresh xs m → Fresh (node k o ∷ xs) m
unfolding Distinct
fresh_cons k o {xs} {m} h f r =
    let other : kind_of_node (node k o) ≡ 1 → ⊥ = λ e. f (sym (kind_node k o h) ∙ e) in
    record { labels = (no_pause (node k o) xs other).1 ∙ r.labels; distinct = (λ e. absurd (other e), r.distinct) }

fresh_pause : (l : ℕ) → (1 ≤ l) × (l ≤ 63) → Fresh (node 1 l ∷ []) (only l)
unfolding Distinct labels_in
fresh_pause l (a, b) =
    let o = operand_node 1 l (omega arith) in
    record {
      labels = (pause_more (node 1 l) [] (kind_node 1 l (omega arith))).1 ∙ ap (λ (z : ℕ). only z union 0) o ∙ union_empty (only l);
      distinct = (λ e. (omega arith, has_empty (operand_of (node 1 l))), tt);
    }

fresh_two : {xs ys : List ℕ} {a b : ℕ} → Fresh xs a → Fresh ys b → Apart a b → Fresh (xs ++ ys) (a union b)
fresh_two {xs} {ys} {a} {b} r s h = record {
  labels = labels_append xs ys ∙ ap₂ ◌union◌ r.labels s.labels;
  distinct = distinct_append xs ys r.distinct s.distinct
      (λ x e. ap (λ (z : ℕ). has z x) s.labels ∙ h x (sym (ap (λ (z : ℕ). has z x) r.labels) ∙ e));
}

fresh_nodes : (tries : ℕ) (p : Statement) → Valid tries p → Fresh (nodes p) (pauses p)
unfolding nodes Valid pauses
fresh_nodes tries nothing v = fresh_cons 0 0 (omega arith) (λ e. omega arith) fresh_none
fresh_nodes tries (pause l) v = fresh_pause l v
fresh_nodes tries (gotopause l) v = fresh_cons 2 l (omega arith) (λ e. omega arith) fresh_none
fresh_nodes tries (emit S) v = fresh_cons 3 S (omega arith) (λ e. omega arith) fresh_none
fresh_nodes tries (exit d) v = fresh_cons 4 d (omega arith) (λ e. omega arith) fresh_none
fresh_nodes tries (signal S p) v = fresh_cons 5 S (omega arith) (λ e. omega arith) (fresh_nodes tries p v.1)
fresh_nodes tries (present S p q) v =
    fresh_cons 6 S (omega arith) (λ e. omega arith) (fresh_two (fresh_nodes tries p v.1) (fresh_nodes tries q v.2) v.3)
fresh_nodes tries (sequence p q) v = fresh_cons 7 0 (omega arith) (λ e. omega arith) (fresh_two (fresh_nodes tries p v.0) (fresh_nodes tries q v.1) v.2)
fresh_nodes tries (parallel p q) v = fresh_cons 8 0 (omega arith) (λ e. omega arith) (fresh_two (fresh_nodes tries p v.0) (fresh_nodes tries q v.1) v.2)
fresh_nodes tries (loop p) v = fresh_cons 9 0 (omega arith) (λ e. omega arith) (fresh_nodes tries p v)
fresh_nodes tries (try p) v = fresh_cons 10 0 (omega arith) (λ e. omega arith) (fresh_nodes (suc tries) p v)

pub distinct_nodes : (p : Statement) → Valid 0 p → Distinct (nodes p)
distinct_nodes p v = (fresh_nodes 0 p v).distinct
