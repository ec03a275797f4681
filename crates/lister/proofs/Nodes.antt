-- The statement at a place, by the kind of the node there: what a pass over the nodes meets at each step. Where a statement is
-- read whole, so are its children.
use mathlib.Core.Path.{◌≡◌, refl, sym, ap, ◌∙◌, subst}
use mathlib.Core.List.{List}
use mathlib.Core.Logic.{inr}
use Prim.Native.Nat.{ℕ, suc, ◌+◌, ◌≤◌, ◌<◌, max}
use native.Mathlib.Omega.{arith}
use native.Mathlib.Decide.{dec_lt}
use lib.ListN.{length, get_or}
use Rattle.esterel.specs.Statement.{Statement, nothing, pause, gotopause, emit, exit, signal, present, sequence, parallel, loop, try, size, depth}
use Rattle.esterel.proofs.Sizes.{size_positive}
use Rattle.table.specs.Kinds.{kinds, kind_of}
use Rattle.table.specs.Reading.{kind_of_node, operand_of}
use Rattle.table.specs.inner.Places.{Placed, placed, place_one, place_two, place_kind, statement_at}
use Rattle.table.proofs.Places.{placed_node, placed_none, next_short, two_same, deeper_same}
use Rattle.lister.specs.inner.Notes.{place_at, part_at, ReadWhole}

-- ---- A statement that is read whole
whole_by : {n : ℕ} {xs : List ℕ} {at : ℕ} (p : Placed) → place_at xs at ≡ p → depth p.statement ≤ 60 → at + size p.statement ≤ p.next → p.next ≤ n → ReadWhole n xs at
whole_by {n} {xs} {at} p e d f w = record {
  shallow = subst (λ (q : Placed). depth q.statement ≤ 60) (sym e) d;
  full = subst (λ (q : Placed). at + size q.statement ≤ q.next) (sym e) f;
  within = subst (λ (q : Placed). q.next ≤ n) (sym e) w;
}

-- one child, and two
pub record One (n : ℕ) (xs : List ℕ) (at : ℕ) (f : Statement → Statement) : Type 0 where
  pub first : ReadWhole n xs (at + 1)
  pub is : place_at xs at ≡ place_one f (place_at xs (at + 1))
  pub less : depth (part_at xs (at + 1)) < depth (part_at xs at)

pub record Two (n : ℕ) (xs : List ℕ) (at : ℕ) (f : Statement → Statement → Statement) : Type 0 where
  pub first : ReadWhole n xs (at + 1)
  pub second : ReadWhole n xs (place_at xs (at + 1)).next
  pub is : place_at xs at ≡ place_two f (place_at xs) (place_at xs (at + 1))
  pub less : (depth (part_at xs (at + 1)) < depth (part_at xs at)) × (depth (part_at xs (place_at xs (at + 1)).next) < depth (part_at xs at))

module _ {n : ℕ} {xs : List ℕ} {at : ℕ} (w : ReadWhole n xs at) where
  pub inside : at < length xs
  unfolding size
  inside = go (dec_lt at (length xs))
    where
      go : Dec (at < length xs) → at < length xs
      go (yes h) = h
      go (no h) = absurd (let f = subst (λ (p : Placed). at + size p.statement ≤ p.next) (placed_none 60 xs at (inr (omega arith))) w.full in omega arith)

  pub before_end : at < n
  before_end = let f = w.full in let g = w.within in let s = size_positive (part_at xs at) in omega arith

  abbrev pub operand_at : ℕ
  operand_at = operand_of (get_or xs at 0)

  node_is : (k : ℕ) → kind_of_node (get_or xs at 0) ≡ k → place_at xs at ≡ place_kind (kind_of k) operand_at (statement_at 59 xs) (at + 1)
  node_is k e = placed_node (record { some = λ z. omega arith; inside = inside; kind = e })

  one_child : (f : Statement → Statement) → ((p : Statement) → depth (f p) ≡ suc (depth p)) → ((p : Statement) → size (f p) ≡ suc (size p))
      → place_at xs at ≡ place_one f (statement_at 59 xs (at + 1)) → One n xs at f
  one_child f deep long e =
      let p : Placed = statement_at 59 xs (at + 1) in
      let d : depth (part_at xs at) ≡ suc (depth p.statement) = ap (λ (q : Placed). depth q.statement) e ∙ deep p.statement in
      let s : size (part_at xs at) ≡ suc (size p.statement) = ap (λ (q : Placed). size q.statement) e ∙ long p.statement in
      let x : (place_at xs at).next ≡ p.next = ap (λ (q : Placed). q.next) e in
      let a = w.shallow in
      let b = w.full in
      let c = w.within in
      let same : place_at xs (at + 1) ≡ p = deeper_same xs 59 (at + 1) (omega arith) in
      let h : depth (part_at xs (at + 1)) ≡ depth p.statement = ap (λ (q : Placed). depth q.statement) same in
      record { first = whole_by p same (omega arith) (omega arith) (omega arith); is = e ∙ ap (place_one f) (sym same); less = omega arith }

  two_children : (f : Statement → Statement → Statement) → ((p q : Statement) → depth (f p q) ≡ suc (max (depth p) (depth q))) → ((p q : Statement) → size (f p q) ≡ suc (size p + size q))
      → place_at xs at ≡ place_two f (statement_at 59 xs) (statement_at 59 xs (at + 1)) → Two n xs at f
  two_children f deep long e =
      let p : Placed = statement_at 59 xs (at + 1) in
      let q : Placed = statement_at 59 xs p.next in
      let d : depth (part_at xs at) ≡ suc (max (depth p.statement) (depth q.statement)) = ap (λ (r : Placed). depth r.statement) e ∙ deep p.statement q.statement in
      let s : size (part_at xs at) ≡ suc (size p.statement + size q.statement) = ap (λ (r : Placed). size r.statement) e ∙ long p.statement q.statement in
      let x : (place_at xs at).next ≡ q.next = ap (λ (r : Placed). r.next) e in
      let a = w.shallow in
      let b = w.full in
      let c = w.within in
      let u = next_short xs 59 (at + 1) in
      let v = next_short xs 59 p.next in
      let t = size_positive q.statement in
      let same : place_at xs (at + 1) ≡ p = deeper_same xs 59 (at + 1) (omega arith) in
      let also : place_at xs p.next ≡ q = deeper_same xs 59 p.next (omega arith) in
      let place : (place_at xs (at + 1)).next ≡ p.next = ap (λ (r : Placed). r.next) same in
      let h : depth (part_at xs (at + 1)) ≡ depth p.statement = ap (λ (r : Placed). depth r.statement) same in
      let k : depth (part_at xs p.next) ≡ depth q.statement = ap (λ (r : Placed). depth r.statement) also in
      let less-second : depth (part_at xs p.next) < depth (part_at xs at) = omega arith in
      let whole-second : ReadWhole n xs p.next = whole_by q also (omega arith) (omega arith) (omega arith) in
      record {
        first = whole_by p same (omega arith) (omega arith) (omega arith);
        second = subst (ReadWhole n xs) (sym place) whole-second;
        is = e ∙ sym (two_same f (statement_at 59 xs) (place_at xs) (at + 1) same also);
        less = (omega arith, subst (λ (z : ℕ). depth (part_at xs z) < depth (part_at xs at)) (sym place) less-second);
      }

  -- ---- the kinds
  pub is_nothing_lem : kind_of_node (get_or xs at 0) ≡ 0 → place_at xs at ≡ placed nothing (at + 1)
  unfolding place_kind kind_of kinds
  is_nothing_lem e = node_is 0 e

  pub is_pause : kind_of_node (get_or xs at 0) ≡ 1 → place_at xs at ≡ placed (pause operand_at) (at + 1)
  unfolding place_kind kind_of kinds
  is_pause e = node_is 1 e

  pub is_gotopause : kind_of_node (get_or xs at 0) ≡ 2 → place_at xs at ≡ placed (gotopause operand_at) (at + 1)
  unfolding place_kind kind_of kinds
  is_gotopause e = node_is 2 e

  pub is_emit : kind_of_node (get_or xs at 0) ≡ 3 → place_at xs at ≡ placed (emit operand_at) (at + 1)
  unfolding place_kind kind_of kinds
  is_emit e = node_is 3 e

  pub is_exit : kind_of_node (get_or xs at 0) ≡ 4 → place_at xs at ≡ placed (exit operand_at) (at + 1)
  unfolding place_kind kind_of kinds
  is_exit e = node_is 4 e

  pub is_signal : kind_of_node (get_or xs at 0) ≡ 5 → One n xs at (signal operand_at)
  unfolding place_kind kind_of kinds depth size
  is_signal e = one_child (signal operand_at) (λ p. refl) (λ p. refl) (node_is 5 e)

  pub is_present : kind_of_node (get_or xs at 0) ≡ 6 → Two n xs at (present operand_at)
  unfolding place_kind kind_of kinds depth size
  is_present e = two_children (present operand_at) (λ p q. refl) (λ p q. refl) (node_is 6 e)

  pub is_sequence : kind_of_node (get_or xs at 0) ≡ 7 → Two n xs at sequence
  unfolding place_kind kind_of kinds depth size
  is_sequence e = two_children sequence (λ p q. refl) (λ p q. refl) (node_is 7 e)

  pub is_parallel : kind_of_node (get_or xs at 0) ≡ 8 → Two n xs at parallel
  unfolding place_kind kind_of kinds depth size
  is_parallel e = two_children parallel (λ p q. refl) (λ p q. refl) (node_is 8 e)

  pub is_loop : kind_of_node (get_or xs at 0) ≡ 9 → One n xs at loop
  unfolding place_kind kind_of kinds depth size
  is_loop e = one_child loop (λ p. refl) (λ p. refl) (node_is 9 e)

  pub is_try : kind_of_node (get_or xs at 0) ≡ 10 → One n xs at try
  unfolding place_kind kind_of kinds depth size
  is_try e = one_child try (λ p. refl) (λ p. refl) (node_is 10 e)

-- of no node nothing is read whole
pub none_whole : {xs : List ℕ} {at : ℕ} → ReadWhole 0 xs at → ⊥
none_whole w = let b = before_end w in omega arith
