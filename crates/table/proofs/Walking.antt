-- The walk over decoded nodes is reading, with the place of the next node instead of the nodes that are left: what it comes to
-- at the end, at a fault, and at each shape of a kind.
use mathlib.Core.Path.{◌≡◌, refl, sym, ap, ◌∙◌, subst}
use mathlib.Core.Logic.{◌⊎◌, inl, inr}
use mathlib.Core.Bool.{Bool, true, false, cond}
use mathlib.Core.List.{List, [], ◌∷◌, ◌++◌}
use Prim.Native.Nat.{ℕ, zero, suc, ◌+◌, ◌-◌, ◌/◌, ◌%◌, ◌≤◌, ◌<◌}
use native.Mathlib.Numerals.{add-one, sub-one}
use native.Mathlib.Nat.{add-zero}
use native.Mathlib.Omega.{arith}
use lib.Dec.{eqb}
use lib.ListN.{length, get_or, drop, length-drop, length-append, drop_of_length-le}
use lib.Seq.{drop-cons}
use Rattle.sets.specs.Set.{only, ◌union◌}
use Rattle.esterel.specs.Statement.{Statement, size}
use Rattle.table.specs.Kinds.{kinds, kind_of, row_of}
use Rattle.table.specs.Reading.{Reading, refused, read, with_one, with_two, read_kind, read_node, read_from, fault_of}
use Rattle.table.specs.inner.Loading.{Walked}
use Rattle.table.specs.Writing.{nodes}
use Rattle.table.proofs.Nodes.{length_nodes}
use Rattle.table.proofs.Faults.{fault_none}
use Rattle.table.proofs.Accepted.{Child, read_faithful}
use Rattle.table.proofs.Places.{past_nodes}

-- ---- Reading the first node
read_end : (left tries used : ℕ) → read_from left tries used [] ≡ refused 11
unfolding read_from read_node
read_end zero tries used = refl
read_end (suc left) tries used = refl

read_fault : (left tries used x : ℕ) (xs : List ℕ) (w : ℕ) → fault_of left tries used x ≡ suc w → read_from left tries used (x ∷ xs) ≡ refused (suc w)
unfolding read_from read_node
read_fault zero tries used x xs w e = rw e
read_fault (suc left) tries used x xs w e = rw e

pub read_fine : (left tries used x : ℕ) (xs : List ℕ) → fault_of left tries used x ≡ 0
    → read_from left tries used (x ∷ xs) ≡ read_kind (kind_of (x / 64)) (x % 64) (read_from (left - 1)) tries used xs
unfolding read_from read_node
read_fine zero tries used x xs e = absurd (let l = (fault_none 0 tries used x e).0 in omega arith)
read_fine (suc left) tries used x xs e = rw (e, sub-one (suc left))

-- ---- The shapes of kinds
module _ (o : ℕ) (child : Child) (tries used : ℕ) (xs : List ℕ) where
  leaf_kind : (k : ℕ) → (k ≡ 0) ⊎ (k ≡ 2) ⊎ (k ≡ 3) ⊎ (k ≡ 4) → (p : Statement) × (read_kind (kind_of k) o child tries used xs ≡ read p xs used)
  unfolding read_kind kind_of kinds
  leaf_kind k (inl e) = (Statement.nothing, rw e)
  leaf_kind k (inr (inl e)) = (Statement.gotopause o, rw e)
  leaf_kind k (inr (inr (inl e))) = (Statement.emit o, rw e)
  leaf_kind k (inr (inr (inr e))) = (Statement.exit o, rw e)

-- a kind with children, and the number of try statements around them
pub record Parent (tries k inside : ℕ) : Type 0 where
  pub from : 5 ≤ k
  pub to : k ≤ 10
  pub around : inside ≡ tries + cond (eqb k 10) 1 0

-- how it reads: the row of its kind says whether it has one child or two
abbrev children : ℕ → ℕ
children k = (row_of (kind_of k)).children

data Shape (o : ℕ) (child : Child) (tries used : ℕ) (xs : List ℕ) (k inside : ℕ) : Type 0 where
  one : (f : Statement → Statement) → children k ≡ 1 → read_kind (kind_of k) o child tries used xs ≡ with_one (child inside used xs) f
      → Shape o child tries used xs k inside
  two : (f : Statement → Statement → Statement) → children k ≡ 2
      → read_kind (kind_of k) o child tries used xs ≡ with_two (child inside used xs) (child inside) f → Shape o child tries used xs k inside

module _ (o : ℕ) (child : Child) (tries used : ℕ) (xs : List ℕ) where
  shape_of : (k : ℕ) → 5 ≤ k → k ≤ 10 → Shape o child tries used xs k (tries + cond (eqb k 10) 1 0)
  unfolding read_kind row_of kind_of kinds
  shape_of zero a b = absurd (omega arith)
  shape_of (suc zero) a b = absurd (omega arith)
  shape_of (suc (suc zero)) a b = absurd (omega arith)
  shape_of (suc (suc (suc zero))) a b = absurd (omega arith)
  shape_of (suc (suc (suc (suc zero)))) a b = absurd (omega arith)
  shape_of (suc (suc (suc (suc (suc zero))))) a b = one (Statement.signal o) refl (rw add-zero)
  shape_of (suc (suc (suc (suc (suc (suc zero)))))) a b = two (Statement.present o) refl (rw add-zero)
  shape_of (suc (suc (suc (suc (suc (suc (suc zero))))))) a b = two Statement.sequence refl (rw add-zero)
  shape_of (suc (suc (suc (suc (suc (suc (suc (suc zero)))))))) a b = two Statement.parallel refl (rw add-zero)
  shape_of (suc (suc (suc (suc (suc (suc (suc (suc (suc zero))))))))) a b = one Statement.loop refl (rw add-zero)
  shape_of (suc (suc (suc (suc (suc (suc (suc (suc (suc (suc zero)))))))))) a b = one Statement.try refl (rw add-one)
  shape_of (suc (suc (suc (suc (suc (suc (suc (suc (suc (suc (suc k))))))))))) a b = absurd (omega arith)

  shape : {k inside : ℕ} → Parent tries k inside → Shape o child tries used xs k inside
  shape {k} p = subst (Shape o child tries used xs k) (sym p.around) (shape_of k p.from p.to)

-- ---- Walks
-- a statement around a reading changes neither the place nor the labels
walked_one : (n : ℕ) (q : Reading) (f : Statement → Statement) (r at used : ℕ) → Walked n q r at used → Walked n (with_one q f) r at used
walked_one n (refused w) f r at used h = h
walked_one n (read p ys u) f r at used h = h

-- where reading goes on, the place is that of the nodes that are left
resumes : (n : ℕ) (xs : List ℕ) (left tries at used : ℕ) (p : Statement) (ys : List ℕ) (u : ℕ) → length xs ≡ n → at ≤ n
    → read_from left tries used (drop at xs) ≡ read p ys u → drop (n - length ys) xs ≡ ys
resumes n xs left tries at used p ys u c b e =
    let here : drop at xs ≡ nodes p ++ ys = (read_faithful left tries used (drop at xs) p ys u e).here in
    let all : length (drop at xs) ≡ length (nodes p ++ ys) = ap length here in
    let place : n - length ys ≡ at + size p = omega (arith, length-drop at xs, length-append (nodes p) ys, length_nodes p) in
    ap (λ (k : ℕ). drop k xs) place ∙ past_nodes xs at p ys here

-- the walk over the statement at a place of n nodes
abbrev pub WalkedAt : ℕ → List ℕ → ℕ → ℕ → ℕ → ℕ → ℕ → ℕ → ℕ → Type 0
WalkedAt n xs left tries at used r at' used' = Walked n (read_from left tries used (drop at xs)) r at' used'

pub walk_end : (n : ℕ) (xs : List ℕ) (left tries at used at' used' : ℕ) → length xs ≡ n → n ≤ at → WalkedAt n xs left tries at used 11 at' used'
walk_end n xs left tries at used at' used' c h =
    let past : length xs ≤ at = omega arith in
    rw (drop_of_length-le xs past, read_end left tries used) (refl, omega arith)

from_place : (xs : List ℕ) (at x : ℕ) → at < length xs → x ≡ get_or xs at 0 → drop at xs ≡ x ∷ drop (at + 1) xs
from_place xs at x h e = drop-cons xs at 0 h ∙ ap (λ (k : ℕ). get_or xs at 0 ∷ drop k xs) (sym (add-one at)) ∙ ap (λ (y : ℕ). y ∷ drop (at + 1) xs) (sym e)

-- ---- At a node x of n nodes, of the kind k
pub record At (n : ℕ) (xs : List ℕ) (left tries at used x k : ℕ) : Type 0 where
  pub count : length xs ≡ n
  pub inside : at < length xs
  pub node : x ≡ get_or xs at 0
  pub kind : k ≡ x / 64

module _ {n : ℕ} {xs : List ℕ} {left tries at used x k : ℕ} (f : At n xs left tries at used x k) where
  abbrev rest : List ℕ
  rest = drop (at + 1) xs

  abbrev below : Child
  below = read_from (left - 1)

  abbrev fault : ℕ
  fault = fault_of left tries used x

  -- the walk, from what reading gives
  abbrev Goes : ℕ → ℕ → ℕ → Type 0
  Goes r at' used' = WalkedAt n xs left tries at used r at' used'

  gone : (q : Reading) (r at' used' : ℕ) → read_from left tries used (drop at xs) ≡ q → Walked n q r at' used' → Goes r at' used'
  gone q r at' used' e h = subst (λ (q : Reading). Walked n q r at' used') (sym e) h

  pub walk_fault : (w at' used' : ℕ) → w ≡ fault → (w ≡ 0 → ⊥) → Goes w at' used'
  walk_fault zero at' used' e d = absurd (d refl)
  walk_fault (suc w) at' used' e d =
      gone (refused (suc w)) (suc w) at' used'
      (ap (read_from left tries used) (from_place xs at x f.inside f.node) ∙ read_fault left tries used x rest w (sym e)) (refl, omega arith)

  by_kind : 0 ≡ fault → read_from left tries used (drop at xs) ≡ read_kind (kind_of k) (x % 64) below tries used rest
  by_kind z =
      ap (read_from left tries used) (from_place xs at x f.inside f.node) ∙ read_fine left tries used x rest (sym z)
      ∙ ap (λ (k : ℕ). read_kind (kind_of k) (x % 64) below tries used rest) (sym f.kind)

  -- a node without children: its fault, or the statement
  went : (p : Statement) (u w : ℕ) → read_kind (kind_of k) (x % 64) below tries used rest ≡ read p rest u → w ≡ fault → Goes w (at + 1) u
  went p u zero e h =
      let count : length xs ≡ n = f.count in
      let inside : at < length xs = f.inside in
      gone (read p rest u) 0 (at + 1) u (by_kind h ∙ e) (refl, (omega (arith, length-drop (at + 1) xs)), refl)
  went p u (suc w) e h = walk_fault (suc w) (at + 1) u h (λ z. omega arith)

  pub walk_leaf : (k ≡ 0) ⊎ (k ≡ 2) ⊎ (k ≡ 3) ⊎ (k ≡ 4) → (w : ℕ) → w ≡ fault → Goes w (at + 1) used
  walk_leaf s w h =
      let (p, e) = leaf_kind (x % 64) below tries used rest k s in
      went p used w e h

  pub walk_pause : k ≡ 1 → (o used' w : ℕ) → o ≡ x % 64 → (w ≡ 0 → used' ≡ used union only o) → w ≡ fault → Goes w (at + 1) used'
  unfolding read_kind kind_of kinds
  walk_pause e o used' zero q u h = went (Statement.pause o) used' 0 (rw (e, u refl, q)) h
  walk_pause e o used' (suc w) q u h = walk_fault (suc w) (at + 1) used' h (λ z. omega arith)

  -- a node with children: the only one, or the first one, which stops the walk or is followed by the second
  module _ {inside : ℕ} (p : Parent tries k inside) (z : 0 ≡ fault) where
    abbrev first : Reading
    first = below inside used rest

    abbrev shaped : Shape (x % 64) below tries used rest k inside
    shaped = shape (x % 64) below tries used rest p

    pub walk_first : (r at' used' at'' used'' : ℕ) → (r ≡ 0 → ⊥) → WalkedAt n xs (left - 1) inside (at + 1) used r at'' used'' → Goes r at' used'
    walk_first r at' used' at'' used'' d h = go shaped
      where
        stops : (q : Reading) → Walked n q r at'' used'' → Walked n q r at' used'
        stops (refused w) g = g
        stops (read p ys u) g = absurd (d g.0)

        both : (q : Reading) (g : Statement → Statement → Statement) → Walked n q r at'' used'' → Walked n (with_two q (below inside) g) r at' used'
        both (refused w) g j = j
        both (read p ys u) g j = absurd (d j.0)

        go : Shape (x % 64) below tries used rest k inside → Goes r at' used'
        go (one g c e) = gone (with_one first g) r at' used' (by_kind z ∙ e) (walked_one n first g r at' used' (stops first h))
        go (two g c e) = gone (with_two first (below inside) g) r at' used' (by_kind z ∙ e) (both first g h)

    pub walk_only : (r at' used' : ℕ) → (children k ≡ 2 → ⊥) → WalkedAt n xs (left - 1) inside (at + 1) used r at' used' → Goes r at' used'
    walk_only r at' used' c h = go shaped
      where
        go : Shape (x % 64) below tries used rest k inside → Goes r at' used'
        go (one g c e) = gone (with_one first g) r at' used' (by_kind z ∙ e) (walked_one n first g r at' used' h)
        go (two g d e) = absurd (c d)

    pub walk_second : (r at' used' r' next labels : ℕ) → children k ≡ 2 → r' ≡ 0 → WalkedAt n xs (left - 1) inside (at + 1) used r' next labels
        → WalkedAt n xs (left - 1) inside next labels r at' used' → Goes r at' used'
    walk_second r at' used' r' next labels c none h j = go shaped
      where
        both : (q : Reading) (g : Statement → Statement → Statement) → first ≡ q → Walked n q r' next labels → Walked n (with_two q (below inside) g) r at' used'
        both (refused w) g i m = absurd (let (e, l) = m in omega arith)
        both (read p ys u) g i m =
            let count : length xs ≡ n = f.count in
            let within : at < length xs = f.inside in
            let after : drop next xs ≡ ys = ap (λ (k : ℕ). drop k xs) m.1 ∙ resumes n xs (left - 1) inside (at + 1) used p ys u f.count (omega arith) i in
            walked_one n (below inside u ys) (g p) r at' used'
            (subst (λ (l : List ℕ). Walked n (below inside u l) r at' used') after
            (subst (λ (v : ℕ). Walked n (below inside v (drop next xs)) r at' used') m.2 j))

        go : Shape (x % 64) below tries used rest k inside → Goes r at' used'
        go (one g d e) = absurd (omega arith)
        go (two g d e) = gone (with_two first (below inside) g) r at' used' (by_kind z ∙ e) (both first g refl h)

-- ---- Where a walk has come to: what it comes to from here, it comes to from where it began
pub record Onward (n : ℕ) (xs : List ℕ) (left tries at used left' tries' at' used' : ℕ) : Type 0 where
  pub deeper : left' ≤ left
  pub below : tries' + left' ≤ tries + left
  pub leads : (r end labels : ℕ) → WalkedAt n xs left' tries' at' used' r end labels → WalkedAt n xs left tries at used r end labels

pub onward : (n : ℕ) (xs : List ℕ) (left tries at used : ℕ) → Onward n xs left tries at used left tries at used
onward n xs left tries at used = record { deeper = omega arith; below = omega arith; leads = λ r end labels h. h }

-- a node adds one try at most around its children
pub few : {tries k inside : ℕ} → Parent tries k inside → inside ≤ tries + 1
few {tries} {k} p = let a = p.around in let b = small (eqb k 10) in omega arith
  where
    small : (b : Bool) → cond b 1 0 ≤ 1
    small true = omega arith
    small false = omega arith

module _ {n : ℕ} {xs : List ℕ} {left₀ tries₀ at₀ used₀ left tries at used k inside : ℕ} (o : Onward n xs left₀ tries₀ at₀ used₀ left tries at used)
    (p : Parent tries k inside) (some : 1 ≤ left) where
  -- the depth and the tries of a child
  pub onward_first : (left - 1 ≤ left₀) × (inside + (left - 1) ≤ tries₀ + left₀)
  onward_first = let a = o.deeper in let b = few p in let c = o.below in (omega arith, omega arith)

  -- the walk goes on over the only child of a node, or over the second, behind the first
  module _ {x : ℕ} (f : At n xs left tries at used x k) (z : 0 ≡ fault_of left tries used x) where
    pub onward_only : (children k ≡ 2 → ⊥) → Onward n xs left₀ tries₀ at₀ used₀ (left - 1) inside (at + 1) used
    onward_only c =
        record { deeper = onward_first.0; below = onward_first.1; leads = λ r end labels h. o.leads r end labels (walk_only f p z r end labels c h) }

    pub onward_second : (next labels : ℕ) → children k ≡ 2 → WalkedAt n xs (left - 1) inside (at + 1) used 0 next labels
        → Onward n xs left₀ tries₀ at₀ used₀ (left - 1) inside next labels
    onward_second next labels c h =
        record { deeper = onward_first.0; below = onward_first.1; leads = λ r end more j. o.leads r end more (walk_second f p z r end more 0 next labels c refl h j) }
