-- The statement at a place of decoded nodes: where the nodes of a statement stand from a place on, it is that statement, and
-- the next place is the one after them. So on an accepted table it is the statement that was read. And what a walk over the
-- nodes meets at each step: the statement by the kind of the node, the place after it, and that more depth changes nothing.
use mathlib.Core.Path.{◌≡◌, refl, sym, ap, ◌∙◌, subst}
use mathlib.Core.Logic.{◌≢◌, ◌⊎◌, inl, inr}
use mathlib.Core.List.{List, ◌∷◌, ◌++◌, append_assoc}
use Prim.Native.Nat.{ℕ, zero, suc, ◌+◌, ◌-◌, ◌≤◌, ◌<◌}
use native.Mathlib.Numerals.{add-one, sub-one}
use native.Mathlib.Nat.{zero-add, le_trans}
use native.Mathlib.Decide.{dec_lt}
use native.Mathlib.Omega.{arith}
use lib.Dec.{ltb}
use lib.ListN.{length, drop, get_or, length-drop}
use lib.Seq.{drop-cons, drop-drop, drop-append_seam}
use borrow.Author.Tests.{lt-ltb, le-ltb, ltb-true}
use Rattle.sets.proofs.Booleans.{by_cond}
use Rattle.esterel.specs.Statement.{Statement, nothing, pause, gotopause, emit, exit, signal, present, sequence, parallel, loop, try, size, depth, Valid}
use Rattle.table.specs.Kinds.{Kind, kinds, kind_of, row_of}
use Rattle.table.specs.Reading.{kind_of_node, operand_of, nodes_of, deepest, holds, table_of}
use Rattle.table.specs.Writing.{node, nodes}
use Rattle.table.specs.inner.Places.{Placed, placed, place_one, place_two, place_kind, statement_at}
use Rattle.table.proofs.Nodes.{kind_node, operand_node, length_nodes, depth_positive}
use Rattle.table.proofs.Accepted.{accepted}

-- ---- Operands that fit a node
unfoldable pub Narrow : Statement → Type 0
Narrow nothing = Unit {0}
Narrow (pause l) = l < 64
Narrow (gotopause l) = l < 64
Narrow (emit S) = S < 64
Narrow (exit d) = d < 64
Narrow (signal S p) = (S < 64) × Narrow p
Narrow (present S p q) = (S < 64) × Narrow p × Narrow q
Narrow (sequence p q) = Narrow p × Narrow q
Narrow (parallel p q) = Narrow p × Narrow q
Narrow (loop p) = Narrow p
Narrow (try p) = Narrow p

pub valid_narrow : (tries : ℕ) (p : Statement) → Valid tries p → Narrow p
unfolding Valid Narrow
valid_narrow tries nothing v = tt
valid_narrow tries (pause l) v = omega arith
valid_narrow tries (gotopause l) v = omega arith
valid_narrow tries (emit S) v = omega arith
valid_narrow tries (exit d) v = omega arith
valid_narrow tries (signal S p) v = (omega arith, valid_narrow tries p v.1)
valid_narrow tries (present S p q) v = (omega arith, valid_narrow tries p v.1, valid_narrow tries q v.2)
valid_narrow tries (sequence p q) v = (valid_narrow tries p v.0, valid_narrow tries q v.1)
valid_narrow tries (parallel p q) v = (valid_narrow tries p v.0, valid_narrow tries q v.1)
valid_narrow tries (loop p) v = valid_narrow tries p v
valid_narrow tries (try p) v = valid_narrow (suc tries) p v

-- ---- The list from a place on
-- what stands at a place, and after it
pub from_place : (xs : List ℕ) (at x : ℕ) (ys : List ℕ) → drop at xs ≡ x ∷ ys → (at < length xs) × (get_or xs at 0 ≡ x) × (drop (at + 1) xs ≡ ys)
from_place xs at x ys h =
    let l : length (drop at xs) ≡ length (x ∷ ys) = ap length h in
    let d : length (drop at xs) ≡ length xs - at = length-drop at xs in
    let b : at < length xs = omega arith in
    let e : get_or xs at 0 ∷ drop (suc at) xs ≡ x ∷ ys = sym (drop-cons xs at 0 b) ∙ h in
    (b, (cc), rw add-one (cc))

-- after the nodes of a statement
pub past_nodes : (xs : List ℕ) (at : ℕ) (p : Statement) (ys : List ℕ) → drop at xs ≡ nodes p ++ ys → drop (at + size p) xs ≡ ys
past_nodes xs at p ys h =
    sym (drop-drop (size p) at xs) ∙ ap (drop (size p)) h ∙ ap (λ (n : ℕ). drop n (nodes p ++ ys)) (sym (length_nodes p)) ∙ drop-append_seam (nodes p) ys

-- ---- The statement at a place
module _ (xs : List ℕ) where
  at_node : (left at k o : ℕ) (ys : List ℕ) → drop at xs ≡ node k o ∷ ys → o < 64
      → statement_at (suc left) xs at ≡ place_kind (kind_of k) o (statement_at left xs) (at + 1)
  unfolding statement_at
  at_node left at k o ys h b =
      let (l, e, r) = from_place xs at (node k o) ys h in
      rw (lt-ltb at (length xs) l, e, kind_node k o b, operand_node k o b)

  -- every statement whose nodes stand at a place is found there
  abbrev Finds : ℕ → Type 0
  Finds left = (p : Statement) (at : ℕ) (ys : List ℕ) → drop at xs ≡ nodes p ++ ys → depth p ≤ left → Narrow p → statement_at left xs at ≡ placed p (at + size p)

  at_one : (left at x : ℕ) → Finds left → (f : Statement → Statement) (p : Statement) (ys : List ℕ) → drop at xs ≡ x ∷ (nodes p ++ ys) → depth p ≤ left → Narrow p
      → place_one f (statement_at left xs (at + 1)) ≡ placed (f p) (at + suc (size p))
  at_one left at x ih f p ys h d n =
      let (l, e, r) = from_place xs at x (nodes p ++ ys) h in
      ap (place_one f) (ih p (at + 1) ys r d n) ∙ ap (placed (f p)) (omega arith)

  at_two : (left at x : ℕ) → Finds left → (f : Statement → Statement → Statement) (p q : Statement) (ys : List ℕ) → drop at xs ≡ x ∷ (nodes p ++ nodes q ++ ys)
      → depth p ≤ left → depth q ≤ left → Narrow p → Narrow q
      → place_two f (statement_at left xs) (statement_at left xs (at + 1)) ≡ placed (f p q) (at + suc (size p + size q))
  at_two left at x ih f p q ys h d e n m =
      let (l, _, r) = from_place xs at x (nodes p ++ nodes q ++ ys) h in
      let first : drop (at + 1) xs ≡ nodes p ++ (nodes q ++ ys) = r ∙ append_assoc (nodes p) (nodes q) ys in
      ap (place_two f (statement_at left xs)) (ih p (at + 1) (nodes q ++ ys) first d n)
      ∙ ap (place_one (f p)) (ih q (at + 1 + size p) ys (past_nodes xs (at + 1) p (nodes q ++ ys) first) e m)
      ∙ ap (placed (f p q)) (omega arith)

  at_statement : (left : ℕ) → Finds left → Finds (suc left)
  unfolding nodes depth size Narrow kind_of kinds place_kind
  at_statement left ih nothing at ys h d n = at_node left at 0 0 ys h (omega arith)
  at_statement left ih (pause l) at ys h d n = at_node left at 1 l ys h n
  at_statement left ih (gotopause l) at ys h d n = at_node left at 2 l ys h n
  at_statement left ih (emit S) at ys h d n = at_node left at 3 S ys h n
  at_statement left ih (exit e) at ys h d n = at_node left at 4 e ys h n
  at_statement left ih (signal S p) at ys h d n = at_node left at 5 S (nodes p ++ ys) h n.0 ∙ at_one left at (node 5 S) ih (signal S) p ys h (omega arith) n.1
  at_statement left ih (present S p q) at ys h d n = at_node left at 6 S (nodes p ++ nodes q ++ ys) h n.0 ∙ at_two left at (node 6 S) ih (present S) p q ys h (omega arith) (omega arith) n.1 n.2
  at_statement left ih (sequence p q) at ys h d n = at_node left at 7 0 (nodes p ++ nodes q ++ ys) h (omega arith) ∙ at_two left at (node 7 0) ih sequence p q ys h (omega arith) (omega arith) n.0 n.1
  at_statement left ih (parallel p q) at ys h d n = at_node left at 8 0 (nodes p ++ nodes q ++ ys) h (omega arith) ∙ at_two left at (node 8 0) ih parallel p q ys h (omega arith) (omega arith) n.0 n.1
  at_statement left ih (loop p) at ys h d n = at_node left at 9 0 (nodes p ++ ys) h (omega arith) ∙ at_one left at (node 9 0) ih loop p ys h (omega arith) n
  at_statement left ih (try p) at ys h d n = at_node left at 10 0 (nodes p ++ ys) h (omega arith) ∙ at_one left at (node 10 0) ih try p ys h (omega arith) n

  pub placed_nodes : (left : ℕ) → Finds left
  placed_nodes zero p at ys h d n = absurd (let l = depth_positive p in omega arith)
  placed_nodes (suc left) p at ys h d n = at_statement left (placed_nodes left) p at ys h d n

-- on an accepted table it is the statement that was read, whatever stands behind the nodes
pub placed_front : (t : List ℕ) (n : ℕ) (p : Statement) (ys : List ℕ) → table_of t ≡ holds n p → statement_at deepest (nodes_of t n ++ ys) 0 ≡ placed p n
placed_front t n p ys h =
    let a = accepted t n p h in
    placed_nodes (nodes_of t n ++ ys) deepest p 0 ys (ap (λ (l : List ℕ). l ++ ys) a.nodes_are) a.deep (valid_narrow 0 p a.valid)
    ∙ ap (placed p) (zero-add (size p) ∙ a.count)

-- ---- A node that is there
-- a node of kind k at a place, with some depth left for it
pub record Node (left : ℕ) (nodes : List ℕ) (at k : ℕ) : Type 0 where
  pub some : left ≢ 0
  pub inside : at < length nodes
  pub kind : kind_of_node (get_or nodes at 0) ≡ k

module _ {left : ℕ} {nodes : List ℕ} {at k : ℕ} (n : Node left nodes at k) where
  pub placed_node : statement_at left nodes at ≡ place_kind (kind_of k) (operand_of (get_or nodes at 0)) (statement_at (left - 1) nodes) (at + 1)
  unfolding statement_at
  placed_node = go left n.some ∙ ap (λ (k : ℕ). place_kind (kind_of k) (operand_of (get_or nodes at 0)) (statement_at (left - 1) nodes) (at + 1)) n.kind
    where
      go : (l : ℕ) → l ≢ 0
          → statement_at l nodes at ≡ place_kind (kind_of (kind_of_node (get_or nodes at 0))) (operand_of (get_or nodes at 0)) (statement_at (l - 1) nodes) (at + 1)
      go zero f = absurd (f refl)
      go (suc m) f = rw (lt-ltb at (length nodes) n.inside, sub-one (suc m))

-- past the last node, or too deep
pub placed_none : (left : ℕ) (nodes : List ℕ) (at : ℕ) → (left ≡ 0) ⊎ (length nodes ≤ at) → statement_at left nodes at ≡ placed Statement.nothing at
unfolding statement_at
placed_none zero nodes at h = refl
placed_none (suc m) nodes at (inl e) = absurd (omega arith)
placed_none (suc m) nodes at (inr h) = rw (le-ltb at (length nodes) h)

-- ---- The place after a statement
-- the place after n statements that stand one after the other
unfoldable pub follow : ℕ → (ℕ → Placed) → ℕ → ℕ
follow zero child at = at
follow (suc n) child at = follow n child (child at).next

pub place_next : (k : Kind) (o : ℕ) (child : ℕ → Placed) (at : ℕ) → (place_kind k o child at).next ≡ follow (row_of k).children child at
unfolding place_kind row_of follow
place_next Kind.nothing o child at = refl
place_next Kind.pause o child at = refl
place_next Kind.gotopause o child at = refl
place_next Kind.emit o child at = refl
place_next Kind.exit o child at = refl
place_next Kind.signal o child at = refl
place_next Kind.present o child at = refl
place_next Kind.sequence o child at = refl
place_next Kind.parallel o child at = refl
place_next Kind.loop o child at = refl
place_next Kind.try o child at = refl
place_next Kind.unused o child at = refl

pub follow_forward : (child : ℕ → Placed) → ((at : ℕ) → at ≤ (child at).next) → (n at : ℕ) → at ≤ follow n child at
unfolding follow
follow_forward child h zero at = omega arith
follow_forward child h (suc n) at = le_trans (h at) (follow_forward child h n (child at).next)

follow_within : (l : ℕ) (child : ℕ → Placed) → ((at : ℕ) → at ≤ l → (child at).next ≤ l) → (n at : ℕ) → at ≤ l → follow n child at ≤ l
unfolding follow
follow_within l child h zero at b = b
follow_within l child h (suc n) at b = follow_within l child h n (child at).next (h at b)

module _ (nodes : List ℕ) where
  pub next_forward : (left at : ℕ) → at ≤ (statement_at left nodes at).next
  unfolding statement_at
  next_forward zero at = omega arith
  next_forward (suc left) at =
      by_cond (λ (p : Placed). at ≤ p.next) (ltb at (length nodes)) _ _
      (λ h. let k = kind_of (kind_of_node (get_or nodes at 0)) in
      let f = follow_forward (statement_at left nodes) (next_forward left) (row_of k).children (at + 1) in
      let e = place_next k (operand_of (get_or nodes at 0)) (statement_at left nodes) (at + 1) in omega arith)
      (λ h. omega arith)

  pub next_within : (left at : ℕ) → at ≤ length nodes → (statement_at left nodes at).next ≤ length nodes
  unfolding statement_at
  next_within zero at b = b
  next_within (suc left) at b =
      by_cond (λ (p : Placed). p.next ≤ length nodes) (ltb at (length nodes)) _ _
      (λ h. let l = ltb-true at (length nodes) h in
      let k = kind_of (kind_of_node (get_or nodes at 0)) in
      let f = follow_within (length nodes) (statement_at left nodes) (next_within left) (row_of k).children (at + 1) (omega arith) in
      let e = place_next k (operand_of (get_or nodes at 0)) (statement_at left nodes) (at + 1) in omega arith)
      (λ h. b)

-- by a depth of at least 1
node_there : (xs : List ℕ) (left at : ℕ) → at < length xs
    → statement_at (suc left) xs at ≡ place_kind (kind_of (kind_of_node (get_or xs at 0))) (operand_of (get_or xs at 0)) (statement_at left xs) (at + 1)
unfolding statement_at
node_there xs left at h = rw (lt-ltb at (length xs) h)

none_there : (xs : List ℕ) (left at : ℕ) → length xs ≤ at → statement_at (suc left) xs at ≡ placed nothing at
none_there xs left at h = placed_none (suc left) xs at (inr h)

-- ---- A statement has at least as many nodes as it takes places
place_short : (k : Kind) (o : ℕ) (child : ℕ → Placed) (at : ℕ) → ((i : ℕ) → (child i).next ≤ i + size (child i).statement)
    → (place_kind k o child (at + 1)).next ≤ at + size (place_kind k o child (at + 1)).statement
unfolding place_kind size
place_short Kind.nothing o child at h = omega arith
place_short Kind.pause o child at h = omega arith
place_short Kind.gotopause o child at h = omega arith
place_short Kind.emit o child at h = omega arith
place_short Kind.exit o child at h = omega arith
place_short Kind.signal o child at h = let a = h (at + 1) in omega arith
place_short Kind.present o child at h = let a = h (at + 1) in let b = h (child (at + 1)).next in omega arith
place_short Kind.sequence o child at h = let a = h (at + 1) in let b = h (child (at + 1)).next in omega arith
place_short Kind.parallel o child at h = let a = h (at + 1) in let b = h (child (at + 1)).next in omega arith
place_short Kind.loop o child at h = let a = h (at + 1) in omega arith
place_short Kind.try o child at h = let a = h (at + 1) in omega arith
place_short Kind.unused o child at h = omega arith

pub next_short : (xs : List ℕ) (left at : ℕ) → (statement_at left xs at).next ≤ at + size (statement_at left xs at).statement
unfolding statement_at
next_short xs zero at = omega arith
next_short xs (suc left) at = go (next_short xs left) (dec_lt at (length xs))
  where
    go : ((i : ℕ) → (statement_at left xs i).next ≤ i + size (statement_at left xs i).statement) → Dec (at < length xs)
        → (statement_at (suc left) xs at).next ≤ at + size (statement_at (suc left) xs at).statement
    go f (yes h) =
        subst (λ (p : Placed). p.next ≤ at + size p.statement) (sym (node_there xs left at h))
        (place_short (kind_of (kind_of_node (get_or xs at 0))) (operand_of (get_or xs at 0)) (statement_at left xs) at f)
    go f (no h) = subst (λ (p : Placed). p.next ≤ at + size p.statement) (sym (none_there xs left at (omega arith))) (omega arith)

-- ---- More depth does not change what is not too deep
pub two_same : (c : Statement → Statement → Statement) (f g : ℕ → Placed) (at : ℕ) → g at ≡ f at → g (f at).next ≡ f (f at).next → place_two c g (g at) ≡ place_two c f (f at)
two_same c f g at a b = ap (place_two c g) a ∙ ap (place_one (c (f at).statement)) b

place_same : (k : Kind) (o : ℕ) (f g : ℕ → Placed) (left at : ℕ) → ((i : ℕ) → depth (f i).statement ≤ left → g i ≡ f i)
    → depth (place_kind k o f at).statement ≤ suc left → place_kind k o g at ≡ place_kind k o f at
unfolding place_kind depth
place_same Kind.nothing o f g left at h d = refl
place_same Kind.pause o f g left at h d = refl
place_same Kind.gotopause o f g left at h d = refl
place_same Kind.emit o f g left at h d = refl
place_same Kind.exit o f g left at h d = refl
place_same Kind.signal o f g left at h d = ap (place_one (signal o)) (h at (omega arith))
place_same Kind.present o f g left at h d = two_same (present o) f g at (h at (omega arith)) (h (f at).next (omega arith))
place_same Kind.sequence o f g left at h d = two_same sequence f g at (h at (omega arith)) (h (f at).next (omega arith))
place_same Kind.parallel o f g left at h d = two_same parallel f g at (h at (omega arith)) (h (f at).next (omega arith))
place_same Kind.loop o f g left at h d = ap (place_one loop) (h at (omega arith))
place_same Kind.try o f g left at h d = ap (place_one try) (h at (omega arith))
place_same Kind.unused o f g left at h d = refl

pub deeper_same : (xs : List ℕ) (left at : ℕ) → depth (statement_at left xs at).statement ≤ left → statement_at (suc left) xs at ≡ statement_at left xs at
deeper_same xs zero at d = absurd (let p = depth_positive (statement_at 0 xs at).statement in omega arith)
deeper_same xs (suc left) at d = go (deeper_same xs left) (dec_lt at (length xs))
  where
    go : ((i : ℕ) → depth (statement_at left xs i).statement ≤ left → statement_at (suc left) xs i ≡ statement_at left xs i) → Dec (at < length xs)
        → statement_at (suc (suc left)) xs at ≡ statement_at (suc left) xs at
    go f (yes h) =
        let e = node_there xs left at h in
        node_there xs (suc left) at h
        ∙ place_same (kind_of (kind_of_node (get_or xs at 0))) (operand_of (get_or xs at 0)) (statement_at left xs) (statement_at (suc left) xs) left (at + 1) f
        (subst (λ (p : Placed). depth p.statement ≤ suc left) e d)
        ∙ sym e
    go f (no h) = none_there xs (suc left) at (omega arith) ∙ sym (none_there xs left at (omega arith))
