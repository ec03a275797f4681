-- The statement that stands at a node, by the node's kind: its text out of the node's own bytes and the texts of its children, where
-- these stand, and where it ends.
use Prim.Native.Nat.{ℕ, suc, ◌+◌, ◌-◌, ◌≤◌, ◌<◌}
use mathlib.Core.Path.{◌≡◌, refl, sym, ap, ◌∙◌, subst}
use mathlib.Core.Bool.{true, false}
use mathlib.Core.List.{List, ◌∷◌, ◌++◌, append_assoc}
use native.Mathlib.Omega.{arith}
use lib.ListN.{length, drop, get_or, length-append, length-drop}
use Rattle.esterel.specs.Statement.{Statement, nothing, pause, gotopause, emit, exit, signal, present, sequence, parallel, loop, try, size, depth, Valid}
use Rattle.esterel.proofs.Sizes.{size_positive}
use Rattle.table.specs.Reading.{kind_of_node, operand_of}
use Rattle.table.specs.Writing.{node, nodes}
use Rattle.table.specs.inner.Places.{Placed, placed, statement_at}
use Rattle.table.proofs.Nodes.{kind_node, operand_node, length_nodes, depth_positive}
use Rattle.table.proofs.Places.{valid_narrow, from_place, past_nodes, placed_nodes}
use Rattle.text.specs.Parts.{End, word}
use Rattle.text.specs.Grammar.{Level}
use Rattle.writer.specs.inner.Texts.{enclosed_at, first_level, second_level, has_two, after, leaf_text, head_text, between_text, tail_text, around_one, around_two, text_at}
use Rattle.writer.specs.inner.Putting.{Standing, Readable, text_there}
use Rattle.sets.proofs.Booleans.{clash}
use Rattle.writer.proofs.Putting.{Pieces, pieces}

-- ---- Where a statement stands

module _ {left : ℕ} {xs : List ℕ} {at : ℕ} {p : Statement} (s : Standing left xs at p) where
  pub stands_there : statement_at left xs at ≡ placed p (at + size p)
  stands_there = placed_nodes xs left p at s.rest s.here s.shallow (valid_narrow s.tries p s.valid)

  pub readable : Readable left xs at
  readable = subst (λ (x : Placed). Standing left xs at x.statement) (sym stands_there) s

  -- its nodes are among those that there are
  pub stands_within : at + size p ≤ 1024
  stands_within =
      let all : length xs - at ≡ size p + length s.rest =
      sym (length-drop at xs) ∙ ap length s.here ∙ length-append (nodes p) s.rest ∙ ap (λ (n : ℕ). n + length s.rest) (length_nodes p) in
      let one = size_positive p in
      omega (arith, s.all)

  pub stands_inside : at < 1024
  stands_inside = let one = size_positive p in omega (arith, stands_within)

  pub stands_deep : 1 ≤ left
  stands_deep = omega (arith, depth_positive p, s.shallow)

-- ---- What stands there, by the kind k and the operand o of the node

pub record Leaf (l : Level) (left : ℕ) (xs : List ℕ) (at k o : ℕ) : Type 0 where
  pub text : text_there l left xs at ≡ leaf_text k o
  pub next : (statement_at left xs at).next ≡ at + 1

-- the first child stands behind the node, the second behind the first
abbrev pub first_of : ℕ → List ℕ → ℕ → Placed
first_of left xs at = statement_at (left - 1) xs (at + 1)

abbrev pub second_of : ℕ → List ℕ → ℕ → Placed
second_of left xs at = statement_at (left - 1) xs (first_of left xs at).next

-- what each writes
abbrev pub first_text : ℕ → ℕ → List ℕ → ℕ → List ℕ
first_text k left xs at = text_at (first_level k) (first_of left xs at).statement

abbrev pub second_text : ℕ → ℕ → List ℕ → ℕ → List ℕ
second_text k left xs at = text_at (second_level k) (second_of left xs at).statement

pub record Pair (l : Level) (left : ℕ) (xs : List ℕ) (at k : ℕ) (behind : List ℕ) : Type 0 where
  pub second : Readable (left - 1) xs (first_of left xs at).next
  pub text : Pieces behind (between_text k) (second_text k left xs at ++ tail_text k (enclosed_at l k))
  pub next : (statement_at left xs at).next ≡ (second_of left xs at).next

pub record Parent (l : Level) (left : ℕ) (xs : List ℕ) (at k o : ℕ) : Type 0 where
  pub first : Readable (left - 1) xs (at + 1)
  pub behind : List ℕ
  pub text : Pieces (text_there l left xs at) (head_text k o (enclosed_at l k)) (first_text k left xs at ++ behind)
  pub alone : has_two k ≡ false → (behind ≡ after (word End)) × ((statement_at left xs at).next ≡ (first_of left xs at).next)
  pub pair : has_two k ≡ true → Pair l left xs at k behind

data Here (l : Level) (left : ℕ) (xs : List ℕ) (at k o : ℕ) : Type 0 where
  leaf : k < 5 → Leaf l left xs at k o → Here l left xs at k o
  parent : 5 ≤ k → Parent l left xs at k o → Here l left xs at k o

module _ (l : Level) {left : ℕ} {xs : List ℕ} {at : ℕ} where
  made_leaf : (k o : ℕ) {p : Statement} → Standing left xs at p → size p ≡ 1 → text_at l p ≡ leaf_text k o → Leaf l left xs at k o
  made_leaf k o s n t =
      let e = stands_there s in
      record { text = ap (λ (x : Placed). text_at l x.statement) e ∙ t; next = ap (λ (x : Placed). x.next) e ∙ ap (λ (m : ℕ). at + m) n }

  module _ (k o : ℕ) where
    made_one : (p : Statement) {f : Statement} → Standing left xs at f → nodes f ≡ node k o ∷ nodes p → size f ≡ suc (size p) → depth f ≡ suc (depth p)
        → (tries : ℕ) → Valid tries p → has_two k ≡ false → text_at l f ≡ around_one l k o (text_at (first_level k) p) → Parent l left xs at k o
    unfolding around_one
    made_one p {f} s n z d tries v one t =
        let (_, _, behind-node) = from_place xs at (node k o) (nodes p ++ s.rest) (s.here ∙ ap (λ (ys : List ℕ). ys ++ s.rest) n) in
        let child : Standing (left - 1) xs (at + 1) p = record { all = s.all; rest = s.rest; here = behind-node; shallow = omega (arith, s.shallow); tries = tries; valid = v } in
        let whole = stands_there s in
        let inner = stands_there child in
        record {
          first = readable child;
          behind = after (word End);
          text = record { is = ap (λ (x : Placed). text_at l x.statement) whole ∙ t ∙ ap (λ (x : Placed). around_one l k o (text_at (first_level k) x.statement)) (sym inner) };
          alone = λ e. (refl, ap (λ (x : Placed). x.next) whole ∙ (omega arith) ∙ sym (ap (λ (x : Placed). x.next) inner));
          pair = λ e. clash e one;
        }

    made_two : (p q : Statement) {f : Statement} → Standing left xs at f → nodes f ≡ node k o ∷ (nodes p ++ nodes q) → size f ≡ suc (size p + size q) → depth p < depth f → depth q < depth f
        → (tries : ℕ) → Valid tries p → Valid tries q → has_two k ≡ true → text_at l f ≡ around_two l k o (text_at (first_level k) p) (text_at (second_level k) q) → Parent l left xs at k o
    unfolding around_two
    made_two p q {f} s n z d d' tries v w two t =
        let (_, _, behind-node) = from_place xs at (node k o) ((nodes p ++ nodes q) ++ s.rest) (s.here ∙ ap (λ (ys : List ℕ). ys ++ s.rest) n) in
        let here : drop (at + 1) xs ≡ nodes p ++ (nodes q ++ s.rest) = behind-node ∙ append_assoc (nodes p) (nodes q) s.rest in
        let one : Standing (left - 1) xs (at + 1) p = record { all = s.all; rest = nodes q ++ s.rest; here = here; shallow = omega (arith, s.shallow); tries = tries; valid = v } in
        let whole = stands_there s in
        let inner = stands_there one in
        let place : (first_of left xs at).next ≡ at + 1 + size p = ap (λ (x : Placed). x.next) inner in
        let other : Standing (left - 1) xs (first_of left xs at).next q = record {
          all = s.all;
          rest = s.rest;
          here = ap (λ (m : ℕ). drop m xs) place ∙ past_nodes xs (at + 1) p (nodes q ++ s.rest) here;
          shallow = omega (arith, s.shallow);
          tries = tries;
          valid = w;
        } in
        let last = stands_there other in
        let end : (second_of left xs at).next ≡ at + size f = ap (λ (x : Placed). x.next) last ∙ (omega arith) in
        record {
          first = readable one;
          behind = between_text k ++ (second_text k left xs at ++ tail_text k (enclosed_at l k));
          text = record {
            is = ap (λ (x : Placed). text_at l x.statement) whole ∙ t
                ∙ ap (λ (x : Placed). around_two l k o (text_at (first_level k) x.statement) (text_at (second_level k) q)) (sym inner)
                ∙ ap (λ (x : Placed). around_two l k o (first_text k left xs at) (text_at (second_level k) x.statement)) (sym last);
          };
          alone = λ e. clash two e;
          pair = λ e. record { second = readable other; text = pieces; next = ap (λ (x : Placed). x.next) whole ∙ sym end };
        }

  -- the kind and the operand that were read from a node
  read_node : (k o m a : ℕ) (ys : List ℕ) → drop at xs ≡ node m a ∷ ys → a < 64 → k ≡ kind_of_node (get_or xs at 0) → o ≡ operand_of (get_or xs at 0) → Here l left xs at m a
      → Here l left xs at k o
  read_node k o m a ys h b e f g =
      let (_, is, _) = from_place xs at (node m a) ys h in
      let kind : m ≡ k = sym (e ∙ ap kind_of_node is ∙ kind_node m a b) in
      let operand : a ≡ o = sym (f ∙ ap operand_of is ∙ operand_node m a b) in
      subst (λ (x : ℕ). Here l left xs at k x) operand (subst (λ (x : ℕ). Here l left xs at x a) kind g)

  here : (p : Statement) → Standing left xs at p → (k o : ℕ) → k ≡ kind_of_node (get_or xs at 0) → o ≡ operand_of (get_or xs at 0) → Here l left xs at k o
  unfolding nodes size depth Valid text_at has_two first_level second_level
  here nothing s k o e f = read_node k o 0 0 s.rest s.here (omega arith) e f (leaf (omega arith) (made_leaf 0 0 s refl refl))
  here (pause n) s k o e f = read_node k o 1 n s.rest s.here (omega (arith, s.valid.1)) e f (leaf (omega arith) (made_leaf 1 n s refl refl))
  here (gotopause n) s k o e f = read_node k o 2 n s.rest s.here (omega (arith, s.valid.1)) e f (leaf (omega arith) (made_leaf 2 n s refl refl))
  here (emit S) s k o e f = read_node k o 3 S s.rest s.here (omega (arith, s.valid)) e f (leaf (omega arith) (made_leaf 3 S s refl refl))
  here (exit d) s k o e f = read_node k o 4 d s.rest s.here (omega (arith, s.valid.1)) e f (leaf (omega arith) (made_leaf 4 d s refl refl))
  here (signal S p) s k o e f =
      read_node k o 5 S (nodes p ++ s.rest) s.here (omega (arith, s.valid.0)) e f
      (parent (omega arith) (made_one 5 S p s refl refl refl s.tries s.valid.1 refl refl))
  here (present S p q) s k o e f =
      read_node k o 6 S ((nodes p ++ nodes q) ++ s.rest) s.here (omega (arith, s.valid.0)) e f
      (parent (omega arith) (made_two 6 S p q s refl refl (omega arith) (omega arith) s.tries s.valid.1 s.valid.2 refl refl))
  here (sequence p q) s k o e f =
      read_node k o 7 0 ((nodes p ++ nodes q) ++ s.rest) s.here (omega arith) e f
      (parent (omega arith) (made_two 7 0 p q s refl refl (omega arith) (omega arith) s.tries s.valid.0 s.valid.1 refl refl))
  here (parallel p q) s k o e f =
      read_node k o 8 0 ((nodes p ++ nodes q) ++ s.rest) s.here (omega arith) e f
      (parent (omega arith) (made_two 8 0 p q s refl refl (omega arith) (omega arith) s.tries s.valid.0 s.valid.1 refl refl))
  here (loop p) s k o e f =
      read_node k o 9 0 (nodes p ++ s.rest) s.here (omega arith) e f
      (parent (omega arith) (made_one 9 0 p s refl refl refl s.tries s.valid refl refl))
  here (try p) s k o e f =
      read_node k o 10 0 (nodes p ++ s.rest) s.here (omega arith) e f
      (parent (omega arith) (made_one 10 0 p s refl refl refl (suc s.tries) s.valid refl refl))

  module _ (s : Readable left xs at) (k o : ℕ) (e : k ≡ kind_of_node (get_or xs at 0)) (f : o ≡ operand_of (get_or xs at 0)) where
    pub leaf_here : k < 5 → Leaf l left xs at k o
    leaf_here b = go (here _ s k o e f)
      where
        go : Here l left xs at k o → Leaf l left xs at k o
        go (leaf c h) = h
        go (parent c h) = absurd (omega arith)

    pub parent_here : 5 ≤ k → Parent l left xs at k o
    parent_here b = go (here _ s k o e f)
      where
        go : Here l left xs at k o → Parent l left xs at k o
        go (leaf c h) = absurd (omega arith)
        go (parent c h) = h
