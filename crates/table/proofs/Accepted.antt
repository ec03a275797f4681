-- What reading accepts: the nodes that were read are those of the statement, which is valid and no deeper than allowed; the
-- labels that were added are those of its pauses. By induction on the depth that is left, kind by kind.
use mathlib.Core.Path.{◌≡◌, refl, sym, ap, ◌∙◌, subst}
use mathlib.Core.Bool.{true, false}
use mathlib.Core.List.{List, [], ◌∷◌, ◌++◌, append_assoc, append-nil}
use Prim.Native.Nat.{ℕ, zero, suc, ◌/◌, ◌%◌, ◌≤◌, ◌<◌, max}
use native.Mathlib.Omega.{arith}
use lib.ListN.{length}
use Rattle.sets.specs.Set.{has, only, ◌union◌, Apart}
use Rattle.sets.proofs.Booleans.{clash}
use Rattle.sets.proofs.Members.{has_empty, has_only_other, union_empty, apart_union, union_apart⁻, union_assoc}
use Rattle.esterel.specs.Statement.{Statement, pauses, size, depth, Valid}
use Rattle.std.specs.Prelude.{Result, Ok, Err}
use Rattle.table.specs.declared.Refusal.{Refusal}
use Rattle.table.specs.Outcomes.{number_of_refusal}
use Rattle.table.specs.Kinds.{kinds, kind_of}
use Rattle.table.specs.Reading.{Reading, refused, read, with_one, with_two, read_kind, read_if, read_node, read_from, fault_of, header_of, nodes_of, deepest, Table, holds, whole_of, table_after, table_of}
use Rattle.table.specs.Writing.{node, nodes}
use Rattle.table.proofs.Nodes.{kind_node, operand_node, length_nodes}
use Rattle.table.proofs.Cutting.{length_nodes_of}
use Rattle.table.proofs.Header.{Headed, header_accepted}
use Rattle.table.proofs.Faults as sound
use Rattle.table.proofs.Faults.{Faultless, fault_none}

-- the nodes xs, inside `tries` try statements and after pauses with the labels `used`, begin with the statement p, at most
-- `left` deep; then come ys, and the labels are `used'`
pub record ReadAs (left tries used : ℕ) (xs : List ℕ) (p : Statement) (ys : List ℕ) (used' : ℕ) : Type 0 where
  pub here : xs ≡ nodes p ++ ys
  pub labels : used' ≡ used union pauses p
  pub valid : Valid tries p
  pub deep : depth p ≤ left
  pub apart : Apart used (pauses p)

abbrev pub Child : Type 0
Child = ℕ → ℕ → List ℕ → Reading

abbrev pub Faithful : ℕ → Child → Type 0
Faithful left child =
    (tries used : ℕ) (xs : List ℕ) (p : Statement) (ys : List ℕ) (used' : ℕ) → child tries used xs ≡ read p ys used' → ReadAs left tries used xs p ys used'

never : (w : ℕ) (p : Statement) (ys : List ℕ) (used : ℕ) → refused w ≡ read p ys used → ⊥
never w p ys used h = let z : ◌≡◌ {A = ℕ} 0 1 = cc in omega arith

pub read_kind_lem : (k o : ℕ) (child : Child) (tries used : ℕ) (xs : List ℕ) → o < 64
    → read_kind (kind_of (node k o / 64)) (node k o % 64) child tries used xs ≡ read_kind (kind_of k) o child tries used xs
read_kind_lem k o child tries used xs h = rw (kind_node k o h, operand_node k o h)

no_label : (used : ℕ) → Apart used 0
no_label used x h = has_empty x

new_label : (used l : ℕ) → has used l ≡ false → Apart used (only l)
new_label used l h x u = has_only_other l x (λ e. clash (subst (λ (z : ℕ). has used z ≡ true) (sym e) u) h)

module _ (left tries used : ℕ) (child : Child) (ih : Faithful left child) (xs : List ℕ) (p : Statement) (ys : List ℕ) (used' : ℕ) where
  abbrev ReadBehind : ℕ → Type 0
  ReadBehind x = ReadAs (suc left) tries used (x ∷ xs) p ys used'

  -- ---- A statement with no child, with one, with two: f makes it, x is its node
  found : (x : ℕ) (q : Statement) (zs : List ℕ) (u : ℕ) → ReadAs (suc left) tries used (x ∷ xs) q zs u → read q zs u ≡ read p ys used' → ReadBehind x
  found x q zs u a h = rw (← the_statement, ← the_rest, ← the_labels) a
    where
      the_statement : q ≡ p
      the_statement = cc

      the_rest : zs ≡ ys
      the_rest = cc

      the_labels : u ≡ used'
      the_labels = cc

  read_none : (x : ℕ) (q : Statement) (u : ℕ) → nodes q ≡ x ∷ [] → u ≡ used union pauses q → Valid tries q → depth q ≡ 1 → Apart used (pauses q)
      → read q xs u ≡ read p ys used' → ReadBehind x
  read_none x q u n l v d a h = found x q xs u (record { here = rw n; labels = l; valid = v; deep = omega arith; apart = a }) h

  read_one : (x : ℕ) (f : Statement → Statement) (inside : ℕ) → ((p : Statement) → nodes (f p) ≡ x ∷ nodes p) → ((p : Statement) → pauses (f p) ≡ pauses p)
      → ((p : Statement) → Valid inside p → Valid tries (f p)) → ((p : Statement) → depth (f p) ≡ suc (depth p))
      → with_one (child inside used xs) f ≡ read p ys used' → ReadBehind x
  read_one x f inside n l v d h = go (child inside used xs) refl h
    where
      go : (r : Reading) → child inside used xs ≡ r → with_one r f ≡ read p ys used' → ReadBehind x
      go (refused w) e h = absurd (never w p ys used' h)
      go (read q zs u) e h =
          let a = ih inside used xs q zs u e in
          let deep : depth q ≤ left = a.deep in
          found x (f q) zs u
          (record {
            here = rw (n q) (ap (λ (l : List ℕ). x ∷ l) a.here);
            labels = rw (l q) a.labels;
            valid = v q a.valid;
            deep = rw (d q) (omega arith);
            apart = rw (l q) a.apart;
          }) h

  read_two : (x : ℕ) (f : Statement → Statement → Statement) → ((p q : Statement) → nodes (f p q) ≡ x ∷ (nodes p ++ nodes q))
      → ((p q : Statement) → pauses (f p q) ≡ pauses p union pauses q)
      → ((p q : Statement) → Valid tries p → Valid tries q → Apart (pauses p) (pauses q) → Valid tries (f p q))
      → ((p q : Statement) → depth (f p q) ≡ suc (max (depth p) (depth q)))
      → with_two (child tries used xs) (child tries) f ≡ read p ys used' → ReadBehind x
  read_two x f n l v d h = go (child tries used xs) refl h
    where
      second : (q : Statement) (zs : List ℕ) (u : ℕ) → ReadAs left tries used xs q zs u → (r : Reading) → child tries u zs ≡ r
          → with_one r (f q) ≡ read p ys used' → ReadBehind x
      second q zs u a (refused w) e h = absurd (never w p ys used' h)
      second q zs u a (read q' zs' u') e h =
          let b = ih tries u zs q' zs' u' e in
          let deep : depth q ≤ left = a.deep in
          let deep' : depth q' ≤ left = b.deep in
          let (old, new) = union_apart⁻ used (pauses q) (pauses q') (subst (λ (z : ℕ). Apart z (pauses q')) a.labels b.apart) in
          found x (f q q') zs' u'
          (record {
            here = rw (n q q') (ap (λ (l : List ℕ). x ∷ l) (a.here ∙ ap (λ (l : List ℕ). nodes q ++ l) b.here ∙ sym (append_assoc (nodes q) (nodes q') zs')));
            labels = rw (l q q') (b.labels ∙ ap (λ (z : ℕ). z union pauses q') a.labels ∙ union_assoc used (pauses q) (pauses q'));
            valid = v q q' a.valid b.valid new;
            deep = rw (d q q') (omega arith);
            apart = rw (l q q') (apart_union used (pauses q) (pauses q') a.apart old);
          }) h

      go : (r : Reading) → child tries used xs ≡ r → with_two r (child tries) f ≡ read p ys used' → ReadBehind x
      go (refused w) e h = absurd (never w p ys used' h)
      go (read q zs u) e h = second q zs u (ih tries used xs q zs u e) (child tries u zs) refl h

  -- ---- Kind by kind
  kept : (k o : ℕ) → o < 64 → read_kind (kind_of (node k o / 64)) (node k o % 64) child tries used xs ≡ read p ys used'
      → read_kind (kind_of k) o child tries used xs ≡ read p ys used'
  kept k o b h = sym (read_kind_lem k o child tries used xs b) ∙ h

  read_sound : (x : ℕ) → Faultless tries used x → read_kind (kind_of (x / 64)) (x % 64) child tries used xs ≡ read p ys used' → ReadBehind x
  unfolding read_kind kind_of kinds nodes pauses depth Valid
  read_sound x sound.nothing h = read_none x Statement.nothing used refl (sym (union_empty used)) tt refl (no_label used) h
  read_sound x (sound.pause l a b u) h =
      read_none x (Statement.pause l) (used union only l) refl refl (a, b) refl (new_label used l u) (kept 1 l (omega arith) h)
  read_sound x (sound.gotopause l a b) h =
      read_none x (Statement.gotopause l) used refl (sym (union_empty used)) (a, b) refl (no_label used) (kept 2 l (omega arith) h)
  read_sound x (sound.emit S b) h = read_none x (Statement.emit S) used refl (sym (union_empty used)) b refl (no_label used) (kept 3 S (omega arith) h)
  read_sound x (sound.exit d a b c) h =
      read_none x (Statement.exit d) used refl (sym (union_empty used)) (a, b, c) refl (no_label used) (kept 4 d (omega arith) h)
  read_sound x (sound.signal S b) h = read_one x (Statement.signal S) tries (λ p. refl) (λ p. refl) (λ p v. (b, v)) (λ p. refl) (kept 5 S (omega arith) h)
  read_sound x (sound.present S b) h =
      read_two x (Statement.present S) (λ p q. refl) (λ p q. refl) (λ p q v w a. (b, v, w, a)) (λ p q. refl) (kept 6 S (omega arith) h)
  read_sound x sound.sequence h = read_two x Statement.sequence (λ p q. refl) (λ p q. refl) (λ p q v w a. (v, w, a)) (λ p q. refl) h
  read_sound x sound.parallel h = read_two x Statement.parallel (λ p q. refl) (λ p q. refl) (λ p q v w a. (v, w, a)) (λ p q. refl) h
  read_sound x sound.loop h = read_one x Statement.loop tries (λ p. refl) (λ p. refl) (λ p v. v) (λ p. refl) h
  read_sound x sound.try h = read_one x Statement.try (suc tries) (λ p. refl) (λ p. refl) (λ p v. v) (λ p. refl) h

  -- a node that is there: it has no fault, and then goes by its kind
  read_first : (x w : ℕ) → fault_of (suc left) tries used x ≡ w → read_if w (read_kind (kind_of (x / 64)) (x % 64) child tries used xs) ≡ read p ys used' → ReadBehind x
  read_first x zero e h = read_sound x (fault_none (suc left) tries used x e).1 h
  read_first x (suc w) e h = absurd (never (suc w) p ys used' h)

-- no depth is left: whatever the node is, it is refused
too_deep : (child : Child) (tries used x w : ℕ) (xs : List ℕ) (p : Statement) (ys : List ℕ) (used' : ℕ) → fault_of 0 tries used x ≡ w
    → read_if w (read_kind (kind_of (x / 64)) (x % 64) child tries used xs) ≡ read p ys used' → ReadAs 0 tries used (x ∷ xs) p ys used'
too_deep child tries used x zero xs p ys used' e h = absurd (let z = (fault_none 0 tries used x e).0 in omega arith)
too_deep child tries used x (suc w) xs p ys used' e h = absurd (never (suc w) p ys used' h)

pub read_faithful : (left : ℕ) → Faithful left (read_from left)
unfolding read_from read_node
read_faithful zero tries used [] p ys used' h = absurd (never 11 p ys used' h)
read_faithful zero tries used (x ∷ xs) p ys used' h = too_deep (λ tries' used' xs'. refused 8) tries used x (fault_of 0 tries used x) xs p ys used' refl h
read_faithful (suc left) tries used [] p ys used' h = absurd (never 11 p ys used' h)
read_faithful (suc left) tries used (x ∷ xs) p ys used' h =
    read_first left tries used (read_from left) (read_faithful left) xs p ys used' x (fault_of (suc left) tries used x) refl h

-- ---- A table
-- what a table that is accepted holds
pub record Holds (t : List ℕ) (n : ℕ) (p : Statement) : Type 0 where
  pub counted : header_of t ≡ Ok n
  pub header : Headed t n
  pub nodes_are : nodes_of t n ≡ nodes p
  pub count : size p ≡ n
  pub valid : Valid 0 p
  pub deep : depth p ≤ deepest

never_holds : (w n : ℕ) (p : Statement) → Table.refused w ≡ holds n p → ⊥
never_holds w n p h = let z : ◌≡◌ {A = ℕ} 0 1 = cc in omega arith

-- What check accepts is a valid statement
pub accepted : (t : List ℕ) (n : ℕ) (p : Statement) → table_of t ≡ holds n p → Holds t n p
unfolding table_of table_after whole_of
accepted t n p h = go (header_of t) refl h
  where
    made : (m : ℕ) → header_of t ≡ Ok m → (q : Statement) (u : ℕ) → ReadAs deepest 0 0 (nodes_of t m) q [] u → holds m q ≡ holds n p → Holds t n p
    made m c q u a h =
        let same : q ≡ p = cc in
        let count : m ≡ n = cc in
        rw (← same, ← count)
        (let here : nodes_of t m ≡ nodes q = a.here ∙ append-nil (nodes q) in
        record {
          counted = c;
          header = header_accepted t m c;
          nodes_are = here;
          count = sym (length_nodes q) ∙ ap length (sym here) ∙ length_nodes_of t m;
          valid = a.valid;
          deep = a.deep;
        })

    whole : (m : ℕ) → header_of t ≡ Ok m → (r : Reading) → read_from deepest 0 0 (nodes_of t m) ≡ r → whole_of m r ≡ holds n p → Holds t n p
    whole m c (refused w) e h = absurd (never_holds w n p h)
    whole m c (read q [] u) e h = made m c q u (read_faithful deepest 0 0 (nodes_of t m) q [] u e) h
    whole m c (read q (y ∷ ys) u) e h = absurd (never_holds 11 n p h)

    go : (c : Result ℕ Refusal) → header_of t ≡ c → table_after c t ≡ holds n p → Holds t n p
    go (Err w) e h = absurd (never_holds (number_of_refusal w) n p h)
    go (Ok m) e h = whole m e (read_from deepest 0 0 (nodes_of t m)) refl h
