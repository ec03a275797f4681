-- The nodes of a statement are read back as that statement, or are refused, and that only where it is not valid or too deep.
-- By induction on the statement, each kind by its node and its children.
use mathlib.Core.Path.{◌≡◌, refl, sym, ◌∙◌}
use mathlib.Core.Bool.{false}
use mathlib.Core.List.{List, [], ◌∷◌, ◌++◌, append_assoc}
use Prim.Native.Nat.{ℕ, zero, suc, ◌≤◌, ◌<◌, max}
use native.Mathlib.Omega.{arith}
use Rattle.sets.specs.Set.{has, only, ◌union◌, Apart}
use Rattle.sets.proofs.Members.{has_only, union_empty, union_assoc, apart_sym, apart_union, apart_union⁻}
use Rattle.esterel.specs.Statement.{Statement, nothing, pause, gotopause, emit, exit, signal, present, sequence, parallel, loop, try, pauses, depth, Valid}
use Rattle.table.specs.Kinds.{kinds, kind_of}
use Rattle.table.specs.Reading.{Reading, read, with_one, with_two, read_kind, read_if, read_node, read_from, fault_of, kind_of_node, operand_of}
use Rattle.table.specs.Writing.{node, nodes}
use Rattle.table.proofs.Nodes.{depth_positive}
use Rattle.table.proofs.Faults as sound
use Rattle.table.proofs.Faults.{Faultless, fault_none, none_fault}
use Rattle.table.proofs.Accepted.{Child, read_kind_lem}

-- labels 1 to 63, signals 0 to 31 and levels 1 to 63: all that a node can say of its operand. A statement that stands in a
-- table is Valid besides.
unfoldable pub Ranged : Statement → Type 0
Ranged nothing = Unit {0}
Ranged (pause l) = (1 ≤ l) × (l ≤ 63)
Ranged (gotopause l) = (1 ≤ l) × (l ≤ 63)
Ranged (emit S) = S ≤ 31
Ranged (exit d) = (1 ≤ d) × (d ≤ 63)
Ranged (signal S p) = (S ≤ 31) × Ranged p
Ranged (present S p q) = (S ≤ 31) × Ranged p × Ranged q
Ranged (sequence p q) = Ranged p × Ranged q
Ranged (parallel p q) = Ranged p × Ranged q
Ranged (loop p) = Ranged p
Ranged (try p) = Ranged p

-- p is valid inside `tries` try statements after pauses with the labels `used`, and at most `left` deep
pub record Fits (left tries used : ℕ) (p : Statement) : Type 0 where
  pub valid : Valid tries p
  pub deep : depth p ≤ left
  pub apart : Apart used (pauses p)

-- what reading gives where the nodes of p are followed by ys: p, or a refusal, and that only where p does not fit
pub data Reread (left tries used : ℕ) (p : Statement) (ys : List ℕ) (r : Reading) : Type 0 where
  back : r ≡ read p ys (used union pauses p) → Reread left tries used p ys r
  refused : (w : ℕ) → r ≡ Reading.refused w → (Fits left tries used p → ⊥) → Reread left tries used p ys r

abbrev pub ReadBack : Statement → Type 0
ReadBack p = (left tries used : ℕ) (ys : List ℕ) → Reread left tries used p ys (read_from left tries used (nodes p ++ ys))

-- ---- The first node

-- no depth is left for it
no_depth : (tries used x : ℕ) (xs ys : List ℕ) (p : Statement) → Reread 0 tries used p ys (read_from 0 tries used (x ∷ xs))
unfolding read_from read_node
no_depth tries used x xs ys p = go (fault_of 0 tries used x) refl
  where
    rest : Reading
    rest = read_kind (kind_of (kind_of_node x)) (operand_of x) (λ tries' used' xs'. Reading.refused 8) tries used xs

    go : (w : ℕ) → fault_of 0 tries used x ≡ w → Reread 0 tries used p ys (read_if w rest)
    go zero e = absurd (let h = (fault_none 0 tries used x e).0 in omega arith)
    go (suc w) e = refused (suc w) refl (λ f. let h = depth_positive p in let d = f.deep in omega arith)

-- it has a fault, and then p does not fit, or goes by its kind
by_kind : (left tries used k o : ℕ) (xs ys : List ℕ) (p : Statement) → o < 64 → (Fits (suc left) tries used p → Faultless tries used (node k o))
    → Reread (suc left) tries used p ys (read_kind (kind_of k) o (read_from left) tries used xs)
    → Reread (suc left) tries used p ys (read_from (suc left) tries used (node k o ∷ xs))
unfolding read_from read_node
by_kind left tries used k o xs ys p b s O = rw (read_kind_lem k o (read_from left) tries used xs b) (go (fault_of (suc left) tries used (node k o)) refl)
  where
    go : (w : ℕ) → fault_of (suc left) tries used (node k o) ≡ w → Reread (suc left) tries used p ys (read_if w (read_kind (kind_of k) o (read_from left) tries used xs))
    go zero e = O
    go (suc w) e = refused (suc w) refl (λ f. let z : 0 ≡ suc w = sym (none_fault left tries used (node k o) (s f)) ∙ e in omega arith)

begins : (p : Statement) (k o : ℕ) (rest : List ℕ) → nodes p ≡ node k o ∷ rest → o < 64
    → ((left tries used : ℕ) → Fits left tries used p → Faultless tries used (node k o))
    → ((left tries used : ℕ) (ys : List ℕ) → Reread (suc left) tries used p ys (read_kind (kind_of k) o (read_from left) tries used (rest ++ ys)))
    → ReadBack p
begins p k o rest e b s f zero tries used ys = rw e (no_depth tries used (node k o) (rest ++ ys) ys p)
begins p k o rest e b s f (suc left) tries used ys = rw e (by_kind left tries used k o (rest ++ ys) ys p b (s (suc left) tries used) (f left tries used ys))

-- ---- Its children

one : (left tries inside used : ℕ) (f : Statement → Statement) (p : Statement) (ys : List ℕ) (r : Reading) → pauses (f p) ≡ pauses p
    → (Fits (suc left) tries used (f p) → Fits left inside used p) → Reread left inside used p ys r → Reread (suc left) tries used (f p) ys (with_one r f)
one left tries inside used f p ys r l fit (back e) = back (rw (e, l))
one left tries inside used f p ys r l fit (refused w e no-fit) = refused w (rw e) (λ h. no-fit (fit h))

two : (left tries used : ℕ) (child : Child) (f : Statement → Statement → Statement) (p q : Statement) (xs ys : List ℕ) (r : Reading)
    → pauses (f p q) ≡ pauses p union pauses q → (Fits (suc left) tries used (f p q) → Fits left tries used p)
    → (Fits (suc left) tries used (f p q) → Fits left tries (used union pauses p) q) → Reread left tries used p xs r
    → Reread left tries (used union pauses p) q ys (child tries (used union pauses p) xs) → Reread (suc left) tries used (f p q) ys (with_two r (child tries) f)
two left tries used child f p q xs ys r l fit fit' (refused w e no-fit) second = refused w (rw e) (λ h. no-fit (fit h))
two left tries used child f p q xs ys r l fit fit' (back e) second = rw e (go second)
  where
    go : Reread left tries (used union pauses p) q ys (child tries (used union pauses p) xs)
        → Reread (suc left) tries used (f p q) ys (with_one (child tries (used union pauses p) xs) (f p))
    go (back e') = back (rw (e', l, union_assoc used (pauses p) (pauses q)))
    go (refused w e' no-fit) = refused w (rw e') (λ h. no-fit (fit' h))

-- ---- Kind by kind

no_child : (left tries used : ℕ) (p : Statement) (ys : List ℕ) → pauses p ≡ 0 → Reread left tries used p ys (read p ys used)
no_child left tries used p ys e = back (rw (e, union_empty used))

unused : (used l : ℕ) → Apart used (only l) → has used l ≡ false
unused used l a = apart_sym used (only l) a l (has_only l)

first_fits : (left tries used : ℕ) (f : Statement → Statement → Statement) (p q : Statement) → pauses (f p q) ≡ pauses p union pauses q
    → depth (f p q) ≡ suc (max (depth p) (depth q)) → (Valid tries (f p q) → Valid tries p) → Fits (suc left) tries used (f p q) → Fits left tries used p
first_fits left tries used f p q l d v h =
    let deep : depth (f p q) ≤ suc left = h.deep in
    record { valid = v h.valid; deep = omega arith; apart = (apart_union⁻ used (pauses p) (pauses q) (rw l at h.apart)).0 }

second_fits : (left tries used : ℕ) (f : Statement → Statement → Statement) (p q : Statement) → pauses (f p q) ≡ pauses p union pauses q
    → depth (f p q) ≡ suc (max (depth p) (depth q)) → (Valid tries (f p q) → Valid tries q × Apart (pauses p) (pauses q))
    → Fits (suc left) tries used (f p q) → Fits left tries (used union pauses p) q
second_fits left tries used f p q l d v h =
    let deep : depth (f p q) ≤ suc left = h.deep in
    let before : Apart used (pauses q) = (apart_union⁻ used (pauses p) (pauses q) (rw l at h.apart)).1 in
    record {
      valid = (v h.valid).0;
      deep = omega arith;
      apart = apart_sym (pauses q) (used union pauses p)
          (apart_union (pauses q) used (pauses p) (apart_sym used (pauses q) before) (apart_sym (pauses p) (pauses q) (v h.valid).1));
    }

one_child : (f : Statement → Statement) (k o : ℕ) (inside : ℕ → ℕ) (p : Statement) → nodes (f p) ≡ node k o ∷ nodes p → pauses (f p) ≡ pauses p
    → depth (f p) ≡ suc (depth p) → ((tries : ℕ) → Valid tries (f p) → Valid (inside tries) p) → o < 64
    → ((tries used : ℕ) → Faultless tries used (node k o))
    → ((child : Child) (tries used : ℕ) (xs : List ℕ) → read_kind (kind_of k) o child tries used xs ≡ with_one (child (inside tries) used xs) f)
    → ReadBack p → ReadBack (f p)
one_child f k o inside p n l d v b s r below =
    begins (f p) k o (nodes p) n b (λ left tries used h. s tries used) (λ left tries used ys. rw r
    (one left tries (inside tries) used f p ys (read_from left (inside tries) used (nodes p ++ ys)) l
    (λ h. let deep : depth (f p) ≤ suc left = h.deep in record { valid = v tries h.valid; deep = omega arith; apart = rw l at h.apart })
    (below left (inside tries) used ys)))

two_children : (f : Statement → Statement → Statement) (k o : ℕ) (p q : Statement) → nodes (f p q) ≡ node k o ∷ (nodes p ++ nodes q)
    → pauses (f p q) ≡ pauses p union pauses q → depth (f p q) ≡ suc (max (depth p) (depth q))
    → ((tries : ℕ) → Valid tries (f p q) → Valid tries p × Valid tries q × Apart (pauses p) (pauses q)) → o < 64
    → ((tries used : ℕ) → Faultless tries used (node k o))
    → ((child : Child) (tries used : ℕ) (xs : List ℕ) → read_kind (kind_of k) o child tries used xs ≡ with_two (child tries used xs) (child tries) f)
    → ReadBack p → ReadBack q → ReadBack (f p q)
two_children f k o p q n l d v b s r below below' =
    begins (f p q) k o (nodes p ++ nodes q) n b (λ left tries used h. s tries used) (λ left tries used ys. rw (r, append_assoc (nodes p) (nodes q) ys)
    (two left tries used (read_from left) f p q (nodes q ++ ys) ys (read_from left tries used (nodes p ++ (nodes q ++ ys))) l
    (first_fits left tries used f p q l d (λ h. (v tries h).0)) (second_fits left tries used f p q l d (λ h. ((v tries h).1, (v tries h).2)))
    (below left tries used (nodes q ++ ys)) (below' left tries (used union pauses p) ys)))

pub read_back : (p : Statement) → Ranged p → ReadBack p
unfolding nodes pauses depth Valid Ranged read_kind kind_of kinds
read_back nothing r = begins nothing 0 0 [] refl (omega arith) (λ left tries used h. sound.nothing) (λ left tries used ys. no_child (suc left) tries used nothing ys refl)
read_back (pause l) (a, b) = begins (pause l) 1 l [] refl (omega arith) (λ left tries used h. sound.pause l a b (unused used l h.apart)) (λ left tries used ys. back refl)
read_back (gotopause l) (a, b) =
    begins (gotopause l) 2 l [] refl (omega arith) (λ left tries used h. sound.gotopause l a b) (λ left tries used ys. no_child (suc left) tries used (gotopause l) ys refl)
read_back (emit S) b = begins (emit S) 3 S [] refl (omega arith) (λ left tries used h. sound.emit S b) (λ left tries used ys. no_child (suc left) tries used (emit S) ys refl)
read_back (exit d) (a, b) =
    begins (exit d) 4 d [] refl (omega arith) (λ left tries used h. sound.exit d a b h.valid.2) (λ left tries used ys. no_child (suc left) tries used (exit d) ys refl)
read_back (signal S p) (b, r) =
    one_child (signal S) 5 S (λ tries. tries) p refl refl refl (λ tries v. v.1) (omega arith) (λ tries used. sound.signal S b) (λ child tries used xs. refl) (read_back p r)
read_back (present S p q) (b, r, r') =
    two_children (present S) 6 S p q refl refl refl (λ tries v. (v.1, v.2, v.3)) (omega arith) (λ tries used. sound.present S b) (λ child tries used xs. refl) (read_back p r) (read_back q r')
read_back (sequence p q) (r, r') =
    two_children sequence 7 0 p q refl refl refl (λ tries v. v) (omega arith) (λ tries used. sound.sequence) (λ child tries used xs. refl) (read_back p r) (read_back q r')
read_back (parallel p q) (r, r') =
    two_children parallel 8 0 p q refl refl refl (λ tries v. v) (omega arith) (λ tries used. sound.parallel) (λ child tries used xs. refl) (read_back p r) (read_back q r')
read_back (loop p) r =
    one_child loop 9 0 (λ tries. tries) p refl refl refl (λ tries v. v) (omega arith) (λ tries used. sound.loop) (λ child tries used xs. refl) (read_back p r)
read_back (try p) r = one_child try 10 0 suc p refl refl refl (λ tries v. v) (omega arith) (λ tries used. sound.try) (λ child tries used xs. refl) (read_back p r)
