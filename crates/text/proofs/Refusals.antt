-- The refusals of a text are 18, 19, 3, 8, 9 and 10: the nodes of a statement whose numbers are in range are refused with 8, 9 or 10
-- alone. By induction on the statement, each kind by its node and its children.
use Prim.Native.Nat.{ℕ, zero, suc, ◌/◌, ◌%◌, ◌≤◌, ◌<◌}
use mathlib.Core.Path.{◌≡◌, refl, sym, ap, ◌∙◌, subst}
use mathlib.Core.Logic.{◌⊎◌, inl, inr}
use mathlib.Core.Bool.{Bool, true, false, cond, ◌&&◌, ◌||◌}
use mathlib.Core.Option.{Option, none, some}
use mathlib.Core.List.{List, [], ◌∷◌, ◌++◌, append_assoc, append-nil}
use native.Mathlib.Omega.{arith}
use lib.Dec.{eqb, ltb}
use lib.ListN.{length}
use borrow.Author.Tests.{ltb-false, le-ltb}
use Rattle.sets.specs.Set.{has}
use Rattle.sets.proofs.Booleans.{by_cond, clash}
use Rattle.esterel.specs.Statement.{Statement, nothing, pause, gotopause, emit, exit, signal, present, sequence, parallel, loop, try, size}
use Rattle.esterel.proofs.Sizes.{size_positive}
use Rattle.table.specs.Kinds.{kinds, kind_of, row_of}
use Rattle.table.specs.Reading.{Reading, read, with_one, with_two, read_kind, read_if, read_node, read_from, fault_of, Table, whole_of, table_after, table_of, deepest}
use Rattle.table.specs.Writing.{node, nodes, write_nodes, write}
use Rattle.table.proofs.Nodes.{kind_node, operand_node, length_nodes}
use Rattle.table.proofs.Faults.{fault_none}
use Rattle.table.proofs.Accepted.{read_kind_lem}
use Rattle.table.proofs.Fields.{headed_accepted, headed_written, nodes_written}
use Rattle.table.proofs.ReadBack.{Ranged, Reread, back, refused, read_back}
use Rattle.table.proofs.RoundTrip.{below_nodes}
use Rattle.text.specs.inner.Lexer.{read_text}
use Rattle.text.specs.Reading.{ranged, table_for, table_in}
use Rattle.text.proofs.Reading.{ranged⁻}

-- "8, 9, 10"
abbrev pub Late : ℕ → Type 0
Late w = (w ≡ 8) ⊎ ((w ≡ 9) ⊎ (w ≡ 10))

-- ---- A node whose operand is in range

-- the operand of a kind is in its range
record InRow (k o : ℕ) : Type 0 where
  kind : k ≤ 10
  small : o < 64
  low : (row_of (kind_of k)).least ≤ o
  high : o ≤ (row_of (kind_of k)).most

abbrev Fault : ℕ → Type 0
Fault w = (w ≡ 0) ⊎ Late w

after_two : (a b c d e : Bool) → a ≡ false → b ≡ false → Fault (cond a 6 (cond b 7 (cond c 8 (cond d 9 (cond e 10 0)))))
after_two true b c d e f g = clash refl f
after_two false true c d e f g = clash refl g
after_two false false true d e f g = inr (inl refl)
after_two false false false true e f g = inr (inr (inl refl))
after_two false false false false true f g = inr (inr (inr refl))
after_two false false false false false f g = inl refl

neither : (a b : Bool) → a ≡ false → b ≡ false → (a || b) ≡ false
neither a b f g = rw (f, g)

node_fault : (left tries used k o : ℕ) → InRow k o → Fault (fault_of left tries used (node k o))
unfolding fault_of
node_fault left tries used k o r =
    rw (kind_node k o r.small, operand_node k o r.small)
    (after_two (ltb 10 k) (ltb o (row_of (kind_of k)).least || ltb (row_of (kind_of k)).most o) (eqb left 0) (eqb k 4 && ltb tries o) (eqb k 1 && has used o)
    (le-ltb 10 k r.kind)
    (neither (ltb o (row_of (kind_of k)).least) (ltb (row_of (kind_of k)).most o) (le-ltb o (row_of (kind_of k)).least r.low) (le-ltb (row_of (kind_of k)).most o r.high)))

read_refused : {A : Type 0} (p : Statement) (xs : List ℕ) (u w : ℕ) → read p xs u ≡ Reading.refused w → A
read_refused p xs u w e = let z : ◌≡◌ {A = ℕ} 0 1 = cc in absurd (omega arith)

same_refusal : (v w : ℕ) → Reading.refused v ≡ Reading.refused w → v ≡ w
same_refusal v w e = cc

-- the first node is refused, or what follows is, one deeper
abbrev First : (tries used k o : ℕ) (rest : List ℕ) (w : ℕ) → Type 0
First tries used k o rest w = Late w ⊎ ((less : ℕ) × (read_kind (kind_of k) o (read_from less) tries used rest ≡ Reading.refused w))

first : (left tries used k o : ℕ) (rest : List ℕ) (w : ℕ) → InRow k o → read_from left tries used (node k o ∷ rest) ≡ Reading.refused w → First tries used k o rest w
unfolding read_from read_node
first zero tries used k o rest w r e = go (fault_of 0 tries used (node k o)) refl (node_fault 0 tries used k o r) e
  where
    go : (v : ℕ) → fault_of 0 tries used (node k o) ≡ v → Fault v
        → read_if v (read_kind (kind_of (node k o / 64)) (node k o % 64) (λ tries' used' xs'. Reading.refused 8) tries used rest) ≡ Reading.refused w → First tries used k o rest w
    go zero f g h = absurd (let left = (fault_none 0 tries used (node k o) f).0 in omega arith)
    go (suc v) f (inl g) h = absurd (omega arith)
    go (suc v) f (inr g) h = inl (subst Late (same_refusal (suc v) w h) g)
first (suc left) tries used k o rest w r e = go (fault_of (suc left) tries used (node k o)) (node_fault (suc left) tries used k o r) e
  where
    go : (v : ℕ) → Fault v → read_if v (read_kind (kind_of (node k o / 64)) (node k o % 64) (read_from left) tries used rest) ≡ Reading.refused w → First tries used k o rest w
    go zero g h = inr (left, sym (read_kind_lem k o (read_from left) tries used rest r.small) ∙ h)
    go (suc v) (inl g) h = absurd (omega arith)
    go (suc v) (inr g) h = inl (subst Late (same_refusal (suc v) w h) g)

-- ---- A statement whose operands are in range

abbrev pub Lates : Statement → Type 0
Lates p = (left tries used : ℕ) (ys : List ℕ) (w : ℕ) → read_from left tries used (nodes p ++ ys) ≡ Reading.refused w → Late w

one_refused : (r : Reading) (f : Statement → Statement) (w : ℕ) → with_one r f ≡ Reading.refused w → r ≡ Reading.refused w
one_refused (Reading.refused v) f w e = e
one_refused (read p xs u) f w e = read_refused (f p) xs u w e

leaf : (k o : ℕ) (p : Statement) → InRow k o → nodes p ≡ node k o ∷ []
    → ((tries used less : ℕ) (ys : List ℕ) → (u : ℕ) × (read_kind (kind_of k) o (read_from less) tries used ys ≡ read p ys u)) → Lates p
leaf k o p r n f left tries used ys w e =
    go (first left tries used k o ys w r (sym (ap (λ (x : List ℕ). read_from left tries used (x ++ ys)) n) ∙ e))
  where
    go : First tries used k o ys w → Late w
    go (inl h) = h
    go (inr h) = let s = f tries used h.0 ys in read_refused p ys s.0 w (sym s.1 ∙ h.1)

one : (k o : ℕ) (p q : Statement) (g : Statement → Statement) (more : ℕ → ℕ) → InRow k o → nodes q ≡ node k o ∷ nodes p
    → ((tries used less : ℕ) (ys : List ℕ) → read_kind (kind_of k) o (read_from less) tries used ys ≡ with_one (read_from less (more tries) used ys) g)
    → Lates p → Lates q
one k o p q g more r n f ih left tries used ys w e =
    go (first left tries used k o (nodes p ++ ys) w r (sym (ap (λ (x : List ℕ). read_from left tries used (x ++ ys)) n) ∙ e))
  where
    go : First tries used k o (nodes p ++ ys) w → Late w
    go (inl h) = h
    go (inr h) =
        ih h.0 (more tries) used ys w (one_refused (read_from h.0 (more tries) used (nodes p ++ ys)) g w (sym (f tries used h.0 (nodes p ++ ys)) ∙ h.1))

two : (k o : ℕ) (p q s : Statement) (g : Statement → Statement → Statement) → InRow k o → nodes s ≡ node k o ∷ (nodes p ++ nodes q)
    → ((tries used less : ℕ) (ys : List ℕ) → read_kind (kind_of k) o (read_from less) tries used ys ≡ with_two (read_from less tries used ys) (read_from less tries) g)
    → Ranged p → Lates p → Lates q → Lates s
two k o p q s g r n f in_range_lem ihp ihq left tries used ys w e =
    go (first left tries used k o (nodes p ++ (nodes q ++ ys)) w r
    (sym (ap (λ (x : List ℕ). read_from left tries used (x ++ ys)) n ∙ ap (λ (x : List ℕ). read_from left tries used (node k o ∷ x)) (append_assoc (nodes p) (nodes q) ys)) ∙ e))
  where
    second : (less : ℕ) (x : Reading) → read_from less tries used (nodes p ++ (nodes q ++ ys)) ≡ x → Reread less tries used p (nodes q ++ ys) x
        → with_two x (read_from less tries) g ≡ Reading.refused w → Late w
    second less (Reading.refused v) m O h = subst Late (same_refusal v w h) (ihp less tries used (nodes q ++ ys) v m)
    second less (read p' xs u) m (back b) h =
        let xs-are : xs ≡ nodes q ++ ys = cc in
        ihq less tries u ys w (sym (ap (λ (x : List ℕ). read_from less tries u x) xs-are) ∙ one_refused (read_from less tries u xs) (g p') w h)
    second less (read p' xs u) m (refused v b c) h = read_refused p' xs u v b

    go : First tries used k o (nodes p ++ (nodes q ++ ys)) w → Late w
    go (inl h) = h
    go (inr h) =
        second h.0 (read_from h.0 tries used (nodes p ++ (nodes q ++ ys))) refl (read_back p in_range_lem h.0 tries used (nodes q ++ ys))
        (sym (f tries used h.0 (nodes p ++ (nodes q ++ ys))) ∙ h.1)

label_row : (k l : ℕ) → k ≤ 10 → (row_of (kind_of k)).least ≡ 1 → (row_of (kind_of k)).most ≡ 63 → (1 ≤ l) × (l ≤ 63) → InRow k l
label_row k l h a b r = record { kind = h; small = omega (arith, r.1); low = rw a r.0; high = rw b r.1 }

signal_row : (k S : ℕ) → k ≤ 10 → (row_of (kind_of k)).least ≡ 0 → (row_of (kind_of k)).most ≡ 31 → S ≤ 31 → InRow k S
signal_row k S h a b r = record { kind = h; small = omega arith; low = rw a (omega arith); high = rw b r }

zero_row : (k : ℕ) → k ≤ 10 → (row_of (kind_of k)).least ≡ 0 → InRow k 0
zero_row k h a = record { kind = h; small = omega arith; low = rw a (omega arith); high = omega arith }

lates : (p : Statement) → Ranged p → Lates p
unfolding Ranged nodes read_kind kind_of kinds row_of
lates nothing r = leaf 0 0 nothing (zero_row 0 (omega arith) refl) refl (λ tries used less ys. (_, refl))
lates (pause l) r = leaf 1 l (pause l) (label_row 1 l (omega arith) refl refl r) refl (λ tries used less ys. (_, refl))
lates (gotopause l) r = leaf 2 l (gotopause l) (label_row 2 l (omega arith) refl refl r) refl (λ tries used less ys. (_, refl))
lates (emit S) r = leaf 3 S (emit S) (signal_row 3 S (omega arith) refl refl r) refl (λ tries used less ys. (_, refl))
lates (exit d) r = leaf 4 d (exit d) (label_row 4 d (omega arith) refl refl r) refl (λ tries used less ys. (_, refl))
lates (signal S p) r = one 5 S p (signal S p) (signal S) (λ n. n) (signal_row 5 S (omega arith) refl refl r.0) refl (λ tries used less ys. refl) (lates p r.1)
lates (present S p q) r =
    two 6 S p q (present S p q) (present S) (signal_row 6 S (omega arith) refl refl r.0) refl (λ tries used less ys. refl) r.1 (lates p r.1) (lates q r.2)
lates (sequence p q) r = two 7 0 p q (sequence p q) sequence (zero_row 7 (omega arith) refl) refl (λ tries used less ys. refl) r.0 (lates p r.0) (lates q r.1)
lates (parallel p q) r = two 8 0 p q (parallel p q) parallel (zero_row 8 (omega arith) refl) refl (λ tries used less ys. refl) r.0 (lates p r.0) (lates q r.1)
lates (loop p) r = one 9 0 p (loop p) loop (λ n. n) (zero_row 9 (omega arith) refl) refl (λ tries used less ys. refl) (lates p r)
lates (try p) r = one 10 0 p (try p) try suc (zero_row 10 (omega arith) refl) refl (λ tries used less ys. refl) (lates p r)

-- ---- The table that the statement would have

same_number : (v w : ℕ) → Table.refused v ≡ Table.refused w → v ≡ w
same_number v w e = cc

whole_late : (n : ℕ) (p : Statement) (r : Reading) (w : ℕ) → ((v : ℕ) → r ≡ Reading.refused v → Late v) → Reread deepest 0 0 p [] r → whole_of n r ≡ Table.refused w → Late w
unfolding whole_of
whole_late n p (Reading.refused v) w f O e = subst Late (same_number v w e) (f v refl)
whole_late n p (read q [] u) w f O e = absurd (let z : ◌≡◌ {A = ℕ} 0 1 = cc in omega arith)
whole_late n p (read q (x ∷ xs) u) w f (back b) e = absurd (let z : ◌≡◌ {A = ℕ} 0 1 = cc in omega arith)
whole_late n p (read q (x ∷ xs) u) w f (refused v b c) e = read_refused q (x ∷ xs) u v b

written_late : (p : Statement) (w : ℕ) → Ranged p → size p ≤ 1024 → table_of (write p) ≡ Table.refused w → Late w
unfolding write table_of table_after
written_late p w r few e =
    let few' : length (nodes p) < 4096 = rw (length_nodes p) (omega arith) in
    let fields = below_nodes p r in
    let H = headed_accepted (write_nodes (nodes p)) (length (nodes p)) (headed_written (nodes p) few' fields (rw (length_nodes p) (size_positive p)) (rw (length_nodes p) few)) in
    let O : Reread deepest 0 0 p [] (read_from deepest 0 0 (nodes p)) = subst (λ (l : List ℕ). Reread deepest 0 0 p [] (read_from deepest 0 0 l)) (append-nil (nodes p)) (read_back p r deepest 0 0 []) in
    whole_late (length (nodes p)) p (read_from deepest 0 0 (nodes p)) w (λ v g. lates p r deepest 0 0 [] v (ap (read_from deepest 0 0) (append-nil (nodes p)) ∙ g)) O
    (rw (H, nodes_written (nodes p) few' fields) at e)

-- ---- The refusals of a text

abbrev Unmade : ℕ → Type 0
Unmade w = (w ≡ 19) ⊎ ((w ≡ 3) ⊎ Late w)

-- of one that is read as a statement
statement_refused : (p : Statement) (w : ℕ) → table_for (some p) ≡ Table.refused w → Unmade w
unfolding table_for
statement_refused p w =
    by_cond (λ (r : Table). r ≡ Table.refused w → Unmade w) (ranged p) (cond (ltb 1024 (size p)) (Table.refused 3) (table_of (write p))) (Table.refused 19)
    (λ f. by_cond (λ (r : Table). r ≡ Table.refused w → Unmade w) (ltb 1024 (size p)) (Table.refused 3) (table_of (write p))
    (λ g e. inr (inl (sym (same_number 3 w e))))
    (λ g e. inr (inr (written_late p w (ranged⁻ p f) (ltb-false 1024 (size p) g) e))))
    (λ f e. inl (sym (same_number 19 w e)))

pub text_refused : (bs : List ℕ) (w : ℕ) → table_in bs ≡ Table.refused w → (w ≡ 18) ⊎ Unmade w
unfolding table_in table_for
text_refused bs w = go (read_text bs)
  where
    go : (r : Option Statement) → table_for r ≡ Table.refused w → (w ≡ 18) ⊎ Unmade w
    go none = λ e. inl (sym (same_number 18 w e))
    go (some p) = λ e. inr (statement_refused p w e)

-- 18 is not among them where it is read
never_broken : {A : Type 0} → Unmade 18 → A
never_broken (inl e) = absurd (omega arith)
never_broken (inr (inl e)) = absurd (omega arith)
never_broken (inr (inr (inl e))) = absurd (omega arith)
never_broken (inr (inr (inr (inl e)))) = absurd (omega arith)
never_broken (inr (inr (inr (inr e)))) = absurd (omega arith)

pub read_unbroken : {A : Type 0} (bs : List ℕ) (p : Statement) → read_text bs ≡ some p → table_in bs ≡ Table.refused 18 → A
unfolding table_in
read_unbroken bs p r e = never_broken (statement_refused p 18 (sym (ap table_for r) ∙ e))
