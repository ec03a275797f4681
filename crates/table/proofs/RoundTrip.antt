-- Reading and writing are inverse, and a statement that no table may hold is never read as another. From the nodes that are
-- read back (ReadBack) and the fields of the bytes (Fields).
use mathlib.Core.Path.{◌≡◌, refl, sym, ap, ◌∙◌, subst}
use mathlib.Core.Logic.{◌↔◌}
use mathlib.Core.List.{List, [], ◌∷◌, ◌++◌, append-nil}
use Prim.Native.Nat.{ℕ, suc, ◌≤◌, ◌<◌}
use native.Mathlib.Decide.{dec_le}
use native.Mathlib.Omega.{arith}
use lib.ListN.{length}
use Rattle.sets.specs.Set.{◌union◌}
use Rattle.sets.proofs.Booleans.{clash}
use Rattle.sets.proofs.Members.{has_empty}
use Rattle.esterel.specs.Statement.{Statement, nothing, pause, gotopause, emit, exit, signal, present, sequence, parallel, loop, try, pauses, size, depth, Valid}
use Rattle.esterel.proofs.Sizes.{size_positive}
use Rattle.table.specs.Bits.{bits, Below}
use Rattle.table.specs.Reading.{Reading, read_from, length_of, header_of, deepest, Table, holds, whole_of, table_after, table_of}
use Rattle.table.specs.Writing.{node, nodes, Allowed, node_bits, write_nodes, write}
use Rattle.table.proofs.Bits.{below_cons, below_append, below_bytes_of}
use Rattle.table.proofs.Fields.{length_write_nodes, below_fields, headed_written, crowded_written, nodes_written, headed_accepted, nodes_again}
use Rattle.table.proofs.Nodes.{length_nodes}
use Rattle.table.proofs.Accepted.{read_faithful, accepted}
use Rattle.table.proofs.ReadBack.{Ranged, Reread, back, refused, read_back}

-- ---- The nodes of a statement fit their fields

one_below : (x : ℕ) → x < 1024 → Below 1024 (x ∷ [])
one_below x h = below_cons 1024 x [] h (λ i. omega arith)

two_below : (x : ℕ) (p q : Statement) → x < 1024 → Below 1024 (nodes p) → Below 1024 (nodes q) → Below 1024 (x ∷ (nodes p ++ nodes q))
two_below x p q h f g = below_cons 1024 x (nodes p ++ nodes q) h (below_append 1024 (nodes p) (nodes q) f g)

pub below_nodes : (p : Statement) → Ranged p → Below 1024 (nodes p)
unfolding nodes Ranged
below_nodes nothing r = one_below (node 0 0) (omega arith)
below_nodes (pause l) r = one_below (node 1 l) (omega (arith, r.1))
below_nodes (gotopause l) r = one_below (node 2 l) (omega (arith, r.1))
below_nodes (emit S) r = one_below (node 3 S) (omega arith)
below_nodes (exit d) r = one_below (node 4 d) (omega (arith, r.1))
below_nodes (signal S p) r = below_cons 1024 (node 5 S) (nodes p) (omega (arith, r.0)) (below_nodes p r.1)
below_nodes (present S p q) r = two_below (node 6 S) p q (omega (arith, r.0)) (below_nodes p r.1) (below_nodes q r.2)
below_nodes (sequence p q) r = two_below (node 7 0) p q (omega arith) (below_nodes p r.0) (below_nodes q r.1)
below_nodes (parallel p q) r = two_below (node 8 0) p q (omega arith) (below_nodes p r.0) (below_nodes q r.1)
below_nodes (loop p) r = below_cons 1024 (node 9 0) (nodes p) (omega arith) (below_nodes p r)
below_nodes (try p) r = below_cons 1024 (node 10 0) (nodes p) (omega arith) (below_nodes p r)

pub valid_ranged : (tries : ℕ) (p : Statement) → Valid tries p → Ranged p
unfolding Valid Ranged
valid_ranged tries nothing v = tt
valid_ranged tries (pause l) v = v
valid_ranged tries (gotopause l) v = v
valid_ranged tries (emit S) v = v
valid_ranged tries (exit d) v = (v.0, v.1)
valid_ranged tries (signal S p) v = (v.0, valid_ranged tries p v.1)
valid_ranged tries (present S p q) v = (v.0, valid_ranged tries p v.1, valid_ranged tries q v.2)
valid_ranged tries (sequence p q) v = (valid_ranged tries p v.0, valid_ranged tries q v.1)
valid_ranged tries (parallel p q) v = (valid_ranged tries p v.0, valid_ranged tries q v.1)
valid_ranged tries (loop p) v = valid_ranged tries p v
valid_ranged tries (try p) v = valid_ranged (suc tries) p v

-- ---- A table that was written

pub length_write : (p : Statement) → length (write p) ≡ length_of (size p)
unfolding write
length_write p = length_write_nodes (nodes p) ∙ ap length_of (length_nodes p)

-- what is written are bytes
pub below_write : (p : Statement) → Below 256 (write p)
unfolding write write_nodes
below_write p = below_bytes_of (bits 4 1 ++ (bits 12 (length (nodes p)) ++ node_bits (nodes p))) (below_fields (nodes p))

-- what reading gives for a statement whose operands are in range: it, if a table may hold it, else a refusal
pub data Answer (p : Statement) (t : Table) : Type 0 where
  same : Allowed p → t ≡ holds (size p) p → Answer p t
  none : (Allowed p → ⊥) → (w : ℕ) → t ≡ Table.refused w → Answer p t

pub answer : (p : Statement) → Ranged p → size p < 4096 → Answer p (table_of (write p))
unfolding write table_of table_after whole_of
answer p ranged few = go (dec_le (size p) 1024)
  where
    few' : length (nodes p) < 4096
    few' = rw length_nodes few

    fields : Below 1024 (nodes p)
    fields = below_nodes p ranged

    whole : (r : Reading) → read_from deepest 0 0 (nodes p) ≡ r → size p ≤ 1024 → Reread deepest 0 0 p [] r → Answer p (whole_of (size p) r)
    whole r made h (back e) =
        let a = read_faithful deepest 0 0 (nodes p) p [] (0 union pauses p) (made ∙ e) in
        same (record { valid = a.valid; few = h; deep = a.deep }) (rw e)
    whole r made h (refused w e no-fit) =
        none (λ a. no-fit (record { valid = a.valid; deep = a.deep; apart = λ x u. clash u (has_empty x) })) w (rw e)

    go : Dec (size p ≤ 1024) → Answer p (table_after (header_of (write_nodes (nodes p))) (write_nodes (nodes p)))
    go (yes h) =
        let H = headed_accepted (write_nodes (nodes p)) (length (nodes p)) (headed_written (nodes p) few' fields (rw length_nodes (size_positive p)) (rw length_nodes h)) in
        rw (H, nodes_written (nodes p) few' fields, length_nodes p) (whole (read_from deepest 0 0 (nodes p)) refl h (subst (λ (l : List ℕ). Reread deepest 0 0 p [] (read_from deepest 0 0 l)) (append-nil (nodes p)) (read_back p ranged deepest 0 0 [])))
    go (no h) = none (λ a. h a.few) 3 (rw (crowded_written (nodes p) few' fields (rw length_nodes (omega arith))))

-- ---- The two inverse laws

-- Reading what was written for a valid statement of at most 1,024 nodes and depth 60 gives that statement
pub read_written : (p : Statement) → Allowed p → table_of (write p) ≡ holds (size p) p
read_written p a = go (answer p (valid_ranged 0 p a.valid) (omega (arith, a.few)))
  where
    go : Answer p (table_of (write p)) → table_of (write p) ≡ holds (size p) p
    go (same b e) = e
    go (none no_table w e) = absurd (no_table a)

-- writing what was read gives the bytes that were read
pub write_read : (t : List ℕ) (n : ℕ) (p : Statement) → Below 256 t → table_of t ≡ holds n p → write p ≡ t
unfolding write
write_read t n p bytes h = let H = accepted t n p h in ap write_nodes (sym H.nodes_are) ∙ nodes_again t n H.header bytes

-- So a table has exactly one statement, and a statement one table
pub one_statement : (t : List ℕ) (n n' : ℕ) (p p' : Statement) → table_of t ≡ holds n p → table_of t ≡ holds n' p' → p ≡ p'
one_statement t n n' p p' h h' = cc

pub one_table : (p : Statement) → Allowed p → (t : List ℕ) → Below 256 t → (table_of t ≡ holds (size p) p) ↔ (t ≡ write p)
one_table p a t bytes = (λ h. sym (write_read t (size p) p bytes h), λ e. ap table_of e ∙ read_written p a)

-- ---- Beyond the limits

-- it never reads as another statement
pub never_another : (p : Statement) → Ranged p → size p < 4096 → (n : ℕ) (q : Statement) → table_of (write p) ≡ holds n q → (q ≡ p) × (n ≡ size p) × Allowed p
never_another p r few n q h = go (answer p r few)
  where
    go : Answer p (table_of (write p)) → (q ≡ p) × (n ≡ size p) × Allowed p
    go (same a e) = (cc, cc, a)
    go (none no_table w e) = absurd (let z : ◌≡◌ {A = ℕ} 0 1 = cc in omega arith)

-- For a statement beyond those limits reading what was written is refused
pub beyond_refused : (p : Statement) → Ranged p → size p < 4096 → (Allowed p → ⊥) → (w : ℕ) × (table_of (write p) ≡ Table.refused w)
beyond_refused p r few no_table = go (answer p r few)
  where
    go : Answer p (table_of (write p)) → (w : ℕ) × (table_of (write p) ≡ Table.refused w)
    go (same a e) = absurd (no_table a)
    go (none b w e) = (w, e)

pub many_refused : (p : Statement) → Ranged p → size p < 4096 → 1024 < size p → (w : ℕ) × (table_of (write p) ≡ Table.refused w)
many_refused p r few h = beyond_refused p r few (λ a. omega (arith, a.few))

pub deep_refused : (p : Statement) → Ranged p → size p < 4096 → 60 < depth p → (w : ℕ) × (table_of (write p) ≡ Table.refused w)
deep_refused p r few h = beyond_refused p r few (λ a. omega (arith, a.deep))
