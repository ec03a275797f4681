-- The refusals of check lie between 1 and 11, so that 0 is never one: an entry for C that returns 0 has accepted. By the tests of
-- the header, and by induction on the depth that is left for the nodes.
use mathlib.Core.Path.{◌≡◌, refl, ap, ◌∙◌, subst}
use mathlib.Core.Bool.{Bool, true, false, cond, not, ◌&&◌, ◌||◌}
use mathlib.Core.List.{List, [], ◌∷◌}
use Prim.Native.Nat.{ℕ, zero, suc, ◌≤◌}
use native.Mathlib.Omega.{arith}
use lib.Dec.{eqb, ltb}
use lib.ListN.{length}
use Rattle.sets.specs.Set.{has}
use Rattle.esterel.specs.Statement.{Statement}
use Rattle.std.specs.Prelude.{Result, Ok, Err}
use Rattle.table.specs.declared.Refusal.{Refusal}
use Rattle.table.specs.declared.Refusal.TheVariants.{Short, Edition, Count, Length, Padding}
use Rattle.table.specs.Outcomes.{Outcome, refusal, values, number_of_refusal, number_of}
use Rattle.table.specs.Kinds.{Kind, kind_of, row_of}
use Rattle.table.specs.Reading.{length_of, edition_of, count_of, padding_of, header_of, kind_of_node, operand_of, fault_of, Reading, refused, read, with_one, with_two, read_kind, read_if, read_node, read_from, nodes_of, deepest, Table, holds, whole_of, table_after, table_of, check_in, check_of}

-- the numbers of check's refusals
abbrev pub OfCheck : ℕ → Type 0
OfCheck w = (1 ≤ w) × (w ≤ 11)

-- ---- The header
abbrev Heads : Result ℕ Refusal → Type 0
Heads (Err w) = OfCheck (number_of_refusal w)
Heads (Ok n) = Unit {0}

header_refusals : (t : List ℕ) → Heads (header_of t)
unfolding header_of
header_refusals t =
    go (ltb (length t) 2) (not (eqb (edition_of t) 1)) (eqb (count_of t) 0 || ltb 1024 (count_of t)) (not (eqb (length t) (length_of (count_of t))))
    (not (eqb (padding_of t (count_of t)) 0)) (count_of t)
  where
    go : (a b c d e : Bool) (n : ℕ) → Heads (cond a (Err Short) (cond b (Err Edition) (cond c (Err Count) (cond d (Err Length) (cond e (Err Padding) (Ok n))))))
    go true b c d e n = (omega arith, omega arith)
    go false true c d e n = (omega arith, omega arith)
    go false false true d e n = (omega arith, omega arith)
    go false false false true e n = (omega arith, omega arith)
    go false false false false true n = (omega arith, omega arith)
    go false false false false false n = tt

-- ---- The nodes
abbrev Reads : Reading → Type 0
Reads (refused w) = OfCheck w
Reads (read p xs used) = Unit {0}

fault_refusals : (left tries used x : ℕ) → fault_of left tries used x ≤ 11
unfolding fault_of
fault_refusals left tries used x =
    go (ltb 10 (kind_of_node x)) (ltb (operand_of x) (row_of (kind_of (kind_of_node x))).least || ltb (row_of (kind_of (kind_of_node x))).most (operand_of x)) (eqb left 0)
    (eqb (kind_of_node x) 4 && ltb tries (operand_of x)) (eqb (kind_of_node x) 1 && has used (operand_of x))
  where
    go : (a b c d e : Bool) → cond a 6 (cond b 7 (cond c 8 (cond d 9 (cond e 10 0)))) ≤ 11
    go true b c d e = omega arith
    go false true c d e = omega arith
    go false false true d e = omega arith
    go false false false true e = omega arith
    go false false false false true = omega arith
    go false false false false false = omega arith

if_refusals : (w : ℕ) (r : Reading) → w ≤ 11 → Reads r → Reads (read_if w r)
if_refusals zero r b h = h
if_refusals (suc w) r b h = (omega arith, b)

one_refusals : (r : Reading) (f : Statement → Statement) → Reads r → Reads (with_one r f)
one_refusals (refused w) f h = h
one_refusals (read p xs used) f h = tt

two_refusals : (r : Reading) (child : ℕ → List ℕ → Reading) (f : Statement → Statement → Statement) → Reads r → ((used : ℕ) (xs : List ℕ) → Reads (child used xs))
    → Reads (with_two r child f)
two_refusals (refused w) child f h g = h
two_refusals (read p xs used) child f h g = one_refusals (child used xs) (f p) (g used xs)

module _ (child : ℕ → ℕ → List ℕ → Reading) (g : (tries used : ℕ) (xs : List ℕ) → Reads (child tries used xs)) (o tries used : ℕ) (xs : List ℕ) where
  kind_refusals : (k : Kind) → Reads (read_kind k o child tries used xs)
  unfolding read_kind
  kind_refusals Kind.nothing = tt
  kind_refusals Kind.pause = tt
  kind_refusals Kind.gotopause = tt
  kind_refusals Kind.emit = tt
  kind_refusals Kind.exit = tt
  kind_refusals Kind.signal = one_refusals (child tries used xs) (Statement.signal o) (g tries used xs)
  kind_refusals Kind.present = two_refusals (child tries used xs) (child tries) (Statement.present o) (g tries used xs) (g tries)
  kind_refusals Kind.sequence = two_refusals (child tries used xs) (child tries) Statement.sequence (g tries used xs) (g tries)
  kind_refusals Kind.parallel = two_refusals (child tries used xs) (child tries) Statement.parallel (g tries used xs) (g tries)
  kind_refusals Kind.loop = one_refusals (child tries used xs) Statement.loop (g tries used xs)
  kind_refusals Kind.try = one_refusals (child (suc tries) used xs) Statement.try (g (suc tries) used xs)
  kind_refusals Kind.unused = (omega arith, omega arith)

node_refusals : (left : ℕ) (child : ℕ → ℕ → List ℕ → Reading) → ((tries used : ℕ) (xs : List ℕ) → Reads (child tries used xs)) → (tries used : ℕ) (xs : List ℕ)
    → Reads (read_node left child tries used xs)
unfolding read_node
node_refusals left child g tries used [] = (omega arith, omega arith)
node_refusals left child g tries used (x ∷ xs) =
    if_refusals (fault_of left tries used x) (read_kind (kind_of (kind_of_node x)) (operand_of x) child tries used xs) (fault_refusals left tries used x)
    (kind_refusals child g (operand_of x) tries used xs (kind_of (kind_of_node x)))

read_refusals : (left tries used : ℕ) (xs : List ℕ) → Reads (read_from left tries used xs)
unfolding read_from
read_refusals zero tries used xs = node_refusals 0 (λ tries' used' xs'. refused 8) (λ tries' used' xs'. (omega arith, omega arith)) tries used xs
read_refusals (suc left) tries used xs = node_refusals (suc left) (read_from left) (read_refusals left) tries used xs

-- ---- A table
-- "1 under 2 bytes" to "11 nodes run out"
pub table_refusals : (t : List ℕ) (w : ℕ) → table_of t ≡ Table.refused w → OfCheck w
unfolding table_of table_after whole_of
table_refusals t w h = go (header_of t) (header_refusals t) h
  where
    same : (v : ℕ) → OfCheck v → Table.refused v ≡ Table.refused w → OfCheck w
    same v b e = subst OfCheck (let q : v ≡ w = cc in q) b

    never : (n : ℕ) (p : Statement) → holds n p ≡ Table.refused w → ⊥
    never n p e = let z : ◌≡◌ {A = ℕ} 0 1 = cc in omega arith

    whole : (n : ℕ) (r : Reading) → Reads r → whole_of n r ≡ Table.refused w → OfCheck w
    whole n (refused v) b e = same v b e
    whole n (read p [] used) b e = absurd (never n p e)
    whole n (read p (x ∷ xs) used) b e = same 11 (omega arith, omega arith) e

    go : (c : Result ℕ Refusal) → Heads c → table_after c t ≡ Table.refused w → OfCheck w
    go (Err v) b e = same (number_of_refusal v) b e
    go (Ok n) b e = whole n (read_from deepest 0 0 (nodes_of t n)) (read_refusals deepest 0 0 (nodes_of t n)) e

-- of check's answer, and that a returned 0 means accepted
pub check_refusals : (t : List ℕ) (w : ℕ) → check_of t ≡ refusal w → OfCheck w
unfolding check_of check_in
check_refusals t w h = go (table_of t) refl h
  where
    go : (T : Table) → table_of t ≡ T → check_in T ≡ refusal w → OfCheck w
    go (Table.refused v) e h = table_refusals t w (e ∙ ap Table.refused (let q : v ≡ w = cc in q))
    go (holds n p) e h = absurd (let z : ◌≡◌ {A = ℕ} 0 1 = cc in omega arith)

-- where no refusal of an operation is 0, a returned 0 means that it accepted
pub zero_accepted : (v : Outcome) → ((w : ℕ) → v ≡ refusal w → 1 ≤ w) → number_of v ≡ 0 → (vs : List ℕ) × (v ≡ values vs)
unfolding number_of
zero_accepted (refusal w) f z = absurd (let b = f w refl in omega arith)
zero_accepted (values vs) f z = (vs, refl)
