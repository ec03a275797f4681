-- Reading a table: any list of bytes is refused with a number from 1 to 11, or is the table of a statement.
-- In three parts: the header, the bytes to nodes, the nodes to a statement.
use Rattle.std.specs.Prelude.{Result, Ok, Err, ℕ, zero, suc, ◌+◌, ◌*◌, ◌/◌, ◌%◌, cond, not, ◌||◌, ◌&&◌, List, [], ◌∷◌, eqb, ltb, length, take, drop}
use Rattle.sets.specs.Set.{has, only, ◌union◌}
use Rattle.esterel.specs.Statement.{Statement}
use Rattle.table.specs.declared.Refusal.{Refusal}
use Rattle.table.specs.declared.Refusal.TheVariants.{Short, Edition, Count, Length, Padding}
use Rattle.table.specs.Outcomes.{Outcome, refusal, values, number_of_refusal, outcome}
use Rattle.table.specs.Bits.{number, bits_of}
use Rattle.table.specs.Kinds.{Kind, kind_of, row_of}

-- ---- The header

-- "The length is 2 + (10 × N rounded up to whole bytes)"
unfoldable pub length_of : ℕ → ℕ
length_of n = 2 + (10 * n + 7) / 8

-- "4 bits edition", "12 bits node count N", and the bits after the nodes
unfoldable pub edition_of : List ℕ → ℕ
edition_of t = number (take 4 (bits_of t))

unfoldable pub count_of : List ℕ → ℕ
count_of t = number (take 12 (drop 4 (bits_of t)))

unfoldable pub padding_of : List ℕ → ℕ → ℕ
padding_of t n = number (drop (16 + 10 * n) (bits_of t))

-- "1 under 2 bytes; 2 edition other than 1; 3 N out of range; 4 wrong length; 5 a padding bit set"; else N
unfoldable pub header_of : List ℕ → Result ℕ Refusal
header_of t =
    cond (ltb (length t) 2) (Err Short)
    (cond (not (eqb (edition_of t) 1)) (Err Edition)
    (cond (eqb (count_of t) 0 || ltb 1024 (count_of t)) (Err Count)
    (cond (not (eqb (length t) (length_of (count_of t)))) (Err Length)
    (cond (not (eqb (padding_of t (count_of t)) 0)) (Err Padding)
    (Ok (count_of t))))))

-- ---- Bytes to nodes

-- n nodes of 10 bits
unfoldable pub nodes_from : ℕ → List ℕ → List ℕ
nodes_from zero l = []
nodes_from (suc n) l = number (take 10 l) ∷ nodes_from n (drop 10 l)

-- the n nodes behind the header
unfoldable pub nodes_of : List ℕ → ℕ → List ℕ
nodes_of t n = nodes_from n (drop 16 (bits_of t))

-- ---- Nodes to a statement

-- a node: "4 bits kind, 6 bits operand"
abbrev pub kind_of_node : ℕ → ℕ
kind_of_node x = x / 64

abbrev pub operand_of : ℕ → ℕ
operand_of x = x % 64

-- what is wrong with a node, 0 where nothing is: `left` is the depth that is left for it, `tries` the try statements around
-- it, `used` the labels of the pauses before it. "6 kind above 10; 7 operand out of range; 8 too deep; 9 exit level too
-- high; 10 pause label already used"
unfoldable pub fault_of : ℕ → ℕ → ℕ → ℕ → ℕ
fault_of left tries used x =
    cond (ltb 10 (kind_of_node x)) 6
    (cond (ltb (operand_of x) (row_of (kind_of (kind_of_node x))).least || ltb (row_of (kind_of (kind_of_node x))).most (operand_of x)) 7
    (cond (eqb left 0) 8
    (cond (eqb (kind_of_node x) 4 && ltb tries (operand_of x)) 9
    (cond (eqb (kind_of_node x) 1 && has used (operand_of x)) 10 0))))

-- a statement that begins a list of nodes, with the nodes after it and the labels of the pauses so far
pub data Reading : Type 0 where
  refused : ℕ → Reading
  read : Statement → List ℕ → ℕ → Reading

-- the statement of a kind and an operand: `child tries used xs` reads one from xs
abbrev pub with_one : Reading → (Statement → Statement) → Reading
with_one (refused w) f = refused w
with_one (read p xs used) f = read (f p) xs used

abbrev pub with_two : Reading → (ℕ → List ℕ → Reading) → (Statement → Statement → Statement) → Reading
with_two (refused w) child f = refused w
with_two (read p xs used) child f = with_one (child used xs) (f p)

unfoldable pub read_kind : Kind → ℕ → (ℕ → ℕ → List ℕ → Reading) → ℕ → ℕ → List ℕ → Reading
read_kind Kind.nothing o child tries used xs = read Statement.nothing xs used
read_kind Kind.pause o child tries used xs = read (Statement.pause o) xs (used union only o)
read_kind Kind.gotopause o child tries used xs = read (Statement.gotopause o) xs used
read_kind Kind.emit o child tries used xs = read (Statement.emit o) xs used
read_kind Kind.exit o child tries used xs = read (Statement.exit o) xs used
read_kind Kind.signal o child tries used xs = with_one (child tries used xs) (Statement.signal o)
read_kind Kind.present o child tries used xs = with_two (child tries used xs) (child tries) (Statement.present o)
read_kind Kind.sequence o child tries used xs = with_two (child tries used xs) (child tries) Statement.sequence
read_kind Kind.parallel o child tries used xs = with_two (child tries used xs) (child tries) Statement.parallel
read_kind Kind.loop o child tries used xs = with_one (child tries used xs) Statement.loop
read_kind Kind.try o child tries used xs = with_one (child (suc tries) used xs) Statement.try
read_kind Kind.unused o child tries used xs = refused 6

-- the fault of the first node, or the statement that it begins
abbrev pub read_if : ℕ → Reading → Reading
read_if zero r = r
read_if (suc w) r = refused (suc w)

unfoldable pub read_node : ℕ → (ℕ → ℕ → List ℕ → Reading) → ℕ → ℕ → List ℕ → Reading
read_node left child tries used [] = refused 11
read_node left child tries used (x ∷ xs) =
    read_if (fault_of left tries used x) (read_kind (kind_of (kind_of_node x)) (operand_of x) child tries used xs)

-- "Then nodes in table order": a statement that stands in `tries` try statements, down to the depth that is left
unfoldable pub read_from : ℕ → ℕ → ℕ → List ℕ → Reading
read_from zero tries used xs = read_node 0 (λ tries' used' xs'. refused 8) tries used xs
read_from (suc left) tries used xs = read_node (suc left) (read_from left) tries used xs

-- "no node is deeper than 60"
abbrev pub deepest : ℕ
deepest = 60

-- ---- A table

-- what a list of bytes is: refused, or the table of a statement, with N
pub data Table : Type 0 where
  refused : ℕ → Table
  holds : ℕ → Statement → Table

-- "11 nodes run out before the tree is whole, or are left over"
unfoldable pub whole_of : ℕ → Reading → Table
whole_of n (Reading.refused w) = Table.refused w
whole_of n (read p [] used) = holds n p
whole_of n (read p (x ∷ xs) used) = Table.refused 11

unfoldable pub table_after : Result ℕ Refusal → List ℕ → Table
table_after (Err e) t = Table.refused (number_of_refusal e)
table_after (Ok n) t = whole_of n (read_from deepest 0 0 (nodes_of t n))

unfoldable pub table_of : List ℕ → Table
table_of t = table_after (header_of t) t

-- what is said of an answer of check: the refusal, or N
abbrev pub checked_outcome : Result ℕ Refusal → Outcome
checked_outcome = outcome (λ n. n ∷ [])

-- "Accepted: N"
unfoldable pub check_in : Table → Outcome
check_in (Table.refused w) = refusal w
check_in (holds n p) = values (n ∷ [])

-- what check answers
unfoldable pub check_of : List ℕ → Outcome
check_of t = check_in (table_of t)
