-- The statement that stands at a place of decoded nodes, as the passes over a table walk it. It never refuses: what is
-- missing or too deep is nothing. On an accepted table it is the statement that was read (proofs/Places).
use Rattle.std.specs.Prelude.{ℕ, zero, suc, ◌+◌, ◌≤◌, ◌<◌, ◌≡◌, cond, List, ltb, length, get_or}
use Rattle.esterel.specs.Statement.{Statement, size, depth, Valid}
use Rattle.table.specs.Kinds.{Kind, kind_of}
use Rattle.table.specs.Reading.{kind_of_node, operand_of, deepest}

-- a statement, and the place after its last node
pub record Placed : Type 0 where
  pub statement : Statement
  pub next : ℕ

abbrev pub placed : Statement → ℕ → Placed
placed p at = record { statement = p; next = at }

abbrev pub place_one : (Statement → Statement) → Placed → Placed
place_one f p = placed (f p.statement) p.next

abbrev pub place_two : (Statement → Statement → Statement) → (ℕ → Placed) → Placed → Placed
place_two f child p = let q = child p.next in placed (f p.statement q.statement) q.next

-- by the kind and the operand: `child` gives the statement at a place, and `at` is the place after the node
unfoldable pub place_kind : Kind → ℕ → (ℕ → Placed) → ℕ → Placed
place_kind Kind.nothing o child at = placed Statement.nothing at
place_kind Kind.pause o child at = placed (Statement.pause o) at
place_kind Kind.gotopause o child at = placed (Statement.gotopause o) at
place_kind Kind.emit o child at = placed (Statement.emit o) at
place_kind Kind.exit o child at = placed (Statement.exit o) at
place_kind Kind.signal o child at = place_one (Statement.signal o) (child at)
place_kind Kind.present o child at = place_two (Statement.present o) child (child at)
place_kind Kind.sequence o child at = place_two Statement.sequence child (child at)
place_kind Kind.parallel o child at = place_two Statement.parallel child (child at)
place_kind Kind.loop o child at = place_one Statement.loop (child at)
place_kind Kind.try o child at = place_one Statement.try (child at)
place_kind Kind.unused o child at = placed Statement.nothing at

-- down to the depth that is left
unfoldable pub statement_at : ℕ → List ℕ → ℕ → Placed
statement_at zero xs at = placed Statement.nothing at
statement_at (suc left) xs at =
    cond (ltb at (length xs)) (place_kind (kind_of (kind_of_node (get_or xs at 0))) (operand_of (get_or xs at 0)) (statement_at left xs) (at + 1))
    (placed Statement.nothing at)

-- ---- The nodes of an accepted table

-- the statement that nodes hold
abbrev pub statement_of : List ℕ → Statement
statement_of xs = (statement_at deepest xs 0).statement

-- no node is of a kind above 10
abbrev pub Known : List ℕ → Type 0
Known xs = (i : ℕ) → kind_of_node (get_or xs i 0) ≤ 10

-- a buffer begins with the nodes of an accepted statement, and what stands behind them is of kinds that there are
pub record Loaded (xs : List ℕ) : Type 0 where
  pub all : length xs ≡ 1024
  pub few : size (statement_of xs) ≤ 1024
  pub known : Known xs
  pub valid : Valid 0 (statement_of xs)
  pub shallow : depth (statement_of xs) ≤ deepest
  pub next_is : (statement_at deepest xs 0).next ≡ size (statement_of xs)
  -- the signals of emits are below 32
  pub narrow : (i : ℕ) → i < size (statement_of xs) → kind_of_node (get_or xs i 0) ≡ 3 → operand_of (get_or xs i 0) < 32
