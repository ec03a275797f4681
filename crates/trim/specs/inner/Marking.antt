-- What marking finds of each statement, and the notes that it leaves.
use Rattle.std.specs.Prelude.{ℕ, suc, ◌*◌, ◌/◌, ◌%◌, ◌^◌, ◌≤◌, ◌<◌, ◌≡◌, Bool, true, false, cond, List, get_or}
use Rattle.std.specs.Int.Bits.{bit_or}
use Rattle.sets.specs.Set.{has, only}
use Rattle.esterel.specs.Statement.{Statement, present, Valid}
use Rattle.esterel.specs.Codes.{Codes, none, s, d}
use Rattle.esterel.specs.Trimming.{ends_at, trim}
use Rattle.table.specs.Kinds.{kind_of}
use Rattle.table.specs.inner.Places.{Placed, placed, place_one, place_kind, statement_at, Known}
use Rattle.trim.specs.declared.marks.Exits.{Exits}
use Rattle.trim.specs.declared.marks.Marked.{Marked}
use Rattle.trim.specs.declared.noted.Note.{Note}
use Rattle.trim.specs.inner.Notes.{live, no_note, Noted}

-- ---- the exits that are left in a trimmed statement

-- level d + 1 is in a set exactly if an exit that is left has that level outside the statement, which is trimmed with 0 and
-- with 1. There is no level 0, and bit 0 says nothing.
pub record ExitsAre (R : ℕ) (p : Placed) (e : Exits) : Type 0 where
  pub resumed : (d : ℕ) → has e.resumed (suc d) ≡ ends_at d (trim R false p.statement)
  pub started : (d : ℕ) → has e.started (suc d) ≡ ends_at d (trim R true p.statement)

abbrev pub exits : ℕ → ℕ → Exits
exits r s = record { resumed = r; started = s }

abbrev pub no_exits : Exits
no_exits = exits 0 0

-- of an exit of level e, and of statements from their children: both; one after the other, and a loop, by whether the first
-- or the body can end
abbrev pub exit_at : ℕ → Exits
exit_at e = exits 0 (only e % 2 ^ 64)

abbrev pub either_of : Exits → Exits → Exits
either_of p q = exits (bit_or p.resumed q.resumed) (bit_or p.started q.started)

abbrev pub exits_if : Bool → Exits → ℕ
exits_if started p = cond started p.started p.resumed

abbrev pub in_turn_of : Bool → Bool → Exits → Exits → Exits
in_turn_of resumed started p q = exits (bit_or p.resumed (exits_if resumed q)) (bit_or p.started (exits_if started q))

abbrev pub again_of : Bool → Exits → Exits
again_of resumed p = exits (exits_if resumed p) p.started

-- outside a try: level 1 goes, the others are one lower
abbrev pub outside_of : Exits → Exits
outside_of p = exits (p.resumed / 4 * 2) (p.started / 4 * 2)

-- ---- what is found of a statement

pub record Finds (R : ℕ) (p : Placed) (m : Marked) : Type 0 where
  pub start : m.s ≡ s p.statement
  pub resumed : m.d ≡ d R p.statement
  pub leaving : ExitsAre R p m.exits
  pub lives : m.live ≡ live R p.statement
  pub next : m.next ≡ p.next

-- of a statement that is never resumed, from its start codes and its exits
pub record DeadFound (K : Codes) (e : Exits) (next : ℕ) (m : Marked) : Type 0 where
  pub found : (R : ℕ) (t : Statement) → K ≡ s t → d R t ≡ none → ExitsAre R (placed t next) e → live R t ≡ false → Finds R (placed t next) m

-- a node without children, whose operand fits the words
pub record LeafReady (kind operand : ℕ) : Type 0 where
  pub leaf : kind ≤ 4
  pub narrow : operand < 64
  pub level : kind ≡ 4 → 1 ≤ operand

abbrev pub LeafFound : ℕ → ℕ → ℕ → ℕ → Marked → Type 0
LeafFound R kind operand next m = (child : ℕ → Placed) → Finds R (place_kind (kind_of kind) operand child next) m

-- of statements from what is found of their children
abbrev pub OneFound : (Statement → Statement) → Marked → Marked → Type 0
OneFound f p m = (R : ℕ) (P : Placed) → Finds R P p → Finds R (place_one f P) m

abbrev pub TwoFound : (Statement → Statement → Statement) → Marked → Marked → Marked → Type 0
TwoFound f p q m = (R : ℕ) (P Q : Placed) → Finds R P p → Finds R Q q → Finds R (placed (f P.statement Q.statement) Q.next) m

abbrev pub PresentFound : Marked → Marked → Marked → Type 0
PresentFound p q m = (S : ℕ) → TwoFound (present S) p q m

-- by the kind of the node
abbrev pub PartsFound : ℕ → Marked → Marked → Marked → Type 0
PartsFound kind p q m =
    (R o : ℕ) (child : ℕ → Placed) (at : ℕ) → Finds R (child at) p → Finds R (child (child at).next) q → Finds R (place_kind (kind_of kind) o child at) m

-- ---- the pass

-- what it asks of the statement at a place: that it is valid, in so many tries, with nodes of known kinds
pub record Markable (left : ℕ) (nodes : List ℕ) (at : ℕ) : Type 0 where
  pub tries : ℕ
  pub valid : Valid tries (statement_at left nodes at).statement
  pub known : Known nodes

-- what it leaves: the notes of the statement, and those before it as they were
pub record Marks (R : ℕ) (nodes : List ℕ) (left at : ℕ) (notes : List Note) (m : Marked) (notes' : List Note) : Type 0 where
  pub finds : Finds R (statement_at left nodes at) m
  pub noted : Noted R notes' nodes left at
  pub low : (i : ℕ) → i < at → get_or notes' i no_note ≡ get_or notes i no_note
