-- Trimmed parts in the work area, written from its end: a part stands right before what follows it, and where it is
-- nothing no node is written. These are the contracts of the steps of trimming.
use Rattle.std.specs.Prelude.{ℕ, suc, ◌+◌, ◌-◌, ◌*◌, ◌≤◌, ◌<◌, max, ◌≡◌, Bool, true, false, cond, ◌||◌, List, [], ◌∷◌, ◌++◌, ltb, length, get_or, set, take, drop}
use Rattle.sets.specs.Set.{has}
use Rattle.esterel.specs.Statement.{Statement, present, sequence, depth, Valid}
use Rattle.esterel.specs.Reachability.{reach}
use Rattle.esterel.specs.Trimming.{is_nothing, names, ends_at, join_parts, trim}
use Rattle.table.specs.Reading.{operand_of}
use Rattle.table.specs.Writing.{nodes, node}
use Rattle.table.specs.inner.Places.{Placed, statement_at, statement_of, Known}
use Rattle.trim.specs.declared.descent.Around.{Around}
use Rattle.trim.specs.declared.work.Part.{Part}
use Rattle.trim.specs.inner.Levels.{trimmed_in, wrap_if, guarded_if}
use Rattle.trim.specs.declared.noted.Note.{Note}
use Rattle.trim.specs.inner.Notes.{Noted}

-- ---- what stands in the work area

-- what is written of a part, and its depth
unfoldable pub part : Statement → List ℕ
part t = cond (is_nothing t) [] (nodes t)

unfoldable pub part_depth : Statement → ℕ
part_depth t = cond (is_nothing t) 0 (depth t)

-- places are counted from 0 to 4,096, and the work area holds those from 3,072 on: with x at a place
abbrev pub held_with : List ℕ → ℕ → ℕ → List ℕ
held_with work at x = cond (ltb at 3072) work (set work (at - 3072) x)

-- a part that was written, from a place on
pub record Laid : Type 0 where
  pub from : ℕ
  pub depth : ℕ
  pub named : ℕ

abbrev pub laid_at : ℕ → Part → Laid
laid_at from p = record { from = from; depth = p.depth; named = p.named }

-- depths stay far below what a part's field can hold. No type keeps that, since each step makes a deeper part
abbrev pub Shallow : Part → Type 0
Shallow p = p.depth ≤ 200

-- the list was written so that it ends at `to`, whatever stands in the places that are not held; the rest is as it was
pub record Puts (l work : List ℕ) (to from : ℕ) (work' : List ℕ) : Type 0 where
  pub put : (all : List ℕ) → length all ≡ 4096 → drop 3072 all ≡ work → work' ≡ drop 3072 (take from all ++ (l ++ drop to all))
  pub from_is : from + length l ≡ to

pub record NodesStand (l : List ℕ) (deep : ℕ) (t : Statement) (work : List ℕ) (to : ℕ) (r : Laid) (work' : List ℕ) : Type 0 where
  pub puts : Puts l work to r.from work'
  pub depth_is : r.depth ≡ deep
  pub names_are : (S : ℕ) → has r.named S ≡ names S t

-- the statement as a part, and as a whole statement, of one node at least
abbrev pub PartStands : Statement → List ℕ → ℕ → Laid → List ℕ → Type 0
PartStands t = NodesStand (part t) (part_depth t) t

abbrev pub WholeStands : Statement → List ℕ → ℕ → Laid → List ℕ → Type 0
WholeStands t = NodesStand (nodes t) (depth t) t

abbrev pub nothing_at : ℕ → Laid
nothing_at to = record { from = to; depth = 0; named = 0 }

-- ---- statements by their nodes

pub record Leaf (t : Statement) (x named : ℕ) : Type 0 where
  pub nodes_are : nodes t ≡ x ∷ []
  pub some : is_nothing t ≡ false
  pub deep : depth t ≡ 1
  pub names_are : (S : ℕ) → has named S ≡ names S t

pub record Wraps (f : Statement → Statement) (x : ℕ) : Type 0 where
  pub nodes_are : (p : Statement) → nodes (f p) ≡ x ∷ nodes p
  pub some : (p : Statement) → is_nothing (f p) ≡ false
  pub deep : (p : Statement) → depth (f p) ≡ suc (depth p)
  pub names_are : (S : ℕ) (p : Statement) → names S (f p) ≡ names S p

pub record Joins (f : Statement → Statement → Statement) (x own : ℕ) : Type 0 where
  pub nodes_are : (p q : Statement) → nodes (f p q) ≡ x ∷ nodes p ++ nodes q
  pub some : (p q : Statement) → is_nothing (f p q) ≡ false
  pub deep : (p q : Statement) → depth (f p q) ≡ suc (max (depth p) (depth q))
  pub names_are : (S : ℕ) (p q : Statement) → names S (f p q) ≡ (has own S || (names S p || names S q))

-- an exit ends at a try around it, and no place is further in than the exit
pub record ExitReady (places : List ℕ) (a : Around) (level : ℕ) : Type 0 where
  pub least : 1 ≤ level
  pub most : level ≤ a.tries
  pub wide : a.tries < 64
  pub low : (i : ℕ) → i ≤ a.tries → get_or places i 0 ≤ a.kept

-- a node was put in front of what stands from a place on, and stands from f on
abbrev pub PutAt : List ℕ → ℕ → ℕ → ℕ → List ℕ → Type 0
PutAt work from x f work' = (f ≡ from - 1) × (work' ≡ held_with work (from - 1) x)

-- ---- the steps, wherever what they take and make ends; `near` and `shallow` bound the room and the depth that a step takes

pub record LeafPut (x named : ℕ) (work : List ℕ) (to : ℕ) (r : Laid) (work' : List ℕ) : Type 0 where
  pub made : (t : Statement) → Leaf t x named → PartStands t work to r work'
  pub near : to ≤ r.from + 1
  pub shallow : r.depth ≤ 1

-- a part that is nothing gets its node
pub record NothingFilled (work : List ℕ) (p r : Laid) (work' : List ℕ) : Type 0 where
  pub made : (t : Statement) (before : List ℕ) (to : ℕ) → to ≤ 4096 → PartStands t before to p work → WholeStands t before to r work'
  pub near : p.from ≤ r.from + 1
  pub below : r.from ≤ p.from
  pub shallow : r.depth ≤ p.depth + 1

pub record Wrapped (x : ℕ) (z : Bool) (work : List ℕ) (p r : Laid) (work' : List ℕ) : Type 0 where
  pub made : (f : Statement → Statement) (t : Statement) (before : List ℕ) (to : ℕ) → Wraps f x → to ≤ 4096
      → PartStands t before to p work → PartStands (wrap_if f z t) before to r work'
  pub near : p.from ≤ r.from + 2
  pub shallow : r.depth ≤ p.depth + 2

pub record PartsJoined (x : ℕ) (work : List ℕ) (p q r : Laid) (work' : List ℕ) : Type 0 where
  pub made : (f : Statement → Statement → Statement) (s t : Statement) (before between : List ℕ) (to : ℕ) → Joins f x 0 → to ≤ 4096
      → PartStands t before to q between → PartStands s between q.from p work → PartStands (join_parts f s t) before to r work'
  pub near : p.from ≤ r.from + 1
  pub shallow : r.depth ≤ max p.depth q.depth + 1

-- the else branch of a present: whole where the present is started, in its try or not where it is resumed
abbrev pub Branch : Bool → Statement → List ℕ → ℕ → Laid → List ℕ → Type 0
Branch true t = WholeStands t
Branch false t = PartStands t

abbrev pub branch_if : Bool → Bool → Statement → Statement
branch_if true z t = t
branch_if false z t = guarded_if z t

abbrev pub present_if : Bool → ℕ → Statement → Statement → Statement
present_if true S s t = present S s t
present_if false S s t = join_parts sequence s t

pub record ElseClosed (started z : Bool) (work : List ℕ) (q r : Laid) (work' : List ℕ) : Type 0 where
  pub made : (t : Statement) (before : List ℕ) (to : ℕ) → to ≤ 4096 → PartStands t before to q work → Branch started (branch_if started z t) before to r work'
  pub near : q.from ≤ r.from + cond started 1 3
  pub shallow : r.depth ≤ q.depth + 2

pub record PresentClosed (started : Bool) (x : ℕ) (work : List ℕ) (p q r : Laid) (work' : List ℕ) : Type 0 where
  pub made : (s t : Statement) (before between : List ℕ) (to : ℕ) → x ≡ node 6 (operand_of x) → to ≤ 4096
      → Branch started t before to q between → PartStands s between q.from p work → PartStands (present_if started (operand_of x) s t) before to r work'
  pub near : p.from ≤ r.from + cond started 2 1
  pub shallow : r.depth ≤ max (p.depth + 1) q.depth + 1

-- ---- trimming a statement

-- each exit that is left in the trimmed statement ends at a try that is kept
abbrev pub Caught : ℕ → List ℕ → Around → Statement → Type 0
Caught R places a p = (d : ℕ) → d < a.tries → ends_at d (trim R a.started p) ≡ true → get_or places (a.tries - d) 0 < a.kept

-- R of the statement that nodes hold
unfoldable pub reach_set_of : List ℕ → ℕ
reach_set_of xs = (reach (statement_of xs)).set

-- what trimming the statement at a place asks: 4 nodes of room for each node. `all` stands here since nothing tells the length of an
-- array that a field of a struct refers to: without it the proof doesn't close
pub record Trimmable (R : ℕ) (xs : List ℕ) (notes : List Note) (at left : ℕ) (a : Around) (places work : List ℕ) (to : ℕ) : Type 0 where
  pub valid : Valid a.tries (statement_at left xs at).statement
  pub noted : Noted R notes xs left at
  pub all : length xs ≡ 1024
  pub known : Known xs
  pub room : 4 * (statement_at left xs at).next ≤ to + 4 * at
  pub to_in : to ≤ 4096
  pub tries_in : a.tries + left ≤ 60
  pub kept_in : a.kept + left ≤ 60
  pub low : (i : ℕ) → i ≤ a.tries → get_or places i 0 ≤ a.kept
  pub caught : Caught R places a (statement_at left xs at).statement

-- the statement p, which begins at a place, was trimmed
pub record Done (R : ℕ) (p : Placed) (at left : ℕ) (a : Around) (places work : List ℕ) (to : ℕ) (r : Laid) (places' work' : List ℕ) : Type 0 where
  pub made : PartStands (trimmed_in R places a p.statement) work to r work'
  pub room : to + 4 * at ≤ r.from + 4 * p.next
  pub shallow : r.depth ≤ 3 * left
  pub same : (i : ℕ) → i ≤ a.tries → get_or places' i 0 ≡ get_or places i 0
