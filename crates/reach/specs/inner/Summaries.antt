-- The summary of a statement: its start codes, its pauses, and for each of its pauses the codes of the statement resumed from
-- that label alone. d over any R is made of those.
use Rattle.std.specs.Prelude.{ℕ, ◌<◌, ◌≡◌, true, cond, ◌&&◌, List, length, get_or, Result, Ok}
use Rattle.sets.specs.Set.{has, only, ◌union◌}
use Rattle.esterel.specs.Statement.{Statement, pauses, Valid}
use Rattle.esterel.specs.Codes.{Codes, none, join, minus_zero, through_try, s, d}
use Rattle.table.specs.inner.Places.{Placed, statement_at, Known}
use Rattle.reach.specs.declared.summary.Summary.{Summary}
use Rattle.table.specs.declared.Refusal.{Refusal}
use Rattle.reach.specs.inner.CodeSets.{followed_by}

-- what is kept for a label: the codes of the statement resumed from it alone
abbrev pub resumed_from : List Codes → ℕ → Codes
resumed_from kept l = get_or kept l none

-- what is kept for the labels of a set was changed by F, and nothing else. The size is said since nothing tells a loop the length of
-- an array that it changes
pub record Changed (set : ℕ) (F : Codes → Codes) (kept kept' : List Codes) : Type 0 where
  pub size : length kept' ≡ length kept
  pub each : (l : ℕ) → l < 64 → resumed_from kept' l ≡ cond (has set l) (F (resumed_from kept l)) (resumed_from kept l)

-- where the statement could end from a label of a set, it goes on with the codes S
abbrev pub Follows : ℕ → Codes → List Codes → List Codes → Type 0
Follows set S kept kept' = Changed set (λ K. join (minus_zero K) S) kept kept'

-- what is kept for the labels of a set went through a try, and `ending` has those from which it then ends
pub record LoweredEach (set : ℕ) (kept kept' : List Codes) (ending : ℕ) : Type 0 where
  pub changed : Changed set through_try kept kept'
  pub ends : (l : ℕ) → l < 64 → has ending l ≡ (has set l && (through_try (resumed_from kept l)).ends)

-- the labels that are kept for some label of a set
pub record LabelsFrom (set : ℕ) (kept : List Codes) (labels : ℕ) : Type 0 where
  pub sound : (x : ℕ) → has labels x ≡ true → (l : ℕ) × (l < 64) × (has set l ≡ true) × (has (resumed_from kept l).pausing x ≡ true)
  pub complete : (l x : ℕ) → l < 64 → has set l ≡ true → has (resumed_from kept l).pausing x ≡ true → has labels x ≡ true

-- ---- The pass
-- a summary with these start codes, pauses and pauses from which the statement can end, and this place after it
abbrev pub summary : Codes → ℕ → ℕ → ℕ → Summary
summary K labels ending at = record { start = K; pauses = labels; ending = ending; next = at }

-- of two statements, each of which is resumed by itself
unfoldable pub beside : Codes → Summary → Summary → Summary
beside K p q = summary K (p.pauses union q.pauses) (p.ending union q.ending) q.next

-- of two statements, the second after the first
unfoldable pub in_turn : Summary → Summary → Summary
in_turn p q =
    summary (followed_by p.start q.start) (p.pauses union q.pauses) (cond q.start.ends p.ending 0 union q.ending) q.next

-- E has the labels from which alone a statement can end
abbrev pub EndsAlone : ℕ → Statement → Type 0
EndsAlone E p = (l : ℕ) → l < 64 → has E l ≡ (has (pauses p) l && (d (only l) p).ends)

-- what a pass asks of the statement at a place: that it is valid, in so many tries, with nodes of known kinds
pub record Summable (left : ℕ) (nodes : List ℕ) (at : ℕ) : Type 0 where
  pub tries : ℕ
  pub valid : Valid tries (statement_at left nodes at).statement
  pub known : Known nodes

-- the summary is that of p
pub record Summarised (p : Placed) (found : Summary) (kept kept' : List Codes) : Type 0 where
  pub start : found.start ≡ s p.statement
  pub labels : found.pauses ≡ pauses p.statement
  pub ending : EndsAlone found.ending p.statement
  pub next : found.next ≡ p.next
  pub resumed : (l : ℕ) → l < 64 → resumed_from kept' l ≡ cond (has (pauses p.statement) l) (d (only l) p.statement) (resumed_from kept l)

-- the pass refuses no node, and has found the summary of p
pub record Found (p : Placed) (r : Result Summary Refusal) (kept kept' : List Codes) : Type 0 where
  pub found : Summary
  pub is : r ≡ Ok found
  pub summarised : Summarised p found kept kept'
