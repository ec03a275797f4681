-- What list answers, for every list of bytes.
use Rattle.std.specs.Prelude.{cond, ◌||◌, List, [], ◌∷◌, ℕ, zero, suc, ltb, length, Result}
use Rattle.esterel.specs.Statement.{Statement}
use Rattle.esterel.specs.Reactions.{State, start, resumed, Reaction}
use Rattle.esterel.specs.Listing.{listing, crowded, nesting}
use Rattle.table.specs.declared.Refusal.{Refusal}
use Rattle.table.specs.Outcomes.{Outcome, refusal, values, outcome}
use Rattle.table.specs.Reading.{Table, table_of}
use Rattle.table.specs.Reading as table

-- "a mark (0 the start, whose label set is then ignored; any other number a resumed state) and a label set"
unfoldable pub state_of : ℕ → ℕ → State
state_of zero X = start
state_of (suc mark) X = resumed X

-- what listing comes to: a refusal, or the reactions
pub data Listing : Type 0 where
  refused : ℕ → Listing
  listed : List Reaction → Listing

-- "14 over 12 signal statements inside one another; 15 some list needed, the table's own included, has over 64 reactions"
unfoldable pub list_for : Statement → State → ℕ → Listing
list_for p x E = cond (ltb 12 (nesting p)) (refused 14) (cond (crowded p x E) (refused 15) (listed (listing p x E)))

-- "Check's refusals"
unfoldable pub list_in : Table → ℕ → ℕ → ℕ → Listing
list_in (table.refused w) E mark X = refused w
list_in (table.holds n p) E mark X = list_for p (state_of mark X) E

-- "16 one of the three result buffers (O, k, L) has fewer places than reactions"
unfoldable pub fitted : ℕ → ℕ → ℕ → Listing → Listing
fitted o k l (refused w) = refused w
fitted o k l (listed ts) = cond (ltb o (length ts) || (ltb k (length ts) || ltb l (length ts))) (refused 16) (listed ts)

-- of the bytes t, under E, in the state of a mark and a label set, with so many places in the buffers
unfoldable pub list_of : List ℕ → ℕ → ℕ → ℕ → ℕ → ℕ → ℕ → Listing
list_of t E mark X o k l = fitted o k l (list_in (table_of t) E mark X)

-- the reactions that stand in the buffers afterwards
unfoldable pub written : Listing → List Reaction
written (refused w) = []
written (listed ts) = ts

-- "Accepted: the count"
unfoldable pub listing_outcome : Listing → Outcome
listing_outcome (refused w) = refusal w
listing_outcome (listed ts) = values (length ts ∷ [])

-- what is said of an answer of list: the number of its refusal, or the count
abbrev pub answer_outcome : Result ℕ Refusal → Outcome
answer_outcome = outcome (λ n. n ∷ [])
