-- The rows as code makes them: in order, each once, and none where a list on the way has over 64. With no signal unknown that
-- is none exactly where refusal 15 is due, and else the listing; with unknown signals none is giving up, which says nothing of
-- refusal 15, and rows say that it is not due under any set that agrees with E (proofs/CappedRows).
use Rattle.std.specs.Prelude.{ℕ, Bool, cond, ◌&&◌, ◌||◌, List, [], ◌∷◌, ◌++◌, eqb, ltb, length}
use Rattle.std.proofs.Math.Option.{Option, none, some}
use Rattle.sets.specs.Set.{has, only, ◌union◌, ◌intersect◌, ◌without◌}
use Rattle.esterel.specs.Statement.{Statement, nothing, pause, gotopause, emit, exit, signal, present, sequence, parallel, loop, try, pauses}
use Rattle.esterel.specs.Codes.{code_of}
use Rattle.esterel.specs.Reactions.{State, start, resumed, Reaction}
use Rattle.esterel.specs.Trimming.{names}
use Rattle.esterel.specs.Listing.{reaction, some_ends}
use Rattle.esterel.specs.inner.Conditions.{slot_of}
use Rattle.esterel.specs.inner.Rows.{Row, sure, only_rows, reactions, tested, emit_rows, local_rows, hide_rows, follow_rows, together_rows, going_rows, caught_rows}

-- ---- The order of rows

-- a is less than b, or they are the same and c
unfoldable pub less_or : ℕ → ℕ → Bool → Bool
less_or a b c = ltb a b || (eqb a b && c)

-- by what is emitted, code, condition, and what is reached, as the words are in which rows are kept
unfoldable pub before_row : Row → Row → Bool
before_row w v =
    less_or w.reacts.emitted v.reacts.emitted (less_or w.reacts.code v.reacts.code
    (less_or w.when.on v.when.on (less_or w.when.off v.when.off (ltb w.reacts.reached v.reacts.reached))))

-- into its place in a rising list, unless it is there
unfoldable pub insert_row : Row → List Row → List Row
insert_row w [] = w ∷ []
insert_row w (v ∷ vs) = cond (before_row w v) (w ∷ v ∷ vs) (cond (before_row v w) (v ∷ insert_row w vs) (v ∷ vs))

unfoldable pub sorted_rows : List Row → List Row
sorted_rows [] = []
sorted_rows (w ∷ ws) = insert_row w (sorted_rows ws)

-- ---- Lists of at most 64 rows

abbrev pub CappedRows : Type 0
CappedRows = Option (List Row)

-- a list of over 64 rows counts as none
unfoldable pub cap_rows : List Row → CappedRows
cap_rows ws = cond (ltb 64 (length ws)) none (some ws)

-- rows in any order, and more than once, as a rising list
unfoldable pub collect_rows : List Row → CappedRows
collect_rows ws = cap_rows (sorted_rows ws)

-- the reactions of the rows
unfoldable pub reactions_in : CappedRows → Option (List Reaction)
reactions_in none = none
reactions_in (some ws) = some (reactions ws)

-- one list changed; two lists made one
unfoldable pub change_rows : (List Row → List Row) → CappedRows → CappedRows
change_rows f none = none
change_rows f (some ws) = collect_rows (f ws)

unfoldable pub join_rows : (List Row → List Row → List Row) → CappedRows → CappedRows → CappedRows
join_rows f none w = none
join_rows f (some ws) none = none
join_rows f (some ws) (some vs) = collect_rows (f ws vs)

-- what follows is needed only where some row has a code 0
unfoldable pub then_rows : CappedRows → CappedRows → CappedRows
then_rows none w = none
then_rows (some ws) w = cond (some_ends (reactions ws)) (join_rows follow_rows (some ws) w) (some ws)

-- p || q resumed: one part alone where the state has no label of a pause in the other
unfoldable pub beside_rows : Bool → Bool → CappedRows → CappedRows → CappedRows
beside_rows notP notQ v w = cond notP w (cond notQ v (join_rows together_rows v w))

-- the second where the first gave up
unfoldable pub otherwise : CappedRows → CappedRows → CappedRows
otherwise none w = w
otherwise (some ws) w = some ws

-- p is not listed where signals are unknown; but a resumed part that the state has no label of has no rows, and is not looked into
unfoldable pub given_up : State → Statement → CappedRows
given_up start p = none
given_up (resumed X) p = cond (eqb (X intersect pauses p) 0) (some []) none

-- the two lists of a body, with S present and with S absent, as one
unfoldable pub twice_rows : ℕ → CappedRows → CappedRows → CappedRows
twice_rows S v w = join_rows ◌++◌ (change_rows (hide_rows S) v) w

-- p in the state x, where the signals of U, which are in M, are unknown and E says which others are present
unfoldable pub capped_rows : ℕ → Statement → State → ℕ → ℕ → CappedRows
capped_rows M nothing start E U = some (sure (reaction 0 0 0))
capped_rows M nothing (resumed X) E U = some []
capped_rows M (pause l) start E U = some (sure (reaction 0 1 (only l)))
capped_rows M (pause l) (resumed X) E U = some (only_rows (has X l) (sure (reaction 0 0 0)))
capped_rows M (gotopause l) start E U = some (sure (reaction 0 1 (only l)))
capped_rows M (gotopause l) (resumed X) E U = some []
capped_rows M (emit S) start E U = some (emit_rows M S E U)
capped_rows M (emit S) (resumed X) E U = some []
capped_rows M (exit d) start E U = some (sure (reaction 0 (code_of d) 0))
capped_rows M (exit d) (resumed X) E U = some []
-- a signal that its body does not name is no signal; else once with S unknown, if it is in M; and where it is not, or that gives
-- up, and no signal around is unknown, with S present and with S absent
capped_rows M (signal S p) x E U =
    cond (names S p)
    (otherwise (cond (has M S) (change_rows (local_rows S (slot_of M S)) (capped_rows M p x E (U union only S))) none)
    (cond (eqb U 0) (twice_rows S (capped_rows M p x (E union only S) 0) (capped_rows M p x (E without S) 0)) (given_up x p)))
    (capped_rows M p x E U)
capped_rows M (present S p q) start E U =
    cond (has U S) (join_rows (tested (slot_of M S)) (capped_rows M p start E U) (capped_rows M q start E U))
    (cond (has E S) (capped_rows M p start E U) (capped_rows M q start E U))
capped_rows M (present S p q) (resumed X) E U = join_rows ◌++◌ (capped_rows M p (resumed X) E U) (capped_rows M q (resumed X) E U)
capped_rows M (sequence p q) start E U = then_rows (capped_rows M p start E U) (capped_rows M q start E U)
capped_rows M (sequence p q) (resumed X) E U =
    join_rows ◌++◌ (then_rows (capped_rows M p (resumed X) E U) (capped_rows M q start E U)) (capped_rows M q (resumed X) E U)
capped_rows M (parallel p q) start E U = join_rows together_rows (capped_rows M p start E U) (capped_rows M q start E U)
capped_rows M (parallel p q) (resumed X) E U =
    beside_rows (eqb (X intersect pauses p) 0) (eqb (X intersect pauses q) 0) (capped_rows M p (resumed X) E U) (capped_rows M q (resumed X) E U)
capped_rows M (loop p) start E U = change_rows going_rows (capped_rows M p start E U)
capped_rows M (loop p) (resumed X) E U = then_rows (capped_rows M p (resumed X) E U) (change_rows going_rows (capped_rows M p start E U))
capped_rows M (try p) x E U = change_rows caught_rows (capped_rows M p x E U)
