-- Listing once for a set U of unknown signals: a row is a reaction with the condition on them under which it is one. What
-- the lists of specs/Listing hold under each set F that differs from E only in U is read off the one list of rows
-- (proofs/Unknown), so a body inside n signal statements is listed once and not 2 ^ n times.
use Rattle.std.specs.Prelude.{ℕ, ◌≤◌, ◌≡◌, Bool, true, false, cond, not, ◌||◌, List, [], ◌∷◌, ◌++◌, eqb, length}
use Rattle.sets.specs.Set.{has, only, ◌union◌, ◌intersect◌, ◌without◌}
use Rattle.esterel.specs.Statement.{Statement, nothing, pause, gotopause, emit, exit, signal, present, sequence, parallel, loop, try, pauses}
use Rattle.esterel.specs.Codes.{code_of, through}
use Rattle.esterel.specs.Reactions.{State, start, resumed, Reaction}
use Rattle.esterel.specs.Listing.{Listed, reaction, one, only_if, pair, some_ends}
use Rattle.esterel.specs.inner.Conditions.{slot_of, seen, Condition, condition, always, holds, both, clashes, forget}

-- ---- Rows

pub record Row : Type 0 where
  pub when : Condition
  pub reacts : Reaction

abbrev pub row_when : Condition → Reaction → Row
row_when c r = record { when = c; reacts = r }

-- the one row of a reaction, whatever the unknown signals are
abbrev pub sure : Reaction → List Row
sure r = row_when always r ∷ []

abbrev pub only_rows : Bool → List Row → List Row
only_rows b ws = cond b ws []

-- the reactions of the rows whose conditions hold under the set F of slots
unfoldable pub under : ℕ → List Row → List Reaction
under F [] = []
under F (w ∷ ws) = only_if (holds w.when F) (one w.reacts) ++ under F ws

-- the reactions of all of them
unfoldable pub reactions : List Row → List Reaction
reactions [] = []
reactions (w ∷ ws) = w.reacts ∷ reactions ws

-- what f gives for each
unfoldable pub each_row : List Row → (Row → List Row) → List Row
each_row [] f = []
each_row (w ∷ ws) f = f w ++ each_row ws f

-- the rows with c joined to their conditions, but for those that it clashes with
unfoldable pub given : Condition → List Row → List Row
given c ws = each_row ws (λ w. only_rows (not (clashes (both c w.when))) (row_when (both c w.when) w.reacts ∷ []))

-- what f gives for each reaction, under the conditions of both: every rule that joins a reaction to others
unfoldable pub then : List Row → (Reaction → List Row) → List Row
then ws f = each_row ws (λ w. given w.when (f w.reacts))

-- ws where the signal with the slot s is present and vs where it is absent
unfoldable pub tested : ℕ → List Row → List Row → List Row
tested s ws vs = given (condition (only s) 0) ws ++ given (condition 0 (only s)) vs

-- where S is known, E decides
unfoldable pub asked : ℕ → ℕ → ℕ → ℕ → List Row → List Row → List Row
asked M S E U ws vs = cond (has U S) (tested (slot_of M S) ws vs) (cond (has E S) ws vs)

-- rule emit
unfoldable pub emit_rows : ℕ → ℕ → ℕ → ℕ → List Row
emit_rows M S E U =
    cond (has U S) (row_when (condition (only (slot_of M S)) 0) (reaction (only S) 0 0) ∷ []) (only_rows (has E S) (sure (reaction (only S) 0 0)))

-- rule signal+: the reaction without the declared S
abbrev pub hidden : ℕ → Reaction → Reaction
hidden S r = reaction (r.emitted without S) r.code r.reached

-- rules signal+ and signal-, for a body listed with S, whose slot is s, unknown: a row that emits S has it present, and another
-- is one only where S may be absent
unfoldable pub local_row : ℕ → ℕ → Row → List Row
local_row S s w =
    cond (has w.reacts.emitted S) (row_when (forget s w.when) (hidden S w.reacts) ∷ [])
    (only_rows (not (has w.when.on s)) (row_when (forget s w.when) w.reacts ∷ []))

unfoldable pub local_rows : ℕ → ℕ → List Row → List Row
local_rows S s ws = each_row ws (local_row S s)

-- rule signal+, for a body listed with S present: those that emit S, without it
unfoldable pub hide_rows : ℕ → List Row → List Row
hide_rows S ws = each_row ws (λ w. only_rows (has w.reacts.emitted S) (row_when w.when (hidden S w.reacts) ∷ []))

-- as in specs/Listing
unfoldable pub follow_rows : List Row → List Row → List Row
follow_rows ws vs =
    then ws (λ r. cond (eqb r.code 0) (then vs (λ t. sure (reaction (r.emitted union t.emitted) t.code t.reached))) (sure r))

unfoldable pub together_rows : List Row → List Row → List Row
together_rows ws vs = then ws (λ r. then vs (λ t. sure (pair r t)))

unfoldable pub going_rows : List Row → List Row
going_rows ws = then ws (λ r. only_rows (not (eqb r.code 0)) (sure r))

unfoldable pub caught_rows : List Row → List Row
caught_rows ws = then ws (λ r. sure (reaction r.emitted (through r.code) r.reached))

-- the rows of p in the state x, where the signals of U, which are in M, are unknown and E says which others are present; a
-- declared signal that is not in M is made present and made absent
unfoldable pub rows_of : ℕ → Statement → State → ℕ → ℕ → List Row
rows_of M nothing start E U = sure (reaction 0 0 0)
rows_of M nothing (resumed X) E U = []
rows_of M (pause l) start E U = sure (reaction 0 1 (only l))
rows_of M (pause l) (resumed X) E U = only_rows (has X l) (sure (reaction 0 0 0))
rows_of M (gotopause l) start E U = sure (reaction 0 1 (only l))
rows_of M (gotopause l) (resumed X) E U = []
rows_of M (emit S) start E U = emit_rows M S E U
rows_of M (emit S) (resumed X) E U = []
rows_of M (exit d) start E U = sure (reaction 0 (code_of d) 0)
rows_of M (exit d) (resumed X) E U = []
rows_of M (signal S p) x E U =
    cond (has M S) (local_rows S (slot_of M S) (rows_of M p x E (U union only S)))
    (hide_rows S (rows_of M p x (E union only S) U) ++ rows_of M p x (E without S) U)
rows_of M (present S p q) start E U = asked M S E U (rows_of M p start E U) (rows_of M q start E U)
rows_of M (present S p q) (resumed X) E U = rows_of M p (resumed X) E U ++ rows_of M q (resumed X) E U
rows_of M (sequence p q) start E U = follow_rows (rows_of M p start E U) (rows_of M q start E U)
rows_of M (sequence p q) (resumed X) E U = follow_rows (rows_of M p (resumed X) E U) (rows_of M q start E U) ++ rows_of M q (resumed X) E U
rows_of M (parallel p q) start E U = together_rows (rows_of M p start E U) (rows_of M q start E U)
rows_of M (parallel p q) (resumed X) E U =
    let ws = rows_of M p (resumed X) E U in
    let vs = rows_of M q (resumed X) E U in
    together_rows ws vs ++ (only_rows (eqb (X intersect pauses q) 0) ws ++ only_rows (eqb (X intersect pauses p) 0) vs)
rows_of M (loop p) start E U = going_rows (rows_of M p start E U)
rows_of M (loop p) (resumed X) E U = going_rows (follow_rows (rows_of M p (resumed X) E U) (rows_of M p start E U))
rows_of M (try p) x E U = caught_rows (rows_of M p x E U)

-- ---- What is said of them

-- F and E differ in signals of U only
abbrev pub Agree : ℕ → ℕ → ℕ → Type 0
Agree U E F = (S : ℕ) → has U S ≡ false → has E S ≡ has F S

-- the row gives r under the set F of slots
pub record Gives (F : ℕ) (r : Reaction) (w : Row) : Type 0 where
  pub held : holds w.when F ≡ true
  pub same : w.reacts ≡ r

-- ---- Refusal 15

-- at most 64 rows say as much of the sets that agree with E, as where a list is kept without repetition
abbrev pub Few : ℕ → ℕ → ℕ → List Row → Type 0
Few M E U ws =
    (vs : List Row) × (length vs ≤ 64)
    × ((F : ℕ) → Agree U E F → (r : Reaction) → Listed r (under (seen M F) ws) → Listed r (under (seen M F) vs))

-- of its own rows, and of each list of rows that they are made from
unfoldable pub Quiet : ℕ → Statement → State → ℕ → ℕ → Type 0
Quiet M nothing x E U = Few M E U (rows_of M nothing x E U)
Quiet M (pause l) x E U = Few M E U (rows_of M (pause l) x E U)
Quiet M (gotopause l) x E U = Few M E U (rows_of M (gotopause l) x E U)
Quiet M (emit S) x E U = Few M E U (rows_of M (emit S) x E U)
Quiet M (exit d) x E U = Few M E U (rows_of M (exit d) x E U)
Quiet M (signal S p) x E U =
    Few M E U (rows_of M (signal S p) x E U) × (has M S ≡ true → Quiet M p x E (U union only S))
    × (has M S ≡ false → Quiet M p x (E union only S) U × Quiet M p x (E without S) U)
Quiet M (present S p q) start E U =
    Few M E U (rows_of M (present S p q) start E U)
    × ((has U S || has E S) ≡ true → Quiet M p start E U) × ((has U S || not (has E S)) ≡ true → Quiet M q start E U)
Quiet M (present S p q) (resumed X) E U = Few M E U (rows_of M (present S p q) (resumed X) E U) × Quiet M p (resumed X) E U × Quiet M q (resumed X) E U
Quiet M (sequence p q) start E U =
    Few M E U (rows_of M (sequence p q) start E U) × Quiet M p start E U × (some_ends (reactions (rows_of M p start E U)) ≡ true → Quiet M q start E U)
Quiet M (sequence p q) (resumed X) E U =
    Few M E U (rows_of M (sequence p q) (resumed X) E U) × Quiet M p (resumed X) E U × Quiet M q (resumed X) E U
    × (some_ends (reactions (rows_of M p (resumed X) E U)) ≡ true → Quiet M q start E U)
Quiet M (parallel p q) x E U = Few M E U (rows_of M (parallel p q) x E U) × Quiet M p x E U × Quiet M q x E U
Quiet M (loop p) start E U = Few M E U (rows_of M (loop p) start E U) × Quiet M p start E U
Quiet M (loop p) (resumed X) E U =
    Few M E U (rows_of M (loop p) (resumed X) E U) × Quiet M p (resumed X) E U × (some_ends (reactions (rows_of M p (resumed X) E U)) ≡ true → Quiet M p start E U)
Quiet M (try p) x E U = Few M E U (rows_of M (try p) x E U) × Quiet M p x E U
