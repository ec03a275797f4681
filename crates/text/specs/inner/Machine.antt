-- The reader: a machine that takes the parts from the last to the first. Every closing bracket and `end` is met before what it
-- closes, so a stack of at most 60 suffices; a statement is met after the `;` or `||` behind it, so chains are loops.
use Rattle.std.specs.Prelude.{ℕ, zero, suc, List, [], ◌∷◌}
use Rattle.std.proofs.Math.Option.{Option, none, some}
use Rattle.esterel.specs.Statement.{Statement, nothing, pause, gotopause, emit, exit, signal, present, sequence, parallel, loop, try}
use Rattle.text.specs.Parts.{Nothing, Gotopause, Emit, Exit, Signal, In, End, Present, Then, Else, Loop, Try, Part, word, number, signal_of, pause_at, semicolon, bars, opening, closing}
use Rattle.text.specs.Grammar.{deepest_open}

-- p before what stands behind a `;`; before what stands behind a `||`
unfoldable pub joined : Statement → Option Statement → Statement
joined p none = p
joined p (some q) = sequence p q

unfoldable pub beside : Statement → Option Statement → Statement
beside p none = p
beside p (some q) = parallel p q

-- what is open, innermost first: a `]`; an `end`; an `end` with the else branch before it. Each with what stands behind it: the
-- chain behind a `;`, then the statement behind a `||`.
pub data Stack : Type 0 where
  bottom : Stack
  bracket ending : Option Statement → Option Statement → Stack → Stack
  otherwise : Statement → Option Statement → Option Statement → Stack → Stack

-- the branches before which `signal S` or `present S` is due
pub data Head : Type 0 where
  after_in : Statement → Head
  after_then : Statement → Statement → Head

-- the first number is how many brackets and `end`s may still be opened inside
pub data State : Type 0 where
  failed : State
  -- the last part of a statement is due, before the chain behind a `;` and the statement behind a `||`
  due : ℕ → Option Statement → Option Statement → Stack → State
  -- the same, and a number or a signal was met
  numbered named : ℕ → ℕ → Option Statement → Option Statement → Stack → State
  -- a chain was met, before the statement behind a `||`
  met : ℕ → Statement → Option Statement → Stack → State
  -- a signal is due; its word is due. They stand in what an `end` closes.
  heading : ℕ → Head → Option Statement → Option Statement → Stack → State
  headed : ℕ → ℕ → Head → Option Statement → Option Statement → Stack → State

-- a single statement was met
unfoldable pub meet : ℕ → Statement → Option Statement → Option Statement → Stack → State
meet n p a b K = met n (joined p a) b K

-- `]` and `end`: one more is open
unfoldable pub push : ℕ → (Stack → Stack) → Stack → State
push zero f K = failed
push (suc n) f K = due n none none (f K)

-- `[` before p
unfoldable pub opened : ℕ → Statement → Stack → State
opened n p bottom = failed
opened n p (bracket a b K) = meet (suc n) p a b K
opened n p (ending a b K) = failed
opened n p (otherwise q a b K) = failed

-- `loop` and `try` before a body: p is the statement
unfoldable pub ended : ℕ → Statement → Stack → State
ended n p bottom = failed
ended n p (bracket a b K) = failed
ended n p (ending a b K) = meet (suc n) p a b K
ended n p (otherwise q a b K) = failed

-- `in`, `then` and `else` before p
unfoldable pub in_before : ℕ → Statement → Stack → State
in_before n p bottom = failed
in_before n p (bracket a b K) = failed
in_before n p (ending a b K) = heading n (after_in p) a b K
in_before n p (otherwise q a b K) = failed

unfoldable pub then_before : ℕ → Statement → Stack → State
then_before n p bottom = failed
then_before n p (bracket a b K) = failed
then_before n p (ending a b K) = heading n (after_then p nothing) a b K
then_before n p (otherwise q a b K) = heading n (after_then p q) a b K

unfoldable pub else_before : ℕ → Statement → Stack → State
else_before n p bottom = failed
else_before n p (bracket a b K) = failed
else_before n p (ending a b K) = due n none none (otherwise p a b K)
else_before n p (otherwise q a b K) = failed

-- `present S` right before `end` or `else`
unfoldable pub bare : ℕ → ℕ → Option Statement → Option Statement → Stack → State
bare n S none none bottom = failed
bare n S none none (bracket a b K) = failed
bare n S none none (ending a b K) = meet (suc n) (present S nothing nothing) a b K
bare n S none none (otherwise q a b K) = meet (suc n) (present S nothing q) a b K
bare n S none (some q) K = failed
bare n S (some p) b K = failed

unfoldable pub signal_before : ℕ → ℕ → Head → Option Statement → Option Statement → Stack → State
signal_before n S (after_in p) a b K = meet (suc n) (signal S p) a b K
signal_before n S (after_then p q) a b K = failed

unfoldable pub present_before : ℕ → ℕ → Head → Option Statement → Option Statement → Stack → State
present_before n S (after_in p) a b K = failed
present_before n S (after_then p q) a b K = meet (suc n) (present S p q) a b K

-- the part before, where a statement must end
unfoldable pub step_due : ℕ → Option Statement → Option Statement → Stack → Part → State
step_due n a b K (word Nothing) = meet n nothing a b K
step_due n a b K (word Gotopause) = failed
step_due n a b K (word Emit) = failed
step_due n a b K (word Exit) = failed
step_due n a b K (word Signal) = failed
step_due n a b K (word In) = failed
step_due n a b K (word End) = push n (ending a b) K
step_due n a b K (word Present) = failed
step_due n a b K (word Then) = failed
step_due n a b K (word Else) = failed
step_due n a b K (word Loop) = failed
step_due n a b K (word Try) = failed
step_due n a b K (number m) = numbered n m a b K
step_due n a b K (signal_of m) = named n m a b K
step_due n a b K (pause_at m) = meet n (pause m) a b K
step_due n a b K semicolon = failed
step_due n a b K bars = failed
step_due n a b K opening = failed
step_due n a b K closing = push n (bracket a b) K

-- before a number
unfoldable pub step_numbered : ℕ → ℕ → Option Statement → Option Statement → Stack → Part → State
step_numbered n k a b K (word Nothing) = failed
step_numbered n k a b K (word Gotopause) = meet n (gotopause k) a b K
step_numbered n k a b K (word Emit) = failed
step_numbered n k a b K (word Exit) = meet n (exit k) a b K
step_numbered n k a b K (word Signal) = failed
step_numbered n k a b K (word In) = failed
step_numbered n k a b K (word End) = failed
step_numbered n k a b K (word Present) = failed
step_numbered n k a b K (word Then) = failed
step_numbered n k a b K (word Else) = failed
step_numbered n k a b K (word Loop) = failed
step_numbered n k a b K (word Try) = failed
step_numbered n k a b K (number m) = failed
step_numbered n k a b K (signal_of m) = failed
step_numbered n k a b K (pause_at m) = failed
step_numbered n k a b K semicolon = failed
step_numbered n k a b K bars = failed
step_numbered n k a b K opening = failed
step_numbered n k a b K closing = failed

-- before a signal
unfoldable pub step_named : ℕ → ℕ → Option Statement → Option Statement → Stack → Part → State
step_named n S a b K (word Nothing) = failed
step_named n S a b K (word Gotopause) = failed
step_named n S a b K (word Emit) = meet n (emit S) a b K
step_named n S a b K (word Exit) = failed
step_named n S a b K (word Signal) = failed
step_named n S a b K (word In) = failed
step_named n S a b K (word End) = failed
step_named n S a b K (word Present) = bare n S a b K
step_named n S a b K (word Then) = failed
step_named n S a b K (word Else) = failed
step_named n S a b K (word Loop) = failed
step_named n S a b K (word Try) = failed
step_named n S a b K (number m) = failed
step_named n S a b K (signal_of m) = failed
step_named n S a b K (pause_at m) = failed
step_named n S a b K semicolon = failed
step_named n S a b K bars = failed
step_named n S a b K opening = failed
step_named n S a b K closing = failed

-- before a chain
unfoldable pub step_met : ℕ → Statement → Option Statement → Stack → Part → State
step_met n p b K (word Nothing) = failed
step_met n p b K (word Gotopause) = failed
step_met n p b K (word Emit) = failed
step_met n p b K (word Exit) = failed
step_met n p b K (word Signal) = failed
step_met n p b K (word In) = in_before n (beside p b) K
step_met n p b K (word End) = failed
step_met n p b K (word Present) = failed
step_met n p b K (word Then) = then_before n (beside p b) K
step_met n p b K (word Else) = else_before n (beside p b) K
step_met n p b K (word Loop) = ended n (loop (beside p b)) K
step_met n p b K (word Try) = ended n (try (beside p b)) K
step_met n p b K (number m) = failed
step_met n p b K (signal_of m) = failed
step_met n p b K (pause_at m) = failed
step_met n p b K semicolon = due n (some p) b K
step_met n p b K bars = due n none (some (beside p b)) K
step_met n p b K opening = opened n (beside p b) K
step_met n p b K closing = failed

-- before `in` or `then`
unfoldable pub step_heading : ℕ → Head → Option Statement → Option Statement → Stack → Part → State
step_heading n h a b K (word Nothing) = failed
step_heading n h a b K (word Gotopause) = failed
step_heading n h a b K (word Emit) = failed
step_heading n h a b K (word Exit) = failed
step_heading n h a b K (word Signal) = failed
step_heading n h a b K (word In) = failed
step_heading n h a b K (word End) = failed
step_heading n h a b K (word Present) = failed
step_heading n h a b K (word Then) = failed
step_heading n h a b K (word Else) = failed
step_heading n h a b K (word Loop) = failed
step_heading n h a b K (word Try) = failed
step_heading n h a b K (number m) = failed
step_heading n h a b K (signal_of m) = headed n m h a b K
step_heading n h a b K (pause_at m) = failed
step_heading n h a b K semicolon = failed
step_heading n h a b K bars = failed
step_heading n h a b K opening = failed
step_heading n h a b K closing = failed

-- before the signal of `in` or `then`
unfoldable pub step_headed : ℕ → ℕ → Head → Option Statement → Option Statement → Stack → Part → State
step_headed n S h a b K (word Nothing) = failed
step_headed n S h a b K (word Gotopause) = failed
step_headed n S h a b K (word Emit) = failed
step_headed n S h a b K (word Exit) = failed
step_headed n S h a b K (word Signal) = signal_before n S h a b K
step_headed n S h a b K (word In) = failed
step_headed n S h a b K (word End) = failed
step_headed n S h a b K (word Present) = present_before n S h a b K
step_headed n S h a b K (word Then) = failed
step_headed n S h a b K (word Else) = failed
step_headed n S h a b K (word Loop) = failed
step_headed n S h a b K (word Try) = failed
step_headed n S h a b K (number m) = failed
step_headed n S h a b K (signal_of m) = failed
step_headed n S h a b K (pause_at m) = failed
step_headed n S h a b K semicolon = failed
step_headed n S h a b K bars = failed
step_headed n S h a b K opening = failed
step_headed n S h a b K closing = failed

unfoldable pub step : Part → State → State
step t failed = failed
step t (due n a b K) = step_due n a b K t
step t (numbered n m a b K) = step_numbered n m a b K t
step t (named n S a b K) = step_named n S a b K t
step t (met n p b K) = step_met n p b K t
step t (heading n h a b K) = step_heading n h a b K t
step t (headed n S h a b K) = step_headed n S h a b K t

-- from the last part to the first
unfoldable pub run : List Part → State → State
run [] x = x
run (t ∷ ts) x = step t (run ts x)

-- the statement, where all parts were taken and nothing is open
unfoldable pub closed : Statement → Stack → Option Statement
closed p bottom = some p
closed p (bracket a b K) = none
closed p (ending a b K) = none
closed p (otherwise q a b K) = none

unfoldable pub outcome : State → Option Statement
outcome failed = none
outcome (due n a b K) = none
outcome (numbered n m a b K) = none
outcome (named n S a b K) = none
outcome (met n p b K) = closed (beside p b) K
outcome (heading n h a b K) = none
outcome (headed n S h a b K) = none

-- the statement of a text that stands at most n deep
unfoldable pub read_within : ℕ → List Part → Option Statement
read_within n ts = outcome (run ts (due n none none bottom))

unfoldable pub read_parts : List Part → Option Statement
read_parts ts = read_within deepest_open ts
