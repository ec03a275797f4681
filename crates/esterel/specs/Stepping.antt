-- Stepping from the signals that are provided (document 02, order 1).
use Rattle.std.specs.Prelude.{ℕ, zero, suc, ◌≡◌, ◌≢◌, Bool, cond, ◌&&◌, List, [], ◌∷◌, ◌++◌, eqb, ltb}
use Rattle.sets.specs.Set.{has, only, count, ◌union◌, ◌without◌}
use Rattle.esterel.specs.Statement.{Statement, nothing, pause, gotopause, emit, exit, signal, present, sequence, parallel, loop, try}
use Rattle.esterel.specs.Reactions.{State, Reaction, Reacts}
use Rattle.esterel.specs.Runs.{Step}
use Rattle.esterel.specs.Listing.{listing, some, crowded}

-- ---- What an answer means

-- a step of p in the state x from the provided set I: a reaction "under an E equal to I joined with O"
pub record StepFrom (p : Statement) (x : State) (I : ℕ) (t : Step) : Type 0 where
  pub joined : t.assumed ≡ I union t.reaction.emitted
  pub reacts : Reacts p x t.assumed t.reaction

-- "Answer "one" with E, O, k, L, or "none", or "several""
pub data Answer : Type 0 where
  one : Step → Answer
  none several : Answer

-- what it says of steps: that there is this one and no other; none; "at least two different ones"
unfoldable pub Says : Answer → (Step → Type 0) → Type 0
Says (one t) P = P t × ((u : Step) → P u → u ≡ t)
Says none P = (t : Step) → P t → ⊥
Says several P = (t : Step) × (u : Step) × P t × P u × (t ≢ u)

-- a is the answer for p in the state x from I. No two are, and the one computed below is, where signals are numbers below 32
-- (proofs/Stepping).
abbrev pub IsAnswer : Statement → State → ℕ → Answer → Type 0
IsAnswer p x I a = Says a (StepFrom p x I)

-- ---- The sets E that are looked at

-- the "signals .. emitted outside a declaration of them"
unfoldable pub emitted_free : Statement → ℕ
emitted_free nothing = 0
emitted_free (pause l) = 0
emitted_free (gotopause l) = 0
emitted_free (emit S) = only S
emitted_free (exit d) = 0
emitted_free (signal S p) = emitted_free p without S
emitted_free (present S p q) = emitted_free p union emitted_free q
emitted_free (sequence p q) = emitted_free p union emitted_free q
emitted_free (parallel p q) = emitted_free p union emitted_free q
emitted_free (loop p) = emitted_free p
emitted_free (try p) = emitted_free p

-- "made of I and none, some or all of those signals": of the members of F that are below n
unfoldable pub made_of : ℕ → ℕ → ℕ → List ℕ
made_of zero I F = I ∷ []
made_of (suc S) I F = cond (has F S) (made_of S (I union only S) F ++ made_of S I F) (made_of S I F)

-- a signal is a number below 32
abbrev pub signals : ℕ
signals = 32

unfoldable pub looked_at : Statement → ℕ → List ℕ
looked_at p I = made_of signals I (emitted_free p)

-- ---- The answer, computed

unfoldable pub same : Reaction → Reaction → Bool
same r t = eqb r.emitted t.emitted && (eqb r.code t.code && eqb r.reached t.reached)

-- what two answers, each of some steps, come to together
unfoldable pub combined : Answer → Answer → Answer
combined none b = b
combined several b = several
combined (one t) none = one t
combined (one t) several = several
combined (one t) (one u) = cond (same t.reaction u.reaction) (one t) several

-- those of the reactions ts under E that are steps from I
unfoldable pub answer_under : ℕ → ℕ → List Reaction → Answer
answer_under I E [] = none
answer_under I E (r ∷ ts) = combined (cond (eqb E (I union r.emitted)) (one (record { assumed = E; reaction = r })) none) (answer_under I E ts)

unfoldable pub answer_among : Statement → State → ℕ → List ℕ → Answer
answer_among p x I [] = none
answer_among p x I (E ∷ more) = combined (answer_under I E (listing p x E)) (answer_among p x I more)

-- the answer for a program in a state from I: what contracts and the theorem on the trimmed program speak of
unfoldable pub stepping : Statement → State → ℕ → Answer
stepping p x I = answer_among p x I (looked_at p I)

-- ---- Refusals 17 and 15

-- "over 10 different signals are emitted outside a declaration of them"
unfoldable pub many_free : Statement → Bool
many_free p = ltb 10 (count signals (emitted_free p))

-- "listing gives it for any E made of I and none, some or all of those signals"
unfoldable pub crowded_from : Statement → State → ℕ → Bool
crowded_from p x I = some (crowded p x) (looked_at p I)
