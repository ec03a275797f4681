-- The reader takes every text that the grammar derives, and gives its statement.
use Prim.Native.Nat.{ℕ, suc}
use mathlib.Core.Path.{◌≡◌, refl, ap, ◌∙◌}
use mathlib.Core.Option.{Option, none, some}
use mathlib.Core.List.{List, [], ◌∷◌, ◌++◌}
use Rattle.esterel.specs.Statement.{Statement}
use Rattle.text.specs.Parts.{Signal, In, End, Present, Then, Else, Loop, Try, Part, word, signal_of, semicolon, bars, opening, closing}
use Rattle.text.specs.Grammar.{Level, single, chain, whole, Text, nothing, pause, gotopause, emit, exit, signal, present, present_then, present_else, present_bare, loop, try, brackets, one_chain, sequence, one_whole, parallel}
use Rattle.text.specs.inner.Machine.{joined, beside, Stack, bottom, bracket, ending, otherwise, State, due, met, meet, push, opened, ended, in_before, then_before, else_before, bare, signal_before, present_before}
use Rattle.text.specs.inner.Machine.{step_due, step_numbered, step_named, step_met, step_heading, step_headed, step, run, closed, outcome, read_within}

pub run_append : (ts us : List Part) (x : State) → run (ts ++ us) x ≡ run ts (run us x)
unfolding run
run_append [] us x = refl
run_append (t ∷ ts) us x = ap (step t) (run_append ts us x)

-- a whole text was taken before the stack K: the machine holds its last chain and what stands behind that chain's `||`
record Taken (n : ℕ) (ts : List Part) (p : Statement) (K : Stack) : Type 0 where
  last : Statement
  behind : Option Statement
  runs : run ts (due n none none K) ≡ met n last behind K
  together : beside last behind ≡ p

abbrev Takes : Level → ℕ → List Part → Statement → Type 0
Takes single n ts p = (a b : Option Statement) (K : Stack) → run ts (due n a b K) ≡ met n (joined p a) b K
Takes chain n ts p = (b : Option Statement) (K : Stack) → run ts (due n none b K) ≡ met n p b K
Takes whole n ts p = (K : Stack) → Taken n ts p K

-- the run of a text that is followed by one part
behind_part : (us : List Part) (t : Part) (x : State) → run (us ++ (t ∷ [])) x ≡ run us (step t x)
unfolding run
behind_part us t x = run_append us (t ∷ []) x

signal_runs : (n S : ℕ) (us : List Part) (p : Statement) (a b : Option Statement) (K : Stack) → Taken n us p (ending a b K)
    → run (word Signal ∷ signal_of S ∷ word In ∷ (us ++ (word End ∷ []))) (due (suc n) a b K) ≡ met (suc n) (joined (Statement.signal S p) a) b K
unfolding run step step_due push step_met in_before step_heading step_headed signal_before meet
signal_runs n S us p a b K t =
    ap (λ (x : State). step (word Signal) (step (signal_of S) (step (word In) x))) (behind_part us (word End) (due (suc n) a b K) ∙ t.runs)
    ∙ ap (λ (q : Statement). met (suc n) (joined (Statement.signal S q) a) b K) t.together

loop_runs : (n : ℕ) (us : List Part) (p : Statement) (a b : Option Statement) (K : Stack) → Taken n us p (ending a b K)
    → run (word Loop ∷ (us ++ (word End ∷ []))) (due (suc n) a b K) ≡ met (suc n) (joined (Statement.loop p) a) b K
unfolding run step step_due push step_met ended meet
loop_runs n us p a b K t =
    ap (step (word Loop)) (behind_part us (word End) (due (suc n) a b K) ∙ t.runs)
    ∙ ap (λ (q : Statement). met (suc n) (joined (Statement.loop q) a) b K) t.together

try_runs : (n : ℕ) (us : List Part) (p : Statement) (a b : Option Statement) (K : Stack) → Taken n us p (ending a b K)
    → run (word Try ∷ (us ++ (word End ∷ []))) (due (suc n) a b K) ≡ met (suc n) (joined (Statement.try p) a) b K
unfolding run step step_due push step_met ended meet
try_runs n us p a b K t =
    ap (step (word Try)) (behind_part us (word End) (due (suc n) a b K) ∙ t.runs)
    ∙ ap (λ (q : Statement). met (suc n) (joined (Statement.try q) a) b K) t.together

brackets_run : (n : ℕ) (us : List Part) (p : Statement) (a b : Option Statement) (K : Stack) → Taken n us p (bracket a b K)
    → run (opening ∷ (us ++ (closing ∷ []))) (due (suc n) a b K) ≡ met (suc n) (joined p a) b K
unfolding run step step_due push step_met opened meet
brackets_run n us p a b K t =
    ap (step opening) (behind_part us closing (due (suc n) a b K) ∙ t.runs)
    ∙ ap (λ (q : Statement). met (suc n) (joined q a) b K) t.together

then_runs : (n S : ℕ) (us : List Part) (p : Statement) (a b : Option Statement) (K : Stack) → Taken n us p (ending a b K)
    → run (word Present ∷ signal_of S ∷ word Then ∷ (us ++ (word End ∷ []))) (due (suc n) a b K) ≡ met (suc n) (joined (Statement.present S p Statement.nothing) a) b K
unfolding run step step_due push step_met then_before step_heading step_headed present_before meet
then_runs n S us p a b K t =
    ap (λ (x : State). step (word Present) (step (signal_of S) (step (word Then) x))) (behind_part us (word End) (due (suc n) a b K) ∙ t.runs)
    ∙ ap (λ (q : Statement). met (suc n) (joined (Statement.present S q Statement.nothing) a) b K) t.together

-- up to `else`
else_opens : (n : ℕ) (vs : List Part) (q : Statement) (a b : Option Statement) (K : Stack) → Taken n vs q (ending a b K)
    → run (word Else ∷ (vs ++ (word End ∷ []))) (due (suc n) a b K) ≡ due n none none (otherwise q a b K)
unfolding run step step_due push step_met else_before
else_opens n vs q a b K t =
    ap (step (word Else)) (behind_part vs (word End) (due (suc n) a b K) ∙ t.runs)
    ∙ ap (λ (r : Statement). due n none none (otherwise r a b K)) t.together

else_runs : (n S : ℕ) (vs : List Part) (q : Statement) (a b : Option Statement) (K : Stack) → Taken n vs q (ending a b K)
    → run (word Present ∷ signal_of S ∷ word Else ∷ (vs ++ (word End ∷ []))) (due (suc n) a b K) ≡ met (suc n) (joined (Statement.present S Statement.nothing q) a) b K
unfolding run step step_due step_named bare meet
else_runs n S vs q a b K t = ap (λ (x : State). step (word Present) (step (signal_of S) x)) (else_opens n vs q a b K t)

both_run : (n S : ℕ) (us vs : List Part) (p q : Statement) (a b : Option Statement) (K : Stack) → Taken n us p (otherwise q a b K) → Taken n vs q (ending a b K)
    → run (word Present ∷ signal_of S ∷ word Then ∷ (us ++ (word Else ∷ (vs ++ (word End ∷ []))))) (due (suc n) a b K) ≡ met (suc n) (joined (Statement.present S p q) a) b K
unfolding run step step_due push step_met then_before step_heading step_headed present_before meet
both_run n S us vs p q a b K t u =
    ap (λ (x : State). step (word Present) (step (signal_of S) (step (word Then) x)))
    (run_append us (word Else ∷ (vs ++ (word End ∷ []))) (due (suc n) a b K) ∙ ap (run us) (else_opens n vs q a b K u) ∙ t.runs)
    ∙ ap (λ (r : Statement). met (suc n) (joined (Statement.present S r q) a) b K) t.together

sequence_runs : (n : ℕ) (us vs : List Part) (p q : Statement) (b : Option Statement) (K : Stack)
    → ((a b : Option Statement) (K : Stack) → run us (due n a b K) ≡ met n (joined p a) b K)
    → run vs (due n none b K) ≡ met n q b K
    → run (us ++ (semicolon ∷ vs)) (due n none b K) ≡ met n (Statement.sequence p q) b K
unfolding run step step_met joined
sequence_runs n us vs p q b K f g = run_append us (semicolon ∷ vs) (due n none b K) ∙ ap (λ (x : State). run us (step semicolon x)) g ∙ f (some q) b K

parallel_runs : (n : ℕ) (us vs : List Part) (p q : Statement) (K : Stack)
    → ((b : Option Statement) (K : Stack) → run us (due n none b K) ≡ met n p b K) → Taken n vs q K
    → run (us ++ (bars ∷ vs)) (due n none none K) ≡ met n p (some q) K
unfolding run step step_met
parallel_runs n us vs p q K f t =
    run_append us (bars ∷ vs) (due n none none K) ∙ ap (λ (x : State). run us (step bars x)) t.runs
    ∙ ap (λ (r : Statement). run us (due n none (some r) K)) t.together ∙ f (some q) K

takes : {l : Level} {n : ℕ} {ts : List Part} {p : Statement} → Text l n ts p → Takes l n ts p
unfolding run step step_due step_numbered step_named push bare meet joined beside
takes (nothing e) = λ a b K. rw e
takes (pause e) = λ a b K. rw e
takes (gotopause e) = λ a b K. rw e
takes (emit e) = λ a b K. rw e
takes (exit e) = λ a b K. rw e
takes (signal us d e) = λ a b K. rw e (signal_runs _ _ us _ a b K (takes d (ending a b K)))
takes (present us vs d f e) = λ a b K. rw e (both_run _ _ us vs _ _ a b K (takes d (otherwise _ a b K)) (takes f (ending a b K)))
takes (present_then us d e) = λ a b K. rw e (then_runs _ _ us _ a b K (takes d (ending a b K)))
takes (present_else vs d e) = λ a b K. rw e (else_runs _ _ vs _ a b K (takes d (ending a b K)))
takes (present_bare e) = λ a b K. rw e
takes (loop us d e) = λ a b K. rw e (loop_runs _ us _ a b K (takes d (ending a b K)))
takes (try us d e) = λ a b K. rw e (try_runs _ us _ a b K (takes d (ending a b K)))
takes (brackets us d e) = λ a b K. rw e (brackets_run _ us _ a b K (takes d (bracket a b K)))
takes (one_chain d) = λ b K. takes d none b K
takes (sequence us vs d f e) = λ b K. rw e (sequence_runs _ us vs _ _ b K (takes d) (takes f b K))
takes (one_whole d) = λ K. record { last = _; behind = none; runs = takes d none K; together = refl }
takes (parallel {p = p} {q = q} us vs d f e) = λ K. record { last = p; behind = some q; runs = rw e (parallel_runs _ us vs _ _ K (takes d) (takes f K)); together = refl }

-- what the grammar derives is read as its statement
pub reads : {n : ℕ} {ts : List Part} {p : Statement} → Text whole n ts p → read_within n ts ≡ some p
unfolding read_within outcome closed
reads d = let t = takes d bottom in ap outcome t.runs ∙ ap some t.together
