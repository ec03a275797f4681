-- What the reader takes, the grammar derives. The invariant says of each state of the machine what the parts already taken are.
use Prim.Native.Nat.{ℕ, zero, suc}
use mathlib.Core.Path.{◌≡◌, refl, sym, ap, ◌∙◌, subst}
use native.Mathlib.Omega.{arith}
use mathlib.Core.Option.{Option, none, some}
use mathlib.Core.List.{List, [], ◌∷◌, ◌++◌, append_assoc, append-nil}
use Rattle.esterel.specs.Statement.{Statement}
use Rattle.text.specs.Parts.{Nothing, Gotopause, Emit, Exit, Signal, In, End, Present, Then, Else, Loop, Try, Part, word, number, signal_of, pause_at, semicolon, bars, opening, closing}
use Rattle.text.specs.Grammar.{single, chain, whole, Text, nothing, pause, gotopause, emit, exit, signal, present, present_then, present_else, present_bare, loop, try, brackets, one_chain, sequence, one_whole, parallel}
use Rattle.text.specs.inner.Machine.{joined, beside, Stack, bottom, bracket, ending, otherwise, Head, after_in, after_then, State, failed, due, numbered, named, met, heading, headed, meet, push, opened, ended, in_before, then_before, else_before, bare, signal_before, present_before}
use Rattle.text.specs.inner.Machine.{step_due, step_numbered, step_named, step_met, step_heading, step_headed, step, run, closed, outcome, read_within}

-- ---- The invariant

-- the chain behind a `;`, if there is one; the statement behind a `||`
abbrev After : ℕ → Option Statement → List Part → Type 0
After n none us = us ≡ []
After n (some q) us = (vs : List Part) × (us ≡ semicolon ∷ vs) × Text chain n vs q

abbrev Aside : ℕ → Option Statement → List Part → Type 0
Aside n none us = us ≡ []
Aside n (some q) us = (vs : List Part) × (us ≡ bars ∷ vs) × Text whole n vs q

-- both, then what Rest says
record Pending (n : ℕ) (a b : Option Statement) (Rest : List Part → Type 0) (ts : List Part) : Type 0 where
  us : List Part
  vs : List Part
  ws : List Part
  parts : ts ≡ us ++ (vs ++ ws)
  after : After n a us
  aside : Aside n b vs
  rest : Rest ws

-- a chain, the statement behind its `||`, then what Rest says
record Standing (n : ℕ) (p : Statement) (b : Option Statement) (Rest : List Part → Type 0) (ts : List Part) : Type 0 where
  us : List Part
  vs : List Part
  ws : List Part
  parts : ts ≡ us ++ (vs ++ ws)
  text : Text chain n us p
  aside : Aside n b vs
  rest : Rest ws

-- a whole statement, then what Rest says
record Total (n : ℕ) (p : Statement) (Rest : List Part → Type 0) (ts : List Part) : Type 0 where
  us : List Part
  ws : List Part
  parts : ts ≡ us ++ ws
  text : Text whole n us p
  rest : Rest ws

-- a part, then what Rest says
record First (t : Part) (Rest : List Part → Type 0) (ts : List Part) : Type 0 where
  us : List Part
  parts : ts ≡ t ∷ us
  rest : Rest us

-- `else`, a branch and `end`
record ElseText (n : ℕ) (q : Statement) (Rest : List Part → Type 0) (ts : List Part) : Type 0 where
  us : List Part
  ws : List Part
  parts : ts ≡ (word Else ∷ (us ++ (word End ∷ []))) ++ ws
  text : Text whole n us q
  rest : Rest ws

-- the parts behind `signal S` or `present S` that make a statement with them
abbrev HeadText : ℕ → Head → List Part → Type 0
HeadText n (after_in p) us = (S : ℕ) → Text single (suc n) (word Signal ∷ signal_of S ∷ us) (Statement.signal S p)
HeadText n (after_then p q) us = (S : ℕ) → Text single (suc n) (word Present ∷ signal_of S ∷ us) (Statement.present S p q)

record Headless (n : ℕ) (h : Head) (Rest : List Part → Type 0) (ts : List Part) : Type 0 where
  us : List Part
  ws : List Part
  parts : ts ≡ us ++ ws
  head : HeadText n h us
  rest : Rest ws

-- what stands behind the innermost body: nothing, where d may stand inside one another in all
abbrev Behind : ℕ → ℕ → Stack → List Part → Type 0
Behind d n bottom ts = (ts ≡ []) × (n ≡ d)
Behind d n (bracket a b K) ts = First closing (λ x. Pending (suc n) a b (λ y. Behind d (suc n) K y) x) ts
Behind d n (ending a b K) ts = First (word End) (λ x. Pending (suc n) a b (λ y. Behind d (suc n) K y) x) ts
Behind d n (otherwise q a b K) ts = ElseText n q (λ x. Pending (suc n) a b (λ y. Behind d (suc n) K y) x) ts

abbrev Holds : ℕ → State → List Part → Type 0
Holds d failed ts = Unit {0}
Holds d (due n a b K) ts = Pending n a b (Behind d n K) ts
Holds d (numbered n m a b K) ts = First (number m) (Pending n a b (Behind d n K)) ts
Holds d (named n S a b K) ts = First (signal_of S) (Pending n a b (Behind d n K)) ts
Holds d (met n p b K) ts = Standing n p b (Behind d n K) ts
Holds d (heading n h a b K) ts = Headless n h (Pending (suc n) a b (Behind d (suc n) K)) ts
Holds d (headed n S h a b K) ts = First (signal_of S) (Headless n h (Pending (suc n) a b (Behind d (suc n) K))) ts

-- ---- Each step keeps it

-- a single statement before what is pending is a chain
settle : (n : ℕ) {us ts : List Part} (xs : List Part) (p : Statement) (a b : Option Statement) (B : List Part → Type 0)
    → Text single n us p → Pending n a b B ts → xs ≡ us ++ ts → Standing n (joined p a) b B xs
unfolding joined
settle n {us} xs p none b B t h e =
    record { us = us; vs = h.vs; ws = h.ws; parts = e ∙ ap (λ (x : List Part). us ++ x) (h.parts ∙ ap (λ (x : List Part). x ++ (h.vs ++ h.ws)) h.after); text = one_chain t; aside = h.aside; rest = h.rest }
settle n {us} xs p (some q) b B t h e =
    record {
      us = us ++ (semicolon ∷ h.after.0);
      vs = h.vs;
      ws = h.ws;
      parts = e ∙ ap (λ (x : List Part). us ++ x) (h.parts ∙ ap (λ (x : List Part). x ++ (h.vs ++ h.ws)) h.after.1) ∙ sym (append_assoc us (semicolon ∷ h.after.0) (h.vs ++ h.ws));
      text = sequence us h.after.0 t h.after.2 refl;
      aside = h.aside;
      rest = h.rest;
    }

-- a chain with the statement behind its `||` is a whole statement
total : (n : ℕ) {ts : List Part} (p : Statement) (b : Option Statement) (B : List Part → Type 0) → Standing n p b B ts → Total n (beside p b) B ts
unfolding beside
total n p none B h = record { us = h.us; ws = h.ws; parts = h.parts ∙ ap (λ (x : List Part). h.us ++ (x ++ h.ws)) h.aside; text = one_whole h.text; rest = h.rest }
total n p (some q) B h =
    record {
      us = h.us ++ (bars ∷ h.aside.0);
      ws = h.ws;
      parts = h.parts ∙ ap (λ (x : List Part). h.us ++ (x ++ h.ws)) h.aside.1 ∙ sym (append_assoc h.us (bars ∷ h.aside.0) h.ws);
      text = parallel h.us h.aside.0 h.text h.aside.2 refl;
      rest = h.rest;
    }

-- parts, then a body with what closes it
fold : (us ws xs ts : List Part) (t : Part) → ts ≡ us ++ ws → ws ≡ t ∷ xs → ts ≡ (us ++ (t ∷ [])) ++ xs
fold us ws xs ts t e f = e ∙ ap (λ (x : List Part). us ++ x) f ∙ sym (append_assoc us (t ∷ []) xs)

-- what the machine does with a whole statement
module _ (d n : ℕ) (p : Statement) (ts : List Part) where
  keep_opened : (K : Stack) → Total n p (Behind d n K) ts → Holds d (opened n p K) (opening ∷ ts)
  unfolding opened meet
  keep_opened bottom h = tt
  keep_opened (bracket a b K) h =
      settle (suc n) (opening ∷ ts) p a b (Behind d (suc n) K) (brackets h.us h.text refl) h.rest.rest
      (ap (λ (x : List Part). opening ∷ x) (fold h.us h.ws h.rest.us ts closing h.parts h.rest.parts))
  keep_opened (ending a b K) h = tt
  keep_opened (otherwise q a b K) h = tt

  keep_loop : (K : Stack) → Total n p (Behind d n K) ts → Holds d (ended n (Statement.loop p) K) (word Loop ∷ ts)
  unfolding ended meet
  keep_loop bottom h = tt
  keep_loop (bracket a b K) h = tt
  keep_loop (ending a b K) h =
      settle (suc n) (word Loop ∷ ts) (Statement.loop p) a b (Behind d (suc n) K) (loop h.us h.text refl) h.rest.rest
      (ap (λ (x : List Part). word Loop ∷ x) (fold h.us h.ws h.rest.us ts (word End) h.parts h.rest.parts))
  keep_loop (otherwise q a b K) h = tt

  keep_try : (K : Stack) → Total n p (Behind d n K) ts → Holds d (ended n (Statement.try p) K) (word Try ∷ ts)
  unfolding ended meet
  keep_try bottom h = tt
  keep_try (bracket a b K) h = tt
  keep_try (ending a b K) h =
      settle (suc n) (word Try ∷ ts) (Statement.try p) a b (Behind d (suc n) K) (try h.us h.text refl) h.rest.rest
      (ap (λ (x : List Part). word Try ∷ x) (fold h.us h.ws h.rest.us ts (word End) h.parts h.rest.parts))
  keep_try (otherwise q a b K) h = tt

  keep_in : (K : Stack) → Total n p (Behind d n K) ts → Holds d (in_before n p K) (word In ∷ ts)
  unfolding in_before
  keep_in bottom h = tt
  keep_in (bracket a b K) h = tt
  keep_in (ending a b K) h =
      record {
        us = word In ∷ (h.us ++ (word End ∷ []));
        ws = h.rest.us;
        parts = ap (λ (x : List Part). word In ∷ x) (fold h.us h.ws h.rest.us ts (word End) h.parts h.rest.parts);
        head = λ S. signal h.us h.text refl;
        rest = h.rest.rest;
      }
  keep_in (otherwise q a b K) h = tt

  keep_then : (K : Stack) → Total n p (Behind d n K) ts → Holds d (then_before n p K) (word Then ∷ ts)
  unfolding then_before
  keep_then bottom h = tt
  keep_then (bracket a b K) h = tt
  keep_then (ending a b K) h =
      record {
        us = word Then ∷ (h.us ++ (word End ∷ []));
        ws = h.rest.us;
        parts = ap (λ (x : List Part). word Then ∷ x) (fold h.us h.ws h.rest.us ts (word End) h.parts h.rest.parts);
        head = λ S. present_then h.us h.text refl;
        rest = h.rest.rest;
      }
  keep_then (otherwise q a b K) h =
      record {
        us = word Then ∷ (h.us ++ (word Else ∷ (h.rest.us ++ (word End ∷ []))));
        ws = h.rest.ws;
        parts = ap (λ (x : List Part). word Then ∷ x) (h.parts ∙ ap (λ (x : List Part). h.us ++ x) h.rest.parts ∙ sym (append_assoc h.us (word Else ∷ (h.rest.us ++ (word End ∷ []))) h.rest.ws));
        head = λ S. present h.us h.rest.us h.text h.rest.text refl;
        rest = h.rest.rest;
      }

  keep_else : (K : Stack) → Total n p (Behind d n K) ts → Holds d (else_before n p K) (word Else ∷ ts)
  unfolding else_before
  keep_else bottom h = tt
  keep_else (bracket a b K) h = tt
  keep_else (ending a b K) h =
      record {
        us = [];
        vs = [];
        ws = word Else ∷ ts;
        parts = refl;
        after = refl;
        aside = refl;
        rest = record {
          us = h.us;
          ws = h.rest.us;
          parts = ap (λ (x : List Part). word Else ∷ x) (fold h.us h.ws h.rest.us ts (word End) h.parts h.rest.parts);
          text = h.text;
          rest = h.rest.rest;
        };
      }
  keep_else (otherwise q a b K) h = tt

-- a new body: what was pending is pending behind what closes it
keep_bracket : (d n : ℕ) (a b : Option Statement) (K : Stack) (ts : List Part) → Pending n a b (Behind d n K) ts → Holds d (push n (bracket a b) K) (closing ∷ ts)
unfolding push
keep_bracket d zero a b K ts h = tt
keep_bracket d (suc n) a b K ts h = record { us = []; vs = []; ws = closing ∷ ts; parts = refl; after = refl; aside = refl; rest = record { us = ts; parts = refl; rest = h } }

keep_end : (d n : ℕ) (a b : Option Statement) (K : Stack) (ts : List Part) → Pending n a b (Behind d n K) ts → Holds d (push n (ending a b) K) (word End ∷ ts)
unfolding push
keep_end d zero a b K ts h = tt
keep_end d (suc n) a b K ts h = record { us = []; vs = []; ws = word End ∷ ts; parts = refl; after = refl; aside = refl; rest = record { us = ts; parts = refl; rest = h } }

-- nothing is pending: the parts are what Rest says
nothing_pending : (n : ℕ) (B : List Part → Type 0) (ts : List Part) (h : Pending n none none B ts) → ts ≡ h.ws
nothing_pending n B ts h = h.parts ∙ ap (λ (x : List Part). x ++ (h.vs ++ h.ws)) h.after ∙ ap (λ (x : List Part). x ++ h.ws) h.aside

keep_bare : (d n S : ℕ) (a b : Option Statement) (K : Stack) (ts : List Part) → First (signal_of S) (Pending n a b (Behind d n K)) ts → Holds d (bare n S a b K) (word Present ∷ ts)
unfolding bare meet
keep_bare d n S none none bottom ts h = tt
keep_bare d n S none none (bracket a b K) ts h = tt
keep_bare d n S none none (ending a b K) ts h =
    settle (suc n) (word Present ∷ ts) (Statement.present S Statement.nothing Statement.nothing) a b (Behind d (suc n) K) (present_bare refl) h.rest.rest.rest
    (ap (λ (x : List Part). word Present ∷ x) (h.parts ∙ ap (λ (x : List Part). signal_of S ∷ x) (nothing_pending n (Behind d n (ending a b K)) h.us h.rest ∙ h.rest.rest.parts)))
keep_bare d n S none none (otherwise q a b K) ts h =
    settle (suc n) (word Present ∷ ts) (Statement.present S Statement.nothing q) a b (Behind d (suc n) K) (present_else h.rest.rest.us h.rest.rest.text refl) h.rest.rest.rest
    (ap (λ (x : List Part). word Present ∷ x) (h.parts ∙ ap (λ (x : List Part). signal_of S ∷ x) (nothing_pending n (Behind d n (otherwise q a b K)) h.us h.rest ∙ h.rest.rest.parts)))
keep_bare d n S none (some q) K ts h = tt
keep_bare d n S (some p) b K ts h = tt

keep_signal : (d n S : ℕ) (h : Head) (a b : Option Statement) (K : Stack) (ts : List Part)
    → First (signal_of S) (Headless n h (Pending (suc n) a b (Behind d (suc n) K))) ts → Holds d (signal_before n S h a b K) (word Signal ∷ ts)
unfolding signal_before meet
keep_signal d n S (after_in p) a b K ts h =
    settle (suc n) (word Signal ∷ ts) (Statement.signal S p) a b (Behind d (suc n) K) (h.rest.head S) h.rest.rest
    (ap (λ (x : List Part). word Signal ∷ x) (h.parts ∙ ap (λ (x : List Part). signal_of S ∷ x) h.rest.parts))
keep_signal d n S (after_then p q) a b K ts h = tt

keep_present : (d n S : ℕ) (h : Head) (a b : Option Statement) (K : Stack) (ts : List Part)
    → First (signal_of S) (Headless n h (Pending (suc n) a b (Behind d (suc n) K))) ts → Holds d (present_before n S h a b K) (word Present ∷ ts)
unfolding present_before meet
keep_present d n S (after_in p) a b K ts h = tt
keep_present d n S (after_then p q) a b K ts h =
    settle (suc n) (word Present ∷ ts) (Statement.present S p q) a b (Behind d (suc n) K) (h.rest.head S) h.rest.rest
    (ap (λ (x : List Part). word Present ∷ x) (h.parts ∙ ap (λ (x : List Part). signal_of S ∷ x) h.rest.parts))

keep_due : (d : ℕ) (n : ℕ) (a b : Option Statement) (K : Stack) (ts : List Part) (t : Part) → Pending n a b (Behind d n K) ts → Holds d (step_due n a b K t) (t ∷ ts)
unfolding step_due meet
keep_due d n a b K ts (word Nothing) h = settle n (word Nothing ∷ ts) Statement.nothing a b (Behind d n K) (nothing refl) h refl
keep_due d n a b K ts (word Gotopause) h = tt
keep_due d n a b K ts (word Emit) h = tt
keep_due d n a b K ts (word Exit) h = tt
keep_due d n a b K ts (word Signal) h = tt
keep_due d n a b K ts (word In) h = tt
keep_due d n a b K ts (word End) h = keep_end d n a b K ts h
keep_due d n a b K ts (word Present) h = tt
keep_due d n a b K ts (word Then) h = tt
keep_due d n a b K ts (word Else) h = tt
keep_due d n a b K ts (word Loop) h = tt
keep_due d n a b K ts (word Try) h = tt
keep_due d n a b K ts (number m) h = record { us = ts; parts = refl; rest = h }
keep_due d n a b K ts (signal_of m) h = record { us = ts; parts = refl; rest = h }
keep_due d n a b K ts (pause_at m) h = settle n (pause_at m ∷ ts) (Statement.pause m) a b (Behind d n K) (pause refl) h refl
keep_due d n a b K ts semicolon h = tt
keep_due d n a b K ts bars h = tt
keep_due d n a b K ts opening h = tt
keep_due d n a b K ts closing h = keep_bracket d n a b K ts h

keep_numbered : (d : ℕ) (n k : ℕ) (a b : Option Statement) (K : Stack) (ts : List Part) (t : Part) → First (number k) (Pending n a b (Behind d n K)) ts → Holds d (step_numbered n k a b K t) (t ∷ ts)
unfolding step_numbered meet
keep_numbered d n k a b K ts (word Nothing) h = tt
keep_numbered d n k a b K ts (word Gotopause) h = settle n (word Gotopause ∷ ts) (Statement.gotopause k) a b (Behind d n K) (gotopause refl) h.rest (ap (λ (x : List Part). word Gotopause ∷ x) h.parts)
keep_numbered d n k a b K ts (word Emit) h = tt
keep_numbered d n k a b K ts (word Exit) h = settle n (word Exit ∷ ts) (Statement.exit k) a b (Behind d n K) (exit refl) h.rest (ap (λ (x : List Part). word Exit ∷ x) h.parts)
keep_numbered d n k a b K ts (word Signal) h = tt
keep_numbered d n k a b K ts (word In) h = tt
keep_numbered d n k a b K ts (word End) h = tt
keep_numbered d n k a b K ts (word Present) h = tt
keep_numbered d n k a b K ts (word Then) h = tt
keep_numbered d n k a b K ts (word Else) h = tt
keep_numbered d n k a b K ts (word Loop) h = tt
keep_numbered d n k a b K ts (word Try) h = tt
keep_numbered d n k a b K ts (number m) h = tt
keep_numbered d n k a b K ts (signal_of m) h = tt
keep_numbered d n k a b K ts (pause_at m) h = tt
keep_numbered d n k a b K ts semicolon h = tt
keep_numbered d n k a b K ts bars h = tt
keep_numbered d n k a b K ts opening h = tt
keep_numbered d n k a b K ts closing h = tt

keep_named : (d : ℕ) (n S : ℕ) (a b : Option Statement) (K : Stack) (ts : List Part) (t : Part) → First (signal_of S) (Pending n a b (Behind d n K)) ts → Holds d (step_named n S a b K t) (t ∷ ts)
unfolding step_named meet
keep_named d n S a b K ts (word Nothing) h = tt
keep_named d n S a b K ts (word Gotopause) h = tt
keep_named d n S a b K ts (word Emit) h = settle n (word Emit ∷ ts) (Statement.emit S) a b (Behind d n K) (emit refl) h.rest (ap (λ (x : List Part). word Emit ∷ x) h.parts)
keep_named d n S a b K ts (word Exit) h = tt
keep_named d n S a b K ts (word Signal) h = tt
keep_named d n S a b K ts (word In) h = tt
keep_named d n S a b K ts (word End) h = tt
keep_named d n S a b K ts (word Present) h = keep_bare d n S a b K ts h
keep_named d n S a b K ts (word Then) h = tt
keep_named d n S a b K ts (word Else) h = tt
keep_named d n S a b K ts (word Loop) h = tt
keep_named d n S a b K ts (word Try) h = tt
keep_named d n S a b K ts (number m) h = tt
keep_named d n S a b K ts (signal_of m) h = tt
keep_named d n S a b K ts (pause_at m) h = tt
keep_named d n S a b K ts semicolon h = tt
keep_named d n S a b K ts bars h = tt
keep_named d n S a b K ts opening h = tt
keep_named d n S a b K ts closing h = tt

keep_met : (d : ℕ) (n : ℕ) (p : Statement) (b : Option Statement) (K : Stack) (ts : List Part) (t : Part) → Standing n p b (Behind d n K) ts → Holds d (step_met n p b K t) (t ∷ ts)
unfolding step_met
keep_met d n p b K ts (word Nothing) h = tt
keep_met d n p b K ts (word Gotopause) h = tt
keep_met d n p b K ts (word Emit) h = tt
keep_met d n p b K ts (word Exit) h = tt
keep_met d n p b K ts (word Signal) h = tt
keep_met d n p b K ts (word In) h = keep_in d n (beside p b) ts K (total n p b (Behind d n K) h)
keep_met d n p b K ts (word End) h = tt
keep_met d n p b K ts (word Present) h = tt
keep_met d n p b K ts (word Then) h = keep_then d n (beside p b) ts K (total n p b (Behind d n K) h)
keep_met d n p b K ts (word Else) h = keep_else d n (beside p b) ts K (total n p b (Behind d n K) h)
keep_met d n p b K ts (word Loop) h = keep_loop d n (beside p b) ts K (total n p b (Behind d n K) h)
keep_met d n p b K ts (word Try) h = keep_try d n (beside p b) ts K (total n p b (Behind d n K) h)
keep_met d n p b K ts (number m) h = tt
keep_met d n p b K ts (signal_of m) h = tt
keep_met d n p b K ts (pause_at m) h = tt
keep_met d n p b K ts semicolon h = record { us = semicolon ∷ h.us; vs = h.vs; ws = h.ws; parts = ap (λ (x : List Part). semicolon ∷ x) h.parts; after = (h.us, refl, h.text); aside = h.aside; rest = h.rest }
keep_met d n p b K ts bars h = let w = total n p b (Behind d n K) h in record { us = []; vs = bars ∷ w.us; ws = w.ws; parts = ap (λ (x : List Part). bars ∷ x) w.parts; after = refl; aside = (w.us, refl, w.text); rest = w.rest }
keep_met d n p b K ts opening h = keep_opened d n (beside p b) ts K (total n p b (Behind d n K) h)
keep_met d n p b K ts closing h = tt

keep_heading : (d : ℕ) (n : ℕ) (g : Head) (a b : Option Statement) (K : Stack) (ts : List Part) (t : Part) → Headless n g (Pending (suc n) a b (Behind d (suc n) K)) ts → Holds d (step_heading n g a b K t) (t ∷ ts)
unfolding step_heading
keep_heading d n g a b K ts (word Nothing) h = tt
keep_heading d n g a b K ts (word Gotopause) h = tt
keep_heading d n g a b K ts (word Emit) h = tt
keep_heading d n g a b K ts (word Exit) h = tt
keep_heading d n g a b K ts (word Signal) h = tt
keep_heading d n g a b K ts (word In) h = tt
keep_heading d n g a b K ts (word End) h = tt
keep_heading d n g a b K ts (word Present) h = tt
keep_heading d n g a b K ts (word Then) h = tt
keep_heading d n g a b K ts (word Else) h = tt
keep_heading d n g a b K ts (word Loop) h = tt
keep_heading d n g a b K ts (word Try) h = tt
keep_heading d n g a b K ts (number m) h = tt
keep_heading d n g a b K ts (signal_of m) h = record { us = ts; parts = refl; rest = h }
keep_heading d n g a b K ts (pause_at m) h = tt
keep_heading d n g a b K ts semicolon h = tt
keep_heading d n g a b K ts bars h = tt
keep_heading d n g a b K ts opening h = tt
keep_heading d n g a b K ts closing h = tt

keep_headed : (d : ℕ) (n S : ℕ) (g : Head) (a b : Option Statement) (K : Stack) (ts : List Part) (t : Part) → First (signal_of S) (Headless n g (Pending (suc n) a b (Behind d (suc n) K))) ts → Holds d (step_headed n S g a b K t) (t ∷ ts)
unfolding step_headed
keep_headed d n S g a b K ts (word Nothing) h = tt
keep_headed d n S g a b K ts (word Gotopause) h = tt
keep_headed d n S g a b K ts (word Emit) h = tt
keep_headed d n S g a b K ts (word Exit) h = tt
keep_headed d n S g a b K ts (word Signal) h = keep_signal d n S g a b K ts h
keep_headed d n S g a b K ts (word In) h = tt
keep_headed d n S g a b K ts (word End) h = tt
keep_headed d n S g a b K ts (word Present) h = keep_present d n S g a b K ts h
keep_headed d n S g a b K ts (word Then) h = tt
keep_headed d n S g a b K ts (word Else) h = tt
keep_headed d n S g a b K ts (word Loop) h = tt
keep_headed d n S g a b K ts (word Try) h = tt
keep_headed d n S g a b K ts (number m) h = tt
keep_headed d n S g a b K ts (signal_of m) h = tt
keep_headed d n S g a b K ts (pause_at m) h = tt
keep_headed d n S g a b K ts semicolon h = tt
keep_headed d n S g a b K ts bars h = tt
keep_headed d n S g a b K ts opening h = tt
keep_headed d n S g a b K ts closing h = tt

keep : (d : ℕ) (x : State) (t : Part) (ts : List Part) → Holds d x ts → Holds d (step t x) (t ∷ ts)
unfolding step
keep d failed t ts h = tt
keep d (due n a b K) t ts h = keep_due d n a b K ts t h
keep d (numbered n m a b K) t ts h = keep_numbered d n m a b K ts t h
keep d (named n S a b K) t ts h = keep_named d n S a b K ts t h
keep d (met n p b K) t ts h = keep_met d n p b K ts t h
keep d (heading n g a b K) t ts h = keep_heading d n g a b K ts t h
keep d (headed n S g a b K) t ts h = keep_headed d n S g a b K ts t h

holds : (d : ℕ) (ts : List Part) → Holds d (run ts (due d none none bottom)) ts
unfolding run
holds d [] = record { us = []; vs = []; ws = []; parts = refl; after = refl; aside = refl; rest = (refl, refl) }
holds d (t ∷ ts) = keep d (run ts (due d none none bottom)) t ts (holds d ts)

-- ---- What is read

none_some : {A : Type 0} (p : Statement) → ◌≡◌ {A = Option Statement} none (some p) → A
none_some p e = let z : ◌≡◌ {A = ℕ} 0 1 = cc in absurd (omega arith)

some_same : (p q : Statement) → some p ≡ some q → p ≡ q
some_same p q e = cc

at_bottom : (d n : ℕ) (p q : Statement) (K : Stack) (ts : List Part) → Total n p (Behind d n K) ts → closed p K ≡ some q → Text whole d ts q
unfolding closed
at_bottom d n p q bottom ts h e =
    let f : ts ≡ h.us = h.parts ∙ ap (λ (x : List Part). h.us ++ x) h.rest.0 ∙ append-nil h.us in
    let g : Text whole d ts p = rw f (rw h.rest.1 at h.text) in
    subst (λ (r : Statement). Text whole d ts r) (some_same p q e) g
at_bottom d n p q (bracket a b K) ts h e = none_some q e
at_bottom d n p q (ending a b K) ts h e = none_some q e
at_bottom d n p q (otherwise r a b K) ts h e = none_some q e

ended_well : (d : ℕ) (x : State) (ts : List Part) (q : Statement) → Holds d x ts → outcome x ≡ some q → Text whole d ts q
unfolding outcome
ended_well d failed ts q h e = none_some q e
ended_well d (due n a b K) ts q h e = none_some q e
ended_well d (numbered n m a b K) ts q h e = none_some q e
ended_well d (named n S a b K) ts q h e = none_some q e
ended_well d (met n p b K) ts q h e = at_bottom d n (beside p b) q K ts (total n p b (Behind d n K) h) e
ended_well d (heading n g a b K) ts q h e = none_some q e
ended_well d (headed n S g a b K) ts q h e = none_some q e

-- what is read, the grammar derives
pub derives : (n : ℕ) (ts : List Part) (p : Statement) → read_within n ts ≡ some p → Text whole n ts p
unfolding read_within
derives n ts p e = ended_well n (run ts (due n none none bottom)) ts p (holds n ts) e
