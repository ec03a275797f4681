-- Listing the reactions of a state (document 01, "Listing gives the distinct reactions of one state under one E").
use Rattle.std.specs.Prelude.{ℕ, zero, suc, ◌<◌, max, ◌≡◌, ◌⊎◌, ◌↔◌, Bool, false, cond, not, ◌&&◌, ◌||◌, List, [], ◌∷◌, ◌++◌, eqb, ltb, length}
use Rattle.sets.specs.Set.{has, only, ◌union◌, ◌intersect◌, ◌without◌}
use Rattle.esterel.specs.Statement.{Statement, nothing, pause, gotopause, emit, exit, signal, present, sequence, parallel, loop, try, pauses, depth}
use Rattle.esterel.specs.Codes.{code_of, through}
use Rattle.esterel.specs.Reactions.{State, start, resumed, reached_together, Reaction, Reacts}

-- ---- What a listing is

-- it stands in the list
abbrev pub Listed : {A : Type 0} → A → List A → Type 0
Listed r [] = ⊥
Listed r (t ∷ ts) = (r ≡ t) ⊎ Listed r ts

-- "rising by O, then k, then L, each read as an unsigned number"
abbrev pub Before : Reaction → Reaction → Type 0
Before r t = (r.emitted < t.emitted) ⊎ ((r.emitted ≡ t.emitted) × ((r.code < t.code) ⊎ ((r.code ≡ t.code) × (r.reached < t.reached))))

-- each stands before all that follow it, so none stands there twice
abbrev pub Rising : List Reaction → Type 0
Rising [] = Unit {0}
Rising (t ∷ ts) = ((u : Reaction) → Listed u ts → Before t u) × Rising ts

-- ts is the listing of p in the state x under E. No two lists are (proofs/Listing).
pub record IsListing (p : Statement) (x : State) (E : ℕ) (ts : List Reaction) : Type 0 where
  pub rising : Rising ts
  pub members : (r : Reaction) → Listed r ts ↔ Reacts p x E r

-- ---- The listing, computed; that it is one is proved in proofs/Listing

abbrev pub reaction : ℕ → ℕ → ℕ → Reaction
reaction O k L = record { emitted = O; code = k; reached = L }

unfoldable pub before : Reaction → Reaction → Bool
before r t =
    ltb r.emitted t.emitted
    || (eqb r.emitted t.emitted && (ltb r.code t.code || (eqb r.code t.code && ltb r.reached t.reached)))

-- into its place in a rising list, unless it is there
unfoldable pub insert : Reaction → List Reaction → List Reaction
insert r [] = r ∷ []
insert r (t ∷ ts) = cond (before r t) (r ∷ t ∷ ts) (cond (before t r) (t ∷ insert r ts) (t ∷ ts))

unfoldable pub sorted : List Reaction → List Reaction
sorted [] = []
sorted (t ∷ ts) = insert t (sorted ts)

abbrev pub one : Reaction → List Reaction
one r = r ∷ []

abbrev pub only_if : Bool → List Reaction → List Reaction
only_if b ts = cond b ts []

-- what f gives for each
unfoldable pub each : List Reaction → (Reaction → List Reaction) → List Reaction
each [] f = []
each (t ∷ ts) f = f t ++ each ts f

-- rule signal+: those that emit S, without it
unfoldable pub hide : ℕ → List Reaction → List Reaction
hide S ts = each ts (λ r. only_if (has r.emitted S) (one (reaction (r.emitted without S) r.code r.reached)))

-- rules seq_left and seq: those of ts that do not end, and for each that ends those of us joined to it
unfoldable pub follow : List Reaction → List Reaction → List Reaction
follow ts us =
    each ts (λ r. cond (eqb r.code 0) (each us (λ t. one (reaction (r.emitted union t.emitted) t.code t.reached))) (one r))

-- rule par: each of ts with each of us
unfoldable pub pair : Reaction → Reaction → Reaction
pair r t =
    reaction (r.emitted union t.emitted) (max r.code t.code)
    (reached_together (max r.code t.code) r.reached t.reached)

unfoldable pub together : List Reaction → List Reaction → List Reaction
together ts us = each ts (λ r. each us (λ t. one (pair r t)))

-- rules no_loop and loop: those that do not end
unfoldable pub going : List Reaction → List Reaction
going ts = each ts (λ r. only_if (not (eqb r.code 0)) (one r))

-- rule try
unfoldable pub caught : List Reaction → List Reaction
caught ts = each ts (λ r. one (reaction r.emitted (through r.code) r.reached))

unfoldable pub list : Statement → State → ℕ → List Reaction
list nothing start E = one (reaction 0 0 0)
list nothing (resumed X) E = []
list (pause l) start E = one (reaction 0 1 (only l))
list (pause l) (resumed X) E = only_if (has X l) (one (reaction 0 0 0))
list (gotopause l) start E = one (reaction 0 1 (only l))
list (gotopause l) (resumed X) E = []
list (emit S) start E = only_if (has E S) (one (reaction (only S) 0 0))
list (emit S) (resumed X) E = []
list (exit d) start E = one (reaction 0 (code_of d) 0)
list (exit d) (resumed X) E = []
list (signal S p) x E = sorted (hide S (list p x (E union only S)) ++ list p x (E without S))
list (present S p q) start E = cond (has E S) (list p start E) (list q start E)
list (present S p q) (resumed X) E = sorted (list p (resumed X) E ++ list q (resumed X) E)
list (sequence p q) start E = sorted (follow (list p start E) (list q start E))
list (sequence p q) (resumed X) E = sorted (follow (list p (resumed X) E) (list q start E) ++ list q (resumed X) E)
list (parallel p q) start E = sorted (together (list p start E) (list q start E))
list (parallel p q) (resumed X) E =
    let ts = list p (resumed X) E in
    let us = list q (resumed X) E in
    sorted (together ts us ++ (only_if (eqb (X intersect pauses q) 0) ts ++ only_if (eqb (X intersect pauses p) 0) us))
list (loop p) start E = sorted (going (list p start E))
list (loop p) (resumed X) E = sorted (going (follow (list p (resumed X) E) (list p start E)))
list (try p) x E = sorted (caught (list p x E))

-- the listing of a program in a state under E: what contracts and the third demand speak of
unfoldable pub listing : Statement → State → ℕ → List Reaction
listing p x E = list p x E

-- ---- Refusal 15

-- a list that is to be made: of a statement, in a state, under an assumed set
pub record Request : Type 0 where
  pub statement : Statement
  pub state : State
  pub assumed : ℕ

abbrev pub request : Statement → State → ℕ → Request
request p x E = record { statement = p; state = x; assumed = E }

-- some reaction of the list has code 0
unfoldable pub some_ends : List Reaction → Bool
some_ends [] = false
some_ends (t ∷ ts) = eqb t.code 0 || some_ends ts

-- "To list, a statement needs these lists of its children"
unfoldable pub needs : Statement → State → ℕ → List Request
needs nothing x E = []
needs (pause l) x E = []
needs (gotopause l) x E = []
needs (emit S) x E = []
needs (exit d) x E = []
-- "signal, both with S added to E and with S removed"
needs (signal S p) x E = request p x (E union only S) ∷ request p x (E without S) ∷ []
-- "started present, the branch taken; resumed present, both"
needs (present S p q) start E = cond (has E S) (request p start E) (request q start E) ∷ []
needs (present S p q) (resumed X) E = request p (resumed X) E ∷ request q (resumed X) E ∷ []
-- "started sequence, p started, and q started if p has a code 0"
needs (sequence p q) start E = request p start E ∷ cond (some_ends (list p start E)) (request q start E ∷ []) []
-- "resumed sequence, p and q resumed, and q started if p resumed has a code 0"
needs (sequence p q) (resumed X) E =
    request p (resumed X) E ∷ request q (resumed X) E ∷ cond (some_ends (list p (resumed X) E)) (request q start E ∷ []) []
-- "parallel, both"
needs (parallel p q) x E = request p x E ∷ request q x E ∷ []
-- "loop, its body as it is, and if resumed with a code 0 also started"
needs (loop p) start E = request p start E ∷ []
needs (loop p) (resumed X) E = request p (resumed X) E ∷ cond (some_ends (list p (resumed X) E)) (request p start E ∷ []) []
-- "try, its body"
needs (try p) x E = request p x E ∷ []

-- "some list needed, the table's own included, has over 64 reactions": its own has, or that of a child that it needs,
-- or one that this child needs, and so on
pub data Crowded : Statement → State → ℕ → Type 0 where
  own : {p : Statement} {x : State} {E : ℕ} → 64 < length (list p x E) → Crowded p x E
  child : {p : Statement} {x : State} {E : ℕ} (r : Request)
      → Listed r (needs p x E) → Crowded r.statement r.state r.assumed → Crowded p x E

-- the same as a test (proofs/Needed), by going down as far as the statement is deep
unfoldable pub some : {A : Type 0} → (A → Bool) → List A → Bool
some f [] = false
some f (a ∷ more) = f a || some f more

unfoldable pub crowded_within : ℕ → Statement → State → ℕ → Bool
crowded_within zero p x E = ltb 64 (length (list p x E))
crowded_within (suc n) p x E =
    ltb 64 (length (list p x E)) || some (λ r. crowded_within n r.statement r.state r.assumed) (needs p x E)

unfoldable pub crowded : Statement → State → ℕ → Bool
crowded p x E = crowded_within (depth p) p x E

-- ---- Refusal 14

-- how many signal statements stand inside one another
unfoldable pub nesting : Statement → ℕ
nesting nothing = 0
nesting (pause l) = 0
nesting (gotopause l) = 0
nesting (emit S) = 0
nesting (exit d) = 0
nesting (signal S p) = suc (nesting p)
nesting (present S p q) = max (nesting p) (nesting q)
nesting (sequence p q) = max (nesting p) (nesting q)
nesting (parallel p q) = max (nesting p) (nesting q)
nesting (loop p) = nesting p
nesting (try p) = nesting p
