-- The test for refusal 15 finds exactly that some needed list has over 64 reactions: a needed list is of a child, so going
-- down as far as the statement is deep meets them all.
use mathlib.Core.Path.{◌≡◌, refl, sym, ap, ◌∙◌}
use mathlib.Core.Logic.{◌↔◌, ◌⊎◌, inl, inr}
use mathlib.Core.Bool.{Bool, true, ◌||◌, cond}
use mathlib.Core.List.{List, [], ◌∷◌}
use Prim.Native.Nat.{ℕ, zero, suc, ◌≤◌, ◌<◌, max}
use native.Mathlib.Omega.{arith}
use lib.Dec.{ltb}
use lib.ListN.{length}
use borrow.Author.Tests.{ltb-true, lt-ltb}
use Rattle.sets.specs.Set.{has, only, ◌union◌, ◌without◌}
use Rattle.sets.proofs.Booleans.{or_left, or_right, or_cases, by_cond, clash, same_bool}
use Rattle.esterel.specs.Statement.{Statement, nothing, pause, gotopause, emit, exit, signal, present, sequence, parallel, loop, try, depth}
use Rattle.esterel.specs.Reactions.{State, start, resumed}
use Rattle.esterel.specs.Listing.{Listed, list, Request, request, needs, some_ends, Crowded, own, child, some, crowded_within, crowded}

-- ---- some
pub some_in : {A : Type 0} (f : A → Bool) (a : A) (l : List A) → Listed a l → f a ≡ true → some f l ≡ true
unfolding some
some_in f a (b ∷ l) (inl e) h = or_left _ (ap f (sym e) ∙ h)
some_in f a (b ∷ l) (inr m) h = or_right (f b) (some_in f a l m h)
some_in {A = A} f a [] x'' h = elim x'' [ ]

pub some_out : {A : Type 0} (f : A → Bool) (l : List A) → some f l ≡ true → (a : A) × Listed a l × (f a ≡ true)
unfolding some
some_out f [] h = clash h refl
some_out {A} f (b ∷ l) h = go (λ k. some_out f l k) (or_cases (f b) (some f l) h)
  where
    go : (some f l ≡ true → (a : A) × Listed a l × (f a ≡ true)) → (f b ≡ true) ⊎ (some f l ≡ true) → (a : A) × Listed a (b ∷ l) × (f a ≡ true)
    go ih (inl k) = (b, inl refl, k)
    go ih (inr k) = let (a, m, e) = ih k in (a, inr m, e)

-- ---- a needed list is of a child
abbrev Shallower : ℕ → Request → Type 0
Shallower n r = depth r.statement < n

is : (n : ℕ) (r t : Request) → r ≡ t → Shallower n t → Shallower n r
is n r t e h = rw e h

among : (n : ℕ) (r t : Request) (l : List Request) → Shallower n t → (Listed r l → Shallower n r) → Listed r (t ∷ l) → Shallower n r
among n r t l h f (inl e) = is n r t e h
among n r t l h f (inr m) = f m

none : (n : ℕ) (r : Request) → Listed r [] → Shallower n r
none n r m = absurd m

only_if : (n : ℕ) (r t : Request) (b : Bool) → Shallower n t → Listed r (cond b (t ∷ []) []) → Shallower n r
only_if n r t b h = by_cond (λ l. Listed r l → Shallower n r) b (t ∷ []) [] (λ e. among n r t [] h (none n r)) (λ e. none n r)

-- two requests, of the two parts of a statement
two : (n : ℕ) (r t u : Request) → Shallower n t → Shallower n u → Listed r (t ∷ u ∷ []) → Shallower n r
two n r t u h k = among n r t (u ∷ []) h (among n r u [] k (none n r))

pub needs_shallower : (p : Statement) (x : State) (E : ℕ) (r : Request) → Listed r (needs p x E) → depth r.statement < depth p
unfolding needs depth
needs_shallower nothing x E r m = absurd m
needs_shallower (pause l) x E r m = absurd m
needs_shallower (gotopause l) x E r m = absurd m
needs_shallower (emit S) x E r m = absurd m
needs_shallower (exit d) x E r m = absurd m
needs_shallower (signal S p) x E r m =
    two (suc (depth p)) r (request p x (E union only S)) (request p x (E without S)) (omega arith) (omega arith) m
needs_shallower (present S p q) start E r m =
    among (suc (max (depth p) (depth q))) r (cond (has E S) (request p start E) (request q start E)) []
    (by_cond (Shallower (suc (max (depth p) (depth q)))) (has E S) (request p start E) (request q start E) (λ e. omega arith) (λ e. omega arith))
    (none (suc (max (depth p) (depth q))) r) m
needs_shallower (present S p q) (resumed X) E r m =
    two (suc (max (depth p) (depth q))) r (request p (resumed X) E) (request q (resumed X) E) (omega arith) (omega arith) m
needs_shallower (sequence p q) start E r m =
    among (suc (max (depth p) (depth q))) r (request p start E) (cond (some_ends (list p start E)) (request q start E ∷ []) []) (omega arith)
    (only_if (suc (max (depth p) (depth q))) r (request q start E) (some_ends (list p start E)) (omega arith)) m
needs_shallower (sequence p q) (resumed X) E r m =
    among (suc (max (depth p) (depth q))) r (request p (resumed X) E)
    (request q (resumed X) E ∷ cond (some_ends (list p (resumed X) E)) (request q start E ∷ []) []) (omega arith)
    (among (suc (max (depth p) (depth q))) r (request q (resumed X) E) (cond (some_ends (list p (resumed X) E)) (request q start E ∷ []) []) (omega arith)
    (only_if (suc (max (depth p) (depth q))) r (request q start E) (some_ends (list p (resumed X) E)) (omega arith))) m
needs_shallower (parallel p q) x E r m =
    two (suc (max (depth p) (depth q))) r (request p x E) (request q x E) (omega arith) (omega arith) m
needs_shallower (loop p) start E r m =
    among (suc (depth p)) r (request p start E) [] (omega arith) (none (suc (depth p)) r) m
needs_shallower (loop p) (resumed X) E r m =
    among (suc (depth p)) r (request p (resumed X) E) (cond (some_ends (list p (resumed X) E)) (request p start E ∷ []) []) (omega arith)
    (only_if (suc (depth p)) r (request p start E) (some_ends (list p (resumed X) E)) (omega arith)) m
needs_shallower (try p) x E r m = among (suc (depth p)) r (request p x E) [] (omega arith) (none (suc (depth p)) r) m

-- ---- the test
abbrev CrowdedRequest : ℕ → Request → Bool
CrowdedRequest n r = crowded_within n r.statement r.state r.assumed

within_crowded : (n : ℕ) (p : Statement) (x : State) (E : ℕ) → crowded_within n p x E ≡ true → Crowded p x E
unfolding crowded_within
within_crowded zero p x E h = own (ltb-true 64 (length (list p x E)) h)
within_crowded (suc n) p x E h =
    go (λ r k. within_crowded n r.statement r.state r.assumed k)
    (or_cases (ltb 64 (length (list p x E))) (some (CrowdedRequest n) (needs p x E)) h)
  where
    go : ((r : Request) → CrowdedRequest n r ≡ true → Crowded r.statement r.state r.assumed)
        → (ltb 64 (length (list p x E)) ≡ true) ⊎ (some (CrowdedRequest n) (needs p x E) ≡ true) → Crowded p x E
    go f (inl k) = own (ltb-true 64 (length (list p x E)) k)
    go f (inr k) = let (r, m, e) = some_out (CrowdedRequest n) (needs p x E) k in child r m (f r e)

crowded_within_lem : (n : ℕ) {p : Statement} {x : State} {E : ℕ} → depth p ≤ n → Crowded p x E → crowded_within n p x E ≡ true
unfolding crowded_within
crowded_within_lem zero {p} {x} {E} l (own h) = lt-ltb 64 (length (list p x E)) h
crowded_within_lem zero {p} {x} {E} l (child r m c) = absurd (let k = needs_shallower p x E r m in omega arith)
crowded_within_lem (suc n) {p} {x} {E} l (own h) = or_left _ (lt-ltb 64 (length (list p x E)) h)
crowded_within_lem (suc n) {p} {x} {E} l (child r m c) =
    let k = needs_shallower p x E r m in
    or_right (ltb 64 (length (list p x E))) (some_in (CrowdedRequest n) r (needs p x E) m (crowded_within_lem n (omega arith) c))

pub crowded_iff : (p : Statement) (x : State) (E : ℕ) → (crowded p x E ≡ true) ↔ Crowded p x E
unfolding crowded
crowded_iff p x E = (within_crowded (depth p) p x E, λ c. crowded_within_lem (depth p) (omega arith) c)

-- the test, one statement down: what a lister that counts the lists of the children has to find
pub crowded_step : (p : Statement) (x : State) (E : ℕ)
    → crowded p x E ≡ (ltb 64 (length (list p x E)) || some (λ r. crowded r.statement r.state r.assumed) (needs p x E))
crowded_step p x E =
    same_bool (crowded p x E) (ltb 64 (length (list p x E)) || some here (needs p x E))
    (λ h. down ((crowded_iff p x E).0 h)) (λ h. (crowded_iff p x E).1 (up (or_cases (ltb 64 (length (list p x E))) (some here (needs p x E)) h)))
  where
    here : Request → Bool
    here r = crowded r.statement r.state r.assumed

    down : Crowded p x E → (ltb 64 (length (list p x E)) || some here (needs p x E)) ≡ true
    down (own h) = or_left _ (lt-ltb 64 (length (list p x E)) h)
    down (child r m c) =
        or_right (ltb 64 (length (list p x E))) (some_in here r (needs p x E) m ((crowded_iff r.statement r.state r.assumed).1 c))

    up : (ltb 64 (length (list p x E)) ≡ true) ⊎ (some here (needs p x E) ≡ true) → Crowded p x E
    up (inl h) = own (ltb-true 64 (length (list p x E)) h)
    up (inr h) = let (r, m, e) = some_out here (needs p x E) h in child r m ((crowded_iff r.statement r.state r.assumed).0 e)
