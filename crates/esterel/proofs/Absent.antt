-- A part that the state has no label of: nothing of it is listed, and refusal 15 is not due for it. Every list that it needs is
-- of a part without a label of the state either, since no list that begins at the start is needed.
use mathlib.Core.Path.{◌≡◌, refl, ap, ◌∙◌, subst}
use mathlib.Core.Logic.{inl, inr}
use mathlib.Core.Bool.{false, cond}
use mathlib.Core.List.{List, [], ◌∷◌}
use Prim.Native.Nat.{ℕ}
use native.Mathlib.Omega.{arith}
use lib.ListN.{length}
use Rattle.sets.specs.Set.{only, ◌union◌, ◌without◌, Apart}
use Rattle.sets.proofs.Booleans.{not_true}
use Rattle.sets.proofs.Members.{apart_union⁻}
use Rattle.esterel.specs.Statement.{Statement, nothing, pause, gotopause, emit, exit, signal, present, sequence, parallel, loop, try, pauses}
use Rattle.esterel.specs.Reactions.{State, start, resumed, Reaction}
use Rattle.esterel.specs.Listing.{Listed, list, Request, request, needs, some_ends, Crowded, own, child, crowded}
use Rattle.esterel.proofs.Listing.{listed_out}
use Rattle.esterel.proofs.Needed.{crowded_iff}
use Rattle.esterel.proofs.Resuming.{derives_apart}

pub apart_empty : (p : Statement) (X E : ℕ) → Apart X (pauses p) → list p (resumed X) E ≡ []
apart_empty p X E h = go (list p (resumed X) E) (λ r m. derives_apart p X h (listed_out p (resumed X) E r m))
  where
    go : (ts : List Reaction) → ((r : Reaction) → Listed r ts → ⊥) → ts ≡ []
    go [] f = refl
    go (t ∷ ts) f = absurd (f t (inl refl))

-- a request for a part that the state has no label of either
abbrev Absent : ℕ → Request → Type 0
Absent X r = (r.state ≡ resumed X) × Apart X (pauses r.statement)

absent_same : (X : ℕ) (r t : Request) → r ≡ t → Absent X t → Absent X r
absent_same X r t e h = rw e h

absent_two : (X : ℕ) (r t u : Request) → Absent X t → Absent X u → Listed r (t ∷ u ∷ []) → Absent X r
absent_two X r t u h k (inl e) = absent_same X r t e h
absent_two X r t u h k (inr (inl e)) = absent_same X r u e k
absent_two X r t u h k (inr (inr x'')) = elim x'' [ ]

-- no list that begins at the start is needed: the first list is empty
not_started : (X : ℕ) (r t : Request) (ts : List Reaction) → ts ≡ [] → Listed r (cond (some_ends ts) (t ∷ []) []) → Absent X r
unfolding some_ends
not_started X r t ts e m = absurd (subst (λ l. Listed r (cond (some_ends l) (t ∷ []) [])) e m)

needs_absent : (p : Statement) (X E : ℕ) (r : Request) → Apart X (pauses p) → Listed r (needs p (resumed X) E) → Absent X r
unfolding needs pauses
needs_absent nothing X E r h m = absurd m
needs_absent (pause l) X E r h m = absurd m
needs_absent (gotopause l) X E r h m = absurd m
needs_absent (emit S) X E r h m = absurd m
needs_absent (exit d) X E r h m = absurd m
needs_absent (signal S p) X E r h m = absent_two X r (request p (resumed X) (E union only S)) (request p (resumed X) (E without S)) (refl, h) (refl, h) m
needs_absent (present S p q) X E r h m =
    let u = apart_union⁻ X (pauses p) (pauses q) h in absent_two X r (request p (resumed X) E) (request q (resumed X) E) (refl, u.0) (refl, u.1) m
needs_absent (sequence p q) X E r h (inl e) = absent_same X r (request p (resumed X) E) e (refl, (apart_union⁻ X (pauses p) (pauses q) h).0)
needs_absent (sequence p q) X E r h (inr (inl e)) = absent_same X r (request q (resumed X) E) e (refl, (apart_union⁻ X (pauses p) (pauses q) h).1)
needs_absent (sequence p q) X E r h (inr (inr m)) =
    not_started X r (request q start E) (list p (resumed X) E) (apart_empty p X E (apart_union⁻ X (pauses p) (pauses q) h).0) m
needs_absent (parallel p q) X E r h m =
    let u = apart_union⁻ X (pauses p) (pauses q) h in absent_two X r (request p (resumed X) E) (request q (resumed X) E) (refl, u.0) (refl, u.1) m
needs_absent (loop p) X E r h (inl e) = absent_same X r (request p (resumed X) E) e (refl, h)
needs_absent (loop p) X E r h (inr m) = not_started X r (request p start E) (list p (resumed X) E) (apart_empty p X E h) m
needs_absent (try p) X E r h (inl e) = absent_same X r (request p (resumed X) E) e (refl, h)
needs_absent (try p) X E r h (inr m) = elim m [ ]

not_crowded : {p : Statement} {x : State} {E : ℕ} → Crowded p x E → (X : ℕ) → x ≡ resumed X → Apart X (pauses p) → ⊥
not_crowded {p} {x} {E} (own h) X e a =
    let i : length (list p x E) ≡ 0 = ap (λ y. length (list p y E)) e ∙ ap length (apart_empty p X E a) in omega arith
not_crowded {p} {x} {E} (child r m c) X e a =
    let u = needs_absent p X E r a (subst (λ y. Listed r (needs p y E)) e m) in not_crowded c X u.0 u.1

pub apart_not_crowded : (p : Statement) (X E : ℕ) → Apart X (pauses p) → crowded p (resumed X) E ≡ false
apart_not_crowded p X E a = not_true (crowded p (resumed X) E) (λ h. not_crowded ((crowded_iff p (resumed X) E).0 h) X refl a)
