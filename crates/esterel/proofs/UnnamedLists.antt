-- A signal that no emit and no present names: a statement has the same list with it and without it, and so has every list that
-- it needs; so a declaration of it changes neither the listing nor refusal 15.
use mathlib.Core.Path.{◌≡◌, refl, sym, ap, ap₂, ◌∙◌}
use mathlib.Core.Bool.{Bool, true, false, cond, ◌||◌}
use mathlib.Core.List.{[], ◌∷◌}
use Prim.Native.Nat.{ℕ}
use lib.Dec.{eqb, ltb}
use lib.ListN.{length}
use Rattle.sets.specs.Set.{has, only, ◌union◌, ◌without◌}
use Rattle.sets.proofs.Booleans.{or_neither, differ_eqb}
use Rattle.esterel.specs.Statement.{Statement, nothing, pause, gotopause, emit, exit, signal, present, sequence, parallel, loop, try}
use Rattle.esterel.specs.Reactions.{State, start, resumed, Reacts}
use Rattle.esterel.specs.Trimming.{names}
use Rattle.esterel.specs.Listing.{list, Request, request, needs, some_ends, some, crowded}
use Rattle.esterel.proofs.Unnamed.{SameBut, same_but_union, same_but_without, unnamed, undeclared, undeclared⁻}
use Rattle.esterel.proofs.Listing.{list_is_listing, listing_unique, same_listing}
use Rattle.esterel.proofs.Needed.{crowded_step}
use Rattle.esterel.proofs.Quiet.{crowds}

unnamed_list : (S : ℕ) (p : Statement) (x : State) (E F : ℕ) → names S p ≡ false → SameBut S E F → list p x E ≡ list p x F
unfolding Reacts
unnamed_list S p x E F n o =
    let l = list_is_listing p x E in
    listing_unique p x F (list p x E) (record {
      rising = l.rising;
      members = λ r. (λ h. (unnamed S p n F o ((l.members r).0 h)).0, λ h. (l.members r).1 (unnamed S p n E (λ y m. sym (o y m)) h).0);
    })

-- its own list, and those that it needs
alike : (p : Statement) (x : State) (E F : ℕ) → list p x E ≡ list p x F → some crowds (needs p x E) ≡ some crowds (needs p x F) → crowded p x E ≡ crowded p x F
alike p x E F l n =
    crowded_step p x E ∙ ap₂ (λ ts b. ltb 64 (length ts) || b) l n ∙ sym (crowded_step p x F)

two : {a a' b b' : Bool} → a ≡ a' → b ≡ b' → (a || (b || false)) ≡ (a' || (b' || false))
two e f = ap₂ (λ a b. a || (b || false)) e f

-- a list that is needed only where another ends
after : (r t : Request) (b c : Bool) → b ≡ c → crowds r ≡ crowds t → some crowds (cond b (r ∷ []) []) ≡ some crowds (cond c (t ∷ []) [])
unfolding some
after r t b c e f = ap (λ z. some crowds (cond z (r ∷ []) [])) e ∙ go c
  where
    go : (c : Bool) → some crowds (cond c (r ∷ []) []) ≡ some crowds (cond c (t ∷ []) [])
    go true = ap (λ z. z || false) f
    go false = refl

pub unnamed_crowded : (S : ℕ) (p : Statement) (x : State) (E F : ℕ) → names S p ≡ false → SameBut S E F → crowded p x E ≡ crowded p x F
unfolding names needs some
unnamed_crowded S nothing x E F n o = alike nothing x E F (unnamed_list S nothing x E F n o) refl
unnamed_crowded S (pause l) x E F n o = alike (pause l) x E F (unnamed_list S (pause l) x E F n o) refl
unnamed_crowded S (gotopause l) x E F n o = alike (gotopause l) x E F (unnamed_list S (gotopause l) x E F n o) refl
unnamed_crowded S (emit S') x E F n o = alike (emit S') x E F (unnamed_list S (emit S') x E F n o) refl
unnamed_crowded S (exit d) x E F n o = alike (exit d) x E F (unnamed_list S (exit d) x E F n o) refl
unnamed_crowded S (signal S' p) x E F n o =
    alike (signal S' p) x E F (unnamed_list S (signal S' p) x E F n o)
    (two (unnamed_crowded S p x (E union only S') (F union only S') n (same_but_union S S' E F o))
    (unnamed_crowded S p x (E without S') (F without S') n (same_but_without S S' E F o)))
unnamed_crowded S (present S' p q) start E F n o =
    let (e, m) = or_neither (eqb S S') (names S p || names S q) n in
    let (i, j) = or_neither (names S p) (names S q) m in
    alike (present S' p q) start E F (unnamed_list S (present S' p q) start E F n o)
    (ap (λ z. crowds (cond z (request p start E) (request q start E)) || false) (o S' (differ_eqb S S' e))
    ∙ chosen p q (has F S') (unnamed_crowded S p start E F i o) (unnamed_crowded S q start E F j o))
  where
    chosen : (p q : Statement) (b : Bool) → crowded p start E ≡ crowded p start F → crowded q start E ≡ crowded q start F
        → (crowds (cond b (request p start E) (request q start E)) || false) ≡ (crowds (cond b (request p start F) (request q start F)) || false)
    chosen p q true f g = ap (λ z. z || false) f
    chosen p q false f g = ap (λ z. z || false) g
unnamed_crowded S (present S' p q) (resumed X) E F n o =
    let (e, m) = or_neither (eqb S S') (names S p || names S q) n in
    let (i, j) = or_neither (names S p) (names S q) m in
    alike (present S' p q) (resumed X) E F (unnamed_list S (present S' p q) (resumed X) E F n o)
    (two (unnamed_crowded S p (resumed X) E F i o) (unnamed_crowded S q (resumed X) E F j o))
unnamed_crowded S (sequence p q) start E F n o =
    let (i, j) = or_neither (names S p) (names S q) n in
    alike (sequence p q) start E F (unnamed_list S (sequence p q) start E F n o)
    (ap₂ ◌||◌ (unnamed_crowded S p start E F i o)
    (after (request q start E) (request q start F) (some_ends (list p start E)) (some_ends (list p start F)) (ap some_ends (unnamed_list S p start E F i o))
    (unnamed_crowded S q start E F j o)))
unnamed_crowded S (sequence p q) (resumed X) E F n o =
    let (i, j) = or_neither (names S p) (names S q) n in
    alike (sequence p q) (resumed X) E F (unnamed_list S (sequence p q) (resumed X) E F n o)
    (ap₂ ◌||◌ (unnamed_crowded S p (resumed X) E F i o) (ap₂ ◌||◌ (unnamed_crowded S q (resumed X) E F j o)
    (after (request q start E) (request q start F) (some_ends (list p (resumed X) E)) (some_ends (list p (resumed X) F))
    (ap some_ends (unnamed_list S p (resumed X) E F i o)) (unnamed_crowded S q start E F j o))))
unnamed_crowded S (parallel p q) x E F n o =
    let (i, j) = or_neither (names S p) (names S q) n in
    alike (parallel p q) x E F (unnamed_list S (parallel p q) x E F n o) (two (unnamed_crowded S p x E F i o) (unnamed_crowded S q x E F j o))
unnamed_crowded S (loop p) start E F n o =
    alike (loop p) start E F (unnamed_list S (loop p) start E F n o) (ap (λ z. z || false) (unnamed_crowded S p start E F n o))
unnamed_crowded S (loop p) (resumed X) E F n o =
    alike (loop p) (resumed X) E F (unnamed_list S (loop p) (resumed X) E F n o)
    (ap₂ ◌||◌ (unnamed_crowded S p (resumed X) E F n o)
    (after (request p start E) (request p start F) (some_ends (list p (resumed X) E)) (some_ends (list p (resumed X) F))
    (ap some_ends (unnamed_list S p (resumed X) E F n o)) (unnamed_crowded S p start E F n o)))
unnamed_crowded S (try p) x E F n o =
    alike (try p) x E F (unnamed_list S (try p) x E F n o) (ap (λ z. z || false) (unnamed_crowded S p x E F n o))

-- ---- a declaration that may go
pub undeclared_list : (S : ℕ) (p : Statement) (x : State) (E : ℕ) → names S p ≡ false → list (signal S p) x E ≡ list p x E
unfolding Reacts
undeclared_list S p x E n = same_listing (signal S p) p x E (λ r. (undeclared S p n, undeclared⁻ S p n))
