-- "label bits without a pause, bit 0 among them, are ignored in a state", of the listing and of the test for refusal 15: states that
-- agree on the pauses of a statement need the same lists of its parts, and each is the same.
use mathlib.Core.Path.{◌≡◌, refl, sym, ap, ap₂, ◌∙◌}
use mathlib.Core.Bool.{Bool, ◌||◌, cond, and-true, false}
use mathlib.Core.List.{List, [], ◌∷◌}
use Prim.Native.Nat.{ℕ, zero, suc}
use lib.Dec.{ltb}
use lib.ListN.{length}
use Rattle.sets.specs.Set.{has, only, ◌union◌, ◌intersect◌, ◌without◌}
use Rattle.sets.proofs.Members.{has_intersect}
use Rattle.esterel.specs.Statement.{Statement, nothing, pause, gotopause, emit, exit, signal, present, sequence, parallel, loop, try, pauses, depth}
use Rattle.esterel.specs.Reactions.{start, resumed, Reaction}
use Rattle.esterel.specs.Listing.{list, Request, request, needs, some_ends, some, crowded_within, crowded}
use Rattle.esterel.proofs.Resuming.{AgreeOn, agree_left, agree_right, reacts_agree}
use Rattle.esterel.proofs.Listing.{list_is_listing, listing_unique}

-- sets with the same labels of a
pub agree_intersect : (a X Y : ℕ) → X intersect a ≡ Y intersect a → AgreeOn a X Y
agree_intersect a X Y e l h = sym (within X) ∙ ap (λ (s : ℕ). has s l) e ∙ within Y
  where
    within : (Z : ℕ) → has (Z intersect a) l ≡ has Z l
    within Z = has_intersect Z a l ∙ rw h (and-true (has Z l))

module _ (X Y : ℕ) where
  pub list_agree : (p : Statement) → AgreeOn (pauses p) X Y → (E : ℕ) → list p (resumed X) E ≡ list p (resumed Y) E
  list_agree p f E =
      let l = list_is_listing p (resumed X) E in
      listing_unique p (resumed Y) E (list p (resumed X) E) (record {
        rising = l.rising;
        members = λ r. (λ m. (reacts_agree p X Y f E r).0 ((l.members r).0 m), λ d. (l.members r).1 ((reacts_agree p X Y f E r).1 d));
      })

  -- ---- the lists that are needed, down to n below
  abbrev crowded_of : ℕ → Request → Bool
  crowded_of n r = crowded_within n r.statement r.state r.assumed

  abbrev Same : ℕ → Type 0
  Same n = (p : Statement) → AgreeOn (pauses p) X Y → (E : ℕ) → crowded_within n p (resumed X) E ≡ crowded_within n p (resumed Y) E

  abbrev one_of : Bool → Bool
  one_of a = a || false

  abbrev one_of_two : Bool → Bool → Bool
  one_of_two a b = a || (b || false)

  -- a part that is started where another list has a code 0
  started : (n : ℕ) (p q : Statement) → AgreeOn (pauses p) X Y → (E : ℕ)
      → some (crowded_of n) (cond (some_ends (list p (resumed X) E)) (request q start E ∷ []) [])
      ≡ some (crowded_of n) (cond (some_ends (list p (resumed Y) E)) (request q start E ∷ []) [])
  started n p q f E = ap (λ (ts : List Reaction). some (crowded_of n) (cond (some_ends ts) (request q start E ∷ []) [])) (list_agree p f E)

  needs_agree : (n : ℕ) → Same n → (p : Statement) → AgreeOn (pauses p) X Y → (E : ℕ)
      → some (crowded_of n) (needs p (resumed X) E) ≡ some (crowded_of n) (needs p (resumed Y) E)
  unfolding needs some pauses
  needs_agree n ih nothing f E = refl
  needs_agree n ih (pause l) f E = refl
  needs_agree n ih (gotopause l) f E = refl
  needs_agree n ih (emit S) f E = refl
  needs_agree n ih (exit d) f E = refl
  needs_agree n ih (signal S p) f E = ap₂ one_of_two (ih p f (E union only S)) (ih p f (E without S))
  needs_agree n ih (present S p q) f E =
      ap₂ one_of_two (ih p (agree_left (pauses p) (pauses q) X Y f) E) (ih q (agree_right (pauses p) (pauses q) X Y f) E)
  needs_agree n ih (sequence p q) f E =
      let left = agree_left (pauses p) (pauses q) X Y f in
      ap₂ ◌||◌ (ih p left E) (ap₂ ◌||◌ (ih q (agree_right (pauses p) (pauses q) X Y f) E) (started n p q left E))
  needs_agree n ih (parallel p q) f E =
      ap₂ one_of_two (ih p (agree_left (pauses p) (pauses q) X Y f) E) (ih q (agree_right (pauses p) (pauses q) X Y f) E)
  needs_agree n ih (loop p) f E = ap₂ ◌||◌ (ih p f E) (started n p p f E)
  needs_agree n ih (try p) f E = ap one_of (ih p f E)

  within_agree : (n : ℕ) → Same n
  unfolding crowded_within
  within_agree zero p f E = ap (λ (ts : List Reaction). ltb 64 (length ts)) (list_agree p f E)
  within_agree (suc n) p f E =
      ap₂ ◌||◌ (ap (λ (ts : List Reaction). ltb 64 (length ts)) (list_agree p f E)) (needs_agree n (within_agree n) p f E)

  pub crowded_agree : (p : Statement) → AgreeOn (pauses p) X Y → (E : ℕ) → crowded p (resumed X) E ≡ crowded p (resumed Y) E
  unfolding crowded
  crowded_agree p f E = within_agree (depth p) p f E
