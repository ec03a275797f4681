-- Reactions that end, with code 0: what follows a list is needed only where it has one, and a list without one is what a sequence
-- or a resumed loop makes of it.
use mathlib.Core.Path.{◌≡◌, refl, sym, ap, ◌∙◌, subst}
use mathlib.Core.Logic.{◌≢◌, ◌⊎◌, inl, inr}
use mathlib.Core.Bool.{true, false}
use mathlib.Core.List.{List, [], ◌∷◌}
use Prim.Native.Nat.{ℕ}
use lib.Dec.{eqb}
use Rattle.sets.proofs.Booleans.{or_left, or_right, or_cases, or_neither, clash}
use Rattle.esterel.specs.Reactions.{Reaction}
use Rattle.esterel.specs.Listing.{Listed, follow, going, some_ends}
use Rattle.esterel.proofs.Listing.{Chain, follow_out, follow_left, follow_right, going_in, going_out}
use Rattle.esterel.proofs.Rows.{Alike}

ends_in : (r : Reaction) (ts : List Reaction) → Listed r ts → eqb r.code 0 ≡ true → some_ends ts ≡ true
unfolding some_ends
ends_in r (t ∷ ts) (inl h) e = or_left _ (ap (λ (z : Reaction). eqb z.code 0) (sym h) ∙ e)
ends_in r (t ∷ ts) (inr m) e = or_right (eqb t.code 0) (ends_in r ts m e)
ends_in r [] x'' e = elim x'' [ ]

ends_out : (ts : List Reaction) → some_ends ts ≡ true → (r : Reaction) × Listed r ts × (eqb r.code 0 ≡ true)
unfolding some_ends
ends_out [] h = clash h refl
ends_out (t ∷ ts) h = go (λ k. ends_out ts k) (or_cases (eqb t.code 0) (some_ends ts) h)
  where
    go : (some_ends ts ≡ true → (r : Reaction) × Listed r ts × (eqb r.code 0 ≡ true)) → (eqb t.code 0 ≡ true) ⊎ (some_ends ts ≡ true)
        → (r : Reaction) × Listed r (t ∷ ts) × (eqb r.code 0 ≡ true)
    go ih (inl k) = (t, inl refl, k)
    go ih (inr k) = let (r, m, e) = ih k in (r, inr m, e)

-- an end of a list is one of every list that has its reactions
pub ends_of : (ts us : List Reaction) → ((r : Reaction) → Listed r ts → Listed r us) → some_ends ts ≡ true → some_ends us ≡ true
ends_of ts us f h = let (r, m, e) = ends_out ts h in ends_in r us (f r m) e

no_end : (ts : List Reaction) → some_ends ts ≡ false → (r : Reaction) → Listed r ts → r.code ≢ 0
unfolding some_ends
no_end (t ∷ ts) h r (inl e) z = clash (eqb_zero (ap (λ (u : Reaction). u.code) (sym e) ∙ z)) (or_neither (eqb t.code 0) (some_ends ts) h).0
  where
    eqb_zero : t.code ≡ 0 → eqb t.code 0 ≡ true
    eqb_zero w = ap (λ (k : ℕ). eqb k 0) w
no_end (t ∷ ts) h r (inr m) z = no_end ts (or_neither (eqb t.code 0) (some_ends ts) h).1 r m z
no_end [] h r x3 z = elim x3 [ ]

-- where no reaction ends, nothing follows
follow_none : (ts us : List Reaction) → some_ends ts ≡ false → (r : Reaction) → Listed r (follow ts us) → Listed r ts
follow_none ts us h r m = go (follow_out ts us r m)
  where
    go : Chain ts us r → Listed r ts
    go (inl u) = u.0
    go (inr u) = absurd (no_end ts h u.0 u.2 u.3)

follow_kept : (ts us : List Reaction) → some_ends ts ≡ false → (r : Reaction) → Listed r ts → Listed r (follow ts us)
follow_kept ts us h r m = follow_left ts us r m (no_end ts h r m)

pub alike_follow : (ts us : List Reaction) → some_ends ts ≡ false → Alike ts (follow ts us)
alike_follow ts us h = (follow_kept ts us h, follow_none ts us h)

pub alike_going : (ts us : List Reaction) → some_ends ts ≡ false → Alike ts (going (follow ts us))
alike_going ts us h =
    (λ r m. going_in (follow ts us) r (follow_kept ts us h r m) (no_end ts h r m), λ r m. follow_none ts us h r (going_out (follow ts us) r m).0)

-- a loop that goes on: it is enough that what follows goes on
pub alike_again : (ts us : List Reaction) → Alike (follow ts (going us)) (going (follow ts us))
alike_again ts us =
    (λ r m. into r (follow_out ts (going us) r m), λ r m. let k = going_out (follow ts us) r m in from r k.1 (follow_out ts us r k.0))
  where
    into : (r : Reaction) → Chain ts (going us) r → Listed r (going (follow ts us))
    into r (inl u) = going_in (follow ts us) r (follow_left ts us r u.0 u.1) u.1
    into r (inr h) =
        let (t, u, m, z, n, e) = h in
        let k = going_out us u n in
        going_in (follow ts us) r (subst (λ w. Listed w (follow ts us)) (sym e) (follow_right ts us t u m z k.0))
        (λ w. k.1 (sym (ap (λ (q : Reaction). q.code) e) ∙ w))

    from : (r : Reaction) → r.code ≢ 0 → Chain ts us r → Listed r (follow ts (going us))
    from r n (inl u) = follow_left ts (going us) r u.0 u.1
    from r n (inr h) =
        let (t, u, m, z, k, e) = h in
        subst (λ w. Listed w (follow ts (going us))) (sym e)
        (follow_right ts (going us) t u m z (going_in us u k (λ w. n (ap (λ (q : Reaction). q.code) e ∙ w))))
