-- A statement and its trimmed form have the same runs (Theorem 2), and the same reactions in every state of a run. R is closed,
-- so a state that is reached has no label of a pause outside R, and there trimming keeps reactions.
use mathlib.Core.Path.{◌≡◌, refl, sym, subst}
use mathlib.Core.Logic.{◌↔◌, ◌≢◌, ◌⊎◌, inl, inr}
use mathlib.Core.Bool.{true}
use mathlib.Core.List.{List, [], ◌∷◌}
use Prim.Native.Nat.{ℕ}
use Rattle.sets.specs.Set.{has}
use Rattle.sets.proofs.Booleans.{or_left, or_right}
use Rattle.esterel.specs.Statement.{Statement}
use Rattle.esterel.specs.Codes.{labels, s, d}
use Rattle.esterel.specs.Reachability.{reach}
use Rattle.esterel.specs.Trimming.{trimmed}
use Rattle.esterel.specs.Reactions.{State, start, resumed, Reaction, Reacts}
use Rattle.esterel.specs.Runs.{Step, RunFrom, Run, StateOf}
use Rattle.esterel.proofs.Premises.{LevelsFromOne}
use Rattle.esterel.proofs.Soundness.{Among, Allowed, sound_start, sound_resumed}
use Rattle.esterel.proofs.Reachability.{Closed, reach_closed}
use Rattle.esterel.proofs.Trimming.{trim_keeps}

-- ---- states that are reached
-- A holds of the state that a reaction of p leads to from a state with A
abbrev Kept : (State → Type 0) → Statement → Type 0
Kept A p = (x : State) → A x → (E : ℕ) (r : Reaction) → Reacts p x E r → r.code ≡ 1 → A (resumed r.reached)

reached_allowed : (p : Statement) (R : ℕ) → LevelsFromOne p → Closed p R → Kept (Allowed R true p) p
unfolding Reacts
reached_allowed p R w c start v E r t e =
    let i : Among (s p) 1 r.reached = subst (λ (z : ℕ). Among (s p) z r.reached) e (sound_start p w t) in
    λ l h u. c l u (or_left _ (i.1 l h))
reached_allowed p R w c (resumed X) v E r t e =
    let i : Among (d R p) 1 r.reached = subst (λ (z : ℕ). Among (d R p) z r.reached) e (sound_resumed R p X w v t) in
    λ l h u. c l u (or_right (has (labels (s p)) l) (i.1 l h))

-- ---- runs of one statement as runs of another
module _ (A : State → Type 0) (p q : Statement) (into : (x : State) → A x → (E : ℕ) (r : Reaction) → Reacts p x E r → Reacts q x E r) (next : Kept A p) where
  run_into : (ts : List Step) (x : State) → A x → RunFrom p x ts → RunFrom q x ts
  unfolding RunFrom
  run_into [] x a h = tt
  run_into (t ∷ ts) x a h =
      (into x a t.assumed t.reaction h.0, go (λ b u. run_into ts (resumed t.reaction.reached) b u) h.1)
    where
      go : (A (resumed t.reaction.reached) → RunFrom p (resumed t.reaction.reached) ts → RunFrom q (resumed t.reaction.reached) ts)
          → ((t.reaction.code ≡ 1) × RunFrom p (resumed t.reaction.reached) ts) ⊎ ((t.reaction.code ≢ 1) × (ts ≡ []))
          → ((t.reaction.code ≡ 1) × RunFrom q (resumed t.reaction.reached) ts) ⊎ ((t.reaction.code ≢ 1) × (ts ≡ []))
      go f (inl u) = inl (u.0, f (next x a t.assumed t.reaction h.0 u.0) u.1)
      go f (inr u) = inr u

-- ---- the states of a run
states_of : (A : State → Type 0) (p : Statement) → Kept A p → A start → (ts : List Step) (y : State) → A y → RunFrom p y ts
    → (x : State) → StateOf ts x → A x
unfolding RunFrom StateOf
states_of A p next base [] y a h x e = subst A (sym e) base
states_of A p next base (t ∷ ts) y a h x (inl u) = subst A (sym u.1) (next y a t.assumed t.reaction h.0 u.0)
states_of A p next base (t ∷ ts) y a h x (inr u) = go (λ b i. states_of A p next base ts (resumed t.reaction.reached) b i x u) h.1
  where
    go : (A (resumed t.reaction.reached) → RunFrom p (resumed t.reaction.reached) ts → A x)
        → ((t.reaction.code ≡ 1) × RunFrom p (resumed t.reaction.reached) ts) ⊎ ((t.reaction.code ≢ 1) × (ts ≡ [])) → A x
    go f (inl v) = f (next y a t.assumed t.reaction h.0 v.0) v.1
    go f (inr v) = let e : x ≡ start = subst (λ us. StateOf us x) v.1 u in subst A (sym e) base

module _ (p : Statement) (w : LevelsFromOne p) where
  still_allowed : Kept (Allowed (reach p).set true p) p
  still_allowed = reached_allowed p (reach p).set w (reach_closed p)

  -- R and the flag 1 allow the states of a run
  pub states_allowed : (ts : List Step) → Run p ts → (x : State) → StateOf ts x → Allowed (reach p).set true p x
  states_allowed ts h x u = states_of (Allowed (reach p).set true p) p still_allowed refl ts start refl h x u

  -- ---- the trimmed statement
  same_allowed : (x : State) → Allowed (reach p).set true p x → (E : ℕ) (r : Reaction) → Reacts p x E r ↔ Reacts (trimmed p) x E r
  unfolding Reacts trimmed
  same_allowed x v E r = trim_keeps (reach p).set true p x w v E r.emitted r.code r.reached

  -- Theorem 2: a list of steps is a run of the statement if and only if it is one of the trimmed statement
  pub same_runs : (ts : List Step) → Run p ts ↔ Run (trimmed p) ts
  same_runs ts = (
    run_into (Allowed (reach p).set true p) p (trimmed p) (λ x v E r. (same_allowed x v E r).0) still_allowed ts start refl,
    run_into (Allowed (reach p).set true p) (trimmed p) p (λ x v E r. (same_allowed x v E r).1)
        (λ x v E r t e. still_allowed x v E r ((same_allowed x v E r).1 t) e) ts start refl,
  )

  -- in every state of a run both have the same reactions
  pub same_reactions : (ts : List Step) → Run p ts → (x : State) → StateOf ts x → (E : ℕ) (r : Reaction) → Reacts p x E r ↔ Reacts (trimmed p) x E r
  same_reactions ts h x u E r = same_allowed x (states_allowed ts h x u) E r
