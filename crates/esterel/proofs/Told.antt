-- What is said of rows that were kept, and of none: that the rows list what a list has under every set that agrees with E, and
-- that refusal 15 is then not due; none says a fact. Each way to make capped rows of capped rows keeps that. With no signal unknown
-- a list of rows is no longer than that of its reactions, so it passes 64 only where refusal 15 is due.
use mathlib.Core.Path.{◌≡◌, refl, sym, ap, subst}
use mathlib.Core.Bool.{Bool, true, false}
use mathlib.Core.List.{List, [], ◌∷◌}
use mathlib.Core.Option.{none, some}
use Prim.Native.Nat.{ℕ, suc, ◌≤◌}
use native.Mathlib.Omega.{arith}
use lib.Dec.{ltb}
use lib.ListN.{length}
use borrow.Author.Tests.{ltb-true, ltb-false}
use Rattle.sets.proofs.Booleans.{not_true, clash, by_cond}
use Rattle.esterel.specs.Statement.{Statement}
use Rattle.esterel.specs.Reactions.{State, Reaction}
use Rattle.esterel.specs.Listing.{Listed, list, Request, needs, some_ends, own, child, some as some_of, crowded}
use Rattle.esterel.specs.inner.Conditions.{seen}
use Rattle.esterel.specs.inner.Rows.{Row, under, reactions, follow_rows, Agree}
use Rattle.esterel.specs.inner.CappedRows.{sorted_rows, CappedRows, cap_rows, collect_rows, change_rows, join_rows, then_rows, otherwise}
use Rattle.esterel.proofs.Order.{rising_shorter}
use Rattle.esterel.proofs.Listing.{list_rising}
use Rattle.esterel.proofs.Needed.{crowded_iff}
use Rattle.esterel.proofs.Proper.{All, all_sorted, Proper}
use Rattle.esterel.proofs.RowOrder.{RisingRows, sorted_rows_rising}
use Rattle.esterel.proofs.Rows.{Lists, Alike, lists_same, lists_sorted_rows}
use Rattle.esterel.proofs.Unknown.{under_all, rising_reactions}
use Rattle.esterel.proofs.Ends.{ends_of}
use Rattle.esterel.proofs.Quiet.{shorter, lists_ends, crowds, calm}

-- ---- what a list of rows and its want say

-- rows in order, at most 64, that list under each set F that agrees what L has, where N, that some list is crowded, is false
pub record Told (M E U : ℕ) (L : ℕ → List Reaction) (N : ℕ → Bool) (ws : List Row) : Type 0 where
  pub short : length ws ≤ 64
  pub rising : RisingRows ws
  pub proper : All (Proper M U 0) ws
  pub lists : (F : ℕ) → Agree U E F → Lists (seen M F) ws (L F)
  pub quiet : (F : ℕ) → Agree U E F → N F ≡ false

-- such rows, or none, which says D
pub data Answers (M : ℕ) (D : Type 0) (E U : ℕ) (L : ℕ → List Reaction) (N : ℕ → Bool) : CappedRows → Type 0 where
  wants : D → Answers M D E U L N none
  tells : {ws : List Row} → Told M E U L N ws → Answers M D E U L N (some ws)

-- refusal 15 is due, but for unknown signals
abbrev pub Due : Statement → State → ℕ → ℕ → Type 0
Due p x E U = U ≡ 0 → crowded p x E ≡ true

abbrev pub Answered : ℕ → Statement → State → ℕ → ℕ → CappedRows → Type 0
Answered M p x E U v = Answers M (Due p x E U) E U (list p x) (crowded p x) v

-- some list that p needs is crowded
abbrev pub Below : Statement → State → ℕ → Bool
Below p x F = some_of crowds (needs p x F)

-- ---- a list that passes 64

reactions_length : (ws : List Row) → length (reactions ws) ≡ length ws
unfolding reactions
reactions_length [] = refl
reactions_length (w ∷ ws) = ap suc (reactions_length ws)

-- with no signal unknown, rows in order are no more than the reactions that they list
no_longer : (M : ℕ) (p : Statement) (x : State) (E : ℕ) (ws : List Row) → RisingRows ws → All (Proper M 0 0) ws → ((r : Reaction) → Listed r (under (seen M E) ws) → Listed r (list p x E))
    → length ws ≤ length (list p x E)
no_longer M p x E ws h k f =
    let i = rising_shorter (list p x E) (reactions ws) (rising_reactions h k) (list_rising p x E) (λ r m. f r (subst (Listed r) (sym (under_all (seen M E) k)) m)) in
    let j = reactions_length ws in
    omega arith

-- rows put in order, whose reactions under E are in the list of p
pub collected : (M : ℕ) (p : Statement) (x : State) (E U : ℕ) {L : ℕ → List Reaction} {N : ℕ → Bool} (ws : List Row) → All (Proper M U 0) ws
    → ((F : ℕ) → Agree U E F → Lists (seen M F) ws (L F)) → ((F : ℕ) → Agree U E F → N F ≡ false) → ((r : Reaction) → Listed r (L E) → Listed r (list p x E))
    → Answers M (Due p x E U) E U L N (collect_rows ws)
unfolding collect_rows cap_rows
collected M p x E U {L} {N} ws k l n f =
    by_cond (Answers M (Due p x E U) E U L N) (ltb 64 (length (sorted_rows ws))) none (some (sorted_rows ws)) (λ e. wants (over e))
    (λ e. tells (record {
      short = ltb-false 64 (length (sorted_rows ws)) e;
      rising = sorted_rows_rising ws;
      proper = all_sorted k;
      lists = λ F a. lists_sorted_rows (l F a);
      quiet = n;
    }))
  where
    over : ltb 64 (length (sorted_rows ws)) ≡ true → Due p x E U
    over e z =
        let i = ltb-true 64 (length (sorted_rows ws)) e in
        let j = no_longer M p x E (sorted_rows ws) (sorted_rows_rising ws) (subst (λ (u : ℕ). All (Proper M u 0) (sorted_rows ws)) z (all_sorted k))
        (λ r m. f r ((lists_sorted_rows (l E (λ S h. refl))).out r m)) in
        (crowded_iff p x E).1 (own (omega arith))

-- ---- answers made of answers

pub weaker : {D D' : Type 0} {M E U : ℕ} {L : ℕ → List Reaction} {N : ℕ → Bool} {v : CappedRows} → (D → D') → Answers M D E U L N v → Answers M D' E U L N v
weaker f (wants d) = wants (f d)
weaker f (tells t) = tells t

-- the same rows, said of other lists
pub same_rows : {D D' : Type 0} {M E U : ℕ} {L L' : ℕ → List Reaction} {N N' : ℕ → Bool} {v : CappedRows} → (D → D') → ((F : ℕ) → Agree U E F → Alike (L F) (L' F))
    → ((F : ℕ) → Agree U E F → N F ≡ false → N' F ≡ false) → Answers M D E U L N v → Answers M D' E U L' N' v
same_rows f g h (wants d) = wants (f d)
same_rows f g h (tells t) =
    tells (record { short = t.short; rising = t.rising; proper = t.proper; lists = λ F a. lists_same (t.lists F a) (g F a); quiet = λ F a. h F a (t.quiet F a) })

-- of the lists that it needs, and of its own, which is short
pub whole : (p : Statement) (x : State) {D : Type 0} {M E U : ℕ} {v : CappedRows} → Answers M D E U (list p x) (Below p x) v → Answers M D E U (list p x) (crowded p x) v
whole p x (wants d) = wants d
whole p x {M = M} (tells {ws = ws} t) = tells (record {
  short = t.short;
  rising = t.rising;
  proper = t.proper;
  lists = t.lists;
  quiet = λ F a. let i = shorter (seen M F) ws (list p x F) (list_rising p x F) (t.lists F a).back in let j = t.short in calm p x F (omega arith) (t.quiet F a);
})

pub changed : {D D₁ : Type 0} {M E U E₁ U₁ : ℕ} {L L₁ : ℕ → List Reaction} {N N₁ : ℕ → Bool} {v : CappedRows} (f : List Row → List Row) → Answers M D₁ E₁ U₁ L₁ N₁ v
    → (D₁ → D) → ((ws : List Row) → Told M E₁ U₁ L₁ N₁ ws → Answers M D E U L N (collect_rows (f ws))) → Answers M D E U L N (change_rows f v)
unfolding change_rows
changed f (wants d) g h = wants (g d)
changed f (tells {ws = ws} t) g h = h ws t

pub joined : {D D₁ D₂ : Type 0} {M E U E₁ U₁ E₂ U₂ : ℕ} {L L₁ L₂ : ℕ → List Reaction} {N N₁ N₂ : ℕ → Bool} {v w : CappedRows} (f : List Row → List Row → List Row)
    → Answers M D₁ E₁ U₁ L₁ N₁ v → Answers M D₂ E₂ U₂ L₂ N₂ w → (D₁ → D) → (D₂ → D)
    → ((ws vs : List Row) → Told M E₁ U₁ L₁ N₁ ws → Told M E₂ U₂ L₂ N₂ vs → Answers M D E U L N (collect_rows (f ws vs))) → Answers M D E U L N (join_rows f v w)
unfolding join_rows
joined f (wants d) b g h k = wants (g d)
joined f (tells t) (wants d) g h k = wants (h d)
joined f (tells {ws = ws} t) (tells {ws = vs} u) g h k = k ws vs t u

-- what follows is asked for only where a row ends, and with no signal unknown that row is listed
pub followed : {D D₁ D₂ : Type 0} {M E U : ℕ} {L L₁ L₂ : ℕ → List Reaction} {N N₁ N₂ : ℕ → Bool} {v w : CappedRows} → Answers M D₁ E U L₁ N₁ v → Answers M D₂ E U L₂ N₂ w
    → (D₁ → D) → ((U ≡ 0 → some_ends (L₁ E) ≡ true) → D₂ → D)
    → ((ws vs : List Row) → Told M E U L₁ N₁ ws → Told M E U L₂ N₂ vs → Answers M D E U L N (collect_rows (follow_rows ws vs)))
    → ((F : ℕ) → Agree U E F → some_ends (L₁ F) ≡ false → Alike (L₁ F) (L F)) → ((F : ℕ) → Agree U E F → some_ends (L₁ F) ≡ false → N₁ F ≡ false → N F ≡ false)
    → Answers M D E U L N (then_rows v w)
unfolding then_rows
followed (wants d) b g h k l n = wants (g d)
followed {D} {M = M} {E = E} {U = U} {L = L} {L₁ = L₁} {N = N} {w = w} (tells {ws = ws} t) b g h k l n =
    by_cond (Answers M D E U L N) (some_ends (reactions ws)) (join_rows follow_rows (some ws) w) (some ws)
    (λ e. joined follow_rows (tells t) b g (h (λ z. ends_of (reactions ws) (L₁ E) (exact z) e)) k)
    (λ e. same_rows g (λ F c. l F c (endless F c e)) (λ F c. n F c (endless F c e)) (tells t))
  where
    exact : U ≡ 0 → (r : Reaction) → Listed r (reactions ws) → Listed r (L₁ E)
    exact z r m = (t.lists E (λ S h. refl)).out r (subst (Listed r) (sym (under_all (seen M E) (subst (λ (u : ℕ). All (Proper M u 0) ws) z t.proper))) m)

    endless : (F : ℕ) → Agree U E F → some_ends (reactions ws) ≡ false → some_ends (L₁ F) ≡ false
    endless F c e = not_true (some_ends (L₁ F)) (λ y. clash (lists_ends (t.lists F c) y) e)

-- an attempt, and what is made where it gives up
pub instead : {D : Type 0} {M E U : ℕ} {L : ℕ → List Reaction} {N : ℕ → Bool} {v w : CappedRows} → Answers M (Unit {0}) E U L N v → Answers M D E U L N w → Answers M D E U L N (otherwise v w)
unfolding otherwise
instead (wants d) b = b
instead (tells t) b = tells t

-- ---- refusal 15, from a needed list
pub due : (p : Statement) (x : State) (E : ℕ) (r : Request) → Listed r (needs p x E) → crowds r ≡ true → crowded p x E ≡ true
due p x E r m h = (crowded_iff p x E).1 (child r m ((crowded_iff r.statement r.state r.assumed).0 h))
