-- The answer for a program in a state from the provided set I: at most one is right, and the one that is computed is. A step emits only
-- signals that the program emits outside a declaration of them, so its E is among those that are looked at.
use mathlib.Core.Path.{◌≡◌, refl, sym, ap, ◌∙◌, subst}
use mathlib.Core.Logic.{◌↔◌, ◌≢◌, ◌⊎◌, inl, inr}
use mathlib.Core.Bool.{Bool, true, false, cond, ◌&&◌}
use mathlib.Core.List.{List, [], ◌∷◌, ◌++◌}
use Prim.Native.Nat.{ℕ, zero, suc, ◌<◌}
use native.Mathlib.Decide.{ℕ_discrete}
use native.Mathlib.Omega.{arith}
use lib.Dec.{eqb}
use Rattle.sets.specs.Set.{has, only, ◌union◌, ◌minus◌, Within}
use Rattle.sets.proofs.Booleans.{and_cases, not_true, clash, by_cond, same_bool, eqb_equal, eqb_same}
use Rattle.sets.proofs.Members.{has_minus_in, has_minus_out, has_only, has_only_equal, within_ext, either, in_left, in_right, union_within_both}
use Rattle.esterel.specs.Statement.{Statement}
use Rattle.esterel.specs.Reactions.{State, Reaction, Reacts}
use Rattle.esterel.specs.Runs.{Step}
use Rattle.esterel.specs.Listing.{Listed, list, listing}
use Rattle.esterel.specs.Stepping.{StepFrom, Answer, one, none, several, Says, IsAnswer, emitted_free, made_of, signals, looked_at, same, combined, answer_under, answer_among, stepping}
use Rattle.esterel.specs.inner.Rows.{Agree}
use Rattle.esterel.proofs.Emitting.{emitted_free_lem}
use Rattle.esterel.proofs.Order.{append_left, append_right, append_cases, same_reaction}
use Rattle.esterel.proofs.Listing.{list_is_listing}

-- ---- what answers say

pub says_as : {P Q : Step → Type 0} (a : Answer) → ((t : Step) → P t ↔ Q t) → Says a P → Says a Q
unfolding Says
says_as (one t) f (h, k) = ((f t).0 h, λ u m. k u ((f u).1 m))
says_as none f h = λ t m. h t ((f t).1 m)
says_as several f (t, u, h, k, n) = (t, u, (f t).0 h, (f u).0 k, n)

pub answer_unique : (P : Step → Type 0) (a b : Answer) → Says a P → Says b P → a ≡ b
unfolding Says
answer_unique P (one t) (one u) (h, k) (l, m) = ap one (m t h)
answer_unique P (one t) none (h, k) g = absurd (g t h)
answer_unique P (one t) several (h, k) (u, v, l, m, n) = absurd (n (k u l ∙ sym (k v m)))
answer_unique P none (one t) f (h, k) = absurd (f t h)
answer_unique P none none f g = refl
answer_unique P none several f (u, v, l, m, n) = absurd (f u l)
answer_unique P several (one t) (u, v, l, m, n) (h, k) = absurd (n (k u l ∙ sym (k v m)))
answer_unique P several none (u, v, l, m, n) g = absurd (g u l)
answer_unique P several several f g = refl

pub same_step : (t u : Step) → t.assumed ≡ u.assumed → t.reaction ≡ u.reaction → t ≡ u
same_step t u e f = λ i. record { assumed = e i; reaction = f i }

same_yes : (r t : Reaction) → same r t ≡ true → r ≡ t
unfolding same
same_yes r t h =
    let (a, k) = and_cases (eqb r.emitted t.emitted) (eqb r.code t.code && eqb r.reached t.reached) h in
    let (b, c) = and_cases (eqb r.code t.code) (eqb r.reached t.reached) k in
    same_reaction r t (eqb_equal r.emitted t.emitted a) (eqb_equal r.code t.code b) (eqb_equal r.reached t.reached c)

same_self : (r : Reaction) → same r r ≡ true
unfolding same
same_self r = rw (eqb_same r.emitted, eqb_same r.code, eqb_same r.reached)

-- steps from I: the reaction says under which E
abbrev pub From : ℕ → (Step → Type 0) → Type 0
From I P = (t : Step) → P t → t.assumed ≡ I union t.reaction.emitted

pub says_combined : {P Q : Step → Type 0} (I : ℕ) → From I P → From I Q → (a b : Answer) → Says a P → Says b Q → Says (combined a b) (λ t. P t ⊎ Q t)
unfolding Says combined
says_combined {P} {Q} I f g none b h k = says_as b (λ t. (λ m. inr m, λ m. second t m)) k
  where
    second : (t : Step) → P t ⊎ Q t → Q t
    second t (inl m) = absurd (h t m)
    second t (inr m) = m
says_combined I f g several b (t, u, h, l, n) k = (t, u, inl h, inl l, n)
says_combined {P} {Q} I f g (one t) none h k = says_as (one t) (λ u. (λ m. inl m, λ m. first u m)) h
  where
    first : (u : Step) → P u ⊎ Q u → P u
    first u (inl m) = m
    first u (inr m) = absurd (k u m)
says_combined I f g (one t) several h (u, v, k, l, n) = (u, v, inr k, inr l, n)
says_combined {P} {Q} I f g (one t) (one u) (h, m) (k, n) =
    by_cond (λ a. Says a (λ v. P v ⊎ Q v)) (same t.reaction u.reaction) (one t) several
    (λ e. let d = equal (same_yes t.reaction u.reaction e) in (inl h, λ v i. only_one d v i))
    (λ e. (t, u, inl h, inr k, λ d. clash (subst (λ (v : Step). same t.reaction v.reaction ≡ true) d (same_self t.reaction)) e))
  where
    equal : t.reaction ≡ u.reaction → t ≡ u
    equal e = same_step t u (f t h ∙ ap (λ (r : Reaction). I union r.emitted) e ∙ sym (g u k)) e

    only_one : t ≡ u → (v : Step) → P v ⊎ Q v → v ≡ t
    only_one d v (inl i) = m v i
    only_one d v (inr i) = n v i ∙ sym d

-- one step, where b says that it is one
pub says_if : (b : Bool) (t : Step) → Says (cond b (one t) none) (λ u. (b ≡ true) × (u ≡ t))
unfolding Says
says_if true t = ((refl, refl), λ u m. m.1)
says_if false t = λ u m. clash m.0 refl

-- ---- the sets that are looked at

-- E is I and some members of F that are below n
abbrev Between : ℕ → ℕ → ℕ → ℕ → Type 0
Between n I F E = Within I E × ((S : ℕ) → has E S ≡ true → has I S ≡ false → (has F S ≡ true) × (S < n))

between_more : (n I F E : ℕ) → Between n I F E → Between (suc n) I F E
between_more n I F E (f, g) = (f, λ S e i. let (k, l) = g S e i in (k, omega arith))

-- n is not one of them
between_less : (n I F E : ℕ) → (has E n ≡ true → has F n ≡ true → ⊥) → Between (suc n) I F E → Between n I F E
between_less n I F E h (f, g) = (
  f,
  λ S e i. let (k, l) = g S e i in
      let z : S ≢ n = λ d. h (subst (λ (y : ℕ). has E y ≡ true) d e) (subst (λ (y : ℕ). has F y ≡ true) d k) in
      (k, omega arith),
)

-- n is one of them, and is put to I
between_with : (n I F E : ℕ) → has E n ≡ true → Between (suc n) I F E → Between n (I union only n) F E
between_with n I F E h (f, g) = (
  union_within_both I (only n) E f (λ S k. subst (λ (z : ℕ). has E z ≡ true) (has_only_equal n S k) h),
  λ S e i. let (k, l) = g S e (not_true (has I S) (λ j. clash (in_left I (only n) S j) i)) in
      let z : S ≢ n = λ d. clash (in_right I (only n) S (subst (λ (y : ℕ). has (only n) y ≡ true) (sym d) (has_only n))) i in
      (k, omega arith),
)

between_without : (n I F E : ℕ) → has F n ≡ true → Between n (I union only n) F E → Between (suc n) I F E
between_without n I F E h (f, g) = (λ S i. f S (in_left I (only n) S i), λ S e i. go S e i (ℕ_discrete n S))
  where
    go : (S : ℕ) → has E S ≡ true → has I S ≡ false → Dec (n ≡ S) → (has F S ≡ true) × (S < suc n)
    go S e i (yes d) = (subst (λ (z : ℕ). has F z ≡ true) d h, omega arith)
    go S e i (no d) =
        let (k, l) = g S e (not_true (has (I union only n) S) (λ j. either I (only n) S j (λ y. clash y i) (λ y. d (has_only_equal n S y)))) in
        (k, omega arith)

made_in : (n I F E : ℕ) → Between n I F E → Listed E (made_of n I F)
unfolding made_of
made_in zero I F E (f, g) = inl (within_ext E I (λ S e. inside S e (has I S) refl) f)
  where
    inside : (S : ℕ) → has E S ≡ true → (b : Bool) → has I S ≡ b → has I S ≡ true
    inside S e true i = i
    inside S e false i = absurd (let l = (g S e i).1 in omega arith)
made_in (suc n) I F E h =
    by_cond (Listed E) (has F n) (made_of n (I union only n) F ++ made_of n I F) (made_of n I F)
    (λ m. go (λ e. made_in n (I union only n) F E (between_with n I F E e h)) (λ e. made_in n I F E (between_less n I F E (λ k l. clash k e) h)) (has E n) refl)
    (λ m. made_in n I F E (between_less n I F E (λ k l. clash l m) h))
  where
    go : (has E n ≡ true → Listed E (made_of n (I union only n) F)) → (has E n ≡ false → Listed E (made_of n I F)) → (b : Bool) → has E n ≡ b
        → Listed E (made_of n (I union only n) F ++ made_of n I F)
    go f g true e = append_left E (made_of n (I union only n) F) (made_of n I F) (f e)
    go f g false e = append_right E (made_of n (I union only n) F) (made_of n I F) (g e)

made_out : (n I F E : ℕ) → Listed E (made_of n I F) → Between n I F E
unfolding made_of
made_out zero I F E (inl e) = (λ S h. ap (λ (z : ℕ). has z S) e ∙ h, λ S h i. clash (sym (ap (λ (z : ℕ). has z S) e) ∙ h) i)
made_out (suc n) I F E m =
    by_cond (λ l. Listed E l → Between (suc n) I F E) (has F n) (made_of n (I union only n) F ++ made_of n I F) (made_of n I F)
    (λ h k. go (λ l. between_without n I F E h (made_out n (I union only n) F E l)) (λ l. between_more n I F E (made_out n I F E l))
    (append_cases E (made_of n (I union only n) F) (made_of n I F) k)) (λ h k. between_more n I F E (made_out n I F E k)) m
  where
    go : (Listed E (made_of n (I union only n) F) → Between (suc n) I F E) → (Listed E (made_of n I F) → Between (suc n) I F E)
        → Listed E (made_of n (I union only n) F) ⊎ Listed E (made_of n I F) → Between (suc n) I F E
    go f g (inl l) = f l
    go f g (inr l) = g l
made_out zero I F E (inr x'') = elim x'' [ ]

-- where all of F are below n, they are the sets that differ from I in members of F that I has not
pub made_agree : (n I F E : ℕ) → ((S : ℕ) → has F S ≡ true → S < n) → Listed E (made_of n I F) ↔ Agree (F minus I) I E
made_agree n I F E b = (λ m. agrees (made_out n I F E m), λ a. made_in n I F E (within a, λ S e i. let k = free a S e i in (k, b S k)))
  where
    agrees : Between n I F E → Agree (F minus I) I E
    agrees (f, g) S h =
        same_bool (has I S) (has E S) (f S) (λ e. go e (has I S) refl)
      where
        go : has E S ≡ true → (z : Bool) → has I S ≡ z → has I S ≡ true
        go e true i = i
        go e false i = clash (has_minus_out F I S i ∙ (g S e i).0) h

    within : Agree (F minus I) I E → Within I E
    within a S i = sym (a S (has_minus_in F I S i)) ∙ i

    free : Agree (F minus I) I E → (S : ℕ) → has E S ≡ true → has I S ≡ false → has F S ≡ true
    free a S e i = go (has (F minus I) S) refl
      where
        go : (z : Bool) → has (F minus I) S ≡ z → has F S ≡ true
        go true h = sym (has_minus_out F I S i) ∙ h
        go false h = clash e (sym (a S h) ∙ i)

-- ---- steps

-- what p emits outside a declaration are signals
abbrev pub FreeSignals : Statement → Type 0
FreeSignals p = (S : ℕ) → has (emitted_free p) S ≡ true → S < signals

pub step_within : (p : Statement) (x : State) (I : ℕ) (t : Step) → StepFrom p x I t → Within t.reaction.emitted (emitted_free p)
unfolding Reacts
step_within p x I t h = emitted_free_lem p h.reacts

pub step_agrees : (p : Statement) (x : State) (I : ℕ) (t : Step) → StepFrom p x I t → Agree (emitted_free p minus I) I t.assumed
step_agrees p x I t h S n = go (has I S) refl
  where
    O : ℕ
    O = t.reaction.emitted

    there : has t.assumed S ≡ has (I union O) S
    there = ap (λ (z : ℕ). has z S) h.joined

    go : (b : Bool) → has I S ≡ b → has I S ≡ has t.assumed S
    go true i = i ∙ sym (there ∙ in_left I O S i)
    go false i =
        i ∙ sym (there ∙ not_true (has (I union O) S) (λ e. either I O S e (λ k. clash k i)
        (λ k. clash (has_minus_out (emitted_free p) I S i ∙ step_within p x I t h S k) n)))

-- no set outside those that are looked at has a step
pub step_looked_at : (p : Statement) (x : State) (I : ℕ) → FreeSignals p → (t : Step) → StepFrom p x I t → Listed t.assumed (looked_at p I)
unfolding looked_at
step_looked_at p x I f t h = (made_agree signals I (emitted_free p) t.assumed f).1 (step_agrees p x I t h)

-- ---- the answer that is computed

-- a step from I under E among the reactions ts
abbrev Under : ℕ → ℕ → List Reaction → Step → Type 0
Under I E ts t = (t.assumed ≡ E) × (E ≡ I union t.reaction.emitted) × Listed t.reaction ts

under_from : (I E : ℕ) (ts : List Reaction) → From I (Under I E ts)
under_from I E ts t (a, e, m) = a ∙ e

under_says : (I E : ℕ) (ts : List Reaction) → Says (answer_under I E ts) (Under I E ts)
unfolding answer_under Says
under_says I E [] = λ t h. h.2
under_says I E (r ∷ ts) =
    says_as (combined (cond (eqb E (I union r.emitted)) (one here) none) (answer_under I E ts)) (λ t. (together t, apart t))
    (says_combined I (λ t h. from t h) (under_from I E ts) (cond (eqb E (I union r.emitted)) (one here) none) (answer_under I E ts)
    (says_if (eqb E (I union r.emitted)) here) (under_says I E ts))
  where
    here : Step
    here = record { assumed = E; reaction = r }

    Here : Step → Type 0
    Here t = (eqb E (I union r.emitted) ≡ true) × (t ≡ here)

    from : (t : Step) → Here t → t.assumed ≡ I union t.reaction.emitted
    from t (e, i) = subst (λ (u : Step). u.assumed ≡ I union u.reaction.emitted) (sym i) (eqb_equal E (I union r.emitted) e)

    together : (t : Step) → Here t ⊎ Under I E ts t → Under I E (r ∷ ts) t
    together t (inl (e, i)) = (ap (λ (u : Step). u.assumed) i, sym (ap (λ (u : Step). u.assumed) i) ∙ from t (e, i), inl (ap (λ (u : Step). u.reaction) i))
    together t (inr (a, e, m)) = (a, e, inr m)

    apart : (t : Step) → Under I E (r ∷ ts) t → Here t ⊎ Under I E ts t
    apart t (a, e, inl i) = inl (subst (λ (z : ℕ). eqb E z ≡ true) (e ∙ ap (λ (u : Reaction). I union u.emitted) i) (eqb_same E), same_step t here a i)
    apart t (a, e, inr m) = inr (a, e, m)

-- a step under one of the sets Es
abbrev UnderOne : Statement → State → ℕ → List ℕ → Step → Type 0
UnderOne p x I Es t = Listed t.assumed Es × StepFrom p x I t

among_says : (p : Statement) (x : State) (I : ℕ) (Es : List ℕ) → Says (answer_among p x I Es) (UnderOne p x I Es)
unfolding answer_among listing Says
among_says p x I [] = λ t h. h.0
among_says p x I (E ∷ Es) =
    says_as (combined (answer_under I E (list p x E)) (answer_among p x I Es)) (λ t. (together t, apart t))
    (says_combined I (under_from I E (list p x E)) (λ t h. h.1.joined) (answer_under I E (list p x E)) (answer_among p x I Es)
    (under_says I E (list p x E)) (among_says p x I Es))
  where
    together : (t : Step) → Under I E (list p x E) t ⊎ UnderOne p x I Es t → UnderOne p x I (E ∷ Es) t
    together t (inl (a, e, m)) =
        (inl a, record { joined = a ∙ e; reacts = subst (λ (z : ℕ). Reacts p x z t.reaction) (sym a) (((list_is_listing p x E).members t.reaction).0 m) })
    together t (inr (m, h)) = (inr m, h)

    apart : (t : Step) → UnderOne p x I (E ∷ Es) t → Under I E (list p x E) t ⊎ UnderOne p x I Es t
    apart t (inl a, h) =
        inl (a, sym a ∙ h.joined, ((list_is_listing p x E).members t.reaction).1 (subst (λ (z : ℕ). Reacts p x z t.reaction) a h.reacts))
    apart t (inr m, h) = inr (m, h)

-- the answer that is computed is the one that the meaning describes
pub stepping_is : (p : Statement) (x : State) (I : ℕ) → FreeSignals p → IsAnswer p x I (stepping p x I)
unfolding stepping
stepping_is p x I f = says_as (answer_among p x I (looked_at p I)) (λ t. (λ h. h.1, λ h. (step_looked_at p x I f t h, h))) (among_says p x I (looked_at p I))

-- programs with the same reactions in a state have the same answer there
pub same_answers : (p q : Statement) (x : State) (I : ℕ) → FreeSignals p → FreeSignals q → ((E : ℕ) → listing p x E ≡ listing q x E) → stepping p x I ≡ stepping q x I
unfolding listing
same_answers p q x I f g e =
    answer_unique (StepFrom q x I) (stepping p x I) (stepping q x I)
    (says_as (stepping p x I) (λ t. (carried p q e t, carried q p (λ E. sym (e E)) t)) (stepping_is p x I f)) (stepping_is q x I g)
  where
    carried : (p q : Statement) → ((E : ℕ) → list p x E ≡ list q x E) → (t : Step) → StepFrom p x I t → StepFrom q x I t
    carried p q e t h =
        let E = t.assumed in
        record { joined = h.joined; reacts = ((list_is_listing q x E).members t.reaction).0 (subst (Listed t.reaction) (e E) (((list_is_listing p x E).members t.reaction).1 h.reacts)) }
