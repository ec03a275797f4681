-- Where every list of rows on the way has at most 64, refusal 15 is due under no set that agrees with E: a list that is needed under
-- such a set has its reactions among those of a list of rows.
use mathlib.Core.Path.{◌≡◌, refl, ap, ap₂, ◌∙◌}
use mathlib.Core.Logic.{inl, inr}
use mathlib.Core.Bool.{Bool, true, false, cond, not, ◌||◌}
use mathlib.Core.List.{List, [], ◌∷◌, ◌++◌}
use Prim.Native.Nat.{ℕ, suc, ◌≤◌}
use native.Mathlib.Omega.{arith}
use lib.Dec.{ltb}
use lib.ListN.{length}
use borrow.Author.Tests.{ltb-true}
use Rattle.sets.specs.Set.{has, only, ◌union◌, ◌without◌, Within}
use Rattle.sets.proofs.Booleans.{not_true, by_cond}
use Rattle.esterel.specs.Statement.{Statement, nothing, pause, gotopause, emit, exit, signal, present, sequence, parallel, loop, try}
use Rattle.esterel.specs.Reactions.{State, start, resumed, Reaction}
use Rattle.esterel.specs.Listing.{Listed, Rising, before, insert, sorted, one, only_if, list, Request, request, some_ends, needs, some, crowded}
use Rattle.esterel.specs.inner.Conditions.{seen, holds}
use Rattle.esterel.specs.inner.Rows.{Row, under, reactions, rows_of, Agree, Few, Quiet}
use Rattle.esterel.proofs.Order.{sorted_in, sorted_rising, rising_shorter}
use Rattle.esterel.proofs.Listing.{list_rising}
use Rattle.esterel.proofs.Needed.{crowded_step}
use Rattle.esterel.proofs.Conditions.{added, removed}
use Rattle.esterel.proofs.Rows.{Lists}
use Rattle.esterel.proofs.Ends.{ends_of}
use Rattle.esterel.proofs.Unknown.{inside_too, agree_inside, agree_with, agree_without, rows_are}

-- ---- lengths

insert_length : (r : Reaction) (ts : List Reaction) → length (insert r ts) ≤ suc (length ts)
unfolding insert
insert_length r [] = omega arith
insert_length r (t ∷ ts) =
    by_cond (λ us. length us ≤ suc (suc (length ts))) (before r t) (r ∷ t ∷ ts) (cond (before t r) (t ∷ insert r ts) (t ∷ ts)) (λ e. omega arith)
    (λ e. by_cond (λ us. length us ≤ suc (suc (length ts))) (before t r) (t ∷ insert r ts) (t ∷ ts) (λ f. let i = insert_length r ts in omega arith) (λ f. omega arith))

sorted_length : (ts : List Reaction) → length (sorted ts) ≤ length ts
unfolding sorted
sorted_length [] = omega arith
sorted_length (t ∷ ts) = let i = sorted_length ts in let j = insert_length t (sorted ts) in omega arith

under_length : (F : ℕ) (ws : List Row) → length (under F ws) ≤ length ws
unfolding under
under_length F [] = omega arith
under_length F (w ∷ ws) = go (holds w.when F) (under_length F ws)
  where
    go : (b : Bool) → length (under F ws) ≤ length ws → length (only_if b (one w.reacts) ++ under F ws) ≤ suc (length ws)
    go true h = omega arith
    go false h = omega arith

-- a rising list of reactions that rows give under F
pub shorter : (F : ℕ) (ws : List Row) (ts : List Reaction) → Rising ts → ((r : Reaction) → Listed r ts → Listed r (under F ws)) → length ts ≤ length ws
shorter F ws ts h f =
    let i = rising_shorter (sorted (under F ws)) ts h (sorted_rising (under F ws)) (λ r m. sorted_in r (under F ws) (f r m)) in
    let j = sorted_length (under F ws) in
    let k = under_length F ws in
    omega arith

pub few : (M E U : ℕ) (ws : List Row) → length ws ≤ 64 → Few M E U ws
few M E U ws h = (ws, h, λ F a r m. m)

few_listed : (M : ℕ) (p : Statement) (x : State) (E U F : ℕ) → Within U M → Agree U E F → Few M E U (rows_of M p x E U) → length (list p x F) ≤ 64
few_listed M p x E U F v a q =
    let (vs, n, f) = q in
    let i = shorter (seen M F) vs (list p x F) (list_rising p x F) (λ r m. f F a r (((rows_are M p x E U v).lists F a).back r m)) in
    omega arith

-- ---- ends

under_reactions : (F : ℕ) (ws : List Row) (r : Reaction) → Listed r (under F ws) → Listed r (reactions ws)
unfolding under reactions
under_reactions F [] r m = m
under_reactions F (w ∷ ws) r m = go (holds w.when F) (under_reactions F ws r) m
  where
    go : (b : Bool) → (Listed r (under F ws) → Listed r (reactions ws)) → Listed r (only_if b (one w.reacts) ++ under F ws) → Listed r (w.reacts ∷ reactions ws)
    go true ih (inl e) = inl e
    go true ih (inr k) = inr (ih k)
    go false ih k = inr (ih k)

-- an end that is listed is an end of some row
pub lists_ends : {F : ℕ} {ws : List Row} {ts : List Reaction} → Lists F ws ts → some_ends ts ≡ true → some_ends (reactions ws) ≡ true
lists_ends {F} {ws} {ts} l h = ends_of ts (reactions ws) (λ r m. under_reactions F ws r (l.back r m)) h

-- ---- needed lists

abbrev pub crowds : Request → Bool
crowds r = crowded r.statement r.state r.assumed

pub some_more : (r : Request) (l : List Request) → crowds r ≡ false → some crowds l ≡ false → some crowds (r ∷ l) ≡ false
unfolding some
some_more r l h k = ap₂ ◌||◌ h k

pub some_if : (r : Request) (b : Bool) → (b ≡ true → crowds r ≡ false) → some crowds (cond b (r ∷ []) []) ≡ false
unfolding some
some_if r true h = some_more r [] (h refl) refl
some_if r false h = refl

-- its own list, and those of its children
pub calm : (p : Statement) (x : State) (F : ℕ) → length (list p x F) ≤ 64 → some crowds (needs p x F) ≡ false → crowded p x F ≡ false
calm p x F h e = crowded_step p x F ∙ ap₂ ◌||◌ (not_true (ltb 64 (length (list p x F))) (λ k. let i = ltb-true 64 (length (list p x F)) k in omega arith)) e

pub quiet : (M : ℕ) (p : Statement) (x : State) (E U F : ℕ) → Within U M → Agree U E F → Quiet M p x E U → crowded p x F ≡ false
unfolding Quiet needs some
quiet M nothing x E U F v a q = calm nothing x F (few_listed M nothing x E U F v a q) refl
quiet M (pause l) x E U F v a q = calm (pause l) x F (few_listed M (pause l) x E U F v a q) refl
quiet M (gotopause l) x E U F v a q = calm (gotopause l) x F (few_listed M (gotopause l) x E U F v a q) refl
quiet M (emit S) x E U F v a q = calm (emit S) x F (few_listed M (emit S) x E U F v a q) refl
quiet M (exit d) x E U F v a q = calm (exit d) x F (few_listed M (exit d) x E U F v a q) refl
quiet M (signal S p) x E U F v a q =
    calm (signal S p) x F (few_listed M (signal S p) x E U F v a q.0)
    (go (has M S) refl
    (λ i. quiet M p x E (U union only S) (F union only S) (inside_too M U S v i) (agree_inside S U E F (F union only S) a (added S F)) (q.1 i))
    (λ i. quiet M p x E (U union only S) (F without S) (inside_too M U S v i) (agree_inside S U E F (F without S) a (removed S F)) (q.1 i))
    (λ i. quiet M p x (E union only S) U (F union only S) v (agree_with S U E F a) (q.2 i).0)
    (λ i. quiet M p x (E without S) U (F without S) v (agree_without S U E F a) (q.2 i).1))
  where
    go : (b : Bool) → has M S ≡ b → (has M S ≡ true → crowded p x (F union only S) ≡ false) → (has M S ≡ true → crowded p x (F without S) ≡ false)
        → (has M S ≡ false → crowded p x (F union only S) ≡ false) → (has M S ≡ false → crowded p x (F without S) ≡ false)
        → some crowds (request p x (F union only S) ∷ request p x (F without S) ∷ []) ≡ false
    go true e f g h k = some_more (request p x (F union only S)) (request p x (F without S) ∷ []) (f e) (some_more (request p x (F without S)) [] (g e) refl)
    go false e f g h k = some_more (request p x (F union only S)) (request p x (F without S) ∷ []) (h e) (some_more (request p x (F without S)) [] (k e) refl)
quiet M (present S p q) start E U F v a h =
    calm (present S p q) start F (few_listed M (present S p q) start E U F v a h.0)
    (some_more (cond (has F S) (request p start F) (request q start F)) []
    (by_cond (λ r. crowds r ≡ false) (has F S) (request p start F) (request q start F)
    (λ e. quiet M p start E U F v a (h.1 (may (has U S) (has E S) (λ u. a S u ∙ e)))) (λ e. quiet M q start E U F v a (h.2 (may (has U S) (not (has E S)) (λ u. ap not (a S u ∙ e)))))) refl)
  where
    may : (u b : Bool) → (u ≡ false → b ≡ true) → (u || b) ≡ true
    may true b f = refl
    may false b f = f refl
quiet M (present S p q) (resumed X) E U F v a h =
    calm (present S p q) (resumed X) F (few_listed M (present S p q) (resumed X) E U F v a h.0)
    (some_more (request p (resumed X) F) (request q (resumed X) F ∷ []) (quiet M p (resumed X) E U F v a h.1)
    (some_more (request q (resumed X) F) [] (quiet M q (resumed X) E U F v a h.2) refl))
quiet M (sequence p q) start E U F v a h =
    calm (sequence p q) start F (few_listed M (sequence p q) start E U F v a h.0)
    (some_more (request p start F) (cond (some_ends (list p start F)) (request q start F ∷ []) []) (quiet M p start E U F v a h.1)
    (some_if (request q start F) (some_ends (list p start F)) (λ e. quiet M q start E U F v a (h.2 (lists_ends ((rows_are M p start E U v).lists F a) e)))))
quiet M (sequence p q) (resumed X) E U F v a h =
    calm (sequence p q) (resumed X) F (few_listed M (sequence p q) (resumed X) E U F v a h.0)
    (some_more (request p (resumed X) F) (request q (resumed X) F ∷ cond (some_ends (list p (resumed X) F)) (request q start F ∷ []) []) (quiet M p (resumed X) E U F v a h.1)
    (some_more (request q (resumed X) F) (cond (some_ends (list p (resumed X) F)) (request q start F ∷ []) []) (quiet M q (resumed X) E U F v a h.2)
    (some_if (request q start F) (some_ends (list p (resumed X) F)) (λ e. quiet M q start E U F v a (h.3 (lists_ends ((rows_are M p (resumed X) E U v).lists F a) e))))))
quiet M (parallel p q) x E U F v a h =
    calm (parallel p q) x F (few_listed M (parallel p q) x E U F v a h.0)
    (some_more (request p x F) (request q x F ∷ []) (quiet M p x E U F v a h.1) (some_more (request q x F) [] (quiet M q x E U F v a h.2) refl))
quiet M (loop p) start E U F v a h = calm (loop p) start F (few_listed M (loop p) start E U F v a h.0) (some_more (request p start F) [] (quiet M p start E U F v a h.1) refl)
quiet M (loop p) (resumed X) E U F v a h =
    calm (loop p) (resumed X) F (few_listed M (loop p) (resumed X) E U F v a h.0)
    (some_more (request p (resumed X) F) (cond (some_ends (list p (resumed X) F)) (request p start F ∷ []) []) (quiet M p (resumed X) E U F v a h.1)
    (some_if (request p start F) (some_ends (list p (resumed X) F)) (λ e. quiet M p start E U F v a (h.2 (lists_ends ((rows_are M p (resumed X) E U v).lists F a) e)))))
quiet M (try p) x E U F v a h = calm (try p) x F (few_listed M (try p) x E U F v a h.0) (some_more (request p x F) [] (quiet M p x E U F v a h.1) refl)
