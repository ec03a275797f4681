-- The listing of a state holds the reactions that Figure 3 derives, and no others; so statements with the same reactions
-- in a state have the same listing of it.
use mathlib.Core.Path.{◌≡◌, refl, sym, ap, ◌∙◌, subst}
use mathlib.Core.Logic.{◌↔◌, ◌≢◌, ◌⊎◌, inl, inr}
use mathlib.Core.Bool.{true, not, cond}
use mathlib.Core.List.{List, [], ◌++◌}
use Prim.Native.Nat.{ℕ, max}
use native.Mathlib.Omega.{arith}
use lib.Dec.{eqb}
use Rattle.sets.specs.Set.{has, only, ◌union◌, ◌intersect◌, ◌without◌}
use Rattle.sets.proofs.Booleans.{clash, by_cond, eqb_equal, eqb_differ, differ_eqb}
use Rattle.sets.proofs.Members.{apart_test, test_apart}
use Rattle.esterel.specs.Statement.{Statement, nothing, pause, gotopause, emit, exit, signal, present, sequence, parallel, loop, try, pauses}
use Rattle.esterel.specs.Codes.{code_of, through}
use Rattle.esterel.specs.Reactions.{State, start, resumed, reached_together, Derives, Reaction, Reacts}
use Rattle.esterel.specs.Reactions as rule
use Rattle.esterel.specs.Listing.{Listed, Rising, IsListing, reaction, one, only_if, each, hide, follow, pair, together, going, caught, list}
use Rattle.esterel.proofs.Order.{append_left, append_right, append_cases, each_in, each_out, only_if_in, only_if_out, one_out, same_reaction, sorted_in, sorted_out, sorted_rising, same_list}
use Rattle.esterel.proofs.Soundness.{recast, reached_empty}

-- ---- the listing holds the reactions, and no others
abbrev Of : Statement → State → ℕ → Reaction → Type 0
Of p x E r = Derives p x E r.emitted r.code r.reached

-- the four ways to make lists
pub hide_out : (S : ℕ) (ts : List Reaction) (r : Reaction) → Listed r (hide S ts) → (t : Reaction) × Listed t ts × (has t.emitted S ≡ true) × (r ≡ reaction (t.emitted without S) t.code t.reached)
unfolding hide
hide_out S ts r h =
    let (t, m, n) = each_out r ts (λ r. only_if (has r.emitted S) (one (reaction (r.emitted without S) r.code r.reached))) h in
    let (e, k) = only_if_out r (has t.emitted S) (one (reaction (t.emitted without S) t.code t.reached)) n in
    (t, m, e, one_out r (reaction (t.emitted without S) t.code t.reached) k)

pub hide_in : (S : ℕ) (ts : List Reaction) (t : Reaction) → Listed t ts → has t.emitted S ≡ true → Listed (reaction (t.emitted without S) t.code t.reached) (hide S ts)
unfolding hide
hide_in S ts t m e =
    let r = reaction (t.emitted without S) t.code t.reached in
    each_in r t ts (λ r. only_if (has r.emitted S) (one (reaction (r.emitted without S) r.code r.reached))) m (only_if_in r (has t.emitted S) (one r) e (inl refl))

pub going_out : (ts : List Reaction) (r : Reaction) → Listed r (going ts) → Listed r ts × (r.code ≢ 0)
unfolding going
going_out ts r h =
    let (t, m, n) = each_out r ts (λ r. only_if (not (eqb r.code 0)) (one r)) h in
    let (e, k) = only_if_out r (not (eqb t.code 0)) (one t) n in
    let u : r ≡ t = one_out r t k in
    (rw u m, λ z. no_not t.code e (sym (ap (λ (q : Reaction). q.code) u) ∙ z))
  where
    no_not : (c : ℕ) → not (eqb c 0) ≡ true → c ≢ 0
    no_not c e z = clash e (ap (λ (y : ℕ). not (eqb y 0)) z)

pub going_in : (ts : List Reaction) (r : Reaction) → Listed r ts → r.code ≢ 0 → Listed r (going ts)
unfolding going
going_in ts r m n = each_in r r ts (λ r. only_if (not (eqb r.code 0)) (one r)) m (only_if_in r (not (eqb r.code 0)) (one r) (ap not (eqb_differ r.code 0 n)) (inl refl))

pub caught_out : (ts : List Reaction) (r : Reaction) → Listed r (caught ts)
    → (t : Reaction) × Listed t ts × (r ≡ reaction t.emitted (through t.code) t.reached)
unfolding caught
caught_out ts r h =
    let (t, m, n) = each_out r ts (λ r. one (reaction r.emitted (through r.code) r.reached)) h in
    (t, m, one_out r (reaction t.emitted (through t.code) t.reached) n)

pub caught_in : (ts : List Reaction) (t : Reaction) → Listed t ts → Listed (reaction t.emitted (through t.code) t.reached) (caught ts)
unfolding caught
caught_in ts t m =
    each_in (reaction t.emitted (through t.code) t.reached) t ts (λ r. one (reaction r.emitted (through r.code) r.reached)) m (inl refl)

abbrev pub Chain : List Reaction → List Reaction → Reaction → Type 0
Chain ts us r = (Listed r ts × (r.code ≢ 0))
    ⊎ ((t : Reaction) × (u : Reaction) × Listed t ts × (t.code ≡ 0) × Listed u us × (r ≡ reaction (t.emitted union u.emitted) u.code u.reached))

pub follow_out : (ts us : List Reaction) (r : Reaction) → Listed r (follow ts us) → Chain ts us r
unfolding follow
follow_out ts us r h =
    let (t, m, n) = each_out r ts (λ r. cond (eqb r.code 0) (each us (λ t. one (reaction (r.emitted union t.emitted) t.code t.reached))) (one r)) h in
    go t m n
  where
    go : (t : Reaction) → Listed t ts → Listed r (cond (eqb t.code 0) (each us (λ u. one (reaction (t.emitted union u.emitted) u.code u.reached))) (one t)) → Chain ts us r
    go t m n =
        by_cond (λ z. Listed r z → Chain ts us r) (eqb t.code 0) (each us (λ u. one (reaction (t.emitted union u.emitted) u.code u.reached))) (one t)
        (λ e k. let (u, a, b) = each_out r us (λ u. one (reaction (t.emitted union u.emitted) u.code u.reached)) k in
        inr (t, u, m, eqb_equal t.code 0 e, a, one_out r (reaction (t.emitted union u.emitted) u.code u.reached) b))
        (λ e k. let v : r ≡ t = one_out r t k in inl (rw v m, λ z. differ_eqb t.code 0 e (sym (ap (λ (q : Reaction). q.code) v) ∙ z))) n

pub follow_left : (ts us : List Reaction) (r : Reaction) → Listed r ts → r.code ≢ 0 → Listed r (follow ts us)
unfolding follow
follow_left ts us r m n =
    each_in r r ts (λ r. cond (eqb r.code 0) (each us (λ t. one (reaction (r.emitted union t.emitted) t.code t.reached))) (one r)) m
    (rw (eqb_differ r.code 0 n) (inl refl))

pub follow_right : (ts us : List Reaction) (t u : Reaction) → Listed t ts → t.code ≡ 0 → Listed u us → Listed (reaction (t.emitted union u.emitted) u.code u.reached) (follow ts us)
unfolding follow
follow_right ts us t u m e n =
    let r = reaction (t.emitted union u.emitted) u.code u.reached in
    each_in r t ts (λ r. cond (eqb r.code 0) (each us (λ t. one (reaction (r.emitted union t.emitted) t.code t.reached))) (one r)) m
    (rw e (each_in r u us (λ z. one (reaction (t.emitted union z.emitted) z.code z.reached)) n (inl refl)))

pub together_out : (ts us : List Reaction) (r : Reaction) → Listed r (together ts us) → (t : Reaction) × (u : Reaction) × Listed t ts × Listed u us × (r ≡ pair t u)
unfolding together pair
together_out ts us r h =
    let (t, m, n) = each_out r ts (λ t. each us (λ u. one (pair t u))) h in
    let (u, a, b) = each_out r us (λ u. one (pair t u)) n in
    (t, u, m, a, one_out r (pair t u) b)

pub together_in : (ts us : List Reaction) (t u : Reaction) → Listed t ts → Listed u us → Listed (pair t u) (together ts us)
unfolding together pair
together_in ts us t u m n = each_in (pair t u) t ts (λ t. each us (λ u. one (pair t u))) m (each_in (pair t u) u us (λ u. one (pair t u)) n (inl refl))

ended : {p : Statement} {x : State} {E O k L : ℕ} → k ≡ 0 → Derives p x E O k L → Derives p x E O 0 0
ended e r = recast refl (sym e) (sym (reached_empty r (λ f. omega arith))) r

abbrev emitted_of : Reaction → ℕ
emitted_of r = r.emitted

abbrev code_of_reaction : Reaction → ℕ
code_of_reaction r = r.code

abbrev reached_of : Reaction → ℕ
reached_of r = r.reached

seq_of : (p q : Statement) (x : State) (E : ℕ) (ts us : List Reaction) → ((r : Reaction) → Listed r ts → Of p x E r) → ((r : Reaction) → Listed r us → Of q start E r)
    → (r : Reaction) → Chain ts us r → Of (sequence p q) x E r
seq_of p q x E ts us f g r (inl h) = rule.seq_left (f r h.0) h.1
seq_of p q x E ts us f g r (inr h) =
    let (t, u, m, e, n, i) = h in
    rule.seq t.emitted u.emitted (ended e (f t m)) (recast refl (ap code_of_reaction i) (ap reached_of i) (g u n)) (ap emitted_of i)

loop_of : (p : Statement) (X E : ℕ) (ts us : List Reaction) → ((r : Reaction) → Listed r ts → Of p (resumed X) E r) → ((r : Reaction) → Listed r us → Of p start E r)
    → (r : Reaction) → r.code ≢ 0 → Chain ts us r → Of (loop p) (resumed X) E r
loop_of p X E ts us f g r z (inl h) = rule.no_loop (f r h.0) z
loop_of p X E ts us f g r z (inr h) =
    let (t, u, m, e, n, i) = h in
    rule.loop t.emitted u.emitted (ended e (f t m)) (recast refl (ap code_of_reaction i) (ap reached_of i) (g u n)) z (ap emitted_of i)

par_of : (p q : Statement) (x : State) (E : ℕ) (ts us : List Reaction) → ((r : Reaction) → Listed r ts → Of p x E r) → ((r : Reaction) → Listed r us → Of q x E r)
    → (r : Reaction) → Listed r (together ts us) → Of (parallel p q) x E r
unfolding pair
par_of p q x E ts us f g r h =
    let (t, u, m, n, i) = together_out ts us r h in
    rule.par t.emitted t.code t.reached u.emitted u.code u.reached (f t m) (g u n) (ap emitted_of i) (ap code_of_reaction i)
    (ap reached_of i ∙ ap (λ (z : ℕ). reached_together z t.reached u.reached) (sym (ap code_of_reaction i)))

pub split : {C : Type 0} (r : Reaction) (ts us : List Reaction) → Listed r (ts ++ us) → (Listed r ts → C) → (Listed r us → C) → C
split {C} r ts us h f g = go (append_cases r ts us h)
  where
    go : Listed r ts ⊎ Listed r us → C
    go (inl k) = f k
    go (inr k) = g k

met : (O₁ k₁ L₁ O₂ k₂ L₂ O k L : ℕ) → O ≡ O₁ union O₂ → k ≡ max k₁ k₂ → L ≡ reached_together k L₁ L₂ → reaction O k L ≡ pair (reaction O₁ k₁ L₁) (reaction O₂ k₂ L₂)
unfolding pair
met O₁ k₁ L₁ O₂ k₂ L₂ O k L e f g =
    same_reaction (reaction O k L) (pair (reaction O₁ k₁ L₁) (reaction O₂ k₂ L₂)) e f (g ∙ ap (λ (z : ℕ). reached_together z L₁ L₂) f)

pub listed_out : (p : Statement) (x : State) (E : ℕ) (r : Reaction) → Listed r (list p x E) → Of p x E r
unfolding list
listed_out nothing start E r (inl e) = rule.nothing (ap emitted_of e) (ap code_of_reaction e) (ap reached_of e)
listed_out nothing (resumed X) E r h = absurd h
listed_out (pause l) start E r (inl e) = rule.pause (ap emitted_of e) (ap code_of_reaction e) (ap reached_of e)
listed_out (pause l) (resumed X) E r h =
    let (u, k) = only_if_out r (has X l) (one (reaction 0 0 0)) h in
    let e = one_out r (reaction 0 0 0) k in rule.resume u (ap emitted_of e) (ap code_of_reaction e) (ap reached_of e)
listed_out (gotopause l) start E r (inl e) = rule.goto (ap emitted_of e) (ap code_of_reaction e) (ap reached_of e)
listed_out (gotopause l) (resumed X) E r h = absurd h
listed_out (emit S) start E r h =
    let (u, k) = only_if_out r (has E S) (one (reaction (only S) 0 0)) h in
    let e = one_out r (reaction (only S) 0 0) k in rule.emit u (ap emitted_of e) (ap code_of_reaction e) (ap reached_of e)
listed_out (emit S) (resumed X) E r h = absurd h
listed_out (exit d) start E r (inl e) = rule.exit (ap emitted_of e) (ap code_of_reaction e) (ap reached_of e)
listed_out (exit d) (resumed X) E r h = absurd h
listed_out (signal S p) x E r h =
    go (λ t m. listed_out p x (E union only S) t m) (λ m. listed_out p x (E without S) r m)
    (append_cases r (hide S (list p x (E union only S))) (list p x (E without S)) (sorted_out r (hide S (list p x (E union only S)) ++ list p x (E without S)) h))
  where
    go : ((t : Reaction) → Listed t (list p x (E union only S)) → Of p x (E union only S) t) → (Listed r (list p x (E without S)) → Of p x (E without S) r)
        → Listed r (hide S (list p x (E union only S))) ⊎ Listed r (list p x (E without S)) → Of (signal S p) x E r
    go f g (inl k) =
        let (t, m, u, e) = hide_out S (list p x (E union only S)) r k in
        rule.signal+ t.emitted (recast refl (ap code_of_reaction e) (ap reached_of e) (f t m)) u (ap emitted_of e)
    go f g (inr k) = rule.signal- (g k)
listed_out (present S p q) start E r h =
    by_cond (λ z. Listed r z → Of (present S p q) start E r) (has E S) (list p start E) (list q start E)
    (λ e m. rule.present e (listed_out p start E r m)) (λ e m. rule.absent e (listed_out q start E r m)) h
listed_out (present S p q) (resumed X) E r h =
    split r (list p (resumed X) E) (list q (resumed X) E) (sorted_out r (list p (resumed X) E ++ list q (resumed X) E) h)
    (λ m. rule.present_left (listed_out p (resumed X) E r m)) (λ m. rule.present_right (listed_out q (resumed X) E r m))
listed_out (sequence p q) start E r h =
    seq_of p q start E (list p start E) (list q start E) (λ t m. listed_out p start E t m) (λ t m. listed_out q start E t m) r
    (follow_out (list p start E) (list q start E) r (sorted_out r (follow (list p start E) (list q start E)) h))
listed_out (sequence p q) (resumed X) E r h =
    split r (follow (list p (resumed X) E) (list q start E)) (list q (resumed X) E) (sorted_out r (follow (list p (resumed X) E) (list q start E) ++ list q (resumed X) E) h)
    (λ k. seq_of p q (resumed X) E (list p (resumed X) E) (list q start E) (λ t m. listed_out p (resumed X) E t m) (λ t m. listed_out q start E t m) r
    (follow_out (list p (resumed X) E) (list q start E) r k))
    (λ k. rule.seq_right (listed_out q (resumed X) E r k))
listed_out (parallel p q) start E r h =
    par_of p q start E (list p start E) (list q start E) (λ t m. listed_out p start E t m) (λ t m. listed_out q start E t m) r
    (sorted_out r (together (list p start E) (list q start E)) h)
listed_out (parallel p q) (resumed X) E r h =
    let a = list p (resumed X) E in let b = list q (resumed X) E in
    split r (together a b) (only_if (eqb (X intersect pauses q) 0) a ++ only_if (eqb (X intersect pauses p) 0) b)
    (sorted_out r (together a b ++ (only_if (eqb (X intersect pauses q) 0) a ++ only_if (eqb (X intersect pauses p) 0) b)) h)
    (λ k. par_of p q (resumed X) E a b (λ t m. listed_out p (resumed X) E t m) (λ t m. listed_out q (resumed X) E t m) r k)
    (λ k. split r (only_if (eqb (X intersect pauses q) 0) a) (only_if (eqb (X intersect pauses p) 0) b) k
    (λ m. let (e, n) = only_if_out r (eqb (X intersect pauses q) 0) a m in rule.par_left (listed_out p (resumed X) E r n) (test_apart X (pauses q) e))
    (λ m. let (e, n) = only_if_out r (eqb (X intersect pauses p) 0) b m in rule.par_right (listed_out q (resumed X) E r n) (test_apart X (pauses p) e)))
listed_out (loop p) start E r h =
    let (m, n) = going_out (list p start E) r (sorted_out r (going (list p start E)) h) in rule.no_loop (listed_out p start E r m) n
listed_out (loop p) (resumed X) E r h =
    let (m, n) = going_out (follow (list p (resumed X) E) (list p start E)) r (sorted_out r (going (follow (list p (resumed X) E) (list p start E))) h) in
    loop_of p X E (list p (resumed X) E) (list p start E) (λ t m. listed_out p (resumed X) E t m) (λ t m. listed_out p start E t m) r n
    (follow_out (list p (resumed X) E) (list p start E) r m)
listed_out (try p) x E r h =
    let (t, m, e) = caught_out (list p x E) r (sorted_out r (caught (list p x E)) h) in
    rule.try t.code (recast (ap emitted_of e) refl (ap reached_of e) (listed_out p x E t m)) (ap code_of_reaction e)
listed_out nothing start E r (inr x5) = elim x5 [ ]
listed_out (pause l) start E r (inr x6) = elim x6 [ ]
listed_out (gotopause l) start E r (inr x7) = elim x7 [ ]
listed_out (exit d) start E r (inr x8) = elim x8 [ ]

pub listed_in : (p : Statement) (x : State) {E O k L : ℕ} → Derives p x E O k L → Listed (reaction O k L) (list p x E)
unfolding list
listed_in nothing start {E} {O} {k} {L} (rule.nothing a b c) = inl (same_reaction (reaction O k L) (reaction 0 0 0) a b c)
listed_in (pause l) start {E} {O} {k} {L} (rule.pause a b c) = inl (same_reaction (reaction O k L) (reaction 0 1 (only l)) a b c)
listed_in (pause l) (resumed X) {E} {O} {k} {L} (rule.resume h a b c) =
    only_if_in (reaction O k L) (has X l) (one (reaction 0 0 0)) h (inl (same_reaction (reaction O k L) (reaction 0 0 0) a b c))
listed_in (gotopause l) start {E} {O} {k} {L} (rule.goto a b c) = inl (same_reaction (reaction O k L) (reaction 0 1 (only l)) a b c)
listed_in (emit S) start {E} {O} {k} {L} (rule.emit h a b c) =
    only_if_in (reaction O k L) (has E S) (one (reaction (only S) 0 0)) h (inl (same_reaction (reaction O k L) (reaction (only S) 0 0) a b c))
listed_in (exit d) start {E} {O} {k} {L} (rule.exit a b c) = inl (same_reaction (reaction O k L) (reaction 0 (code_of d) 0) a b c)
listed_in (signal S p) x {E} {O} {k} {L} (rule.signal+ O₁ r h e) =
    sorted_in (reaction O k L) (hide S (list p x (E union only S)) ++ list p x (E without S))
    (append_left (reaction O k L) (hide S (list p x (E union only S))) (list p x (E without S))
    (subst (λ (z : ℕ). Listed (reaction z k L) (hide S (list p x (E union only S)))) (sym e)
    (hide_in S (list p x (E union only S)) (reaction O₁ k L) (listed_in p x r) h)))
listed_in (signal S p) x {E} {O} {k} {L} (rule.signal- r) =
    sorted_in (reaction O k L) (hide S (list p x (E union only S)) ++ list p x (E without S))
    (append_right (reaction O k L) (hide S (list p x (E union only S))) (list p x (E without S)) (listed_in p x r))
listed_in (present S p q) start {E} {O} {k} {L} (rule.present h r) = rw h (listed_in p start r)
listed_in (present S p q) start {E} {O} {k} {L} (rule.absent h r) = rw h (listed_in q start r)
listed_in (present S p q) (resumed X) {E} {O} {k} {L} (rule.present_left r) =
    sorted_in (reaction O k L) (list p (resumed X) E ++ list q (resumed X) E) (append_left (reaction O k L) (list p (resumed X) E) (list q (resumed X) E) (listed_in p (resumed X) r))
listed_in (present S p q) (resumed X) {E} {O} {k} {L} (rule.present_right r) =
    sorted_in (reaction O k L) (list p (resumed X) E ++ list q (resumed X) E) (append_right (reaction O k L) (list p (resumed X) E) (list q (resumed X) E) (listed_in q (resumed X) r))
listed_in (sequence p q) start {E} {O} {k} {L} (rule.seq_left r h) =
    sorted_in (reaction O k L) (follow (list p start E) (list q start E)) (follow_left (list p start E) (list q start E) (reaction O k L) (listed_in p start r) h)
listed_in (sequence p q) start {E} {O} {k} {L} (rule.seq O₁ O₂ a b e) =
    sorted_in (reaction O k L) (follow (list p start E) (list q start E))
    (subst (λ (z : ℕ). Listed (reaction z k L) (follow (list p start E) (list q start E))) (sym e)
    (follow_right (list p start E) (list q start E) (reaction O₁ 0 0) (reaction O₂ k L) (listed_in p start a) refl (listed_in q start b)))
listed_in (sequence p q) (resumed X) {E} {O} {k} {L} (rule.seq_left r h) =
    sorted_in (reaction O k L) (follow (list p (resumed X) E) (list q start E) ++ list q (resumed X) E)
    (append_left (reaction O k L) (follow (list p (resumed X) E) (list q start E)) (list q (resumed X) E)
    (follow_left (list p (resumed X) E) (list q start E) (reaction O k L) (listed_in p (resumed X) r) h))
listed_in (sequence p q) (resumed X) {E} {O} {k} {L} (rule.seq O₁ O₂ a b e) =
    sorted_in (reaction O k L) (follow (list p (resumed X) E) (list q start E) ++ list q (resumed X) E)
    (append_left (reaction O k L) (follow (list p (resumed X) E) (list q start E)) (list q (resumed X) E)
    (subst (λ (z : ℕ). Listed (reaction z k L) (follow (list p (resumed X) E) (list q start E))) (sym e)
    (follow_right (list p (resumed X) E) (list q start E) (reaction O₁ 0 0) (reaction O₂ k L) (listed_in p (resumed X) a) refl (listed_in q start b))))
listed_in (sequence p q) (resumed X) {E} {O} {k} {L} (rule.seq_right r) =
    sorted_in (reaction O k L) (follow (list p (resumed X) E) (list q start E) ++ list q (resumed X) E)
    (append_right (reaction O k L) (follow (list p (resumed X) E) (list q start E)) (list q (resumed X) E) (listed_in q (resumed X) r))
listed_in (parallel p q) start {E} {O} {k} {L} (rule.par O₁ k₁ L₁ O₂ k₂ L₂ a b e f g) =
    sorted_in (reaction O k L) (together (list p start E) (list q start E))
    (subst (λ z. Listed z (together (list p start E) (list q start E))) (sym (met O₁ k₁ L₁ O₂ k₂ L₂ O k L e f g))
    (together_in (list p start E) (list q start E) (reaction O₁ k₁ L₁) (reaction O₂ k₂ L₂) (listed_in p start a) (listed_in q start b)))
listed_in (parallel p q) (resumed X) {E} {O} {k} {L} (rule.par O₁ k₁ L₁ O₂ k₂ L₂ a b e f g) =
    let t = list p (resumed X) E in let u = list q (resumed X) E in
    sorted_in (reaction O k L) (together t u ++ (only_if (eqb (X intersect pauses q) 0) t ++ only_if (eqb (X intersect pauses p) 0) u))
    (append_left (reaction O k L) (together t u) (only_if (eqb (X intersect pauses q) 0) t ++ only_if (eqb (X intersect pauses p) 0) u)
    (subst (λ z. Listed z (together t u)) (sym (met O₁ k₁ L₁ O₂ k₂ L₂ O k L e f g))
    (together_in t u (reaction O₁ k₁ L₁) (reaction O₂ k₂ L₂) (listed_in p (resumed X) a) (listed_in q (resumed X) b))))
listed_in (parallel p q) (resumed X) {E} {O} {k} {L} (rule.par_left r h) =
    let t = list p (resumed X) E in let u = list q (resumed X) E in
    sorted_in (reaction O k L) (together t u ++ (only_if (eqb (X intersect pauses q) 0) t ++ only_if (eqb (X intersect pauses p) 0) u))
    (append_right (reaction O k L) (together t u) (only_if (eqb (X intersect pauses q) 0) t ++ only_if (eqb (X intersect pauses p) 0) u)
    (append_left (reaction O k L) (only_if (eqb (X intersect pauses q) 0) t) (only_if (eqb (X intersect pauses p) 0) u)
    (only_if_in (reaction O k L) (eqb (X intersect pauses q) 0) t (apart_test X (pauses q) h) (listed_in p (resumed X) r))))
listed_in (parallel p q) (resumed X) {E} {O} {k} {L} (rule.par_right r h) =
    let t = list p (resumed X) E in let u = list q (resumed X) E in
    sorted_in (reaction O k L) (together t u ++ (only_if (eqb (X intersect pauses q) 0) t ++ only_if (eqb (X intersect pauses p) 0) u))
    (append_right (reaction O k L) (together t u) (only_if (eqb (X intersect pauses q) 0) t ++ only_if (eqb (X intersect pauses p) 0) u)
    (append_right (reaction O k L) (only_if (eqb (X intersect pauses q) 0) t) (only_if (eqb (X intersect pauses p) 0) u)
    (only_if_in (reaction O k L) (eqb (X intersect pauses p) 0) u (apart_test X (pauses p) h) (listed_in q (resumed X) r))))
listed_in (loop p) start {E} {O} {k} {L} (rule.no_loop r h) =
    sorted_in (reaction O k L) (going (list p start E)) (going_in (list p start E) (reaction O k L) (listed_in p start r) h)
listed_in (loop p) (resumed X) {E} {O} {k} {L} (rule.no_loop r h) =
    sorted_in (reaction O k L) (going (follow (list p (resumed X) E) (list p start E)))
    (going_in (follow (list p (resumed X) E) (list p start E)) (reaction O k L) (follow_left (list p (resumed X) E) (list p start E) (reaction O k L) (listed_in p (resumed X) r) h) h)
listed_in (loop p) (resumed X) {E} {O} {k} {L} (rule.loop O₁ O₂ a b h e) =
    sorted_in (reaction O k L) (going (follow (list p (resumed X) E) (list p start E)))
    (going_in (follow (list p (resumed X) E) (list p start E)) (reaction O k L)
    (subst (λ (z : ℕ). Listed (reaction z k L) (follow (list p (resumed X) E) (list p start E))) (sym e)
    (follow_right (list p (resumed X) E) (list p start E) (reaction O₁ 0 0) (reaction O₂ k L) (listed_in p (resumed X) a) refl (listed_in p start b))) h)
listed_in (try p) x {E} {O} {k} {L} (rule.try k₁ r e) =
    sorted_in (reaction O k L) (caught (list p x E))
    (subst (λ (z : ℕ). Listed (reaction O z L) (caught (list p x E))) (sym e) (caught_in (list p x E) (reaction O k₁ L) (listed_in p x r)))
listed_in nothing (resumed X) {E = E} {O = O} {k = k} {L = L} x4 = elim x4 [ ]
listed_in (gotopause l) (resumed X) {E = E} {O = O} {k = k} {L = L} x5 = elim x5 [ ]
listed_in (emit S) (resumed X) {E = E} {O = O} {k = k} {L = L} x6 = elim x6 [ ]
listed_in (exit d) (resumed X) {E = E} {O = O} {k = k} {L = L} x7 = elim x7 [ ]

pub list_rising : (p : Statement) (x : State) (E : ℕ) → Rising (list p x E)
unfolding list
list_rising nothing start E = (λ u h. absurd h, tt)
list_rising nothing (resumed X) E = tt
list_rising (pause l) start E = (λ u h. absurd h, tt)
list_rising (pause l) (resumed X) E = by_cond Rising (has X l) (one (reaction 0 0 0)) [] (λ e. (λ u h. absurd h, tt)) (λ e. tt)
list_rising (gotopause l) start E = (λ u h. absurd h, tt)
list_rising (gotopause l) (resumed X) E = tt
list_rising (emit S) start E = by_cond Rising (has E S) (one (reaction (only S) 0 0)) [] (λ e. (λ u h. absurd h, tt)) (λ e. tt)
list_rising (emit S) (resumed X) E = tt
list_rising (exit d) start E = (λ u h. absurd h, tt)
list_rising (exit d) (resumed X) E = tt
list_rising (signal S p) x E = sorted_rising (hide S (list p x (E union only S)) ++ list p x (E without S))
list_rising (present S p q) start E = by_cond Rising (has E S) (list p start E) (list q start E) (λ e. list_rising p start E) (λ e. list_rising q start E)
list_rising (present S p q) (resumed X) E = sorted_rising (list p (resumed X) E ++ list q (resumed X) E)
list_rising (sequence p q) start E = sorted_rising (follow (list p start E) (list q start E))
list_rising (sequence p q) (resumed X) E = sorted_rising (follow (list p (resumed X) E) (list q start E) ++ list q (resumed X) E)
list_rising (parallel p q) start E = sorted_rising (together (list p start E) (list q start E))
list_rising (parallel p q) (resumed X) E =
    let a = list p (resumed X) E in let b = list q (resumed X) E in
    sorted_rising (together a b ++ (only_if (eqb (X intersect pauses q) 0) a ++ only_if (eqb (X intersect pauses p) 0) b))
list_rising (loop p) start E = sorted_rising (going (list p start E))
list_rising (loop p) (resumed X) E = sorted_rising (going (follow (list p (resumed X) E) (list p start E)))
list_rising (try p) x E = sorted_rising (caught (list p x E))

-- ---- the listing is the rising list of the reactions, and the only one

pub list_is_listing : (p : Statement) (x : State) (E : ℕ) → IsListing p x E (list p x E)
unfolding Reacts
list_is_listing p x E = record { rising = list_rising p x E; members = λ r. (listed_out p x E r, λ h. listed_in p x h) }

pub listing_unique : (p : Statement) (x : State) (E : ℕ) (ts : List Reaction) → IsListing p x E ts → ts ≡ list p x E
listing_unique p x E ts l =
    let m = list_is_listing p x E in
    same_list ts (list p x E) l.rising m.rising (λ r h. (m.members r).1 ((l.members r).0 h)) (λ r h. (l.members r).1 ((m.members r).0 h))

-- statements with the same reactions in a state have the same listing of it
pub same_listing : (p q : Statement) (x : State) (E : ℕ) → ((r : Reaction) → Reacts p x E r ↔ Reacts q x E r) → list p x E ≡ list q x E
same_listing p q x E f =
    let l = list_is_listing p x E in
    listing_unique q x E (list p x E) (record {
      rising = l.rising;
      members = λ r. (λ h. (f r).0 ((l.members r).0 h), λ h. (l.members r).1 ((f r).1 h));
    })
