-- Lists of reactions: what stands in a list, the order, sorting, and that a rising list is determined by its members.
use mathlib.Core.Path.{◌≡◌, refl, sym, ap₂, ◌∙◌, subst}
use mathlib.Core.Logic.{◌⊎◌, inl, inr}
use mathlib.Core.Bool.{Bool, true, false, ◌&&◌, ◌||◌, cond}
use mathlib.Core.List.{List, [], ◌∷◌, ◌++◌}
use Prim.Native.Nat.{ℕ, suc, ◌≤◌, ◌<◌}
use lib.ListN.{length}
use native.Mathlib.Decide.{dec_le, ℕ_discrete}
use native.Mathlib.Omega.{arith}
use lib.Dec.{eqb, ltb}
use borrow.Author.Tests.{ltb-true, lt-ltb}
use Rattle.sets.proofs.Booleans.{or_left, or_right, or_cases, and_cases, clash, by_cond, eqb_equal, eqb_same}
use Rattle.esterel.specs.Reactions.{Reaction}
use Rattle.esterel.specs.Listing.{Listed, Before, Rising, before, insert, sorted, one, only_if, each}

-- ---- members of lists
pub append_left : {A : Type 0} (r : A) (ts us : List A) → Listed r ts → Listed r (ts ++ us)
append_left r (t ∷ ts) us (inl e) = inl e
append_left r (t ∷ ts) us (inr h) = inr (append_left r ts us h)
append_left {A = A} r [] us x' = elim x' [ ]

pub append_right : {A : Type 0} (r : A) (ts us : List A) → Listed r us → Listed r (ts ++ us)
append_right r [] us h = h
append_right r (t ∷ ts) us h = inr (append_right r ts us h)

pub append_cases : {A : Type 0} (r : A) (ts us : List A) → Listed r (ts ++ us) → Listed r ts ⊎ Listed r us
append_cases r [] us h = inr h
append_cases r (t ∷ ts) us (inl e) = inl (inl e)
append_cases r (t ∷ ts) us (inr h) = go (append_cases r ts us h)
  where
    go : Listed r ts ⊎ Listed r us → Listed r (t ∷ ts) ⊎ Listed r us
    go (inl k) = inl (inr k)
    go (inr k) = inr k

pub each_in : (r t : Reaction) (ts : List Reaction) (f : Reaction → List Reaction) → Listed t ts → Listed r (f t) → Listed r (each ts f)
unfolding each
each_in r t (u ∷ us) f (inl e) h = append_left r (f u) (each us f) (rw e at h)
each_in r t (u ∷ us) f (inr k) h = append_right r (f u) (each us f) (each_in r t us f k h)
each_in r t [] f x'' h = elim x'' [ ]

pub each_out : (r : Reaction) (ts : List Reaction) (f : Reaction → List Reaction) → Listed r (each ts f) → (t : Reaction) × Listed t ts × Listed r (f t)
unfolding each
each_out r (u ∷ us) f h = go (λ k. each_out r us f k) (append_cases r (f u) (each us f) h)
  where
    go : (Listed r (each us f) → (t : Reaction) × Listed t us × Listed r (f t)) → Listed r (f u) ⊎ Listed r (each us f) → (t : Reaction) × Listed t (u ∷ us) × Listed r (f t)
    go ih (inl k) = (u, inl refl, k)
    go ih (inr k) = let (t, m, n) = ih k in (t, inr m, n)
each_out r [] f h = elim h [ ]

pub only_if_in : (r : Reaction) (b : Bool) (ts : List Reaction) → b ≡ true → Listed r ts → Listed r (only_if b ts)
only_if_in r true ts e h = h
only_if_in r false ts e h = clash e refl

pub only_if_out : (r : Reaction) (b : Bool) (ts : List Reaction) → Listed r (only_if b ts) → (b ≡ true) × Listed r ts
only_if_out r true ts h = (refl, h)
only_if_out r false ts h = absurd h

pub one_out : (r t : Reaction) → Listed r (one t) → r ≡ t
one_out r t (inl e) = e
one_out r t (inr x') = elim x' [ ]

-- ---- the order
pub before_yes : (r t : Reaction) → before r t ≡ true → Before r t
unfolding before
before_yes r t h = go (or_cases (ltb r.emitted t.emitted) (eqb r.emitted t.emitted && (ltb r.code t.code || (eqb r.code t.code && ltb r.reached t.reached))) h)
  where
    second : (ltb r.code t.code ≡ true) ⊎ ((eqb r.code t.code && ltb r.reached t.reached) ≡ true) → (r.code < t.code) ⊎ ((r.code ≡ t.code) × (r.reached < t.reached))
    second (inl e) = inl (ltb-true r.code t.code e)
    second (inr e) = let u = and_cases (eqb r.code t.code) (ltb r.reached t.reached) e in inr (eqb_equal r.code t.code u.0, ltb-true r.reached t.reached u.1)

    go : (ltb r.emitted t.emitted ≡ true) ⊎ ((eqb r.emitted t.emitted && (ltb r.code t.code || (eqb r.code t.code && ltb r.reached t.reached))) ≡ true) → Before r t
    go (inl e) = inl (ltb-true r.emitted t.emitted e)
    go (inr e) =
        let u = and_cases (eqb r.emitted t.emitted) (ltb r.code t.code || (eqb r.code t.code && ltb r.reached t.reached)) e in
        inr (eqb_equal r.emitted t.emitted u.0, second (or_cases (ltb r.code t.code) (eqb r.code t.code && ltb r.reached t.reached) u.1))

pub before_is : (r t : Reaction) → Before r t → before r t ≡ true
unfolding before
before_is r t (inl h) = or_left _ (lt-ltb r.emitted t.emitted h)
before_is r t (inr h) = or_right (ltb r.emitted t.emitted) (rw (h.0, eqb_same t.emitted) (go h.1))
  where
    go : (r.code < t.code) ⊎ ((r.code ≡ t.code) × (r.reached < t.reached)) → (ltb r.code t.code || (eqb r.code t.code && ltb r.reached t.reached)) ≡ true
    go (inl k) = or_left _ (lt-ltb r.code t.code k)
    go (inr k) = or_right (ltb r.code t.code) (rw (k.0, eqb_same t.code) (lt-ltb r.reached t.reached k.1))

not_before : (r t : Reaction) → before r t ≡ false → Before r t → ⊥
not_before r t e h = clash (before_is r t h) e

pub same_reaction : (r t : Reaction) → r.emitted ≡ t.emitted → r.code ≡ t.code → r.reached ≡ t.reached → r ≡ t
same_reaction r t a b c = λ i. record { emitted = a i; code = b i; reached = c i }

either : (m n : ℕ) → (m ≡ n) ⊎ ((m < n) ⊎ (n < m))
either m n = go (ℕ_discrete m n) (dec_le m n)
  where
    go : Dec (m ≡ n) → Dec (m ≤ n) → (m ≡ n) ⊎ ((m < n) ⊎ (n < m))
    go (yes e) l = inl e
    go (no h) (yes l) = inr (inl (omega arith))
    go (no h) (no l) = inr (inr (omega arith))

pub neither : (r t : Reaction) → (Before r t → ⊥) → (Before t r → ⊥) → r ≡ t
neither r t f g = go (either r.emitted t.emitted) (either r.code t.code) (either r.reached t.reached)
  where
    go : ((r.emitted ≡ t.emitted) ⊎ ((r.emitted < t.emitted) ⊎ (t.emitted < r.emitted)))
        → ((r.code ≡ t.code) ⊎ ((r.code < t.code) ⊎ (t.code < r.code)))
        → ((r.reached ≡ t.reached) ⊎ ((r.reached < t.reached) ⊎ (t.reached < r.reached))) → r ≡ t
    go (inl a) (inl b) (inl c) = same_reaction r t a b c
    go (inl a) (inl b) (inr (inl c)) = absurd (f (inr (a, inr (b, c))))
    go (inl a) (inl b) (inr (inr c)) = absurd (g (inr (sym a, inr (sym b, c))))
    go (inl a) (inr (inl b)) c = absurd (f (inr (a, inl b)))
    go (inl a) (inr (inr b)) c = absurd (g (inr (sym a, inl b)))
    go (inr (inl a)) b c = absurd (f (inl a))
    go (inr (inr a)) b c = absurd (g (inl a))

pub before_trans : (r t u : Reaction) → Before r t → Before t u → Before r u
before_trans r t u (inl a) (inl b) = inl (omega arith)
before_trans r t u (inl a) (inr b) = inl (let h = b.0 in omega arith)
before_trans r t u (inr a) (inl b) = inl (let h = a.0 in omega arith)
before_trans r t u (inr a) (inr b) = inr (a.0 ∙ b.0, go a.1 b.1)
  where
    go : (r.code < t.code) ⊎ ((r.code ≡ t.code) × (r.reached < t.reached)) → (t.code < u.code) ⊎ ((t.code ≡ u.code) × (t.reached < u.reached))
        → (r.code < u.code) ⊎ ((r.code ≡ u.code) × (r.reached < u.reached))
    go (inl c) (inl e) = inl (omega arith)
    go (inl c) (inr e) = inl (let h = e.0 in omega arith)
    go (inr c) (inl e) = inl (let h = c.0 in omega arith)
    go (inr c) (inr e) = inr (c.0 ∙ e.0, (let h = c.1 in let k = e.1 in omega arith))

pub before_self : (r : Reaction) → Before r r → ⊥
before_self r (inl h) = omega arith
before_self r (inr (a)) = go a.1
  where
    go : (r.code < r.code) ⊎ ((r.code ≡ r.code) × (r.reached < r.reached)) → ⊥
    go (inl h) = omega arith
    go (inr h) = let k = h.1 in omega arith

pub insert_out : (u r : Reaction) (ts : List Reaction) → Listed u (insert r ts) → (u ≡ r) ⊎ Listed u ts
unfolding insert
insert_out u r [] (inl e) = inl e
insert_out u r [] (inr x'') = elim x'' [ ]
insert_out u r (t ∷ ts) m =
    by_cond (λ z. Listed u z → (u ≡ r) ⊎ Listed u (t ∷ ts)) (before r t) (r ∷ t ∷ ts) (cond (before t r) (t ∷ insert r ts) (t ∷ ts))
    (λ e h. first h)
    (λ e. by_cond (λ z. Listed u z → (u ≡ r) ⊎ Listed u (t ∷ ts)) (before t r) (t ∷ insert r ts) (t ∷ ts)
    (λ f h. second (λ k. insert_out u r ts k) h) (λ f h. inr h)) m
  where
    first : Listed u (r ∷ t ∷ ts) → (u ≡ r) ⊎ Listed u (t ∷ ts)
    first (inl e) = inl e
    first (inr h) = inr h

    third : (u ≡ r) ⊎ Listed u ts → (u ≡ r) ⊎ Listed u (t ∷ ts)
    third (inl e) = inl e
    third (inr h) = inr (inr h)

    second : (Listed u (insert r ts) → (u ≡ r) ⊎ Listed u ts) → Listed u (t ∷ insert r ts) → (u ≡ r) ⊎ Listed u (t ∷ ts)
    second ih (inl e) = inr (inl e)
    second ih (inr h) = third (ih h)

pub insert_new : (r : Reaction) (ts : List Reaction) → Listed r (insert r ts)
unfolding insert
insert_new r [] = inl refl
insert_new r (t ∷ ts) =
    by_cond (Listed r) (before r t) (r ∷ t ∷ ts) (cond (before t r) (t ∷ insert r ts) (t ∷ ts))
    (λ e. inl refl)
    (λ e. by_cond (Listed r) (before t r) (t ∷ insert r ts) (t ∷ ts) (λ f. inr (insert_new r ts)) (λ f. inl (neither r t (not_before r t e) (not_before t r f))))

pub insert_old : (u r : Reaction) (ts : List Reaction) → Listed u ts → Listed u (insert r ts)
unfolding insert
insert_old u r (t ∷ ts) h =
    by_cond (Listed u) (before r t) (r ∷ t ∷ ts) (cond (before t r) (t ∷ insert r ts) (t ∷ ts))
    (λ e. inr h)
    (λ e. by_cond (Listed u) (before t r) (t ∷ insert r ts) (t ∷ ts) (λ f. go (λ k. insert_old u r ts k) h) (λ f. h))
  where
    go : (Listed u ts → Listed u (insert r ts)) → Listed u (t ∷ ts) → Listed u (t ∷ insert r ts)
    go ih (inl e) = inl e
    go ih (inr k) = inr (ih k)
insert_old u r [] h = elim h [ ]

pub insert_rising : (r : Reaction) (ts : List Reaction) → Rising ts → Rising (insert r ts)
unfolding insert
insert_rising r [] h = (λ u m. absurd m, tt)
insert_rising r (t ∷ ts) h =
    by_cond Rising (before r t) (r ∷ t ∷ ts) (cond (before t r) (t ∷ insert r ts) (t ∷ ts))
    (λ e. (λ u m. first (before_yes r t e) u m, h))
    (λ e. by_cond Rising (before t r) (t ∷ insert r ts) (t ∷ ts)
    (λ f. (λ u m. second (before_yes t r f) u (insert_out u r ts m), insert_rising r ts h.1)) (λ f. h))
  where
    first : Before r t → (u : Reaction) → Listed u (t ∷ ts) → Before r u
    first b u (inl e) = rw e b
    first b u (inr m) = before_trans r t u b (h.0 u m)

    second : Before t r → (u : Reaction) → (u ≡ r) ⊎ Listed u ts → Before t u
    second b u (inl e) = rw e b
    second b u (inr m) = h.0 u m

pub sorted_out : (u : Reaction) (ts : List Reaction) → Listed u (sorted ts) → Listed u ts
unfolding sorted
sorted_out u [] h = h
sorted_out u (t ∷ ts) h = go (λ k. sorted_out u ts k) (insert_out u t (sorted ts) h)
  where
    go : (Listed u (sorted ts) → Listed u ts) → (u ≡ t) ⊎ Listed u (sorted ts) → Listed u (t ∷ ts)
    go ih (inl e) = inl e
    go ih (inr k) = inr (ih k)

pub sorted_in : (u : Reaction) (ts : List Reaction) → Listed u ts → Listed u (sorted ts)
unfolding sorted
sorted_in u (t ∷ ts) (inl e) = rw e (insert_new t (sorted ts))
sorted_in u (t ∷ ts) (inr h) = insert_old u t (sorted ts) (sorted_in u ts h)
sorted_in u [] x' = elim x' [ ]

pub sorted_rising : (ts : List Reaction) → Rising (sorted ts)
unfolding sorted
sorted_rising [] = tt
sorted_rising (t ∷ ts) = insert_rising t (sorted ts) (sorted_rising ts)

-- two rising lists with the same members are the same
pub same_list : (ts us : List Reaction) → Rising ts → Rising us → ((r : Reaction) → Listed r ts → Listed r us) → ((r : Reaction) → Listed r us → Listed r ts) → ts ≡ us
same_list [] [] a b f g = refl
same_list [] (u ∷ us) a b f g = absurd (g u (inl refl))
same_list (t ∷ ts) [] a b f g = absurd (f t (inl refl))
same_list (t ∷ ts) (u ∷ us) a b f g =
    ap₂ ◌∷◌ head (same_list ts us a.1 b.1 (λ r m. tail_l r m (f r (inr m))) (λ r m. tail_r r m (g r (inr m))))
  where
    heads : Listed t (u ∷ us) → Listed u (t ∷ ts) → t ≡ u
    heads (inl e) k = e
    heads (inr m) (inl e) = sym e
    heads (inr m) (inr n) = absurd (before_self t (before_trans t u t (a.0 u n) (b.0 t m)))

    head : t ≡ u
    head = heads (f t (inl refl)) (g u (inl refl))

    tail_l : (r : Reaction) → Listed r ts → Listed r (u ∷ us) → Listed r us
    tail_l r m (inl e) = absurd (before_self r (subst (λ z. Before z r) (head ∙ sym e) (a.0 r m)))
    tail_l r m (inr k) = k

    tail_r : (r : Reaction) → Listed r us → Listed r (t ∷ ts) → Listed r ts
    tail_r r m (inl e) = absurd (before_self r (subst (λ z. Before z r) (sym head ∙ sym e) (b.0 r m)))
    tail_r r m (inr k) = k

-- sorting forgets how a list stood
pub sorted_same : (ts us : List Reaction) → ((r : Reaction) → Listed r ts → Listed r us) → ((r : Reaction) → Listed r us → Listed r ts) → sorted ts ≡ sorted us
sorted_same ts us f g =
    same_list (sorted ts) (sorted us) (sorted_rising ts) (sorted_rising us)
    (λ r m. sorted_in r us (f r (sorted_out r ts m))) (λ r m. sorted_in r ts (g r (sorted_out r us m)))

pub sorted_of_rising : (ts : List Reaction) → Rising ts → sorted ts ≡ ts
sorted_of_rising ts h = same_list (sorted ts) ts (sorted_rising ts) h (λ r m. sorted_out r ts m) (λ r m. sorted_in r ts m)

-- a rising list whose members are all in another is no longer than that
pub rising_shorter : (us ts : List Reaction) → Rising ts → Rising us → ((r : Reaction) → Listed r ts → Listed r us) → length ts ≤ length us
rising_shorter us [] a b f = omega arith
rising_shorter [] (t ∷ ts) a b f = absurd (f t (inl refl))
rising_shorter (u ∷ us) (t ∷ ts) a b f =
    go (λ g. rising_shorter us ts a.1 b.1 g) (λ g. rising_shorter us (t ∷ ts) a b.1 g) (f t (inl refl))
  where
    past : (r : Reaction) → Before u r → Listed r (u ∷ us) → Listed r us
    past r h (inl e) = absurd (before_self r (subst (λ z. Before z r) (sym e) h))
    past r h (inr m) = m

    go : (((r : Reaction) → Listed r ts → Listed r us) → length ts ≤ length us)
        → (((r : Reaction) → Listed r (t ∷ ts) → Listed r us) → suc (length ts) ≤ length us)
        → (t ≡ u) ⊎ Listed t us → suc (length ts) ≤ suc (length us)
    go same later (inl e) = let i = same (λ r m. past r (subst (λ z. Before z r) e (a.0 r m)) (f r (inr m))) in omega arith
    go same later (inr n) = let i = later all in omega arith
      where
        all : (r : Reaction) → Listed r (t ∷ ts) → Listed r us
        all r (inl e) = subst (λ z. Listed z us) (sym e) n
        all r (inr m) = past r (before_trans u t r (b.0 t n) (a.0 r m)) (f r (inr m))
