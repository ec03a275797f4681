-- The rows of a statement, made once for a set of unknown signals, give its listing under every set that differs in these
-- signals only. All that follows is of any rows that do so: each row is a reaction under some such set, and with no signal
-- unknown the rows are the listing.
use mathlib.Core.Path.{◌≡◌, refl, sym, ap, ap₂, ◌∙◌, subst}
use mathlib.Core.Logic.{◌↔◌, inl, inr}
use mathlib.Core.Bool.{Bool, true, false, not, ◌&&◌, ◌||◌}
use mathlib.Core.List.{List, [], ◌∷◌, ◌++◌}
use Prim.Native.Nat.{ℕ, ◌^◌, ◌<◌}
use native.Mathlib.Decide.{ℕ_discrete}
use native.Mathlib.Omega.{arith}
use lib.Dec.{eqb}
use Rattle.sets.specs.Set.{has, only, ◌union◌, ◌intersect◌, ◌minus◌, ◌without◌, Within}
use Rattle.sets.proofs.Booleans.{not_true, clash, by_cond}
use Rattle.sets.proofs.Members.{has_union, has_intersect, has_minus, has_only, has_only_equal, has_below, within_ext, fits, apart_sym, union_within_both, either, in_left, in_right}
use Rattle.esterel.specs.Statement.{Statement, nothing, pause, gotopause, emit, exit, signal, present, sequence, parallel, loop, try, pauses}
use Rattle.esterel.specs.Reactions.{State, start, resumed, Reaction, Reacts}
use Rattle.esterel.specs.Listing.{Listed, Before, Rising, sorted, one, only_if, hide, list}
use Rattle.esterel.specs.inner.Conditions.{slot_of, seen, always, holds}
use Rattle.esterel.specs.inner.Rows.{Row, under, reactions, local_rows, hide_rows, rows_of, Agree, Gives}
use Rattle.esterel.proofs.Unnamed.{SameBut}
use Rattle.esterel.proofs.Emitting.{emitted_assumed}
use Rattle.esterel.proofs.Order.{sorted_in, sorted_out, sorted_rising, same_list}
use Rattle.esterel.proofs.Listing.{list_rising, list_is_listing}
use Rattle.esterel.proofs.Conditions.{holds_is, added, removed}
use Rattle.esterel.proofs.Slots.{below, seen_slot, has_seen, seen_empty, seen_but, seen_fits, those, has_those}
use Rattle.esterel.proofs.Proper.{All, none, more, all_append, all_cond, all_out, Proper, within_none, silent, proper_emit, proper_asked, proper_local, proper_hide, proper_follow, proper_together, proper_going, proper_caught}
use Rattle.esterel.proofs.RowOrder.{LessOr, BeforeRow, RisingRows}
use Rattle.esterel.proofs.Rows.{Lists, lists_none, lists_sure, lists_cond, lists_append, lists_asked, lists_emit, lists_hide, lists_local, lists_sorted, lists_follow, lists_together, lists_going, lists_caught, under_in, under_out}

-- ---- rows of a statement

-- they list it, whatever the unknown signals are
pub record AreRows (M : ℕ) (p : Statement) (x : State) (E U : ℕ) (ws : List Row) : Type 0 where
  pub proper : All (Proper M U 0) ws
  pub lists : (F : ℕ) → Agree U E F → Lists (seen M F) ws (list p x F)

-- a declared signal of M is unknown inside
pub inside_too : (M U S : ℕ) → Within U M → has M S ≡ true → Within (U union only S) M
inside_too M U S v i = union_within_both U (only S) M v (λ x m. subst (λ (z : ℕ). has M z ≡ true) (has_only_equal S x m) i)

rows_proper : (M : ℕ) (p : Statement) (x : State) (E U : ℕ) → Within U M → All (Proper M U 0) (rows_of M p x E U)
unfolding rows_of
rows_proper M nothing start E U v = silent
rows_proper M nothing (resumed X) E U v = none
rows_proper M (pause l) start E U v = silent
rows_proper M (pause l) (resumed X) E U v = all_cond (has X l) silent none
rows_proper M (gotopause l) start E U v = silent
rows_proper M (gotopause l) (resumed X) E U v = none
rows_proper M (emit S) start E U v = proper_emit M S E U v
rows_proper M (emit S) (resumed X) E U v = none
rows_proper M (exit d) start E U v = silent
rows_proper M (exit d) (resumed X) E U v = none
rows_proper M (signal S p) x E U v =
    by_cond (All (Proper M U 0)) (has M S) (local_rows S (slot_of M S) (rows_of M p x E (U union only S)))
    (hide_rows S (rows_of M p x (E union only S) U) ++ rows_of M p x (E without S) U)
    (λ i. proper_local M S U v i (rows_proper M p x E (U union only S) (inside_too M U S v i)))
    (λ i. all_append (proper_hide S (rows_proper M p x (E union only S) U v)) (rows_proper M p x (E without S) U v))
rows_proper M (present S p q) start E U v = proper_asked M S E U v (rows_proper M p start E U v) (rows_proper M q start E U v)
rows_proper M (present S p q) (resumed X) E U v = all_append (rows_proper M p (resumed X) E U v) (rows_proper M q (resumed X) E U v)
rows_proper M (sequence p q) start E U v = proper_follow (rows_proper M p start E U v) (rows_proper M q start E U v)
rows_proper M (sequence p q) (resumed X) E U v = all_append (proper_follow (rows_proper M p (resumed X) E U v) (rows_proper M q start E U v)) (rows_proper M q (resumed X) E U v)
rows_proper M (parallel p q) start E U v = proper_together (rows_proper M p start E U v) (rows_proper M q start E U v)
rows_proper M (parallel p q) (resumed X) E U v =
    let h = rows_proper M p (resumed X) E U v in
    let k = rows_proper M q (resumed X) E U v in
    all_append (proper_together h k) (all_append (all_cond (eqb (X intersect pauses q) 0) h none) (all_cond (eqb (X intersect pauses p) 0) k none))
rows_proper M (loop p) start E U v = proper_going (rows_proper M p start E U v)
rows_proper M (loop p) (resumed X) E U v = proper_going (proper_follow (rows_proper M p (resumed X) E U v) (rows_proper M p start E U v))
rows_proper M (try p) x E U v = proper_caught (rows_proper M p x E U v)

-- a declared signal is unknown inside, so the sets with it and without it still differ in unknown signals only
pub agree_inside : (S U E F G : ℕ) → Agree U E F → SameBut S F G → Agree (U union only S) E G
agree_inside S U E F G a s x h = go (ℕ_discrete S x)
  where
    outer : has U x ≡ false
    outer = not_true (has U x) (λ k. clash (in_left U (only S) x k) h)

    go : Dec (S ≡ x) → has E x ≡ has G x
    go (yes e) = clash (subst (λ (z : ℕ). has (U union only S) z ≡ true) e (in_right U (only S) S (has_only S))) h
    go (no n) = a x outer ∙ s x n

-- a signal that is not made unknown is given to both
pub agree_with : (S U E F : ℕ) → Agree U E F → Agree U (E union only S) (F union only S)
agree_with S U E F a x h = has_union E (only S) x ∙ ap (λ b. b || has (only S) x) (a x h) ∙ sym (has_union F (only S) x)

pub agree_without : (S U E F : ℕ) → Agree U E F → Agree U (E without S) (F without S)
agree_without S U E F a x h = has_minus E (only S) x ∙ ap (λ b. b && not (has (only S) x)) (a x h) ∙ sym (has_minus F (only S) x)

lists_but : (M S F G : ℕ) {ws : List Row} {ts : List Reaction} → has M S ≡ false → SameBut S F G → Lists (seen M F) ws ts → Lists (seen M G) ws ts
lists_but M S F G {ws} {ts} i s l = subst (λ (z : ℕ). Lists z ws ts) (seen_but M S F G i s) l

rows_lists : (M : ℕ) (p : Statement) (x : State) (E U F : ℕ) → Within U M → Agree U E F → Lists (seen M F) (rows_of M p x E U) (list p x F)
unfolding rows_of list
rows_lists M nothing start E U F v a = lists_sure
rows_lists M nothing (resumed X) E U F v a = lists_none
rows_lists M (pause l) start E U F v a = lists_sure
rows_lists M (pause l) (resumed X) E U F v a = lists_cond (has X l) lists_sure lists_none
rows_lists M (gotopause l) start E U F v a = lists_sure
rows_lists M (gotopause l) (resumed X) E U F v a = lists_none
rows_lists M (emit S) start E U F v a = lists_emit M S E U F (v S) (a S)
rows_lists M (emit S) (resumed X) E U F v a = lists_none
rows_lists M (exit d) start E U F v a = lists_sure
rows_lists M (exit d) (resumed X) E U F v a = lists_none
rows_lists M (signal S p) x E U F v a =
    lists_sorted (by_cond (λ ws. Lists (seen M F) ws (hide S (list p x (F union only S)) ++ list p x (F without S))) (has M S)
    (local_rows S (slot_of M S) (rows_of M p x E (U union only S))) (hide_rows S (rows_of M p x (E union only S) U) ++ rows_of M p x (E without S) U)
    (λ i. lists_local M S (U union only S) F i (in_right U (only S) S (has_only S)) (rows_proper M p x E (U union only S) (inside_too M U S v i))
    (rows_lists M p x E (U union only S) (F union only S) (inside_too M U S v i) (agree_inside S U E F (F union only S) a (added S F)))
    (rows_lists M p x E (U union only S) (F without S) (inside_too M U S v i) (agree_inside S U E F (F without S) a (removed S F))))
    (λ i. lists_append
    (lists_hide S (lists_but M S (F union only S) F i (λ y n. sym (added S F y n)) (rows_lists M p x (E union only S) U (F union only S) v (agree_with S U E F a))))
    (lists_but M S (F without S) F i (λ y n. sym (removed S F y n)) (rows_lists M p x (E without S) U (F without S) v (agree_without S U E F a)))))
rows_lists M (present S p q) start E U F v a = lists_asked M S E U F (v S) (a S) (rows_lists M p start E U F v a) (rows_lists M q start E U F v a)
rows_lists M (present S p q) (resumed X) E U F v a = lists_sorted (lists_append (rows_lists M p (resumed X) E U F v a) (rows_lists M q (resumed X) E U F v a))
rows_lists M (sequence p q) start E U F v a = lists_sorted (lists_follow (rows_lists M p start E U F v a) (rows_lists M q start E U F v a))
rows_lists M (sequence p q) (resumed X) E U F v a =
    lists_sorted (lists_append (lists_follow (rows_lists M p (resumed X) E U F v a) (rows_lists M q start E U F v a)) (rows_lists M q (resumed X) E U F v a))
rows_lists M (parallel p q) start E U F v a = lists_sorted (lists_together (rows_lists M p start E U F v a) (rows_lists M q start E U F v a))
rows_lists M (parallel p q) (resumed X) E U F v a =
    let l = rows_lists M p (resumed X) E U F v a in
    let m = rows_lists M q (resumed X) E U F v a in
    lists_sorted (lists_append (lists_together l m)
    (lists_append (lists_cond (eqb (X intersect pauses q) 0) l lists_none) (lists_cond (eqb (X intersect pauses p) 0) m lists_none)))
rows_lists M (loop p) start E U F v a = lists_sorted (lists_going (rows_lists M p start E U F v a))
rows_lists M (loop p) (resumed X) E U F v a = lists_sorted (lists_going (lists_follow (rows_lists M p (resumed X) E U F v a) (rows_lists M p start E U F v a)))
rows_lists M (try p) x E U F v a = lists_sorted (lists_caught (rows_lists M p x E U F v a))

pub rows_are : (M : ℕ) (p : Statement) (x : State) (E U : ℕ) → Within U M → AreRows M p x E U (rows_of M p x E U)
rows_are M p x E U v = record { proper = rows_proper M p x E U v; lists = λ F a. rows_lists M p x E U F v a }

-- ---- the listing, from rows

pub of_list : {M : ℕ} {p : Statement} {x : State} {E U : ℕ} {ws : List Row} → AreRows M p x E U ws → (F : ℕ) → Agree U E F → sorted (under (seen M F) ws) ≡ list p x F
of_list {M} {p} {x} {ws = ws} h F a =
    let l = h.lists F a in
    same_list (sorted (under (seen M F) ws)) (list p x F) (sorted_rising (under (seen M F) ws)) (list_rising p x F)
    (λ r m. l.out r (sorted_out r (under (seen M F) ws) m)) (λ r m. sorted_in r (under (seen M F) ws) (l.back r m))

-- a reaction is listed under F exactly where a row gives it under F
pub of_members : {M : ℕ} {p : Statement} {x : State} {E U : ℕ} {ws : List Row} → AreRows M p x E U ws → (F : ℕ) → Agree U E F → (r : Reaction)
    → ((w : Row) × Listed w ws × Gives (seen M F) r w) ↔ Listed r (list p x F)
of_members {M} {ws = ws} h F a r =
    let l = h.lists F a in
    (λ g. let (w, m, k) = g in l.out r (under_in (seen M F) ws r w m k), λ m. under_out (seen M F) ws r (l.back r m))

-- where no signal is unknown, each row holds
pub under_all : (F : ℕ) {M : ℕ} {ws : List Row} → All (Proper M 0 0) ws → under F ws ≡ reactions ws
unfolding under reactions
under_all F none = refl
under_all F {M} (more {w = w} {ws = ws} k h) =
    ap (λ z. only_if z (one w.reacts) ++ under F ws) (holds_is w.when F (λ x m. clash (k.ons x m) (seen_empty M x), λ x m. clash (k.offs x m) (seen_empty M x)))
    ∙ ap (λ ts. w.reacts ∷ ts) (under_all F h)

-- so they list the same under every set
pub lists_anywhere : (F : ℕ) {G M : ℕ} {ws : List Row} {ts : List Reaction} → All (Proper M 0 0) ws → Lists G ws ts → Lists F ws ts
lists_anywhere F {G} {ws} k l =
    let e : under F ws ≡ under G ws = under_all F k ∙ sym (under_all G k) in
    record { out = λ r m. l.out r (subst (Listed r) e m); back = λ r m. subst (Listed r) (sym e) (l.back r m) }

pub no_condition : {M : ℕ} {w : Row} → Proper M 0 0 w → w.when ≡ always
unfolding always
no_condition {M} {w} k =
    let u : w.when.on ≡ 0 = within_ext w.when.on 0 (λ x m. clash (k.ons x m) (seen_empty M x)) (within_none w.when.on) in
    let v : w.when.off ≡ 0 = within_ext w.when.off 0 (λ x m. clash (k.offs x m) (seen_empty M x)) (within_none w.when.off) in
    λ i. record { on = u i; off = v i }

reactions_out : (ws : List Row) (r : Reaction) → Listed r (reactions ws) → (w : Row) × Listed w ws × (w.reacts ≡ r)
unfolding reactions
reactions_out [] r m = absurd m
reactions_out (w ∷ ws) r (inl e) = (w, inl refl, sym e)
reactions_out (w ∷ ws) r (inr m) = let (v, n, e) = reactions_out ws r m in (v, inr n, e)

-- and the order of rows is that of their reactions
pub rising_reactions : {M : ℕ} {ws : List Row} → RisingRows ws → All (Proper M 0 0) ws → Rising (reactions ws)
unfolding reactions always
rising_reactions h none = tt
rising_reactions h (more {w = w} {ws = ws} k l) = (
  λ u m. let (v, n, e) = reactions_out ws u m in
      subst (Before w.reacts) e (go v (h.0 v n) (no_condition k ∙ sym (no_condition (all_out l v n)))),
  rising_reactions h.1 l,
)
  where
    last : {a b c d : ℕ} {R : Type 0} → a ≡ b → c ≡ d → LessOr a b (LessOr c d R) → R
    last e f (inl i) = absurd (omega arith)
    last e f (inr (i, inl j)) = absurd (omega arith)
    last e f (inr (i, inr (j, r))) = r

    go : (v : Row) → BeforeRow w v → w.when ≡ v.when → Before w.reacts v.reacts
    go v (inl b) e = inl b
    go v (inr (i, inl b)) e = inr (i, inl b)
    go v (inr (i, inr (j, b))) e = inr (i, inr (j, last (ap (λ c. c.on) e) (ap (λ c. c.off) e) b))

pub of_all : {M : ℕ} {p : Statement} {x : State} {E : ℕ} {ws : List Row} → AreRows M p x E 0 ws → sorted (reactions ws) ≡ list p x E
of_all {M} {E = E} h = ap sorted (sym (under_all (seen M E) h.proper)) ∙ of_list h E (λ S e. refl)

-- the signals of F that are unknown, and of E those that are known
unfoldable mixed : ℕ → ℕ → ℕ → ℕ
mixed U E F = (F intersect U) union (E minus U)

has_mixed : (U E F x : ℕ) → has (mixed U E F) x ≡ ((has F x && has U x) || (has E x && not (has U x)))
unfolding mixed
has_mixed U E F x = has_union (F intersect U) (E minus U) x ∙ ap₂ ◌||◌ (has_intersect F U x) (has_minus E U x)

mixed_unknown : (U E F x : ℕ) → has U x ≡ true → has (mixed U E F) x ≡ has F x
mixed_unknown U E F x u = has_mixed U E F x ∙ ap (λ b. (has F x && b) || (has E x && not b)) u ∙ go (has F x) (has E x)
  where
    go : (f e : Bool) → ((f && true) || (e && false)) ≡ f
    go true e = refl
    go false true = refl
    go false false = refl

mixed_agrees : (U E F : ℕ) → Agree U E (mixed U E F)
mixed_agrees U E F x u = sym (has_mixed U E F x ∙ ap (λ b. (has F x && b) || (has E x && not b)) u ∙ go (has F x) (has E x))
  where
    go : (f e : Bool) → ((f && false) || (e && true)) ≡ e
    go true true = refl
    go true false = refl
    go false true = refl
    go false false = refl

-- no row is idle: its reaction is listed under some set, so what holds of every listed reaction holds of it
pub of_live : {M : ℕ} {p : Statement} {x : State} {E U : ℕ} {ws : List Row} → AreRows M p x E U ws → (w : Row) → Listed w ws
    → (F : ℕ) × Agree U E F × (holds w.when (seen M F) ≡ true) × Listed w.reacts (list p x F)
of_live {M} {p} {x} {E} {U} {ws} h w m =
    (F, mixed_agrees U E N, held, (of_members h F (mixed_agrees U E N) w.reacts).0 (w, m, record { held = held; same = refl }))
  where
    -- the signals whose slots have to be there
    N : ℕ
    N = those (λ S. has w.when.on (slot_of M S)) M

    F : ℕ
    F = mixed U E N

    k : Proper M U 0 w
    k = all_out h.proper w m

    at : (s : ℕ) → has (seen M U) s ≡ true → has (seen M F) s ≡ has w.when.on s
    at s i =
        let (S, t, u, e) = seen_slot M U s i in
        subst (λ (z : ℕ). has (seen M F) z ≡ has w.when.on z) e
        (has_seen M F S t ∙ mixed_unknown U E N S u ∙ has_those (λ y. has w.when.on (slot_of M y)) M S (has_below S M t))

    held : holds w.when (seen M F) ≡ true
    held =
        holds_is w.when (seen M F) (
          λ y n. at y (k.ons y n) ∙ n,
          λ y n. at y (k.offs y n) ∙ apart_sym w.when.on w.when.off k.apart y n,
        )

-- it emits unknown signals and those of E
pub of_emitted : {M : ℕ} {p : Statement} {x : State} {E U : ℕ} {ws : List Row} → AreRows M p x E U ws → (w : Row) → Listed w ws → Within w.reacts.emitted (U union E)
unfolding Reacts
of_emitted {M} {p} {x} {E} {U} h w m y o =
    let (F, a, i, l) = of_live h w m in
    go (has U y) refl (λ u. a y u ∙ emitted_assumed (((list_is_listing p x F).members w.reacts).0 l) y o)
  where
    go : (b : Bool) → has U y ≡ b → (has U y ≡ false → has E y ≡ true) → has (U union E) y ≡ true
    go true u f = in_left U E y u
    go false u f = in_right U E y (f u)

-- so where U and E fit in a word of n bits, what it emits does; and its condition fits in one with a bit for each member of M
pub of_fit : (n : ℕ) {M : ℕ} {p : Statement} {x : State} {E U : ℕ} {ws : List Row} → AreRows M p x E U ws → M < 2 ^ n → U < 2 ^ n → E < 2 ^ n → (w : Row) → Listed w ws
    → (w.when.on < 2 ^ slot_of M n) × (w.when.off < 2 ^ slot_of M n) × (w.reacts.emitted < 2 ^ n)
of_fit n {M} {p} {x} {E} {U} h t u e w m =
    let k = all_out h.proper w m in (
      within_fits w.when.on k.ons,
      within_fits w.when.off k.offs,
      fits n w.reacts.emitted (λ y o. either U E y (of_emitted h w m y o) (below n U y u) (below n E y e)),
    )
  where
    within_fits : (a : ℕ) → Within a (seen M U) → a < 2 ^ slot_of M n
    within_fits a f = fits (slot_of M n) a (λ y k. below (slot_of M n) (seen M U) y (seen_fits n M U t) (f y k))

-- ---- the same of the rows that specs/inner/Rows makes

pub rows_list : (M : ℕ) (p : Statement) (x : State) (E U F : ℕ) → Within U M → Agree U E F → sorted (under (seen M F) (rows_of M p x E U)) ≡ list p x F
rows_list M p x E U F v a = of_list (rows_are M p x E U v) F a

pub rows_all : (M : ℕ) (p : Statement) (x : State) (E : ℕ) → sorted (reactions (rows_of M p x E 0)) ≡ list p x E
rows_all M p x E = of_all (rows_are M p x E 0 (within_none M))
