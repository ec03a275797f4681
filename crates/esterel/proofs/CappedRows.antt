-- The capped rows of a statement are rows of it, and refusal 15 is then due under no set that agrees with E; with no signal unknown
-- they are the listing, and none exactly where refusal 15 is due. By induction on the statement.
use mathlib.Core.Path.{◌≡◌, refl, sym, ap, ◌∙◌, subst}
use mathlib.Core.Logic.{inl, inr}
use mathlib.Core.Bool.{true, false, cond}
use mathlib.Core.List.{List, [], ◌++◌}
use mathlib.Core.Option.{none, some}
use Prim.Native.Nat.{ℕ, ◌≤◌}
use native.Mathlib.Omega.{arith}
use lib.Dec.{eqb}
use lib.ListN.{length}
use Rattle.sets.specs.Set.{has, only, ◌union◌, ◌intersect◌, ◌without◌, Within}
use Rattle.sets.proofs.Booleans.{clash, by_cond, eqb_equal}
use Rattle.sets.proofs.Members.{has_empty, has_only, ext, test_apart, in_right}
use Rattle.esterel.specs.Statement.{Statement, nothing, pause, gotopause, emit, exit, signal, present, sequence, parallel, loop, try, pauses}
use Rattle.esterel.specs.Reactions.{State, start, resumed}
use Rattle.esterel.specs.Trimming.{names}
use Rattle.esterel.specs.Listing.{reaction, sorted, hide, together, list, listing, request, needs, crowded}
use Rattle.esterel.specs.inner.Conditions.{slot_of, seen}
use Rattle.esterel.specs.inner.Rows.{Row, under, reactions, local_rows, hide_rows, rows_of, Agree}
use Rattle.esterel.specs.inner.CappedRows.{CappedRows, reactions_in, change_rows, otherwise, given_up, twice_rows, capped_rows}
use Rattle.esterel.proofs.Order.{append_left, sorted_in, sorted_of_rising}
use Rattle.esterel.proofs.Conditions.{added, removed}
use Rattle.esterel.proofs.Proper.{all_append, within_none, proper_local, proper_hide}
use Rattle.esterel.proofs.RowOrder.{RisingRows}
use Rattle.esterel.proofs.Rows.{lists_append, lists_local, lists_hide, lists_sorted}
use Rattle.esterel.proofs.Unknown.{AreRows, inside_too, agree_inside, lists_anywhere, rising_reactions, of_list, of_all}
use Rattle.esterel.proofs.Absent.{apart_empty, apart_not_crowded}
use Rattle.esterel.proofs.UnnamedLists.{unnamed_crowded, undeclared_list}
use Rattle.esterel.proofs.Told.{Told, Answers, wants, tells, Due, Answered, Below, collected, weaker, same_rows, whole, changed, joined, instead, due}
use Rattle.esterel.proofs.CappedArms.{two_quiet, leaf, one_row, emit_one, present_start, present_resumed, sequence_start, sequence_resumed, parallel_both, parallel_resumed, loop_start, loop_resumed, try_any, sorted_alike, same_alike}

-- ---- signal S in p

-- a signal that its body does not name
signal_unnamed : (M S : ℕ) (p : Statement) (x : State) (E U : ℕ) {v : CappedRows} → names S p ≡ false → Answered M p x E U v → Answered M (signal S p) x E U v
unfolding needs
signal_unnamed M S p x E U n a =
    whole (signal S p) x (same_rows
    (λ d z. due (signal S p) x E (request p x (E union only S)) (inl refl) (sym (unnamed_crowded S p x E (E union only S) n (added S E)) ∙ d z))
    (λ F c. same_alike (undeclared_list S p x F n))
    (λ F c h. two_quiet (request p x (F union only S)) (request p x (F without S)) (sym (unnamed_crowded S p x F (F union only S) n (added S F)) ∙ h)
    (sym (unnamed_crowded S p x F (F without S) n (removed S F)) ∙ h)) a)

-- once, with S unknown, where it is in M
attempt : (M S : ℕ) (p : Statement) (x : State) (E U : ℕ) (v : CappedRows) → Within U M → (has M S ≡ true → Answered M p x E (U union only S) v)
    → Answers M (Unit {0}) E U (list (signal S p) x) (Below (signal S p) x) (cond (has M S) (change_rows (local_rows S (slot_of M S)) v) none)
unfolding list needs
attempt M S p x E U v i a =
    by_cond (Answers M (Unit {0}) E U (list (signal S p) x) (Below (signal S p) x)) (has M S) (change_rows (local_rows S (slot_of M S)) v) none
    (λ m. changed (local_rows S (slot_of M S)) (a m) (λ d. tt) (λ ws k. weaker (λ d. tt) (collected M (signal S p) x E U (local_rows S (slot_of M S) ws) (proper_local M S U i m k.proper)
    (λ F c. lists_sorted (lists_local M S (U union only S) F m (in_right U (only S) S (has_only S)) k.proper
    (k.lists (F union only S) (agree_inside S U E F (F union only S) c (added S F))) (k.lists (F without S) (agree_inside S U E F (F without S) c (removed S F)))))
    (λ F c. two_quiet (request p x (F union only S)) (request p x (F without S))
    (k.quiet (F union only S) (agree_inside S U E F (F union only S) c (added S F))) (k.quiet (F without S) (agree_inside S U E F (F without S) c (removed S F))))
    (λ r m. m)))) (λ m. wants tt)

-- with no signal unknown, only E itself agrees with E
known : (E F : ℕ) (f : ℕ → ℕ) → Agree 0 E F → Agree 0 (f E) (f F)
known E F f a S h = ap (λ (z : ℕ). has (f z) S) (ext E F (λ y. a y (has_empty y)))

-- twice, with S present and with S absent
twice : (M S : ℕ) (p : Statement) (x : State) (E : ℕ) {v w : CappedRows} → Answered M p x (E union only S) 0 v → Answered M p x (E without S) 0 w
    → Answers M (Due (signal S p) x E 0) E 0 (list (signal S p) x) (Below (signal S p) x) (twice_rows S v w)
unfolding twice_rows list needs
twice M S p x E {v} a b =
    joined ◌++◌ shown b (λ d. d) (λ d z. due (signal S p) x E (request p x (E without S)) (inr (inl refl)) (d z))
    (λ ws vs k l. collected M (signal S p) x E 0 (ws ++ vs) (all_append k.proper l.proper)
    (λ F c. lists_sorted (lists_append (k.lists F c) (lists_anywhere (seen M F) l.proper (l.lists (F without S) (known E F (λ z. z without S) c)))))
    (λ F c. two_quiet (request p x (F union only S)) (request p x (F without S)) (k.quiet F c) (l.quiet (F without S) (known E F (λ z. z without S) c))) (λ r m. m))
  where
    shown : Answers M (Due (signal S p) x E 0) E 0 (λ F. hide S (list p x (F union only S))) (λ F. crowded p x (F union only S)) (change_rows (hide_rows S) v)
    shown =
        changed (hide_rows S) a (λ d z. due (signal S p) x E (request p x (E union only S)) (inl refl) (d z))
        (λ ws k. collected M (signal S p) x E 0 (hide_rows S ws) (proper_hide S k.proper)
        (λ F c. lists_hide S (lists_anywhere (seen M F) k.proper (k.lists (F union only S) (known E F (λ z. z union only S) c)))) (λ F c. k.quiet (F union only S) (known E F (λ z. z union only S) c))
        (λ r m. sorted_in r (hide S (list p x (E union only S)) ++ list p x (E without S)) (append_left r (hide S (list p x (E union only S))) (list p x (E without S)) m)))

-- not at all, where signals are unknown
given_up_lem : (M S : ℕ) (p : Statement) (x : State) (E U : ℕ) → Within U M → Due (signal S p) x E U
    → Answers M (Due (signal S p) x E U) E U (list (signal S p) x) (Below (signal S p) x) (given_up x p)
unfolding given_up list needs rows_of pauses
given_up_lem M S p start E U i d = wants d
given_up_lem M S p (resumed X) E U i d =
    by_cond (Answers M (Due (signal S p) (resumed X) E U) E U (list (signal S p) (resumed X)) (Below (signal S p) (resumed X))) (eqb (X intersect pauses p) 0) (some []) none absent (λ e. wants d)
  where
    absent : eqb (X intersect pauses p) 0 ≡ true → Answers M (Due (signal S p) (resumed X) E U) E U (list (signal S p) (resumed X)) (Below (signal S p) (resumed X)) (some [])
    absent e =
        let h = test_apart X (pauses p) e in
        same_rows (λ c. d) (λ F c. same_alike (apart_empty (signal S p) X F h))
        (λ F c n. two_quiet (request p (resumed X) (F union only S)) (request p (resumed X) (F without S)) (apart_not_crowded p X (F union only S) h) (apart_not_crowded p X (F without S) h))
        (leaf M nothing (resumed X) E U i (omega arith) (λ F. refl))

signal_any : (M S : ℕ) (p : Statement) (x : State) (E U : ℕ) (v w u t : CappedRows) → Within U M → (has M S ≡ true → Answered M p x E (U union only S) v)
    → Answered M p x (E union only S) 0 w → Answered M p x (E without S) 0 u → Answered M p x E U t
    → Answered M (signal S p) x E U
    (cond (names S p) (otherwise (cond (has M S) (change_rows (local_rows S (slot_of M S)) v) none) (cond (eqb U 0) (twice_rows S w u) (given_up x p))) t)
signal_any M S p x E U v w u t i a b c d =
    by_cond (Answered M (signal S p) x E U) (names S p)
    (otherwise (cond (has M S) (change_rows (local_rows S (slot_of M S)) v) none) (cond (eqb U 0) (twice_rows S w u) (given_up x p))) t
    (λ n. whole (signal S p) x (instead (attempt M S p x E U v i a) exact)) (λ n. signal_unnamed M S p x E U n d)
  where
    exact : Answers M (Due (signal S p) x E U) E U (list (signal S p) x) (Below (signal S p) x) (cond (eqb U 0) (twice_rows S w u) (given_up x p))
    exact =
        by_cond (Answers M (Due (signal S p) x E U) E U (list (signal S p) x) (Below (signal S p) x)) (eqb U 0) (twice_rows S w u) (given_up x p)
        (λ e. subst (λ (z : ℕ). Answers M (Due (signal S p) x E z) E z (list (signal S p) x) (Below (signal S p) x) (twice_rows S w u)) (sym (eqb_equal U 0 e)) (twice M S p x E b c))
        (λ e. given_up_lem M S p x E U i (λ z. clash (ap (λ (y : ℕ). eqb y 0) z) e))

-- ---- all kinds
answered : (M : ℕ) (p : Statement) (x : State) (E U : ℕ) → Within U M → Answered M p x E U (capped_rows M p x E U)
unfolding capped_rows rows_of needs list
answered M nothing start E U v = leaf M nothing start E U v (omega arith) (λ F. refl)
answered M nothing (resumed X) E U v = leaf M nothing (resumed X) E U v (omega arith) (λ F. refl)
answered M (pause l) start E U v = leaf M (pause l) start E U v (omega arith) (λ F. refl)
answered M (pause l) (resumed X) E U v = leaf M (pause l) (resumed X) E U v (one_row (has X l) (reaction 0 0 0)) (λ F. refl)
answered M (gotopause l) start E U v = leaf M (gotopause l) start E U v (omega arith) (λ F. refl)
answered M (gotopause l) (resumed X) E U v = leaf M (gotopause l) (resumed X) E U v (omega arith) (λ F. refl)
answered M (emit S) start E U v = leaf M (emit S) start E U v (emit_one M S E U) (λ F. refl)
answered M (emit S) (resumed X) E U v = leaf M (emit S) (resumed X) E U v (omega arith) (λ F. refl)
answered M (exit d) start E U v = leaf M (exit d) start E U v (omega arith) (λ F. refl)
answered M (exit d) (resumed X) E U v = leaf M (exit d) (resumed X) E U v (omega arith) (λ F. refl)
answered M (signal S p) x E U v =
    signal_any M S p x E U (capped_rows M p x E (U union only S)) (capped_rows M p x (E union only S) 0) (capped_rows M p x (E without S) 0) (capped_rows M p x E U) v
    (λ i. answered M p x E (U union only S) (inside_too M U S v i)) (answered M p x (E union only S) 0 (within_none M)) (answered M p x (E without S) 0 (within_none M))
    (answered M p x E U v)
answered M (present S p q) start E U v =
    present_start M S p q E U (capped_rows M p start E U) (capped_rows M q start E U) v (answered M p start E U v) (answered M q start E U v)
answered M (present S p q) (resumed X) E U v = present_resumed M S p q X E U (answered M p (resumed X) E U v) (answered M q (resumed X) E U v)
answered M (sequence p q) start E U v = sequence_start M p q E U (answered M p start E U v) (answered M q start E U v)
answered M (sequence p q) (resumed X) E U v = sequence_resumed M p q X E U (answered M p (resumed X) E U v) (answered M q start E U v) (answered M q (resumed X) E U v)
answered M (parallel p q) start E U v =
    parallel_both M p q start E U (λ F. sorted_alike (together (list p start F) (list q start F)) (together (list p start F) (list q start F)) (λ r m. m, λ r m. m))
    (answered M p start E U v) (answered M q start E U v)
answered M (parallel p q) (resumed X) E U v =
    parallel_resumed M p q X E U (capped_rows M p (resumed X) E U) (capped_rows M q (resumed X) E U) (answered M p (resumed X) E U v) (answered M q (resumed X) E U v)
answered M (loop p) start E U v = loop_start M p E U (answered M p start E U v)
answered M (loop p) (resumed X) E U v = loop_resumed M p X E U (answered M p (resumed X) E U v) (answered M p start E U v)
answered M (try p) x E U v = try_any M p x E U (answered M p x E U v)

-- ---- rows
told : (M : ℕ) (p : Statement) (x : State) (E U : ℕ) (ws : List Row) → Within U M → capped_rows M p x E U ≡ some ws → Told M E U (list p x) (crowded p x) ws
told M p x E U ws v e = go (subst (Answered M p x E U) e (answered M p x E U v))
  where
    go : Answered M p x E U (some ws) → Told M E U (list p x) (crowded p x) ws
    go (tells t) = t

-- they are rows of the statement
pub capped_rows_are : (M : ℕ) (p : Statement) (x : State) (E U : ℕ) (ws : List Row) → Within U M → capped_rows M p x E U ≡ some ws → AreRows M p x E U ws
capped_rows_are M p x E U ws v e = let t = told M p x E U ws v e in record { proper = t.proper; lists = t.lists }

-- in order, each once, and at most 64
pub capped_rows_rising : (M : ℕ) (p : Statement) (x : State) (E U : ℕ) (ws : List Row) → Within U M → capped_rows M p x E U ≡ some ws → RisingRows ws
capped_rows_rising M p x E U ws v e = (told M p x E U ws v e).rising

pub capped_rows_short : (M : ℕ) (p : Statement) (x : State) (E U : ℕ) (ws : List Row) → Within U M → capped_rows M p x E U ≡ some ws → length ws ≤ 64
capped_rows_short M p x E U ws v e = (told M p x E U ws v e).short

-- so those that hold under F are the listing under F
pub capped_rows_list : (M : ℕ) (p : Statement) (x : State) (E U : ℕ) (ws : List Row) → Within U M → capped_rows M p x E U ≡ some ws → (F : ℕ) → Agree U E F → sorted (under (seen M F) ws) ≡ listing p x F
unfolding listing
capped_rows_list M p x E U ws v e F a = of_list (capped_rows_are M p x E U ws v e) F a

-- and refusal 15 is not due under F
pub capped_rows_quiet : (M : ℕ) (p : Statement) (x : State) (E U : ℕ) (ws : List Row) → Within U M → capped_rows M p x E U ≡ some ws → (F : ℕ) → Agree U E F → crowded p x F ≡ false
capped_rows_quiet M p x E U ws v e F a = (told M p x E U ws v e).quiet F a

-- ---- with no signal unknown: none exactly where refusal 15 is due, and else the listing
pub capped_rows_exact : (M : ℕ) (p : Statement) (x : State) (E : ℕ) → reactions_in (capped_rows M p x E 0) ≡ cond (crowded p x E) none (some (listing p x E))
unfolding listing reactions_in
capped_rows_exact M p x E = go (answered M p x E 0 (within_none M))
  where
    go : {v : CappedRows} → Answered M p x E 0 v → reactions_in v ≡ cond (crowded p x E) none (some (list p x E))
    go (wants d) = ap (λ b. cond b none (some (list p x E))) (sym (d refl))
    go (tells {ws = ws} t) =
        let h : reactions ws ≡ list p x E = sym (sorted_of_rising (reactions ws) (rising_reactions t.rising t.proper)) ∙ of_all (record { proper = t.proper; lists = t.lists }) in
        ap some h ∙ ap (λ b. cond b none (some (list p x E))) (sym (t.quiet E (λ S k. refl)))
