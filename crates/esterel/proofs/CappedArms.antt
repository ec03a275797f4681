-- The capped rows of a statement from those of its parts, for each kind of statement but signal: an arm a lemma, from the laws of
-- proofs/Told.
use mathlib.Core.Path.{◌≡◌, refl, sym, ap, ◌∙◌, subst}
use mathlib.Core.Logic.{inl, inr}
use mathlib.Core.Bool.{Bool, true, false, cond}
use mathlib.Core.List.{List, [], ◌∷◌, ◌++◌}
use mathlib.Core.Option.{some}
use Prim.Native.Nat.{ℕ, ◌≤◌}
use native.Mathlib.Omega.{arith}
use lib.Dec.{eqb}
use lib.ListN.{length}
use Rattle.sets.specs.Set.{has, only, ◌intersect◌, Within, Apart}
use Rattle.sets.proofs.Booleans.{or_neither, clash, by_cond}
use Rattle.sets.proofs.Members.{has_empty, test_apart}
use Rattle.esterel.specs.Statement.{Statement, present, sequence, parallel, loop, try, pauses}
use Rattle.esterel.specs.Reactions.{State, start, resumed, Reaction}
use Rattle.esterel.specs.Listing.{Listed, reaction, sorted, only_if, each, follow, together, going, list, Request, request, needs, some_ends, some as some_of, crowded}
use Rattle.esterel.specs.inner.Conditions.{slot_of, condition}
use Rattle.esterel.specs.inner.Rows.{Row, row_when, sure, only_rows, tested, emit_rows, follow_rows, together_rows, going_rows, caught_rows, rows_of, Agree}
use Rattle.esterel.specs.inner.CappedRows.{CappedRows, change_rows, join_rows, then_rows, beside_rows}
use Rattle.esterel.proofs.Order.{append_left, append_right, only_if_out, sorted_in, sorted_out}
use Rattle.esterel.proofs.Listing.{going_out, together_out, split}
use Rattle.esterel.proofs.Proper.{all_append, proper_tested, proper_follow, proper_together, proper_going, proper_caught}
use Rattle.esterel.proofs.RowOrder.{RisingRows}
use Rattle.esterel.proofs.Rows.{Alike, lists_same, lists_append, lists_tested, lists_sorted, lists_follow, lists_together, lists_going, lists_caught}
use Rattle.esterel.proofs.Unknown.{rows_are}
use Rattle.esterel.proofs.Ends.{alike_follow, alike_going, alike_again}
use Rattle.esterel.proofs.Quiet.{crowds, some_more, some_if}
use Rattle.esterel.proofs.Absent.{apart_empty, apart_not_crowded}
use Rattle.esterel.proofs.Told.{Answers, tells, Due, Answered, collected, same_rows, whole, changed, joined, followed, due}

-- ---- needed lists that are not crowded
one_quiet : (r : Request) → crowds r ≡ false → some_of crowds (r ∷ []) ≡ false
unfolding some_of
one_quiet r h = some_more r [] h refl

pub two_quiet : (r t : Request) → crowds r ≡ false → crowds t ≡ false → some_of crowds (r ∷ t ∷ []) ≡ false
two_quiet r t h k = some_more r (t ∷ []) h (one_quiet t k)

-- the second only where the first ends
then_quiet : (r t : Request) (b : Bool) → crowds r ≡ false → crowds t ≡ false → some_of crowds (r ∷ cond b (t ∷ []) []) ≡ false
then_quiet r t b h k = some_more r (cond b (t ∷ []) []) h (some_if t b (λ e. k))

-- and it does not
end_quiet : (r t : Request) (b : Bool) → b ≡ false → crowds r ≡ false → some_of crowds (r ∷ cond b (t ∷ []) []) ≡ false
end_quiet r t b e h = some_more r (cond b (t ∷ []) []) h (some_if t b (λ k. clash k e))

first_quiet : (r : Request) (l : List Request) → some_of crowds (r ∷ l) ≡ false → crowds r ≡ false
unfolding some_of
first_quiet r l h = (or_neither (crowds r) (some_of crowds l) h).0

rest_quiet : (r : Request) (l : List Request) → some_of crowds (r ∷ l) ≡ false → some_of crowds l ≡ false
unfolding some_of
rest_quiet r l h = (or_neither (crowds r) (some_of crowds l) h).1

needed : (r : Request) (b : Bool) → b ≡ true → Listed r (cond b (r ∷ []) [])
needed r true e = inl refl
needed r false e = clash e refl

pub sorted_alike : (ts us : List Reaction) → Alike ts us → Alike ts (sorted us)
sorted_alike ts us a = (λ r m. sorted_in r us (a.0 r m), λ r m. a.1 r (sorted_out r us m))

pub same_alike : {ts us : List Reaction} → us ≡ ts → Alike ts us
same_alike e = (λ r m. subst (Listed r) (sym e) m, λ r m. subst (Listed r) e m)

-- ---- statements without parts
single : (ws : List Row) → length ws ≤ 1 → RisingRows ws
single [] h = tt
single (w ∷ []) h = (λ v m. absurd m, tt)
single (w ∷ v ∷ ws) h = absurd (omega arith)

pub leaf : (M : ℕ) (p : Statement) (x : State) (E U : ℕ) → Within U M → length (rows_of M p x E U) ≤ 1 → ((F : ℕ) → needs p x F ≡ []) → Answered M p x E U (some (rows_of M p x E U))
unfolding some_of
leaf M p x E U v h n = whole p x (tells (record {
  short = omega arith;
  rising = single (rows_of M p x E U) h;
  proper = (rows_are M p x E U v).proper;
  lists = (rows_are M p x E U v).lists;
  quiet = λ F a. ap (some_of crowds) (n F);
}))

pub one_row : (b : Bool) (r : Reaction) → length (only_rows b (sure r)) ≤ 1
one_row b r = by_cond (λ ws. length ws ≤ 1) b (sure r) [] (λ e. omega arith) (λ e. omega arith)

pub emit_one : (M : ℕ) (S E U : ℕ) → length (emit_rows M S E U) ≤ 1
unfolding emit_rows
emit_one M S E U =
    by_cond (λ ws. length ws ≤ 1) (has U S) (row_when (condition (only (slot_of M S)) 0) (reaction (only S) 0 0) ∷ []) (only_rows (has E S) (sure (reaction (only S) 0 0)))
    (λ e. omega arith) (λ e. one_row (has E S) (reaction (only S) 0 0))

-- ---- present S then p else q
present_unknown : (M : ℕ) (S : ℕ) (p q : Statement) (E U : ℕ) {v w : CappedRows} → Within U M → has U S ≡ true → Answered M p start E U v → Answered M q start E U w
    → Answered M (present S p q) start E U (join_rows (tested (slot_of M S)) v w)
unfolding list needs
present_unknown M S p q E U i u a b =
    whole (present S p q) start (joined (tested (slot_of M S)) a b (λ d. unknown) (λ d. unknown) (λ ws vs k l. collected M (present S p q) start E U (tested (slot_of M S) ws vs)
    (proper_tested M S U i u k.proper l.proper) (λ F c. lists_tested M S F (i S u) (k.lists F c) (l.lists F c))
    (λ F c. one_quiet (cond (has F S) (request p start F) (request q start F))
    (by_cond (λ r. crowds r ≡ false) (has F S) (request p start F) (request q start F) (λ e. k.quiet F c) (λ e. l.quiet F c)))
    (λ r m. m)))
  where
    unknown : Due (present S p q) start E U
    unknown z = clash u (ap (λ (y : ℕ). has y S) z ∙ has_empty S)

-- the branch t that is taken is known
present_known : (M : ℕ) (S : ℕ) (p q t : Statement) (E U : ℕ) {v : CappedRows}
    → ((F : ℕ) → Agree U E F → (list (present S p q) start F ≡ list t start F) × (needs (present S p q) start F ≡ request t start F ∷ []))
    → Answered M t start E U v → Answered M (present S p q) start E U v
present_known M S p q t E U f a =
    whole (present S p q) start (same_rows
    (λ d z. due (present S p q) start E (request t start E) (subst (Listed (request t start E)) (sym (f E (λ y h. refl)).1) (inl refl)) (d z))
    (λ F c. same_alike (f F c).0) (λ F c n. ap (some_of crowds) (f F c).1 ∙ one_quiet (request t start F) n) a)

pub present_start : (M : ℕ) (S : ℕ) (p q : Statement) (E U : ℕ) (v w : CappedRows) → Within U M → Answered M p start E U v → Answered M q start E U w
    → Answered M (present S p q) start E U (cond (has U S) (join_rows (tested (slot_of M S)) v w) (cond (has E S) v w))
unfolding list needs
present_start M S p q E U v w i a b =
    by_cond (Answered M (present S p q) start E U) (has U S) (join_rows (tested (slot_of M S)) v w) (cond (has E S) v w) (λ u. present_unknown M S p q E U i u a b)
    (λ u. by_cond (Answered M (present S p q) start E U) (has E S) v w
    (λ e. present_known M S p q p E U (λ F c. taken F true (sym (c S u) ∙ e)) a) (λ e. present_known M S p q q E U (λ F c. taken F false (sym (c S u) ∙ e)) b))
  where
    taken : (F : ℕ) (b : Bool) → has F S ≡ b → (cond (has F S) (list p start F) (list q start F) ≡ list (cond b p q) start F)
        × ((cond (has F S) (request p start F) (request q start F) ∷ []) ≡ request (cond b p q) start F ∷ [])
    taken F true e = (rw e, rw e)
    taken F false e = (rw e, rw e)

pub present_resumed : (M : ℕ) (S : ℕ) (p q : Statement) (X E U : ℕ) {v w : CappedRows} → Answered M p (resumed X) E U v → Answered M q (resumed X) E U w
    → Answered M (present S p q) (resumed X) E U (join_rows ◌++◌ v w)
unfolding list needs
present_resumed M S p q X E U a b =
    whole (present S p q) (resumed X) (joined ◌++◌ a b
    (λ d z. due (present S p q) (resumed X) E (request p (resumed X) E) (inl refl) (d z)) (λ d z. due (present S p q) (resumed X) E (request q (resumed X) E) (inr (inl refl)) (d z))
    (λ ws vs k l. collected M (present S p q) (resumed X) E U (ws ++ vs) (all_append k.proper l.proper) (λ F c. lists_sorted (lists_append (k.lists F c) (l.lists F c)))
    (λ F c. two_quiet (request p (resumed X) F) (request q (resumed X) F) (k.quiet F c) (l.quiet F c)) (λ r m. m)))

-- ---- p ; q
pub sequence_start : (M : ℕ) (p q : Statement) (E U : ℕ) {v w : CappedRows} → Answered M p start E U v → Answered M q start E U w → Answered M (sequence p q) start E U (then_rows v w)
unfolding list needs
sequence_start M p q E U a b =
    whole (sequence p q) start (followed a b (λ d z. due (sequence p q) start E (request p start E) (inl refl) (d z))
    (λ e d z. due (sequence p q) start E (request q start E) (inr (needed (request q start E) (some_ends (list p start E)) (e z))) (d z))
    (λ ws vs k l. collected M (sequence p q) start E U (follow_rows ws vs) (proper_follow k.proper l.proper) (λ F c. lists_sorted (lists_follow (k.lists F c) (l.lists F c)))
    (λ F c. then_quiet (request p start F) (request q start F) (some_ends (list p start F)) (k.quiet F c) (l.quiet F c)) (λ r m. m))
    (λ F c e. sorted_alike (list p start F) (follow (list p start F) (list q start F)) (alike_follow (list p start F) (list q start F) e))
    (λ F c e n. end_quiet (request p start F) (request q start F) (some_ends (list p start F)) e n))

pub sequence_resumed : (M : ℕ) (p q : Statement) (X E U : ℕ) {v w u : CappedRows} → Answered M p (resumed X) E U v → Answered M q start E U w → Answered M q (resumed X) E U u
    → Answered M (sequence p q) (resumed X) E U (join_rows ◌++◌ (then_rows v w) u)
unfolding list needs
sequence_resumed M p q X E U {v} {w} a b d =
    whole (sequence p q) (resumed X) (joined ◌++◌ first d (λ e. e) (λ e z. due (sequence p q) (resumed X) E (request q (resumed X) E) (inr (inl refl)) (e z))
    (λ ws vs k l. collected M (sequence p q) (resumed X) E U (ws ++ vs) (all_append k.proper l.proper) (λ F c. lists_sorted (lists_append (k.lists F c) (l.lists F c)))
    (λ F c. between (request p (resumed X) F) (request q (resumed X) F) (cond (some_ends (list p (resumed X) F)) (request q start F ∷ []) []) (k.quiet F c) (l.quiet F c)) (λ r m. m)))
  where
    between : (r t : Request) (l : List Request) → some_of crowds (r ∷ l) ≡ false → crowds t ≡ false → some_of crowds (r ∷ t ∷ l) ≡ false
    between r t l h k = some_more r (t ∷ l) (first_quiet r l h) (some_more t l k (rest_quiet r l h))

    first : Answers M (Due (sequence p q) (resumed X) E U) E U (λ F. follow (list p (resumed X) F) (list q start F))
        (λ F. some_of crowds (request p (resumed X) F ∷ cond (some_ends (list p (resumed X) F)) (request q start F ∷ []) [])) (then_rows v w)
    first =
        followed a b (λ e z. due (sequence p q) (resumed X) E (request p (resumed X) E) (inl refl) (e z))
        (λ e f z. due (sequence p q) (resumed X) E (request q start E) (inr (inr (needed (request q start E) (some_ends (list p (resumed X) E)) (e z)))) (f z))
        (λ ws vs k l. collected M (sequence p q) (resumed X) E U (follow_rows ws vs) (proper_follow k.proper l.proper) (λ F c. lists_follow (k.lists F c) (l.lists F c))
        (λ F c. then_quiet (request p (resumed X) F) (request q start F) (some_ends (list p (resumed X) F)) (k.quiet F c) (l.quiet F c))
        (λ r m. sorted_in r (follow (list p (resumed X) E) (list q start E) ++ list q (resumed X) E) (append_left r (follow (list p (resumed X) E) (list q start E)) (list q (resumed X) E) m)))
        (λ F c e. alike_follow (list p (resumed X) F) (list q start F) e)
        (λ F c e n. end_quiet (request p (resumed X) F) (request q start F) (some_ends (list p (resumed X) F)) e n)

-- ---- p || q
pub parallel_both : (M : ℕ) (p q : Statement) (x : State) (E U : ℕ) {v w : CappedRows} → ((F : ℕ) → Alike (together (list p x F) (list q x F)) (list (parallel p q) x F))
    → Answered M p x E U v → Answered M q x E U w → Answered M (parallel p q) x E U (join_rows together_rows v w)
unfolding needs
parallel_both M p q x E U f a b =
    whole (parallel p q) x (joined together_rows a b
    (λ d z. due (parallel p q) x E (request p x E) (inl refl) (d z)) (λ d z. due (parallel p q) x E (request q x E) (inr (inl refl)) (d z))
    (λ ws vs k l. collected M (parallel p q) x E U (together_rows ws vs) (proper_together k.proper l.proper)
    (λ F c. lists_same (lists_together (k.lists F c) (l.lists F c)) (f F))
    (λ F c. two_quiet (request p x F) (request q x F) (k.quiet F c) (l.quiet F c)) (λ r m. m)))

-- what the listing of p || q resumed is sorted from
abbrev beside : ℕ → Statement → Statement → ℕ → List Reaction
beside X p q F =
    let ts = list p (resumed X) F in
    let us = list q (resumed X) F in
    together ts us ++ (only_if (eqb (X intersect pauses q) 0) ts ++ only_if (eqb (X intersect pauses p) 0) us)

-- one part alone, where the state has no label of the other
left_absent : (b : Bool) (us : List Reaction) → Alike us (together [] us ++ (only_if b [] ++ us))
unfolding together each
left_absent true us = (λ r m. m, λ r m. m)
left_absent false us = (λ r m. m, λ r m. m)

right_absent : (b : Bool) (ts : List Reaction) → Alike ts (together ts [] ++ (ts ++ only_if b []))
right_absent b ts = (
  λ r m. append_right r (together ts []) (ts ++ only_if b []) (append_left r ts (only_if b []) m),
  λ r m. split r (together ts []) (ts ++ only_if b []) m (λ k. let (t, u, i, j, e) = together_out ts [] r k in absurd j)
      (λ k. split r ts (only_if b []) k (λ n. n) (λ n. absurd (only_if_out r b [] n).1)),
)

both_there : (ts us : List Reaction) → Alike (together ts us) (together ts us ++ ([] ++ []))
both_there ts us = (λ r m. append_left r (together ts us) [] m, λ r m. split r (together ts us) [] m (λ n. n) (λ n. absurd n))

parallel_left : (M : ℕ) (p q : Statement) (X E U : ℕ) {w : CappedRows} → eqb (X intersect pauses p) 0 ≡ true → Answered M q (resumed X) E U w → Answered M (parallel p q) (resumed X) E U w
unfolding list needs
parallel_left M p q X E U e b =
    let h = test_apart X (pauses p) e in
    whole (parallel p q) (resumed X) (same_rows (λ d z. due (parallel p q) (resumed X) E (request q (resumed X) E) (inr (inl refl)) (d z))
    (λ F c. sorted_alike (list q (resumed X) F) (beside X p q F) (alone F h))
    (λ F c n. two_quiet (request p (resumed X) F) (request q (resumed X) F) (apart_not_crowded p X F h) n) b)
  where
    alone : (F : ℕ) → Apart X (pauses p) → Alike (list q (resumed X) F) (beside X p q F)
    alone F h = rw (e, apart_empty p X F h) (left_absent (eqb (X intersect pauses q) 0) (list q (resumed X) F))

parallel_right : (M : ℕ) (p q : Statement) (X E U : ℕ) {v : CappedRows} → eqb (X intersect pauses q) 0 ≡ true → Answered M p (resumed X) E U v → Answered M (parallel p q) (resumed X) E U v
unfolding list needs
parallel_right M p q X E U e a =
    let h = test_apart X (pauses q) e in
    whole (parallel p q) (resumed X) (same_rows (λ d z. due (parallel p q) (resumed X) E (request p (resumed X) E) (inl refl) (d z))
    (λ F c. sorted_alike (list p (resumed X) F) (beside X p q F) (alone F h))
    (λ F c n. two_quiet (request p (resumed X) F) (request q (resumed X) F) n (apart_not_crowded q X F h)) a)
  where
    alone : (F : ℕ) → Apart X (pauses q) → Alike (list p (resumed X) F) (beside X p q F)
    alone F h = rw (e, apart_empty q X F h) (right_absent (eqb (X intersect pauses p) 0) (list p (resumed X) F))

pub parallel_resumed : (M : ℕ) (p q : Statement) (X E U : ℕ) (v w : CappedRows) → Answered M p (resumed X) E U v → Answered M q (resumed X) E U w
    → Answered M (parallel p q) (resumed X) E U (beside_rows (eqb (X intersect pauses p) 0) (eqb (X intersect pauses q) 0) v w)
unfolding beside_rows list
parallel_resumed M p q X E U v w a b =
    by_cond (Answered M (parallel p q) (resumed X) E U) (eqb (X intersect pauses p) 0) w (cond (eqb (X intersect pauses q) 0) v (join_rows together_rows v w))
    (λ e. parallel_left M p q X E U e b)
    (λ e. by_cond (Answered M (parallel p q) (resumed X) E U) (eqb (X intersect pauses q) 0) v (join_rows together_rows v w)
    (λ f. parallel_right M p q X E U f a) (λ f. parallel_both M p q (resumed X) E U (λ F. sorted_alike (together (list p (resumed X) F) (list q (resumed X) F)) (beside X p q F) (meets F e f)) a b))
  where
    meets : (F : ℕ) → eqb (X intersect pauses p) 0 ≡ false → eqb (X intersect pauses q) 0 ≡ false → Alike (together (list p (resumed X) F) (list q (resumed X) F)) (beside X p q F)
    meets F e f = rw (e, f) (both_there (list p (resumed X) F) (list q (resumed X) F))

-- ---- loop p and try p
pub loop_start : (M : ℕ) (p : Statement) (E U : ℕ) {v : CappedRows} → Answered M p start E U v → Answered M (loop p) start E U (change_rows going_rows v)
unfolding list needs
loop_start M p E U a =
    whole (loop p) start (changed going_rows a (λ d z. due (loop p) start E (request p start E) (inl refl) (d z))
    (λ ws k. collected M (loop p) start E U (going_rows ws) (proper_going k.proper) (λ F c. lists_sorted (lists_going (k.lists F c)))
    (λ F c. one_quiet (request p start F) (k.quiet F c)) (λ r m. m)))

pub loop_resumed : (M : ℕ) (p : Statement) (X E U : ℕ) {v w : CappedRows} → Answered M p (resumed X) E U v → Answered M p start E U w
    → Answered M (loop p) (resumed X) E U (then_rows v (change_rows going_rows w))
unfolding list needs
loop_resumed M p X E U {w = w} a b =
    whole (loop p) (resumed X) (followed a again (λ d z. due (loop p) (resumed X) E (request p (resumed X) E) (inl refl) (d z))
    (λ e d z. due (loop p) (resumed X) E (request p start E) (inr (needed (request p start E) (some_ends (list p (resumed X) E)) (e z))) (d z))
    (λ ws vs k l. collected M (loop p) (resumed X) E U (follow_rows ws vs) (proper_follow k.proper l.proper)
    (λ F c. lists_sorted (lists_same (lists_follow (k.lists F c) (l.lists F c)) (alike_again (list p (resumed X) F) (list p start F))))
    (λ F c. then_quiet (request p (resumed X) F) (request p start F) (some_ends (list p (resumed X) F)) (k.quiet F c) (l.quiet F c)) (λ r m. m))
    (λ F c e. sorted_alike (list p (resumed X) F) (going (follow (list p (resumed X) F) (list p start F))) (alike_going (list p (resumed X) F) (list p start F) e))
    (λ F c e n. end_quiet (request p (resumed X) F) (request p start F) (some_ends (list p (resumed X) F)) e n))
  where
    again : Answers M (Due p start E U) E U (λ F. going (list p start F)) (crowded p start) (change_rows going_rows w)
    again =
        changed going_rows b (λ d. d) (λ vs k. collected M p start E U (going_rows vs) (proper_going k.proper) (λ F c. lists_going (k.lists F c)) k.quiet
        (λ r m. (going_out (list p start E) r m).0))

pub try_any : (M : ℕ) (p : Statement) (x : State) (E U : ℕ) {v : CappedRows} → Answered M p x E U v → Answered M (try p) x E U (change_rows caught_rows v)
unfolding list needs
try_any M p x E U a =
    whole (try p) x (changed caught_rows a (λ d z. due (try p) x E (request p x E) (inl refl) (d z))
    (λ ws k. collected M (try p) x E U (caught_rows ws) (proper_caught k.proper) (λ F c. lists_sorted (lists_caught (k.lists F c)))
    (λ F c. one_quiet (request p x F) (k.quiet F c)) (λ r m. m)))
