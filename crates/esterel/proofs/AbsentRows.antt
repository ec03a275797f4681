-- A resumed part that the state has no label of has no rows, and never gives up: a lister need not look at it.
use mathlib.Core.Path.{◌≡◌, refl, ap, ap₂, ◌∙◌}
use mathlib.Core.Bool.{Bool, true, false, cond}
use mathlib.Core.List.{[], ◌++◌}
use mathlib.Core.Option.{none, some}
use Prim.Native.Nat.{ℕ}
use lib.Dec.{eqb}
use Rattle.sets.specs.Set.{has, only, ◌union◌, ◌intersect◌, ◌without◌, Apart}
use Rattle.sets.proofs.Booleans.{not_true, clash, by_cond}
use Rattle.sets.proofs.Members.{has_only, apart_union⁻, apart_test}
use Rattle.esterel.specs.Statement.{Statement, nothing, pause, gotopause, emit, exit, signal, present, sequence, parallel, loop, try, pauses}
use Rattle.esterel.specs.Reactions.{start, resumed}
use Rattle.esterel.specs.Trimming.{names}
use Rattle.esterel.specs.Listing.{reaction, some_ends}
use Rattle.esterel.specs.inner.Conditions.{slot_of}
use Rattle.esterel.specs.inner.Rows.{sure, only_rows, reactions, each_row, then, local_rows, hide_rows, caught_rows}
use Rattle.esterel.specs.inner.CappedRows.{CappedRows, sorted_rows, cap_rows, collect_rows, change_rows, join_rows, then_rows, beside_rows, otherwise, given_up, twice_rows, capped_rows}

abbrev Empty : CappedRows → Type 0
Empty v = v ≡ some []

joined : {v w : CappedRows} → Empty v → Empty w → Empty (join_rows ◌++◌ v w)
unfolding join_rows collect_rows cap_rows sorted_rows
joined e f = ap₂ (join_rows ◌++◌) e f

-- nothing ends, so nothing follows
followed : {v : CappedRows} (w : CappedRows) → Empty v → Empty (then_rows v w)
unfolding then_rows reactions some_ends
followed w e = ap (λ v. then_rows v w) e

-- as a signal, in each way
tried : (b : Bool) {v w : CappedRows} → Empty v → Empty w → Empty (otherwise (cond b v none) w)
unfolding otherwise
tried true {w = w} e f = ap (λ v. otherwise v w) e
tried false e f = f

twice : (S : ℕ) {v w : CappedRows} → Empty v → Empty w → Empty (twice_rows S v w)
unfolding twice_rows change_rows hide_rows collect_rows cap_rows sorted_rows each_row
twice S e f = joined (ap (change_rows (hide_rows S)) e) f

given_up_lem : (X : ℕ) (p : Statement) → Apart X (pauses p) → Empty (given_up (resumed X) p)
unfolding given_up
given_up_lem X p h = ap (λ b. cond b (some []) none) (apart_test X (pauses p) h)

pub absent_rows : (M : ℕ) (p : Statement) (X E U : ℕ) → Apart X (pauses p) → capped_rows M p (resumed X) E U ≡ some []
unfolding capped_rows pauses change_rows collect_rows cap_rows sorted_rows each_row then local_rows caught_rows beside_rows
absent_rows M nothing X E U h = refl
absent_rows M (pause l) X E U h = ap (λ b. some (only_rows b (sure (reaction 0 0 0)))) (not_true (has X l) (λ e. clash (has_only l) (h l e)))
absent_rows M (gotopause l) X E U h = refl
absent_rows M (emit S) X E U h = refl
absent_rows M (exit d) X E U h = refl
absent_rows M (signal S p) X E U h =
    let once = change_rows (local_rows S (slot_of M S)) (capped_rows M p (resumed X) E (U union only S)) in
    let exact = twice_rows S (capped_rows M p (resumed X) (E union only S) 0) (capped_rows M p (resumed X) (E without S) 0) in
    by_cond Empty (names S p) (otherwise (cond (has M S) once none) (cond (eqb U 0) exact (given_up (resumed X) p))) (capped_rows M p (resumed X) E U)
    (λ n. tried (has M S) (ap (change_rows (local_rows S (slot_of M S))) (absent_rows M p X E (U union only S) h))
    (by_cond Empty (eqb U 0) exact (given_up (resumed X) p) (λ e. twice S (absent_rows M p X (E union only S) 0 h) (absent_rows M p X (E without S) 0 h)) (λ e. given_up_lem X p h)))
    (λ n. absent_rows M p X E U h)
absent_rows M (present S p q) X E U h =
    let (a, b) = apart_union⁻ X (pauses p) (pauses q) h in joined (absent_rows M p X E U a) (absent_rows M q X E U b)
absent_rows M (sequence p q) X E U h =
    let (a, b) = apart_union⁻ X (pauses p) (pauses q) h in
    joined (followed (capped_rows M q start E U) (absent_rows M p X E U a)) (absent_rows M q X E U b)
absent_rows M (parallel p q) X E U h =
    let (a, b) = apart_union⁻ X (pauses p) (pauses q) h in
    ap (λ z. beside_rows z (eqb (X intersect pauses q) 0) (capped_rows M p (resumed X) E U) (capped_rows M q (resumed X) E U)) (apart_test X (pauses p) a) ∙ absent_rows M q X E U b
absent_rows M (loop p) X E U h = followed _ (absent_rows M p X E U h)
absent_rows M (try p) X E U h = ap (change_rows caught_rows) (absent_rows M p X E U h)
