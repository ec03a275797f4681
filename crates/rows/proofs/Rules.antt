-- Changes and products of rows are those of esterel, for rows whose own conditions do not clash, as those of a statement do not. A test
-- of an unknown signal may be made in three steps.
use mathlib.Core.Path.{◌≡◌, refl, sym, ap, ap₂, ◌∙◌}
use mathlib.Core.Logic.{inl, inr}
use mathlib.Core.Bool.{Bool, true, false, cond, not}
use mathlib.Core.List.{List, [], ◌∷◌, ◌++◌, append-nil, append_assoc}
use mathlib.Core.Option.{none, some}
use Prim.Native.Nat.{ℕ, ◌≤◌}
use native.Mathlib.Omega.{arith}
use native.Mathlib.Decide.{dec_le}
use lib.Dec.{eqb}
use lib.ListN.{length}
use borrow.Author.Tests.{not-false}
use Rattle.sets.specs.Set.{only, ◌union◌, ◌intersect◌, Within, Apart}
use Rattle.sets.proofs.Booleans.{clash}
use Rattle.sets.proofs.Members.{union_empty, apart_union⁻, union_apart⁻, apart_test, test_apart}
use Rattle.esterel.specs.Statement.{Statement}
use Rattle.esterel.specs.Codes.{through}
use Rattle.esterel.specs.Reactions.{State, Reaction}
use Rattle.esterel.specs.Listing.{Listed, reaction, pair}
use Rattle.esterel.specs.inner.Conditions.{Condition, condition, always, both, clashes}
use Rattle.esterel.specs.inner.Rows.{Row, row_when, sure, only_rows, each_row, given, then, tested, local_rows, hide_rows, follow_rows, together_rows, going_rows, caught_rows, local_row}
use Rattle.esterel.specs.inner.CappedRows.{CappedRows, sorted_rows, cap_rows, collect_rows, change_rows, join_rows, capped_rows}
use Rattle.esterel.proofs.Order.{append_left, append_right}
use Rattle.esterel.proofs.Proper.{all_out}
use Rattle.esterel.proofs.CappedRows.{capped_rows_are}
use Rattle.rows.specs.inner.Rules.{Clashless, unless_clash, hide_row, given_row, going_row, caught_row, follow_row, together_row, goes_on, never, joined_all, pairs, product}
use Rattle.rows.proofs.Members.{same_append, same_sorted, sorted_length, collect_same, cap_some, cap_none}

-- ---- conditions
clashless_apart : (c : Condition) → clashes c ≡ false → Apart c.on c.off
unfolding clashes
clashless_apart c h = test_apart c.on c.off (not-false (eqb (c.on intersect c.off) 0) h)

apart_clashless : (c : Condition) → Apart c.on c.off → clashes c ≡ false
unfolding clashes
apart_clashless c h = ap not (apart_test c.on c.off h)

-- a condition that clashes does so with every other
clash_both : (c d : Condition) → clashes (both c d) ≡ false → clashes d ≡ false
unfolding both
clash_both c d h =
    let a = clashless_apart (both c d) h in
    apart_clashless d (apart_union⁻ d.on c.off d.off (union_apart⁻ c.on d.on (c.off union d.off) a).1).1

both_always : (c : Condition) → both c always ≡ c
unfolding both always
both_always c = λ i. condition (union_empty c.on i) (union_empty c.off i)

-- the conditions of a statement's rows do not clash
pub capped_clashless : (M : ℕ) (p : Statement) (x : State) (E U : ℕ) → Within U M → (ws : List Row) → capped_rows M p x E U ≡ some ws → Clashless ws
capped_clashless M p x E U h ws e w m = apart_clashless w.when (all_out (capped_rows_are M p x E U ws h e).proper w m).apart

-- ---- rows one by one
each_same : (ws : List Row) (f g : Row → List Row) → ((w : Row) → Listed w ws → f w ≡ g w) → each_row ws f ≡ each_row ws g
unfolding each_row
each_same [] f g h = refl
each_same (w ∷ ws) f g h = ap₂ ◌++◌ (h w (inl refl)) (each_same ws f g (λ v m. h v (inr m)))

pub unless_one : (w : Row) → clashes w.when ≡ false → unless_clash w ≡ w ∷ []
unfolding unless_clash
unless_one w e = rw e

pub unless_none : (w : Row) → clashes w.when ≡ true → unless_clash w ≡ []
unfolding unless_clash
unless_none w e = rw e

-- a row under a condition
abbrev also : Condition → Row → Row
also c w = row_when (both c w.when) w.reacts

given_one : (c : Condition) (w : Row) → given c (w ∷ []) ≡ unless_clash (also c w)
unfolding given each_row unless_clash
given_one c w = append-nil (unless_clash (also c w))

given_sure : (c : Condition) (r : Reaction) → given c (sure r) ≡ unless_clash (row_when c r)
given_sure c r = given_one c (row_when always r) ∙ ap (λ (d : Condition). unless_clash (row_when d r)) (both_always c)

given_none : (c : Condition) → given c [] ≡ []
unfolding given each_row
given_none c = refl

given_unless : (c : Condition) (w : Row) → given c (unless_clash w) ≡ unless_clash (also c w)
given_unless c w = go (clashes w.when) refl (clashes (both c w.when)) refl
  where
    go : (b : Bool) → clashes w.when ≡ b → (d : Bool) → clashes (both c w.when) ≡ d → given c (unless_clash w) ≡ unless_clash (also c w)
    go false e d f = ap (given c) (unless_one w e) ∙ given_one c w
    go true e false f = clash e (clash_both c w.when f)
    go true e true f = ap (given c) (unless_none w e) ∙ given_none c ∙ sym (unless_none (also c w) f)

given_append : (c : Condition) (ws vs : List Row) → given c (ws ++ vs) ≡ given c ws ++ given c vs
unfolding given each_row
given_append c [] vs = refl
given_append c (w ∷ ws) vs =
    let xs : List Row = only_rows (not (clashes (both c w.when))) (row_when (both c w.when) w.reacts ∷ []) in
    ap (λ (z : List Row). xs ++ z) (given_append c ws vs) ∙ sym (append_assoc xs (given c ws) (given c vs))

given_each : (c : Condition) (vs : List Row) (f : Row → List Row) → given c (each_row vs f) ≡ each_row vs (λ v. given c (f v))
unfolding each_row given
given_each c [] f = refl
given_each c (v ∷ vs) f = given_append c (f v) (each_row vs f) ∙ ap (λ (z : List Row). given c (f v) ++ z) (given_each c vs f)

-- ---- changes
pub change_hide : (S : ℕ) (ws : List Row) → each_row ws (hide_row S) ≡ hide_rows S ws
unfolding hide_row hide_rows
change_hide S ws = refl

pub change_local : (S s : ℕ) (ws : List Row) → each_row ws (local_row S s) ≡ local_rows S s ws
unfolding local_rows
change_local S s ws = refl

pub change_given : (c : Condition) (ws : List Row) → each_row ws (given_row c) ≡ given c ws
unfolding given_row unless_clash given
change_given c ws = refl

pub change_going : (ws : List Row) → Clashless ws → each_row ws going_row ≡ going_rows ws
unfolding going_row going_rows then
change_going ws h =
    each_same ws going_row (λ w. given w.when (only_rows (not (eqb w.reacts.code 0)) (sure w.reacts))) (λ w m. go w (h w m) (not (eqb w.reacts.code 0)))
  where
    go : (w : Row) → clashes w.when ≡ false → (b : Bool) → only_rows b (w ∷ []) ≡ given w.when (only_rows b (sure w.reacts))
    go w e true = sym (given_sure w.when w.reacts ∙ unless_one w e)
    go w e false = sym (given_none w.when)

pub change_caught : (ws : List Row) → Clashless ws → each_row ws caught_row ≡ caught_rows ws
unfolding caught_row caught_rows then
change_caught ws h =
    let f : Reaction → Reaction = λ r. reaction r.emitted (through r.code) r.reached in
    each_same ws caught_row (λ w. given w.when (sure (f w.reacts)))
    (λ w m. sym (given_sure w.when (f w.reacts) ∙ unless_one (row_when w.when (f w.reacts)) (h w m)))

-- ---- products
-- a row under c with each of vs
met : (c : Condition) (vs : List Row) (f : Reaction → Reaction)
    → given c (then vs (λ t. sure (f t))) ≡ each_row vs (λ v. unless_clash (row_when (both c v.when) (f v.reacts)))
unfolding then
met c vs f =
    given_each c vs (λ v. given v.when (sure (f v.reacts)))
    ∙ each_same vs (λ v. given c (given v.when (sure (f v.reacts)))) (λ v. unless_clash (row_when (both c v.when) (f v.reacts)))
    (λ v m. ap (given c) (given_sure v.when (f v.reacts)) ∙ given_unless c (row_when v.when (f v.reacts)))

pub product_parallel : (ws vs : List Row) → product never together_row ws vs ≡ together_rows ws vs
unfolding product pairs joined_all together_row together_rows then
product_parallel ws vs =
    each_same ws (pairs never together_row vs) (λ w. given w.when (then vs (λ t. sure (pair w.reacts t)))) (λ w m. sym (met w.when vs (pair w.reacts)))

pub product_sequence : (ws vs : List Row) → Clashless ws → product goes_on follow_row ws vs ≡ follow_rows ws vs
unfolding product pairs joined_all goes_on follow_row follow_rows then
product_sequence ws vs h =
    each_same ws (pairs goes_on follow_row vs) (λ w. given w.when (cond (eqb w.reacts.code 0) (then vs (λ t. sure (after w t))) (sure w.reacts)))
    (λ w m. go w (h w m) (eqb w.reacts.code 0))
  where
    after : Row → Reaction → Reaction
    after w t = reaction (w.reacts.emitted union t.emitted) t.code t.reached

    go : (w : Row) → clashes w.when ≡ false → (b : Bool)
        → cond (not b) (w ∷ []) (joined_all follow_row vs w) ≡ given w.when (cond b (then vs (λ t. sure (after w t))) (sure w.reacts))
    go w e true = sym (met w.when vs (after w))
    go w e false = sym (given_sure w.when w.reacts ∙ unless_one w e)

-- ---- lists made one, step by step
pub append_collected : (ws vs : List Row) → join_rows ◌++◌ (collect_rows ws) (collect_rows vs) ≡ collect_rows (ws ++ vs)
unfolding join_rows collect_rows
append_collected ws vs = go (dec_le (length (sorted_rows ws)) 64) (dec_le (length (sorted_rows vs)) 64)
  where
    first : length (sorted_rows ws) ≤ length (sorted_rows (ws ++ vs))
    first = sorted_length ws (ws ++ vs) (λ r m. append_left r ws vs m)

    second : length (sorted_rows vs) ≤ length (sorted_rows (ws ++ vs))
    second = sorted_length vs (ws ++ vs) (λ r m. append_right r ws vs m)

    joined_by : {v w : CappedRows} → cap_rows (sorted_rows ws) ≡ v → cap_rows (sorted_rows vs) ≡ w → join_rows ◌++◌ (cap_rows (sorted_rows ws)) (cap_rows (sorted_rows vs)) ≡ join_rows ◌++◌ v w
    joined_by e f = ap₂ (join_rows ◌++◌) e f

    go : Dec (length (sorted_rows ws) ≤ 64) → Dec (length (sorted_rows vs) ≤ 64) → join_rows ◌++◌ (cap_rows (sorted_rows ws)) (cap_rows (sorted_rows vs)) ≡ collect_rows (ws ++ vs)
    go (yes h) (yes k) =
        joined_by (cap_some (sorted_rows ws) h) (cap_some (sorted_rows vs) k)
        ∙ collect_same (same_append (sorted_rows ws) ws (sorted_rows vs) vs (same_sorted ws) (same_sorted vs))
    go (yes h) (no k) = joined_by (cap_some (sorted_rows ws) h) (cap_none (sorted_rows vs) (omega arith)) ∙ sym (cap_none (sorted_rows (ws ++ vs)) (let s = second in omega arith))
    go (no h) k = joined_by (cap_none (sorted_rows ws) (omega arith)) refl ∙ sym (cap_none (sorted_rows (ws ++ vs)) (let s = first in omega arith))

-- each branch of a test with its condition, then both as one list
pub tested_steps : (s : ℕ) (v w : CappedRows)
    → join_rows (tested s) v w ≡ join_rows ◌++◌ (change_rows (given (condition (only s) 0)) v) (change_rows (given (condition 0 (only s))) w)
unfolding join_rows change_rows tested
tested_steps s none w = refl
tested_steps s (some ws) none = nothing (collect_rows (given (condition (only s) 0) ws))
  where
    nothing : (v : CappedRows) → none ≡ join_rows ◌++◌ v none
    nothing none = refl
    nothing (some vs) = refl
tested_steps s (some ws) (some vs) = split
  where
    split : collect_rows (tested s ws vs) ≡ join_rows ◌++◌ (collect_rows (given (condition (only s) 0) ws)) (collect_rows (given (condition 0 (only s)) vs))
    split = sym (append_collected (given (condition (only s) 0) ws) (given (condition 0 (only s)) vs))
