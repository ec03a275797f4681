-- The rows of a resumed statement, from those of its children. A statement without a label of the state has none, and needs no
-- other list.
use mathlib.Core.Path.{◌≡◌, refl, sym, ap, ap₂, ◌∙◌}
use mathlib.Core.Bool.{Bool, true, false, cond, ◌&&◌}
use mathlib.Core.List.{[], ◌++◌}
use mathlib.Core.Option.{none, some}
use Prim.Native.Nat.{ℕ, ◌+◌}
use native.Mathlib.Omega.{arith}
use native.Mathlib.Decide.{ℕ_discrete}
use lib.Bits.{bit_and, and_zero_r}
use lib.Dec.{eqb}
use lib.ListN.{get_or}
use borrow.Author.Tests.{eq-eqb, ne_eqb}
use Rattle.sets.specs.Set.{has, only, ◌intersect◌}
use Rattle.sets.proofs.Members.{test_apart, has_intersect, has_only_other, has_empty, ext}
use Rattle.esterel.specs.Statement.{Statement, nothing, pause, gotopause, emit, exit, signal, pauses}
use Rattle.esterel.specs.Reactions.{start, resumed}
use Rattle.esterel.specs.Listing.{reaction}
use Rattle.esterel.specs.inner.Rows.{sure, only_rows, together_rows}
use Rattle.esterel.specs.inner.CappedRows.{CappedRows, join_rows, then_rows, beside_rows, given_up, capped_rows}
use Rattle.esterel.proofs.AbsentRows.{absent_rows}
use Rattle.table.specs.Reading.{kind_of_node, operand_of}
use Rattle.table.specs.inner.Places.{Placed, placed}
use Rattle.rows.specs.inner.Rules.{never, together_row, product}
use Rattle.rows.proofs.Rules.{product_parallel}
use Rattle.lister.specs.declared.noted.Noted.{Noted}
use Rattle.lister.specs.declared.noted.Prepared.{Prepared}
use Rattle.lister.specs.declared.presence.Presence.{Presence}
use Rattle.lister.specs.inner.Notes.{unnoted, place_at, part_at, labels_noted, ReadWhole}
use Rattle.lister.specs.inner.Joins.{rows_under, following}
use Rattle.lister.proofs.Nodes.{is_nothing_lem, is_pause, is_gotopause, is_emit, is_exit, is_signal, is_loop}
use Rattle.lister.proofs.Joins.{none_first, joined_as}
use Rattle.lister.proofs.Starts.{node, here, first, second, rows_here, rows_first, rows_second, as_read, as_placed, present_at, sequence_at, parallel_at}

-- ---- a state without a label there
pub quiet_rows : (g : Presence) (p : Statement) (X : ℕ) → X intersect pauses p ≡ 0 → rows_under g p (resumed X) ≡ some []
quiet_rows g p X h = absent_rows g.slotted p X g.assumed g.unknown (test_apart X (pauses p) (eq-eqb (X intersect pauses p) 0 h))

meets_one : (X l : ℕ) → (X intersect only l ≡ 0 → ⊥) → has X l ≡ true
meets_one X l h = go (has X l) refl
  where
    none_there : has X l ≡ false → (x : ℕ) → Dec (l ≡ x) → has (X intersect only l) x ≡ has 0 x
    none_there e x (yes d) = has_intersect X (only l) x ∙ ap (λ b. b && has (only l) x) (ap (has X) (sym d) ∙ e) ∙ sym (has_empty x)
    none_there e x (no d) = has_intersect X (only l) x ∙ ap (λ b. has X x && b) (has_only_other l x d) ∙ and_false (has X x) ∙ sym (has_empty x)
      where
        and_false : (b : Bool) → (b && false) ≡ false
        and_false true = refl
        and_false false = refl

    go : (b : Bool) → has X l ≡ b → b ≡ true
    go true e = refl
    go false e = absurd (h (ext (X intersect only l) 0 (λ x. none_there e x (ℕ_discrete l x))))

-- ---- the labels that are noted of a statement meet the state, or not
module _ (p : Prepared) {at : ℕ} (w : ReadWhole p.noted.count p.noted.nodes at) (X : ℕ) {own : ℕ} (e : own ≡ labels_noted p.unions (get_or p.noted.notes at unnoted)) where
  noted_pauses : own ≡ pauses (part_at p.noted.nodes at)
  noted_pauses = e ∙ (p.labels at (omega arith) w).right

  pub meets_not : bit_and X own ≡ 0 → X intersect pauses (part_at p.noted.nodes at) ≡ 0
  unfolding ◌intersect◌
  meets_not h = ap (bit_and X) (sym noted_pauses) ∙ h

  pub meets : (bit_and X own ≡ 0 → ⊥) → X intersect pauses (part_at p.noted.nodes at) ≡ 0 → ⊥
  unfolding ◌intersect◌
  meets h z = h (ap (bit_and X) noted_pauses ∙ z)

no_pauses : (X : ℕ) (p q : Statement) → p ≡ q → pauses q ≡ 0 → X intersect pauses p ≡ 0
unfolding ◌intersect◌
no_pauses X p q e h = ap (λ (z : Statement). bit_and X (pauses z)) e ∙ ap (bit_and X) h ∙ and_zero_r X

-- ---- a signal that is given up
pub signal_given_up : (s : Noted) {at : ℕ} → ReadWhole s.count s.nodes at → (X : ℕ) → kind_of_node (get_or s.nodes at 0) ≡ 5 → (X intersect pauses (part_at s.nodes at) ≡ 0 → ⊥)
    → given_up (resumed X) (part_at s.nodes (at + 1)) ≡ none
unfolding given_up pauses
signal_given_up s {at} w X e h =
    let p : Statement = part_at s.nodes (at + 1) in
    let i : part_at s.nodes at ≡ signal (operand_of (get_or s.nodes at 0)) p = ap (λ (q : Placed). q.statement) (is_signal w e).is in
    ap (λ (b : Bool). cond b (some []) none) (ne_eqb (X intersect pauses p) 0 (λ z. h (ap (λ (q : Statement). X intersect pauses q) i ∙ z)))

module _ (s : Noted) {at : ℕ} (w : ReadWhole s.count s.nodes at) (X : ℕ) (g : Presence) where
  -- ---- statements that have no pause
  without_pauses : (q : Statement) → place_at s.nodes at ≡ placed q (at + 1) → pauses q ≡ 0 → rows_here s w g (resumed X) ≡ some []
  without_pauses q e k = quiet_rows g (here s w) X (no_pauses X (here s w) q (ap (λ (p : Placed). p.statement) e) k)

  pub resumed_nothing : kind_of_node (node s w) ≡ 0 → rows_here s w g (resumed X) ≡ some []
  unfolding pauses
  resumed_nothing e = without_pauses nothing (is_nothing_lem w e) refl

  pub resumed_gotopause : kind_of_node (node s w) ≡ 2 → rows_here s w g (resumed X) ≡ some []
  unfolding pauses
  resumed_gotopause e = without_pauses (gotopause (operand_of (node s w))) (is_gotopause w e) refl

  pub resumed_emit : kind_of_node (node s w) ≡ 3 → rows_here s w g (resumed X) ≡ some []
  unfolding pauses
  resumed_emit e = without_pauses (emit (operand_of (node s w))) (is_emit w e) refl

  pub resumed_exit : kind_of_node (node s w) ≡ 4 → rows_here s w g (resumed X) ≡ some []
  unfolding pauses
  resumed_exit e = without_pauses (exit (operand_of (node s w))) (is_exit w e) refl

  -- ---- the others
  pub resumed_pause : kind_of_node (node s w) ≡ 1 → (X intersect pauses (here s w) ≡ 0 → ⊥) → rows_here s w g (resumed X) ≡ some (sure (reaction 0 0 0))
  unfolding capped_rows pauses
  resumed_pause e h =
      let l = operand_of (node s w) in
      let p : here s w ≡ pause l = ap (λ (q : Placed). q.statement) (is_pause w e) in
      let met : has X l ≡ true = meets_one X l (λ z. h (ap (λ (q : Statement). X intersect pauses q) p ∙ z)) in
      as_read s w g (resumed X) p ∙ ap (λ (z : Bool). some (only_rows z (sure (reaction 0 0 0)))) met

  pub resumed_loop : kind_of_node (node s w) ≡ 9 → then_rows (rows_first s w g (resumed X)) (following g true (first s w)) ≡ rows_here s w g (resumed X)
  unfolding capped_rows
  resumed_loop e = sym (as_placed s w g (resumed X) (is_loop w e).is)

  pub resumed_present : kind_of_node (node s w) ≡ 6 → join_rows ◌++◌ (rows_first s w g (resumed X)) (rows_second s w g (resumed X)) ≡ rows_here s w g (resumed X)
  unfolding capped_rows
  resumed_present e = sym (as_read s w g (resumed X) (present_at s w e))

  pub resumed_sequence : kind_of_node (node s w) ≡ 7
      → join_rows ◌++◌ (then_rows (rows_first s w g (resumed X)) (rows_second s w g start)) (rows_second s w g (resumed X)) ≡ rows_here s w g (resumed X)
  unfolding capped_rows
  resumed_sequence e = sym (as_read s w g (resumed X) (sequence_at s w e))

  module _ (e : kind_of_node (node s w) ≡ 8) where
    beside_is : (c d : Bool) → eqb (X intersect pauses (first s w)) 0 ≡ c → eqb (X intersect pauses (second s w)) 0 ≡ d
        → beside_rows c d (rows_first s w g (resumed X)) (rows_second s w g (resumed X)) ≡ rows_here s w g (resumed X)
    unfolding capped_rows
    beside_is c d u v =
        sym (ap₂ (λ (y z : Bool). beside_rows y z (rows_first s w g (resumed X)) (rows_second s w g (resumed X))) u v) ∙ sym (as_read s w g (resumed X) (parallel_at s w e))

    pub resumed_right : X intersect pauses (first s w) ≡ 0 → rows_second s w g (resumed X) ≡ rows_here s w g (resumed X)
    unfolding beside_rows
    resumed_right h = beside_is true (eqb (X intersect pauses (second s w)) 0) (eq-eqb (X intersect pauses (first s w)) 0 h) refl

    pub resumed_left : (X intersect pauses (first s w) ≡ 0 → ⊥) → X intersect pauses (second s w) ≡ 0 → rows_first s w g (resumed X) ≡ rows_here s w g (resumed X)
    unfolding beside_rows
    resumed_left h k = beside_is false true (ne_eqb (X intersect pauses (first s w)) 0 h) (eq-eqb (X intersect pauses (second s w)) 0 k)

    pub resumed_first_none : (X intersect pauses (first s w) ≡ 0 → ⊥) → rows_first s w g (resumed X) ≡ none → rows_here s w g (resumed X) ≡ none
    unfolding beside_rows
    resumed_first_none h i =
        sym (beside_is false (eqb (X intersect pauses (second s w)) 0) (ne_eqb (X intersect pauses (first s w)) 0 h) refl)
        ∙ ap (λ (z : CappedRows). beside_rows false (eqb (X intersect pauses (second s w)) 0) z (rows_second s w g (resumed X))) i ∙ go (eqb (X intersect pauses (second s w)) 0)
      where
        go : (b : Bool) → beside_rows false b none (rows_second s w g (resumed X)) ≡ none
        go true = refl
        go false = none_first together_rows none (rows_second s w g (resumed X)) refl

    pub resumed_both : (X intersect pauses (first s w) ≡ 0 → ⊥) → (X intersect pauses (second s w) ≡ 0 → ⊥)
        → join_rows (product never together_row) (rows_first s w g (resumed X)) (rows_second s w g (resumed X)) ≡ rows_here s w g (resumed X)
    unfolding beside_rows
    resumed_both h k =
        joined_as (rows_first s w g (resumed X)) (rows_second s w g (resumed X)) (λ ws vs i. product_parallel ws vs)
        ∙ beside_is false false (ne_eqb (X intersect pauses (first s w)) 0 h) (ne_eqb (X intersect pauses (second s w)) 0 k)
