-- What becomes of one row.
use Rattle.std.proofs.Common.{◌≡◌, zero, suc, refl, sym, ap, ◌∙◌, Bool, true, false, ◌||◌, eqb, List, [], ◌∷◌, ℕ, ◌≤◌, arith}
use Rattle.std.specs.List.{list_any}
use Rattle.sets.specs.Set.{has, ◌without◌}
use Rattle.esterel.specs.Codes.{through}
use Rattle.esterel.specs.Listing.{reaction, some_ends}
use Rattle.esterel.specs.inner.Conditions.{Condition, forget}
use Rattle.esterel.specs.inner.Rows.{Row, row_when, local_row, reactions}
use Rattle.rows.specs.declared.row.Row.{Row as Packed}
use Rattle.rows.specs.inner.Layout.{unpacked}
use Rattle.rows.specs.inner.Area.{all_rows}
use Rattle.rows.specs.inner.Rules.{hide_row, caught_row}

pub through_below : (k : ℕ) → through k ≤ k
unfolding through
through_below zero = omega arith
through_below (suc zero) = omega arith
through_below (suc (suc zero)) = omega arith
through_below (suc (suc (suc k))) = omega arith

-- of the condition c of w
pub rest_as : (w : Row) (s : ℕ) {y : Row} {c d : Condition} → y ≡ row_when d w.reacts → d ≡ forget s c → c ≡ w.when → y ≡ row_when (forget s w.when) w.reacts
rest_as w s e f g = e ∙ ap (λ (z : Condition). row_when z w.reacts) (f ∙ ap (forget s) g)

pub needs_as : (s : ℕ) {c k : Condition} {b d : Bool} → c ≡ k → b ≡ has c.on s → b ≡ d → has k.on s ≡ d
needs_as s e f g = sym (ap (λ (z : Condition). has z.on s) e) ∙ sym f ∙ g

module _ (S o : ℕ) (w : Row) (e : o ≡ w.reacts.emitted) where
  emits : (b : Bool) → has o S ≡ b → has w.reacts.emitted S ≡ b
  emits b h = sym (ap (λ (z : ℕ). has z S) e) ∙ h

  pub hide_none : has o S ≡ false → [] ≡ hide_row S w
  unfolding hide_row
  hide_none h = rw (emits false h)

  pub hide_one : (rest : ℕ) (x : Row) → has o S ≡ true → rest ≡ o without S → x ≡ row_when w.when (reaction rest w.reacts.code w.reacts.reached) → x ∷ [] ≡ hide_row S w
  unfolding hide_row
  hide_one rest x h f g =
      let t : rest ≡ w.reacts.emitted without S = f ∙ ap (λ (z : ℕ). z without S) e in
      ap (λ (y : Row). y ∷ []) (g ∙ ap (λ (z : ℕ). row_when w.when (reaction z w.reacts.code w.reacts.reached)) t) ∙ sym (rw (emits true h))

  -- y is w without what it says of the slot s
  module _ (s : ℕ) (y : Row) (forgot : y ≡ row_when (forget s w.when) w.reacts) where
    pub local_present : (rest : ℕ) (x : Row) → has o S ≡ true → rest ≡ o without S → x ≡ row_when y.when (reaction rest y.reacts.code y.reacts.reached) → x ∷ [] ≡ local_row S s w
    unfolding local_row
    local_present rest x h f g =
        let t : rest ≡ w.reacts.emitted without S = f ∙ ap (λ (z : ℕ). z without S) e in
        let u : x ≡ row_when (forget s w.when) (reaction rest w.reacts.code w.reacts.reached) = g ∙ ap (λ (z : Row). row_when z.when (reaction rest z.reacts.code z.reacts.reached)) forgot in
        ap (λ (z : Row). z ∷ []) (u ∙ ap (λ (z : ℕ). row_when (forget s w.when) (reaction z w.reacts.code w.reacts.reached)) t) ∙ sym (rw (emits true h))

    pub local_absent : has o S ≡ false → has w.when.on s ≡ false → y ∷ [] ≡ local_row S s w
    unfolding local_row
    local_absent h k = ap (λ (z : Row). z ∷ []) forgot ∙ sym (rw (emits false h, k))

  pub local_gone : (s : ℕ) → has o S ≡ false → has w.when.on s ≡ true → [] ≡ local_row S s w
  unfolding local_row
  local_gone s h k = rw (emits false h, k)

pub caught_one : (w x : Row) (j k : ℕ) → j ≡ w.reacts.code → k ≡ through j → x ≡ row_when w.when (reaction w.reacts.emitted k w.reacts.reached) → x ∷ [] ≡ caught_row w
unfolding caught_row
caught_one w x j k e f g =
    let t : k ≡ through w.reacts.code = f ∙ ap through e in
    ap (λ (y : Row). y ∷ []) (g ∙ ap (λ (z : ℕ). row_when w.when (reaction w.reacts.emitted z w.reacts.reached)) t)

pub any_ends : (a : List Packed) → list_any (λ r. eqb (unpacked r).reacts.code 0) a ≡ some_ends (reactions (all_rows a))
unfolding some_ends reactions
any_ends [] = refl
any_ends (r ∷ a) = ap (λ (b : Bool). eqb (unpacked r).reacts.code 0 || b) (any_ends a)

-- what the changes of the code are shown by
pub ruleset change_laws = (through_below, caught_one, hide_none, hide_one)
