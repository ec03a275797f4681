-- The slots of the members of a set, gathered one after the other: those gathered and those of the members that are left are all.
use mathlib.Core.Path.{◌≡◌, sym, ap, ◌∙◌, subst}
use mathlib.Core.Bool.{true}
use Prim.Native.Nat.{ℕ, ◌≤◌}
use native.Mathlib.Decide.{ℕ_discrete}
use Rattle.sets.specs.Set.{has, only, ◌union◌, ◌intersect◌, ◌without◌, Within}
use Rattle.sets.proofs.Booleans.{and_both}
use Rattle.sets.proofs.Members.{has_intersect, has_only, has_only_equal, has_without_other, within_ext, ext, has_empty, union_empty, empty_union, union_swap, union_assoc, either, in_left, in_right, in_both}
use Rattle.sets.proofs.Counts.{count_width}
use Rattle.esterel.specs.inner.Conditions.{slot_of, seen}
use Rattle.esterel.proofs.Conditions.{other}
use Rattle.esterel.proofs.Slots.{seen_slot, has_seen, seen_empty, seen_added}

module _ (M F : ℕ) where
  pub record Gathered (rest slots : ℕ) : Type 0 where
    pub of : Within rest M
    pub all : seen M rest union slots ≡ seen M F

  seen_known : seen M (M intersect F) ≡ seen M F
  seen_known = within_ext (seen M (M intersect F)) (seen M F) there back
    where
      there : Within (seen M (M intersect F)) (seen M F)
      there s h =
          let (S, m, f, e) = seen_slot M (M intersect F) s h in
          subst (λ (z : ℕ). has (seen M F) z ≡ true) e (has_seen M F S m ∙ (in_both M F S f).1)

      back : Within (seen M F) (seen M (M intersect F))
      back s h =
          let (S, m, f, e) = seen_slot M F s h in
          subst (λ (z : ℕ). has (seen M (M intersect F)) z ≡ true) e (has_seen M (M intersect F) S m ∙ has_intersect M F S ∙ and_both (has M S) (has F S) m f)

  pub gathered_none : {rest : ℕ} → rest ≡ M intersect F → Gathered rest 0
  gathered_none e = subst (λ (z : ℕ). Gathered z 0) (sym e) (record {
    of = λ x h. (in_both M F x h).0;
    all = union_empty (seen M (M intersect F)) ∙ seen_known;
  })

  pub gathered_all : {rest slots : ℕ} → rest ≡ 0 → Gathered rest slots → slots ≡ seen M F
  gathered_all {rest} {slots} z g =
      let none : seen M 0 ≡ 0 = ext (seen M 0) 0 (λ s. seen_empty M s ∙ sym (has_empty s)) in
      sym (ap (λ (r : ℕ). r union slots) (ap (seen M) z ∙ none) ∙ empty_union slots) ∙ g.all

  swapped : (a b c : ℕ) → a union (b union c) ≡ (a union c) union b
  swapped a b c =
      sym (union_assoc a b c) ∙ ap (λ (z : ℕ). (a union b) union z) (sym (union_empty c)) ∙ union_swap a b c 0
      ∙ ap (λ (z : ℕ). (a union c) union z) (union_empty b)

  -- a member more
  pub gathered_more : {rest slots : ℕ} (S : ℕ) → has rest S ≡ true → Gathered rest slots → Gathered (rest without S) (slots union only (slot_of M S))
  gathered_more {rest} {slots} S h g = record {
    of = λ x k. g.of x (other rest S x k).1;
    all =
        swapped (seen M (rest without S)) slots (only (slot_of M S))
        ∙ ap (λ (z : ℕ). z union slots) (sym (seen_added M (rest without S) S (g.of S h)) ∙ ap (seen M) whole) ∙ g.all;
  }
    where
      there : Within ((rest without S) union only S) rest
      there x k =
          either (rest without S) (only S) x k (λ l. (other rest S x l).1) (λ l. subst (λ (z : ℕ). has rest z ≡ true) (has_only_equal S x l) h)

      back : Within rest ((rest without S) union only S)
      back x k = go (ℕ_discrete S x)
        where
          go : Dec (S ≡ x) → has ((rest without S) union only S) x ≡ true
          go (yes e) = in_right (rest without S) (only S) x (subst (λ (z : ℕ). has (only S) z ≡ true) e (has_only S))
          go (no n) = in_left (rest without S) (only S) x (has_without_other rest S x n ∙ k)

      whole : (rest without S) union only S ≡ rest
      whole = within_ext ((rest without S) union only S) rest there back

  pub gathered_next : {rest slots less more slot : ℕ} (S : ℕ) → has rest S ≡ true → Gathered rest slots → slot ≡ slot_of M S → more ≡ slots union only slot → less ≡ rest without S
      → Gathered less more
  gathered_next {rest} {slots} {more = more} S h g e f k =
      subst (λ (z : ℕ). Gathered z more) (sym k) (subst (Gathered (rest without S)) (sym (f ∙ ap (λ (z : ℕ). slots union only z) e)) (gathered_more S h g))

-- a slot is no higher than its signal
pub slot_low : (M S : ℕ) → slot_of M S ≤ S
slot_low M S = count_width S M
