-- The exits that are left in a trimmed statement, from those left in its children: at each level of the statement an exit
-- ends exactly if one did at that level of a child, a level more inside a try.
use mathlib.Core.Path.{◌≡◌, refl, sym, ap₂, ◌∙◌}
use mathlib.Core.Bool.{Bool, true, false, cond, ◌||◌}
use Prim.Native.Nat.{ℕ, zero, suc, pred, ◌≤◌}
use native.Mathlib.Omega.{arith}
use borrow.Author.Tests.{ne_eqb}
use lib.Dec.{eqb, eqb-suc-suc, eqb-zero-suc}
use Rattle.sets.specs.Set.{has}
use Rattle.esterel.specs.Codes.{join}
use Rattle.sets.proofs.Booleans.{or_false, or_left, or_right, or_neither, clash}
use Rattle.esterel.specs.Statement.{Statement, nothing, pause, gotopause, emit, exit, signal, present, sequence, parallel, loop, try}
use Rattle.esterel.specs.Trimming.{join_parts, ends_at, shift_level, shift_exits, can_end, trim_loop, trim_present, trim}
use Rattle.esterel.proofs.Trimming.{by_join, by_signal, by_present, by_try}
use Rattle.trim.proofs.Levels.{by_shift}

-- ---- shifted exits

level_raised : (c d e : ℕ) → c ≤ d → eqb (shift_level suc c e) (suc (suc d)) ≡ eqb e (suc d)
level_raised c d e h =
    by_shift (λ n. eqb n (suc (suc d)) ≡ eqb e (suc d)) suc c e
    (λ l. ne_eqb e (suc (suc d)) (λ z. omega arith) ∙ sym (ne_eqb e (suc d) (λ z. omega arith)))
    (λ l. eqb-suc-suc e (suc d))

level_lowered : (c d e : ℕ) → c ≤ d → eqb e (suc c) ≡ false → eqb (shift_level pred c e) (suc d) ≡ eqb e (suc (suc d))
level_lowered c d zero h n = by_shift (λ m. eqb m (suc d) ≡ eqb 0 (suc (suc d))) pred c 0 (λ l. eqb-zero-suc d ∙ sym (eqb-zero-suc (suc d))) (λ l. absurd (omega arith))
level_lowered c d (suc e) h n =
    by_shift (λ m. eqb m (suc d) ≡ eqb (suc e) (suc (suc d))) pred c (suc e)
    (λ l. ne_eqb (suc e) (suc d) (λ z. omega arith) ∙ sym (ne_eqb (suc e) (suc (suc d)) (λ z. omega arith)))
    (λ l. sym (eqb-suc-suc e (suc d)))

ends_raise : (c d : ℕ) (p : Statement) → c ≤ d → ends_at (suc d) (shift_exits suc c p) ≡ ends_at d p
unfolding ends_at shift_exits
ends_raise c d nothing h = refl
ends_raise c d (pause l) h = refl
ends_raise c d (gotopause l) h = refl
ends_raise c d (emit S) h = refl
ends_raise c d (exit e) h = level_raised c d e h
ends_raise c d (signal S p) h = ends_raise c d p h
ends_raise c d (present S p q) h = ap₂ ◌||◌ (ends_raise c d p h) (ends_raise c d q h)
ends_raise c d (sequence p q) h = ap₂ ◌||◌ (ends_raise c d p h) (ends_raise c d q h)
ends_raise c d (parallel p q) h = ap₂ ◌||◌ (ends_raise c d p h) (ends_raise c d q h)
ends_raise c d (loop p) h = ends_raise c d p h
ends_raise c d (try p) h = ends_raise (suc c) (suc d) p (omega arith)

ends_lower : (c d : ℕ) (p : Statement) → c ≤ d → ends_at c p ≡ false → ends_at d (shift_exits pred c p) ≡ ends_at (suc d) p
unfolding ends_at shift_exits
ends_lower c d nothing h n = refl
ends_lower c d (pause l) h n = refl
ends_lower c d (gotopause l) h n = refl
ends_lower c d (emit S) h n = refl
ends_lower c d (exit e) h n = level_lowered c d e h n
ends_lower c d (signal S p) h n = ends_lower c d p h n
ends_lower c d (present S p q) h n = let m = or_neither (ends_at c p) (ends_at c q) n in ap₂ ◌||◌ (ends_lower c d p h m.0) (ends_lower c d q h m.1)
ends_lower c d (sequence p q) h n = let m = or_neither (ends_at c p) (ends_at c q) n in ap₂ ◌||◌ (ends_lower c d p h m.0) (ends_lower c d q h m.1)
ends_lower c d (parallel p q) h n = let m = or_neither (ends_at c p) (ends_at c q) n in ap₂ ◌||◌ (ends_lower c d p h m.0) (ends_lower c d q h m.1)
ends_lower c d (loop p) h n = ends_lower c d p h n
ends_lower c d (try p) h n = ends_lower (suc c) (suc d) p (omega arith) n

-- ---- what trimming makes

module _ (d : ℕ) where
  ends_join : (f : Statement → Statement → Statement) → ((p q : Statement) → ends_at d (f p q) ≡ (ends_at d p || ends_at d q)) → (p q : Statement)
      → ends_at d (join_parts f p q) ≡ (ends_at d p || ends_at d q)
  unfolding ends_at
  ends_join f h p q =
      by_join (λ t. ends_at d t ≡ (ends_at d p || ends_at d q)) f p q (λ e. rw e) (λ e. rw e (sym (or_false (ends_at d p)))) (h p q)

  ends_present : (z : Bool) (p q : Statement) → ends_at d (trim_present z p q) ≡ (ends_at d p || ends_at d q)
  unfolding ends_at
  ends_present z p q =
      by_present (λ t. ends_at d t ≡ (ends_at d p || ends_at d q)) z p q (λ e. rw e (sym (or_false (ends_at d p))))
      (λ e. ends_join sequence (λ x y. refl) p q)
      (λ e i. ap₂ (λ (x y : Bool). ends_at d p || (x || y)) (ne_eqb 1 (suc (suc d)) (λ e. omega arith)) (ends_raise 0 d q (omega arith)))

  module _ (R : ℕ) (b : Bool) where
    pub ends_signal : (S : ℕ) (p : Statement) → ends_at d (trim R b (signal S p)) ≡ ends_at d (trim R b p)
    unfolding trim ends_at
    ends_signal S p = by_signal (λ t. ends_at d t ≡ ends_at d (trim R b p)) S (trim R b p) refl (λ e. refl)

    pub ends_sequence : (p q : Statement) → ends_at d (trim R b (sequence p q)) ≡ (ends_at d (trim R b p) || ends_at d (trim R (can_end R b p) q))
    unfolding trim ends_at
    ends_sequence p q = ends_join sequence (λ x y. refl) (trim R b p) (trim R (can_end R b p) q)

    pub ends_parallel : (p q : Statement) → ends_at d (trim R b (parallel p q)) ≡ (ends_at d (trim R b p) || ends_at d (trim R b q))
    unfolding trim ends_at
    ends_parallel p q = ends_join parallel (λ x y. refl) (trim R b p) (trim R b q)

    pub ends_loop : (p : Statement) → ends_at d (trim R b (loop p)) ≡ ends_at d (trim R (can_end R b p || b) p)
    unfolding trim trim_loop ends_at
    ends_loop p = go (can_end R b p)
      where
        go : (z : Bool) → ends_at d (trim_loop z b (λ c. trim R c p)) ≡ ends_at d (trim R (z || b) p)
        go true = refl
        go false = refl

    pub ends_try : (p : Statement) → ends_at d (trim R b (try p)) ≡ ends_at (suc d) (trim R b p)
    unfolding trim ends_at
    ends_try p = by_try (λ t. ends_at d t ≡ ends_at (suc d) (trim R b p)) (trim R b p) refl (λ e. ends_lower 0 d (trim R b p) (omega arith) e)

  pub ends_branches : (R : ℕ) (b : Bool) (S : ℕ) (p q : Statement) → ends_at d (trim R b (present S p q)) ≡ (ends_at d (trim R b p) || ends_at d (trim R b q))
  unfolding trim ends_at
  ends_branches R true S p q = refl
  ends_branches R false S p q = ends_present (can_end R false p) (trim R false p) (trim R false q)

or_both : {x y x' y' : Bool} → (x || y) ≡ true → (x ≡ true → x' ≡ true) → (y ≡ true → y' ≡ true) → (x' || y') ≡ true
or_both {x} {y} {x'} {y'} h f g = go x y h f g
  where
    go : (x y : Bool) → (x || y) ≡ true → (x ≡ true → x' ≡ true) → (y ≡ true → y' ≡ true) → (x' || y') ≡ true
    go true y h f g = or_left y' (f refl)
    go false y h f g = or_right x' (g h)

-- ---- what is left of a statement that is only resumed is left of it where it is started

ends_sooner : (R : ℕ) (p : Statement) → can_end R false p ≡ true → can_end R true p ≡ true
unfolding can_end join
ends_sooner R p h = or_left _ h

if_not : (d : ℕ) (z : Bool) (t : Statement) → ends_at d t ≡ false → ends_at d (cond z t nothing) ≡ true → ⊥
unfolding ends_at
if_not d true t h e = clash e h
if_not d false t h e = clash e refl

pub ends_more : (d R : ℕ) (p : Statement) → ends_at d (trim R false p) ≡ true → ends_at d (trim R true p) ≡ true
unfolding trim ends_at
ends_more d R nothing h = h
ends_more d R (pause l) h = absurd (if_not d (has R l) (pause l) refl h)
ends_more d R (gotopause l) h = absurd (clash h refl)
ends_more d R (emit S) h = absurd (clash h refl)
ends_more d R (exit e) h = absurd (clash h refl)
ends_more d R (signal S p) h = ends_signal d R true S p ∙ ends_more d R p (sym (ends_signal d R false S p) ∙ h)
ends_more d R (present S p q) h =
    ends_branches d R true S p q ∙ or_both (sym (ends_branches d R false S p q) ∙ h) (ends_more d R p) (ends_more d R q)
ends_more d R (sequence p q) h =
    ends_sequence d R true p q ∙ or_both (sym (ends_sequence d R false p q) ∙ h) (ends_more d R p) (then (can_end R false p) (can_end R true p) (ends_sooner R p) (ends_more d R q))
  where
    then : (y z : Bool) → (y ≡ true → z ≡ true) → (ends_at d (trim R false q) ≡ true → ends_at d (trim R true q) ≡ true)
        → ends_at d (trim R y q) ≡ true → ends_at d (trim R z q) ≡ true
    then true z f g e = rw (f refl) e
    then false true f g e = g e
    then false false f g e = e
ends_more d R (parallel p q) h =
    ends_parallel d R true p q ∙ or_both (sym (ends_parallel d R false p q) ∙ h) (ends_more d R p) (ends_more d R q)
ends_more d R (loop p) h =
    ends_loop d R true p ∙ again (can_end R false p) (can_end R true p) (ends_more d R p) (sym (ends_loop d R false p) ∙ h)
  where
    again : (y z : Bool) → (ends_at d (trim R false p) ≡ true → ends_at d (trim R true p) ≡ true)
        → ends_at d (trim R (y || false) p) ≡ true → ends_at d (trim R (z || true) p) ≡ true
    again true true g e = e
    again true false g e = e
    again false true g e = g e
    again false false g e = g e
ends_more d R (try p) h = ends_try d R true p ∙ ends_more (suc d) R p (sym (ends_try d R false p) ∙ h)
