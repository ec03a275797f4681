-- How much larger than a statement its trimmed form can be. Only a present that is trimmed with the flag 0 grows, by 3 nodes, and
-- then each of its branches has a pause that a gotopause names: with k such pauses trimming adds at most 3 k - 3 nodes. A label has
-- one pause and, here, a gotopause, which are leaves, so that 4 k is at most the size plus 1; and labels are 1 to 63.
use mathlib.Core.Path.{◌≡◌, refl, ap, ◌∙◌, subst}
use mathlib.Core.Logic.{◌⊎◌, inl, inr, ⊎_elim}
use mathlib.Core.Bool.{Bool, true, false, ◌||◌}
use Prim.Native.Nat.{ℕ, suc, pred, ◌+◌, ◌*◌, ◌≤◌, ◌<◌, max}
use native.Mathlib.Decide.{dec_le}
use native.Mathlib.Nat.{div-lt_iff_lt-mul, le_of_suc-le-suc}
use native.Mathlib.Omega.{arith}
use Rattle.sets.specs.Set.{has, ◌union◌, ◌intersect◌, count}
use Rattle.sets.proofs.Booleans.{and_both, clash, not_true}
use Rattle.sets.proofs.Members.{has_empty, either, has_intersect, in_both, has_only_equal, meet}
use Rattle.sets.proofs.Counts.{count_within, count_empty, count_only, count_union, count_apart, count_some, count_labels}
use Rattle.esterel.specs.Statement.{Statement, nothing, pause, gotopause, emit, exit, signal, present, sequence, parallel, loop, try, pauses, size, Valid}
use Rattle.esterel.specs.Codes.{Codes, none, d}
use Rattle.esterel.specs.Reachability.{reach}
use Rattle.esterel.specs.Trimming.{is_nothing, join_parts, can_end, trim_loop, trim_present, trim, trimmed}
use Rattle.esterel.specs.Shares.{thousandths}
use Rattle.esterel.proofs.Sizes.{size_positive}
use Rattle.esterel.proofs.Levels.{size_shift}
use Rattle.esterel.proofs.Trimming.{by_leaf, by_join, by_signal, by_present, by_loop, by_try}
use Rattle.esterel.proofs.Idle.{idle}
use Rattle.esterel.proofs.Jumps.{jumps, PartOf, whole, declared, then_branch, else_branch, first, second, left, right, repeated, tried, Named, named}

-- ---- Counting labels
-- the labels of two parts, from those of each
two_few : (p q : Statement) → 2 * (count 64 (pauses p) + count 64 (jumps p)) ≤ size p + 1 → 2 * (count 64 (pauses q) + count 64 (jumps q)) ≤ size q + 1
    → 2 * (count 64 (pauses p union pauses q) + count 64 (jumps p union jumps q)) ≤ suc (size p + size q) + 1
two_few p q i j = omega (arith, count_union 64 (pauses p) (pauses q), count_union 64 (jumps p) (jumps q))

-- pauses and gotopauses are leaves
labels_few : (p : Statement) → 2 * (count 64 (pauses p) + count 64 (jumps p)) ≤ size p + 1
unfolding pauses jumps size
labels_few nothing = omega (arith, count_empty 64)
labels_few (pause l) = omega (arith, count_empty 64, count_only 64 l)
labels_few (gotopause l) = omega (arith, count_empty 64, count_only 64 l)
labels_few (emit S) = omega (arith, count_empty 64)
labels_few (exit e) = omega (arith, count_empty 64)
labels_few (signal S p) = let i = labels_few p in omega arith
labels_few (present S p q) = two_few p q (labels_few p) (labels_few q)
labels_few (sequence p q) = two_few p q (labels_few p) (labels_few q)
labels_few (parallel p q) = two_few p q (labels_few p) (labels_few q)
labels_few (loop p) = let i = labels_few p in omega arith
labels_few (try p) = let i = labels_few p in omega arith

-- a gotopause of a valid statement names a label from 1 to 63
abbrev InRange : ℕ → Type 0
InRange l = (1 ≤ l) × (l ≤ 63)

valid_jumps : (c : ℕ) (p : Statement) → Valid c p → (l : ℕ) → has (jumps p) l ≡ true → InRange l
unfolding jumps Valid
valid_jumps c nothing v l h = clash h (has_empty l)
valid_jumps c (pause m) v l h = clash h (has_empty l)
valid_jumps c (gotopause m) v l h = subst InRange (has_only_equal m l h) v
valid_jumps c (emit S) v l h = clash h (has_empty l)
valid_jumps c (exit e) v l h = clash h (has_empty l)
valid_jumps c (signal S p) v l h = valid_jumps c p v.1 l h
valid_jumps c (present S p q) v l h = either (jumps p) (jumps q) l h (valid_jumps c p v.1 l) (valid_jumps c q v.2 l)
valid_jumps c (sequence p q) v l h = either (jumps p) (jumps q) l h (valid_jumps c p v.0 l) (valid_jumps c q v.1 l)
valid_jumps c (parallel p q) v l h = either (jumps p) (jumps q) l h (valid_jumps c p v.0 l) (valid_jumps c q v.1 l)
valid_jumps c (loop p) v l h = valid_jumps c p v l h
valid_jumps c (try p) v l h = valid_jumps (suc c) p v l h

-- ---- The sizes of what trimming makes
-- a part that is nothing is dropped
size_join : (f : Statement → Statement → Statement) (p q : Statement) → size (f p q) ≡ suc (size p + size q) → size (join_parts f p q) ≤ suc (size p + size q)
size_join f p q e = by_join (λ z. size z ≤ suc (size p + size q)) f p q (λ i. omega arith) (λ i. omega arith) (omega arith)

-- a present that is only resumed: this alone adds nodes
size_present : (ends : Bool) (p q : Statement) (n : ℕ) → size p + size q + 4 ≤ n → (ends ≡ true → is_nothing q ≡ false → size p + size q + 7 ≤ n)
    → size (trim_present ends p q) + 3 ≤ n
unfolding size
size_present ends p q n i f =
    by_present (λ z. size z + 3 ≤ n) ends p q (λ e. omega arith) (λ e. omega (arith, size_join sequence p q refl)) (λ e k. omega (arith, f e k, size_shift suc 0 q))

-- how many pauses of the part p the gotopauses of the program w name
abbrev entered : Statement → Statement → ℕ
entered w p = count 64 (pauses p intersect jumps w)

module _ (w : Statement) (c : ℕ) (v : Valid c w) where
  abbrev R : ℕ
  R = (reach w).set

  -- a part that is only resumed goes, or a gotopause names a pause of it
  entered_or_idle : (p : Statement) → PartOf R w false p → ((trim R false p ≡ nothing) × (d R p ≡ none)) ⊎ (1 ≤ entered w p)
  entered_or_idle p a = ⊎_elim (λ t. inr (some (named w c v p a t.0 t.1 t.2))) (λ z. inl (idle R p z)) (meet R (pauses p))
    where
      some : Named w p → 1 ≤ entered w p
      some (l, h, k) =
          let (i, j) = valid_jumps c w v l k in
          count_some 64 (pauses p intersect jumps w) l (omega arith) (has_intersect (pauses p) (jumps w) l ∙ and_both (has (pauses p) l) (has (jumps w) l) h k)

  -- such a part that can end, or that is left, has a named pause
  entered_ending : (p : Statement) → PartOf R w false p → can_end R false p ≡ true → 1 ≤ entered w p
  unfolding can_end none
  entered_ending p a h = ⊎_elim (λ t. clash h (ap (λ (K : Codes). K.ends) t.1)) (λ i. i) (entered_or_idle p a)

  entered_kept : (p : Statement) → PartOf R w false p → is_nothing (trim R false p) ≡ false → 1 ≤ entered w p
  unfolding is_nothing
  entered_kept p a h = ⊎_elim (λ t. clash (ap is_nothing t.0) h) (λ i. i) (entered_or_idle p a)

  -- a part in which no pause is named does not grow either: hence the maximum
  grown : (t : ℕ) (p : Statement) (b : Bool) → Valid t p → PartOf R w b p → size (trim R b p) + 3 ≤ size p + 3 * max 1 (entered w p)
  unfolding trim trim_loop size pauses Valid
  grown t nothing b u a = omega arith
  grown t (pause l) b u a = by_leaf (λ z. size z + 3 ≤ 1 + 3 * max 1 (entered w (pause l))) (b || has R l) (pause l) (omega arith) (omega arith)
  grown t (gotopause l) b u a = by_leaf (λ z. size z + 3 ≤ 1 + 3 * max 1 (entered w (gotopause l))) b (gotopause l) (omega arith) (omega arith)
  grown t (emit S) b u a = by_leaf (λ z. size z + 3 ≤ 1 + 3 * max 1 (entered w (emit S))) b (emit S) (omega arith) (omega arith)
  grown t (exit e) b u a = by_leaf (λ z. size z + 3 ≤ 1 + 3 * max 1 (entered w (exit e))) b (exit e) (omega arith) (omega arith)
  grown t (signal S p) b u a =
      let i = grown t p b u.1 (declared a) in
      by_signal (λ z. size z + 3 ≤ suc (size p) + 3 * max 1 (entered w p)) S (trim R b p) (omega arith) (λ e. omega arith)
  grown t (present S p q) true u a =
      let i = grown t p true u.1 (then_branch a) in
      let j = grown t q true u.2 (else_branch a) in
      omega (arith, count_apart 64 (pauses p) (pauses q) (jumps w) u.3)
  grown t (present S p q) false u a =
      let i = grown t p false u.1 (then_branch a) in
      let j = grown t q false u.2 (else_branch a) in
      let k = count_apart 64 (pauses p) (pauses q) (jumps w) u.3 in
      size_present (can_end R false p) (trim R false p) (trim R false q) (suc (size p + size q) + 3 * max 1 (entered w (present S p q))) (omega arith)
      (λ e f. omega (arith, entered_ending p (then_branch a) e, entered_kept q (else_branch a) f))
  grown t (sequence p q) b u a =
      let i = grown t p b u.0 (first a) in
      let j = grown t q (can_end R b p) u.1 (second a) in
      omega (arith, count_apart 64 (pauses p) (pauses q) (jumps w) u.2, size_join sequence (trim R b p) (trim R (can_end R b p) q) refl)
  grown t (parallel p q) b u a =
      let i = grown t p b u.0 (left a) in
      let j = grown t q b u.1 (right a) in
      omega (arith, count_apart 64 (pauses p) (pauses q) (jumps w) u.2, size_join parallel (trim R b p) (trim R b q) refl)
  grown t (loop p) b u a =
      by_loop (λ z. size z + 3 ≤ suc (size p) + 3 * max 1 (entered w p)) (can_end R b p) b (λ c. trim R c p)
      (λ e. let i = grown t p true u (subst (λ (z : Bool). PartOf R w (z || b) p) e (repeated a)) in omega arith)
      (λ e. let i = grown t p b u (subst (λ (z : Bool). PartOf R w (z || b) p) e (repeated a)) in omega arith)
  grown t (try p) b u a =
      let i = grown (suc t) p b u (tried a) in
      by_try (λ z. size z + 3 ≤ suc (size p) + 3 * max 1 (entered w p)) (trim R b p) (omega arith) (λ e. let j = size_shift pred 0 (trim R b p) in omega arith)

-- ---- The bound

-- the trimmed form is no larger, or k pauses are named by gotopauses and it is larger by at most 3 k - 3
abbrev pub Grown : Statement → Type 0
Grown p = (size (trimmed p) ≤ size p) ⊎ ((k : ℕ) × (k ≤ 63) × (4 * k ≤ size p + 1) × (size (trimmed p) + 3 ≤ size p + 3 * k))

pub growth : (c : ℕ) (p : Statement) → Valid c p → Grown p
unfolding trimmed
growth c p v = go (dec_le (entered p p) 1) (grown p c v c p true v whole)
  where
    small : entered p p ≤ 63
    small = count_labels (pauses p intersect jumps p) (not_true (has (pauses p intersect jumps p) 0) (λ h. let i = valid_jumps c p v 0 (in_both (pauses p) (jumps p) 0 h).1 in omega arith))

    few : 4 * entered p p ≤ size p + 1
    few =
        let i = count_within 64 (pauses p intersect jumps p) (pauses p) (λ l h. (in_both (pauses p) (jumps p) l h).0) in
        let j = count_within 64 (pauses p intersect jumps p) (jumps p) (λ l h. (in_both (pauses p) (jumps p) l h).1) in
        omega (arith, labels_few p)

    go : Dec (entered p p ≤ 1) → size (trimmed p) + 3 ≤ size p + 3 * max 1 (entered p p) → Grown p
    go (yes l) i = inl (omega arith)
    go (no l) i = inr (entered p p, small, few, omega arith)

-- in nodes
pub size_trimmed : (p : Statement) → Valid 0 p → size (trimmed p) ≤ size p + 186
size_trimmed p v = go (growth 0 p v)
  where
    go : Grown p → size (trimmed p) ≤ size p + 186
    go (inl i) = omega arith
    go (inr (k, i, j, h)) = omega arith

-- and in thousandths; a statement of 251 nodes comes to as many (GrowthExamples)
pub thousandths_most : (p : Statement) → Valid 0 p → thousandths (size p) (size (trimmed p)) ≤ 1741
thousandths_most p v = le_of_suc-le-suc ((div-lt_iff_lt-mul (size_positive p)).1 (go (growth 0 p v)))
  where
    go : Grown p → 1000 * size (trimmed p) < 1742 * size p
    go (inl i) = let j = size_positive p in omega arith
    go (inr (k, i, j, h)) = omega arith
