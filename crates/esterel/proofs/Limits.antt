-- What refusals 14 and 17 count does not grow by trimming: signal statements nest no deeper, and no signal is emitted outside a
-- declaration of it that was not before. A declaration goes only where nothing left in its body names the signal.
use mathlib.Core.Path.{◌≡◌, refl, sym, ap, ap₂, ◌∙◌, subst}
use mathlib.Core.Bool.{Bool, true, false, ◌||◌}
use Prim.Native.Nat.{ℕ, suc, pred, ◌≤◌, max}
use native.Mathlib.Omega.{arith}
use lib.Dec.{eqb, ltb}
use borrow.Author.Tests.{ltb-true, lt-ltb}
use Rattle.sets.specs.Set.{has, only, ◌union◌, ◌without◌, Within, count}
use Rattle.sets.proofs.Booleans.{or_neither, clash, not_true, differ_eqb}
use Rattle.sets.proofs.Members.{has_empty, has_union, has_only_other, has_without_other, union_within, in_left, in_right, union_within_both}
use Rattle.sets.proofs.Counts.{count_within}
use Rattle.esterel.specs.Statement.{Statement, nothing, pause, gotopause, emit, exit, signal, present, sequence, parallel, loop, try}
use Rattle.esterel.specs.Reachability.{reach}
use Rattle.esterel.specs.Trimming.{names, shift_exits, raise, lower, join_parts, can_end, trim_present, trim, trimmed}
use Rattle.esterel.specs.Listing.{nesting}
use Rattle.esterel.specs.Stepping.{emitted_free, signals, many_free}
use Rattle.esterel.proofs.Conditions.{other}
use Rattle.esterel.proofs.Trimming.{by_leaf, by_join, by_signal, by_present, by_loop, by_try}

-- ---- exits count for neither

nesting_shift : (f : ℕ → ℕ) (c : ℕ) (p : Statement) → nesting (shift_exits f c p) ≡ nesting p
unfolding nesting shift_exits
nesting_shift f c nothing = refl
nesting_shift f c (pause l) = refl
nesting_shift f c (gotopause l) = refl
nesting_shift f c (emit S) = refl
nesting_shift f c (exit e) = refl
nesting_shift f c (signal S p) = ap suc (nesting_shift f c p)
nesting_shift f c (present S p q) = ap₂ max (nesting_shift f c p) (nesting_shift f c q)
nesting_shift f c (sequence p q) = ap₂ max (nesting_shift f c p) (nesting_shift f c q)
nesting_shift f c (parallel p q) = ap₂ max (nesting_shift f c p) (nesting_shift f c q)
nesting_shift f c (loop p) = nesting_shift f c p
nesting_shift f c (try p) = nesting_shift f (suc c) p

free_shift : (f : ℕ → ℕ) (c : ℕ) (p : Statement) → emitted_free (shift_exits f c p) ≡ emitted_free p
unfolding emitted_free shift_exits
free_shift f c nothing = refl
free_shift f c (pause l) = refl
free_shift f c (gotopause l) = refl
free_shift f c (emit S) = refl
free_shift f c (exit e) = refl
free_shift f c (signal S p) = ap (λ (m : ℕ). m without S) (free_shift f c p)
free_shift f c (present S p q) = ap₂ ◌union◌ (free_shift f c p) (free_shift f c q)
free_shift f c (sequence p q) = ap₂ ◌union◌ (free_shift f c p) (free_shift f c q)
free_shift f c (parallel p q) = ap₂ ◌union◌ (free_shift f c p) (free_shift f c q)
free_shift f c (loop p) = free_shift f c p
free_shift f c (try p) = free_shift f (suc c) p

-- ---- how deep signals nest

module _ (R : ℕ) where
  nesting_trim : (p : Statement) (b : Bool) → nesting (trim R b p) ≤ nesting p
  unfolding trim nesting
  nesting_trim nothing b = omega arith
  nesting_trim (pause l) b = by_leaf (λ z. nesting z ≤ 0) (b || has R l) (pause l) (omega arith) (omega arith)
  nesting_trim (gotopause l) b = by_leaf (λ z. nesting z ≤ 0) b (gotopause l) (omega arith) (omega arith)
  nesting_trim (emit S) b = by_leaf (λ z. nesting z ≤ 0) b (emit S) (omega arith) (omega arith)
  nesting_trim (exit e) b = by_leaf (λ z. nesting z ≤ 0) b (exit e) (omega arith) (omega arith)
  nesting_trim (signal S p) b =
      let i = nesting_trim p b in by_signal (λ z. nesting z ≤ suc (nesting p)) S (trim R b p) (omega arith) (λ e. omega arith)
  nesting_trim (present S p q) true = let i = nesting_trim p true in let j = nesting_trim q true in omega arith
  nesting_trim (present S p q) false =
      let i = nesting_trim p false in
      let j = nesting_trim q false in
      let e = nesting_shift suc 0 (trim R false q) in
      by_present (λ z. nesting z ≤ max (nesting p) (nesting q)) (can_end R false p) (trim R false p) (trim R false q) (λ k. omega arith)
      (λ k. by_join (λ z. nesting z ≤ max (nesting p) (nesting q)) sequence (trim R false p) (trim R false q) (λ l. omega arith) (λ l. omega arith) (omega arith))
      (λ k l. omega arith)
  nesting_trim (sequence p q) b =
      let i = nesting_trim p b in
      let j = nesting_trim q (can_end R b p) in
      by_join (λ z. nesting z ≤ max (nesting p) (nesting q)) sequence (trim R b p) (trim R (can_end R b p) q) (λ k. omega arith) (λ k. omega arith) (omega arith)
  nesting_trim (parallel p q) b =
      let i = nesting_trim p b in
      let j = nesting_trim q b in
      by_join (λ z. nesting z ≤ max (nesting p) (nesting q)) parallel (trim R b p) (trim R b q) (λ k. omega arith) (λ k. omega arith) (omega arith)
  nesting_trim (loop p) b =
      let i = nesting_trim p b in
      let j = nesting_trim p true in
      by_loop (λ z. nesting z ≤ nesting p) (can_end R b p) b (λ c. trim R c p) (λ e. omega arith) (λ e. omega arith)
  nesting_trim (try p) b =
      let i = nesting_trim p b in
      by_try (λ z. nesting z ≤ nesting p) (trim R b p) (omega arith) (λ e. let j = nesting_shift pred 0 (trim R b p) in omega arith)

-- ---- what is emitted outside a declaration

unnamed_free : (S : ℕ) (p : Statement) → names S p ≡ false → has (emitted_free p) S ≡ false
unfolding names emitted_free
unnamed_free S nothing n = has_empty S
unnamed_free S (pause l) n = has_empty S
unnamed_free S (gotopause l) n = has_empty S
unnamed_free S (emit T) n = has_only_other T S (λ e. differ_eqb S T n (sym e))
unnamed_free S (exit e) n = has_empty S
unnamed_free S (signal T p) n = not_true (has (emitted_free p without T) S) (λ h. clash (other (emitted_free p) T S h).1 (unnamed_free S p n))
unnamed_free S (present T p q) n =
    let (k, l) = or_neither (names S p) (names S q) (or_neither (eqb S T) (names S p || names S q) n).1 in
    has_union (emitted_free p) (emitted_free q) S ∙ ap₂ ◌||◌ (unnamed_free S p k) (unnamed_free S q l)
unnamed_free S (sequence p q) n =
    let (k, l) = or_neither (names S p) (names S q) n in has_union (emitted_free p) (emitted_free q) S ∙ ap₂ ◌||◌ (unnamed_free S p k) (unnamed_free S q l)
unnamed_free S (parallel p q) n =
    let (k, l) = or_neither (names S p) (names S q) n in has_union (emitted_free p) (emitted_free q) S ∙ ap₂ ◌||◌ (unnamed_free S p k) (unnamed_free S q l)
unnamed_free S (loop p) n = unnamed_free S p n
unnamed_free S (try p) n = unnamed_free S p n

-- what a statement emits outside a declaration is in F
abbrev Frees : ℕ → Statement → Type 0
Frees F p = Within (emitted_free p) F

frees_nothing : (F : ℕ) → Frees F nothing
unfolding emitted_free
frees_nothing F S h = clash h (has_empty S)

frees_signal : (F S : ℕ) (p : Statement) → names S p ≡ false → Frees F p → Frees (F without S) p
frees_signal F S p n f T h = has_without_other F S T (λ e. clash (subst (λ (z : ℕ). has (emitted_free p) z ≡ true) (sym e) h) (unnamed_free S p n)) ∙ f T h

frees_join : (F : ℕ) (f : Statement → Statement → Statement) (p q : Statement) → emitted_free (f p q) ≡ emitted_free p union emitted_free q
    → Frees F p → Frees F q → Frees F (join_parts f p q)
frees_join F f p q e g h =
    by_join (Frees F) f p q (λ k. h) (λ k. g) (subst (λ (m : ℕ). Within m F) (sym e) (union_within_both (emitted_free p) (emitted_free q) F g h))

frees_lower : (F : ℕ) (p : Statement) → Frees F p → Frees F (lower p)
frees_lower F p f = subst (λ (m : ℕ). Within m F) (sym (free_shift pred 0 p)) f

frees_present : (F : ℕ) (ends : Bool) (p q : Statement) → Frees F p → Frees F q → Frees F (trim_present ends p q)
unfolding emitted_free
frees_present F ends p q g h =
    by_present (Frees F) ends p q (λ e. g) (λ e. frees_join F sequence p q refl g h)
    (λ e i. union_within_both (emitted_free p) (0 union emitted_free (raise q)) F g
    (union_within_both 0 (emitted_free (raise q)) F (frees_nothing F) (subst (λ (m : ℕ). Within m F) (sym (free_shift suc 0 q)) h)))

module _ (R : ℕ) where
  free_trim : (p : Statement) (b : Bool) → Frees (emitted_free p) (trim R b p)
  unfolding trim emitted_free
  free_trim nothing b = frees_nothing 0
  free_trim (pause l) b = by_leaf (Frees 0) (b || has R l) (pause l) (frees_nothing 0) (frees_nothing 0)
  free_trim (gotopause l) b = by_leaf (Frees 0) b (gotopause l) (frees_nothing 0) (frees_nothing 0)
  free_trim (emit S) b = by_leaf (Frees (only S)) b (emit S) (λ T h. h) (frees_nothing (only S))
  free_trim (exit e) b = by_leaf (Frees 0) b (exit e) (frees_nothing 0) (frees_nothing 0)
  free_trim (signal S p) b =
      by_signal (Frees (emitted_free p without S)) S (trim R b p)
      (λ T h. let (n, k) = other (emitted_free (trim R b p)) S T h in has_without_other (emitted_free p) S T n ∙ free_trim p b T k)
      (λ n. frees_signal (emitted_free p) S (trim R b p) n (free_trim p b))
  free_trim (present S p q) true = union_within (emitted_free (trim R true p)) (emitted_free (trim R true q)) (emitted_free p) (emitted_free q) (free_trim p true) (free_trim q true)
  free_trim (present S p q) false =
      frees_present (emitted_free p union emitted_free q) (can_end R false p) (trim R false p) (trim R false q)
      (λ T h. in_left (emitted_free p) (emitted_free q) T (free_trim p false T h)) (λ T h. in_right (emitted_free p) (emitted_free q) T (free_trim q false T h))
  free_trim (sequence p q) b =
      frees_join (emitted_free p union emitted_free q) sequence (trim R b p) (trim R (can_end R b p) q) refl
      (λ T h. in_left (emitted_free p) (emitted_free q) T (free_trim p b T h)) (λ T h. in_right (emitted_free p) (emitted_free q) T (free_trim q (can_end R b p) T h))
  free_trim (parallel p q) b =
      frees_join (emitted_free p union emitted_free q) parallel (trim R b p) (trim R b q) refl
      (λ T h. in_left (emitted_free p) (emitted_free q) T (free_trim p b T h)) (λ T h. in_right (emitted_free p) (emitted_free q) T (free_trim q b T h))
  free_trim (loop p) b = by_loop (Frees (emitted_free p)) (can_end R b p) b (λ c. trim R c p) (λ e. free_trim p true) (λ e. free_trim p b)
  free_trim (try p) b = by_try (Frees (emitted_free p)) (trim R b p) (free_trim p b) (λ e. frees_lower (emitted_free p) (trim R b p) (free_trim p b))

-- ---- the trimmed statement

pub nesting_trimmed : (p : Statement) → nesting (trimmed p) ≤ nesting p
unfolding trimmed
nesting_trimmed p = nesting_trim (reach p).set p true

pub free_trimmed : (p : Statement) → Within (emitted_free (trimmed p)) (emitted_free p)
unfolding trimmed
free_trimmed p = free_trim (reach p).set p true

-- a limit that is kept is kept by what is less
still_few : (n a b : ℕ) → a ≤ b → ltb n b ≡ false → ltb n a ≡ false
still_few n a b l h = not_true (ltb n a) (λ e. let i = ltb-true n a e in clash (lt-ltb n b (omega arith)) h)

-- where 14 is not due, it is not for the trimmed statement; and so with 17
pub shallow_trimmed : (n : ℕ) (p : Statement) → ltb n (nesting p) ≡ false → ltb n (nesting (trimmed p)) ≡ false
shallow_trimmed n p h = still_few n (nesting (trimmed p)) (nesting p) (nesting_trimmed p) h

pub few_trimmed : (p : Statement) → many_free p ≡ false → many_free (trimmed p) ≡ false
unfolding many_free
few_trimmed p h =
    still_few 10 (count signals (emitted_free (trimmed p))) (count signals (emitted_free p)) (count_within signals (emitted_free (trimmed p)) (emitted_free p) (free_trimmed p)) h
