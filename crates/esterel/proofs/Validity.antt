-- What a table asks of its statement holds of the trimmed statement too, but for its size and depth. Levels stay in range
-- because try statements nest in the trimmed statement less deep than nodes in the statement.
use mathlib.Core.Path.{◌≡◌, refl, sym, ap, ap₂, subst}
use mathlib.Core.Logic.{inl, inr}
use mathlib.Core.Bool.{Bool, true, false, ◌||◌}
use Prim.Native.Nat.{ℕ, suc, pred, ◌+◌, ◌≤◌, ◌<◌, max}
use native.Mathlib.Omega.{arith}
use Rattle.sets.specs.Set.{has, Apart}
use Rattle.sets.proofs.Booleans.{not_true, clash}
use Rattle.sets.proofs.Members.{has_empty, empty_union}
use Rattle.esterel.specs.Statement.{Statement, nothing, pause, gotopause, emit, exit, signal, present, sequence, parallel, loop, try, pauses, depth, Valid}
use Rattle.esterel.specs.Reachability.{reach}
use Rattle.esterel.specs.Trimming.{shift_level, shift_exits, raise, lower, join_parts, can_end, trim_present, trim_try, trim, trimmed}
use Rattle.esterel.proofs.Premises.{LevelsFromOne}
use Rattle.esterel.proofs.Levels.{Shifted, shifted, pauses_shift, raise_lower}
use Rattle.esterel.proofs.Trimming.{by_leaf, by_join, by_signal, by_present, by_loop, by_try, kept_pauses}

-- a valid statement has levels of at least 1
pub valid_levels : (c : ℕ) (p : Statement) → Valid c p → LevelsFromOne p
unfolding Valid LevelsFromOne
valid_levels c nothing v = tt
valid_levels c (pause l) v = tt
valid_levels c (gotopause l) v = tt
valid_levels c (emit S) v = tt
valid_levels c (exit e) v = v.0
valid_levels c (signal S p) v = valid_levels c p v.1
valid_levels c (present S p q) v = (valid_levels c p v.1, valid_levels c q v.2)
valid_levels c (sequence p q) v = (valid_levels c p v.0, valid_levels c q v.1)
valid_levels c (parallel p q) v = (valid_levels c p v.0, valid_levels c q v.1)
valid_levels c (loop p) v = valid_levels c p v
valid_levels c (try p) v = valid_levels (suc c) p v

-- ---- how many try statements stand inside one another
unfoldable pub nested_tries : Statement → ℕ
nested_tries nothing = 0
nested_tries (pause l) = 0
nested_tries (gotopause l) = 0
nested_tries (emit S) = 0
nested_tries (exit e) = 0
nested_tries (signal S p) = nested_tries p
nested_tries (present S p q) = max (nested_tries p) (nested_tries q)
nested_tries (sequence p q) = max (nested_tries p) (nested_tries q)
nested_tries (parallel p q) = max (nested_tries p) (nested_tries q)
nested_tries (loop p) = nested_tries p
nested_tries (try p) = suc (nested_tries p)

nested_shift : (f : ℕ → ℕ) (c : ℕ) (p : Statement) → nested_tries (shift_exits f c p) ≡ nested_tries p
unfolding nested_tries shift_exits
nested_shift f c nothing = refl
nested_shift f c (pause l) = refl
nested_shift f c (gotopause l) = refl
nested_shift f c (emit S) = refl
nested_shift f c (exit e) = refl
nested_shift f c (signal S p) = nested_shift f c p
nested_shift f c (present S p q) = ap₂ max (nested_shift f c p) (nested_shift f c q)
nested_shift f c (sequence p q) = ap₂ max (nested_shift f c p) (nested_shift f c q)
nested_shift f c (parallel p q) = ap₂ max (nested_shift f c p) (nested_shift f c q)
nested_shift f c (loop p) = nested_shift f c p
nested_shift f c (try p) = ap suc (nested_shift f (suc c) p)

-- what is left of two parts is one of them, or both
nested_join : (f : Statement → Statement → Statement) (p q : Statement) (n : ℕ)
    → nested_tries p < n → nested_tries q < n → nested_tries (f p q) < n → nested_tries (join_parts f p q) < n
nested_join f p q n u v w = by_join (λ z. nested_tries z < n) f p q (λ e. v) (λ e. u) w

-- a resumed present adds one try, and takes one level of depth
nested_present : (ends : Bool) (p q : Statement) (n : ℕ) → nested_tries p < n → nested_tries q < n → nested_tries (trim_present ends p q) < suc n
unfolding nested_tries
nested_present ends p q n u v =
    by_present (λ z. nested_tries z < suc n) ends p q (λ e. omega arith)
    (λ e. nested_join sequence p q (suc n) (omega arith) (omega arith) (omega arith))
    (λ i j. let e = nested_shift suc 0 q in omega arith)

module _ (R : ℕ) where
  pub nested_trim : (p : Statement) (b : Bool) → nested_tries (trim R b p) < depth p
  unfolding trim nested_tries depth
  nested_trim nothing b = omega arith
  nested_trim (pause l) b = by_leaf (λ z. nested_tries z < 1) (b || has R l) (pause l) (omega arith) (omega arith)
  nested_trim (gotopause l) b = by_leaf (λ z. nested_tries z < 1) b (gotopause l) (omega arith) (omega arith)
  nested_trim (emit S) b = by_leaf (λ z. nested_tries z < 1) b (emit S) (omega arith) (omega arith)
  nested_trim (exit e) b = by_leaf (λ z. nested_tries z < 1) b (exit e) (omega arith) (omega arith)
  nested_trim (signal S p) b =
      let i = nested_trim p b in
      by_signal (λ z. nested_tries z < suc (depth p)) S (trim R b p) (omega arith) (λ e. omega arith)
  nested_trim (present S p q) true = let i = nested_trim p true in let j = nested_trim q true in omega arith
  nested_trim (present S p q) false =
      let i = nested_trim p false in
      let j = nested_trim q false in
      nested_present (can_end R false p) (trim R false p) (trim R false q) (max (depth p) (depth q)) (omega arith) (omega arith)
  nested_trim (sequence p q) b =
      let i = nested_trim p b in
      let j = nested_trim q (can_end R b p) in
      nested_join sequence (trim R b p) (trim R (can_end R b p) q) (suc (max (depth p) (depth q))) (omega arith) (omega arith) (omega arith)
  nested_trim (parallel p q) b =
      let i = nested_trim p b in
      let j = nested_trim q b in
      nested_join parallel (trim R b p) (trim R b q) (suc (max (depth p) (depth q))) (omega arith) (omega arith) (omega arith)
  nested_trim (loop p) b =
      let i = nested_trim p b in
      let j = nested_trim p true in
      by_loop (λ z. nested_tries z < suc (depth p)) (can_end R b p) b (λ c. trim R c p) (λ e. omega arith) (λ e. omega arith)
  nested_trim (try p) b =
      let i = nested_trim p b in
      by_try (λ z. nested_tries z < suc (depth p)) (trim R b p) (omega arith) (λ e. let j = nested_shift pred 0 (trim R b p) in omega arith)

-- ---- shifted statements
apart_shift : (j : ℕ) (p q : Statement) → Apart (pauses p) (pauses q) → Apart (pauses (shift_exits suc j p)) (pauses (shift_exits suc j q))
apart_shift j p q a = rw (pauses_shift suc j p, pauses_shift suc j q) a

apart_shift⁻ : (j : ℕ) (p q : Statement) → Apart (pauses (shift_exits suc j p)) (pauses (shift_exits suc j q)) → Apart (pauses p) (pauses q)
apart_shift⁻ j p q a = rw (pauses_shift suc j p, pauses_shift suc j q) at a

-- one more try around the statement
valid_raise : (j c : ℕ) (p : Statement) → suc c + nested_tries p ≤ 63 → Valid c p → Valid (suc c) (shift_exits suc j p)
unfolding Valid shift_exits nested_tries
valid_raise j c nothing h v = tt
valid_raise j c (pause l) h v = v
valid_raise j c (gotopause l) h v = v
valid_raise j c (emit S) h v = v
valid_raise j c (exit e) h v = go (shifted suc j e)
  where
    go : Shifted suc j e → (1 ≤ shift_level suc j e) × (shift_level suc j e ≤ 63) × (shift_level suc j e ≤ suc c)
    go (inl a) = (omega arith, omega arith, omega arith)
    go (inr a) = (omega arith, omega arith, omega arith)
valid_raise j c (signal S p) h v = (v.0, valid_raise j c p h v.1)
valid_raise j c (present S p q) h v = (v.0, valid_raise j c p (omega arith) v.1, valid_raise j c q (omega arith) v.2, apart_shift j p q v.3)
valid_raise j c (sequence p q) h v = (valid_raise j c p (omega arith) v.0, valid_raise j c q (omega arith) v.1, apart_shift j p q v.2)
valid_raise j c (parallel p q) h v = (valid_raise j c p (omega arith) v.0, valid_raise j c q (omega arith) v.1, apart_shift j p q v.2)
valid_raise j c (loop p) h v = valid_raise j c p h v
valid_raise j c (try p) h v = valid_raise (suc j) (suc c) p (omega arith) v

-- one try less around it; it stands in j of those that stay
valid_raise⁻ : (j c : ℕ) (p : Statement) → j ≤ c → Valid (suc c) (shift_exits suc j p) → Valid c p
unfolding Valid shift_exits
valid_raise⁻ j c nothing h v = tt
valid_raise⁻ j c (pause l) h v = v
valid_raise⁻ j c (gotopause l) h v = v
valid_raise⁻ j c (emit S) h v = v
valid_raise⁻ j c (exit e) h v = go (shifted suc j e)
  where
    go : Shifted suc j e → (1 ≤ e) × (e ≤ 63) × (e ≤ c)
    go (inl a) = (omega arith, omega arith, omega arith)
    go (inr a) = (omega arith, omega arith, omega arith)
valid_raise⁻ j c (signal S p) h v = (v.0, valid_raise⁻ j c p h v.1)
valid_raise⁻ j c (present S p q) h v = (v.0, valid_raise⁻ j c p h v.1, valid_raise⁻ j c q h v.2, apart_shift⁻ j p q v.3)
valid_raise⁻ j c (sequence p q) h v = (valid_raise⁻ j c p h v.0, valid_raise⁻ j c q h v.1, apart_shift⁻ j p q v.2)
valid_raise⁻ j c (parallel p q) h v = (valid_raise⁻ j c p h v.0, valid_raise⁻ j c q h v.1, apart_shift⁻ j p q v.2)
valid_raise⁻ j c (loop p) h v = valid_raise⁻ j c p h v
valid_raise⁻ j c (try p) h v = valid_raise⁻ (suc j) (suc c) p (omega arith) v

-- ---- what trimming makes is valid
valid_join : (c : ℕ) (f : Statement → Statement → Statement) (p q : Statement) → Valid c p → Valid c q → Valid c (f p q) → Valid c (join_parts f p q)
valid_join c f p q v w u = by_join (Valid c) f p q (λ e. w) (λ e. v) u

valid_try : (c : ℕ) (p : Statement) → Valid (suc c) p → Valid c (trim_try p)
valid_try c p v =
    by_try (Valid c) p (unfold Valid in v) (λ e. valid_raise⁻ 0 c (lower p) (omega arith) (subst (Valid (suc c)) (sym (raise_lower 0 p e)) v))

valid_present : (c : ℕ) (ends : Bool) (p q : Statement) → suc c + nested_tries q ≤ 63 → Valid c p → Valid c q → Apart (pauses p) (pauses q)
    → Valid c (trim_present ends p q)
unfolding Valid pauses
valid_present c ends p q h v w a =
    by_present (Valid c) ends p q (λ e. v) (λ e. valid_join c sequence p q v w (v, w, a))
    (λ e i. (v, ((omega arith, omega arith, omega arith), valid_raise 0 c q h w, λ x u. clash u (has_empty x)), rw (empty_union (pauses (raise q)), pauses_shift suc 0 q) a))

module _ (R : ℕ) where
  still_apart : (p q : Statement) (b c : Bool) → Apart (pauses p) (pauses q) → Apart (pauses (trim R b p)) (pauses (trim R c q))
  still_apart p q b c a l h = not_true (has (pauses (trim R c q)) l) (λ e. clash ((kept_pauses R q c).0 l e) (a l ((kept_pauses R p b).0 l h)))

  pub valid_trim : (c : ℕ) (p : Statement) (b : Bool) → c + depth p ≤ 64 → Valid c p → Valid c (trim R b p)
  unfolding trim depth Valid
  valid_trim c nothing b h v = tt
  valid_trim c (pause l) b h v = by_leaf (Valid c) (b || has R l) (pause l) v tt
  valid_trim c (gotopause l) b h v = by_leaf (Valid c) b (gotopause l) v tt
  valid_trim c (emit S) b h v = by_leaf (Valid c) b (emit S) v tt
  valid_trim c (exit e) b h v = by_leaf (Valid c) b (exit e) v tt
  valid_trim c (signal S p) b h v =
      let w = valid_trim c p b (omega arith) v.1 in by_signal (Valid c) S (trim R b p) (v.0, w) (λ e. w)
  valid_trim c (present S p q) true h v =
      (v.0, valid_trim c p true (omega arith) v.1, valid_trim c q true (omega arith) v.2, still_apart p q true true v.3)
  valid_trim c (present S p q) false h v =
      let i = nested_trim R q false in
      valid_present c (can_end R false p) (trim R false p) (trim R false q) (omega arith) (valid_trim c p false (omega arith) v.1)
      (valid_trim c q false (omega arith) v.2) (still_apart p q false false v.3)
  valid_trim c (sequence p q) b h v =
      let e : Bool = can_end R b p in
      let u = valid_trim c p b (omega arith) v.0 in
      let w = valid_trim c q e (omega arith) v.1 in
      valid_join c sequence (trim R b p) (trim R e q) u w (u, w, still_apart p q b e v.2)
  valid_trim c (parallel p q) b h v =
      let u = valid_trim c p b (omega arith) v.0 in
      let w = valid_trim c q b (omega arith) v.1 in
      valid_join c parallel (trim R b p) (trim R b q) u w (u, w, still_apart p q b b v.2)
  valid_trim c (loop p) b h v =
      let u = valid_trim c p true (omega arith) v in
      let w = valid_trim c p b (omega arith) v in
      by_loop (Valid c) (can_end R b p) b (λ c. trim R c p) (λ e. u) (λ e. w)
  valid_trim c (try p) b h v = valid_try c (trim R b p) (valid_trim (suc c) p b (omega arith) v)

-- the statement of a table, trimmed, could stand in a table but for its size and depth
pub valid_trimmed : (p : Statement) → depth p ≤ 60 → Valid 0 p → Valid 0 (trimmed p)
unfolding trimmed
valid_trimmed p h v = valid_trim (reach p).set 0 p true (omega arith) v
