-- The bound on what trimming adds is reached: 63 gotopauses side by side, and behind them presents over the 63 pauses that they name.
use mathlib.Core.Path.{◌≡◌, refl, ap, ap₂, ◌∙◌}
use mathlib.Core.Bool.{true}
use Prim.Native.Nat.{ℕ, zero, suc, ◌+◌, ◌≤◌, ◌<◌}
use native.Mathlib.Omega.{arith}
use Rattle.sets.specs.Set.{has, only, ◌union◌, ◌intersect◌, Apart}
use Rattle.sets.proofs.Booleans.{clash, not_true}
use Rattle.sets.proofs.Members.{has_empty, either, has_only_equal}
use Rattle.esterel.specs.Statement.{Statement, pause, gotopause, present, sequence, parallel, pauses, pause_count, size, depth, Valid}
use Rattle.esterel.specs.Codes.{labels, none, just_ended, just_at, join, minus_zero, has_low, not_below, no_lower_than, maximum, s, d}
use Rattle.esterel.specs.Reachability.{next_r, reach_from, reach}
use Rattle.esterel.specs.Trimming.{is_nothing, join_parts, shift_exits, can_end, trim_present, trim, trimmed}

-- a tree of f with `leaves n` leaves, each g of its label; the labels go up from l
unfoldable pub leaves : ℕ → ℕ
leaves zero = 1
leaves (suc n) = suc (leaves n + leaves n)

unfoldable pub tree : (Statement → Statement → Statement) → (ℕ → Statement) → ℕ → ℕ → Statement
tree f g zero l = g l
tree f g (suc n) l = f (g l) (f (tree f g n (suc l)) (tree f g n (suc l + leaves n)))

abbrev gotos : ℕ → ℕ → Statement
gotos = tree parallel gotopause

abbrev tests : ℕ → ℕ → Statement
tests = tree (present 0) pause

-- no node is deeper than 12, and every present grows: each of its branches is entered by a gotopause
unfoldable pub most : Statement
most = sequence (gotos 5 1) (tests 5 1)

-- ---- It is valid
-- the first tree has no pauses, so its parts share no label of one
gotos_pauses : (n l : ℕ) → pauses (gotos n l) ≡ 0
unfolding tree pauses ◌union◌
gotos_pauses zero l = refl
gotos_pauses (suc n) l = ap₂ (λ (a b : ℕ). 0 union (a union b)) (gotos_pauses n (suc l)) (gotos_pauses n (suc l + leaves n))

gotos_apart : (n l a : ℕ) → Apart (pauses (gotos n l)) a
gotos_apart n l a x h = clash h (ap (λ (z : ℕ). has z x) (gotos_pauses n l) ∙ has_empty x)

gotos_valid : (n l : ℕ) → 1 ≤ l → l + leaves n ≤ 64 → Valid 0 (gotos n l)
unfolding tree leaves Valid pauses
gotos_valid zero l i j = (omega arith, omega arith)
gotos_valid (suc n) l i j = (
  (omega arith, omega arith),
  (gotos_valid n (suc l) (omega arith) (omega arith), gotos_valid n (suc l + leaves n) (omega arith) (omega arith), gotos_apart n (suc l) (pauses (gotos n (suc l + leaves n)))),
  λ x h. clash h (has_empty x),
)

-- the labels of the second tree are from l on, and each of its parts has the next of them
abbrev From : ℕ → Type 0
From n = (l x : ℕ) → has (pauses (tests n l)) x ≡ true → (l ≤ x) × (x < l + leaves n)

tests_after : (n : ℕ) → From n → (l x : ℕ) → has (pauses (tests n (suc l)) union pauses (tests n (suc l + leaves n))) x ≡ true → (l < x) × (x < l + leaves (suc n))
unfolding leaves
tests_after n f l x h =
    either (pauses (tests n (suc l))) (pauses (tests n (suc l + leaves n))) x h
    (λ k. let (i, j) = f (suc l) x k in (omega arith, omega arith)) (λ k. let (i, j) = f (suc l + leaves n) x k in (omega arith, omega arith))

tests_from : (n : ℕ) → From n
unfolding tree leaves pauses
tests_from zero l x h = let e = has_only_equal l x h in (omega arith, omega arith)
tests_from (suc n) l x h =
    either (only l) (pauses (tests n (suc l)) union pauses (tests n (suc l + leaves n))) x h
    (λ k. let e = has_only_equal l x k in (omega arith, omega arith)) (λ k. let (i, j) = tests_after n (tests_from n) l x k in (omega arith, j))

tests_valid : (n l : ℕ) → 1 ≤ l → l + leaves n ≤ 64 → Valid 0 (tests n l)
unfolding tree leaves Valid pauses
tests_valid zero l i j = (omega arith, omega arith)
tests_valid (suc n) l i j = (
  omega arith,
  (omega arith, omega arith),
  (
    omega arith,
    tests_valid n (suc l) (omega arith) (omega arith),
    tests_valid n (suc l + leaves n) (omega arith) (omega arith),
    λ x h. not_true (has (pauses (tests n (suc l + leaves n))) x) (λ k. omega (arith, tests_from n (suc l) x h, tests_from n (suc l + leaves n) x k)),
  ),
  λ x h. not_true (has (pauses (tests n (suc l)) union pauses (tests n (suc l + leaves n))) x) (λ k. omega (arith, has_only_equal l x h, tests_after n (tests_from n) l x k)),
)

pub most_valid : Valid 0 most
unfolding most leaves Valid
most_valid = (gotos_valid 5 1 (omega arith) (omega arith), tests_valid 5 1 (omega arith) (omega arith), gotos_apart 5 1 (pauses (tests 5 1)))

-- ---- It grows as much as any: 437 nodes of 251 are 1,741 thousandths
pub most_nodes : (size most ≡ 251) × (depth most ≡ 12) × (size (trimmed most) ≡ 437) × (depth (trimmed most) ≡ 32)
unfolding most tree leaves size depth trimmed reach reach_from next_r pause_count pauses trim is_nothing join_parts shift_exits can_end trim_present s d labels
    none just_ended just_at join minus_zero has_low not_below no_lower_than maximum has only ◌union◌ ◌intersect◌
most_nodes = (refl, refl, refl, refl)
