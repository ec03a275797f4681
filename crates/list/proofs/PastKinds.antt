-- None of the kinds 0 to 10: what is known where a decision over the kinds has passed them all. No proof asks for it today, since
-- `omega` finds it; it stands since docs/PORT.md names it.
use mathlib.Core.Path.{◌≡◌}
use Prim.Native.Nat.{ℕ, suc, ◌≤◌}
use native.Mathlib.Omega.{arith}

-- a number that is at least m and is not m
pub past : (m k : ℕ) → m ≤ k → (k ≡ m → ⊥) → suc m ≤ k
past m k h f = omega arith

pub above_ten : (k : ℕ) → (k ≡ 0 → ⊥) → (k ≡ 1 → ⊥) → (k ≡ 2 → ⊥) → (k ≡ 3 → ⊥) → (k ≡ 4 → ⊥) → (k ≡ 5 → ⊥) → (k ≡ 6 → ⊥) → (k ≡ 7 → ⊥) → (k ≡ 8 → ⊥) → (k ≡ 9 → ⊥) → (k ≡ 10 → ⊥) → 11 ≤ k
above_ten k n0 n1 n2 n3 n4 n5 n6 n7 n8 n9 n10 =
    past 10 k (past 9 k (past 8 k (past 7 k (past 6 k (past 5 k (past 4 k (past 3 k (past 2 k (past 1 k (past 0 k (omega arith) n0) n1) n2) n3) n4) n5) n6) n7) n8) n9) n10

pub none_of_kinds : {A : Type 0} (k : ℕ)
    → ((((((((((A × (k ≡ 0 → ⊥)) × (k ≡ 1 → ⊥)) × (k ≡ 2 → ⊥)) × (k ≡ 3 → ⊥)) × (k ≡ 4 → ⊥)) × (k ≡ 5 → ⊥)) × (k ≡ 6 → ⊥)) × (k ≡ 7 → ⊥)) × (k ≡ 8 → ⊥)) × (k ≡ 9 → ⊥)) × (k ≡ 10 → ⊥)
    → 11 ≤ k
none_of_kinds k ((((((((((((a, n0), n1), n2), n3), n4), n5), n6), n7), n8), n9), n10)) = above_ten k n0 n1 n2 n3 n4 n5 n6 n7 n8 n9 n10
