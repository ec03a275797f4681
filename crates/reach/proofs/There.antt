-- The node that is there, by the tests that a walk over the nodes makes.
use mathlib.Core.Path.{◌≡◌, sym, ◌∙◌}
use mathlib.Core.Logic.{◌≢◌, ◌⊎◌, inl, inr, ⊎_elim}
use mathlib.Core.Bool.{true, false}
use mathlib.Core.List.{List}
use Prim.Native.Nat.{ℕ, ◌≤◌, ◌<◌}
use native.Mathlib.Omega.{arith}
use borrow.Author.Tests.{leb-true, leb-false, le-leb, lt-leb}
use lib.Dec.{leb}
use lib.ListN.{length, get_or}
use Rattle.table.specs.Reading.{kind_of_node}
use Rattle.table.proofs.Places.{Node}

pub there : {left : ℕ} {nodes : List ℕ} {at k kind : ℕ} → left ≢ 0 → length nodes ≡ 1024 → leb 1024 at ≡ false → kind ≡ kind_of_node (get_or nodes at 0) → kind ≡ k → Node left nodes at k
there {left} {nodes} {at} h l i e k = record { some = h; inside = omega (arith, l, leb-false 1024 at i); kind = sym e ∙ k }

-- and past the last node
pub not_there : (left : ℕ) (nodes : List ℕ) (at : ℕ) → length nodes ≡ 1024 → (left ≡ 0) ⊎ (leb 1024 at ≡ true) → (left ≡ 0) ⊎ (length nodes ≤ at)
not_there left nodes at l (inl e) = inl e
not_there left nodes at l (inr h) = inr (omega (arith, l, leb-true 1024 at h))

-- both, by the orders that the tests give
pub node_there : {left : ℕ} {nodes : List ℕ} {at k kind : ℕ} → left ≢ 0 → length nodes ≡ 1024 → at < 1024 → kind ≡ kind_of_node (get_or nodes at 0) → kind ≡ k → Node left nodes at k
node_there {left} {nodes} {at} h l i e k = there h l (lt-leb 1024 at i) e k

pub no_node_there : {left : ℕ} (nodes : List ℕ) {at : ℕ} → length nodes ≡ 1024 → (left ≡ 0) ⊎ (left ≢ 0 × 1024 ≤ at) → (left ≡ 0) ⊎ (length nodes ≤ at)
no_node_there {left} nodes {at} l h = not_there left nodes at l (⊎_elim inl (λ w. inr (le-leb 1024 at w.1)) h)
