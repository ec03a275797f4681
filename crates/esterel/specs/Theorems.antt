-- What holds of codes through a try: the theorems of order 3, each as one statement. They are proved in proofs/Passing.
use Rattle.std.specs.Prelude.{ℕ, ◌-◌, ◌≡◌, true, cond, ◌↔◌, leb, eqb}
use Rattle.esterel.specs.Codes.{Codes, Qualified, plain, through, contains, labels, through_try}

-- "k less one if k is at least 2, less one more if k is 2, shown equal to document 01's rule for every code from 0 to 64": here for
-- every number
abbrev pub ByArithmetic : Type 0
ByArithmetic = (k : ℕ) → k - cond (leb 2 k) 1 0 - cond (eqb k 2) 1 0 ≡ through k

-- a code is in the set, whatever its label
abbrev pub HasCode : Codes → ℕ → Type 0
HasCode K k = (q : Qualified) × (contains K q ≡ true) × (plain q ≡ k)

-- A set passes as its members do: a code is in the passed set exactly if it is document 01's rule applied to a member, whatever its
-- label, and the labels of code 1 stay.
abbrev pub SetsPass : Type 0
SetsPass = (K : Codes) → ((k : ℕ) → HasCode (through_try K) k ↔ ((k' : ℕ) × HasCode K k' × (through k' ≡ k))) × (labels (through_try K) ≡ labels K)
