-- A set of numbers is a number: bit x is 1 where x is in the set (document 01: "bit n for number n").
-- Nothing here depends on a width. The laws, member by member, are in proofs/.
use Rattle.std.specs.Prelude.{ℕ, zero, suc, ◌+◌, ◌/◌, ◌%◌, ◌^◌, ◌≡◌, Bool, true, false, cond, eqb}
use Rattle.std.specs.Int.Bits.{bit_or, bit_and, bit_xor}

infixl 60 ◌union◌ ◌intersect◌ ◌minus◌ ◌without◌
-- x is a member of the set m
unfoldable pub has : ℕ → ℕ → Bool
has m zero = eqb (m % 2) 1
has m (suc x) = has (m / 2) x

-- the set with the one element x
unfoldable pub only : ℕ → ℕ
only x = 2 ^ x

-- the members of either
unfoldable pub ◌union◌ : ℕ → ℕ → ℕ
◌union◌ a b = bit_or a b

-- the members of both
unfoldable pub ◌intersect◌ : ℕ → ℕ → ℕ
◌intersect◌ a b = bit_and a b

-- the members of a that are not in b
unfoldable pub ◌minus◌ : ℕ → ℕ → ℕ
◌minus◌ a b = bit_xor a (bit_and a b)

-- the members of a other than x
abbrev pub ◌without◌ : ℕ → ℕ → ℕ
◌without◌ a x = a minus only x

-- every member of a is in b
abbrev pub Within : ℕ → ℕ → Type 0
Within a b = (x : ℕ) → has a x ≡ true → has b x ≡ true

-- no member of a is in b
abbrev pub Apart : ℕ → ℕ → Type 0
Apart a b = (x : ℕ) → has a x ≡ true → has b x ≡ false

-- how many members of m are below w
unfoldable pub count : ℕ → ℕ → ℕ
count zero m = 0
count (suc w) m = count w m + cond (has m w) 1 0
