-- The share of a program that was kept (document 02, order 4), from the nodes of its table and of its trimmed table.
use Rattle.std.specs.Prelude.{ℕ, ◌*◌, ◌/◌, ◌%◌}

-- "the quotient and the remainder of 1,000 × (nodes after) divided by (nodes before)"
abbrev pub thousandths : ℕ → ℕ → ℕ
thousandths before after = 1000 * after / before

abbrev pub remainder : ℕ → ℕ → ℕ
remainder before after = 1000 * after % before
