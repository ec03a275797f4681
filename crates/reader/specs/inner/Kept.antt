-- The nodes that the buffer holds: they stand at its end, and are counted where a table may have so many.
use Rattle.std.specs.Prelude.{ℕ, ◌-◌, ◌≤◌, ◌≡◌, List, Option, Some, None, length, drop}
use Rattle.reader.specs.inner.Nodes.{Kept, few, many}

unfoldable pub kept_in : Option ℕ → List ℕ → Kept
kept_in None xs = many
kept_in (Some count) xs = few (drop (1024 - count) xs)

abbrev pub Counted : Option ℕ → Type 0
Counted None = Unit {0}
Counted (Some count) = count ≤ 1024

pub record Stored (count : Option ℕ) (xs : List ℕ) (B : Kept) : Type 0 where
  pub held : kept_in count xs ≡ B
  pub counted : Counted count
  pub filled : length xs ≡ 1024
