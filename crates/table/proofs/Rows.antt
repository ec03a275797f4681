-- The constant table of the kinds: where its rows are those of the kinds, so is each of them.
use mathlib.Core.Path.{◌≡◌, ap, ◌∙◌}
use mathlib.Core.List.{List, map}
use Prim.Native.Nat.{ℕ}
use lib.ListN.{get_or, get_or-map}
use Rattle.table.specs.declared.Row.{Row}
use Rattle.table.specs.Kinds.{unused, kinds, kind_of, row, row_of}

pub row_at : (rows : List Row) → rows ≡ map row_of kinds → (k : ℕ) → get_or rows k (row 0 0 0) ≡ row_of (kind_of k)
unfolding kind_of row_of
row_at rows e k = ap (λ (l : List Row). get_or l k (row 0 0 0)) e ∙ get_or-map row_of kinds k unused
