-- Lists of rows in front of a lent area.
use Rattle.std.specs.Prelude.{◌≡◌, true, ℕ, ◌+◌, ◌≤◌, ◌<◌, Option, None, Some, Result, Ok, Err, List, [], ◌∷◌, ◌++◌, map, take, drop, length}
use Rattle.std.proofs.Math.Option.{none, some}
use Rattle.esterel.specs.Listing.{Listed}
use Rattle.esterel.specs.inner.Rows.{Row}
use Rattle.esterel.specs.inner.CappedRows.{CappedRows, before_row, insert_row, collect_rows}
use Rattle.rows.specs.declared.row.Row.{Row as Packed}
use Rattle.rows.specs.declared.lists.Unlisted.{Unlisted}
use Rattle.rows.specs.declared.lists.Unlisted.TheVariants.{Over, Cramped, Refused}
use Rattle.rows.specs.inner.Layout.{unpacked}

-- the rows of a whole area, the n in front, and the n that follow the first q
abbrev pub all_rows : List Packed → List Row
all_rows a = map unpacked a

abbrev pub rows : List Packed → ℕ → List Row
rows a n = all_rows (take n a)

abbrev pub rows_from : List Packed → ℕ → ℕ → List Row
rows_from a q n = rows (drop q a) n

-- none or one
abbrev pub optional : Option Packed → List Row
optional None = []
optional (Some r) = unpacked r ∷ []

-- each stands before all that follow it, so none stands there twice
abbrev pub InOrder : List Row → Type 0
InOrder [] = Unit {0}
InOrder (w ∷ ws) = ((v : Row) → Listed v ws → before_row w v ≡ true) × InOrder ws

-- a search for w in a list in order: it stands there; or it belongs there, where the list is opened for it
abbrev pub Searched : List Packed → Row → Result ℕ ℕ → Type 0
Searched a w (Ok i) = (i < length a) × (all_rows a ≡ all_rows (take i a) ++ (w ∷ all_rows (drop (i + 1) a)))
Searched a w (Err i) = (i ≤ length a) × (insert_row w (all_rows a) ≡ all_rows (take i a) ++ (w ∷ all_rows (drop i a)))

-- the n rows in front of an area are the list v
pub record Standing (a : List Packed) (v : CappedRows) (n : ℕ) : Type 0 where
  pub small : n ≤ 64
  pub fits : n ≤ length a
  pub listed : v ≡ some (rows a n)
  pub rising : InOrder (rows a n)

-- What came of making the list v in an area that is now a: so many rows in front; over 64; or the area was too small, which one
-- of `need` rows is not.
abbrev pub Made : List Packed → ℕ → CappedRows → Result ℕ Unlisted → Type 0
Made a need v (Ok n) = Standing a v n
Made a need v (Err Over) = v ≡ none
Made a need v (Err Cramped) = length a < need
Made a need v (Err Refused) = length a < need

-- from a to b one more row was put among the n in front, which were in order
abbrev pub Put : List Packed → List Packed → ℕ → Row → Result ℕ Unlisted → Type 0
Put a b n w (Ok m) = Standing b (collect_rows (w ∷ rows a n)) m × (m ≤ n + 1)
Put a b n w (Err e) = (e ≡ Over) × (n ≡ 64) × (collect_rows (w ∷ rows a n) ≡ none)

-- n rows in order stand in front, with room for one more
pub record Open (a : List Packed) (n : ℕ) : Type 0 where
  pub small : n ≤ 64
  pub room : n < length a
  pub rising : InOrder (rows a n)

-- n rows in order stand in front, with room for as many as a list may have, and one more
pub record Spare (a : List Packed) (n : ℕ) : Type 0 where
  pub small : n ≤ 64
  pub room : 65 ≤ length a
  pub rising : InOrder (rows a n)

-- n₁ rows in order stand in front, and n₂ above them
pub record Beside (a : List Packed) (n₁ n₂ : ℕ) : Type 0 where
  pub small : n₁ ≤ 64
  pub within : n₁ + n₂ ≤ length a
  pub first : InOrder (rows a n₁)
  pub second : InOrder (rows_from a n₁ n₂)

-- the `kept` rows in front go on, in order, with the firsts, and with those from mid on; below mid there is room for the firsts too
pub record Split (a : List Packed) (kept mid : ℕ) (firsts : List Packed) : Type 0 where
  pub below : kept + length firsts ≤ mid
  pub within : mid ≤ length a
  pub first : InOrder (rows a kept ++ all_rows firsts)
  pub second : InOrder (rows a kept ++ all_rows (drop mid a))
