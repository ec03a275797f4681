-- How the lists of the children make the list of a statement, one row after the other, as the code goes about it. That this is
-- what esterel's rows say is shown in proofs/Rules.
use Rattle.std.specs.Prelude.{◌≡◌, Bool, false, cond, not, ℕ, List, [], ◌∷◌, eqb}
use Rattle.sets.specs.Set.{has, ◌union◌}
use Rattle.esterel.specs.Codes.{through}
use Rattle.esterel.specs.Listing.{Listed, reaction, pair}
use Rattle.esterel.specs.inner.Conditions.{Condition, both, clashes}
use Rattle.esterel.specs.inner.Rows.{Row, row_when, only_rows, each_row, hidden}

-- no row has a condition that no set meets
abbrev pub Clashless : List Row → Type 0
Clashless ws = (w : Row) → Listed w ws → clashes w.when ≡ false

-- the row, unless its condition clashes
unfoldable pub unless_clash : Row → List Row
unless_clash w = only_rows (not (clashes w.when)) (w ∷ [])

-- what becomes of a row below a local signal that is present, where one more condition has to hold, in a loop, in a try;
-- below one that is unknown it is esterel's local_row
unfoldable pub hide_row : ℕ → Row → List Row
hide_row S w = only_rows (has w.reacts.emitted S) (row_when w.when (hidden S w.reacts) ∷ [])

unfoldable pub given_row : Condition → Row → List Row
given_row c w = unless_clash (row_when (both c w.when) w.reacts)

unfoldable pub going_row : Row → List Row
going_row w = only_rows (not (eqb w.reacts.code 0)) (w ∷ [])

unfoldable pub caught_row : Row → List Row
caught_row w = row_when w.when (reaction w.reacts.emitted (through w.reacts.code) w.reacts.reached) ∷ []

-- two rows of one instant, of which the second begins where the first ends, or runs beside it
unfoldable pub follow_row : Row → Row → Row
follow_row w v = row_when (both w.when v.when) (reaction (w.reacts.emitted union v.reacts.emitted) v.reacts.code v.reacts.reached)

unfoldable pub together_row : Row → Row → Row
together_row w v = row_when (both w.when v.when) (pair w.reacts v.reacts)

-- a row that meets none of the second: in a sequence one that does not end
unfoldable pub goes_on : Row → Bool
goes_on w = not (eqb w.reacts.code 0)

abbrev pub never : Row → Bool
never w = false

-- a row with each of a list, but for those that it clashes with
unfoldable pub joined_all : (Row → Row → Row) → List Row → Row → List Row
joined_all join vs w = each_row vs (λ v. unless_clash (join w v))

-- what a row of the first part gives with those of the second: itself where it stands alone
unfoldable pub pairs : (Row → Bool) → (Row → Row → Row) → List Row → Row → List Row
pairs alone join vs w = cond (alone w) (w ∷ []) (joined_all join vs w)

unfoldable pub product : (Row → Bool) → (Row → Row → Row) → List Row → List Row → List Row
product alone join ws vs = each_row ws (pairs alone join vs)
