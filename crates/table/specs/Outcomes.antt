-- What an operation answers, counted as document 01 counts it: the promise of each operation, and that of its entry for C, cite it.
use Rattle.std.specs.Prelude.{cond, Result, Ok, Err, List, [], ◌∷◌, ◌++◌, ℕ, ltb, length, drop, get_or}
use Rattle.table.specs.declared.Refusal.{Refusal}
use Rattle.table.specs.declared.Refusal.TheVariants.{Short, Edition, Count, Length, Padding, Kind, Operand, Depth, Level, Label, Shape, Size, Room, Nesting, Crowded, Places, Free, Grammar, Number}

-- "Every refusal is a number and nothing else"; an accepted call has values
pub data Outcome : Type 0 where
  refusal : ℕ → Outcome
  values : List ℕ → Outcome

-- the numbers of the refusals, those of document 01 and, from 17 on, of document 02
abbrev pub number_of_refusal : Refusal → ℕ
number_of_refusal Short = 1
number_of_refusal Edition = 2
number_of_refusal Count = 3
number_of_refusal Length = 4
number_of_refusal Padding = 5
number_of_refusal Kind = 6
number_of_refusal Operand = 7
number_of_refusal Depth = 8
number_of_refusal Level = 9
number_of_refusal Label = 10
number_of_refusal Shape = 11
number_of_refusal Size = 12
number_of_refusal Room = 13
number_of_refusal Nesting = 14
number_of_refusal Crowded = 15
number_of_refusal Places = 16
number_of_refusal Free = 17
number_of_refusal Grammar = 18
number_of_refusal Number = 19

-- what an operation answers, by the values of what it gives where it accepts
abbrev pub outcome : {A : Type 0} → (A → List ℕ) → Result A Refusal → Outcome
outcome of (Err e) = refusal (number_of_refusal e)
outcome of (Ok a) = values (of a)

-- what an entry for C returns: the number of the refusal, or 0
unfoldable pub number_of : Outcome → ℕ
number_of (refusal w) = w
number_of (values vs) = 0

-- what a lent cell holds afterwards that held `old` and is for the i-th value, from 0: a refusal leaves it untouched, and so does an
-- answer without such a value
unfoldable pub cell_after : Outcome → ℕ → ℕ → ℕ
cell_after (refusal w) i old = old
cell_after (values vs) i old = get_or vs i old

-- the answer where these bytes are to be written into a buffer of `room` bytes: "13, which here and later means an output buffer
-- shorter than what is written"; "the number of bytes written is returned"
unfoldable pub fitted : List ℕ → ℕ → Outcome
fitted bs room = cond (ltb room (length bs)) (refusal 13) (values (length bs ∷ []))

-- what a lent buffer holds afterwards: it begins with the bytes, "the rest of it is untouched"; a refusal leaves all of it untouched
unfoldable pub buffer_after : Outcome → List ℕ → List ℕ → List ℕ
buffer_after (refusal w) bs out = out
buffer_after (values vs) bs out = bs ++ drop (length bs) out
