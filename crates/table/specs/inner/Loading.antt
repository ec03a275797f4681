-- What the functions that read a table leave, as functions of their arguments: rows of kinds and two bytes as words, the
-- buffer of decoded nodes, and how far a walk over it came.
use Rattle.std.specs.Prelude.{◌≡◌, Result, Ok, Err, ℕ, ◌+◌, ◌-◌, ◌*◌, ◌≤◌, List, ◌++◌, cond, ◌||◌, eqb, ltb, length, drop, get_or}
use Rattle.table.specs.declared.Row.{Row}
use Rattle.table.specs.declared.Refusal.{Refusal}
use Rattle.table.specs.Outcomes.{number_of_refusal}
use Rattle.table.specs.Reading.{Reading, refused, read, header_of, nodes_of}

-- the bytes at a place and after it, side by side
abbrev pub word_at : List ℕ → ℕ → ℕ
word_at t at = get_or t at 0 * 256 + get_or t (at + 1) 0

-- the first i nodes of t stand in front of a buffer that was `old`
abbrev pub Front : List ℕ → ℕ → List ℕ → List ℕ → Type 0
Front t i old xs = xs ≡ nodes_of t i ++ drop i old

-- those from i to j were put behind the first i
unfoldable pub Cut : List ℕ → ℕ → ℕ → List ℕ → List ℕ → Type 0
Cut t i j xs ys = (length ys ≡ length xs) × ((old : List ℕ) → length xs ≡ length old → Front t i old xs → Front t j old ys)

-- the buffer `old` after a table was loaded into it: where the header is accepted, its nodes stand in front
unfoldable pub loaded_after : Result ℕ Refusal → List ℕ → List ℕ → List ℕ
loaded_after (Err e) t old = old
loaded_after (Ok n) t old = nodes_of t n ++ drop n old

unfoldable pub loaded_of : List ℕ → List ℕ → List ℕ
loaded_of t old = loaded_after (header_of t) t old

-- what is wrong with an operand, by the row of its kind, or with the depth that is left: the second and third test of a node
abbrev pub field_fault : ℕ → ℕ → Row → ℕ
field_fault left o r = cond (ltb o r.least || ltb r.most o) 7 (cond (eqb left 0) 8 0)

-- the number of what a test found: 0 where it found nothing
abbrev pub number_found : Result (Unit {0}) Refusal → ℕ
number_found (Err e) = number_of_refusal e
number_found (Ok _) = 0

-- what a walk over n nodes gives for a reading: the number r of the refusal, or 0 with the place of the nodes that are left and the labels
abbrev pub Walked : ℕ → Reading → ℕ → ℕ → ℕ → Type 0
Walked n (refused w) r at used = (r ≡ w) × (1 ≤ w)
Walked n (read p ys labels) r at used = (r ≡ 0) × (at ≡ n - length ys) × (used ≡ labels)
