-- Writing a statement as text: "only the brackets that grouping needs", "and no omitted branch".
use Rattle.std.specs.Prelude.{ℕ, suc, List, [], ◌∷◌, ◌++◌}
use Rattle.esterel.specs.Statement.{Statement, nothing, pause, gotopause, emit, exit, signal, present, sequence, parallel, loop, try}
use Rattle.text.specs.Parts.{Nothing, Gotopause, Emit, Exit, Signal, In, End, Present, Then, Else, Loop, Try, Part, word, number, signal_of, pause_at, semicolon, bars, opening, closing}
use Rattle.text.specs.Grammar.{Level, single, chain, whole}
use Rattle.text.specs.Spelling.{spelling}

-- the tightest level that the text of a statement has without brackets around it
unfoldable pub level_of : Statement → Level
level_of nothing = single
level_of (pause l) = single
level_of (gotopause l) = single
level_of (emit S) = single
level_of (exit d) = single
level_of (signal S p) = single
level_of (present S p q) = single
level_of (sequence p q) = chain
level_of (parallel p q) = whole
level_of (loop p) = single
level_of (try p) = single

-- a text of one level, where another is asked for: in brackets if it is looser
unfoldable pub enclosed : List Part → List Part
enclosed ts = opening ∷ (ts ++ (closing ∷ []))

unfoldable pub as_single : Level → List Part → List Part
as_single single ts = ts
as_single chain ts = enclosed ts
as_single whole ts = enclosed ts

unfoldable pub as_chain : Level → List Part → List Part
as_chain single ts = ts
as_chain chain ts = ts
as_chain whole ts = enclosed ts

unfoldable pub parts_of : Statement → List Part
parts_of nothing = word Nothing ∷ []
parts_of (pause l) = pause_at l ∷ []
parts_of (gotopause l) = word Gotopause ∷ number l ∷ []
parts_of (emit S) = word Emit ∷ signal_of S ∷ []
parts_of (exit d) = word Exit ∷ number d ∷ []
parts_of (signal S p) = word Signal ∷ signal_of S ∷ word In ∷ (parts_of p ++ (word End ∷ []))
parts_of (present S p q) = word Present ∷ signal_of S ∷ word Then ∷ (parts_of p ++ (word Else ∷ (parts_of q ++ (word End ∷ []))))
parts_of (sequence p q) = as_single (level_of p) (parts_of p) ++ (semicolon ∷ as_chain (level_of q) (parts_of q))
parts_of (parallel p q) = as_chain (level_of p) (parts_of p) ++ (bars ∷ parts_of q)
parts_of (loop p) = word Loop ∷ (parts_of p ++ (word End ∷ []))
parts_of (try p) = word Try ∷ (parts_of p ++ (word End ∷ []))

-- "one space between any two parts and none at the ends"
unfoldable pub spell_all : List Part → List ℕ
spell_all [] = []
spell_all (t ∷ []) = spelling t
spell_all (t ∷ u ∷ ts) = spelling t ++ (32 ∷ spell_all (u ∷ ts))

unfoldable pub write_text : Statement → List ℕ
write_text p = spell_all (parts_of p)

-- how many pairs of brackets a text has, by those that open
unfoldable pub bracket_pairs : List Part → ℕ
bracket_pairs [] = 0
bracket_pairs (word w ∷ ts) = bracket_pairs ts
bracket_pairs (number n ∷ ts) = bracket_pairs ts
bracket_pairs (signal_of S ∷ ts) = bracket_pairs ts
bracket_pairs (pause_at l ∷ ts) = bracket_pairs ts
bracket_pairs (semicolon ∷ ts) = bracket_pairs ts
bracket_pairs (bars ∷ ts) = bracket_pairs ts
bracket_pairs (opening ∷ ts) = suc (bracket_pairs ts)
bracket_pairs (closing ∷ ts) = bracket_pairs ts
