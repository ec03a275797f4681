-- The parts of a statement from the top down, as the writer goes over nodes: what is written where a level is asked for. Whether a
-- statement is enclosed depends on its own kind and the level alone.
use mathlib.Core.List.{List, [], ◌∷◌, ◌++◌}
use Rattle.esterel.specs.Statement.{Statement, nothing, pause, gotopause, emit, exit, signal, present, sequence, parallel, loop, try}
use Rattle.text.specs.Parts.{Nothing, Gotopause, Emit, Exit, Signal, In, End, Present, Then, Else, Loop, Try, Part, word, number, signal_of, pause_at, semicolon, bars}
use Rattle.text.specs.Grammar.{Level, single, chain, whole}
use Rattle.text.specs.Writing.{enclosed}

unfoldable pub chain_at : Level → List Part → List Part
chain_at single ts = enclosed ts
chain_at chain ts = ts
chain_at whole ts = ts

unfoldable pub whole_at : Level → List Part → List Part
whole_at single ts = enclosed ts
whole_at chain ts = enclosed ts
whole_at whole ts = ts

unfoldable pub parts_at : Level → Statement → List Part
parts_at l nothing = word Nothing ∷ []
parts_at l (pause n) = pause_at n ∷ []
parts_at l (gotopause n) = word Gotopause ∷ number n ∷ []
parts_at l (emit S) = word Emit ∷ signal_of S ∷ []
parts_at l (exit d) = word Exit ∷ number d ∷ []
parts_at l (signal S p) = word Signal ∷ signal_of S ∷ word In ∷ (parts_at whole p ++ (word End ∷ []))
parts_at l (present S p q) = word Present ∷ signal_of S ∷ word Then ∷ (parts_at whole p ++ (word Else ∷ (parts_at whole q ++ (word End ∷ []))))
parts_at l (sequence p q) = chain_at l (parts_at single p ++ (semicolon ∷ parts_at chain q))
parts_at l (parallel p q) = whole_at l (parts_at chain p ++ (bars ∷ parts_at whole q))
parts_at l (loop p) = word Loop ∷ (parts_at whole p ++ (word End ∷ []))
parts_at l (try p) = word Try ∷ (parts_at whole p ++ (word End ∷ []))
