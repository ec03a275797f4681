-- What theorems ask of a statement where they need less than that it is valid.
use Prim.Native.Nat.{ℕ, suc, ◌≤◌}
use Rattle.esterel.specs.Statement.{Statement, nothing, pause, gotopause, emit, exit, signal, present, sequence, parallel, loop, try}

-- inside `tries` try statements: an exit's level is at most the number of try statements around it
unfoldable pub ExitsWithin : ℕ → Statement → Type 0
ExitsWithin tries nothing = Unit {0}
ExitsWithin tries (pause l) = Unit {0}
ExitsWithin tries (gotopause l) = Unit {0}
ExitsWithin tries (emit S) = Unit {0}
ExitsWithin tries (exit d) = d ≤ tries
ExitsWithin tries (signal S p) = ExitsWithin tries p
ExitsWithin tries (present S p q) = ExitsWithin tries p × ExitsWithin tries q
ExitsWithin tries (sequence p q) = ExitsWithin tries p × ExitsWithin tries q
ExitsWithin tries (parallel p q) = ExitsWithin tries p × ExitsWithin tries q
ExitsWithin tries (loop p) = ExitsWithin tries p
ExitsWithin tries (try p) = ExitsWithin (suc tries) p

-- every exit level is at least 1: all that the theorems on trimming ask of a statement
unfoldable pub LevelsFromOne : Statement → Type 0
LevelsFromOne nothing = Unit {0}
LevelsFromOne (pause l) = Unit {0}
LevelsFromOne (gotopause l) = Unit {0}
LevelsFromOne (emit S) = Unit {0}
LevelsFromOne (exit d) = 1 ≤ d
LevelsFromOne (signal S p) = LevelsFromOne p
LevelsFromOne (present S p q) = LevelsFromOne p × LevelsFromOne q
LevelsFromOne (sequence p q) = LevelsFromOne p × LevelsFromOne q
LevelsFromOne (parallel p q) = LevelsFromOne p × LevelsFromOne q
LevelsFromOne (loop p) = LevelsFromOne p
LevelsFromOne (try p) = LevelsFromOne p
