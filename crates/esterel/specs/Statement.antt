-- Statements of Esterel* (Figure 1), and what document 01 asks of a statement that stands in a table.
-- Labels, levels, codes and signals are numbers of separate counters; a definition says which it means.
use Rattle.std.specs.Prelude.{ℕ, suc, ◌+◌, ◌≤◌, max}
use Rattle.sets.specs.Set.{only, ◌union◌, Apart}

-- pause and gotopause have a label, emit, signal and present a signal, exit a level
pub data Statement : Type 0 where
  nothing : Statement
  pause gotopause emit exit : ℕ → Statement
  signal : ℕ → Statement → Statement
  present : ℕ → Statement → Statement → Statement
  sequence parallel : Statement → Statement → Statement
  loop try : Statement → Statement

-- the labels of the pauses of a statement (the paper's L with the index p)
unfoldable pub pauses : Statement → ℕ
pauses nothing = 0
pauses (pause l) = only l
pauses (gotopause l) = 0
pauses (emit S) = 0
pauses (exit d) = 0
pauses (signal S p) = pauses p
pauses (present S p q) = pauses p union pauses q
pauses (sequence p q) = pauses p union pauses q
pauses (parallel p q) = pauses p union pauses q
pauses (loop p) = pauses p
pauses (try p) = pauses p

-- how many pauses it has
unfoldable pub pause_count : Statement → ℕ
pause_count nothing = 0
pause_count (pause l) = 1
pause_count (gotopause l) = 0
pause_count (emit S) = 0
pause_count (exit d) = 0
pause_count (signal S p) = pause_count p
pause_count (present S p q) = pause_count p + pause_count q
pause_count (sequence p q) = pause_count p + pause_count q
pause_count (parallel p q) = pause_count p + pause_count q
pause_count (loop p) = pause_count p
pause_count (try p) = pause_count p

-- how many nodes it has
unfoldable pub size : Statement → ℕ
size nothing = 1
size (pause l) = 1
size (gotopause l) = 1
size (emit S) = 1
size (exit d) = 1
size (signal S p) = suc (size p)
size (present S p q) = suc (size p + size q)
size (sequence p q) = suc (size p + size q)
size (parallel p q) = suc (size p + size q)
size (loop p) = suc (size p)
size (try p) = suc (size p)

-- "The root has depth 1": the depth of its deepest node
unfoldable pub depth : Statement → ℕ
depth nothing = 1
depth (pause l) = 1
depth (gotopause l) = 1
depth (emit S) = 1
depth (exit d) = 1
depth (signal S p) = suc (depth p)
depth (present S p q) = suc (max (depth p) (depth q))
depth (sequence p q) = suc (max (depth p) (depth q))
depth (parallel p q) = suc (max (depth p) (depth q))
depth (loop p) = suc (depth p)
depth (try p) = suc (depth p)

-- inside `tries` try statements: labels 1 to 63, signals 0 to 31, exit levels 1 to 63 and at most the try statements
-- around, and two pauses never share a label
unfoldable pub Valid : ℕ → Statement → Type 0
Valid tries nothing = Unit {0}
Valid tries (pause l) = (1 ≤ l) × (l ≤ 63)
Valid tries (gotopause l) = (1 ≤ l) × (l ≤ 63)
Valid tries (emit S) = S ≤ 31
Valid tries (exit d) = (1 ≤ d) × (d ≤ 63) × (d ≤ tries)
Valid tries (signal S p) = (S ≤ 31) × Valid tries p
Valid tries (present S p q) = (S ≤ 31) × Valid tries p × Valid tries q × Apart (pauses p) (pauses q)
Valid tries (sequence p q) = Valid tries p × Valid tries q × Apart (pauses p) (pauses q)
Valid tries (parallel p q) = Valid tries p × Valid tries q × Apart (pauses p) (pauses q)
Valid tries (loop p) = Valid tries p
Valid tries (try p) = Valid (suc tries) p
