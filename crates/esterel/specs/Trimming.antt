-- Trimming (Figure 7, with the two changes of document 01: the resumed present, and the try).
use Rattle.std.specs.Prelude.{ℕ, suc, pred, Bool, true, false, cond, not, ◌||◌, eqb, leb}
use Rattle.sets.specs.Set.{has}
use Rattle.esterel.specs.Statement.{Statement, nothing, pause, gotopause, emit, exit, signal, present, sequence, parallel, loop, try}
use Rattle.esterel.specs.Codes.{join, s, d}
use Rattle.esterel.specs.Reachability.{reach}

unfoldable pub is_nothing : Statement → Bool
is_nothing nothing = true
is_nothing (pause l) = false
is_nothing (gotopause l) = false
is_nothing (emit S) = false
is_nothing (exit e) = false
is_nothing (signal S p) = false
is_nothing (present S p q) = false
is_nothing (sequence p q) = false
is_nothing (parallel p q) = false
is_nothing (loop p) = false
is_nothing (try p) = false

-- "A part that is then nothing .. is dropped; if both are, the result is nothing"
unfoldable pub join_parts : (Statement → Statement → Statement) → Statement → Statement → Statement
join_parts f p q = cond (is_nothing p) q (cond (is_nothing q) p (f p q))

-- an emit or a present of the statement names S, also below an inner declaration of S
unfoldable pub names : ℕ → Statement → Bool
names S nothing = false
names S (pause l) = false
names S (gotopause l) = false
names S (emit S') = eqb S S'
names S (exit e) = false
names S (signal S' p) = names S p
names S (present S' p q) = eqb S S' || (names S p || names S q)
names S (sequence p q) = names S p || names S q
names S (parallel p q) = names S p || names S q
names S (loop p) = names S p
names S (try p) = names S p

-- an exit of the statement, which stands in c tries of a body, ends at the try of that body
unfoldable pub ends_at : ℕ → Statement → Bool
ends_at c nothing = false
ends_at c (pause l) = false
ends_at c (gotopause l) = false
ends_at c (emit S) = false
ends_at c (exit e) = eqb e (suc c)
ends_at c (signal S p) = ends_at c p
ends_at c (present S p q) = ends_at c p || ends_at c q
ends_at c (sequence p q) = ends_at c p || ends_at c q
ends_at c (parallel p q) = ends_at c p || ends_at c q
ends_at c (loop p) = ends_at c p
ends_at c (try p) = ends_at (suc c) p

-- the level e of an exit inside c tries of a part, changed by f where the exit leaves the part
unfoldable pub shift_level : (ℕ → ℕ) → ℕ → ℕ → ℕ
shift_level f c e = cond (leb e c) e (f e)

-- the exits that leave the part changed by f; the statement stands in c tries of the part
unfoldable pub shift_exits : (ℕ → ℕ) → ℕ → Statement → Statement
shift_exits f c nothing = nothing
shift_exits f c (pause l) = pause l
shift_exits f c (gotopause l) = gotopause l
shift_exits f c (emit S) = emit S
shift_exits f c (exit e) = exit (shift_level f c e)
shift_exits f c (signal S p) = signal S (shift_exits f c p)
shift_exits f c (present S p q) = present S (shift_exits f c p) (shift_exits f c q)
shift_exits f c (sequence p q) = sequence (shift_exits f c p) (shift_exits f c q)
shift_exits f c (parallel p q) = parallel (shift_exits f c p) (shift_exits f c q)
shift_exits f c (loop p) = loop (shift_exits f c p)
shift_exits f c (try p) = try (shift_exits f (suc c) p)

-- "exits of q' that leave q' have their level raised by one"
abbrev pub raise : Statement → Statement
raise = shift_exits suc 0

-- "exits beyond it are lowered by one": the statement is the body of the try that goes
abbrev pub lower : Statement → Statement
lower = shift_exits pred 0

-- "C is d(R, p), joined with s(p) where b = 1": that 0 is in C
unfoldable pub can_end : ℕ → Bool → Statement → Bool
can_end R true p = (join (d R p) (s p)).ends
can_end R false p = (d R p).ends

-- "loop p: if 0 is in C, a loop over p trimmed with 1; else p trimmed with b"; `body` trims p with a flag
unfoldable pub trim_loop : Bool → Bool → (Bool → Statement) → Statement
trim_loop true b body = loop (body true)
trim_loop false b body = body b

-- "signal S: dropped if no emit or present in the trimmed body names S"
unfoldable pub trim_signal : ℕ → Statement → Statement
trim_signal S p' = cond (names S p') (signal S p') p'

-- "present, b = 0, first change"; the flag says that d(R, p) has 0
unfoldable pub trim_present : Bool → Statement → Statement → Statement
trim_present ends p' q' = cond (is_nothing q') p' (cond (not ends) (join_parts sequence p' q') (sequence p' (try (sequence (exit 1) (raise q')))))

-- "try, second change": "If no exit left in it ends at this try, the try goes .. Otherwise it is kept"
unfoldable pub trim_try : Statement → Statement
trim_try p' = cond (ends_at 0 p') (try p') (lower p')

-- b is 1 where the statement may be started, 0 where it is only resumed
unfoldable pub trim : ℕ → Bool → Statement → Statement
trim R b nothing = nothing
trim R b (pause l) = cond (b || has R l) (pause l) nothing
trim R b (gotopause l) = cond b (gotopause l) nothing
trim R b (emit S) = cond b (emit S) nothing
trim R b (exit e) = cond b (exit e) nothing
trim R b (signal S p) = trim_signal S (trim R b p)
trim R true (present S p q) = present S (trim R true p) (trim R true q)
trim R false (present S p q) = trim_present (can_end R false p) (trim R false p) (trim R false q)
trim R b (sequence p q) = join_parts sequence (trim R b p) (trim R (can_end R b p) q)
trim R b (parallel p q) = join_parts parallel (trim R b p) (trim R b q)
trim R b (loop p) = trim_loop (can_end R b p) b (λ c. trim R c p)
trim R b (try p) = trim_try (trim R b p)

-- "R is now reach's answer .. the root has b = 1"
unfoldable pub trimmed : Statement → Statement
trimmed p = trim (reach p).set true p
