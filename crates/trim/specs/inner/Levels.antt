-- Where the exits of a trimmed part end in the trimmed table. A part is trimmed by itself, so its exits count the try
-- statements of the source around it; some of these go, and the tries of resumed presents come in between.
use Rattle.std.specs.Prelude.{ℕ, suc, ◌+◌, ◌-◌, Bool, cond, List, leb, get_or, set}
use Rattle.esterel.specs.Statement.{Statement, nothing, pause, gotopause, emit, exit, signal, present, sequence, parallel, loop, try}
use Rattle.esterel.specs.Trimming.{is_nothing, trim}
use Rattle.trim.specs.declared.descent.Around.{Around}

-- the level e of an exit inside c tries of a part: where the exit leaves the part, `out` says how many tries it leaves there
unfoldable pub map_level : (ℕ → ℕ) → ℕ → ℕ → ℕ
map_level out c e = cond (leb e c) e (c + out (e - c))

-- the part with the levels that its exits have in the trimmed table; the statement stands in c tries of the part
unfoldable pub map_exits : (ℕ → ℕ) → ℕ → Statement → Statement
map_exits out c nothing = nothing
map_exits out c (pause l) = pause l
map_exits out c (gotopause l) = gotopause l
map_exits out c (emit S) = emit S
map_exits out c (exit e) = exit (map_level out c e)
map_exits out c (signal S p) = signal S (map_exits out c p)
map_exits out c (present S p q) = present S (map_exits out c p) (map_exits out c q)
map_exits out c (sequence p q) = sequence (map_exits out c p) (map_exits out c q)
map_exits out c (parallel p q) = parallel (map_exits out c p) (map_exits out c q)
map_exits out c (loop p) = loop (map_exits out c p)
map_exits out c (try p) = try (map_exits out (suc c) p)

-- The n-th try of the source around a statement, from outside and from 1, has place n: how many tries stand around it in
-- the trimmed table. An exit by e levels ends at the try with the number tries + 1 - e.
unfoldable pub level_out : List ℕ → Around → ℕ → ℕ
level_out places a e = a.kept - get_or places (a.tries + 1 - e) 0

-- a statement trimmed where it stands
unfoldable pub trimmed_in : ℕ → List ℕ → Around → Statement → Statement
trimmed_in R places a p = map_exits (level_out places a) 0 (trim R a.started p)

-- ---- the children of a statement

-- with another answer to whether it may be started
abbrev pub started_if : Bool → Around → Around
started_if b a = record { started = b; tries = a.tries; kept = a.kept }

-- the else branch of a resumed present, in a try of its own where the first branch can end
abbrev pub in_guard : Bool → Around → Around
in_guard guarded a = record { started = a.started; tries = a.tries; kept = cond guarded (a.kept + 1) a.kept }

unfoldable pub in_else : Bool → Around → Around
in_else guarded a = cond a.started a (in_guard guarded a)

-- the body of a try, which is kept or goes
abbrev pub in_try : Bool → Around → Around
in_try kept a = record { started = a.started; tries = a.tries + 1; kept = cond kept (a.kept + 1) a.kept }

abbrev pub places_in : Around → List ℕ → List ℕ
places_in a places = set places (a.tries + 1) a.kept

-- what a statement over one part becomes: the part alone, or the statement
unfoldable pub wrap_if : (Statement → Statement) → Bool → Statement → Statement
wrap_if f z p = cond z (f p) p

-- the else branch of a resumed present, trimmed, in its try where the first branch can end
unfoldable pub guarded_if : Bool → Statement → Statement
guarded_if z q = cond (is_nothing q) q (wrap_if (λ p. try (sequence (exit 1) p)) z q)
