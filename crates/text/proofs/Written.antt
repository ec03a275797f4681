-- What is written is the text of its statement, less deep than the statement.
use Prim.Native.Nat.{ℕ, zero, suc, ◌≤◌}
use mathlib.Core.Path.{refl}
use mathlib.Core.List.{List}
use native.Mathlib.Omega.{arith}
use Rattle.esterel.specs.Statement.{Statement, depth}
use Rattle.text.specs.Parts.{Part}
use Rattle.text.specs.Grammar.{Level, single, chain, whole, Text, nothing, pause, gotopause, emit, exit, signal, present, present_then, present_else, present_bare, loop, try, brackets, one_chain, sequence, one_whole, parallel}
use Rattle.text.specs.Writing.{level_of, enclosed, as_single, as_chain, parts_of}
use Rattle.table.proofs.Nodes.{depth_positive}

-- a text of a tighter level is one of a looser level
loosen : (l : Level) {n : ℕ} {ts : List Part} {p : Statement} → Text l n ts p → Text whole n ts p
loosen single t = one_whole (one_chain t)
loosen chain t = one_whole t
loosen whole t = t

-- one more may be open
pub weaken : {l : Level} {n : ℕ} {ts : List Part} {p : Statement} → Text l n ts p → Text l (suc n) ts p
weaken (nothing e) = nothing e
weaken (pause e) = pause e
weaken (gotopause e) = gotopause e
weaken (emit e) = emit e
weaken (exit e) = exit e
weaken (signal us t e) = signal us (weaken t) e
weaken (present us vs t u e) = present us vs (weaken t) (weaken u) e
weaken (present_then us t e) = present_then us (weaken t) e
weaken (present_else vs t e) = present_else vs (weaken t) e
weaken (present_bare e) = present_bare e
weaken (loop us t e) = loop us (weaken t) e
weaken (try us t e) = try us (weaken t) e
weaken (brackets us t e) = brackets us (weaken t) e
weaken (one_chain t) = one_chain (weaken t)
weaken (sequence us vs t u e) = sequence us vs (weaken t) (weaken u) e
weaken (one_whole t) = one_whole (weaken t)
weaken (parallel us vs t u e) = parallel us vs (weaken t) (weaken u) e

-- a text where a single statement is asked for, or a chain: in brackets, which are one more, if it is looser
abbrev Written : Level → List Part → Statement → Type 0
Written l ts p = (n : ℕ) → depth p ≤ suc n → Text l n ts p

never_flat : {A : Type 0} (p : Statement) → depth p ≤ 0 → A
never_flat p h = absurd (omega (arith, depth_positive p))

as_single_lem : (l : Level) (n : ℕ) (ts : List Part) (p : Statement) → Written l ts p → depth p ≤ n → Text single n (as_single l ts) p
unfolding as_single enclosed
as_single_lem single n ts p f h = f n (omega arith)
as_single_lem chain zero ts p f h = never_flat p h
as_single_lem chain (suc n) ts p f h = brackets ts (one_whole (f n h)) refl
as_single_lem whole zero ts p f h = never_flat p h
as_single_lem whole (suc n) ts p f h = brackets ts (f n h) refl

as_chain_lem : (l : Level) (n : ℕ) (ts : List Part) (p : Statement) → Written l ts p → depth p ≤ n → Text chain n (as_chain l ts) p
unfolding as_chain enclosed
as_chain_lem single n ts p f h = one_chain (f n (omega arith))
as_chain_lem chain n ts p f h = f n (omega arith)
as_chain_lem whole zero ts p f h = never_flat p h
as_chain_lem whole (suc n) ts p f h = one_chain (brackets ts (f n h) refl)

-- a body that `end` closes
as_body : (l : Level) (n : ℕ) (ts : List Part) (p : Statement) → Written l ts p → depth p ≤ suc n → Text whole n ts p
as_body l n ts p f h = loosen l (f n h)

-- the written text is less deep than the statement: at most n where that is at most n + 1
pub written : (p : Statement) (n : ℕ) → depth p ≤ suc n → Text (level_of p) n (parts_of p) p
unfolding depth level_of parts_of
written Statement.nothing n h = nothing refl
written (Statement.pause l) n h = pause refl
written (Statement.gotopause l) n h = gotopause refl
written (Statement.emit S) n h = emit refl
written (Statement.exit d) n h = exit refl
written (Statement.signal S p) zero h = never_flat p (omega arith)
written (Statement.signal S p) (suc n) h = signal (parts_of p) (as_body (level_of p) n (parts_of p) p (written p) (omega arith)) refl
written (Statement.present S p q) zero h = never_flat p (omega arith)
written (Statement.present S p q) (suc n) h =
    present (parts_of p) (parts_of q) (as_body (level_of p) n (parts_of p) p (written p) (omega arith)) (as_body (level_of q) n (parts_of q) q (written q) (omega arith)) refl
written (Statement.sequence p q) n h =
    sequence (as_single (level_of p) (parts_of p)) (as_chain (level_of q) (parts_of q))
    (as_single_lem (level_of p) n (parts_of p) p (written p) (omega arith)) (as_chain_lem (level_of q) n (parts_of q) q (written q) (omega arith)) refl
written (Statement.parallel p q) n h =
    parallel (as_chain (level_of p) (parts_of p)) (parts_of q)
    (as_chain_lem (level_of p) n (parts_of p) p (written p) (omega arith)) (as_body (level_of q) n (parts_of q) q (written q) (omega arith)) refl
written (Statement.loop p) zero h = never_flat p (omega arith)
written (Statement.loop p) (suc n) h = loop (parts_of p) (as_body (level_of p) n (parts_of p) p (written p) (omega arith)) refl
written (Statement.try p) zero h = never_flat p (omega arith)
written (Statement.try p) (suc n) h = try (parts_of p) (as_body (level_of p) n (parts_of p) p (written p) (omega arith)) refl

-- of a statement that a table may hold the text is at most 59 deep
pub written_text : (p : Statement) → depth p ≤ 60 → Text whole 59 (parts_of p) p
written_text p h = loosen (level_of p) (written p 59 h)

-- the text that is written where a level is asked for
unfoldable pub asked : Level → Statement → List Part
asked single p = as_single (level_of p) (parts_of p)
asked chain p = as_chain (level_of p) (parts_of p)
asked whole p = parts_of p
