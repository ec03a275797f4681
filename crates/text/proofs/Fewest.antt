-- What is written has the fewest brackets: no text of the statement has fewer, so no pair can be taken away.
use Prim.Native.Nat.{ℕ, suc, ◌+◌, ◌≤◌}
use mathlib.Core.Path.{◌≡◌}
use mathlib.Core.List.{List, [], ◌∷◌, ◌++◌}
use native.Mathlib.Omega.{arith}
use Rattle.esterel.specs.Statement.{Statement}
use Rattle.text.specs.Parts.{Else, End, Part, word, number, signal_of, pause_at, semicolon, bars, opening, closing}
use Rattle.text.specs.Grammar.{Level, single, chain, whole, Text, nothing, pause, gotopause, emit, exit, signal, present, present_then, present_else, present_bare, loop, try, brackets, one_chain, sequence, one_whole, parallel}
use Rattle.text.specs.Writing.{level_of, enclosed, as_single, as_chain, parts_of, bracket_pairs}
use Rattle.text.proofs.Written.{asked}

pairs_append : (us vs : List Part) → bracket_pairs (us ++ vs) ≡ bracket_pairs us + bracket_pairs vs
unfolding bracket_pairs
pairs_append [] vs = omega arith
pairs_append (word w ∷ us) vs = pairs_append us vs
pairs_append (number n ∷ us) vs = pairs_append us vs
pairs_append (signal_of S ∷ us) vs = pairs_append us vs
pairs_append (pause_at l ∷ us) vs = pairs_append us vs
pairs_append (semicolon ∷ us) vs = pairs_append us vs
pairs_append (bars ∷ us) vs = pairs_append us vs
pairs_append (opening ∷ us) vs = omega (arith, pairs_append us vs)
pairs_append (closing ∷ us) vs = pairs_append us vs

pairs_enclosed : (ts : List Part) → bracket_pairs (enclosed ts) ≡ suc (bracket_pairs ts)
unfolding enclosed bracket_pairs
pairs_enclosed ts = omega (arith, pairs_append ts (closing ∷ []))

-- a looser level asks for no more, and for at most one pair less
chain_single : (l : Level) (ts : List Part) → bracket_pairs (as_chain l ts) ≤ bracket_pairs (as_single l ts)
unfolding as_chain as_single
chain_single single ts = omega arith
chain_single chain ts = omega (arith, pairs_enclosed ts)
chain_single whole ts = omega arith

whole_chain : (l : Level) (ts : List Part) → bracket_pairs ts ≤ bracket_pairs (as_chain l ts)
unfolding as_chain
whole_chain single ts = omega arith
whole_chain chain ts = omega arith
whole_chain whole ts = omega (arith, pairs_enclosed ts)

single_whole : (l : Level) (ts : List Part) → bracket_pairs (as_single l ts) ≤ suc (bracket_pairs ts)
unfolding as_single
single_whole single ts = omega arith
single_whole chain ts = omega (arith, pairs_enclosed ts)
single_whole whole ts = omega (arith, pairs_enclosed ts)

fewest_at : {l : Level} {n : ℕ} {ts : List Part} {p : Statement} → Text l n ts p → bracket_pairs (asked l p) ≤ bracket_pairs ts
unfolding asked parts_of level_of as_single as_chain bracket_pairs
fewest_at (nothing e) = omega arith
fewest_at (pause e) = omega arith
fewest_at (gotopause e) = omega arith
fewest_at (emit e) = omega arith
fewest_at (exit e) = omega arith
fewest_at (signal {p = p} us t e) = rw e (omega (arith, fewest_at t, pairs_append us (word End ∷ []), pairs_append (parts_of p) (word End ∷ [])))
fewest_at (present {p = p} {q = q} us vs t u e) =
    rw e (omega (
      arith,
      fewest_at t,
      fewest_at u,
      pairs_append us (word Else ∷ (vs ++ (word End ∷ []))),
      pairs_append vs (word End ∷ []),
      pairs_append (parts_of p) (word Else ∷ (parts_of q ++ (word End ∷ []))),
      pairs_append (parts_of q) (word End ∷ []),
    ))
fewest_at (present_then {p = p} us t e) =
    rw e (omega (arith, fewest_at t, pairs_append us (word End ∷ []), pairs_append (parts_of p) (word Else ∷ (parts_of Statement.nothing ++ (word End ∷ [])))))
fewest_at (present_else {q = q} vs t e) = rw e (omega (arith, fewest_at t, pairs_append vs (word End ∷ []), pairs_append (parts_of q) (word End ∷ [])))
fewest_at (present_bare e) = omega arith
fewest_at (loop {p = p} us t e) = rw e (omega (arith, fewest_at t, pairs_append us (word End ∷ []), pairs_append (parts_of p) (word End ∷ [])))
fewest_at (try {p = p} us t e) = rw e (omega (arith, fewest_at t, pairs_append us (word End ∷ []), pairs_append (parts_of p) (word End ∷ [])))
fewest_at (brackets {p = p} us t e) = rw e (omega (arith, fewest_at t, pairs_append us (closing ∷ []), single_whole (level_of p) (parts_of p)))
fewest_at (one_chain {p = p} t) = omega (arith, fewest_at t, chain_single (level_of p) (parts_of p))
fewest_at (sequence {p = p} {q = q} us vs t u e) =
    rw e (omega (arith, fewest_at t, fewest_at u, pairs_append us (semicolon ∷ vs), pairs_append (as_single (level_of p) (parts_of p)) (semicolon ∷ as_chain (level_of q) (parts_of q))))
fewest_at (one_whole {p = p} t) = omega (arith, fewest_at t, whole_chain (level_of p) (parts_of p))
fewest_at (parallel {p = p} {q = q} us vs t u e) =
    rw e (omega (arith, fewest_at t, fewest_at u, pairs_append us (bars ∷ vs), pairs_append (as_chain (level_of p) (parts_of p)) (bars ∷ parts_of q)))

-- "only the brackets that grouping needs": every text of the statement has at least as many
pub fewest : {n : ℕ} {ts : List Part} {p : Statement} → Text whole n ts p → bracket_pairs (parts_of p) ≤ bracket_pairs ts
unfolding asked
fewest t = fewest_at t
