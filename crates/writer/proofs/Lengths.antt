-- A text has at most 20 bytes for each node: a statement without children leaves 8 of its 20, and a present takes 7 of the 16 that its two leave.
use Prim.Native.Nat.{ℕ, suc, ◌+◌, ◌*◌, ◌≤◌, ◌<◌}
use mathlib.Core.Path.{ap}
use mathlib.Core.List.{List}
use native.Mathlib.Omega.{arith}
use native.Mathlib.Decide.{dec_lt}
use lib.ListN.{length, length-append}
use Rattle.esterel.specs.Statement.{Statement, nothing, pause, gotopause, emit, exit, signal, present, sequence, parallel, loop, try, size, Valid}
use Rattle.text.specs.Spelling.{letters_of, digits, colon_pause, spelling}
use Rattle.text.specs.Grammar.{Level, single, chain, whole}
use Rattle.text.specs.Writing.{spell_all}
use Rattle.text.proofs.Decimal.{digits_one}
use Rattle.writer.specs.inner.Texts.{enclosed_at, ahead, after, amid, leaf_text, head_text, between_text, tail_text, around_one, around_two, text_at}
use Rattle.writer.proofs.Words.{digits_two}

digits_short : (n : ℕ) → n < 64 → length (digits n) ≤ 2
digits_short n h = go (dec_lt n 10)
  where
    go : Dec (n < 10) → length (digits n) ≤ 2
    go (yes l) = omega (arith, ap length (digits_one n l))
    go (no l) = omega (arith, ap length (digits_two n (omega arith) h))

-- ---- What a node adds, by its kind

nothing_short : length (leaf_text 0 0) ≤ 12
unfolding leaf_text spell_all spelling letters_of
nothing_short = omega arith

module _ (o : ℕ) (h : o < 64) where
  pause_short : length (leaf_text 1 o) ≤ 12
  unfolding leaf_text spell_all spelling colon_pause
  pause_short = simp length-append (omega (arith, digits_short o h))

  gotopause_short : length (leaf_text 2 o) ≤ 12
  unfolding leaf_text spell_all spelling letters_of
  gotopause_short = omega (arith, digits_short o h)

  emit_short : length (leaf_text 3 o) ≤ 12
  unfolding leaf_text spell_all spelling letters_of
  emit_short = omega (arith, digits_short o h)

  exit_short : length (leaf_text 4 o) ≤ 12
  unfolding leaf_text spell_all spelling letters_of
  exit_short = omega (arith, digits_short o h)

module _ (l : Level) (bs : List ℕ) where
  signal_short : (o : ℕ) → o < 64 → length (around_one l 5 o bs) ≤ 18 + length bs
  unfolding around_one head_text ahead after spell_all spelling letters_of
  signal_short o h = simp length-append (omega (arith, digits_short o h))

  loop_short : length (around_one l 9 0 bs) ≤ 18 + length bs
  unfolding around_one head_text ahead after spell_all spelling letters_of
  loop_short = simp length-append (omega arith)

  try_short : length (around_one l 10 0 bs) ≤ 18 + length bs
  unfolding around_one head_text ahead after spell_all spelling letters_of
  try_short = simp length-append (omega arith)

  present_short : (cs : List ℕ) (o : ℕ) → o < 64 → length (around_two l 6 o bs cs) ≤ 27 + length bs + length cs
  unfolding around_two head_text between_text tail_text ahead amid after spell_all spelling letters_of
  present_short cs o h = simp length-append (omega (arith, digits_short o h))

-- in brackets or not
sequence_short : (l : Level) (bs cs : List ℕ) → length (around_two l 7 0 bs cs) ≤ 27 + length bs + length cs
unfolding around_two enclosed_at head_text between_text tail_text ahead amid after spell_all spelling
sequence_short single bs cs = simp length-append (omega arith)
sequence_short chain bs cs = simp length-append (omega arith)
sequence_short whole bs cs = simp length-append (omega arith)

parallel_short : (l : Level) (bs cs : List ℕ) → length (around_two l 8 0 bs cs) ≤ 27 + length bs + length cs
unfolding around_two enclosed_at head_text between_text tail_text ahead amid after spell_all spelling
parallel_short single bs cs = simp length-append (omega arith)
parallel_short chain bs cs = simp length-append (omega arith)
parallel_short whole bs cs = simp length-append (omega arith)

-- ---- A statement

pub text_short : (tries : ℕ) (l : Level) (p : Statement) → Valid tries p → length (text_at l p) + 8 ≤ 20 * size p
unfolding text_at size Valid
text_short tries l nothing v = omega (arith, nothing_short)
text_short tries l (pause n) v = omega (arith, pause_short n (omega arith))
text_short tries l (gotopause n) v = omega (arith, gotopause_short n (omega arith))
text_short tries l (emit S) v = omega (arith, emit_short S (omega arith))
text_short tries l (exit d) v = omega (arith, exit_short d (omega arith))
text_short tries l (signal S p) v = omega (arith, signal_short l (text_at whole p) S (omega (arith, v.0)), text_short tries whole p v.1)
text_short tries l (present S p q) v =
    omega (arith, present_short l (text_at whole p) (text_at whole q) S (omega (arith, v.0)), text_short tries whole p v.1, text_short tries whole q v.2)
text_short tries l (sequence p q) v =
    omega (arith, sequence_short l (text_at single p) (text_at chain q), text_short tries single p v.0, text_short tries chain q v.1)
text_short tries l (parallel p q) v =
    omega (arith, parallel_short l (text_at chain p) (text_at whole q), text_short tries chain p v.0, text_short tries whole q v.1)
text_short tries l (loop p) v = omega (arith, loop_short l (text_at whole p), text_short tries whole p v)
text_short tries l (try p) v = omega (arith, try_short l (text_at whole p), text_short (suc tries) whole p v)
