-- The verdict of the reader over nodes is that on the statement of the text: its parts are in range exactly where its numbers are,
-- and then no operand is held as another.
use Prim.Native.Nat.{ℕ, ◌≤◌}
use mathlib.Core.Path.{◌≡◌, refl, sym, ap, ◌∙◌}
use mathlib.Core.Bool.{Bool, true, false, cond, ◌&&◌, and-true, and_assoc}
use mathlib.Core.Option.{Option, none, some}
use mathlib.Core.List.{List, [], ◌∷◌, ◌++◌}
use native.Mathlib.Decide.{dec_le}
use native.Mathlib.Omega.{arith}
use lib.Dec.{ltb}
use borrow.Author.Tests.{le-ltb, lt-ltb}
use Rattle.esterel.specs.Statement.{Statement, size}
use Rattle.table.specs.Kinds.{kinds, kind_of, row_of}
use Rattle.table.specs.Writing.{node, nodes}
use Rattle.table.specs.inner.Making.{node_of}
use Rattle.table.proofs.Nodes.{length_nodes}
use Rattle.table.proofs.ReadBack.{Ranged}
use Rattle.text.specs.Parts.{End, Else, Part, word, semicolon, bars, closing}
use Rattle.text.specs.Grammar.{Level, Text, nothing, pause, gotopause, emit, exit, signal, present, present_then, present_else, present_bare, loop, try, brackets, one_chain, sequence, one_whole, parallel, deepest_open}
use Rattle.text.specs.Reading.{label_ranged, signal_ranged, ranged}
use Rattle.text.specs.inner.Machine.{read_parts}
use Rattle.text.specs.inner.Lexer.{parts_in, read_some, read_text}
use Rattle.reader.specs.inner.Nodes.{clip, part_ranged, all_ranged, Kept, kept, Verdict, verdict_for, verdict_in, verdict_of, verdict_from}
use Rattle.text.proofs.Sound.{derives}
use Rattle.text.proofs.Reading.{ranged⁻}
use Rattle.reader.proofs.Working.{kept_few, kept_many, held, kept_of, nodes_made, clip_small}

-- ---- Parts in range

-- a part between others that has no number, or one in range
between : (us vs : List Part) (t : Part) → part_ranged t ≡ true → all_ranged (us ++ (t ∷ vs)) ≡ (all_ranged us && all_ranged vs)
unfolding all_ranged
between [] vs t h = ap (λ (z : Bool). z && all_ranged vs) h
between (u ∷ us) vs t h = ap (λ (z : Bool). part_ranged u && z) (between us vs t h) ∙ sym (and_assoc (part_ranged u) (all_ranged us) (all_ranged vs))

-- it stands behind the others
before_last : (us : List Part) (t : Part) → part_ranged t ≡ true → all_ranged (us ++ (t ∷ [])) ≡ all_ranged us
unfolding all_ranged
before_last us t h = between us [] t h ∙ and-true (all_ranged us)

both : {a b c d : Bool} → a ≡ c → b ≡ d → (a && b) ≡ (c && d)
both e f = rw (e, f)

behind_signal : (S : ℕ) {a b : Bool} → a ≡ b → (signal_ranged S && a) ≡ (signal_ranged S && b)
behind_signal S e = rw e

parts_ranged : {l : Level} {n : ℕ} {ts : List Part} {p : Statement} → Text l n ts p → all_ranged ts ≡ ranged p
unfolding all_ranged part_ranged ranged
parts_ranged (nothing e) = rw e
parts_ranged (pause {l = l} e) = rw e (and-true (label_ranged l))
parts_ranged (gotopause {l = l} e) = rw e (and-true (label_ranged l))
parts_ranged (emit {S = S} e) = rw e (and-true (signal_ranged S))
parts_ranged (exit {d = d} e) = rw e (and-true (label_ranged d))
parts_ranged (signal {S = S} us t e) = rw e (behind_signal S (before_last us (word End) refl ∙ parts_ranged t))
parts_ranged (present {S = S} us vs t u e) =
    rw e (behind_signal S (between us (vs ++ (word End ∷ [])) (word Else) refl ∙ both (parts_ranged t) (before_last vs (word End) refl ∙ parts_ranged u)))
parts_ranged (present_then {S = S} {p = p} us t e) = rw e (behind_signal S (before_last us (word End) refl ∙ parts_ranged t ∙ sym (and-true (ranged p))))
parts_ranged (present_else {S = S} vs t e) = rw e (behind_signal S (before_last vs (word End) refl ∙ parts_ranged t))
parts_ranged (present_bare e) = rw e
parts_ranged (loop us t e) = rw e (before_last us (word End) refl ∙ parts_ranged t)
parts_ranged (try us t e) = rw e (before_last us (word End) refl ∙ parts_ranged t)
parts_ranged (brackets us t e) = rw e (before_last us closing refl ∙ parts_ranged t)
parts_ranged (one_chain t) = parts_ranged t
parts_ranged (sequence us vs t u e) = rw e (between us vs semicolon refl ∙ both (parts_ranged t) (parts_ranged u))
parts_ranged (one_whole t) = parts_ranged t
parts_ranged (parallel us vs t u e) = rw e (between us vs bars refl ∙ both (parts_ranged t) (parts_ranged u))

-- ---- Operands in range are held as they are

row_node : (k o : ℕ) → o ≤ 100 → (row_of (kind_of k)).least ≤ o → o ≤ (row_of (kind_of k)).most → node_of k (clip o) ≡ node k o
unfolding node_of
row_node k o h l m =
    ap (node_of k) (clip_small o h)
    ∙ ap (λ (z : Bool). node k (cond z (row_of (kind_of k)).least (cond (ltb (row_of (kind_of k)).most o) (row_of (kind_of k)).most o))) (le-ltb o (row_of (kind_of k)).least l)
    ∙ ap (λ (z : Bool). node k (cond z (row_of (kind_of k)).most o)) (le-ltb (row_of (kind_of k)).most o m)

label_node : (k l : ℕ) → (row_of (kind_of k)).least ≡ 1 → (row_of (kind_of k)).most ≡ 63 → (1 ≤ l) × (l ≤ 63) → node_of k (clip l) ≡ node k l
label_node k l a b h = row_node k l (omega (arith, h.1)) (rw a h.0) (rw b h.1)

signal_node : (k S : ℕ) → (row_of (kind_of k)).least ≡ 0 → (row_of (kind_of k)).most ≡ 31 → S ≤ 31 → node_of k (clip S) ≡ node k S
signal_node k S a b h = row_node k S (omega arith) (rw a (omega arith)) (rw b h)

held_nodes : (p : Statement) → Ranged p → held p ≡ nodes p
unfolding held nodes Ranged node_of row_of kind_of kinds
held_nodes Statement.nothing r = refl
held_nodes (Statement.pause l) r = ap (λ (x : ℕ). x ∷ []) (label_node 1 l refl refl r)
held_nodes (Statement.gotopause l) r = ap (λ (x : ℕ). x ∷ []) (label_node 2 l refl refl r)
held_nodes (Statement.emit S) r = ap (λ (x : ℕ). x ∷ []) (signal_node 3 S refl refl r)
held_nodes (Statement.exit d) r = ap (λ (x : ℕ). x ∷ []) (label_node 4 d refl refl r)
held_nodes (Statement.signal S p) r = rw (signal_node 5 S refl refl r.0, held_nodes p r.1)
held_nodes (Statement.present S p q) r = rw (signal_node 6 S refl refl r.0, held_nodes p r.1, held_nodes q r.2)
held_nodes (Statement.sequence p q) r = rw (held_nodes p r.0, held_nodes q r.1)
held_nodes (Statement.parallel p q) r = rw (held_nodes p r.0, held_nodes q r.1)
held_nodes (Statement.loop p) r = rw (held_nodes p r)
held_nodes (Statement.try p) r = rw (held_nodes p r)

-- ---- The verdict

verdict_kept : (p : Statement) → verdict_for true (some (kept (nodes p))) ≡ cond (ltb 1024 (size p)) Verdict.over (Verdict.whole (nodes p))
unfolding verdict_for
verdict_kept p = go (dec_le (size p) 1024)
  where
    go : Dec (size p ≤ 1024) → verdict_for true (some (kept (nodes p))) ≡ cond (ltb 1024 (size p)) Verdict.over (Verdict.whole (nodes p))
    go (yes h) =
        let l = length_nodes p in
        ap (λ (x : Kept). verdict_for true (some x)) (kept_few (nodes p) (omega arith))
        ∙ sym (ap (λ (z : Bool). cond z Verdict.over (Verdict.whole (nodes p))) (le-ltb 1024 (size p) h))
    go (no h) =
        let l = length_nodes p in
        ap (λ (x : Kept). verdict_for true (some x)) (kept_many (nodes p) (omega arith))
        ∙ sym (ap (λ (z : Bool). cond z Verdict.over (Verdict.whole (nodes p))) (lt-ltb 1024 (size p) (omega arith)))

verdict_held : (p : Statement) (z : Bool) → ranged p ≡ z
    → verdict_for z (some (kept (held p))) ≡ cond z (cond (ltb 1024 (size p)) Verdict.over (Verdict.whole (nodes p))) Verdict.outside
unfolding verdict_for
verdict_held p true e = ap (λ (xs : List ℕ). verdict_for true (some (kept xs))) (held_nodes p (ranged⁻ p e)) ∙ verdict_kept p
verdict_held p false e = refl

pub made_verdict : (bs : List ℕ) → verdict_of bs ≡ verdict_from (read_text bs)
unfolding verdict_of verdict_in verdict_from verdict_for read_text read_some read_parts kept_of
made_verdict bs = by_parts (parts_in bs)
  where
    by_statement : (ts : List Part) (r : Option Statement) → read_parts ts ≡ r → verdict_for (all_ranged ts) (kept_of r) ≡ verdict_from r
    by_statement ts none e = refl
    by_statement ts (some p) e =
        ap (λ (z : Bool). verdict_for z (some (kept (held p)))) (parts_ranged (derives deepest_open ts p e)) ∙ verdict_held p (ranged p) refl

    by_parts : (r : Option (List Part)) → verdict_in r ≡ verdict_from (read_some r)
    by_parts none = refl
    by_parts (some ts) = ap (verdict_for (all_ranged ts)) (nodes_made ts) ∙ by_statement ts (read_parts ts) refl
