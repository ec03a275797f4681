-- What a whole text becomes: checking the nodes of its statement answers as the table that is written of it, and the verdict on a text says which table that is.
use Prim.Native.Nat.{ℕ, ◌-◌, ◌≤◌, ◌<◌}
use mathlib.Core.Path.{◌≡◌, refl, sym, ap, ap₂, ◌∙◌, subst}
use mathlib.Core.Bool.{Bool, true, false, cond}
use mathlib.Core.Option.{Option, none, some}
use mathlib.Core.List.{List, [], ◌∷◌, ◌++◌}
use native.Mathlib.Omega.{arith}
use lib.Dec.{ltb}
use lib.ListN.{length, take, drop, length-drop}
use lib.Seq.{take_all}
use borrow.Author.Tests.{lt-ltb, le-ltb}
use Rattle.esterel.specs.Statement.{Statement, size}
use Rattle.esterel.proofs.Sizes.{size_positive}
use Rattle.std.specs.Prelude.{Result, Ok, Err}
use Rattle.table.specs.declared.Refusal.{Refusal}
use Rattle.table.specs.declared.Refusal.TheVariants.{Count, Room, Grammar, Number}
use Rattle.table.specs.Outcomes.{values, number_of_refusal, fitted, buffer_after}
use Rattle.table.specs.Reading.{length_of, read_from, deepest, Table, holds, whole_of, table_after, table_of, checked_outcome, check_in, check_of}
use Rattle.table.specs.Writing.{nodes, write_nodes, write}
use Rattle.table.specs.inner.Loading.{loaded_of}
use Rattle.table.specs.inner.Making.{Writable}
use Rattle.table.proofs.Nodes.{length_nodes}
use Rattle.table.proofs.Fields.{headed_accepted, headed_written, nodes_written}
use Rattle.table.proofs.ReadBack.{Ranged}
use Rattle.table.proofs.RoundTrip.{below_nodes, length_write, never_another}
use Rattle.table.proofs.Loading.{load_refuses, load_holds}
use Rattle.text.specs.Answers.{answer_outcome, answer_for, buffer_for, read_of, read_buffer}
use Rattle.text.specs.Reading.{ranged, table_for, table_in}
use Rattle.text.specs.inner.Lexer.{read_text}
use Rattle.text.proofs.Reading.{ranged⁻}
use Rattle.reader.specs.inner.Nodes.{Verdict, broken, outside, over, whole, verdict_of, verdict_from}
use Rattle.reader.specs.inner.Held.{Found}
use Rattle.reader.specs.inner.Tables.{AtEnd, Answered}
use Rattle.reader.proofs.Verdicts.{made_verdict}

-- ---- Nodes and the table that is written of them

-- the table of a statement whose numbers are in range is what its nodes are read as
written_table : (p : Statement) → Ranged p → size p ≤ 1024 → table_of (write p) ≡ whole_of (size p) (read_from deepest 0 0 (nodes p))
unfolding write table_of table_after
written_table p r few =
    let few' : length (nodes p) < 4096 = rw (length_nodes p) (omega arith) in
    let fields = below_nodes p r in
    let H = headed_accepted (write_nodes (nodes p)) (length (nodes p)) (headed_written (nodes p) few' fields (rw (length_nodes p) (size_positive p)) (rw (length_nodes p) few)) in
    rw (H, nodes_written (nodes p) few' fields, length_nodes p)

refused_answer : {t : Table} (w : Refusal) (out : List ℕ) → t ≡ Table.refused (number_of_refusal w) → Answered t out (Err w) out
unfolding answer_for buffer_for
refused_answer w out e = rw e (record { outcome = refl; buffer = refl })

module _ {count : ℕ} {xs : List ℕ} (e : AtEnd count xs) where
  abbrev p : Statement
  p = e.statement

  counted : size p ≡ count
  counted = sym (length_nodes p) ∙ ap length (sym e.stand) ∙ length-drop (1024 - count) xs ∙ (let l = e.filled in let c = e.counted in omega arith)

  long : length (write p) ≡ length_of count
  long = length_write p ∙ ap length_of counted

  -- the nodes as the code hands them on
  pub handed : {n : ℕ} → n ≡ length xs - (1024 - count) → take n (drop (1024 - count) xs) ≡ nodes p
  handed {n} h = take_all n (drop (1024 - count) xs) (omega (arith, length-drop (1024 - count) xs)) ∙ e.stand

  module _ (a : Result ℕ Refusal) (h : checked_outcome a ≡ check_in (whole_of (1024 - (1024 - count)) (read_from deepest 0 0 (drop (1024 - count) (take 1024 xs))))) where
    -- what is answered on the nodes is what the table answers
    checked_as : checked_outcome a ≡ check_of (write p)
    unfolding check_of
    checked_as =
        let l = e.filled in
        let c = e.counted in
        let same : 1024 - (1024 - count) ≡ size p = (let z : 1024 - (1024 - count) ≡ count = omega arith in z) ∙ sym counted in
        h
        ∙ ap₂ (λ (n : ℕ) (ys : List ℕ). check_in (whole_of n (read_from deepest 0 0 ys))) same (ap (drop (1024 - count)) (take_all 1024 xs (omega arith)) ∙ e.stand)
        ∙ sym (ap check_in (written_table p (ranged⁻ p e.inside) (omega (arith, counted))))

    pub nodes_refused : (w : Refusal) (out : List ℕ) {x : Result ℕ Refusal} → a ≡ Err w → x ≡ Err w → Answered (table_of (write p)) out x out
    nodes_refused w out f g = rw g (refused_answer w out (load_refuses (write p) [] (loaded_of (write p) []) a (checked_as, refl) w f))

    module _ {n : ℕ} (f : a ≡ Ok n) (out : List ℕ) where
      holds_it : table_of (write p) ≡ holds n p
      holds_it =
          let (q, g) = load_holds (write p) [] (loaded_of (write p) []) a (checked_as, refl) n f in
          let c = e.counted in
          g ∙ ap (holds n) (never_another p (ranged⁻ p e.inside) (omega (arith, counted)) n q g).0

      -- it has no room
      pub nodes_short : {k : ℕ} → k ≡ length_of count → length out < k → Answered (table_of (write p)) out (Err Room) out
      unfolding answer_for buffer_for fitted buffer_after
      nodes_short {k} g s =
          let less : ltb (length out) (length (write p)) ≡ true = lt-ltb (length out) (length (write p)) (omega (arith, long)) in
          rw holds_it (record { outcome = rw less; buffer = rw less })

      -- it is written
      pub nodes_written_out : {k r : ℕ} {ys out' : List ℕ} → k ≡ length_of count → k ≤ length out → ys ≡ nodes p → r ≡ length (write_nodes ys) → out' ≡ write_nodes ys ++ drop r out
          → Answered (table_of (write p)) out (Ok r) out'
      unfolding answer_for buffer_for fitted buffer_after write
      nodes_written_out {k} {r} g s same i o =
          let enough : ltb (length out) (length (write p)) ≡ false = le-ltb (length out) (length (write p)) (omega (arith, long)) in
          let r-is : r ≡ length (write p) = i ∙ ap (λ (l : List ℕ). length (write_nodes l)) same in
          rw holds_it (record { outcome = rw enough (ap (λ (m : ℕ). values (m ∷ [])) r-is); buffer = rw enough (o ∙ ap₂ (λ (l : List ℕ) (m : ℕ). write_nodes l ++ drop m out) same r-is) })

  pub nodes_writable : {k n room : ℕ} → n ≡ length xs - (1024 - count) → k ≡ length_of count → k ≤ room → Writable (take n (drop (1024 - count) xs)) room
  nodes_writable h g s =
      let c = e.counted in
      rw (handed h) (record {
        few = omega (arith, counted, length_nodes p);
        fields = below_nodes p (ranged⁻ p e.inside);
        fits = let l : length_of (length (nodes p)) ≡ length_of count = ap length_of (length_nodes p ∙ counted) in omega arith;
      })

-- ---- The verdict on a text, and its table

abbrev TableFrom : Verdict → Table → Type 0
TableFrom broken t = t ≡ Table.refused 18
TableFrom outside t = t ≡ Table.refused 19
TableFrom over t = t ≡ Table.refused 3
TableFrom (whole xs) t = (p : Statement) × (ranged p ≡ true) × (xs ≡ nodes p) × (t ≡ table_of (write p))

verdict_table : (text : List ℕ) → TableFrom (verdict_of text) (table_in text)
unfolding verdict_from table_in table_for
verdict_table text = subst (λ (v : Verdict). TableFrom v (table_in text)) (sym (made_verdict text)) (go (read_text text))
  where
    by : (p : Statement) (z m : Bool) → ranged p ≡ z
        → TableFrom (cond z (cond m over (whole (nodes p))) outside) (cond z (cond m (Table.refused 3) (table_of (write p))) (Table.refused 19))
    by p true true e = refl
    by p true false e = (p, e, refl, refl)
    by p false m e = refl

    go : (r : Option Statement) → TableFrom (verdict_from r) (table_for r)
    go none = refl
    go (some p) = by p (ranged p) (ltb 1024 (size p)) refl

-- ---- What reading answers

-- what is said of the answer and of the buffer
abbrev pub ReadAs : List ℕ → List ℕ → Result ℕ Refusal → List ℕ → Type 0
ReadAs text out a out' = (answer_outcome a ≡ read_of text (length out)) × (out' ≡ read_buffer text out)

read_as : (text : List ℕ) {out out' : List ℕ} {a : Result ℕ Refusal} → Answered (table_in text) out a out' → ReadAs text out a out'
unfolding read_of read_buffer
read_as text k = (k.outcome, k.buffer)

-- a text is refused as its verdict says
pub read_refused : (text xs : List ℕ) (r : Result ℕ Refusal) → Found (verdict_of text) r xs → (w : Refusal) → r ≡ Err w → (out : List ℕ) {x : Result ℕ Refusal} → x ≡ Err w → ReadAs text out x out
read_refused text xs r F w e out g = rw g (read_as text (go (verdict_of text) (verdict_table text) F))
  where
    go : (v : Verdict) → TableFrom v (table_in text) → Found v r xs → Answered (table_in text) out (Err w) out
    go broken t f = let same : w ≡ Grammar = cc in rw same (refused_answer Grammar out t)
    go outside t f = let same : w ≡ Number = cc in rw same (refused_answer Number out t)
    go over t f = let same : w ≡ Count = cc in rw same (refused_answer Count out t)
    go (whole ys) t f = let is = f.is in let z : ◌≡◌ {A = ℕ} 0 1 = cc in absurd (omega arith)

-- or its nodes are those of a statement
module _ (text xs : List ℕ) (r : Result ℕ Refusal) (F : Found (verdict_of text) r xs) {count : ℕ} (e : r ≡ Ok count) where
  found : (k : AtEnd count xs) × (table_in text ≡ table_of (write k.statement))
  found = go (verdict_of text) (verdict_table text) F
    where
      go : (v : Verdict) → TableFrom v (table_in text) → Found v r xs → (k : AtEnd count xs) × (table_in text ≡ table_of (write k.statement))
      go broken t f = let z : ◌≡◌ {A = ℕ} 0 1 = cc in absurd (omega arith)
      go outside t f = let z : ◌≡◌ {A = ℕ} 0 1 = cc in absurd (omega arith)
      go over t f = let z : ◌≡◌ {A = ℕ} 0 1 = cc in absurd (omega arith)
      go (whole ys) (p, inside, stand, is) f =
          let told = f.is in
          let same : f.count ≡ count = cc in
          (record { statement = p; inside = inside; counted = let c = f.counted in omega arith; filled = f.filled; stand = ap (λ (n : ℕ). drop (1024 - n) xs) (sym same) ∙ f.stand ∙ stand }, is)

  pub at_end : AtEnd count xs
  at_end = found.0

  pub read_whole : (out out' : List ℕ) (a : Result ℕ Refusal) → ((k : AtEnd count xs) → Answered (table_of (write k.statement)) out a out') → ReadAs text out a out'
  read_whole out out' a f = read_as text (subst (λ (t : Table). Answered t out a out') (sym found.1) (f found.0))
