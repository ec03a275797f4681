-- Reading a text as a table: accepted exactly where it is a text of a statement that a table may hold.
use Prim.Native.Nat.{ℕ, ◌≤◌}
use mathlib.Core.Path.{◌≡◌, refl, sym, ap, ◌∙◌, subst}
use mathlib.Core.Bool.{Bool, true, cond, ◌&&◌}
use mathlib.Core.Option.{Option, none, some}
use mathlib.Core.List.{List}
use native.Mathlib.Omega.{arith}
use lib.Dec.{leb, ltb}
use borrow.Author.Tests.{leb-true, le-leb, ltb-false, le-ltb}
use Rattle.sets.proofs.Booleans.{and_both, and_cases, by_cond}
use Rattle.esterel.specs.Statement.{Statement, nothing, pause, gotopause, emit, exit, signal, present, sequence, parallel, loop, try, size}
use Rattle.table.specs.Reading.{Table, holds, table_of}
use Rattle.table.specs.Writing.{write, Allowed}
use Rattle.table.proofs.ReadBack.{Ranged}
use Rattle.table.proofs.RoundTrip.{valid_ranged, read_written, never_another}
use Rattle.text.specs.Spelling.{TextOf}
use Rattle.text.specs.inner.Lexer.{read_text}
use Rattle.text.specs.Reading.{label_ranged, signal_ranged, ranged, table_for, table_in}
use Rattle.text.proofs.Texts.{text_read, read_text_lem}

-- ---- Numbers in range

label_range : (l : ℕ) → label_ranged l ≡ true → (1 ≤ l) × (l ≤ 63)
unfolding label_ranged
label_range l h = let both = and_cases (leb 1 l) (leb l 63) h in (leb-true 1 l both.0, leb-true l 63 both.1)

range_label : (l : ℕ) → (1 ≤ l) × (l ≤ 63) → label_ranged l ≡ true
unfolding label_ranged
range_label l h = and_both (leb 1 l) (leb l 63) (le-leb 1 l h.0) (le-leb l 63 h.1)

pub ranged⁻ : (p : Statement) → ranged p ≡ true → Ranged p
unfolding ranged signal_ranged Ranged
ranged⁻ nothing h = tt
ranged⁻ (pause l) h = label_range l h
ranged⁻ (gotopause l) h = label_range l h
ranged⁻ (emit S) h = leb-true S 31 h
ranged⁻ (exit d) h = label_range d h
ranged⁻ (signal S p) h = let both = and_cases (leb S 31) (ranged p) h in (leb-true S 31 both.0, ranged⁻ p both.1)
ranged⁻ (present S p q) h =
    let both = and_cases (leb S 31) (ranged p && ranged q) h in
    let inner = and_cases (ranged p) (ranged q) both.1 in
    (leb-true S 31 both.0, ranged⁻ p inner.0, ranged⁻ q inner.1)
ranged⁻ (sequence p q) h = let both = and_cases (ranged p) (ranged q) h in (ranged⁻ p both.0, ranged⁻ q both.1)
ranged⁻ (parallel p q) h = let both = and_cases (ranged p) (ranged q) h in (ranged⁻ p both.0, ranged⁻ q both.1)
ranged⁻ (loop p) h = ranged⁻ p h
ranged⁻ (try p) h = ranged⁻ p h

pub ranged⁺ : (p : Statement) → Ranged p → ranged p ≡ true
unfolding ranged signal_ranged Ranged
ranged⁺ nothing h = refl
ranged⁺ (pause l) h = range_label l h
ranged⁺ (gotopause l) h = range_label l h
ranged⁺ (emit S) h = le-leb S 31 h
ranged⁺ (exit d) h = range_label d h
ranged⁺ (signal S p) h = and_both (leb S 31) (ranged p) (le-leb S 31 h.0) (ranged⁺ p h.1)
ranged⁺ (present S p q) h = and_both (leb S 31) (ranged p && ranged q) (le-leb S 31 h.0) (and_both (ranged p) (ranged q) (ranged⁺ p h.1) (ranged⁺ q h.2))
ranged⁺ (sequence p q) h = and_both (ranged p) (ranged q) (ranged⁺ p h.0) (ranged⁺ q h.1)
ranged⁺ (parallel p q) h = and_both (ranged p) (ranged q) (ranged⁺ p h.0) (ranged⁺ q h.1)
ranged⁺ (loop p) h = ranged⁺ p h
ranged⁺ (try p) h = ranged⁺ p h

-- ---- What is accepted

pub text_accepted : (bs : List ℕ) (p : Statement) → TextOf bs p → Allowed p → table_in bs ≡ holds (size p) p
unfolding table_in table_for
text_accepted bs p t a =
    ap table_for (text_read bs p t)
    ∙ ap (λ (z : Bool). cond z (cond (ltb 1024 (size p)) (Table.refused 3) (table_of (write p))) (Table.refused 19)) (ranged⁺ p (valid_ranged 0 p a.valid))
    ∙ ap (λ (z : Bool). cond z (Table.refused 3) (table_of (write p))) (le-ltb 1024 (size p) a.few)
    ∙ read_written p a

refused_holds : {A : Type 0} (w n : ℕ) (p : Statement) → Table.refused w ≡ holds n p → A
refused_holds w n p e = let z : ◌≡◌ {A = ℕ} 0 1 = cc in absurd (omega arith)

-- of a statement that was read, what is accepted is that statement
for_accepted : (q : Statement) (n : ℕ) (p : Statement) → table_for (some q) ≡ holds n p → (p ≡ q) × (n ≡ size q) × Allowed q
unfolding table_for
for_accepted q n p =
    by_cond (λ (r : Table). r ≡ holds n p → (p ≡ q) × (n ≡ size q) × Allowed q) (ranged q) (cond (ltb 1024 (size q)) (Table.refused 3) (table_of (write q))) (Table.refused 19)
    (λ f. by_cond (λ (r : Table). r ≡ holds n p → (p ≡ q) × (n ≡ size q) × Allowed q) (ltb 1024 (size q)) (Table.refused 3) (table_of (write q))
    (λ g e. refused_holds 3 n p e)
    (λ g e. let few : size q ≤ 1024 = ltb-false 1024 (size q) g in never_another q (ranged⁻ q f) (omega arith) n p e))
    (λ f e. refused_holds 19 n p e)

pub accepted_text : (bs : List ℕ) (n : ℕ) (p : Statement) → table_in bs ≡ holds n p → TextOf bs p × Allowed p × (n ≡ size p)
unfolding table_in table_for
accepted_text bs n p = go (read_text bs) refl
  where
    go : (r : Option Statement) → read_text bs ≡ r → table_for r ≡ holds n p → TextOf bs p × Allowed p × (n ≡ size p)
    go none f e = refused_holds 18 n p e
    go (some q) f e =
        let N = for_accepted q n p e in
        let same : q ≡ p = sym N.0 in
        (subst (TextOf bs) same (read_text_lem bs q f), subst Allowed same N.2, N.1 ∙ ap size same)
