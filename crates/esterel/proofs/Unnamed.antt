-- A signal that no emit and no present names: a statement reacts alike with it and without it and never emits it, so its
-- declaration may go.
use mathlib.Core.Path.{◌≡◌, refl, sym, ap, ◌∙◌}
use mathlib.Core.Logic.{◌≢◌}
use mathlib.Core.Bool.{false, ◌||◌}
use Prim.Native.Nat.{ℕ}
use native.Mathlib.Decide.{ℕ_discrete}
use lib.Dec.{eqb}
use Rattle.sets.specs.Set.{has, only, ◌union◌, ◌without◌}
use Rattle.sets.proofs.Booleans.{or_neither, clash, differ_eqb}
use Rattle.sets.proofs.Members.{has_empty, has_union, has_only_other, has_without_same, has_without_other}
use Rattle.esterel.specs.Statement.{Statement, nothing, pause, gotopause, emit, exit, signal, present, sequence, parallel, loop, try}
use Rattle.esterel.specs.Trimming.{names}
use Rattle.esterel.specs.Reactions.{State, Derives}
use Rattle.esterel.specs.Reactions as rule

-- the two sets have the same members but for S
abbrev pub SameBut : ℕ → ℕ → ℕ → Type 0
SameBut S E F = (x : ℕ) → S ≢ x → has E x ≡ has F x

pub same_but_union : (S S' E F : ℕ) → SameBut S E F → SameBut S (E union only S') (F union only S')
same_but_union S S' E F o x n = has_union E (only S') x ∙ ap (λ b. b || has (only S') x) (o x n) ∙ sym (has_union F (only S') x)

pub same_but_without : (S S' E F : ℕ) → SameBut S E F → SameBut S (E without S') (F without S')
same_but_without S S' E F o x n = go (ℕ_discrete S' x)
  where
    go : Dec (S' ≡ x) → has (E without S') x ≡ has (F without S') x
    go (yes e) = rw (← e) (has_without_same E S' ∙ sym (has_without_same F S'))
    go (no h) = has_without_other E S' x h ∙ o x n ∙ sym (has_without_other F S' x h)

same_but_itself : (S E : ℕ) → SameBut S (E without S) E
same_but_itself S E x h = has_without_other E S x h

-- ---- that S is not among the emitted
absent_empty : (S O : ℕ) → O ≡ 0 → has O S ≡ false
absent_empty S O e = rw e (has_empty S)

absent_union : (S O A B : ℕ) → O ≡ A union B → has A S ≡ false → has B S ≡ false → has O S ≡ false
absent_union S O A B e a b = ap (λ (z : ℕ). has z S) e ∙ has_union A B S ∙ rw (a, b)

absent_without : (S S' O A : ℕ) → O ≡ A without S' → has A S ≡ false → has O S ≡ false
absent_without S S' O A e a = ap (λ (z : ℕ). has z S) e ∙ go (ℕ_discrete S' S)
  where
    go : Dec (S' ≡ S) → has (A without S') S ≡ false
    go (yes e) = rw (← e) (has_without_same A S')
    go (no h) = has_without_other A S' S h ∙ a

-- a reaction under E is one under F, and it does not emit S
pub unnamed : (S : ℕ) (p : Statement) → names S p ≡ false → {x : State} {E O k L : ℕ} (F : ℕ) → SameBut S E F → Derives p x E O k L
    → Derives p x F O k L × (has O S ≡ false)
unfolding names
unnamed S nothing n {O = O} F o (rule.nothing a b h) = (rule.nothing a b h, absent_empty S O a)
unnamed S (pause l) n {O = O} F o (rule.pause a b h) = (rule.pause a b h, absent_empty S O a)
unnamed S (pause l) n {O = O} F o (rule.resume u a b h) = (rule.resume u a b h, absent_empty S O a)
unnamed S (gotopause l) n {O = O} F o (rule.goto a b h) = (rule.goto a b h, absent_empty S O a)
unnamed S (emit S') n F o (rule.emit u a b h) =
    let differ = differ_eqb S S' n in
    (rule.emit (sym (o S' differ) ∙ u) a b h, rw a (has_only_other S' S (λ e. differ (sym e))))
unnamed S (exit e) n {O = O} F o (rule.exit a b h) = (rule.exit a b h, absent_empty S O a)
unnamed S (signal S' p) n {E = E} {O = O} F o (rule.signal+ O₁ r h e) =
    let (t, u) = unnamed S p n (F union only S') (same_but_union S S' E F o) r in (rule.signal+ O₁ t h e, absent_without S S' O O₁ e u)
unnamed S (signal S' p) n {E = E} F o (rule.signal- r) =
    let (t, u) = unnamed S p n (F without S') (same_but_without S S' E F o) r in (rule.signal- t, u)
unnamed S (present S' p q) n F o (rule.present h r) =
    let (m, pq) = or_neither (eqb S S') (names S p || names S q) n in
    let (t, u) = unnamed S p (or_neither (names S p) (names S q) pq).0 F o r in
    (rule.present (sym (o S' (differ_eqb S S' m)) ∙ h) t, u)
unnamed S (present S' p q) n F o (rule.absent h r) =
    let (m, pq) = or_neither (eqb S S') (names S p || names S q) n in
    let (t, u) = unnamed S q (or_neither (names S p) (names S q) pq).1 F o r in
    (rule.absent (sym (o S' (differ_eqb S S' m)) ∙ h) t, u)
unnamed S (present S' p q) n F o (rule.present_left r) =
    let (m, pq) = or_neither (eqb S S') (names S p || names S q) n in
    let (t, u) = unnamed S p (or_neither (names S p) (names S q) pq).0 F o r in
    (rule.present_left t, u)
unnamed S (present S' p q) n F o (rule.present_right r) =
    let (m, pq) = or_neither (eqb S S') (names S p || names S q) n in
    let (t, u) = unnamed S q (or_neither (names S p) (names S q) pq).1 F o r in
    (rule.present_right t, u)
unnamed S (sequence p q) n F o (rule.seq_left r h) =
    let (t, u) = unnamed S p (or_neither (names S p) (names S q) n).0 F o r in (rule.seq_left t h, u)
unnamed S (sequence p q) n {O = O} F o (rule.seq O₁ O₂ a b e) =
    let (i, j) = or_neither (names S p) (names S q) n in
    let (t, u) = unnamed S p i F o a in
    let (v, w) = unnamed S q j F o b in
    (rule.seq O₁ O₂ t v e, absent_union S O O₁ O₂ e u w)
unnamed S (sequence p q) n F o (rule.seq_right r) =
    let (t, u) = unnamed S q (or_neither (names S p) (names S q) n).1 F o r in (rule.seq_right t, u)
unnamed S (parallel p q) n {O = O} F o (rule.par O₁ k₁ L₁ O₂ k₂ L₂ a b e f h) =
    let (i, j) = or_neither (names S p) (names S q) n in
    let (t, u) = unnamed S p i F o a in
    let (v, w) = unnamed S q j F o b in
    (rule.par O₁ k₁ L₁ O₂ k₂ L₂ t v e f h, absent_union S O O₁ O₂ e u w)
unnamed S (parallel p q) n F o (rule.par_left r h) =
    let (t, u) = unnamed S p (or_neither (names S p) (names S q) n).0 F o r in (rule.par_left t h, u)
unnamed S (parallel p q) n F o (rule.par_right r h) =
    let (t, u) = unnamed S q (or_neither (names S p) (names S q) n).1 F o r in (rule.par_right t h, u)
unnamed S (loop p) n F o (rule.no_loop r h) = let (t, u) = unnamed S p n F o r in (rule.no_loop t h, u)
unnamed S (loop p) n {O = O} F o (rule.loop O₁ O₂ a b h e) =
    let (t, u) = unnamed S p n F o a in
    let (v, w) = unnamed S p n F o b in
    (rule.loop O₁ O₂ t v h e, absent_union S O O₁ O₂ e u w)
unnamed S (try p) n F o (rule.try k₁ r e) = let (t, u) = unnamed S p n F o r in (rule.try k₁ t e, u)

-- ---- a declaration that may go
pub undeclared : (S : ℕ) (p : Statement) → names S p ≡ false → {x : State} {E O k L : ℕ} → Derives (signal S p) x E O k L → Derives p x E O k L
undeclared S p n {E = E} (rule.signal+ O₁ r h e) = clash h (unnamed S p n (E union only S) (λ x u. refl) r).1
undeclared S p n {E = E} (rule.signal- r) = (unnamed S p n E (same_but_itself S E) r).0

pub undeclared⁻ : (S : ℕ) (p : Statement) → names S p ≡ false → {x : State} {E O k L : ℕ} → Derives p x E O k L → Derives (signal S p) x E O k L
undeclared⁻ S p n {E = E} r = rule.signal- (unnamed S p n (E without S) (λ x h. sym (same_but_itself S E x h)) r).0
