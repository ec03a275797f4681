-- Reactions: the logical state semantics (Figure 3), its garbled rules as document 01 reads them.
use Rattle.std.specs.Prelude.{ℕ, max, ◌≡◌, ◌≢◌, true, false, cond, eqb}
use Rattle.sets.specs.Set.{has, only, ◌union◌, ◌without◌, Apart}
use Rattle.esterel.specs.Statement.{Statement, pauses}
use Rattle.esterel.specs.Codes.{code_of, through}

-- "A state is the start or a set of labels resumed from"
pub data State : Type 0 where
  start : State
  resumed : ℕ → State

-- the labels that p || q reaches: L ∪ L' where m = 1, else none
unfoldable pub reached_together : ℕ → ℕ → ℕ → ℕ
reached_together m L L' = cond (eqb m 1) (L union L') 0

-- Derives p x E O k L: Figure 3 derives the reaction (O, k, L) of the statement p in the state x under the assumed set E.
-- A rule has its name from the figure; x is the figure's \X, and X the set behind its slash.
pub data Derives : Statement → State → ℕ → ℕ → ℕ → ℕ → Type 0 where
  nothing : {E O k L : ℕ} → O ≡ 0 → k ≡ 0 → L ≡ 0 → Derives Statement.nothing start E O k L
  pause : {l E O k L : ℕ} → O ≡ 0 → k ≡ 1 → L ≡ only l → Derives (Statement.pause l) start E O k L
  emit : {S E O k L : ℕ} → has E S ≡ true → O ≡ only S → k ≡ 0 → L ≡ 0 → Derives (Statement.emit S) start E O k L
  resume : {l X E O k L : ℕ} → has X l ≡ true → O ≡ 0 → k ≡ 0 → L ≡ 0 → Derives (Statement.pause l) (resumed X) E O k L
  goto : {l E O k L : ℕ} → O ≡ 0 → k ≡ 1 → L ≡ only l → Derives (Statement.gotopause l) start E O k L
  exit : {d E O k L : ℕ} → O ≡ 0 → k ≡ code_of d → L ≡ 0 → Derives (Statement.exit d) start E O k L
  try : {p : Statement} {x : State} {E O k L : ℕ} (k₁ : ℕ)
      → Derives p x E O k₁ L → k ≡ through k₁ → Derives (Statement.try p) x E O k L
  no_loop : {p : Statement} {x : State} {E O k L : ℕ}
      → Derives p x E O k L → k ≢ 0 → Derives (Statement.loop p) x E O k L
  seq : {p q : Statement} {x : State} {E O k L : ℕ} (O₁ O₂ : ℕ)
      → Derives p x E O₁ 0 0 → Derives q start E O₂ k L → O ≡ O₁ union O₂ → Derives (Statement.sequence p q) x E O k L
  seq_left : {p q : Statement} {x : State} {E O k L : ℕ}
      → Derives p x E O k L → k ≢ 0 → Derives (Statement.sequence p q) x E O k L
  seq_right : {p q : Statement} {X E O k L : ℕ}
      → Derives q (resumed X) E O k L → Derives (Statement.sequence p q) (resumed X) E O k L
  signal+ : {S : ℕ} {p : Statement} {x : State} {E O k L : ℕ} (O₁ : ℕ)
      → Derives p x (E union only S) O₁ k L → has O₁ S ≡ true → O ≡ O₁ without S → Derives (Statement.signal S p) x E O k L
  signal- : {S : ℕ} {p : Statement} {x : State} {E O k L : ℕ}
      → Derives p x (E without S) O k L → Derives (Statement.signal S p) x E O k L
  present : {S : ℕ} {p q : Statement} {E O k L : ℕ}
      → has E S ≡ true → Derives p start E O k L → Derives (Statement.present S p q) start E O k L
  absent : {S : ℕ} {p q : Statement} {E O k L : ℕ}
      → has E S ≡ false → Derives q start E O k L → Derives (Statement.present S p q) start E O k L
  present_left : {S : ℕ} {p q : Statement} {X E O k L : ℕ}
      → Derives p (resumed X) E O k L → Derives (Statement.present S p q) (resumed X) E O k L
  present_right : {S : ℕ} {p q : Statement} {X E O k L : ℕ}
      → Derives q (resumed X) E O k L → Derives (Statement.present S p q) (resumed X) E O k L
  loop : {p : Statement} {X E O k L : ℕ} (O₁ O₂ : ℕ)
      → Derives p (resumed X) E O₁ 0 0 → Derives p start E O₂ k L → k ≢ 0 → O ≡ O₁ union O₂ → Derives (Statement.loop p) (resumed X) E O k L
  par_left : {p q : Statement} {X E O k L : ℕ}
      → Derives p (resumed X) E O k L → Apart X (pauses q) → Derives (Statement.parallel p q) (resumed X) E O k L
  par_right : {p q : Statement} {X E O k L : ℕ}
      → Derives q (resumed X) E O k L → Apart X (pauses p) → Derives (Statement.parallel p q) (resumed X) E O k L
  par : {p q : Statement} {x : State} {E O k L : ℕ} (O₁ k₁ L₁ O₂ k₂ L₂ : ℕ)
      → Derives p x E O₁ k₁ L₁ → Derives q x E O₂ k₂ L₂ → O ≡ O₁ union O₂ → k ≡ max k₁ k₂ → L ≡ reached_together k L₁ L₂
      → Derives (Statement.parallel p q) x E O k L

-- "A reaction under the assumed set E is (O, k, L): signals emitted, code, labels reached"
pub record Reaction : Type 0 where
  pub emitted : ℕ
  pub code : ℕ
  pub reached : ℕ

-- the reaction of a program in a state under E: what runs, listing and contracts speak of
unfoldable pub Reacts : Statement → State → ℕ → Reaction → Type 0
Reacts p x E r = Derives p x E r.emitted r.code r.reached
