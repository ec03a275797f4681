-- Marking at a node: what is found of it, kind by kind; then by the number of its children its note, and that no note before
-- it is written.
use mathlib.Core.Path.{◌≡◌, refl, sym, ap, ap₂, ◌∙◌, subst}
use mathlib.Core.Logic.{◌≢◌, ◌⊎◌}
use mathlib.Core.Bool.{Bool, true, false, cond, ◌||◌}
use mathlib.Core.List.{List}
use Prim.Native.Nat.{ℕ, zero, suc, ◌+◌, ◌-◌, ◌*◌, ◌/◌, ◌%◌, ◌^◌, ◌≤◌, ◌<◌}
use native.Mathlib.Nat.{mod-lt}
use native.Mathlib.Decide.{ℕ_discrete}
use native.Mathlib.Omega.{arith}
use lib.Dec.{eqb}
use lib.ListN.{length, get_or, set}
use lib.Seq.{get_or-set_same, get_or-set_other}
use Rattle.sets.specs.Set.{has, only, ◌union◌}
use Rattle.sets.proofs.Booleans.{or_false, eqb_differ}
use Rattle.sets.proofs.Members.{has_empty}
use Rattle.esterel.specs.Statement.{Statement, nothing, pause, gotopause, emit, exit, signal, present, sequence, parallel, loop, try, pauses, Valid}
use Rattle.esterel.specs.Codes.{Codes, code_of, none, just_ended, just_at, just_code, join, minus_zero, through_try, maximum, s, d}
use Rattle.esterel.specs.Trimming.{ends_at, can_end, trim}
use Rattle.table.specs.Kinds.{kinds, kind_of, row_of}
use Rattle.table.specs.Reading.{operand_of}
use Rattle.table.specs.inner.Places.{Placed, placed, place_one, place_kind, statement_at}
use Rattle.table.proofs.Places.{Node, placed_node, placed_none, next_forward, next_within}
use Rattle.reach.specs.inner.CodeSets.{followed_by}
use Rattle.reach.proofs.Summing.{s_followed, d_followed, d_looped}
use Rattle.trim.specs.declared.marks.Exits.{Exits}
use Rattle.trim.specs.declared.marks.Marked.{Marked}
use Rattle.trim.specs.declared.noted.Note.{Note}
use Rattle.trim.specs.inner.Notes.{live, note_with, no_note, second_place, note_for}
use Rattle.trim.specs.inner.Marking.{ExitsAre, no_exits, exit_at, either_of, exits_if, in_turn_of, again_of, outside_of, Finds, DeadFound, LeafReady, LeafFound, OneFound, PartsFound, Markable, Marks}
use Rattle.trim.proofs.Parts.{has_signal, has_or}
use Rattle.trim.proofs.Leaving.{ends_signal, ends_sequence, ends_parallel, ends_loop, ends_try, ends_branches}
use Rattle.trim.proofs.Notes.{noted_make, noted_none, noted_stay}
use Rattle.trim.proofs.Live.{live_none, live_pause, live_two}

-- ---- the exits of a statement, from those of its children

-- a leaf that is no exit
none_left : (R : ℕ) (t : Statement) (n : ℕ) → ((b : Bool) (d : ℕ) → ends_at d (trim R b t) ≡ false) → ExitsAre R (placed t n) no_exits
none_left R t n h = record { resumed = λ d. has_empty (suc d) ∙ sym (h false d); started = λ d. has_empty (suc d) ∙ sym (h true d) }

if_leaf : (d : ℕ) (z : Bool) (t : Statement) → ends_at d t ≡ false → ends_at d (cond z t nothing) ≡ false
unfolding ends_at
if_leaf d true t h = h
if_leaf d false t h = refl

one_exit : (R e n : ℕ) → e < 64 → ExitsAre R (placed (exit e) n) (exit_at e)
unfolding trim ends_at
one_exit R e n h = record { resumed = λ d. has_empty (suc d); started = λ d. has_signal e (only e % 2 ^ 64) h refl (suc d) ∙ swap (suc d) e }
  where
    swap : (a b : ℕ) → eqb a b ≡ eqb b a
    swap a b = go (ℕ_discrete a b)
      where
        go : Dec (a ≡ b) → eqb a b ≡ eqb b a
        go (yes z) = rw z
        go (no z) = eqb_differ a b z ∙ sym (eqb_differ b a (λ y. z (sym y)))

module _ (R : ℕ) (p q : Placed) (x y : Exits) (P : ExitsAre R p x) (Q : ExitsAre R q y) where
  either_exits : (f : Statement → Statement → Statement)
      → ((d : ℕ) (b : Bool) (s t : Statement) → ends_at d (trim R b (f s t)) ≡ (ends_at d (trim R b s) || ends_at d (trim R b t)))
      → ExitsAre R (placed (f p.statement q.statement) q.next) (either_of x y)
  either_exits f h =
      record {
        resumed = λ d. has_or x.resumed y.resumed (suc d) ∙ ap₂ ◌||◌ (P.resumed d) (Q.resumed d) ∙ sym (h d false p.statement q.statement);
        started = λ d. has_or x.started y.started (suc d) ∙ ap₂ ◌||◌ (P.started d) (Q.started d) ∙ sym (h d true p.statement q.statement);
      }

-- those that are left with a flag
exits_if_lem : (R : ℕ) (q : Placed) (y : Exits) → ExitsAre R q y → (b : Bool) (d : ℕ) → has (exits_if b y) (suc d) ≡ ends_at d (trim R b q.statement)
exits_if_lem R q y Q true d = Q.started d
exits_if_lem R q y Q false d = Q.resumed d

-- whether a statement can end, started
can_start : (R : ℕ) (p : Statement) {K D : Codes} → K ≡ s p → D ≡ d R p → (D.ends || K.ends) ≡ can_end R true p
unfolding can_end join
can_start R p e f = ap₂ (λ (K D : Codes). D.ends || K.ends) e f

can_resume : (R : ℕ) (p : Statement) {D : Codes} → D ≡ d R p → D.ends ≡ can_end R false p
unfolding can_end
can_resume R p f = ap (λ (D : Codes). D.ends) f

turn_exits : (R : ℕ) (p q : Placed) (x y : Exits) (u v : Bool) → u ≡ can_end R false p.statement → v ≡ can_end R true p.statement → ExitsAre R p x → ExitsAre R q y
    → ExitsAre R (placed (sequence p.statement q.statement) q.next) (in_turn_of u v x y)
turn_exits R p q x y u v h k P Q =
    record {
      resumed = λ d. has_or x.resumed (exits_if u y) (suc d) ∙ ap₂ ◌||◌ (P.resumed d) (then d false u h) ∙ sym (ends_sequence d R false p.statement q.statement);
      started = λ d. has_or x.started (exits_if v y) (suc d) ∙ ap₂ ◌||◌ (P.started d) (then d true v k) ∙ sym (ends_sequence d R true p.statement q.statement);
    }
  where
    then : (d : ℕ) (b z : Bool) → z ≡ can_end R b p.statement → has (exits_if z y) (suc d) ≡ ends_at d (trim R (can_end R b p.statement) q.statement)
    then d b z e = ap (λ (z : Bool). has (exits_if z y) (suc d)) e ∙ exits_if_lem R q y Q (can_end R b p.statement) d

again_exits : (R : ℕ) (p : Placed) (x : Exits) (u : Bool) → u ≡ can_end R false p.statement → ExitsAre R p x → ExitsAre R (placed (loop p.statement) p.next) (again_of u x)
again_exits R p x u h P =
    record {
      resumed = λ d.
          ap (λ (z : Bool). has (exits_if z x) (suc d)) h ∙ exits_if_lem R p x P (can_end R false p.statement) d
          ∙ ap (λ (b : Bool). ends_at d (trim R b p.statement)) (sym (or_false (can_end R false p.statement))) ∙ sym (ends_loop d R false p.statement);
      started = λ d. P.started d ∙ ap (λ (b : Bool). ends_at d (trim R b p.statement)) (sym (or_true (can_end R true p.statement))) ∙ sym (ends_loop d R true p.statement);
    }
  where
    or_true : (b : Bool) → (b || true) ≡ true
    or_true true = refl
    or_true false = refl

signal_exits : (R S : ℕ) (p : Placed) (x : Exits) → ExitsAre R p x → ExitsAre R (placed (signal S p.statement) p.next) x
signal_exits R S p x P =
    record { resumed = λ d. P.resumed d ∙ sym (ends_signal d R false S p.statement); started = λ d. P.started d ∙ sym (ends_signal d R true S p.statement) }

-- a level above 1, outside the try
one_lower : (m d : ℕ) → has (m / 4 * 2) (suc d) ≡ has m (suc (suc d))
unfolding has
one_lower m d = ap (λ (n : ℕ). has n d) (let e : m / 4 * 2 / 2 ≡ m / 2 / 2 = omega arith in e)

try_exits : (R : ℕ) (p : Placed) (x : Exits) → ExitsAre R p x → ExitsAre R (placed (try p.statement) p.next) (outside_of x)
try_exits R p x P =
    record {
      resumed = λ d. one_lower x.resumed d ∙ P.resumed (suc d) ∙ sym (ends_try d R false p.statement);
      started = λ d. one_lower x.started d ∙ P.started (suc d) ∙ sym (ends_try d R true p.statement);
    }

-- ---- what is found, kind by kind

pub found_pause : (R l next : ℕ) (m : Marked) → m.s ≡ just_at l → m.d ≡ cond m.live just_ended none → m.exits ≡ no_exits → m.live ≡ has R l → m.next ≡ next
    → Finds R (placed (pause l) next) m
unfolding s d trim ends_at
found_pause R l next m a b e z n = record {
  start = a;
  resumed = b ∙ ap (λ (y : Bool). cond y just_ended none) z;
  leaving = rw e (none_left R (pause l) next (λ b d. if_leaf d (b || has R l) (pause l) refl));
  lives = z ∙ sym (live_pause R l);
  next = n;
}

module _ {K : Codes} {e : Exits} {next : ℕ} {m : Marked} (F : DeadFound K e next m) (R : ℕ) where
  pub found_nothing : K ≡ just_ended → e ≡ no_exits → Finds R (placed nothing next) m
  unfolding s d pauses trim ends_at
  found_nothing k x = F.found R nothing k refl (rw x (none_left R nothing next (λ b d. refl))) (live_none R nothing refl)

  pub found_emit : (S : ℕ) → K ≡ just_ended → e ≡ no_exits → Finds R (placed (emit S) next) m
  unfolding s d pauses trim ends_at
  found_emit S k x = F.found R (emit S) k refl (rw x (none_left R (emit S) next (λ b d. if_leaf d b (emit S) refl))) (live_none R (emit S) refl)

  pub found_gotopause : (l : ℕ) → K ≡ just_at l → e ≡ no_exits → Finds R (placed (gotopause l) next) m
  unfolding s d pauses trim ends_at
  found_gotopause l k x = F.found R (gotopause l) k refl (rw x (none_left R (gotopause l) next (λ b d. if_leaf d b (gotopause l) refl))) (live_none R (gotopause l) refl)

  pub found_exit : (l : ℕ) → l < 64 → K ≡ just_code (code_of l) → e ≡ exit_at l → Finds R (placed (exit l) next) m
  unfolding s d pauses
  found_exit l h k x = F.found R (exit l) k refl (rw x (one_exit R l next h)) (live_none R (exit l) refl)

module _ (R : ℕ) (P : Placed) {p : Marked} (F : Finds R P p) where
  found_signal : (S : ℕ) → Finds R (place_one (signal S) P) p
  unfolding s d live pauses
  found_signal S = record { start = F.start; resumed = F.resumed; leaving = signal_exits R S P p.exits F.leaving; lives = F.lives; next = F.next }

  module _ (m : Marked) (l : m.live ≡ p.live) (n : m.next ≡ p.next) where
    pub found_loop : m.s ≡ minus_zero p.s → m.d ≡ followed_by p.d m.s → m.exits ≡ again_of p.d.ends p.exits
        → Finds R (place_one loop P) m
    unfolding s live pauses
    found_loop a b e = record {
      start = a ∙ ap minus_zero F.start;
      resumed = b ∙ ap₂ followed_by F.resumed (a ∙ ap minus_zero F.start) ∙ sym (d_looped R P.statement);
      leaving = rw e (again_exits R P p.exits p.d.ends (can_resume R P.statement F.resumed) F.leaving);
      lives = l ∙ F.lives;
      next = n ∙ F.next;
    }

    pub found_try : m.s ≡ through_try p.s → m.d ≡ through_try p.d → m.exits ≡ outside_of p.exits → Finds R (place_one try P) m
    unfolding s d live pauses
    found_try a b e = record {
      start = a ∙ ap through_try F.start;
      resumed = b ∙ ap through_try F.resumed;
      leaving = rw e (try_exits R P p.exits F.leaving);
      lives = l ∙ F.lives;
      next = n ∙ F.next;
    }

module _ (R : ℕ) (P Q : Placed) {p q : Marked} (F : Finds R P p) (G : Finds R Q q) (m : Marked) (l : m.live ≡ (p.live || q.live)) (n : m.next ≡ q.next) where
  -- a statement of both
  both_live : (t : Statement) → pauses t ≡ pauses P.statement union pauses Q.statement → m.live ≡ live R t
  both_live t e = l ∙ ap₂ ◌||◌ F.lives G.lives ∙ sym (live_two R t P.statement Q.statement e)

  pub found_present : (S : ℕ) → m.s ≡ join p.s q.s → m.d ≡ join p.d q.d → m.exits ≡ either_of p.exits q.exits
      → Finds R (placed (present S P.statement Q.statement) Q.next) m
  unfolding s d pauses
  found_present S a b e = record {
    start = a ∙ ap₂ join F.start G.start;
    resumed = b ∙ ap₂ join F.resumed G.resumed;
    leaving = rw e (either_exits R P Q p.exits q.exits F.leaving G.leaving (present S) (λ d b s t. ends_branches d R b S s t));
    lives = both_live (present S P.statement Q.statement) refl;
    next = n ∙ G.next;
  }

  pub found_sequence : m.s ≡ followed_by p.s q.s → m.d ≡ join (followed_by p.d q.s) q.d
      → m.exits ≡ in_turn_of p.d.ends (p.d.ends || p.s.ends) p.exits q.exits
      → Finds R (placed (sequence P.statement Q.statement) Q.next) m
  unfolding pauses
  found_sequence a b e = record {
    start = a ∙ ap₂ followed_by F.start G.start ∙ sym (s_followed P.statement Q.statement);
    resumed = b ∙ ap₂ join (ap₂ followed_by F.resumed G.start) G.resumed ∙ sym (d_followed R P.statement Q.statement);
    leaving = rw e (turn_exits R P Q p.exits q.exits p.d.ends (p.d.ends || p.s.ends)
        (can_resume R P.statement F.resumed) (can_start R P.statement F.start F.resumed) F.leaving G.leaving);
    lives = both_live (sequence P.statement Q.statement) refl;
    next = n ∙ G.next;
  }

  pub found_parallel : m.s ≡ maximum p.s q.s → m.d ≡ join p.d q.d → m.exits ≡ either_of p.exits q.exits
      → Finds R (placed (parallel P.statement Q.statement) Q.next) m
  unfolding s d pauses
  found_parallel a b e = record {
    start = a ∙ ap₂ maximum F.start G.start;
    resumed = b ∙ ap₂ join F.resumed G.resumed;
    leaving = rw e (either_exits R P Q p.exits q.exits F.leaving G.leaving parallel (λ d b s t. ends_parallel d R b s t));
    lives = both_live (parallel P.statement Q.statement) refl;
    next = n ∙ G.next;
  }

-- ---- the pass

-- the kinds with two children, one by one
by_two : (P : ℕ → Type 0) (k : ℕ) → 6 ≤ k → k ≤ 8 → P 6 → P 7 → P 8 → P k
by_two P k a b x y z = go (ℕ_discrete k 6) (ℕ_discrete k 7)
  where
    go : Dec (k ≡ 6) → Dec (k ≡ 7) → P k
    go (yes e) d = subst P (sym e) x
    go (no f) (yes e) = subst P (sym e) y
    go (no f) (no g) = subst P (let e : 8 ≡ k = omega arith in e) z

leaf_children : (k : ℕ) → k ≤ 4 → (row_of (kind_of k)).children ≡ 0
unfolding kind_of kinds row_of
leaf_children zero h = refl
leaf_children (suc zero) h = refl
leaf_children (suc (suc zero)) h = refl
leaf_children (suc (suc (suc zero))) h = refl
leaf_children (suc (suc (suc (suc zero)))) h = refl
leaf_children (suc (suc (suc (suc (suc k))))) h = absurd (omega arith)

two_children : (k : ℕ) → 6 ≤ k → k ≤ 8 → (row_of (kind_of k)).children ≡ 2
unfolding kind_of kinds row_of
two_children k a b = by_two (λ (k : ℕ). (row_of (kind_of k)).children ≡ 2) k a b refl refl refl

-- the kinds with children
by_parent : (P : ℕ → Type 0) (k : ℕ) → 5 ≤ k → k ≤ 10 → P 5 → P 6 → P 7 → P 8 → P 9 → P 10 → P k
by_parent P k a b p q r s t u = go (ℕ_discrete k 5) (ℕ_discrete k 9) (ℕ_discrete k 10)
  where
    go : Dec (k ≡ 5) → Dec (k ≡ 9) → Dec (k ≡ 10) → P k
    go (yes e) y z = subst P (sym e) p
    go (no x) (yes e) z = subst P (sym e) t
    go (no x) (no y) (yes e) = subst P (sym e) u
    go (no x) (no y) (no z) = by_two P k (omega arith) (omega arith) q r s

-- the children of a valid statement are valid
first_valid : (k : ℕ) → 5 ≤ k → k ≤ 10 → (tries o : ℕ) (child : ℕ → Placed) (at : ℕ) → Valid tries (place_kind (kind_of k) o child at).statement
    → (inside : ℕ) × Valid inside (child at).statement
unfolding place_kind kind_of kinds Valid
first_valid k a b tries o child at =
    by_parent (λ (k : ℕ). Valid tries (place_kind (kind_of k) o child at).statement → (inside : ℕ) × Valid inside (child at).statement) k a b
    (λ v. (tries, v.1)) (λ v. (tries, v.1)) (λ v. (tries, v.0)) (λ v. (tries, v.0)) (λ v. (tries, v)) (λ v. (suc tries, v))

second_valid : (k : ℕ) → 6 ≤ k → k ≤ 8 → (tries o : ℕ) (child : ℕ → Placed) (at : ℕ) → Valid tries (place_kind (kind_of k) o child at).statement
    → Valid tries (child (child at).next).statement
unfolding place_kind kind_of kinds Valid
second_valid k a b tries o child at =
    by_two (λ (k : ℕ). Valid tries (place_kind (kind_of k) o child at).statement → Valid tries (child (child at).next).statement) k a b (λ v. v.2) (λ v. v.1) (λ v. v.1)

two_live : (R k : ℕ) → 6 ≤ k → k ≤ 8 → (o : ℕ) (child : ℕ → Placed) (at : ℕ)
    → live R (place_kind (kind_of k) o child at).statement ≡ (live R (child at).statement || live R (child (child at).next).statement)
unfolding place_kind kind_of kinds pauses
two_live R k a b o child at =
    let p = child at in
    let q = child p.next in
    by_two (λ (k : ℕ). live R (place_kind (kind_of k) o child at).statement ≡ (live R p.statement || live R q.statement)) k a b
    (live_two R (present o p.statement q.statement) p.statement q.statement refl) (live_two R (sequence p.statement q.statement) p.statement q.statement refl)
    (live_two R (parallel p.statement q.statement) p.statement q.statement refl)

pub mark_none : (R : ℕ) (nodes : List ℕ) (left at : ℕ) (notes : List Note) (m : Marked) → (left ≡ 0) ⊎ (length nodes ≤ at) → Finds R (placed nothing at) m → Marks R nodes left at notes m notes
mark_none R nodes left at notes m h F = record {
  finds = rw (placed_none left nodes at h) F;
  noted = noted_none R notes nodes left at h;
  low = λ i l. refl;
}

module _ (R : ℕ) {left : ℕ} {nodes : List ℕ} {at k : ℕ} (n : Node left nodes at k) (N : Markable left nodes at) where
  abbrev o : ℕ
  o = operand_of (get_or nodes at 0)

  abbrev child : ℕ → Placed
  child = statement_at (left - 1) nodes

  abbrev first : Placed
  first = child (at + 1)

  abbrev whole : Placed
  whole = statement_at left nodes at

  valid_here : Valid N.tries (place_kind (kind_of k) o child (at + 1)).statement
  valid_here = subst (λ (x : Placed). Valid N.tries x.statement) (placed_node n) N.valid

  pub enter_first : 5 ≤ k → Markable (left - 1) nodes (at + 1)
  enter_first a =
      let most : k ≤ 10 = omega (arith, N.known at, n.kind) in
      let (inside, v) = first_valid k a most N.tries o child (at + 1) valid_here in
      record { tries = inside; valid = v; known = N.known }

  pub enter_second : 6 ≤ k → k ≤ 8 → {p : Marked} {notes notes₁ : List Note} → Marks R nodes (left - 1) (at + 1) notes p notes₁
      → Markable (left - 1) nodes p.next
  enter_second a b M = record {
    tries = N.tries;
    valid = subst (λ (j : ℕ). Valid N.tries (child j).statement) (sym M.finds.next) (second_valid k a b N.tries o child (at + 1) valid_here);
    known = N.known;
  }

  -- what a leaf asks
  pub leaf_ready : k ≤ 4 → LeafReady k o
  unfolding place_kind kind_of kinds Valid
  leaf_ready h = record { leaf = h; narrow = mod-lt (get_or nodes at 0) (omega arith); level = λ e. exit_level (subst (λ (j : ℕ). Valid N.tries (place_kind (kind_of j) o child (at + 1)).statement) e valid_here) }
    where
      exit_level : Valid N.tries (exit o) → 1 ≤ o
      exit_level v = v.0

  -- a place of a note fits it
  pub note_fits : length nodes ≡ 1024 → {p : Marked} → Finds R first p → p.next ≤ 1024
  note_fits all F =
      let w = next_within nodes (left - 1) (at + 1) (omega (arith, n.inside)) in
      omega (arith, w, F.next, all)

  module _ (notes₁ : List Note) (x : Note) {notes₂ : List Note} (w : notes₂ ≡ set notes₁ at x) where
    written : at < length notes₁ → get_or notes₂ at no_note ≡ x
    written h = ap (λ (l : List Note). get_or l at no_note) w ∙ get_or-set_same notes₁ at x no_note h

    others : (i : ℕ) → i ≢ at → get_or notes₂ i no_note ≡ get_or notes₁ i no_note
    others i l = ap (λ (l : List Note). get_or l i no_note) w ∙ get_or-set_other notes₁ at i x no_note l

  found_here : {m : Marked} → Finds R (place_kind (kind_of k) o child (at + 1)) m → Finds R whole m
  found_here F = rw (placed_node n) F

  pub mark_leaf : {notes : List Note} → at < length notes → {m : Marked} {notes₁ : List Note} → k ≤ 4 → LeafFound R k o (at + 1) m → notes₁ ≡ set notes at (note_with 0 m.live false false)
      → Marks R nodes left at notes m notes₁
  unfolding note_for
  mark_leaf {notes} inside {m} {notes₁} h F w =
      let c = leaf_children k h in
      let f = found_here (F child) in
      record {
        finds = f;
        noted = noted_make R notes₁ n (written notes (note_with 0 m.live false false) w inside ∙ ap (λ (z : Bool). note_with 0 z false false) f.lives ∙ rw c, rw c tt);
        low = λ i l. others notes (note_with 0 m.live false false) w i (λ z. omega arith);
      }

  forward : at + 1 ≤ first.next
  forward = next_forward nodes (left - 1) (at + 1)

  -- one child
  module _ {p m : Marked} {notes notes₁ notes₂ : List Note} (M : Marks R nodes (left - 1) (at + 1) notes p notes₁) (inside : at < length notes₁) (c : (row_of (kind_of k)).children ≡ 1) (f : Finds R whole m)
      (x : Note) (w : notes₂ ≡ set notes₁ at x) (e : x ≡ note_for R k whole.statement first) where
    mark_one : Marks R nodes left at notes m notes₂
    mark_one = record {
      finds = f;
      noted = noted_make R notes₂ n (
        written notes₁ x w inside ∙ e,
        rw c (noted_stay R notes₁ notes₂ nodes (left - 1) (at + 1) M.noted (λ i a b. others notes₁ x w i (λ z. omega arith))),
      );
      low = λ i l. others notes₁ x w i (λ z. omega arith) ∙ M.low i (omega arith);
    }

  -- two
  module _ {p q m : Marked} {notes notes₁ notes₂ notes₃ : List Note} (M : Marks R nodes (left - 1) (at + 1) notes p notes₁) (M₂ : Marks R nodes (left - 1) first.next notes₁ q notes₂)
      (inside : at < length notes₂) (c : (row_of (kind_of k)).children ≡ 2) (f : Finds R whole m) (x : Note) (w : notes₃ ≡ set notes₂ at x) (e : x ≡ note_for R k whole.statement first) where
    mark_both : Marks R nodes left at notes m notes₃
    mark_both = record {
      finds = f;
      noted = noted_make R notes₃ n (
        written notes₂ x w inside ∙ e,
        rw c (
          noted_stay R notes₁ notes₃ nodes (left - 1) (at + 1) M.noted (λ i a b. others notes₂ x w i (λ z. omega arith) ∙ M₂.low i b),
          noted_stay R notes₂ notes₃ nodes (left - 1) first.next M₂.noted (λ i a b. others notes₂ x w i (λ z. omega (arith, forward))),
        ),
      );
      low = λ i l. others notes₂ x w i (λ z. omega arith) ∙ M₂.low i (omega (arith, forward)) ∙ M.low i (omega arith);
    }

  -- the note of a first child, and of a body
  abbrev written_child : Marked → ℕ → Bool → Note
  written_child p second z = note_with second z p.d.ends p.s.ends

  child_note : {p : Marked} (second : ℕ) (z : Bool) → Finds R first p → second ≡ second_place (row_of (kind_of k)).children first → z ≡ live R whole.statement
      → eqb (row_of (kind_of k)).children 0 ≡ false → eqb k 10 ≡ false → written_child p second z ≡ note_for R k whole.statement first
  unfolding note_for
  child_note {p} second z F f e c t =
      ap₂ (λ (j : ℕ) (y : Bool). note_with j y p.d.ends p.s.ends) f e
      ∙ ap₂ (λ (D K : Codes). note_with (second_place (row_of (kind_of k)).children first) (live R whole.statement) D.ends K.ends) F.resumed F.start ∙ rw (c, t)

  abbrev written_try : Marked → Note
  written_try p = note_with 0 p.live (has p.exits.resumed 1) (has p.exits.started 1)

  try_note : {p : Marked} → Finds R first p → p.live ≡ live R whole.statement → eqb (row_of (kind_of k)).children 0 ≡ false → eqb k 10 ≡ true
      → written_try p ≡ note_for R k whole.statement first
  unfolding note_for
  try_note {p} F e c t =
      ap (λ (y : Bool). note_with 0 y (has p.exits.resumed 1) (has p.exits.started 1)) e
      ∙ ap₂ (λ (y z : Bool). note_with 0 (live R whole.statement) y z) (F.leaving.resumed 0) (F.leaving.started 0) ∙ rw (c, t)

  lives_here : {z : Bool} → z ≡ live R (place_kind (kind_of k) o child (at + 1)).statement → z ≡ live R whole.statement
  lives_here e = e ∙ sym (ap (λ (x : Placed). live R x.statement) (placed_node n))

module _ (R : ℕ) {left : ℕ} {nodes : List ℕ} {at : ℕ} (N : Markable left nodes at) {p : Marked} {notes notes₁ : List Note}
    (M : Marks R nodes (left - 1) (at + 1) notes p notes₁) where
  abbrev body : Placed
  body = statement_at (left - 1) nodes (at + 1)

  pub mark_signal : (n : Node left nodes at 5) → at < length notes₁ → {notes₂ : List Note} → notes₂ ≡ set notes₁ at (written_child R n N p 0 p.live) → Marks R nodes left at notes p notes₂
  unfolding place_kind kind_of kinds row_of live pauses
  mark_signal n inside w =
      mark_one R n N M inside refl (found_here R n N (found_signal R body M.finds (operand_of (get_or nodes at 0)))) (written_child R n N p 0 p.live) w
      (child_note R n N 0 p.live M.finds refl (lives_here R n N M.finds.lives) refl refl)

  pub mark_loop : (n : Node left nodes at 9) → at < length notes₁ → {m : Marked} {notes₂ : List Note} → OneFound loop p m → notes₂ ≡ set notes₁ at (written_child R n N p 0 p.live) → Marks R nodes left at notes m notes₂
  unfolding place_kind kind_of kinds row_of live pauses
  mark_loop n inside F w =
      mark_one R n N M inside refl (found_here R n N (F R body M.finds)) (written_child R n N p 0 p.live) w
      (child_note R n N 0 p.live M.finds refl (lives_here R n N M.finds.lives) refl refl)

  pub mark_try : (n : Node left nodes at 10) → at < length notes₁ → {m : Marked} {notes₂ : List Note} → OneFound try p m → notes₂ ≡ set notes₁ at (written_try R n N p) → Marks R nodes left at notes m notes₂
  unfolding place_kind kind_of kinds row_of live pauses
  mark_try n inside F w =
      mark_one R n N M inside refl (found_here R n N (F R body M.finds)) (written_try R n N p) w
      (try_note R n N M.finds (lives_here R n N M.finds.lives) refl refl)

  pub mark_two : {k : ℕ} (n : Node left nodes at k) → 6 ≤ k → k ≤ 8 → {q m : Marked} {notes₂ notes₃ : List Note} → Marks R nodes (left - 1) p.next notes₁ q notes₂ → at < length notes₂ → PartsFound k p q m
      → notes₃ ≡ set notes₂ at (written_child R n N p p.next (p.live || q.live)) → Marks R nodes left at notes m notes₃
  mark_two {k} n least most {q} {m} {notes₂} {notes₃} M₂ inside F w =
      mark_both R n N M second inside (two_children k least most) (found_here R n N (F R (operand_of (get_or nodes at 0)) (statement_at (left - 1) nodes) (at + 1) M.finds second.finds))
      (written_child R n N p p.next (p.live || q.live)) w
      (child_note R n N p.next (p.live || q.live) M.finds (M.finds.next ∙ sym (ap (λ (c : ℕ). second_place c body) (two_children k least most)))
      (lives_here R n N (ap₂ ◌||◌ M.finds.lives second.finds.lives ∙ sym (two_live R k least most (operand_of (get_or nodes at 0)) (statement_at (left - 1) nodes) (at + 1)))) (rw (two_children k least most)) (eqb_differ k 10 (λ z. omega arith)))
    where
      second : Marks R nodes (left - 1) body.next notes₁ q notes₂
      second = subst (λ (j : ℕ). Marks R nodes (left - 1) j notes₁ q notes₂) M.finds.next M₂
