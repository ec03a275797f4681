-- The reader over nodes makes the nodes of the statement that the reader gives, each operand held in its kind's range. And what the
-- loop over a text needs of it: that it fails for good, and that a number may be held as 100.
use Prim.Native.Nat.{ℕ, zero, suc, ◌≤◌, ◌<◌}
use mathlib.Core.Path.{◌≡◌, refl, sym, ap, ◌∙◌}
use mathlib.Core.Bool.{Bool, false, true, cond, ◌&&◌, and-false}
use mathlib.Core.Option.{Option, none, some}
use mathlib.Core.List.{List, [], ◌∷◌, ◌++◌, append_assoc, append-nil}
use native.Mathlib.Decide.{dec_le}
use native.Mathlib.Omega.{arith}
use lib.Dec.{leb}
use lib.ListN.{length, length-append}
use borrow.Author.Tests.{leb-true, le-leb, lt-leb}
use Rattle.sets.proofs.Booleans.{by_cond}
use Rattle.esterel.specs.Statement.{Statement, nothing, pause, gotopause, emit, exit, signal, present, sequence, parallel, loop, try}
use Rattle.table.specs.inner.Making.{node_of}
use Rattle.text.specs.Parts.{Nothing, Gotopause, Emit, Exit, Signal, In, End, Present, Then, Else, Loop, Try, Part, word, number, signal_of, pause_at, semicolon, bars, opening, closing}
use Rattle.text.specs.Grammar.{deepest_open}
use Rattle.text.specs.inner.Machine.{joined, beside, Stack, Head, after_in, after_then, State, meet, push, opened, ended, in_before, then_before, else_before, bare, signal_before, present_before}
use Rattle.text.specs.inner.Machine.{step_due, step_numbered, step_named, step_met, step_heading, step_headed, step, run, closed, outcome, read_within, read_parts}
use Rattle.reader.specs.inner.Nodes.{clip, clip_part, Kept, few, many, kept, kept_count, put_on, insert_behind, insert_on}
use Rattle.reader.specs.inner.Nodes.{Frames, Opener, of_signal, of_present, Work, chained, aside, single, push_frame, open_frame, end_frame, in_frame, then_frame, else_frame, bare_frame, signal_frame, present_frame}
use Rattle.reader.specs.inner.Nodes.{work_due, work_numbered, work_named, work_met, work_heading, work_headed, work, work_all, whole_nodes, made, begun}
use Rattle.text.specs.Reading.{label_ranged, signal_ranged}

-- ---- Nodes that are kept

pub kept_few : (xs : List ℕ) → length xs ≤ 1024 → kept xs ≡ few xs
unfolding kept
kept_few xs h = ap (λ (z : Bool). cond z (few xs) many) (le-leb (length xs) 1024 h)

pub kept_many : (xs : List ℕ) → 1024 < length xs → kept xs ≡ many
unfolding kept
kept_many xs h = ap (λ (z : Bool). cond z (few xs) many) (lt-leb (length xs) 1024 h)

put_kept : (x : ℕ) (xs : List ℕ) → put_on x (kept xs) ≡ kept (x ∷ xs)
unfolding put_on
put_kept x xs = go (dec_le (length xs) 1024)
  where
    go : Dec (length xs ≤ 1024) → put_on x (kept xs) ≡ kept (x ∷ xs)
    go (yes h) = ap (put_on x) (kept_few xs h)
    go (no h) = ap (put_on x) (kept_many xs (omega arith)) ∙ sym (kept_many (x ∷ xs) (omega arith))

inserted : (X R : List ℕ) → insert_behind (length R) (X ++ R) ≡ X ++ (node_of 0 0 ∷ R)
unfolding insert_behind
inserted [] [] = refl
inserted [] (r ∷ R) =
    ap (λ (z : Bool). cond z (node_of 0 0 ∷ r ∷ R) (r ∷ insert_behind (length (r ∷ R)) R)) (le-leb (length (r ∷ R)) (length (r ∷ R)) (omega arith))
inserted (x ∷ X) R =
    let l = length-append X R in
    ap (λ (z : Bool). cond z (node_of 0 0 ∷ x ∷ (X ++ R)) (x ∷ insert_behind (length R) (X ++ R))) (lt-leb (length (x ∷ (X ++ R))) (length R) (omega arith))
    ∙ ap (λ (y : List ℕ). x ∷ y) (inserted X R)

insert_kept : (X R : List ℕ) → insert_on (kept_count (kept R)) (kept (X ++ R)) ≡ kept (X ++ (node_of 0 0 ∷ R))
unfolding insert_on kept_count
insert_kept X R = go (dec_le (length (X ++ R)) 1024)
  where
    go : Dec (length (X ++ R) ≤ 1024) → insert_on (kept_count (kept R)) (kept (X ++ R)) ≡ kept (X ++ (node_of 0 0 ∷ R))
    go (yes h) =
        let l = length-append X R in
        ap (insert_on (kept_count (kept R))) (kept_few (X ++ R) h)
        ∙ ap (λ (k : Kept). kept (insert_behind (kept_count k) (X ++ R))) (kept_few R (omega arith)) ∙ ap kept (inserted X R)
    go (no h) =
        let l = length-append X R in
        let m = length-append X (node_of 0 0 ∷ R) in
        ap (insert_on (kept_count (kept R))) (kept_many (X ++ R) (omega arith)) ∙ sym (kept_many (X ++ (node_of 0 0 ∷ R)) (omega arith))

-- ---- What a state of the reader is over nodes

-- the nodes of a statement, each operand held in its kind's range
unfoldable pub held : Statement → List ℕ
held nothing = node_of 0 0 ∷ []
held (pause l) = node_of 1 (clip l) ∷ []
held (gotopause l) = node_of 2 (clip l) ∷ []
held (emit S) = node_of 3 (clip S) ∷ []
held (exit d) = node_of 4 (clip d) ∷ []
held (signal S p) = node_of 5 (clip S) ∷ held p
held (present S p q) = node_of 6 (clip S) ∷ (held p ++ held q)
held (sequence p q) = node_of 7 0 ∷ (held p ++ held q)
held (parallel p q) = node_of 8 0 ∷ (held p ++ held q)
held (loop p) = node_of 9 0 ∷ held p
held (try p) = node_of 10 0 ∷ held p

has : Option Statement → Bool
has none = false
has (some p) = true

held_if : Option Statement → List ℕ
held_if none = []
held_if (some p) = held p

behind : Option Statement → Option Statement → List ℕ → List ℕ
behind a b B = held_if a ++ (held_if b ++ B)

buffer_of : Stack → List ℕ
buffer_of Stack.bottom = []
buffer_of (Stack.bracket a b K) = held_if a ++ (held_if b ++ buffer_of K)
buffer_of (Stack.ending a b K) = held_if a ++ (held_if b ++ buffer_of K)
buffer_of (Stack.otherwise q a b K) = held q ++ (held_if a ++ (held_if b ++ buffer_of K))

frames_of : Stack → Frames
frames_of Stack.bottom = Frames.bottom
frames_of (Stack.bracket a b K) = Frames.bracket (has a) (has b) (frames_of K)
frames_of (Stack.ending a b K) = Frames.ending (has a) (has b) (kept_count (kept (behind a b (buffer_of K)))) (frames_of K)
frames_of (Stack.otherwise q a b K) = Frames.otherwise (has a) (has b) (frames_of K)

opener_of : Head → Opener
opener_of (after_in p) = of_signal
opener_of (after_then p q) = of_present

head_nodes : Head → List ℕ → List ℕ
head_nodes (after_in p) B = held p ++ B
head_nodes (after_then p q) B = held p ++ (held q ++ B)

work_of : State → Work
work_of State.failed = Work.failed
work_of (State.due n a b K) = Work.due n (has a) (has b) (frames_of K) (kept (behind a b (buffer_of K)))
work_of (State.numbered n m a b K) = Work.numbered n (clip m) (has a) (has b) (frames_of K) (kept (behind a b (buffer_of K)))
work_of (State.named n S a b K) = Work.named n (clip S) (has a) (has b) (frames_of K) (kept (behind a b (buffer_of K)))
work_of (State.met n p b K) = Work.met n (has b) (frames_of K) (kept (held p ++ (held_if b ++ buffer_of K)))
work_of (State.heading n h a b K) = Work.heading n (opener_of h) (has a) (has b) (frames_of K) (kept (head_nodes h (behind a b (buffer_of K))))
work_of (State.headed n S h a b K) = Work.headed n (clip S) (opener_of h) (has a) (has b) (frames_of K) (kept (head_nodes h (behind a b (buffer_of K))))

-- ---- Each step

-- the statement behind a `||` added
besides : (p : Statement) (b : Option Statement) (B : List ℕ) → aside (has b) (kept (held p ++ (held_if b ++ B))) ≡ kept (held (beside p b) ++ B)
unfolding aside has held_if beside held
besides p none B = refl
besides p (some q) B =
    put_kept (node_of 8 0) (held p ++ (held q ++ B)) ∙ ap (λ (x : List ℕ). kept (node_of 8 0 ∷ x)) (sym (append_assoc (held p) (held q) B))

-- a single statement, its nodes in front
meets : (n : ℕ) (p : Statement) (a b : Option Statement) (K : Stack)
    → work_of (meet n p a b K) ≡ single n (has a) (has b) (frames_of K) (kept (held p ++ behind a b (buffer_of K)))
unfolding work_of meet joined single chained has held_if behind held
meets n p none b K = refl
meets n p (some q) b K =
    ap (λ (x : List ℕ). Work.met n (has b) (frames_of K) (kept (node_of 7 0 ∷ x))) (append_assoc (held p) (held q) (held_if b ++ buffer_of K))
    ∙ ap (Work.met n (has b) (frames_of K)) (sym (put_kept (node_of 7 0) (held p ++ (held q ++ (held_if b ++ buffer_of K)))))

-- the same, where its first node is put on the others
meets_put : (n : ℕ) (p : Statement) (a b : Option Statement) (K : Stack) (x : ℕ) (B : List ℕ) → held p ++ behind a b (buffer_of K) ≡ x ∷ B
    → work_of (meet n p a b K) ≡ single n (has a) (has b) (frames_of K) (put_on x (kept B))
meets_put n p a b K x B e = meets n p a b K ∙ ap (single n (has a) (has b) (frames_of K)) (ap kept e ∙ sym (put_kept x B))

module _ (n : ℕ) (p : Statement) where
  opens : (K : Stack) → work_of (opened n p K) ≡ open_frame n (kept (held p ++ buffer_of K)) (frames_of K)
  unfolding opened open_frame buffer_of frames_of work_of behind
  opens Stack.bottom = refl
  opens (Stack.bracket a b K) = meets (suc n) p a b K
  opens (Stack.ending a b K) = refl
  opens (Stack.otherwise q a b K) = refl

  -- q is `loop p` or `try p`
  wraps : (q : Statement) (x : ℕ) → ((B : List ℕ) → held q ++ B ≡ x ∷ (held p ++ B))
      → (K : Stack) → work_of (ended n q K) ≡ end_frame n (put_on x (kept (held p ++ buffer_of K))) (frames_of K)
  unfolding ended end_frame buffer_of frames_of work_of behind
  wraps q x e Stack.bottom = refl
  wraps q x e (Stack.bracket a b K) = refl
  wraps q x e (Stack.ending a b K) = meets_put (suc n) q a b K x (held p ++ behind a b (buffer_of K)) (e (behind a b (buffer_of K)))
  wraps q x e (Stack.otherwise r a b K) = refl

  ins : (K : Stack) → work_of (in_before n p K) ≡ in_frame n (kept (held p ++ buffer_of K)) (frames_of K)
  unfolding in_before in_frame buffer_of frames_of work_of behind opener_of head_nodes
  ins Stack.bottom = refl
  ins (Stack.bracket a b K) = refl
  ins (Stack.ending a b K) = refl
  ins (Stack.otherwise q a b K) = refl

  thens : (K : Stack) → work_of (then_before n p K) ≡ then_frame n (kept (held p ++ buffer_of K)) (frames_of K)
  unfolding then_before then_frame buffer_of frames_of work_of behind opener_of head_nodes held
  thens Stack.bottom = refl
  thens (Stack.bracket a b K) = refl
  thens (Stack.ending a b K) = ap (Work.heading n of_present (has a) (has b) (frames_of K)) (sym (insert_kept (held p) (held_if a ++ (held_if b ++ buffer_of K))))
  thens (Stack.otherwise q a b K) = refl

  elses : (K : Stack) → work_of (else_before n p K) ≡ else_frame n (kept (held p ++ buffer_of K)) (frames_of K)
  unfolding else_before else_frame buffer_of frames_of work_of behind has held_if
  elses Stack.bottom = refl
  elses (Stack.bracket a b K) = refl
  elses (Stack.ending a b K) = refl
  elses (Stack.otherwise q a b K) = refl

bares : (n S : ℕ) (a b : Option Statement) (K : Stack) → work_of (bare n S a b K) ≡ bare_frame n (clip S) (has a) (has b) (frames_of K) (kept (behind a b (buffer_of K)))
unfolding bare bare_frame buffer_of frames_of work_of behind has held_if held
bares n S none none Stack.bottom = refl
bares n S none none (Stack.bracket a b K) = refl
bares n S none none (Stack.ending a b K) =
    let B = held_if a ++ (held_if b ++ buffer_of K) in
    meets_put (suc n) (present S nothing nothing) a b K (node_of 6 (clip S)) (node_of 0 0 ∷ node_of 0 0 ∷ B) refl
    ∙ ap (λ (x : Kept). single (suc n) (has a) (has b) (frames_of K) (put_on (node_of 6 (clip S)) x))
    (sym (put_kept (node_of 0 0) (node_of 0 0 ∷ B)) ∙ ap (put_on (node_of 0 0)) (sym (put_kept (node_of 0 0) B)))
bares n S none none (Stack.otherwise q a b K) =
    let B = held q ++ (held_if a ++ (held_if b ++ buffer_of K)) in
    meets_put (suc n) (present S nothing q) a b K (node_of 6 (clip S)) (node_of 0 0 ∷ B) refl
    ∙ ap (λ (x : Kept). single (suc n) (has a) (has b) (frames_of K) (put_on (node_of 6 (clip S)) x)) (sym (put_kept (node_of 0 0) B))
bares n S none (some q) K = refl
bares n S (some p) b K = refl

signals : (n S : ℕ) (h : Head) (a b : Option Statement) (K : Stack)
    → work_of (signal_before n S h a b K) ≡ signal_frame n (clip S) (opener_of h) (has a) (has b) (frames_of K) (kept (head_nodes h (behind a b (buffer_of K))))
unfolding signal_before signal_frame opener_of head_nodes work_of held
signals n S (after_in p) a b K = meets_put (suc n) (signal S p) a b K (node_of 5 (clip S)) (held p ++ behind a b (buffer_of K)) refl
signals n S (after_then p q) a b K = refl

presents : (n S : ℕ) (h : Head) (a b : Option Statement) (K : Stack)
    → work_of (present_before n S h a b K) ≡ present_frame n (clip S) (opener_of h) (has a) (has b) (frames_of K) (kept (head_nodes h (behind a b (buffer_of K))))
unfolding present_before present_frame opener_of head_nodes work_of held
presents n S (after_in p) a b K = refl
presents n S (after_then p q) a b K =
    meets_put (suc n) (present S p q) a b K (node_of 6 (clip S)) (held p ++ (held q ++ behind a b (buffer_of K)))
    (ap (λ (x : List ℕ). node_of 6 (clip S) ∷ x) (append_assoc (held p) (held q) (behind a b (buffer_of K))))

pushes_end : (n : ℕ) (a b : Option Statement) (K : Stack) → work_of (push n (Stack.ending a b) K)
    ≡ push_frame n (Frames.ending (has a) (has b) (kept_count (kept (behind a b (buffer_of K)))) (frames_of K)) (kept (behind a b (buffer_of K)))
unfolding push push_frame work_of frames_of buffer_of has held_if behind
pushes_end zero a b K = refl
pushes_end (suc n) a b K = refl

pushes_bracket : (n : ℕ) (a b : Option Statement) (K : Stack)
    → work_of (push n (Stack.bracket a b) K) ≡ push_frame n (Frames.bracket (has a) (has b) (frames_of K)) (kept (behind a b (buffer_of K)))
unfolding push push_frame work_of frames_of buffer_of has held_if behind
pushes_bracket zero a b K = refl
pushes_bracket (suc n) a b K = refl

works_due : (n : ℕ) (a b : Option Statement) (K : Stack) (t : Part) → work_of (step_due n a b K t) ≡ work_due n (has a) (has b) (frames_of K) (kept (behind a b (buffer_of K))) t
unfolding step_due work_due work_of held
works_due n a b K (word Nothing) = meets_put n nothing a b K (node_of 0 0) (behind a b (buffer_of K)) refl
works_due n a b K (word Gotopause) = refl
works_due n a b K (word Emit) = refl
works_due n a b K (word Exit) = refl
works_due n a b K (word Signal) = refl
works_due n a b K (word In) = refl
works_due n a b K (word End) = pushes_end n a b K
works_due n a b K (word Present) = refl
works_due n a b K (word Then) = refl
works_due n a b K (word Else) = refl
works_due n a b K (word Loop) = refl
works_due n a b K (word Try) = refl
works_due n a b K (number m) = refl
works_due n a b K (signal_of m) = refl
works_due n a b K (pause_at m) = meets_put n (pause m) a b K (node_of 1 (clip m)) (behind a b (buffer_of K)) refl
works_due n a b K semicolon = refl
works_due n a b K bars = refl
works_due n a b K opening = refl
works_due n a b K closing = pushes_bracket n a b K

works_numbered : (n k : ℕ) (a b : Option Statement) (K : Stack) (t : Part) → work_of (step_numbered n k a b K t) ≡ work_numbered n (clip k) (has a) (has b) (frames_of K) (kept (behind a b (buffer_of K))) t
unfolding step_numbered work_numbered work_of held
works_numbered n k a b K (word Nothing) = refl
works_numbered n k a b K (word Gotopause) = meets_put n (gotopause k) a b K (node_of 2 (clip k)) (behind a b (buffer_of K)) refl
works_numbered n k a b K (word Emit) = refl
works_numbered n k a b K (word Exit) = meets_put n (exit k) a b K (node_of 4 (clip k)) (behind a b (buffer_of K)) refl
works_numbered n k a b K (word Signal) = refl
works_numbered n k a b K (word In) = refl
works_numbered n k a b K (word End) = refl
works_numbered n k a b K (word Present) = refl
works_numbered n k a b K (word Then) = refl
works_numbered n k a b K (word Else) = refl
works_numbered n k a b K (word Loop) = refl
works_numbered n k a b K (word Try) = refl
works_numbered n k a b K (number m) = refl
works_numbered n k a b K (signal_of m) = refl
works_numbered n k a b K (pause_at m) = refl
works_numbered n k a b K semicolon = refl
works_numbered n k a b K bars = refl
works_numbered n k a b K opening = refl
works_numbered n k a b K closing = refl

works_named : (n S : ℕ) (a b : Option Statement) (K : Stack) (t : Part) → work_of (step_named n S a b K t) ≡ work_named n (clip S) (has a) (has b) (frames_of K) (kept (behind a b (buffer_of K))) t
unfolding step_named work_named work_of held
works_named n S a b K (word Nothing) = refl
works_named n S a b K (word Gotopause) = refl
works_named n S a b K (word Emit) = meets_put n (emit S) a b K (node_of 3 (clip S)) (behind a b (buffer_of K)) refl
works_named n S a b K (word Exit) = refl
works_named n S a b K (word Signal) = refl
works_named n S a b K (word In) = refl
works_named n S a b K (word End) = refl
works_named n S a b K (word Present) = bares n S a b K
works_named n S a b K (word Then) = refl
works_named n S a b K (word Else) = refl
works_named n S a b K (word Loop) = refl
works_named n S a b K (word Try) = refl
works_named n S a b K (number m) = refl
works_named n S a b K (signal_of m) = refl
works_named n S a b K (pause_at m) = refl
works_named n S a b K semicolon = refl
works_named n S a b K bars = refl
works_named n S a b K opening = refl
works_named n S a b K closing = refl

works_met : (n : ℕ) (p : Statement) (b : Option Statement) (K : Stack) (t : Part) → work_of (step_met n p b K t) ≡ work_met n (has b) (frames_of K) (kept (held p ++ (held_if b ++ buffer_of K))) t
unfolding step_met work_met work_of has held_if behind held
works_met n p b K (word Nothing) = refl
works_met n p b K (word Gotopause) = refl
works_met n p b K (word Emit) = refl
works_met n p b K (word Exit) = refl
works_met n p b K (word Signal) = refl
works_met n p b K (word In) = ins n (beside p b) K ∙ ap (λ (x : Kept). in_frame n x (frames_of K)) (sym (besides p b (buffer_of K)))
works_met n p b K (word End) = refl
works_met n p b K (word Present) = refl
works_met n p b K (word Then) = thens n (beside p b) K ∙ ap (λ (x : Kept). then_frame n x (frames_of K)) (sym (besides p b (buffer_of K)))
works_met n p b K (word Else) = elses n (beside p b) K ∙ ap (λ (x : Kept). else_frame n x (frames_of K)) (sym (besides p b (buffer_of K)))
works_met n p b K (word Loop) = wraps n (beside p b) (loop (beside p b)) (node_of 9 0) (λ B. refl) K ∙ ap (λ (x : Kept). end_frame n (put_on (node_of 9 0) x) (frames_of K)) (sym (besides p b (buffer_of K)))
works_met n p b K (word Try) = wraps n (beside p b) (try (beside p b)) (node_of 10 0) (λ B. refl) K ∙ ap (λ (x : Kept). end_frame n (put_on (node_of 10 0) x) (frames_of K)) (sym (besides p b (buffer_of K)))
works_met n p b K (number m) = refl
works_met n p b K (signal_of m) = refl
works_met n p b K (pause_at m) = refl
works_met n p b K semicolon = refl
works_met n p b K bars = ap (λ (x : Kept). Work.due n false true (frames_of K) x) (sym (besides p b (buffer_of K)))
works_met n p b K opening = opens n (beside p b) K ∙ ap (λ (x : Kept). open_frame n x (frames_of K)) (sym (besides p b (buffer_of K)))
works_met n p b K closing = refl

works_heading : (n : ℕ) (h : Head) (a b : Option Statement) (K : Stack) (t : Part) → work_of (step_heading n h a b K t) ≡ work_heading n (opener_of h) (has a) (has b) (frames_of K) (kept (head_nodes h (behind a b (buffer_of K)))) t
unfolding step_heading work_heading work_of
works_heading n h a b K (word Nothing) = refl
works_heading n h a b K (word Gotopause) = refl
works_heading n h a b K (word Emit) = refl
works_heading n h a b K (word Exit) = refl
works_heading n h a b K (word Signal) = refl
works_heading n h a b K (word In) = refl
works_heading n h a b K (word End) = refl
works_heading n h a b K (word Present) = refl
works_heading n h a b K (word Then) = refl
works_heading n h a b K (word Else) = refl
works_heading n h a b K (word Loop) = refl
works_heading n h a b K (word Try) = refl
works_heading n h a b K (number m) = refl
works_heading n h a b K (signal_of m) = refl
works_heading n h a b K (pause_at m) = refl
works_heading n h a b K semicolon = refl
works_heading n h a b K bars = refl
works_heading n h a b K opening = refl
works_heading n h a b K closing = refl

works_headed : (n S : ℕ) (h : Head) (a b : Option Statement) (K : Stack) (t : Part) → work_of (step_headed n S h a b K t) ≡ work_headed n (clip S) (opener_of h) (has a) (has b) (frames_of K) (kept (head_nodes h (behind a b (buffer_of K)))) t
unfolding step_headed work_headed work_of
works_headed n S h a b K (word Nothing) = refl
works_headed n S h a b K (word Gotopause) = refl
works_headed n S h a b K (word Emit) = refl
works_headed n S h a b K (word Exit) = refl
works_headed n S h a b K (word Signal) = signals n S h a b K
works_headed n S h a b K (word In) = refl
works_headed n S h a b K (word End) = refl
works_headed n S h a b K (word Present) = presents n S h a b K
works_headed n S h a b K (word Then) = refl
works_headed n S h a b K (word Else) = refl
works_headed n S h a b K (word Loop) = refl
works_headed n S h a b K (word Try) = refl
works_headed n S h a b K (number m) = refl
works_headed n S h a b K (signal_of m) = refl
works_headed n S h a b K (pause_at m) = refl
works_headed n S h a b K semicolon = refl
works_headed n S h a b K bars = refl
works_headed n S h a b K opening = refl
works_headed n S h a b K closing = refl

works : (t : Part) (x : State) → work_of (step t x) ≡ work t (work_of x)
unfolding step work work_of
works t State.failed = refl
works t (State.due n a b K) = works_due n a b K t
works t (State.numbered n m a b K) = works_numbered n m a b K t
works t (State.named n S a b K) = works_named n S a b K t
works t (State.met n p b K) = works_met n p b K t
works t (State.heading n h a b K) = works_heading n h a b K t
works t (State.headed n S h a b K) = works_headed n S h a b K t

works_all : (ts : List Part) (x : State) → work_of (run ts x) ≡ work_all ts (work_of x)
unfolding run work_all
works_all [] x = refl
works_all (t ∷ ts) x = works t (run ts x) ∙ ap (work t) (works_all ts x)

-- ---- What is made

unfoldable pub kept_of : Option Statement → Option Kept
kept_of none = none
kept_of (some p) = some (kept (held p))

closes : (p : Statement) (K : Stack) → whole_nodes (kept (held p ++ buffer_of K)) (frames_of K) ≡ kept_of (closed p K)
unfolding whole_nodes frames_of buffer_of closed kept_of
closes p Stack.bottom = ap (λ (x : List ℕ). some (kept x)) (append-nil (held p))
closes p (Stack.bracket a b K) = refl
closes p (Stack.ending a b K) = refl
closes p (Stack.otherwise q a b K) = refl

makes : (x : State) → made (work_of x) ≡ kept_of (outcome x)
unfolding made work_of outcome kept_of
makes State.failed = refl
makes (State.due n a b K) = refl
makes (State.numbered n m a b K) = refl
makes (State.named n S a b K) = refl
makes (State.met n p b K) = ap (λ (y : Kept). whole_nodes y (frames_of K)) (besides p b (buffer_of K)) ∙ closes (beside p b) K
makes (State.heading n h a b K) = refl
makes (State.headed n S h a b K) = refl

-- the nodes that are made are those of the statement that is read
pub nodes_made : (ts : List Part) → made (work_all ts begun) ≡ kept_of (read_parts ts)
unfolding begun read_parts read_within work_of has held_if behind buffer_of frames_of kept
nodes_made ts = ap made (sym (works_all ts (State.due deepest_open none none Stack.bottom))) ∙ makes (run ts (State.due deepest_open none none Stack.bottom))

-- ---- For the loop over a text

pub work_failed : (us : List Part) → work_all us Work.failed ≡ Work.failed
unfolding work_all work
work_failed [] = refl
work_failed (u ∷ us) = ap (work u) (work_failed us)

pub work_append : (us vs : List Part) (x : Work) → work_all (us ++ vs) x ≡ work_all us (work_all vs x)
unfolding work_all
work_append [] vs x = refl
work_append (u ∷ us) vs x = ap (work u) (work_append us vs x)

pub clip_small : (m : ℕ) → m ≤ 100 → clip m ≡ m
unfolding clip
clip_small m h = ap (λ (z : Bool). cond z m 100) (le-leb m 100 h)

pub clip_large : (m : ℕ) → 100 ≤ m → clip m ≡ 100
unfolding clip
clip_large m h = by_cond (λ (x : ℕ). x ≡ 100) (leb m 100) m 100 (λ e. omega (arith, leb-true m 100 e)) (λ e. refl)

clip_twice : (m : ℕ) → clip (clip m) ≡ clip m
clip_twice m = go (dec_le m 100)
  where
    go : Dec (m ≤ 100) → clip (clip m) ≡ clip m
    go (yes h) = ap clip (clip_small m h)
    go (no h) = ap clip (clip_large m (omega arith)) ∙ clip_small 100 (omega arith) ∙ sym (clip_large m (omega arith))

-- a number may be held as 100: its range does not change
pub clip_label : (m : ℕ) → label_ranged (clip m) ≡ label_ranged m
unfolding label_ranged
clip_label m = go (dec_le m 100)
  where
    go : Dec (m ≤ 100) → (leb 1 (clip m) && leb (clip m) 63) ≡ (leb 1 m && leb m 63)
    go (yes h) = ap label_ranged (clip_small m h)
    go (no h) = ap label_ranged (clip_large m (omega arith)) ∙ sym (ap (λ (z : Bool). leb 1 m && z) (lt-leb m 63 (omega arith)) ∙ and-false (leb 1 m))

pub clip_signal : (m : ℕ) → signal_ranged (clip m) ≡ signal_ranged m
unfolding signal_ranged
clip_signal m = go (dec_le m 100)
  where
    go : Dec (m ≤ 100) → leb (clip m) 31 ≡ leb m 31
    go (yes h) = ap signal_ranged (clip_small m h)
    go (no h) = ap signal_ranged (clip_large m (omega arith)) ∙ sym (lt-leb m 31 (omega arith))

-- nor does a step tell it from what it is
pub clip_work : (t : Part) (x : Work) → work (clip_part t) x ≡ work t x
unfolding clip_part work work_due work_numbered work_named work_met work_heading work_headed
clip_work (word w) x = refl
clip_work (number m) Work.failed = refl
clip_work (number m) (Work.due n a b K B) = ap (λ (v : ℕ). Work.numbered n v a b K B) (clip_twice m)
clip_work (number m) (Work.numbered n k a b K B) = refl
clip_work (number m) (Work.named n S a b K B) = refl
clip_work (number m) (Work.met n b K B) = refl
clip_work (number m) (Work.heading n h a b K B) = refl
clip_work (number m) (Work.headed n S h a b K B) = refl
clip_work (signal_of m) Work.failed = refl
clip_work (signal_of m) (Work.due n a b K B) = ap (λ (v : ℕ). Work.named n v a b K B) (clip_twice m)
clip_work (signal_of m) (Work.numbered n k a b K B) = refl
clip_work (signal_of m) (Work.named n S a b K B) = refl
clip_work (signal_of m) (Work.met n b K B) = refl
clip_work (signal_of m) (Work.heading n h a b K B) = ap (λ (v : ℕ). Work.headed n v h a b K B) (clip_twice m)
clip_work (signal_of m) (Work.headed n S h a b K B) = refl
clip_work (pause_at m) Work.failed = refl
clip_work (pause_at m) (Work.due n a b K B) = ap (λ (v : ℕ). single n a b K (put_on (node_of 1 v) B)) (clip_twice m)
clip_work (pause_at m) (Work.numbered n k a b K B) = refl
clip_work (pause_at m) (Work.named n S a b K B) = refl
clip_work (pause_at m) (Work.met n b K B) = refl
clip_work (pause_at m) (Work.heading n h a b K B) = refl
clip_work (pause_at m) (Work.headed n S h a b K B) = refl
clip_work semicolon x = refl
clip_work bars x = refl
clip_work opening x = refl
clip_work closing x = refl
