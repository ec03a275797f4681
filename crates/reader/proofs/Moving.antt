-- What the moves of the reader do is what the machine over nodes does. Each goes by what is open innermost.
use Prim.Native.Nat.{ℕ, suc, ◌+◌, ◌≤◌, ◌<◌}
use mathlib.Core.Path.{◌≡◌, refl, sym, ap, ◌∙◌}
use mathlib.Core.Bool.{Bool, true, false, ◌||◌}
use mathlib.Core.List.{List, [], ◌∷◌}
use mathlib.Core.Logic.{⊎_elim, inl, inr}
use native.Mathlib.Numerals.{add-one}
use native.Mathlib.Omega.{arith}
use lib.ListN.{length, set, length-set, length-drop, drop_of_length-le}
use borrow.Author.Tests.{le-leb}
use denote.Enum.Declared.{tag_of}
use types.Run.{OneOf}
use Rattle.std.specs.Prelude.{Option, Some, None, unwrap_or}
use Rattle.reader.specs.declared.frames.Opened.{Opened}
use Rattle.reader.specs.declared.frames.Opened.TheVariants.{Bracket, Ending, Otherwise}
use Rattle.reader.specs.contracts.frames.Opened.{the_type}
use Rattle.reader.specs.declared.frames.Frame.{Frame}
use Rattle.reader.specs.declared.moves.Reader.{Reader}
use Rattle.reader.specs.declared.moves.Stage.{Stage}
use Rattle.reader.specs.declared.moves.Stage.TheVariants.{Due, DueBefore, Met}
use Rattle.reader.specs.declared.moves.Room.{Room}
use Rattle.table.specs.inner.Making.{node_of}
use Rattle.text.specs.Parts.{word, Present, signal_of}
use Rattle.reader.specs.inner.Nodes.{clip, Kept, kept_count, put_on, insert_on, Frames, bottom, bracket, otherwise, of_present, Work, failed, due, met, heading}
use Rattle.reader.specs.inner.Nodes.{chained, single, push_frame, open_frame, end_frame, then_frame, else_frame, bare_frame, present_frame, work_heading, work_headed, work, work_all}
use Rattle.reader.specs.inner.Kept.{kept_in, Counted, Stored}
use Rattle.reader.specs.inner.Held.{framed_as, after_of, staged, framed, frames_of, stack_at, stack_of, nodes_of, due_state, met_state, state, Ready, Moved}
use Rattle.reader.proofs.Held.{frame_stored}

-- ---- By the stage

module _ (r : Reader) (m : Room) where
  pub state_due : (r.stage ≡ Met → ⊥) → state r m ≡ due_state r m
  unfolding state staged
  state_due = go r.stage
    where
      go : (s : Stage) → (s ≡ Met → ⊥) → staged s (due_state r m) (met_state r m) ≡ due_state r m
      go Due f = refl
      go DueBefore f = refl
      go Met f = absurd (f refl)

  pub state_met : r.stage ≡ Met → state r m ≡ met_state r m
  unfolding state staged
  state_met e = ap (λ (s : Stage). staged s (due_state r m) (met_state r m)) e

-- ---- Where a move ends

pub moved_as : {r s : Reader} {m : Room} {y z : Work} → Moved r s m y → y ≡ z → Moved r s m z
moved_as M e = record { state = M.state ∙ e; ready = M.ready; ranged = M.ranged }

pub ready_nodes : {r : Reader} {m : Room} → Ready r m → (ys : List ℕ) → length ys ≡ 1024 → Ready r (record { frames = m.frames; nodes = ys })
ready_nodes R ys l = record { room = R.room; counted = R.counted; frames = R.frames; nodes = l }

pub ready_within : {r s : Reader} {m : Room} {ranged : Bool} → s ≡ record r { ranged = ranged } → Ready r m → Ready s m
ready_within e R = rw e (record { room = R.room; counted = R.counted; frames = R.frames; nodes = R.nodes })

pub moved_due : (r s : Reader) (m : Room) (b : Bool) → s ≡ record r { stage = Due; beside = b } → Ready r m → Moved r s m (due r.left false b (stack_of r m) (nodes_of r m))
unfolding state staged due_state after_of
moved_due r s m b e R =
    rw e (record { state = refl; ready = record { room = R.room; counted = R.counted; frames = R.frames; nodes = R.nodes }; ranged = refl })

pub moved_before : (r : Reader) (m : Room) → Ready r m → Moved r (record r { stage = DueBefore }) m (due r.left true r.beside (stack_of r m) (nodes_of r m))
unfolding state staged due_state after_of
moved_before r m R = record { state = refl; ready = record { room = R.room; counted = R.counted; frames = R.frames; nodes = R.nodes }; ranged = refl }

pub moved_met : (r : Reader) (m : Room) (a b : Bool) {n : Option ℕ} {ys : List ℕ} → Ready r m → Stored n ys (chained a (nodes_of r m))
    → Moved r (record r { stage = Met; beside = b; count = n }) (record { frames = m.frames; nodes = ys }) (single r.left a b (stack_of r m) (nodes_of r m))
unfolding state staged met_state single
moved_met r m a b R S =
    record {
      state = ap (λ (C : Kept). met r.left b (stack_of r m) C) S.held;
      ready = record { room = R.room; counted = S.counted; frames = R.frames; nodes = S.filled };
      ranged = refl;
    }

-- ---- What is open innermost

pub at_60 : (fs : List Frame) {left : ℕ} → left ≡ 60 → length fs ≡ 60 → stack_at left fs ≡ bottom
unfolding stack_at frames_of
at_60 fs {left} p l = ap frames_of (drop_of_length-le fs {i = left} (omega arith))

-- what is open, by its key
pub but_bracket : (x : Opened) → (x ≡ Bracket → ⊥) → OneOf (1 ∷ 2 ∷ []) (tag_of the_type x)
but_bracket Bracket n = absurd (n refl)
but_bracket Ending n = inl refl
but_bracket Otherwise n = inr refl

pub but_ending : (x : Opened) → (x ≡ Ending → ⊥) → OneOf (0 ∷ 2 ∷ []) (tag_of the_type x)
but_ending Bracket n = inl refl
but_ending Ending n = absurd (n refl)
but_ending Otherwise n = inr refl

module _ (F : Frames → Work) (f : Frame) {K : Frames} (K' : Frames) (top : K ≡ framed f K') where
  at_frame : {o : Opened} {x : Work} → f.opened ≡ o → F (framed_as o f.after f.beside f.behind K') ≡ x → F K ≡ x
  at_frame told e = ap F top ∙ ap (λ (o : Opened). F (framed_as o f.after f.beside f.behind K')) told ∙ e

  -- no `end` before which no else branch stands
  no_ending : OneOf (0 ∷ 2 ∷ []) (tag_of the_type f.opened) → F (bracket f.after f.beside K') ≡ failed → F (otherwise f.after f.beside K') ≡ failed → F K ≡ failed
  unfolding framed_as
  no_ending k e o = ap F top ∙ go f.opened k
    where
      go : (x : Opened) → OneOf (0 ∷ 2 ∷ []) (tag_of the_type x) → F (framed_as x f.after f.beside f.behind K') ≡ failed
      go Bracket k = e
      go Ending k = absurd (⊎_elim (λ h. omega arith) (λ h. omega arith) k)
      go Otherwise k = o

-- ---- What is opened

pub count_told : (n : Option ℕ) (xs : List ℕ) → Counted n → length xs ≡ 1024 → unwrap_or n 0 ≡ kept_count (kept_in n xs)
unfolding kept_count kept_in
count_told None xs h l = refl
count_told (Some n) xs h l = simp length-drop (omega arith)

pub opened : (r s : Reader) (m : Room) (f : Frame) (left : ℕ) {k : ℕ} {a : Bool} → s ≡ record r { stage = Due; beside = false; left = left } → Ready r m → left + 1 ≡ r.left → f.behind ≡ k → f.after ≡ a
    → Moved r s (record { frames = set m.frames left f; nodes = m.nodes }) (push_frame r.left (framed_as f.opened a f.beside k (stack_of r m)) (nodes_of r m))
unfolding push_frame state staged due_state after_of
opened r s m f left e R n told after-told =
    let l : r.left ≡ suc left = sym n ∙ add-one left in
    let room = R.room in
    let long = R.frames in
    let top : stack_at left (set m.frames left f) ≡ framed f (stack_at (suc left) m.frames) = frame_stored m.frames left f (omega arith) in
    rw (e, l, ← told, ← after-told) (record {
      state = ap (λ (K : Frames). due left false false K (nodes_of r m)) top;
      ready = record { room = omega arith; counted = R.counted; frames = length-set m.frames left f ∙ long; nodes = R.nodes };
      ranged = refl;
    })

pub branched : (r s : Reader) (m : Room) (f : Frame) → s ≡ record r { stage = Due; beside = false } → Ready r m → r.left < 60 → stack_of r m ≡ framed f (stack_at (suc r.left) m.frames) → f.opened ≡ Ending
    → Moved r s (record { frames = set m.frames r.left (record f { opened = Otherwise }); nodes = m.nodes }) (else_frame r.left (nodes_of r m) (stack_of r m))
unfolding else_frame framed_as state staged due_state after_of
branched r s m f e R h top told =
    let long = R.frames in
    let new : stack_at r.left (set m.frames r.left (record f { opened = Otherwise })) ≡ otherwise f.after f.beside (stack_at (suc r.left) m.frames) = frame_stored m.frames r.left _ (omega arith) in
    rw e (record {
      state = ap (λ (K : Frames). due r.left false false K (nodes_of r m)) new ∙ sym (at_frame (λ (K : Frames). else_frame r.left (nodes_of r m) K) f _ top told refl);
      ready = record { room = R.room; counted = R.counted; frames = length-set m.frames r.left _ ∙ long; nodes = R.nodes };
      ranged = refl;
    })

-- ---- What is closed

pub put_behind : (F : Kept → Kept) {n m : Option ℕ} {xs ys : List ℕ} {B : Kept} → Stored n xs B → Stored m ys (F (kept_in n xs)) → Stored m ys (F B)
put_behind F s t = record { held = t.held ∙ ap F s.held; counted = t.counted; filled = t.filled }

pub closed : (n : ℕ) (a b : Bool) (K : Frames) {c : Option ℕ} {xs : List ℕ} {B : Kept} {r s : Reader} {m : Room} → Stored c xs B → Moved r s m (single n a b K (kept_in c xs)) → Moved r s m (single n a b K B)
closed n a b K S M = moved_as M (ap (λ (C : Kept). single n a b K C) S.held)

present_closed : (n S : ℕ) (a b : Bool) (K : Frames) (B : Kept) → S ≤ 100 → single (suc n) a b K (put_on (node_of 6 S) B) ≡ work_all (word Present ∷ signal_of S ∷ []) (heading n of_present a b K B)
unfolding work_all work work_heading work_headed present_frame clip
present_closed n S a b K B h = rw (le-leb _ _ h)

-- `present S` has nothing behind it
pub bare_behind : (n S : ℕ) (a b : Bool) (K : Frames) (B : Kept) → (a || b) ≡ true → bare_frame n S a b K B ≡ failed
unfolding bare_frame
bare_behind n S true b K B h = refl
bare_behind n S false true K B h = refl
bare_behind n S false false K B h = let z : ◌≡◌ {A = ℕ} 0 1 = cc in absurd (omega arith)

bare_alone : (n S : ℕ) (a b : Bool) (K : Frames) (B : Kept) → (a || b) ≡ false → bare_frame n S a b K B ≡ bare_frame n S false false K B
bare_alone n S true b K B h = let z : ◌≡◌ {A = ℕ} 0 1 = cc in absurd (omega arith)
bare_alone n S false true K B h = let z : ◌≡◌ {A = ℕ} 0 1 = cc in absurd (omega arith)
bare_alone n S false false K B h = refl

-- a branch behind `present S then`, and `present S` alone
abbrev branch_frame : ℕ → ℕ → Kept → Frames → Work
branch_frame S n B K = work_all (word Present ∷ signal_of S ∷ []) (then_frame n B K)

abbrev alone_frame : ℕ → ℕ → Kept → Frames → Work
alone_frame S n B K = bare_frame n S false false K B

-- ---- Each way of closing: where nothing is open, where something else is, where it is what is asked for

module _ (n : ℕ) (B : Kept) {K : Frames} (e : K ≡ bottom) where
  pub bracket_bottom : open_frame n B K ≡ failed
  unfolding open_frame
  bracket_bottom = ap (open_frame n B) e

  pub body_bottom : end_frame n B K ≡ failed
  unfolding end_frame
  body_bottom = ap (end_frame n B) e

  pub otherwise_bottom : else_frame n B K ≡ failed
  unfolding else_frame
  otherwise_bottom = ap (else_frame n B) e

  pub branch_bottom : (S : ℕ) → branch_frame S n B K ≡ failed
  unfolding then_frame work_all work
  branch_bottom S = ap (branch_frame S n B) e

  pub bare_bottom : (S : ℕ) (a b : Bool) → (a || b) ≡ false → bare_frame n S a b K B ≡ failed
  unfolding bare_frame
  bare_bottom S a b h = bare_alone n S a b K B h ∙ ap (alone_frame S n B) e

module _ (n : ℕ) (B : Kept) (f : Frame) {K : Frames} (K' : Frames) (top : K ≡ framed f K') where
  pub bracket_refused : OneOf (1 ∷ 2 ∷ []) (tag_of the_type f.opened) → open_frame n B K ≡ failed
  unfolding open_frame framed_as
  bracket_refused k = ap (open_frame n B) top ∙ go f.opened k
    where
      go : (x : Opened) → OneOf (1 ∷ 2 ∷ []) (tag_of the_type x) → open_frame n B (framed_as x f.after f.beside f.behind K') ≡ failed
      go Bracket k = absurd (⊎_elim (λ h. omega arith) (λ h. omega arith) k)
      go Ending k = refl
      go Otherwise k = refl

  pub body_refused : OneOf (0 ∷ 2 ∷ []) (tag_of the_type f.opened) → end_frame n B K ≡ failed
  unfolding end_frame
  body_refused k = no_ending (end_frame n B) f K' top k refl refl

  pub otherwise_refused : OneOf (0 ∷ 2 ∷ []) (tag_of the_type f.opened) → else_frame n B K ≡ failed
  unfolding else_frame
  otherwise_refused k = no_ending (else_frame n B) f K' top k refl refl

  pub branch_refused : (S : ℕ) → f.opened ≡ Bracket → branch_frame S n B K ≡ failed
  unfolding then_frame framed_as work_all work
  branch_refused S told = at_frame (branch_frame S n B) f K' top told refl

  pub bare_refused : (S : ℕ) (a b : Bool) → (a || b) ≡ false → f.opened ≡ Bracket → bare_frame n S a b K B ≡ failed
  unfolding bare_frame framed_as
  bare_refused S a b h told = bare_alone n S a b K B h ∙ at_frame (alone_frame S n B) f K' top told refl

  module _ {r s : Reader} {m : Room} where
    pub bracket_closed : f.opened ≡ Bracket → Moved r s m (single (suc n) f.after f.beside K' B) → Moved r s m (open_frame n B K)
    unfolding open_frame framed_as
    bracket_closed told M = moved_as M (sym (at_frame (open_frame n B) f K' top told refl))

    pub body_closed : f.opened ≡ Ending → Moved r s m (single (suc n) f.after f.beside K' B) → Moved r s m (end_frame n B K)
    unfolding end_frame framed_as
    body_closed told M = moved_as M (sym (at_frame (end_frame n B) f K' top told refl))

-- the branches are there, with what is put before them: m' and n are the room and the count then
pub record Branches (r : Reader) (f : Frame) (m : Room) (n : Option ℕ) (m' : Room) (F : Kept → Kept) (y : Work) : Type 0 where
  pub frames : m'.frames ≡ m.frames
  pub whole : single (suc r.left) f.after f.beside (stack_at (suc r.left) m.frames) (F (kept_in n m'.nodes)) ≡ y

abbrev pub TestBranches : Reader → Frame → Room → ℕ → Option ℕ → Room → Type 0
TestBranches r f m S n m' = Branches r f m n m' (put_on (node_of 6 S)) (branch_frame S r.left (nodes_of r m) (stack_of r m))

abbrev pub BareBranches : Reader → Frame → Room → ℕ → Option ℕ → Room → Type 0
BareBranches r f m S n m' =
    Branches r f m n m' (λ B. put_on (node_of 6 S) (put_on (node_of 0 0) B)) (bare_frame r.left S (after_of r.stage) r.beside (stack_of r m) (nodes_of r m))

pub branches_closed : {r : Reader} {f : Frame} {m : Room} {n : Option ℕ} {m' : Room} (F : Kept → Kept) {y : Work} {c : Option ℕ} {ys : List ℕ} {s : Reader} {q : Room} → Branches r f m n m' F y → Stored c ys (F (kept_in n m'.nodes))
    → Moved r s q (single (suc r.left) f.after f.beside (stack_at (suc r.left) m'.frames) (kept_in c ys)) → Moved r s q y
branches_closed {r} {f} {m} {n} {m'} F b S M =
    moved_as M (ap (λ (C : Kept). single (suc r.left) f.after f.beside (stack_at (suc r.left) m'.frames) C) S.held
    ∙ ap (λ (fs : List Frame). single (suc r.left) f.after f.beside (stack_at (suc r.left) fs) (F (kept_in n m'.nodes))) b.frames ∙ b.whole)

module _ (r : Reader) (m : Room) (f : Frame) (top : stack_of r m ≡ framed f (stack_at (suc r.left) m.frames)) (S : ℕ) {n : Option ℕ} {m' : Room} where
  module _ (h : S ≤ 100) where
    pub branch_ending : f.opened ≡ Ending → {c : Option ℕ} {ys : List ℕ} → m' ≡ record { frames = m.frames; nodes = ys } → n ≡ c → Stored c ys (insert_on f.behind (nodes_of r m))
        → Branches r f m n m' (put_on (node_of 6 S)) (branch_frame S r.left (nodes_of r m) (stack_of r m))
    unfolding then_frame framed_as
    branch_ending told e g T =
        rw (e, g) (record {
          frames = refl;
          whole = ap (λ (C : Kept). single (suc r.left) f.after f.beside (stack_at (suc r.left) m.frames) (put_on (node_of 6 S) C)) T.held
              ∙ present_closed r.left S f.after f.beside _ (insert_on f.behind (nodes_of r m)) h
              ∙ sym (at_frame (branch_frame S r.left (nodes_of r m)) f _ top told refl);
        })

    pub branch_otherwise : f.opened ≡ Otherwise → m' ≡ m → n ≡ r.count → Branches r f m n m' (put_on (node_of 6 S)) (branch_frame S r.left (nodes_of r m) (stack_of r m))
    unfolding then_frame framed_as
    branch_otherwise told e g =
        rw (e, g) (record {
          frames = refl;
          whole = present_closed r.left S f.after f.beside _ (nodes_of r m) h ∙ sym (at_frame (branch_frame S r.left (nodes_of r m)) f _ top told refl);
        })

  module _ (h : (after_of r.stage || r.beside) ≡ false) where
    pub bare_ending : f.opened ≡ Ending → {c : Option ℕ} {ys : List ℕ} → m' ≡ record { frames = m.frames; nodes = ys } → n ≡ c → Stored c ys (put_on (node_of 0 0) (nodes_of r m))
        → Branches r f m n m' (λ B. put_on (node_of 6 S) (put_on (node_of 0 0) B)) (bare_frame r.left S (after_of r.stage) r.beside (stack_of r m) (nodes_of r m))
    unfolding bare_frame framed_as
    bare_ending told e g T =
        rw (e, g) (record {
          frames = refl;
          whole = ap (λ (C : Kept). single (suc r.left) f.after f.beside (stack_at (suc r.left) m.frames) (put_on (node_of 6 S) (put_on (node_of 0 0) C))) T.held
              ∙ sym (bare_alone r.left S (after_of r.stage) r.beside (stack_of r m) (nodes_of r m) h ∙ at_frame (alone_frame S r.left (nodes_of r m)) f _ top told refl);
        })

    pub bare_otherwise : f.opened ≡ Otherwise → m' ≡ m → n ≡ r.count
        → Branches r f m n m' (λ B. put_on (node_of 6 S) (put_on (node_of 0 0) B)) (bare_frame r.left S (after_of r.stage) r.beside (stack_of r m) (nodes_of r m))
    unfolding bare_frame framed_as
    bare_otherwise told e g =
        rw (e, g) (record {
          frames = refl;
          whole = sym (bare_alone r.left S (after_of r.stage) r.beside (stack_of r m) (nodes_of r m) h ∙ at_frame (alone_frame S r.left (nodes_of r m)) f _ top told refl);
        })
