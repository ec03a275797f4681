-- Which parts a state of the machine over nodes takes: with any other it fails.
use Prim.Native.Nat.{ℕ}
use mathlib.Core.Path.{◌≡◌, refl}
use mathlib.Core.Bool.{Bool}
use Rattle.text.specs.Parts.{Nothing, Gotopause, Emit, Exit, Signal, In, End, Present, Then, Else, Loop, Try, Part, word, number, signal_of, pause_at, semicolon, bars, opening, closing}
use Rattle.reader.specs.inner.Nodes.{Kept, Frames, Opener, of_signal, of_present, failed, work_due, work_numbered, work_named, work_met, work_heading, work_headed, signal_frame, present_frame}

-- A statement is due: the last part of one ends there.
pub due_failed : (n : ℕ) (a b : Bool) (K : Frames) (B : Kept) (t : Part) → (t ≡ word Nothing → ⊥) → (t ≡ word End → ⊥) → ((m : ℕ) → t ≡ number m → ⊥) → ((m : ℕ) → t ≡ signal_of m → ⊥) → ((m : ℕ) → t ≡ pause_at m → ⊥) → (t ≡ closing → ⊥)
    → work_due n a b K B t ≡ failed
unfolding work_due
due_failed n a b K B (word Nothing) nothing ending numbers signals pauses closes = absurd (nothing refl)
due_failed n a b K B (word Gotopause) nothing ending numbers signals pauses closes = refl
due_failed n a b K B (word Emit) nothing ending numbers signals pauses closes = refl
due_failed n a b K B (word Exit) nothing ending numbers signals pauses closes = refl
due_failed n a b K B (word Signal) nothing ending numbers signals pauses closes = refl
due_failed n a b K B (word In) nothing ending numbers signals pauses closes = refl
due_failed n a b K B (word End) nothing ending numbers signals pauses closes = absurd (ending refl)
due_failed n a b K B (word Present) nothing ending numbers signals pauses closes = refl
due_failed n a b K B (word Then) nothing ending numbers signals pauses closes = refl
due_failed n a b K B (word Else) nothing ending numbers signals pauses closes = refl
due_failed n a b K B (word Loop) nothing ending numbers signals pauses closes = refl
due_failed n a b K B (word Try) nothing ending numbers signals pauses closes = refl
due_failed n a b K B (number m) nothing ending numbers signals pauses closes = absurd (numbers m refl)
due_failed n a b K B (signal_of m) nothing ending numbers signals pauses closes = absurd (signals m refl)
due_failed n a b K B (pause_at m) nothing ending numbers signals pauses closes = absurd (pauses m refl)
due_failed n a b K B semicolon nothing ending numbers signals pauses closes = refl
due_failed n a b K B bars nothing ending numbers signals pauses closes = refl
due_failed n a b K B opening nothing ending numbers signals pauses closes = refl
due_failed n a b K B closing nothing ending numbers signals pauses closes = absurd (closes refl)

-- A number was taken: its word stands there.
pub numbered_failed : (n k : ℕ) (a b : Bool) (K : Frames) (B : Kept) (t : Part) → (t ≡ word Gotopause → ⊥) → (t ≡ word Exit → ⊥)
    → work_numbered n k a b K B t ≡ failed
unfolding work_numbered
numbered_failed n k a b K B (word Nothing) jumps exits = refl
numbered_failed n k a b K B (word Gotopause) jumps exits = absurd (jumps refl)
numbered_failed n k a b K B (word Emit) jumps exits = refl
numbered_failed n k a b K B (word Exit) jumps exits = absurd (exits refl)
numbered_failed n k a b K B (word Signal) jumps exits = refl
numbered_failed n k a b K B (word In) jumps exits = refl
numbered_failed n k a b K B (word End) jumps exits = refl
numbered_failed n k a b K B (word Present) jumps exits = refl
numbered_failed n k a b K B (word Then) jumps exits = refl
numbered_failed n k a b K B (word Else) jumps exits = refl
numbered_failed n k a b K B (word Loop) jumps exits = refl
numbered_failed n k a b K B (word Try) jumps exits = refl
numbered_failed n k a b K B (number m) jumps exits = refl
numbered_failed n k a b K B (signal_of m) jumps exits = refl
numbered_failed n k a b K B (pause_at m) jumps exits = refl
numbered_failed n k a b K B semicolon jumps exits = refl
numbered_failed n k a b K B bars jumps exits = refl
numbered_failed n k a b K B opening jumps exits = refl
numbered_failed n k a b K B closing jumps exits = refl

-- A signal was taken: its word stands there.
pub named_failed : (n S : ℕ) (a b : Bool) (K : Frames) (B : Kept) (t : Part) → (t ≡ word Emit → ⊥) → (t ≡ word Present → ⊥)
    → work_named n S a b K B t ≡ failed
unfolding work_named
named_failed n S a b K B (word Nothing) emits tests = refl
named_failed n S a b K B (word Gotopause) emits tests = refl
named_failed n S a b K B (word Emit) emits tests = absurd (emits refl)
named_failed n S a b K B (word Exit) emits tests = refl
named_failed n S a b K B (word Signal) emits tests = refl
named_failed n S a b K B (word In) emits tests = refl
named_failed n S a b K B (word End) emits tests = refl
named_failed n S a b K B (word Present) emits tests = absurd (tests refl)
named_failed n S a b K B (word Then) emits tests = refl
named_failed n S a b K B (word Else) emits tests = refl
named_failed n S a b K B (word Loop) emits tests = refl
named_failed n S a b K B (word Try) emits tests = refl
named_failed n S a b K B (number m) emits tests = refl
named_failed n S a b K B (signal_of m) emits tests = refl
named_failed n S a b K B (pause_at m) emits tests = refl
named_failed n S a b K B semicolon emits tests = refl
named_failed n S a b K B bars emits tests = refl
named_failed n S a b K B opening emits tests = refl
named_failed n S a b K B closing emits tests = refl

-- A chain was met.
pub met_failed : (n : ℕ) (b : Bool) (K : Frames) (B : Kept) (t : Part) → (t ≡ word In → ⊥) → (t ≡ word Then → ⊥) → (t ≡ word Else → ⊥)
    → (t ≡ word Loop → ⊥) → (t ≡ word Try → ⊥) → (t ≡ semicolon → ⊥) → (t ≡ bars → ⊥) → (t ≡ opening → ⊥)
    → work_met n b K B t ≡ failed
unfolding work_met
met_failed n b K B (word Nothing) ins thens elses loops tries joins bared opens = refl
met_failed n b K B (word Gotopause) ins thens elses loops tries joins bared opens = refl
met_failed n b K B (word Emit) ins thens elses loops tries joins bared opens = refl
met_failed n b K B (word Exit) ins thens elses loops tries joins bared opens = refl
met_failed n b K B (word Signal) ins thens elses loops tries joins bared opens = refl
met_failed n b K B (word In) ins thens elses loops tries joins bared opens = absurd (ins refl)
met_failed n b K B (word End) ins thens elses loops tries joins bared opens = refl
met_failed n b K B (word Present) ins thens elses loops tries joins bared opens = refl
met_failed n b K B (word Then) ins thens elses loops tries joins bared opens = absurd (thens refl)
met_failed n b K B (word Else) ins thens elses loops tries joins bared opens = absurd (elses refl)
met_failed n b K B (word Loop) ins thens elses loops tries joins bared opens = absurd (loops refl)
met_failed n b K B (word Try) ins thens elses loops tries joins bared opens = absurd (tries refl)
met_failed n b K B (number m) ins thens elses loops tries joins bared opens = refl
met_failed n b K B (signal_of m) ins thens elses loops tries joins bared opens = refl
met_failed n b K B (pause_at m) ins thens elses loops tries joins bared opens = refl
met_failed n b K B semicolon ins thens elses loops tries joins bared opens = absurd (joins refl)
met_failed n b K B bars ins thens elses loops tries joins bared opens = absurd (bared refl)
met_failed n b K B opening ins thens elses loops tries joins bared opens = absurd (opens refl)
met_failed n b K B closing ins thens elses loops tries joins bared opens = refl

-- `in` or `then` was taken: a signal stands there.
pub heading_failed : (n : ℕ) (h : Opener) (a b : Bool) (K : Frames) (B : Kept) (t : Part) → ((m : ℕ) → t ≡ signal_of m → ⊥)
    → work_heading n h a b K B t ≡ failed
unfolding work_heading
heading_failed n h a b K B (word Nothing) signals = refl
heading_failed n h a b K B (word Gotopause) signals = refl
heading_failed n h a b K B (word Emit) signals = refl
heading_failed n h a b K B (word Exit) signals = refl
heading_failed n h a b K B (word Signal) signals = refl
heading_failed n h a b K B (word In) signals = refl
heading_failed n h a b K B (word End) signals = refl
heading_failed n h a b K B (word Present) signals = refl
heading_failed n h a b K B (word Then) signals = refl
heading_failed n h a b K B (word Else) signals = refl
heading_failed n h a b K B (word Loop) signals = refl
heading_failed n h a b K B (word Try) signals = refl
heading_failed n h a b K B (number m) signals = refl
heading_failed n h a b K B (signal_of m) signals = absurd (signals m refl)
heading_failed n h a b K B (pause_at m) signals = refl
heading_failed n h a b K B semicolon signals = refl
heading_failed n h a b K B bars signals = refl
heading_failed n h a b K B opening signals = refl
heading_failed n h a b K B closing signals = refl

-- and behind it the word that opens the statement
pub declared_failed : (n S : ℕ) (a b : Bool) (K : Frames) (B : Kept) (t : Part) → (t ≡ word Signal → ⊥) → work_headed n S of_signal a b K B t ≡ failed
unfolding work_headed signal_frame present_frame
declared_failed n S a b K B (word Nothing) opens = refl
declared_failed n S a b K B (word Gotopause) opens = refl
declared_failed n S a b K B (word Emit) opens = refl
declared_failed n S a b K B (word Exit) opens = refl
declared_failed n S a b K B (word Signal) opens = absurd (opens refl)
declared_failed n S a b K B (word In) opens = refl
declared_failed n S a b K B (word End) opens = refl
declared_failed n S a b K B (word Present) opens = refl
declared_failed n S a b K B (word Then) opens = refl
declared_failed n S a b K B (word Else) opens = refl
declared_failed n S a b K B (word Loop) opens = refl
declared_failed n S a b K B (word Try) opens = refl
declared_failed n S a b K B (number m) opens = refl
declared_failed n S a b K B (signal_of m) opens = refl
declared_failed n S a b K B (pause_at m) opens = refl
declared_failed n S a b K B semicolon opens = refl
declared_failed n S a b K B bars opens = refl
declared_failed n S a b K B opening opens = refl
declared_failed n S a b K B closing opens = refl

pub tested_failed : (n S : ℕ) (a b : Bool) (K : Frames) (B : Kept) (t : Part) → (t ≡ word Present → ⊥) → work_headed n S of_present a b K B t ≡ failed
unfolding work_headed signal_frame present_frame
tested_failed n S a b K B (word Nothing) opens = refl
tested_failed n S a b K B (word Gotopause) opens = refl
tested_failed n S a b K B (word Emit) opens = refl
tested_failed n S a b K B (word Exit) opens = refl
tested_failed n S a b K B (word Signal) opens = refl
tested_failed n S a b K B (word In) opens = refl
tested_failed n S a b K B (word End) opens = refl
tested_failed n S a b K B (word Present) opens = absurd (opens refl)
tested_failed n S a b K B (word Then) opens = refl
tested_failed n S a b K B (word Else) opens = refl
tested_failed n S a b K B (word Loop) opens = refl
tested_failed n S a b K B (word Try) opens = refl
tested_failed n S a b K B (number m) opens = refl
tested_failed n S a b K B (signal_of m) opens = refl
tested_failed n S a b K B (pause_at m) opens = refl
tested_failed n S a b K B semicolon opens = refl
tested_failed n S a b K B bars opens = refl
tested_failed n S a b K B opening opens = refl
tested_failed n S a b K B closing opens = refl
