-- What the room and the reader of the code hold: the nodes, the stack and the state of the machine over nodes; and what moves and
-- taking parts from the end of a text do to it.
use Rattle.std.specs.Prelude.{Result, ℕ, suc, ◌-◌, ◌≤◌, ◌<◌, ◌≡◌, Bool, true, false, ◌&&◌, List, [], ◌∷◌, ◌++◌, Option, Some, None, Ok, Err, length, drop}
use Rattle.std.proofs.Math.Option.{none}
use Rattle.reader.specs.declared.frames.Opened.{Opened}
use Rattle.reader.specs.declared.frames.Opened.TheVariants.{Bracket, Ending, Otherwise}
use Rattle.reader.specs.declared.frames.Frame.{Frame}
use Rattle.reader.specs.declared.lexing.Rest.{Rest}
use Rattle.reader.specs.declared.moves.Room.{Room}
use Rattle.reader.specs.declared.moves.Reader.{Reader}
use Rattle.reader.specs.declared.moves.Stage.{Stage}
use Rattle.reader.specs.declared.moves.Stage.TheVariants.{Due, DueBefore, Met}
use Rattle.table.specs.declared.Refusal.{Refusal}
use Rattle.table.specs.declared.Refusal.TheVariants.{Grammar, Number, Count}
use Rattle.text.specs.Parts.{Word, Part, word, signal_of}
use Rattle.text.specs.Spelling.{last_of}
use Rattle.text.specs.inner.Lexer.{rest}
use Rattle.reader.specs.inner.Nodes.{Kept, Frames, bottom, bracket, ending, otherwise}
use Rattle.reader.specs.inner.Nodes.{clip, aside, Work, failed, due, numbered, named, met, single, work, work_all, made, begun, all_ranged, Verdict, broken, outside, over, whole, verdict_in}
use Rattle.reader.specs.inner.Kept.{kept_in, Counted}
use Rattle.reader.specs.inner.Blanks.{blank_byte}

-- ---- The stack: the frames, the innermost first
unfoldable pub framed_as : Opened → Bool → Bool → ℕ → Frames → Frames
framed_as Bracket a b k K = bracket a b K
framed_as Ending a b k K = ending a b k K
framed_as Otherwise a b k K = otherwise a b K

abbrev pub framed : Frame → Frames → Frames
framed f K = framed_as f.opened f.after f.beside f.behind K

unfoldable pub frames_of : List Frame → Frames
frames_of [] = bottom
frames_of (f ∷ fs) = framed f (frames_of fs)

-- what is open where so many more may be opened inside
unfoldable pub stack_at : ℕ → List Frame → Frames
stack_at left fs = frames_of (drop left fs)

-- ---- The reader: what is open, the nodes, what a single statement makes, and a chain that is whole
-- whether a `;` stands behind what is due
unfoldable pub after_of : Stage → Bool
after_of Due = false
after_of DueBefore = true
after_of Met = false

abbrev pub stack_of : Reader → Room → Frames
stack_of r m = stack_at r.left m.frames

abbrev pub nodes_of : Reader → Room → Kept
nodes_of r m = kept_in r.count m.nodes

abbrev pub single_at : Reader → Room → Kept → Work
single_at r m B = single r.left (after_of r.stage) r.beside (stack_of r m) B

abbrev pub whole_reader : Reader → Option ℕ → Reader
whole_reader r count = record r { count = count }

-- a statement is due, or a chain was met
unfoldable pub due_state : Reader → Room → Work
due_state r m = due r.left (after_of r.stage) r.beside (stack_of r m) (nodes_of r m)

unfoldable pub met_state : Reader → Room → Work
met_state r m = met r.left r.beside (stack_of r m) (nodes_of r m)

-- a number, or a signal, was taken and its word is due
unfoldable pub numbered_state : Reader → ℕ → Room → Work
numbered_state r k m = numbered r.left k (after_of r.stage) r.beside (stack_of r m) (nodes_of r m)

unfoldable pub named_state : Reader → ℕ → Room → Work
named_state r S m = named r.left S (after_of r.stage) r.beside (stack_of r m) (nodes_of r m)

unfoldable pub staged : Stage → Work → Work → Work
staged Due x y = x
staged DueBefore x y = x
staged Met x y = y

unfoldable pub state : Reader → Room → Work
state r m = staged r.stage (due_state r m) (met_state r m)

-- what a reader and its room always are
pub record Ready (r : Reader) (m : Room) : Type 0 where
  pub room : r.left ≤ 60
  pub counted : Counted r.count
  pub frames : length m.frames ≡ 60
  pub nodes : length m.nodes ≡ 1024

-- what is open innermost
abbrev pub Topmost : Reader → Room → Option Frame → Type 0
Topmost r m None = stack_of r m ≡ bottom
Topmost r m (Some f) = (r.left < 60) × (stack_of r m ≡ framed f (stack_at (suc r.left) m.frames))

-- ---- A move, which does not look at the text: the state after it; none where the machine fails
pub record Moved (r s : Reader) (m : Room) (y : Work) : Type 0 where
  pub state : state s m ≡ y
  pub ready : Ready s m
  pub ranged : s.ranged ≡ r.ranged

abbrev pub Moves : Reader → Option Reader → Room → Work → Type 0
Moves r None m y = y ≡ failed
Moves r (Some s) m y = Moved r s m y

-- ---- Taking parts from the end of a text

-- a blank stands at the end of a text only where a part stands behind it
unfoldable pub Clean : List ℕ → List Part → Type 0
Clean u ts = blank_byte (last_of u) ≡ true → ts ≡ []

-- no text that ends so is one of a statement, where the parts behind u brought the machine to x
unfoldable pub Doomed : List ℕ → Work → Type 0
Doomed u x = (ts : List Part) → Clean u ts → work_all ts begun ≡ x → verdict_in (rest u ts) ≡ broken

-- u is v and parts that brought the machine from x to y
pub record Advanced (u v : List ℕ) (x y : Work) (ranged ranged' : Bool) : Type 0 where
  pub part : Part
  pub parts : List Part
  pub goes_on : (ts : List Part) → rest u ts ≡ rest v (part ∷ (parts ++ ts))
  pub worked : y ≡ work_all (part ∷ parts) x
  pub within : ranged' ≡ (all_ranged (part ∷ parts) && ranged)
  pub shorter : length v < length u

-- what was taken from the end of the text
abbrev pub Took : List ℕ → Work → Bool → Option (Rest × Reader) → Room → Type 0
Took u x ranged None m = Doomed u x
Took u x ranged (Some p) m = Advanced u p.0.bytes.now x (state p.1 m) ranged p.1.ranged × Ready p.1 m

-- what holds of every chain that was met, where the reader holds its nodes with that of the `||` behind it
abbrev pub Chained : Reader → Room → (Work → Type 0) → Type 0
Chained r m P = (b : Bool) (B : Kept) → aside b B ≡ nodes_of r m → P (met r.left b (stack_of r m) B)

-- a machine that takes a signal and then the word w, and fails else
pub record Awaits (w : Word) (x : Work) : Type 0 where
  pub signals : (t : Part) → ((m : ℕ) → t ≡ signal_of m → ⊥) → work t x ≡ failed
  pub words : (m : ℕ) (t : Part) → (t ≡ word w → ⊥) → work t (work (signal_of m) x) ≡ failed
  pub unmade : made x ≡ none
  pub named : (m : ℕ) → made (work (signal_of m) x) ≡ none

-- u is v, the word w and a signal, held up to 100
pub record Heading (u v : List ℕ) (w : Word) (value : ℕ) : Type 0 where
  pub number : ℕ
  pub held : clip number ≡ value
  pub goes_on : (ts : List Part) → rest u ts ≡ rest v (word w ∷ signal_of number ∷ ts)
  pub shorter : length v < length u

-- or it is not, and no text that ends so is one of a statement
abbrev pub Headings : List ℕ → Word → Option (ℕ × Rest) → Type 0
Headings u w None = (x : Work) → Awaits w x → Doomed u x
Headings u w (Some p) = Heading u p.1.bytes.now w p.0

-- ---- What a text is found to be: refusal 18, 19 or 3, or how many nodes stand at the end of the buffer
pub record Whole (nodes : List ℕ) (r : Result ℕ Refusal) (xs : List ℕ) : Type 0 where
  pub count : ℕ
  pub is : r ≡ Ok count
  pub counted : count ≤ 1024
  pub filled : length xs ≡ 1024
  pub stand : drop (1024 - count) xs ≡ nodes

abbrev pub Found : Verdict → Result ℕ Refusal → List ℕ → Type 0
Found broken r xs = r ≡ Err Grammar
Found outside r xs = r ≡ Err Number
Found over r xs = r ≡ Err Count
Found (whole nodes) r xs = Whole nodes r xs
