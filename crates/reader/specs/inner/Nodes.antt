-- The reader over nodes: the machine of text's Machine with no statement in it, only flags, a stack and the nodes already made, which grow
-- in front. Its states are those that the loop over a text keeps; the nodes are a buffer that is filled from its end.
use Rattle.std.specs.Prelude.{ℕ, zero, suc, Bool, true, false, cond, ◌&&◌, List, [], ◌∷◌, leb, ltb, length}
use Rattle.std.proofs.Math.Option.{Option, none, some}
use Rattle.esterel.specs.Statement.{Statement, size}
use Rattle.table.specs.Writing.{nodes}
use Rattle.table.specs.inner.Making.{node_of}
use Rattle.text.specs.Parts.{Nothing, Gotopause, Emit, Exit, Signal, In, End, Present, Then, Else, Loop, Try, Part, word, number, signal_of, pause_at, semicolon, bars, opening, closing}
use Rattle.text.specs.Grammar.{deepest_open}
use Rattle.text.specs.inner.Lexer.{parts_in}
use Rattle.text.specs.Reading.{label_ranged, signal_ranged, ranged}

-- ---- Numbers

-- what is out of every kind's range is kept as 100
unfoldable pub clip : ℕ → ℕ
clip m = cond (leb m 100) m 100

unfoldable pub clip_part : Part → Part
clip_part (word w) = word w
clip_part (number m) = number (clip m)
clip_part (signal_of m) = signal_of (clip m)
clip_part (pause_at m) = pause_at (clip m)
clip_part semicolon = semicolon
clip_part bars = bars
clip_part opening = opening
clip_part closing = closing

-- gotopause and exit have one range, so that refusal 19 can be told from the part alone
unfoldable pub part_ranged : Part → Bool
part_ranged (word w) = true
part_ranged (number m) = label_ranged m
part_ranged (signal_of m) = signal_ranged m
part_ranged (pause_at m) = label_ranged m
part_ranged semicolon = true
part_ranged bars = true
part_ranged opening = true
part_ranged closing = true

unfoldable pub all_ranged : List Part → Bool
all_ranged [] = true
all_ranged (t ∷ ts) = part_ranged t && all_ranged ts

-- ---- Nodes

-- nodes, or more of them than a table may have
pub data Kept : Type 0 where
  few : List ℕ → Kept
  many : Kept

unfoldable pub kept : List ℕ → Kept
kept xs = cond (leb (length xs) 1024) (few xs) many

unfoldable pub kept_count : Kept → ℕ
kept_count (few xs) = length xs
kept_count many = 0

unfoldable pub put_on : ℕ → Kept → Kept
put_on x (few xs) = kept (x ∷ xs)
put_on x many = many

-- a node for nothing, before the last k nodes: the else branch that is not there is known only at its `then`
unfoldable pub insert_behind : ℕ → List ℕ → List ℕ
insert_behind k [] = node_of 0 0 ∷ []
insert_behind k (x ∷ xs) = let later = insert_behind k xs in cond (leb (length (x ∷ xs)) k) (node_of 0 0 ∷ x ∷ xs) (x ∷ later)

unfoldable pub insert_on : ℕ → Kept → Kept
insert_on k (few xs) = kept (insert_behind k xs)
insert_on k many = many

-- ---- The machine

-- what is open: a `]`; an `end`, with the number of nodes behind it; an `end` with the else branch before it. Each with whether a
-- `;` and whether a `||` stands behind it.
pub data Frames : Type 0 where
  bottom : Frames
  bracket : Bool → Bool → Frames → Frames
  ending : Bool → Bool → ℕ → Frames → Frames
  otherwise : Bool → Bool → Frames → Frames

pub data Opener : Type 0 where
  of_signal of_present : Opener

-- as the states of Machine; what is kept are the nodes
pub data Work : Type 0 where
  failed : Work
  due : ℕ → Bool → Bool → Frames → Kept → Work
  numbered named : ℕ → ℕ → Bool → Bool → Frames → Kept → Work
  met : ℕ → Bool → Frames → Kept → Work
  heading : ℕ → Opener → Bool → Bool → Frames → Kept → Work
  headed : ℕ → ℕ → Opener → Bool → Bool → Frames → Kept → Work

-- the node of the `;`, or of the `||`, before a statement that was met
unfoldable pub chained : Bool → Kept → Kept
chained a B = cond a (put_on (node_of 7 0) B) B

unfoldable pub aside : Bool → Kept → Kept
aside b B = cond b (put_on (node_of 8 0) B) B

unfoldable pub single : ℕ → Bool → Bool → Frames → Kept → Work
single n a b K B = met n b K (chained a B)

unfoldable pub push_frame : ℕ → Frames → Kept → Work
push_frame zero K B = failed
push_frame (suc n) K B = due n false false K B

unfoldable pub open_frame : ℕ → Kept → Frames → Work
open_frame n B bottom = failed
open_frame n B (bracket a b K) = single (suc n) a b K B
open_frame n B (ending a b k K) = failed
open_frame n B (otherwise a b K) = failed

unfoldable pub end_frame : ℕ → Kept → Frames → Work
end_frame n B bottom = failed
end_frame n B (bracket a b K) = failed
end_frame n B (ending a b k K) = single (suc n) a b K B
end_frame n B (otherwise a b K) = failed

unfoldable pub in_frame : ℕ → Kept → Frames → Work
in_frame n B bottom = failed
in_frame n B (bracket a b K) = failed
in_frame n B (ending a b k K) = heading n of_signal a b K B
in_frame n B (otherwise a b K) = failed

unfoldable pub then_frame : ℕ → Kept → Frames → Work
then_frame n B bottom = failed
then_frame n B (bracket a b K) = failed
then_frame n B (ending a b k K) = heading n of_present a b K (insert_on k B)
then_frame n B (otherwise a b K) = heading n of_present a b K B

unfoldable pub else_frame : ℕ → Kept → Frames → Work
else_frame n B bottom = failed
else_frame n B (bracket a b K) = failed
else_frame n B (ending a b k K) = due n false false (otherwise a b K) B
else_frame n B (otherwise a b K) = failed

unfoldable pub bare_frame : ℕ → ℕ → Bool → Bool → Frames → Kept → Work
bare_frame n S false false bottom B = failed
bare_frame n S false false (bracket a b K) B = failed
bare_frame n S false false (ending a b k K) B = single (suc n) a b K (put_on (node_of 6 S) (put_on (node_of 0 0) (put_on (node_of 0 0) B)))
bare_frame n S false false (otherwise a b K) B = single (suc n) a b K (put_on (node_of 6 S) (put_on (node_of 0 0) B))
bare_frame n S false true K B = failed
bare_frame n S true b K B = failed

unfoldable pub signal_frame : ℕ → ℕ → Opener → Bool → Bool → Frames → Kept → Work
signal_frame n S of_signal a b K B = single (suc n) a b K (put_on (node_of 5 S) B)
signal_frame n S of_present a b K B = failed

unfoldable pub present_frame : ℕ → ℕ → Opener → Bool → Bool → Frames → Kept → Work
present_frame n S of_signal a b K B = failed
present_frame n S of_present a b K B = single (suc n) a b K (put_on (node_of 6 S) B)

unfoldable pub work_due : ℕ → Bool → Bool → Frames → Kept → Part → Work
work_due n a b K B (word Nothing) = single n a b K (put_on (node_of 0 0) B)
work_due n a b K B (word Gotopause) = failed
work_due n a b K B (word Emit) = failed
work_due n a b K B (word Exit) = failed
work_due n a b K B (word Signal) = failed
work_due n a b K B (word In) = failed
work_due n a b K B (word End) = push_frame n (ending a b (kept_count B) K) B
work_due n a b K B (word Present) = failed
work_due n a b K B (word Then) = failed
work_due n a b K B (word Else) = failed
work_due n a b K B (word Loop) = failed
work_due n a b K B (word Try) = failed
work_due n a b K B (number m) = numbered n (clip m) a b K B
work_due n a b K B (signal_of m) = named n (clip m) a b K B
work_due n a b K B (pause_at m) = single n a b K (put_on (node_of 1 (clip m)) B)
work_due n a b K B semicolon = failed
work_due n a b K B bars = failed
work_due n a b K B opening = failed
work_due n a b K B closing = push_frame n (bracket a b K) B

unfoldable pub work_numbered : ℕ → ℕ → Bool → Bool → Frames → Kept → Part → Work
work_numbered n k a b K B (word Nothing) = failed
work_numbered n k a b K B (word Gotopause) = single n a b K (put_on (node_of 2 k) B)
work_numbered n k a b K B (word Emit) = failed
work_numbered n k a b K B (word Exit) = single n a b K (put_on (node_of 4 k) B)
work_numbered n k a b K B (word Signal) = failed
work_numbered n k a b K B (word In) = failed
work_numbered n k a b K B (word End) = failed
work_numbered n k a b K B (word Present) = failed
work_numbered n k a b K B (word Then) = failed
work_numbered n k a b K B (word Else) = failed
work_numbered n k a b K B (word Loop) = failed
work_numbered n k a b K B (word Try) = failed
work_numbered n k a b K B (number m) = failed
work_numbered n k a b K B (signal_of m) = failed
work_numbered n k a b K B (pause_at m) = failed
work_numbered n k a b K B semicolon = failed
work_numbered n k a b K B bars = failed
work_numbered n k a b K B opening = failed
work_numbered n k a b K B closing = failed

unfoldable pub work_named : ℕ → ℕ → Bool → Bool → Frames → Kept → Part → Work
work_named n S a b K B (word Nothing) = failed
work_named n S a b K B (word Gotopause) = failed
work_named n S a b K B (word Emit) = single n a b K (put_on (node_of 3 S) B)
work_named n S a b K B (word Exit) = failed
work_named n S a b K B (word Signal) = failed
work_named n S a b K B (word In) = failed
work_named n S a b K B (word End) = failed
work_named n S a b K B (word Present) = bare_frame n S a b K B
work_named n S a b K B (word Then) = failed
work_named n S a b K B (word Else) = failed
work_named n S a b K B (word Loop) = failed
work_named n S a b K B (word Try) = failed
work_named n S a b K B (number m) = failed
work_named n S a b K B (signal_of m) = failed
work_named n S a b K B (pause_at m) = failed
work_named n S a b K B semicolon = failed
work_named n S a b K B bars = failed
work_named n S a b K B opening = failed
work_named n S a b K B closing = failed

unfoldable pub work_met : ℕ → Bool → Frames → Kept → Part → Work
work_met n b K B (word Nothing) = failed
work_met n b K B (word Gotopause) = failed
work_met n b K B (word Emit) = failed
work_met n b K B (word Exit) = failed
work_met n b K B (word Signal) = failed
work_met n b K B (word In) = in_frame n (aside b B) K
work_met n b K B (word End) = failed
work_met n b K B (word Present) = failed
work_met n b K B (word Then) = then_frame n (aside b B) K
work_met n b K B (word Else) = else_frame n (aside b B) K
work_met n b K B (word Loop) = end_frame n (put_on (node_of 9 0) (aside b B)) K
work_met n b K B (word Try) = end_frame n (put_on (node_of 10 0) (aside b B)) K
work_met n b K B (number m) = failed
work_met n b K B (signal_of m) = failed
work_met n b K B (pause_at m) = failed
work_met n b K B semicolon = due n true b K B
work_met n b K B bars = due n false true K (aside b B)
work_met n b K B opening = open_frame n (aside b B) K
work_met n b K B closing = failed

unfoldable pub work_heading : ℕ → Opener → Bool → Bool → Frames → Kept → Part → Work
work_heading n h a b K B (word Nothing) = failed
work_heading n h a b K B (word Gotopause) = failed
work_heading n h a b K B (word Emit) = failed
work_heading n h a b K B (word Exit) = failed
work_heading n h a b K B (word Signal) = failed
work_heading n h a b K B (word In) = failed
work_heading n h a b K B (word End) = failed
work_heading n h a b K B (word Present) = failed
work_heading n h a b K B (word Then) = failed
work_heading n h a b K B (word Else) = failed
work_heading n h a b K B (word Loop) = failed
work_heading n h a b K B (word Try) = failed
work_heading n h a b K B (number m) = failed
work_heading n h a b K B (signal_of m) = headed n (clip m) h a b K B
work_heading n h a b K B (pause_at m) = failed
work_heading n h a b K B semicolon = failed
work_heading n h a b K B bars = failed
work_heading n h a b K B opening = failed
work_heading n h a b K B closing = failed

unfoldable pub work_headed : ℕ → ℕ → Opener → Bool → Bool → Frames → Kept → Part → Work
work_headed n S h a b K B (word Nothing) = failed
work_headed n S h a b K B (word Gotopause) = failed
work_headed n S h a b K B (word Emit) = failed
work_headed n S h a b K B (word Exit) = failed
work_headed n S h a b K B (word Signal) = signal_frame n S h a b K B
work_headed n S h a b K B (word In) = failed
work_headed n S h a b K B (word End) = failed
work_headed n S h a b K B (word Present) = present_frame n S h a b K B
work_headed n S h a b K B (word Then) = failed
work_headed n S h a b K B (word Else) = failed
work_headed n S h a b K B (word Loop) = failed
work_headed n S h a b K B (word Try) = failed
work_headed n S h a b K B (number m) = failed
work_headed n S h a b K B (signal_of m) = failed
work_headed n S h a b K B (pause_at m) = failed
work_headed n S h a b K B semicolon = failed
work_headed n S h a b K B bars = failed
work_headed n S h a b K B opening = failed
work_headed n S h a b K B closing = failed

unfoldable pub work : Part → Work → Work
work t failed = failed
work t (due n a b K B) = work_due n a b K B t
work t (numbered n m a b K B) = work_numbered n m a b K B t
work t (named n S a b K B) = work_named n S a b K B t
work t (met n b K B) = work_met n b K B t
work t (heading n h a b K B) = work_heading n h a b K B t
work t (headed n S h a b K B) = work_headed n S h a b K B t

unfoldable pub work_all : List Part → Work → Work
work_all [] x = x
work_all (t ∷ ts) x = work t (work_all ts x)

unfoldable pub whole_nodes : Kept → Frames → Option (Kept)
whole_nodes B bottom = some B
whole_nodes B (bracket a b K) = none
whole_nodes B (ending a b k K) = none
whole_nodes B (otherwise a b K) = none

unfoldable pub made : Work → Option (Kept)
made failed = none
made (due n a b K B) = none
made (numbered n m a b K B) = none
made (named n S a b K B) = none
made (met n b K B) = whole_nodes (aside b B) K
made (heading n h a b K B) = none
made (headed n S h a b K B) = none

unfoldable pub begun : Work
begun = due deepest_open false false bottom (few [])

-- ---- The verdict

-- refusal 18, 19 or 3, or the nodes of the statement
pub data Verdict : Type 0 where
  broken outside over : Verdict
  whole : List ℕ → Verdict

-- by whether all numbers are in range, and what was made
unfoldable pub verdict_for : Bool → Option Kept → Verdict
verdict_for r none = broken
verdict_for false (some B) = outside
verdict_for true (some (few xs)) = whole xs
verdict_for true (some many) = over

unfoldable pub verdict_in : Option (List Part) → Verdict
verdict_in none = broken
verdict_in (some ts) = verdict_for (all_ranged ts) (made (work_all ts begun))

unfoldable pub verdict_of : List ℕ → Verdict
verdict_of bs = verdict_in (parts_in bs)

-- the same of a statement that was read
unfoldable pub verdict_from : Option Statement → Verdict
verdict_from none = broken
verdict_from (some p) = cond (ranged p) (cond (ltb 1024 (size p)) over (whole (nodes p))) outside
