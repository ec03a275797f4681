-- What is noted of the statement at each place of decoded nodes, so that a lister need not look for it again: the place where
-- it ends, its pauses, and how many signal statements stand inside one another.
use Rattle.std.specs.Prelude.{◌≡◌, false, cond, List, [], ◌∷◌, ℕ, ◌+◌, ◌≤◌, ◌<◌, min, eqb, length, take, drop, get_or, Result, Ok, Err}
use Rattle.sets.specs.Set.{has, only, ◌union◌, Apart}
use Rattle.esterel.specs.Statement.{pauses, Valid}
use Rattle.esterel.specs.Listing.{nesting}
use Rattle.table.specs.Reading.{kind_of_node, operand_of}
use Rattle.table.specs.declared.Refusal.{Refusal}
use Rattle.table.specs.inner.Places.{Placed, statement_of}
use Rattle.lister.specs.declared.noted.Note.{Note}
use Rattle.lister.specs.inner.Notes.{unnoted, place_at, ReadWhole, SmallSignals, KnownTo}

-- ---- The pauses among nodes

-- how many there are, and their labels
unfoldable pub pauses_in : List ℕ → ℕ
pauses_in [] = 0
pauses_in (x ∷ xs) = cond (eqb (kind_of_node x) 1) 1 0 + pauses_in xs

unfoldable pub labels_in : List ℕ → ℕ
labels_in [] = 0
labels_in (x ∷ xs) = cond (eqb (kind_of_node x) 1) (only (operand_of x)) 0 union labels_in xs

-- "Two pauses never share a label", and none has the label 0
unfoldable pub Distinct : List ℕ → Type 0
Distinct [] = Unit {0}
Distinct (x ∷ xs) = (kind_of_node x ≡ 1 → (1 ≤ operand_of x) × (has (labels_in xs) (operand_of x) ≡ false)) × Distinct xs

-- of the first n nodes those from a place on, how many of them are pauses, and the labels of these
abbrev pub onward : ℕ → List ℕ → ℕ → List ℕ
onward n xs at = drop at (take n xs)

abbrev pub pauses_from : ℕ → List ℕ → ℕ → ℕ
pauses_from n xs at = pauses_in (onward n xs at)

abbrev pub labels_from : ℕ → List ℕ → ℕ → ℕ
labels_from n xs at = labels_in (onward n xs at)

-- ---- What the pass has noted from the place i on

-- the note of a statement, with the place after it: 255 stands for all nestings above
abbrev pub counted_note : ℕ → List ℕ → ℕ → Placed → Note
counted_note n xs at p = record { end = p.next; from = pauses_from n xs at; behind = pauses_from n xs p.next; nest = min 255 (nesting p.statement) }

unfoldable pub NotedFrom : ℕ → ℕ → List ℕ → List Note → Type 0
NotedFrom i n xs notes = (at : ℕ) → i ≤ at → ReadWhole n xs at → get_or notes at unnoted ≡ counted_note n xs at (place_at xs at)

-- the labels from its first node on are those of its pauses and, apart from them, those behind its end: a fact of the nodes
-- alone, which is shown place by place along with the notes
pub record Splits (n : ℕ) (xs : List ℕ) (at : ℕ) (p : Placed) : Type 0 where
  pub both : labels_from n xs at ≡ pauses p.statement union labels_from n xs p.next
  pub apart : Apart (pauses p.statement) (labels_from n xs p.next)

unfoldable pub SplitFrom : ℕ → ℕ → List ℕ → Type 0
SplitFrom i n xs = (at : ℕ) → i ≤ at → ReadWhole n xs at → Splits n xs at (place_at xs at)

pub record NotesFrom (i n : ℕ) (xs : List ℕ) (notes : List Note) : Type 0 where
  pub room : length notes ≡ 1024
  pub right_notes : NotedFrom i n xs notes
  pub right_labels : SplitFrom i n xs

-- the labels of the last pauses, each set at the place that says how many they are
unfoldable pub UnionsFrom : ℕ → ℕ → List ℕ → List ℕ → Type 0
UnionsFrom i n xs unions = (at : ℕ) → i ≤ at → at ≤ n → get_or unions (pauses_from n xs at) 0 ≡ labels_from n xs at

pub record AllNoted (i n : ℕ) (xs : List ℕ) (notes : List Note) (unions : List ℕ) : Type 0 where
  pub long : length unions ≡ 64
  pub noted : NotesFrom i n xs notes
  pub united : UnionsFrom i n xs unions

-- ---- The pass

-- the nodes that it goes over: the first n, of kinds that there are
pub record Passable (n : ℕ) (xs : List ℕ) : Type 0 where
  pub all : n ≤ length xs
  pub few : n ≤ 1024
  pub known : KnownTo n xs
  pub distinct : Distinct (take n xs)

-- the pass has come to the node at a place, behind which so many pauses stand
pub record CameTo (n : ℕ) (xs : List ℕ) (at node behind : ℕ) (notes : List Note) : Type 0 where
  pub over : Passable n xs
  pub inside : at < n
  pub here : node ≡ get_or xs at 0
  pub counted : behind ≡ pauses_from n xs (at + 1)
  pub noted : NotesFrom (at + 1) n xs notes

-- what is noted is right from there on, whatever the nodes around; it comes to no other kind
abbrev pub NotesAt : ℕ → ℕ → ℕ → List Note → List Note → Result Unit Refusal → Type 0
NotesAt at node behind notes noted (Ok u) = (n : ℕ) (xs : List ℕ) → CameTo n xs at node behind notes → NotesFrom at n xs noted
NotesAt at node behind notes noted (Err e) = (n : ℕ) (xs : List ℕ) → CameTo n xs at node behind notes → ⊥

-- the first nodes are those of a valid statement, so many
pub record Counted (n : ℕ) (xs : List ℕ) : Type 0 where
  pub over : Passable n xs
  pub whole : ReadWhole n xs 0
  pub narrow : SmallSignals n xs
  pub valid : Valid 0 (statement_of xs)
