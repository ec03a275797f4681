-- The third demand of Deskheron: nobody who steps an accepted table and its trimmed table can tell them apart. One statement
-- about bytes, over the definitions that the contracts of check, trim and list cite; it is proved in proofs/Demand. Beside it
-- stands what is promised of step, proved in proofs/Stepping.
use Rattle.std.specs.Prelude.{◌≡◌, ◌↔◌, ◌≢◌, List, [], ◌∷◌, map, ℕ, ◌*◌, ◌/◌, ◌<◌, length, take, drop, get_or}
use Rattle.sets.specs.Set.{◌union◌, Within}
use Rattle.esterel.specs.Statement.{Statement, size}
use Rattle.esterel.specs.Trimming.{trimmed}
use Rattle.esterel.specs.Reactions.{State, start, resumed, Reaction, Reacts}
use Rattle.esterel.specs.Runs.{Step, Run, StateOf}
use Rattle.esterel.specs.Listing.{Listed, listing, reaction}
use Rattle.esterel.specs.Stepping.{StepFrom, Answer, IsAnswer, emitted_free, looked_at}
use Rattle.table.specs.Outcomes.{values, number_of}
use Rattle.table.specs.Bits.{number, bits_of}
use Rattle.table.specs.Reading.{table_of, holds}
use Rattle.table.specs.Writing.{write}
use Rattle.trim.specs.Answers.{trim_of, buffer_of}
use Rattle.list.specs.Answers.{Listing, list_of, listing_outcome, written}
use Rattle.list.specs.Buffers.{emitted_in, code_in, reached_in, front, spread}
use Rattle.step.specs.Answers.{stepping_outcome, step_of}

-- ---- The state that a call is for

-- of the state x: at the start mark 0 and any label set, in a resumed state another mark and exactly its labels
unfoldable pub Marked : State → ℕ → ℕ → Type 0
Marked start mark labels = mark ≡ 0
Marked (resumed X) mark labels = (mark ≢ 0) × (labels ≡ X)

-- ---- The result buffers of list

-- they hold a number at each place; or, for C, bytes, "most significant first, 4 for each O, 1 for each k, 8 for each L"
pub data Layout : Type 0 where
  in_numbers in_bytes : Layout

-- the places of a buffer, w being the bytes of a number: "only a whole group is a place"
unfoldable pub places_of : Layout → ℕ → List ℕ → ℕ
places_of in_numbers w old = length old
places_of in_bytes w old = length old / w

-- the buffer with numbers put in front
unfoldable pub filled : Layout → ℕ → List ℕ → List ℕ → List ℕ
filled in_numbers w vs old = front vs old
filled in_bytes w vs old = front (spread w vs) old

-- what stands at a place of a buffer, and the number that it is
unfoldable pub group_at : Layout → ℕ → List ℕ → ℕ → List ℕ
group_at in_numbers w buffer i = take 1 (drop i buffer)
group_at in_bytes w buffer i = take w (drop (w * i) buffer)

unfoldable pub number_in : Layout → List ℕ → ℕ
number_in in_numbers group = get_or group 0 0
number_in in_bytes group = number (bits_of group)

-- ---- A call of list

-- the mark, the label set, and the three result buffers that are lent
pub record Call : Type 0 where
  pub mark : ℕ
  pub labels : ℕ
  pub o : List ℕ
  pub k : List ℕ
  pub l : List ℕ

-- the call is for the state x
abbrev pub For : State → Call → Type 0
For x c = Marked x c.mark c.labels

-- what list comes to of the bytes t under E
unfoldable pub called_on : Layout → List ℕ → ℕ → Call → Listing
called_on y t E c = list_of t E c.mark c.labels (places_of y 4 c.o) (length c.k) (places_of y 8 c.l)

-- what stands at a place of the three buffers afterwards, and the reaction that it is
pub record Groups : Type 0 where
  pub o : List ℕ
  pub k : List ℕ
  pub l : List ℕ

unfoldable pub stands_at : Layout → Listing → Call → ℕ → Groups
stands_at y v c i = record {
  o = group_at y 4 (filled y 4 (map emitted_in (written v)) c.o) i;
  k = group_at y 1 (front (map code_in (written v)) c.k) i;
  l = group_at y 8 (filled y 8 (map reached_in (written v)) c.l) i;
}

unfoldable pub read_back : Layout → Groups → Reaction
read_back y g = reaction (number_in y g.o) (number_in y g.k) (number_in y g.l)

-- the reaction stands at a place below the count n
abbrev pub Stands : Layout → Listing → Call → ℕ → Reaction → Type 0
Stands y v c n r = (i : ℕ) × (i < n) × (read_back y (stands_at y v c i) ≡ r)

-- ---- The demand

-- The bytes t hold the statement p. Its trimmed statement is q, and u are the bytes that writing gives for q.
pub record Indistinguishable (t : List ℕ) (p q : Statement) (u : List ℕ) : Type 0 where
  -- 1. The same lists of steps, short or long, are runs of p and of q.
  pub runs : (ts : List Step) → Run p ts ↔ Run q ts
  -- 2. At the start and at each state that such a run comes to, under every E, the listings by the rules, without any limit,
  --    are equal.
  pub listings : (ts : List Step) → Run p ts → (x : State) → StateOf ts x → (E : ℕ) → listing p x E ≡ listing q x E
  -- 3. At those states, under every E, with six result buffers of any lengths, of numbers or of bytes: wherever list refuses
  --    neither t nor u, the counts are equal, what stands in the buffers afterwards is equal at every place below the count,
  --    and, read back, a triple stands there exactly if the rules of that table derive it.
  pub answers : (ts : List Step) → Run p ts → (x : State) → StateOf ts x → (E : ℕ) (y : Layout) (c d : Call) → For x c → For x d → (n m : ℕ)
      → listing_outcome (called_on y t E c) ≡ values (n ∷ []) → listing_outcome (called_on y u E d) ≡ values (m ∷ [])
      → (n ≡ m)
      × ((i : ℕ) → i < n → stands_at y (called_on y t E c) c i ≡ stands_at y (called_on y u E d) d i)
      × ((r : Reaction) → Stands y (called_on y t E c) c n r ↔ Reacts p x E r)
      × ((r : Reaction) → Stands y (called_on y u E d) d m r ↔ Reacts q x E r)
  -- 4. Where trim accepts t, what it wrote begins with u, and check accepts u and reads it as q.
  pub trims : (out sizes : List ℕ) → trim_of t (length out) ≡ values sizes
      → (take (length u) (buffer_of t out) ≡ u) × (table_of u ≡ holds (size q) q)

-- For every table that check accepts, also where trim gives 12 or 13.
unfoldable pub ThirdDemand : Type 0
ThirdDemand = (t : List ℕ) (n : ℕ) (p : Statement) → table_of t ≡ holds n p → Indistinguishable t p (trimmed p) (write (trimmed p))

-- ---- Step

-- The bytes t hold the statement p.
pub record AnswersByTheRules (t : List ℕ) (p : Statement) : Type 0 where
  -- 1. In every state, from every provided set I: where step does not refuse t, its values are those of the answer that the rules give.
  pub answers : (x : State) (I m X : ℕ) → Marked x m X → (vs : List ℕ) → step_of t I m X ≡ values vs
      → (a : Answer) × (stepping_outcome a ≡ values vs) × IsAnswer p x I a
  -- 2. Each step has its O within I joined with the signals that are emitted outside a declaration of them, and so its E among those
  --    that are looked at.
  pub looked : (x : State) (I : ℕ) (r : Step) → StepFrom p x I r
      → Within r.reaction.emitted (I union emitted_free p) × Listed r.assumed (looked_at p I)

-- For every table that check accepts.
unfoldable pub StepsByTheRules : Type 0
StepsByTheRules = (t : List ℕ) (n : ℕ) (p : Statement) → table_of t ≡ holds n p → AnswersByTheRules t p

-- The bytes t hold the statement p, and u are the bytes that writing gives for its trimmed statement.
pub record AnswersTheSame (t : List ℕ) (p : Statement) (u : List ℕ) : Type 0 where
  -- 1. At the start and at each state that a run of p comes to, from every provided set I: wherever step refuses neither t nor u,
  --    its answers are equal, with all their values.
  pub answers : (ts : List Step) → Run p ts → (x : State) → StateOf ts x → (I m X n Y : ℕ) → Marked x m X → Marked x n Y
      → (vs ws : List ℕ) → step_of t I m X ≡ values vs → step_of u I n Y ≡ values ws → vs ≡ ws
  -- 2. Where step does not refuse t with 14, it never refuses u with 14; and never with 17 where it does not refuse t with 17 either.
  pub refusals : (I m X J n Y : ℕ) → number_of (step_of t I m X) ≢ 14
      → (number_of (step_of u J n Y) ≢ 14) × (number_of (step_of t I m X) ≢ 17 → number_of (step_of u J n Y) ≢ 17)

-- For every table that check accepts, also where trim gives 12 or 13.
unfoldable pub TrimmedStepsTheSame : Type 0
TrimmedStepsTheSame = (t : List ℕ) (n : ℕ) (p : Statement) → table_of t ≡ holds n p → AnswersTheSame t p (write (trimmed p))
