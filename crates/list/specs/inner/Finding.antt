-- What the functions that find reactions in an area and write them into buffers ask and leave.
use Rattle.std.specs.Prelude.{◌≡◌, List, [], ◌∷◌, ◌++◌, map, ℕ, ◌/◌, ◌≤◌, length, take, Result, Ok, Err}
use Rattle.esterel.specs.Reactions.{Reaction}
use Rattle.esterel.specs.inner.Rows.{reactions}
use Rattle.table.specs.declared.Refusal.{Refusal}
use Rattle.table.specs.Outcomes.{number_of_refusal}
use Rattle.rows.specs.declared.row.Row.{Row}
use Rattle.rows.specs.inner.Area.{all_rows}
use Rattle.list.specs.Answers.{Listing, refused, listed, fitted, list_of, written, listing_outcome, answer_outcome}
use Rattle.list.specs.Buffers.{emitted_in, code_in, reached_in, front}

-- the reactions of rows
abbrev pub reactions_held : List Row → List Reaction
reactions_held a = reactions (all_rows a)

-- the refusal, or so many reactions in front of an area that is b
abbrev pub Finds : Listing → Result ℕ Refusal → List Row → Type 0
Finds v (Err e) b = v ≡ refused (number_of_refusal e)
Finds v (Ok n) b = (v ≡ listed (reactions_held (take n b))) × (n ≤ 64) × (n ≤ length b)

-- numbers one behind the other, each as f spells it
unfoldable pub spelled : {A : Type 0} → (ℕ → List A) → List ℕ → List A
spelled f [] = []
spelled f (v ∷ vs) = f v ++ spelled f vs

-- the answer r, and the buffers from o, k, l to o', k', l', where f spells each O and g each L
pub record DeliveredAs {A B : Type 0} (f : ℕ → List A) (g : ℕ → List B) (v : Listing) (r : Result ℕ Refusal) (o o' : List A) (k k' : List ℕ) (l l' : List B) : Type 0 where
  pub answer : answer_outcome r ≡ listing_outcome v
  pub signals : o' ≡ front (spelled f (map emitted_in (written v))) o
  pub codes : k' ≡ front (map code_in (written v)) k
  pub labels : l' ≡ front (spelled g (map reached_in (written v))) l

-- where there are as many places as groups of m elements in o, and of n in l: the reactions of rows delivered, or refused for want of
-- places; and what list does with the bytes t in the state of a mark and a label set
abbrev pub Delivers : {A B : Type 0} → ℕ → (ℕ → List A) → ℕ → (ℕ → List B) → List Row → Result ℕ Refusal → List A → List A → List ℕ → List ℕ → List B → List B → Type 0
Delivers m f n g a r o o' k k' l l' = DeliveredAs f g (fitted (length o / m) (length k) (length l / n) (listed (reactions_held a))) r o o' k k' l l'

abbrev pub ListsInto : {A B : Type 0} → ℕ → (ℕ → List A) → ℕ → (ℕ → List B) → List ℕ → ℕ → ℕ → ℕ → Result ℕ Refusal → List A → List A → List ℕ → List ℕ → List B → List B → Type 0
ListsInto m f n g t E mark X r o o' k k' l l' = DeliveredAs f g (list_of t E mark X (length o / m) (length k) (length l / n)) r o o' k k' l l'
