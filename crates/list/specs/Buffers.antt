-- The three result buffers after list: the reactions in front, "places past it are untouched".
use Rattle.std.specs.Prelude.{◌≡◌, List, [], ◌∷◌, ◌++◌, map, ℕ, ◌/◌, length, drop, Result}
use Rattle.esterel.specs.Reactions.{Reaction}
use Rattle.table.specs.declared.Refusal.{Refusal}
use Rattle.table.specs.Bits.{bytes}
use Rattle.list.specs.Answers.{Listing, list_of, written, listing_outcome, answer_outcome}

abbrev pub emitted_in : Reaction → ℕ
emitted_in r = r.emitted

abbrev pub code_in : Reaction → ℕ
code_in r = r.code

abbrev pub reached_in : Reaction → ℕ
reached_in r = r.reached

-- values in front of what was there
unfoldable pub front : {A : Type 0} → List A → List A → List A
front vs old = vs ++ drop (length vs) old

-- numbers of w bytes each
unfoldable pub spread : ℕ → List ℕ → List ℕ
spread w [] = []
spread w (v ∷ vs) = bytes w v ++ spread w vs

-- the answer r, and the buffers from o, k, l to o', k', l'
pub record Delivered (v : Listing) (r : Result ℕ Refusal) (o o' k k' l l' : List ℕ) : Type 0 where
  pub answer : answer_outcome r ≡ listing_outcome v
  pub signals : o' ≡ front (map emitted_in (written v)) o
  pub codes : k' ≡ front (map code_in (written v)) k
  pub labels : l' ≡ front (map reached_in (written v)) l

-- the same in bytes: "4 for each O, 1 for each k, 8 for each L"
pub record DeliveredBytes (v : Listing) (r : Result ℕ Refusal) (o o' k k' l l' : List ℕ) : Type 0 where
  pub answer : answer_outcome r ≡ listing_outcome v
  pub signals : o' ≡ front (spread 4 (map emitted_in (written v))) o
  pub codes : k' ≡ front (map code_in (written v)) k
  pub labels : l' ≡ front (spread 8 (map reached_in (written v))) l

-- what list does with the bytes t, under E, in the state of a mark and a label set: into buffers of numbers, and of bytes
abbrev pub Lists : List ℕ → ℕ → ℕ → ℕ → Result ℕ Refusal → List ℕ → List ℕ → List ℕ → List ℕ → List ℕ → List ℕ → Type 0
Lists t E mark X r o o' k k' l l' = Delivered (list_of t E mark X (length o) (length k) (length l)) r o o' k k' l l'

abbrev pub ListsBytes : List ℕ → ℕ → ℕ → ℕ → Result ℕ Refusal → List ℕ → List ℕ → List ℕ → List ℕ → List ℕ → List ℕ → Type 0
ListsBytes t E mark X r o o' k k' l l' = DeliveredBytes (list_of t E mark X (length o / 4) (length k) (length l / 8)) r o o' k k' l l'
