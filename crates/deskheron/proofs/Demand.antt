-- The third demand holds. Runs and listings are those of statements (crate esterel); what list gives of bytes is the listing of
-- the statement that they hold, and what writing gives for the trimmed statement is read as that statement or refused.
use mathlib.Core.Path.{◌≡◌, refl, sym, ap, ◌∙◌, subst}
use mathlib.Core.Logic.{◌↔◌, inl, inr}
use mathlib.Core.Bool.{cond, ◌||◌}
use mathlib.Core.List.{List, [], ◌∷◌, ◌++◌, map}
use Prim.Native.Nat.{ℕ, zero, suc, ◌<◌}
use native.Mathlib.Omega.{arith}
use lib.Dec.{ltb}
use lib.ListN.{length, take, drop, get_or, length-map, get_or-map}
use lib.Seq.{take_at}
use Rattle.sets.proofs.Booleans.{by_cond}
use Rattle.esterel.specs.Statement.{Statement, Valid, size}
use Rattle.esterel.specs.Trimming.{trimmed}
use Rattle.esterel.specs.Reactions.{State, Reaction, Reacts}
use Rattle.esterel.specs.Runs.{Step, Run, StateOf}
use Rattle.esterel.specs.Listing.{Listed, reaction, listing, crowded, nesting}
use Rattle.esterel.proofs.Order.{same_reaction}
use Rattle.esterel.proofs.Listing.{list_is_listing}
use Rattle.esterel.proofs.Bounds.{Narrow, reaction_narrow}
use Rattle.esterel.proofs.Runs.{same_runs}
use Rattle.esterel.proofs.Indistinguishable.{same_listings}
use Rattle.table.specs.Outcomes.{refusal, values, buffer_after}
use Rattle.table.specs.Reading.{Table, table_of, holds}
use Rattle.table.specs.Writing.{write}
use Rattle.table.proofs.RoundTrip.{read_written}
use Rattle.trim.specs.Answers.{trim_for, trim_in, trim_of, buffer_in, buffer_of}
use Rattle.trim.proofs.Answers.{allowed_trimmed}
use Rattle.list.specs.Answers.{Listing, refused, listed, list_for, list_in, fitted, list_of, listing_outcome, written}
use Rattle.list.specs.Buffers.{emitted_in, code_in, reached_in, front}
use Rattle.deskheron.specs.Demand.{Layout, places_of, filled, group_at, Call, For, called_on, Groups, stands_at, read_back, Stands, ThirdDemand}
use Rattle.deskheron.proofs.Groups.{group_of, group_filled, number_in_lem, group_front, number_single}
use Rattle.deskheron.proofs.Trimmed.{state_is, held, levels, valid_q, reads}

-- ---- a list by its places
none : Reaction
none = reaction 0 0 0

at_listed : (ts : List Reaction) (r : Reaction) → Listed r ts → (i : ℕ) × (i < length ts) × (get_or ts i none ≡ r)
at_listed (t ∷ ts) r (inl e) = (0, (omega arith), sym e)
at_listed (t ∷ ts) r (inr m) = let (i, h, e) = at_listed ts r m in (suc i, (omega arith), e)
at_listed [] r x' = elim x' [ ]

listed_at : (ts : List Reaction) (i : ℕ) → i < length ts → Listed (get_or ts i none) ts
listed_at [] i h = absurd (omega arith)
listed_at (t ∷ ts) zero h = inl refl
listed_at (t ∷ ts) (suc i) h = inr (listed_at ts i (omega arith))

-- ---- the buffers by their places
groups_of : Layout → Reaction → Groups
groups_of y r = record { o = group_of y 4 r.emitted; k = r.code ∷ []; l = group_of y 8 r.reached }

-- a field of the reactions, as the numbers of a buffer
field_at : (f : Reaction → ℕ) → f none ≡ 0 → (ts : List Reaction) (i : ℕ) → get_or (map f ts) i 0 ≡ f (get_or ts i none)
field_at f z ts i = ap (λ (d : ℕ). get_or (map f ts) i d) (sym z) ∙ get_or-map f ts i none

stands_at_lem : (y : Layout) (ts : List Reaction) (c : Call) (i : ℕ) → i < length ts → stands_at y (listed ts) c i ≡ groups_of y (get_or ts i none)
unfolding stands_at written none groups_of
stands_at_lem y ts c i h = λ j. record { o = o j; k = k j; l = l j }
  where
    below : (f : Reaction → ℕ) → i < length (map f ts)
    below f = subst (λ (n : ℕ). i < n) (sym (length-map ts f)) h

    o : group_at y 4 (filled y 4 (map emitted_in ts) c.o) i ≡ group_of y 4 (get_or ts i none).emitted
    o = group_filled y 4 (map emitted_in ts) c.o i (below emitted_in) ∙ ap (group_of y 4) (field_at emitted_in refl ts i)

    k : group_at y 1 (front (map code_in ts) c.k) i ≡ (get_or ts i none).code ∷ []
    k = group_front y (map code_in ts) c.k i (below code_in) ∙ ap (λ (n : ℕ). n ∷ []) (field_at code_in refl ts i)

    l : group_at y 8 (filled y 8 (map reached_in ts) c.l) i ≡ group_of y 8 (get_or ts i none).reached
    l = group_filled y 8 (map reached_in ts) c.l i (below reached_in) ∙ ap (group_of y 8) (field_at reached_in refl ts i)

read_groups : (y : Layout) (r : Reaction) → Narrow r → read_back y (groups_of y r) ≡ r
unfolding read_back groups_of
read_groups y r n =
    same_reaction (read_back y (groups_of y r)) r
    (number_in_lem y 4 r.emitted n.emitted) (number_single y r.code n.code) (number_in_lem y 8 r.reached n.reached)

stands_iff : (y : Layout) (ts : List Reaction) → ((t : Reaction) → Listed t ts → Narrow t) → (c : Call) (r : Reaction)
    → Stands y (listed ts) c (length ts) r ↔ Listed r ts
stands_iff y ts f c r = (
  λ s. subst (λ t. Listed t ts) (sym (read s.0 s.1) ∙ s.2) (listed_at ts s.0 s.1),
  λ m. let (i, h, e) = at_listed ts r m in (i, h, read i h ∙ e),
)
  where
    read : (i : ℕ) → i < length ts → read_back y (stands_at y (listed ts) c i) ≡ get_or ts i none
    read i h = ap (read_back y) (stands_at_lem y ts c i h) ∙ read_groups y (get_or ts i none) (f (get_or ts i none) (listed_at ts i h))

-- ---- what list comes to
not_refused : {A : Type 0} (w : ℕ) (vs : List ℕ) → refusal w ≡ values vs → A
not_refused w vs e = absurd (let z : ◌≡◌ {A = ℕ} 0 1 = cc in omega arith)

-- a statement that is not refused is listed whole
lists : (p : Statement) (x : State) (E o k l n : ℕ) → listing_outcome (fitted o k l (list_for p x E)) ≡ values (n ∷ [])
    → (fitted o k l (list_for p x E) ≡ listed (listing p x E)) × (n ≡ length (listing p x E))
unfolding list_for fitted listing_outcome
lists p x E o k l n =
    by_cond Good (ltb 12 (nesting p)) (refused 14) (cond (crowded p x E) (refused 15) (listed (listing p x E)))
    (λ e h. not_refused 14 (n ∷ []) h)
    (λ e. by_cond Good (crowded p x E) (refused 15) (listed (listing p x E)) (λ f h. not_refused 15 (n ∷ []) h) (λ f. whole))
  where
    Good : Listing → Type 0
    Good v = listing_outcome (fitted o k l v) ≡ values (n ∷ []) → (fitted o k l v ≡ listed (listing p x E)) × (n ≡ length (listing p x E))

    whole : Good (listed (listing p x E))
    whole =
        by_cond (λ v. listing_outcome v ≡ values (n ∷ []) → (v ≡ listed (listing p x E)) × (n ≡ length (listing p x E)))
        (ltb o (length (listing p x E)) || (ltb k (length (listing p x E)) || ltb l (length (listing p x E)))) (refused 16) (listed (listing p x E))
        (λ e h. not_refused 16 (n ∷ []) h) (λ e h. (refl, cc))

-- the listing, as far as the buffers have places for it
abbrev fitted_for : Layout → Call → Listing → Listing
fitted_for y c v = fitted (places_of y 4 c.o) (length c.k) (places_of y 8 c.l) v

called_is : (y : Layout) (t : List ℕ) (s : ℕ) (p : Statement) → table_of t ≡ holds s p → (x : State) (E : ℕ) (c : Call) → For x c
    → called_on y t E c ≡ fitted_for y c (list_for p x E)
unfolding called_on list_of list_in
called_is y t s p h x E c f = ap (λ T. fitted_for y c (list_in T E c.mark c.labels)) h ∙ ap (λ z. fitted_for y c (list_for p z E)) (state_is x c.mark c.labels f)

called_lists : (y : Layout) (t : List ℕ) (s : ℕ) (p : Statement) → table_of t ≡ holds s p → (x : State) (E : ℕ) (c : Call) → For x c
    → (n : ℕ) → listing_outcome (called_on y t E c) ≡ values (n ∷ []) → (called_on y t E c ≡ listed (listing p x E)) × (n ≡ length (listing p x E))
called_lists y t s p h x E c f n e =
    let i = called_is y t s p h x E c f in
    let g = lists p x E (places_of y 4 c.o) (length c.k) (places_of y 8 c.l) n (ap listing_outcome (sym i) ∙ e) in
    (i ∙ g.0, g.1)

-- bytes that list accepts hold a statement
called_holds : (y : Layout) (t : List ℕ) (E : ℕ) (c : Call) (n : ℕ) → listing_outcome (called_on y t E c) ≡ values (n ∷ [])
    → (s : ℕ) × (p : Statement) × (table_of t ≡ holds s p)
unfolding called_on list_of list_in fitted listing_outcome
called_holds y t E c n e = go (table_of t) refl
  where
    go : (T : Table) → table_of t ≡ T → (s : ℕ) × (p : Statement) × (table_of t ≡ holds s p)
    go (Table.refused w) h = not_refused w (n ∷ []) (sym (ap (λ T. listing_outcome (fitted_for y c (list_in T E c.mark c.labels))) h) ∙ e)
    go (holds s p) h = (s, p, h)

-- ---- the demand
module _ (t : List ℕ) (s : ℕ) (p : Statement) (h : table_of t ≡ holds s p) where
  abbrev q : Statement
  q = trimmed p

  abbrev u : List ℕ
  u = write q

  same_found : (ts : List Step) → Run p ts → (x : State) → StateOf ts x → (E : ℕ) → listing p x E ≡ listing q x E
  unfolding listing
  same_found ts run x state E = same_listings p (levels t s p h) ts run x state E

  derived : (r : Statement) (x : State) (E : ℕ) (t : Reaction) → Listed t (listing r x E) ↔ Reacts r x E t
  unfolding listing
  derived r x E t = (list_is_listing r x E).members t

  -- what stands in the buffers of a call on bytes that hold r
  holds_iff : (r : Statement) → Valid 0 r → (y : Layout) (x : State) (E : ℕ) (v : Listing) (c : Call) (n : ℕ) → v ≡ listed (listing r x E)
      → n ≡ length (listing r x E) → (a : Reaction) → Stands y v c n a ↔ Reacts r x E a
  holds_iff r valid y x E v c n e k a =
      let s = stands_iff y (listing r x E) (λ b m. reaction_narrow r valid x E b ((derived r x E b).0 m)) c a in
      let l = derived r x E a in
      rw (e, k) (λ i. l.0 (s.0 i), λ i. s.1 (l.1 i))

  answers : (ts : List Step) → Run p ts → (x : State) → StateOf ts x → (E : ℕ) (y : Layout) (c d : Call) → For x c → For x d → (n m : ℕ)
      → listing_outcome (called_on y t E c) ≡ values (n ∷ []) → listing_outcome (called_on y u E d) ≡ values (m ∷ [])
      → (n ≡ m)
      × ((i : ℕ) → i < n → stands_at y (called_on y t E c) c i ≡ stands_at y (called_on y u E d) d i)
      × ((r : Reaction) → Stands y (called_on y t E c) c n r ↔ Reacts p x E r)
      × ((r : Reaction) → Stands y (called_on y u E d) d m r ↔ Reacts q x E r)
  answers ts run x state E y c d f g n m e k =
      let (s', r, i) = called_holds y u E d m k in
      let hu : table_of u ≡ holds s' q = i ∙ ap (holds s') (reads t s p h s' r i) in
      let a = called_lists y t s p h x E c f n e in
      let b = called_lists y u s' q hu x E d g m k in
      let same = same_found ts run x state E in
      let v : called_on y u E d ≡ listed (listing p x E) = b.0 ∙ ap listed (sym same) in
      let w : m ≡ length (listing p x E) = b.1 ∙ ap length (sym same) in (
        a.1 ∙ sym w,
        (λ j l. let o : j < length (listing p x E) = subst (λ (z : ℕ). j < z) a.1 l in
            ap (λ z. stands_at y z c j) a.0 ∙ stands_at_lem y (listing p x E) c j o ∙ sym (ap (λ z. stands_at y z d j) v ∙ stands_at_lem y (listing p x E) d j o)),
        holds_iff p (held t s p h).valid y x E (called_on y t E c) c n a.0 a.1,
        holds_iff q (valid_q t s p h) y x E (called_on y u E d) d m b.0 b.1,
      )

  trims : (out sizes : List ℕ) → trim_of t (length out) ≡ values sizes → (take (length u) (buffer_of t out) ≡ u) × (table_of u ≡ holds (size q) q)
  unfolding trim_of trim_in buffer_of buffer_in buffer_after
  trims out sizes e =
      let a : trim_for s q (length out) ≡ values sizes = ap (λ T. trim_in T (length out)) (sym h) ∙ e in
      let b : buffer_of t out ≡ u ++ drop (length u) out = ap (λ T. buffer_in T out) h ∙ ap (λ z. buffer_after z (write q) out) a in (
        ap (take (length u)) b ∙ take_at u (drop (length u) out) (length u) refl,
        read_written q (allowed_trimmed p (held t s p h).valid (held t s p h).deep s (length out) sizes a).0,
      )

pub third_demand : ThirdDemand
unfolding ThirdDemand
third_demand t s p h = record {
  runs = same_runs p (levels t s p h);
  listings = same_found t s p h;
  answers = answers t s p h;
  trims = trims t s p h;
}
