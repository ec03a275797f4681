-- The rounds over a summary: d over R has the codes of d over the labels of R, one at a time; so what is kept for the labels
-- that a round adds is all that the next round needs. Each round that goes on adds a label, and the first that adds none is
-- where reach rests.
use mathlib.Core.Path.{◌≡◌, refl, sym, ap, ap₂, ◌∙◌, subst, subst₂}
use mathlib.Core.Logic.{◌≢◌, ◌⊎◌, inl, inr, ⊎_elim}
use mathlib.Core.Bool.{Bool, true, false, cond, not, ◌&&◌, ◌||◌}
use mathlib.Core.List.{List}
use Rattle.std.proofs.Common.{Ok}
use Prim.Native.Nat.{ℕ, suc, ◌+◌, ◌-◌, ◌^◌, ◌≤◌, ◌<◌}
use native.Mathlib.Decide.{ℕ_discrete, dec_le}
use native.Mathlib.Numerals.{add-one}
use native.Mathlib.Omega.{arith}
use lib.Bits.{bit_and, bit_xor}
use lib.Dec.{eqb}
use Rattle.sets.specs.Set.{has, only, ◌union◌, ◌intersect◌, ◌minus◌, Within, count}
use Rattle.sets.proofs.Booleans.{and_cases, and_both, clash}
use Rattle.sets.proofs.Members.{ext, within_ext, has_union, has_intersect, has_minus, has_only, has_only_equal, has_empty, union_empty, union_assoc, past_width}
use Rattle.sets.proofs.Counts.{count_width, count_within}
use Rattle.esterel.specs.Statement.{Statement, nothing, pause, gotopause, emit, exit, signal, present, sequence, parallel, loop, try, pauses}
use Rattle.esterel.specs.Codes.{Codes, Qualified, ended, at, plain, contains, none, just_ended, join, minus_zero, through_try, s, d}
use Rattle.esterel.specs.Codes as codes
use Rattle.esterel.specs.Reachability.{next_r, after_rounds, Reached, reach}
use Rattle.esterel.proofs.Codes.{contains_none, contains_left, contains_right, join_cases, contains_minus_zero, contains_through_try, contains_through_try⁺}
use Rattle.esterel.proofs.Reachability.{d_union, d_mono, round_adds, reach_unique, after_rounds_pauses, after_rounds_grows}
use Rattle.table.specs.Reading.{deepest}
use Rattle.table.specs.inner.Places.{Placed, statement_at, statement_of}
use Rattle.reach.specs.declared.summary.Summary.{Summary}
use Rattle.reach.specs.inner.CodeSets.{followed_by}
use Rattle.reach.specs.inner.Summaries.{resumed_from, LabelsFrom, Summarised}
use Rattle.reach.specs.inner.Rounds.{Reaches}
use Rattle.reach.proofs.Summing.{d_followed, d_looped}

-- ---- A code of d over R comes from one label of R
abbrev FromOne : ℕ → (ℕ → Codes) → Qualified → Type 0
FromOne R D k = (l : ℕ) × (has R l ≡ true) × (contains (D l) k ≡ true)

-- K followed by S, where each code of K comes from one label
followed_single : (R : ℕ) (K : Codes) (D : ℕ → Codes) (S : Codes) → ((k : Qualified) → contains K k ≡ true → FromOne R D k)
    → (k : Qualified) → contains (followed_by K S) k ≡ true → FromOne R (λ l. followed_by (D l) S) k
unfolding followed_by contains
followed_single R K D S from k h = ⊎_elim own on (join_cases (minus_zero K) (cond K.ends S none) k h)
  where
    own : contains (minus_zero K) k ≡ true → FromOne R (λ l. followed_by (D l) S) k
    own u =
        let (z, c) = and_cases (not (eqb (plain k) 0)) (contains K k) (sym (contains_minus_zero K k) ∙ u) in
        let (l, m, v) = from k c in
        (l, m, contains_left (minus_zero (D l)) (cond (D l).ends S none) k (contains_minus_zero (D l) k ∙ and_both _ _ z v))

    first : K.ends ≡ true → (l : ℕ) × (has R l ≡ true) × ((D l).ends ≡ true)
    first e = from ended e

    on : contains (cond K.ends S none) k ≡ true → FromOne R (λ l. followed_by (D l) S) k
    on u = go K.ends refl u
      where
        go : (z : Bool) → K.ends ≡ z → contains (cond z S none) k ≡ true → FromOne R (λ l. followed_by (D l) S) k
        go true e v =
            let (l, m, w) = first e in
            (l, m, contains_right (minus_zero (D l)) (cond (D l).ends S none) k (ap (λ (z : Bool). contains (cond z S none) k) w ∙ v))
        go false e v = clash v (contains_none k)

from_either : (R : ℕ) (A B : ℕ → Codes) (k : Qualified) → FromOne R A k ⊎ FromOne R B k → FromOne R (λ l. join (A l) (B l)) k
from_either R A B k (inl (l, m, v)) = (l, m, contains_left (A l) (B l) k v)
from_either R A B k (inr (l, m, v)) = (l, m, contains_right (A l) (B l) k v)

pub d_single : (R : ℕ) (p : Statement) (k : Qualified) → contains (d R p) k ≡ true → FromOne R (λ l. d (only l) p) k
unfolding d
d_single R nothing k h = clash h (contains_none k)
d_single R (pause m) k h = go (has R m) refl h
  where
    go : (z : Bool) → has R m ≡ z → contains (cond z just_ended none) k ≡ true → FromOne R (λ l. d (only l) (pause m)) k
    go true e u = (m, e, ap (λ (z : Bool). contains (cond z just_ended none) k) (has_only m) ∙ u)
    go false e u = clash u (contains_none k)
d_single R (gotopause m) k h = clash h (contains_none k)
d_single R (emit S) k h = clash h (contains_none k)
d_single R (exit e) k h = clash h (contains_none k)
d_single R (signal S p) k h = d_single R p k h
d_single R (present S p q) k h = from_either R _ _ k (⊎_elim (λ u. inl (d_single R p k u)) (λ v. inr (d_single R q k v)) (join_cases (d R p) (d R q) k h))
d_single R (sequence p q) k h =
    let (l, m, v) = from_either R (λ l. followed_by (d (only l) p) (s q)) (λ l. d (only l) q) k
    (⊎_elim (λ u. inl (followed_single R (d R p) (λ l. d (only l) p) (s q) (d_single R p) k u)) (λ w. inr (d_single R q k w))
    (join_cases (followed_by (d R p) (s q)) (d R q) k (ap (λ (K : Codes). contains K k) (sym (d_followed R p q)) ∙ h))) in
    (l, m, ap (λ (K : Codes). contains K k) (d_followed (only l) p q) ∙ v)
d_single R (parallel p q) k h = from_either R _ _ k (⊎_elim (λ u. inl (d_single R p k u)) (λ v. inr (d_single R q k v)) (join_cases (d R p) (d R q) k h))
d_single R (loop p) k h =
    let (l, m, v) = followed_single R (d R p) (λ l. d (only l) p) (minus_zero (s p)) (d_single R p) k (ap (λ (K : Codes). contains K k) (sym (d_looped R p)) ∙ h) in
    (l, m, ap (λ (K : Codes). contains K k) (d_looped (only l) p) ∙ v)
d_single R (try p) k h =
    let (q, u, e) = (contains_through_try (d R p) k).0 h in
    let (l, m, v) = d_single R p q u in
    (l, m, subst (λ (x : Qualified). contains (through_try (d (only l) p)) x ≡ true) e (contains_through_try⁺ (d (only l) p) q v))

-- ---- What is kept for the labels of a set
below_width : (w m x : ℕ) → m < 2 ^ w → has m x ≡ true → x < w
below_width w m x b h = go (dec_le w x)
  where
    go : Dec (w ≤ x) → x < w
    go (yes l) = clash h (past_width w m x b l)
    go (no f) = omega arith

module _ (p : Placed) (found : Summary) (first kept : List Codes) (h : Summarised p found first kept) (w : found.pauses < 2 ^ 64) where
  abbrev P : Statement
  P = p.statement

  label_small : (l : ℕ) → has (pauses P) l ≡ true → l < 64
  label_small l k = below_width 64 found.pauses l w (ap (λ (m : ℕ). has m l) h.labels ∙ k)

  kept_for : (l : ℕ) → has (pauses P) l ≡ true → resumed_from kept l ≡ d (only l) P
  kept_for l k = h.resumed l (label_small l k) ∙ ap (λ (z : Bool). cond z (d (only l) P) (resumed_from first l)) k

  -- the labels kept for a set are those of d over it
  gathered : (new : ℕ) → Within new (pauses P) → (labels : ℕ) → LabelsFrom new kept labels → labels ≡ codes.labels (d new P)
  unfolding codes.labels contains
  gathered new n labels g = within_ext labels (d new P).pausing sound complete
    where
      sound : Within labels (d new P).pausing
      sound x k =
          let (l, b, m, v) = g.sound x k in
          d_mono (only l) new P (λ y u. subst (λ (z : ℕ). has new z ≡ true) (has_only_equal l y u) m) (at x) (ap (λ (K : Codes). has K.pausing x) (sym (kept_for l (n l m))) ∙ v)

      complete : Within (d new P).pausing labels
      complete x k =
          let (l, m, v) = d_single new P (at x) k in
          g.complete l x (label_small l (n l m)) m (ap (λ (K : Codes). has K.pausing x) (kept_for l (n l m)) ∙ v)

-- ---- The labels that a round adds
added_is : (next set : ℕ) → Within set next → bit_xor next set ≡ next minus set
unfolding ◌minus◌ ◌intersect◌
added_is next set f = ap (bit_xor next) (sym (ext (next intersect set) set (λ x. has_intersect next set x ∙ go (has next x) (has set x) (f x))))
  where
    go : (u v : Bool) → (v ≡ true → u ≡ true) → (u && v) ≡ v
    go true v f = refl
    go false true f = f refl
    go false false f = refl

with_added : (next set : ℕ) → Within set next → set union (next minus set) ≡ next
with_added next set f = ext (set union (next minus set)) next (λ x. has_union set (next minus set) x ∙ ap (λ (z : Bool). has set x || z) (has_minus next set x) ∙ go (has next x) (has set x) (f x))
  where
    go : (u v : Bool) → (v ≡ true → u ≡ true) → (v || (u && not v)) ≡ u
    go true true f = refl
    go true false f = refl
    go false true f = sym (f refl)
    go false false f = refl

none_resumed : (p : Statement) → codes.labels (d 0 p) ≡ 0
unfolding codes.labels contains
none_resumed p = within_ext (d 0 p).pausing 0 (λ x k. let (l, m, v) = d_single 0 p (at x) k in clash m (has_empty l)) (λ x k. clash k (has_empty x))

labels_join : (K D : Codes) → codes.labels (join K D) ≡ codes.labels K union codes.labels D
unfolding codes.labels join
labels_join K D = refl

-- ---- The rounds
-- after so many rounds, each of which has added a label: R, and the labels of s and of d over R
pub record Going (p : Statement) (labels set rounds : ℕ) : Type 0 where
  pub reached : set ≡ after_rounds p rounds
  pub labelled : labels ≡ codes.labels (s p) union codes.labels (d set p)
  pub added : (j : ℕ) → j < rounds → after_rounds p (suc j) ≢ after_rounds p j
  pub counted : rounds ≤ count 64 set

pub few_rounds : (p : Statement) (labels set rounds : ℕ) → Going p labels set rounds → rounds ≤ 64
few_rounds p labels set rounds g = let c = g.counted in let w = count_width 64 set in omega arith

pub none_yet : (p : Statement) (K : Codes) (labels : ℕ) → labels ≡ K.pausing → K ≡ s p → Going p labels 0 0
unfolding after_rounds codes.labels
none_yet p K labels l e = record {
  reached = refl;
  labelled = l ∙ ap (λ (D : Codes). D.pausing) e ∙ sym (ap (λ (m : ℕ). codes.labels (s p) union m) (none_resumed p) ∙ union_empty (codes.labels (s p)));
  added = λ j l. absurd (omega arith);
  counted = omega arith;
}

module _ (p : Placed) (found : Summary) (first kept : List Codes) (h : Summarised p found first kept) (w : found.pauses < 2 ^ 64)
    (labels set rounds : ℕ) (g : Going p.statement labels set rounds) where
  abbrev next : ℕ
  next = bit_and found.pauses labels

  next_is : next ≡ after_rounds p.statement (suc rounds)
  unfolding after_rounds next_r codes.labels join ◌union◌ ◌intersect◌
  next_is = ap₂ bit_and h.labels g.labelled ∙ ap (next_r p.statement) g.reached

  next_pauses : Within next (pauses p.statement)
  next_pauses = subst (λ (m : ℕ). Within m (pauses p.statement)) (sym next_is) (after_rounds_pauses p.statement (suc rounds))

  grows : Within set next
  grows = subst₂ Within (sym g.reached) (sym next_is) (after_rounds_grows p.statement rounds)

  module _ (n : next ≢ set) where
    changed : after_rounds p.statement (suc rounds) ≢ after_rounds p.statement rounds
    changed q = n (next_is ∙ q ∙ sym g.reached)

    more : count 64 set < count 64 next
    more =
        subst₂ (λ (a c : ℕ). count 64 a < count 64 c) (sym g.reached) (sym next_is)
        (round_adds p.statement 64 (label_small p found first kept h w) rounds changed)

    pub goes_on : (new : ℕ) → LabelsFrom (bit_xor next set) kept new → Going p.statement (labels union new) next (rounds + 1)
    goes_on new a = record {
      reached = next_is ∙ ap (after_rounds p.statement) (sym (add-one rounds));
      labelled = ap₂ ◌union◌ g.labelled new_is ∙ union_assoc _ _ _ ∙ ap (λ (m : ℕ). codes.labels (s p.statement) union m) (sym resumed_now);
      added = λ j u. each j (omega arith) (ℕ_discrete j rounds);
      counted = let c = g.counted in let m = more in omega arith;
    }
      where
        own : bit_xor next set ≡ next minus set
        own = added_is next set grows

        own_pauses : Within (bit_xor next set) (pauses p.statement)
        own_pauses x k = next_pauses x (and_cases (has next x) (not (has set x)) (sym (has_minus next set x) ∙ ap (λ (m : ℕ). has m x) (sym own) ∙ k)).0

        new_is : new ≡ codes.labels (d (bit_xor next set) p.statement)
        new_is = gathered p found first kept h w (bit_xor next set) own_pauses new a

        resumed_now : codes.labels (d next p.statement) ≡ codes.labels (d set p.statement) union codes.labels (d (bit_xor next set) p.statement)
        resumed_now =
            ap (λ (R : ℕ). codes.labels (d R p.statement)) (sym (ap (λ (m : ℕ). set union m) own ∙ with_added next set grows))
            ∙ ap codes.labels (d_union set (bit_xor next set) p.statement) ∙ labels_join (d set p.statement) (d (bit_xor next set) p.statement)

        each : (j : ℕ) → j ≤ rounds → Dec (j ≡ rounds) → after_rounds p.statement (suc j) ≢ after_rounds p.statement j
        each j u (yes e) = rw e changed
        each j u (no f) = g.added j (omega arith)

    -- the labels that can still be added
    pub falls : count 64 found.pauses - count 64 next < count 64 found.pauses - count 64 set
    falls =
        let m = more in
        let f = count_within 64 next found.pauses (subst (Within next) (sym h.labels) next_pauses) in
        omega arith

pub rests : (nodes : List ℕ) (found : Summary) (first kept : List Codes) → (h : Summarised (statement_at deepest nodes 0) found first kept) → (w : found.pauses < 2 ^ 64)
    → (labels set rounds : ℕ) → (g : Going (statement_of nodes) labels set rounds) → bit_and found.pauses labels ≡ set
    → Reaches nodes (Ok (record { start = found.start; set = set; rounds = rounds + 1 }))
rests nodes found first kept h w labels set rounds g e = record {
  found = record { start = found.start; set = set; rounds = rounds + 1 };
  rest = refl;
  start = h.start;
  set = g.reached ∙ sym (ap (λ (r : Reached). r.set) unique);
  rounds = add-one rounds ∙ sym (ap (λ (r : Reached). r.rounds) unique);
}
  where
    unique : reach (statement_of nodes) ≡ record { set = after_rounds (statement_of nodes) rounds; rounds = suc rounds }
    unique = reach_unique (statement_of nodes) rounds (sym (next_is (statement_at deepest nodes 0) found first kept h w labels set rounds g) ∙ e ∙ g.reached) g.added
