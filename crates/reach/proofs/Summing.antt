-- The summary of a statement from those of its children, kind by kind. A label is of one child at most, and from the label of
-- one child the other is not resumed.
use mathlib.Core.Path.{◌≡◌, refl, sym, ap, ap₂, ◌∙◌, subst}
use mathlib.Core.Bool.{Bool, true, false, cond, ◌&&◌, ◌||◌, and-true, and-false}
use mathlib.Core.List.{List}
use Prim.Native.Nat.{ℕ, ◌<◌}
use native.Mathlib.Decide.{ℕ_discrete}
use Rattle.sets.specs.Set.{has, only, ◌union◌, Apart}
use Rattle.sets.proofs.Booleans.{or_neither, clash}
use Rattle.sets.proofs.Members.{has_empty, has_union, has_only, has_only_other}
use Rattle.esterel.specs.Statement.{Statement, nothing, pause, gotopause, emit, exit, signal, present, sequence, parallel, loop, try, pauses}
use Rattle.esterel.specs.Codes.{Codes, none, just_ended, just_at, join, minus_zero, through_try, s, d}
use Rattle.esterel.proofs.Codes.{join_none, none_join, none_through, followed, s_sequence, d_sequence, d_loop}
use Rattle.table.specs.inner.Places.{Placed, placed}
use Rattle.reach.specs.declared.summary.Summary.{Summary}
use Rattle.reach.specs.inner.CodeSets.{followed_by}
use Rattle.reach.specs.inner.Summaries.{resumed_from, Changed, LoweredEach, Follows, summary, in_turn, Summarised}
use Rattle.reach.proofs.CodeSets.{goes_on, stops}

none_followed : (S : Codes) → followed_by none S ≡ none
unfolding followed_by join minus_zero none ◌union◌
none_followed S = refl

pub d_followed : (R : ℕ) (p q : Statement) → d R (sequence p q) ≡ join (followed_by (d R p) (s q)) (d R q)
unfolding followed_by followed
d_followed R p q = d_sequence R p q

pub d_looped : (R : ℕ) (p : Statement) → d R (loop p) ≡ followed_by (d R p) (minus_zero (s p))
unfolding followed_by followed
d_looped R p = d_loop R p

pub s_followed : (p q : Statement) → s (sequence p q) ≡ followed_by (s p) (s q)
unfolding followed_by followed
s_followed p q = s_sequence p q

has_if : (z : Bool) (m l : ℕ) → has (cond z m 0) l ≡ (z && has m l)
has_if true m l = refl
has_if false m l = has_empty l

-- ---- From a label that is of no pause of it, a statement is not resumed
none_of : (l : ℕ) (p q : Statement) → has (pauses p union pauses q) l ≡ false → (has (pauses p) l ≡ false) × (has (pauses q) l ≡ false)
none_of l p q h = or_neither (has (pauses p) l) (has (pauses q) l) (sym (has_union (pauses p) (pauses q) l) ∙ h)

d_outside : (l : ℕ) (p : Statement) → has (pauses p) l ≡ false → d (only l) p ≡ none
unfolding d pauses
d_outside l nothing h = refl
d_outside l (pause m) h = ap (λ (z : Bool). cond z just_ended none) (has_only_other l m (λ e. clash (subst (λ (x : ℕ). has (only m) x ≡ true) (sym e) (has_only m)) h))
d_outside l (gotopause m) h = refl
d_outside l (emit S) h = refl
d_outside l (exit e) h = refl
d_outside l (signal S p) h = d_outside l p h
d_outside l (present S p q) h = let (u, v) = none_of l p q h in ap₂ join (d_outside l p u) (d_outside l q v) ∙ join_none none
d_outside l (sequence p q) h =
    let (u, v) = none_of l p q h in
    d_followed (only l) p q ∙ ap₂ (λ (K D : Codes). join (followed_by K (s q)) D) (d_outside l p u) (d_outside l q v) ∙ join_none (followed_by none (s q)) ∙ none_followed (s q)
d_outside l (parallel p q) h = let (u, v) = none_of l p q h in ap₂ join (d_outside l p u) (d_outside l q v) ∙ join_none none
d_outside l (loop p) h = d_looped (only l) p ∙ ap (λ (K : Codes). followed_by K (minus_zero (s p))) (d_outside l p h) ∙ none_followed (minus_zero (s p))
d_outside l (try p) h = ap through_try (d_outside l p h) ∙ none_through

-- ---- One label: P and Q say whether it is of the children, A and B are the codes resumed from it, K₀ what was kept for it
module _ (P Q : Bool) (A B : Codes) (apart : P ≡ true → Q ≡ false) (a : P ≡ false → A ≡ none) (b : Q ≡ false → B ≡ none) where
  kept_two : (K₀ : Codes) {K₁ K₂ : Codes} → K₁ ≡ cond P A K₀ → K₂ ≡ cond Q B K₁ → K₂ ≡ cond (P || Q) (join A B) K₀
  kept_two = go P Q apart a b
    where
      go : (P Q : Bool) → (P ≡ true → Q ≡ false) → (P ≡ false → A ≡ none) → (Q ≡ false → B ≡ none) → (K₀ : Codes) {K₁ K₂ : Codes}
          → K₁ ≡ cond P A K₀ → K₂ ≡ cond Q B K₁ → K₂ ≡ cond (P || Q) (join A B) K₀
      go true true c a b K₀ e f = clash refl (c refl)
      go true false c a b K₀ e f = f ∙ e ∙ sym (ap (join A) (b refl) ∙ join_none A)
      go false true c a b K₀ e f = f ∙ sym (ap (λ (K : Codes). join K B) (a refl) ∙ none_join B)
      go false false c a b K₀ e f = f ∙ e

  ends_two : ((P && A.ends) || (Q && B.ends)) ≡ ((P || Q) && (join A B).ends)
  unfolding join none
  ends_two = go P Q apart a b
    where
      go : (P Q : Bool) → (P ≡ true → Q ≡ false) → (P ≡ false → A ≡ none) → (Q ≡ false → B ≡ none)
          → ((P && A.ends) || (Q && B.ends)) ≡ ((P || Q) && (A.ends || B.ends))
      go true true c a b = clash refl (c refl)
      go true false c a b = ap (λ (K : Codes). A.ends || K.ends) (sym (b refl))
      go false true c a b = ap (λ (K : Codes). K.ends || B.ends) (sym (a refl))
      go false false c a b = refl

-- S goes on where A can end
kept_followed : (P : Bool) (A S K₀ : Codes) {E : Bool} {K₁ K₂ : Codes} → E ≡ (P && A.ends) → K₁ ≡ cond P A K₀ → K₂ ≡ cond E (join (minus_zero K₁) S) K₁
    → K₂ ≡ cond P (followed_by A S) K₀
kept_followed true A S K₀ {E} {K₁} {K₂} h e f = f ∙ ap₂ (λ (z : Bool) (K : Codes). cond z (join (minus_zero K) S) K) h e ∙ go A.ends refl
  where
    go : (z : Bool) → A.ends ≡ z → cond z (join (minus_zero A) S) A ≡ followed_by A S
    go true q = goes_on A S q
    go false q = stops A S q
kept_followed false A S K₀ {E} {K₁} {K₂} h e f = f ∙ ap (λ (z : Bool). cond z (join (minus_zero K₁) S) K₁) h ∙ e

-- two children, of which the second goes on after the first
kept_sequence : (P Q : Bool) (A B S K₀ : Codes) {E : Bool} {K₁ K₂ K₃ : Codes} → (P ≡ true → Q ≡ false) → (P ≡ false → A ≡ none) → (Q ≡ false → B ≡ none)
    → E ≡ (P && A.ends) → K₁ ≡ cond P A K₀ → K₂ ≡ cond Q B K₁ → K₃ ≡ cond E (join (minus_zero K₂) S) K₂ → K₃ ≡ cond (P || Q) (join (followed_by A S) B) K₀
kept_sequence true true A B S K₀ c a b h e f g = clash refl (c refl)
kept_sequence true false A B S K₀ c a b h e f g = kept_followed true A S K₀ h (f ∙ e) g ∙ sym (ap (join (followed_by A S)) (b refl) ∙ join_none (followed_by A S))
kept_sequence false true A B S K₀ c a b h e f g =
    kept_followed false A S B h f g ∙ sym (ap (λ (K : Codes). join (followed_by K S) B) (a refl) ∙ ap (λ (K : Codes). join K B) (none_followed S) ∙ none_join B)
kept_sequence false false A B S K₀ c a b h e f g = kept_followed false A S K₀ h (f ∙ e) g

ends_followed : (P : Bool) (A S : Codes) → (S.ends && (P && A.ends)) ≡ (P && (followed_by A S).ends)
unfolding followed_by join minus_zero none
ends_followed P A S = go P A.ends
  where
    go : (P z : Bool) → (S.ends && (P && z)) ≡ (P && (cond z S none).ends)
    go true true = and-true S.ends
    go true false = and-false S.ends
    go false z = and-false S.ends

never_ends : (A S : Codes) → (followed_by A (minus_zero S)).ends ≡ false
unfolding followed_by join minus_zero none
never_ends A S = go A.ends
  where
    go : (z : Bool) → (cond z (minus_zero S) none).ends ≡ false
    go true = refl
    go false = refl

-- through a try
kept_through : (P : Bool) (A K₀ : Codes) {K₁ K₂ : Codes} → K₁ ≡ cond P A K₀ → K₂ ≡ cond P (through_try K₁) K₁ → K₂ ≡ cond P (through_try A) K₀
kept_through true A K₀ e f = f ∙ ap through_try e
kept_through false A K₀ e f = f ∙ e

ends_through : (P : Bool) (A K₀ : Codes) {K₁ : Codes} → K₁ ≡ cond P A K₀ → (P && (through_try K₁).ends) ≡ (P && (through_try A).ends)
ends_through true A K₀ e = ap (λ (K : Codes). (through_try K).ends) e
ends_through false A K₀ e = refl

-- ---- Kinds without children
module _ (found : Summary) (kept : List Codes) (p : Statement) (at : ℕ) where
  -- no pause
  pub sum_none : pauses p ≡ 0 → {K : Codes} → s p ≡ K → found ≡ summary K 0 0 at → Summarised (placed p at) found kept kept
  sum_none z k e = record {
    start = ap (λ (o : Summary). o.start) e ∙ sym k;
    labels = ap (λ (o : Summary). o.pauses) e ∙ sym z;
    ending = λ l b. ap (λ (o : Summary). has o.ending l) e ∙ has_empty l ∙ sym (ap (λ (y : Bool). y && (d (only l) p).ends) (no_label l));
    next = ap (λ (o : Summary). o.next) e;
    resumed = λ l b. sym (ap (λ (y : Bool). cond y (d (only l) p) (resumed_from kept l)) (no_label l));
  }
    where
      no_label : (l : ℕ) → has (pauses p) l ≡ false
      no_label l = ap (λ (m : ℕ). has m l) z ∙ has_empty l

only_swap : (l m : ℕ) → has (only l) m ≡ has (only m) l
only_swap l m = go (ℕ_discrete l m)
  where
    go : Dec (l ≡ m) → has (only l) m ≡ has (only m) l
    go (yes e) = rw e
    go (no n) = has_only_other l m n ∙ sym (has_only_other m l (λ e. n (sym e)))

pub sum_pause : (found : Summary) (kept kept' : List Codes) (m at : ℕ) → (found ≡ summary (just_at m) (only m) (only m) at) × Changed (only m) (λ K. just_ended) kept kept'
    → Summarised (placed (pause m) at) found kept kept'
unfolding s d pauses just_ended
sum_pause found kept kept' m at h = record {
  start = ap (λ (o : Summary). o.start) h.0;
  labels = ap (λ (o : Summary). o.pauses) h.0;
  ending = λ l b. ap (λ (o : Summary). has o.ending l) h.0 ∙ ends (has (only m) l) ∙ ap (λ (z : Bool). has (only m) l && (cond z just_ended none).ends) (sym (only_swap l m));
  next = ap (λ (o : Summary). o.next) h.0;
  resumed = λ l b. h.1.each l b ∙ codes (has (only m) l) (resumed_from kept l) ∙ ap (λ (z : Bool). cond (has (only m) l) (cond z just_ended none) (resumed_from kept l)) (sym (only_swap l m));
}
  where
    ends : (z : Bool) → z ≡ (z && (cond z just_ended none).ends)
    ends true = refl
    ends false = refl

    codes : (z : Bool) (K : Codes) → cond z just_ended K ≡ cond z (cond z just_ended none) K
    codes true K = refl
    codes false K = refl

-- ---- Two children, one after the other among the nodes
module _ {p q : Placed} {P Q : Summary} {kept one two : List Codes} (h : Summarised p P kept one) (g : Summarised q Q one two)
    (apart : Apart (pauses p.statement) (pauses q.statement)) where
  abbrev A : ℕ → Codes
  A l = d (only l) p.statement

  abbrev B : ℕ → Codes
  B l = d (only l) q.statement

  abbrev in_a : ℕ → Bool
  in_a l = has (pauses p.statement) l

  abbrev in_b : ℕ → Bool
  in_b l = has (pauses q.statement) l

  both_kept : (l : ℕ) → l < 64 → resumed_from two l ≡ cond (in_a l || in_b l) (join (A l) (B l)) (resumed_from kept l)
  both_kept l b = kept_two (in_a l) (in_b l) (A l) (B l) (apart l) (d_outside l p.statement) (d_outside l q.statement) (resumed_from kept l) (h.resumed l b) (g.resumed l b)

  both_labels : P.pauses union Q.pauses ≡ pauses p.statement union pauses q.statement
  both_labels = ap₂ ◌union◌ h.labels g.labels

  -- without a change of what is kept: f makes the statement, K is its start codes
  pub sum_beside : (found : Summary) (f : Statement → Statement → Statement) {K : Codes}
      → s (f p.statement q.statement) ≡ K
      → ((l : ℕ) → d (only l) (f p.statement q.statement) ≡ join (A l) (B l))
      → pauses (f p.statement q.statement) ≡ pauses p.statement union pauses q.statement
      → found ≡ summary K (P.pauses union Q.pauses) (P.ending union Q.ending) Q.next
      → Summarised (placed (f p.statement q.statement) q.next) found kept two
  sum_beside found f k c n e = record {
    start = ap (λ (o : Summary). o.start) e ∙ sym k;
    labels = ap (λ (o : Summary). o.pauses) e ∙ both_labels ∙ sym n;
    ending = λ l b.
        ap (λ (o : Summary). has o.ending l) e ∙ has_union P.ending Q.ending l ∙ ap₂ ◌||◌ (h.ending l b) (g.ending l b)
        ∙ ends_two (in_a l) (in_b l) (A l) (B l) (apart l) (d_outside l p.statement) (d_outside l q.statement)
        ∙ sym (ap₂ (λ (z : Bool) (D : Codes). z && D.ends) (in_both l) (c l));
    next = ap (λ (o : Summary). o.next) e ∙ g.next;
    resumed = λ l b. both_kept l b ∙ sym (ap₂ (λ (z : Bool) (D : Codes). cond z D (resumed_from kept l)) (in_both l) (c l));
  }
    where
      in_both : (l : ℕ) → has (pauses (f p.statement q.statement)) l ≡ (in_a l || in_b l)
      in_both l = ap (λ (m : ℕ). has m l) n ∙ has_union (pauses p.statement) (pauses q.statement) l

  pub sum_sequence : (found : Summary) (three : List Codes)
      → (found ≡ in_turn P Q) × Follows P.ending Q.start two three
      → Summarised (placed (sequence p.statement q.statement) q.next) found kept three
  unfolding in_turn pauses
  sum_sequence found three (e, c) = record {
    start = ap (λ (o : Summary). o.start) e ∙ ap₂ followed_by h.start g.start ∙ sym (s_followed p.statement q.statement);
    labels = ap (λ (o : Summary). o.pauses) e ∙ both_labels;
    ending = λ l b.
        ap (λ (o : Summary). has o.ending l) e ∙ has_union (cond Q.start.ends P.ending 0) Q.ending l
        ∙ ap₂ ◌||◌ (first_ends l b) (g.ending l b)
        ∙ ends_two (in_a l) (in_b l) (followed_by (A l) S) (B l) (apart l) (λ z. ap (λ (K : Codes). followed_by K S) (d_outside l p.statement z) ∙ none_followed S) (d_outside l q.statement)
        ∙ sym (ap₂ (λ (z : Bool) (D : Codes). z && D.ends) (in_both l) (d_followed (only l) p.statement q.statement));
    next = ap (λ (o : Summary). o.next) e ∙ g.next;
    resumed = λ l b.
        kept_sequence (in_a l) (in_b l) (A l) (B l) S (resumed_from kept l) (apart l) (d_outside l p.statement) (d_outside l q.statement)
        (h.ending l b) (h.resumed l b) (g.resumed l b) (c.each l b ∙ ap (λ (K : Codes). cond (has P.ending l) (join (minus_zero (resumed_from two l)) K) (resumed_from two l)) g.start)
        ∙ sym (ap₂ (λ (z : Bool) (D : Codes). cond z D (resumed_from kept l)) (in_both l) (d_followed (only l) p.statement q.statement));
  }
    where
      S : Codes
      S = s q.statement

      in_both : (l : ℕ) → has (pauses p.statement union pauses q.statement) l ≡ (in_a l || in_b l)
      in_both l = has_union (pauses p.statement) (pauses q.statement) l

      first_ends : (l : ℕ) → l < 64 → has (cond Q.start.ends P.ending 0) l ≡ (in_a l && (followed_by (A l) S).ends)
      first_ends l b =
          has_if Q.start.ends P.ending l
          ∙ ap₂ ◌&&◌ (ap (λ (K : Codes). K.ends) g.start) (h.ending l b) ∙ ends_followed (in_a l) (A l) S

-- ---- One child
module _ {p : Placed} {P : Summary} {kept one : List Codes} (h : Summarised p P kept one) where
  pub sum_signal : (n : ℕ) → Summarised (placed (signal n p.statement) p.next) P kept one
  unfolding s d pauses
  sum_signal n = record { start = h.start; labels = h.labels; ending = h.ending; next = h.next; resumed = h.resumed }

  pub sum_loop : (found : Summary) (two : List Codes)
      → (found ≡ summary (minus_zero P.start) P.pauses 0 P.next) × Follows P.ending (minus_zero P.start) one two
      → Summarised (placed (loop p.statement) p.next) found kept two
  unfolding s pauses
  sum_loop found two (e, c) = record {
    start = ap (λ (o : Summary). o.start) e ∙ ap minus_zero h.start;
    labels = ap (λ (o : Summary). o.pauses) e ∙ h.labels;
    ending = λ l b.
        ap (λ (o : Summary). has o.ending l) e ∙ has_empty l
        ∙ sym (ap (λ (z : Bool). has (pauses p.statement) l && z) (ap (λ (D : Codes). D.ends) (d_looped (only l) p.statement) ∙ never_ends (d (only l) p.statement) (s p.statement))
        ∙ and-false (has (pauses p.statement) l));
    next = ap (λ (o : Summary). o.next) e ∙ h.next;
    resumed = λ l b.
        kept_followed (has (pauses p.statement) l) (d (only l) p.statement) (minus_zero (s p.statement)) (resumed_from kept l) (h.ending l b) (h.resumed l b)
        (c.each l b ∙ ap (λ (K : Codes). cond (has P.ending l) (join (minus_zero (resumed_from one l)) (minus_zero K)) (resumed_from one l)) h.start)
        ∙ sym (ap (λ (D : Codes). cond (has (pauses p.statement) l) D (resumed_from kept l)) (d_looped (only l) p.statement));
  }

  pub sum_try : (found : Summary) (two : List Codes)
      → (found ≡ summary (through_try P.start) P.pauses found.ending P.next) × LoweredEach P.pauses one two found.ending
      → Summarised (placed (try p.statement) p.next) found kept two
  unfolding s d pauses
  sum_try found two (e, c) = record {
    start = ap (λ (o : Summary). o.start) e ∙ ap through_try h.start;
    labels = ap (λ (o : Summary). o.pauses) e ∙ h.labels;
    ending = λ l b. c.ends l b ∙ ap (λ (m : ℕ). has m l && (through_try (resumed_from one l)).ends) h.labels ∙ ends_through (has (pauses p.statement) l) (d (only l) p.statement) (resumed_from kept l) (h.resumed l b);
    next = ap (λ (o : Summary). o.next) e ∙ h.next;
    resumed = λ l b.
        kept_through (has (pauses p.statement) l) (d (only l) p.statement) (resumed_from kept l) (h.resumed l b)
        (c.changed.each l b ∙ ap (λ (m : ℕ). cond (has m l) (through_try (resumed_from one l)) (resumed_from one l)) h.labels);
  }
