-- The exits of a statement bound its codes: with levels from 1 on, no code set has a stray bit below 2; and a statement whose
-- exits all end at tries inside it, as that of a whole table, completes with 0 or 1 alone.
use mathlib.Core.Path.{◌≡◌, refl, sym, ◌∙◌, subst}
use mathlib.Core.Logic.{◌↔◌, ◌⊎◌, inl, inr}
use mathlib.Core.Bool.{true, cond}
use Prim.Native.Nat.{ℕ, zero, suc, ◌≤◌}
use native.Mathlib.Omega.{arith}
use Rattle.sets.specs.Set.{has}
use Rattle.sets.proofs.Booleans.{or_cases, by_cond, clash}
use Rattle.sets.proofs.Members.{within_ext, has_empty, has_union, has_only_equal}
use Rattle.esterel.specs.Statement.{Statement, nothing, pause, gotopause, emit, exit, signal, present, sequence, parallel, loop, try, Valid}
use Rattle.esterel.specs.Codes.{Codes, Qualified, code_of, contains, none, just_ended, just_at, just_code, join, minus_zero, through_try, no_lower_than, maximum, s, d}
use Rattle.esterel.specs.Reactions.{State, start, resumed, Derives}
use Rattle.esterel.proofs.Premises.{ExitsWithin, LevelsFromOne}
use Rattle.esterel.proofs.Codes.{EachHigher, FromTwo, Maximal, contains_maximum, no_lower_than_higher, has_lowered, lowered_low, followed, s_sequence, d_sequence, d_loop}
use Rattle.esterel.proofs.Soundness.{Among, sound_start, sound_resumed}

-- ---- Exits of a valid statement
pub valid_exits : (tries : ℕ) (p : Statement) → Valid tries p → ExitsWithin tries p
unfolding Valid ExitsWithin
valid_exits c nothing v = tt
valid_exits c (pause l) v = tt
valid_exits c (gotopause l) v = tt
valid_exits c (emit S) v = tt
valid_exits c (exit e) v = v.2
valid_exits c (signal S p) v = valid_exits c p v.1
valid_exits c (present S p q) v = (valid_exits c p v.1, valid_exits c q v.2)
valid_exits c (sequence p q) v = (valid_exits c p v.0, valid_exits c q v.1)
valid_exits c (parallel p q) v = (valid_exits c p v.0, valid_exits c q v.1)
valid_exits c (loop p) v = valid_exits c p v
valid_exits c (try p) v = valid_exits (suc c) p v

-- ---- A property of the higher codes

-- every higher code of the statement, started or resumed, has the property P
abbrev pub EachCode : (ℕ → Type 0) → Statement → Type 0
EachCode P p = EachHigher P (s p) × ((R : ℕ) → EachHigher P (d R p))

module _ (P : ℕ → Type 0) where
  each_empty : (K : Codes) → K.higher ≡ 0 → EachHigher P K
  each_empty K e k h = clash (subst (λ (m : ℕ). has m k ≡ true) e h) (has_empty k)

  each_join : (K K' : Codes) → EachHigher P K → EachHigher P K' → EachHigher P (join K K')
  unfolding join
  each_join K K' f g k h = go (or_cases (has K.higher k) (has K'.higher k) (sym (has_union K.higher K'.higher k) ∙ h))
    where
      go : (has K.higher k ≡ true) ⊎ (has K'.higher k ≡ true) → P k
      go (inl u) = f k u
      go (inr u) = g k u

  each_maximum : (K K' : Codes) → EachHigher P K → EachHigher P K' → EachHigher P (maximum K K')
  unfolding maximum
  each_maximum K K' f g =
      each_join (no_lower_than K K') (no_lower_than K' K) (λ k h. f k (no_lower_than_higher K K' k h)) (λ k h. g k (no_lower_than_higher K' K k h))

  each_followed : (K S : Codes) → EachHigher P K → EachHigher P S → EachHigher P (followed K S)
  unfolding followed minus_zero none
  each_followed K S f g =
      each_join (minus_zero K) (cond K.ends S none) f (by_cond (EachHigher P) K.ends S none (λ e. g) (λ e. each_empty none refl))

  each_nothing : EachCode P nothing
  unfolding s d none just_ended
  each_nothing = (each_empty just_ended refl, λ R. each_empty none refl)

  each_pause : (l : ℕ) → EachCode P (pause l)
  unfolding s d none just_ended just_at
  each_pause l =
      (each_empty (just_at l) refl, λ R. by_cond (EachHigher P) (has R l) just_ended none (λ e. each_empty just_ended refl) (λ e. each_empty none refl))

  each_gotopause : (l : ℕ) → EachCode P (gotopause l)
  unfolding s d none just_at
  each_gotopause l = (each_empty (just_at l) refl, λ R. each_empty none refl)

  each_emit : (S : ℕ) → EachCode P (emit S)
  unfolding s d none just_ended
  each_emit S = (each_empty just_ended refl, λ R. each_empty none refl)

  each_exit : (e : ℕ) → P (code_of e) → EachCode P (exit e)
  unfolding s d none just_code
  each_exit e i = (λ k h. subst P (has_only_equal (code_of e) k h) i, λ R. each_empty none refl)

  each_signal : (S : ℕ) (p : Statement) → EachCode P p → EachCode P (signal S p)
  unfolding s d
  each_signal S p f = f

  each_present : (S : ℕ) (p q : Statement) → EachCode P p → EachCode P q → EachCode P (present S p q)
  unfolding s d
  each_present S p q f g = (each_join (s p) (s q) f.0 g.0, λ R. each_join (d R p) (d R q) (f.1 R) (g.1 R))

  each_sequence : (p q : Statement) → EachCode P p → EachCode P q → EachCode P (sequence p q)
  each_sequence p q f g = (
    rw (s_sequence p q) (each_followed (s p) (s q) f.0 g.0),
    λ R. rw (d_sequence R p q) (each_join (followed (d R p) (s q)) (d R q) (each_followed (d R p) (s q) (f.1 R) g.0) (g.1 R)),
  )

  each_parallel : (p q : Statement) → EachCode P p → EachCode P q → EachCode P (parallel p q)
  unfolding s d
  each_parallel p q f g = (each_maximum (s p) (s q) f.0 g.0, λ R. each_join (d R p) (d R q) (f.1 R) (g.1 R))

  each_loop : (p : Statement) → EachCode P p → EachCode P (loop p)
  unfolding s minus_zero
  each_loop p f = (f.0, λ R. rw (d_loop R p) (each_followed (d R p) (minus_zero (s p)) (f.1 R) f.0))

  -- a try lowers each code above 2
  each_through_try : (Q : ℕ → Type 0) (K : Codes) → ((k : ℕ) → 2 ≤ k → P (suc k) → Q k) → EachHigher P K → EachHigher Q (through_try K)
  unfolding through_try
  each_through_try Q K i f zero h = clash h (lowered_low K.higher 0 (omega arith))
  each_through_try Q K i f (suc zero) h = clash h (lowered_low K.higher 1 (omega arith))
  each_through_try Q K i f (suc (suc n)) h = i (suc (suc n)) (omega arith) (f (suc (suc (suc n))) (sym (has_lowered K.higher n) ∙ h))

  each_try : (Q : ℕ → Type 0) (p : Statement) → ((k : ℕ) → 2 ≤ k → P (suc k) → Q k) → EachCode P p → EachCode Q (try p)
  unfolding s d
  each_try Q p i f = (each_through_try Q (s p) i f.0, λ R. each_through_try Q (d R p) i (f.1 R))

-- ---- No stray bits
abbrev AtLeastTwo : ℕ → Type 0
AtLeastTwo k = 2 ≤ k

pub codes_from_two : (p : Statement) → LevelsFromOne p → EachCode (λ k. 2 ≤ k) p
unfolding LevelsFromOne code_of
codes_from_two nothing w = each_nothing AtLeastTwo
codes_from_two (pause l) w = each_pause AtLeastTwo l
codes_from_two (gotopause l) w = each_gotopause AtLeastTwo l
codes_from_two (emit S) w = each_emit AtLeastTwo S
codes_from_two (exit e) w = each_exit AtLeastTwo e (omega arith)
codes_from_two (signal S p) w = each_signal AtLeastTwo S p (codes_from_two p w)
codes_from_two (present S p q) w = each_present AtLeastTwo S p q (codes_from_two p w.0) (codes_from_two q w.1)
codes_from_two (sequence p q) w = each_sequence AtLeastTwo p q (codes_from_two p w.0) (codes_from_two q w.1)
codes_from_two (parallel p q) w = each_parallel AtLeastTwo p q (codes_from_two p w.0) (codes_from_two q w.1)
codes_from_two (loop p) w = each_loop AtLeastTwo p (codes_from_two p w)
codes_from_two (try p) w = each_try AtLeastTwo AtLeastTwo p (λ k i j. i) (codes_from_two p w)

-- Figure 5 at a parallel, code by code
pub contains_s_parallel : (p q : Statement) → LevelsFromOne p → LevelsFromOne q → (k : Qualified)
    → contains (s (parallel p q)) k ≡ true ↔ Maximal (s p) (s q) k
unfolding s
contains_s_parallel p q v w k = contains_maximum (s p) (s q) k (codes_from_two p v).0 (codes_from_two q w).0

-- ---- No codes beyond the tries around
abbrev UpTo : ℕ → ℕ → Type 0
UpTo c k = k ≤ code_of c

pub codes_within : (c : ℕ) (p : Statement) → ExitsWithin c p → EachCode (λ k. k ≤ suc c) p
unfolding ExitsWithin code_of
codes_within c nothing w = each_nothing (UpTo c)
codes_within c (pause l) w = each_pause (UpTo c) l
codes_within c (gotopause l) w = each_gotopause (UpTo c) l
codes_within c (emit S) w = each_emit (UpTo c) S
codes_within c (exit e) w = each_exit (UpTo c) e (omega arith)
codes_within c (signal S p) w = each_signal (UpTo c) S p (codes_within c p w)
codes_within c (present S p q) w = each_present (UpTo c) S p q (codes_within c p w.0) (codes_within c q w.1)
codes_within c (sequence p q) w = each_sequence (UpTo c) p q (codes_within c p w.0) (codes_within c q w.1)
codes_within c (parallel p q) w = each_parallel (UpTo c) p q (codes_within c p w.0) (codes_within c q w.1)
codes_within c (loop p) w = each_loop (UpTo c) p (codes_within c p w)
codes_within c (try p) w = each_try (UpTo (suc c)) (UpTo c) p (λ k i j. omega arith) (codes_within (suc c) p w)

-- "a whole table has no higher code"
pub no_higher : (p : Statement) → LevelsFromOne p → ExitsWithin 0 p → ((s p).higher ≡ 0) × ((R : ℕ) → (d R p).higher ≡ 0)
no_higher p v w = (empty (s p) (codes_from_two p v).0 (codes_within 0 p w).0, λ R. empty (d R p) ((codes_from_two p v).1 R) ((codes_within 0 p w).1 R))
  where
    empty : (K : Codes) → FromTwo K → EachHigher (λ k. k ≤ 1) K → K.higher ≡ 0
    empty K f g = within_ext K.higher 0 (λ k h. absurd (let i = f k h in let j = g k h in omega arith)) (λ k h. clash h (has_empty k))

-- and so no reaction of one
among_within : (c : ℕ) (K : Codes) (k L : ℕ) → EachHigher (λ k. k ≤ suc c) K → Among K k L → k ≤ suc c
among_within c K zero L f h = omega arith
among_within c K (suc zero) L f h = omega arith
among_within c K (suc (suc n)) L f h = f (suc (suc n)) h

pub code_within : (c : ℕ) (p : Statement) (x : State) → LevelsFromOne p → ExitsWithin c p → {E O k L : ℕ} → Derives p x E O k L → k ≤ suc c
code_within c p start v w {k = k} {L = L} r = among_within c (s p) k L (codes_within c p w).0 (sound_start p v r)
code_within c p (resumed X) v w {k = k} {L = L} r =
    among_within c (d X p) k L ((codes_within c p w).1 X) (sound_resumed X p X v (λ l h i. h) r)
