-- A part of a program that is trimmed with the flag 0, and has a pause that is reached, has a pause that a gotopause of the
-- program names. By induction on the rounds: nothing starts the part, so the first of its labels that is reached comes from
-- outside it, and what reaches it there is a gotopause, since no two pauses share a label.
use mathlib.Core.Path.{◌≡◌, refl, ap₂, ◌∙◌, subst}
use mathlib.Core.Logic.{◌⊎◌, inl, inr, ⊎_elim, ⊎_map}
use mathlib.Core.Bool.{Bool, true, false, cond, ◌||◌}
use Prim.Native.Nat.{ℕ, zero, suc}
use Rattle.sets.specs.Set.{has, only, ◌union◌, Within, Apart}
use Rattle.sets.proofs.Booleans.{or_left, or_right, or_cases, by_cond, clash, not_true}
use Rattle.sets.proofs.Members.{has_empty, in_left, in_right, in_neither, apart_sym, meet}
use Rattle.esterel.specs.Statement.{Statement, nothing, pause, gotopause, emit, exit, signal, present, sequence, parallel, loop, try, pauses, Valid}
use Rattle.esterel.specs.Codes.{Codes, ended, at, contains, labels, none, just_ended, just_at, just_code, join, minus_zero, through_try, maximum, s, d}
use Rattle.esterel.specs.Reachability.{after_rounds, reach}
use Rattle.esterel.specs.Trimming.{can_end}
use Rattle.esterel.proofs.Codes.{contains_none, contains_join, join_cases, maximum_joins, followed, s_sequence, d_sequence, d_loop}
use Rattle.esterel.proofs.Reachability.{d_mono, in_next_r, reach_first, reach_closed, after_rounds_least}
use Rattle.esterel.proofs.Idle.{idle}

-- the labels that its gotopauses name
unfoldable pub jumps : Statement → ℕ
jumps nothing = 0
jumps (pause l) = 0
jumps (gotopause l) = only l
jumps (emit S) = 0
jumps (exit e) = 0
jumps (signal S p) = jumps p
jumps (present S p q) = jumps p union jumps q
jumps (sequence p q) = jumps p union jumps q
jumps (parallel p q) = jumps p union jumps q
jumps (loop p) = jumps p
jumps (try p) = jumps p

-- ---- Parts
-- a part of the program w, with the flag that it is trimmed with
pub data PartOf (R : ℕ) (w : Statement) : Bool → Statement → Type 0 where
  whole : PartOf R w true w
  declared : {b : Bool} {S : ℕ} {p : Statement} → PartOf R w b (signal S p) → PartOf R w b p
  then_branch : {b : Bool} {S : ℕ} {p q : Statement} → PartOf R w b (present S p q) → PartOf R w b p
  else_branch : {b : Bool} {S : ℕ} {p q : Statement} → PartOf R w b (present S p q) → PartOf R w b q
  first : {b : Bool} {p q : Statement} → PartOf R w b (sequence p q) → PartOf R w b p
  second : {b : Bool} {p q : Statement} → PartOf R w b (sequence p q) → PartOf R w (can_end R b p) q
  left : {b : Bool} {p q : Statement} → PartOf R w b (parallel p q) → PartOf R w b p
  right : {b : Bool} {p q : Statement} → PartOf R w b (parallel p q) → PartOf R w b q
  repeated : {b : Bool} {p : Statement} → PartOf R w b (loop p) → PartOf R w (can_end R b p || b) p
  tried : {b : Bool} {p : Statement} → PartOf R w b (try p) → PartOf R w b p

-- a part of a valid program is valid, and names no label that the program does not name
part_valid : {R : ℕ} {w : Statement} {b : Bool} {p : Statement} (c : ℕ) → Valid c w → (l : ℕ) → has (jumps w) l ≡ false → PartOf R w b p
    → (t : ℕ) × Valid t p × (has (jumps p) l ≡ false)
unfolding jumps Valid
part_valid c v l n whole = (c, v, n)
part_valid c v l n (declared a) = let (t, u, j) = part_valid c v l n a in (t, u.1, j)
part_valid c v l n (then_branch {p = p} {q = q} a) = let (t, u, j) = part_valid c v l n a in (t, u.1, (in_neither (jumps p) (jumps q) l j).0)
part_valid c v l n (else_branch {p = p} {q = q} a) = let (t, u, j) = part_valid c v l n a in (t, u.2, (in_neither (jumps p) (jumps q) l j).1)
part_valid c v l n (first {p = p} {q = q} a) = let (t, u, j) = part_valid c v l n a in (t, u.0, (in_neither (jumps p) (jumps q) l j).0)
part_valid c v l n (second {p = p} {q = q} a) = let (t, u, j) = part_valid c v l n a in (t, u.1, (in_neither (jumps p) (jumps q) l j).1)
part_valid c v l n (left {p = p} {q = q} a) = let (t, u, j) = part_valid c v l n a in (t, u.0, (in_neither (jumps p) (jumps q) l j).0)
part_valid c v l n (right {p = p} {q = q} a) = let (t, u, j) = part_valid c v l n a in (t, u.1, (in_neither (jumps p) (jumps q) l j).1)
part_valid c v l n (repeated a) = part_valid c v l n a
part_valid c v l n (tried a) = let (t, u, j) = part_valid c v l n a in (suc t, u, j)

-- ---- One label among codes
module _ (l : ℕ) where
  -- 1 at l is among the codes
  abbrev Reaches : Codes → Type 0
  Reaches K = contains K (at l) ≡ true

  abbrev Misses : Codes → Type 0
  Misses K = contains K (at l) ≡ false

  -- what it comes from
  followed_cases : (K S : Codes) → Reaches (followed K S) → Reaches K ⊎ ((K.ends ≡ true) × Reaches S)
  unfolding followed contains labels minus_zero
  followed_cases K S h = ⊎_elim inl (go K.ends refl) (join_cases (minus_zero K) (cond K.ends S none) (at l) h)
    where
      go : (b : Bool) → K.ends ≡ b → Reaches (cond b S none) → Reaches K ⊎ ((K.ends ≡ true) × Reaches S)
      go true e u = inr (e, u)
      go false e u = clash u (contains_none (at l))

  join_left : (K K' : Codes) → Misses K' → Reaches (join K K') → Reaches K
  join_left K K' u h = ⊎_elim (λ x. x) (λ x. clash x u) (join_cases K K' (at l) h)

  join_right : (K K' : Codes) → Misses K → Reaches (join K K') → Reaches K'
  join_right K K' u h = ⊎_elim (λ x. clash x u) (λ x. x) (join_cases K K' (at l) h)

  followed_left : (K S : Codes) → Misses S → Reaches (followed K S) → Reaches K
  followed_left K S u h = ⊎_elim (λ x. x) (λ x. clash x.1 u) (followed_cases K S h)

  followed_right : (K S : Codes) → Misses K → Reaches (followed K S) → (K.ends ≡ true) × Reaches S
  followed_right K S u h = ⊎_elim (λ x. clash x u) (λ x. x) (followed_cases K S h)

  -- what it does not come from
  misses_join : (K K' : Codes) → Misses K → Misses K' → Misses (join K K')
  misses_join K K' u v = contains_join K K' (at l) ∙ ap₂ ◌||◌ u v

  misses_followed : (K S : Codes) → Misses K → Misses S → Misses (followed K S)
  misses_followed K S u v = not_true (contains (followed K S) (at l)) (λ h. ⊎_elim (λ x. clash x u) (λ x. clash x.1 v) (followed_cases K S h))

  misses_maximum : (K K' : Codes) → Misses K → Misses K' → Misses (maximum K K')
  misses_maximum K K' u v = not_true (contains (maximum K K') (at l)) (λ h. clash (maximum_joins K K' (at l) h) (misses_join K K' u v))

  -- neither started nor resumed from labels of R the statement reaches l
  abbrev Silent : ℕ → Statement → Type 0
  Silent R p = Misses (s p) × Misses (d R p)

  -- two parts, from the fact about each
  both : (R : ℕ) (p q : Statement) → has (pauses p union pauses q) l ≡ false → has (jumps p union jumps q) l ≡ false
      → (has (pauses p) l ≡ false → has (jumps p) l ≡ false → Silent R p) → (has (pauses q) l ≡ false → has (jumps q) l ≡ false → Silent R q)
      → Silent R p × Silent R q
  both R p q h j f g =
      let (h₁, h₂) = in_neither (pauses p) (pauses q) l h in
      let (j₁, j₂) = in_neither (jumps p) (jumps q) l j in
      (f h₁ j₁, g h₂ j₂)

  -- only a pause or a gotopause with the label l reaches it
  silent : (R : ℕ) (p : Statement) → has (pauses p) l ≡ false → has (jumps p) l ≡ false → Silent R p
  unfolding s d pauses jumps contains labels none just_ended just_at just_code minus_zero through_try
  silent R nothing h j = (has_empty l, has_empty l)
  silent R (pause m) h j = (h, by_cond Misses (has R m) just_ended none (λ e. has_empty l) (λ e. has_empty l))
  silent R (gotopause m) h j = (j, has_empty l)
  silent R (emit S) h j = (has_empty l, has_empty l)
  silent R (exit e) h j = (has_empty l, has_empty l)
  silent R (signal S p) h j = silent R p h j
  silent R (present S p q) h j =
      let ((a, b), (a', b')) = both R p q h j (silent R p) (silent R q) in
      (misses_join (s p) (s q) a a', misses_join (d R p) (d R q) b b')
  silent R (sequence p q) h j =
      let ((a, b), (a', b')) = both R p q h j (silent R p) (silent R q) in
      (rw (s_sequence p q) (misses_followed (s p) (s q) a a'), rw (d_sequence R p q) (misses_join (followed (d R p) (s q)) (d R q) (misses_followed (d R p) (s q) b a') b'))
  silent R (parallel p q) h j =
      let ((a, b), (a', b')) = both R p q h j (silent R p) (silent R q) in
      (misses_maximum (s p) (s q) a a', misses_join (d R p) (d R q) b b')
  silent R (loop p) h j = let (a, b) = silent R p h j in (a, rw (d_loop R p) (misses_followed (d R p) (minus_zero (s p)) b a))
  silent R (try p) h j = silent R p h j

-- ---- Where the label of a pause comes from
module _ (R : ℕ) where
  -- can_end knows of each end: of p resumed from some of R, and of p started where b allows it
  resumed_end : (R' : ℕ) → Within R' R → (b : Bool) (p : Statement) → (d R' p).ends ≡ true → can_end R b p ≡ true
  unfolding can_end contains join
  resumed_end R' f true p h = or_left _ (d_mono R' R p f ended h)
  resumed_end R' f false p h = d_mono R' R p f ended h

  started_end : (b : Bool) (p : Statement) → b ≡ true → (s p).ends ≡ true → can_end R b p ≡ true
  unfolding can_end join
  started_end true p e h = or_right (d R p).ends h
  started_end false p e h = clash e refl

-- the label is reached by resuming p from R', or by starting p where p may be started
abbrev Came : ℕ → ℕ → Bool → Statement → Type 0
Came l R' b p = Reaches l (d R' p) ⊎ ((b ≡ true) × Reaches l (s p))

module _ (R : ℕ) (w : Statement) (c : ℕ) (v : Valid c w) (l R' : ℕ) (f : Within R' R) (n : has (jumps w) l ≡ false) (start : Came l R' true w) where
  -- two parts side by side: the label is that of a pause of one, so the other is silent
  second_silent : (p q : Statement) → Apart (pauses p) (pauses q) → has (jumps p union jumps q) l ≡ false → has (pauses p) l ≡ true → Silent l R' q
  second_silent p q z j h = silent l R' q (z l h) (in_neither (jumps p) (jumps q) l j).1

  first_silent : (p q : Statement) → Apart (pauses p) (pauses q) → has (jumps p union jumps q) l ≡ false → has (pauses q) l ≡ true → Silent l R' p
  first_silent p q z j h = silent l R' p (apart_sym (pauses p) (pauses q) z l h) (in_neither (jumps p) (jumps q) l j).0

  -- so the part that has the pause reaches the label itself
  came : {b : Bool} {p : Statement} → PartOf R w b p → has (pauses p) l ≡ true → Came l R' b p
  unfolding s d pauses jumps Valid contains labels minus_zero through_try
  came whole h = start
  came (declared a) h = came a h
  came (then_branch {p = p} {q = q} a) h =
      let (t, u, j) = part_valid c v l n a in
      let (x, y) = second_silent p q u.3 j h in
      ⊎_map (join_left l (d R' p) (d R' q) y) (λ k. (k.0, join_left l (s p) (s q) x k.1)) (came a (in_left (pauses p) (pauses q) l h))
  came (else_branch {p = p} {q = q} a) h =
      let (t, u, j) = part_valid c v l n a in
      let (x, y) = first_silent p q u.3 j h in
      ⊎_map (join_right l (d R' p) (d R' q) y) (λ k. (k.0, join_right l (s p) (s q) x k.1)) (came a (in_right (pauses p) (pauses q) l h))
  came (first {p = p} {q = q} a) h =
      let (t, u, j) = part_valid c v l n a in
      let (x, y) = second_silent p q u.2 j h in
      ⊎_map (λ k. followed_left l (d R' p) (s q) x (join_left l (followed (d R' p) (s q)) (d R' q) y (subst (Reaches l) (d_sequence R' p q) k)))
      (λ k. (k.0, followed_left l (s p) (s q) x (subst (Reaches l) (s_sequence p q) k.1))) (came a (in_left (pauses p) (pauses q) l h))
  came (second {b = b} {p = p} {q = q} a) h =
      let (t, u, j) = part_valid c v l n a in
      let (x, y) = first_silent p q u.2 j h in
      ⊎_elim (λ k. ⊎_elim (λ i. inr (let (e, m) = followed_right l (d R' p) (s q) y i in (resumed_end R R' f b p e, m))) inl
      (join_cases (followed (d R' p) (s q)) (d R' q) (at l) (subst (Reaches l) (d_sequence R' p q) k)))
      (λ k. inr (let (e, m) = followed_right l (s p) (s q) x (subst (Reaches l) (s_sequence p q) k.1) in (started_end R b p k.0 e, m)))
      (came a (in_right (pauses p) (pauses q) l h))
  came (left {p = p} {q = q} a) h =
      let (t, u, j) = part_valid c v l n a in
      let (x, y) = second_silent p q u.2 j h in
      ⊎_map (join_left l (d R' p) (d R' q) y) (λ k. (k.0, join_left l (s p) (s q) x (maximum_joins (s p) (s q) (at l) k.1))) (came a (in_left (pauses p) (pauses q) l h))
  came (right {p = p} {q = q} a) h =
      let (t, u, j) = part_valid c v l n a in
      let (x, y) = first_silent p q u.2 j h in
      ⊎_map (join_right l (d R' p) (d R' q) y) (λ k. (k.0, join_right l (s p) (s q) x (maximum_joins (s p) (s q) (at l) k.1))) (came a (in_right (pauses p) (pauses q) l h))
  came (repeated {b = b} {p = p} a) h =
      ⊎_elim (λ k. ⊎_elim inl (λ i. inr (or_left _ (resumed_end R R' f b p i.0), i.1)) (followed_cases l (d R' p) (minus_zero (s p)) (subst (Reaches l) (d_loop R' p) k)))
      (λ k. inr (or_right (can_end R b p) k.0, k.1)) (came a h)
  came (tried a) h = came a h

-- ---- A part that is only resumed
-- a gotopause of the program names a pause of the part
abbrev pub Named : Statement → Statement → Type 0
Named w p = (l : ℕ) × (has (pauses p) l ≡ true) × (has (jumps w) l ≡ true)

module _ (w : Statement) (c : ℕ) (v : Valid c w) (p : Statement) (a : PartOf (reach w).set w false p) where
  -- where a label of the part is reached after i rounds
  named_after : (i l : ℕ) → has (after_rounds w i) l ≡ true → has (pauses p) l ≡ true → Named w p
  unfolding after_rounds contains
  named_after zero l h k = clash h (has_empty l)
  named_after (suc i) l h k = go (has (jumps w) l) refl (named_after i)
    where
      reached : Came l (after_rounds w i) true w
      reached = ⊎_elim (λ x. inr (refl, x)) inl (or_cases (has (labels (s w)) l) (has (labels (d (after_rounds w i) w)) l) (in_next_r w (after_rounds w i) l h).1)

      -- p is not started, so it was resumed, from a label that an earlier round reached
      resumed : has (jumps w) l ≡ false → Reaches l (d (after_rounds w i) p)
      resumed n =
          ⊎_elim (λ x. x) (λ x. clash x.0 refl)
          (came (reach w).set w c v l (after_rounds w i) (after_rounds_least w (reach w).set (reach_closed w) i) n reached a k)

      go : (z : Bool) → has (jumps w) l ≡ z → ((m : ℕ) → has (after_rounds w i) m ≡ true → has (pauses p) m ≡ true → Named w p) → Named w p
      go true e ih = (l, k, e)
      go false e ih =
          ⊎_elim (λ m. ih m.0 m.1 m.2)
          (λ z. clash (subst (Reaches l) (idle (after_rounds w i) p z).1 (resumed e)) (contains_none (at l))) (meet (after_rounds w i) (pauses p))

  -- where it is reached at all
  pub named : (l : ℕ) → has (reach w).set l ≡ true → has (pauses p) l ≡ true → Named w p
  named l h k = let (m, e, f) = reach_first w in named_after m l (rw e at h) k
