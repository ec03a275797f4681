-- The code of a reaction is in s of a started statement, and in d of one resumed from labels of R (what the paper's Lemmas 2, 5
-- and 7 give for the rules with signals). By induction on the rules, with one law for each operation on code sets.
use mathlib.Core.Path.{◌≡◌, refl, sym, ap, ◌∙◌, subst}
use mathlib.Core.Logic.{◌≢◌, ◌⊎◌, inl, inr}
use mathlib.Core.Bool.{Bool, true, false, cond}
use Prim.Native.Nat.{ℕ, zero, suc, ◌≤◌, max}
use native.Mathlib.Decide.{dec_le, ℕ_discrete}
use native.Mathlib.Omega.{arith}
use Rattle.sets.specs.Set.{has, only, ◌union◌}
use Rattle.sets.proofs.Booleans.{or_left, or_right, or_cases, clash, eqb_differ}
use Rattle.sets.proofs.Members.{has_empty, has_union, has_only}
use Rattle.esterel.specs.Statement.{Statement, nothing, pause, gotopause, emit, exit, signal, present, sequence, parallel, loop, try, pauses}
use Rattle.esterel.specs.Codes.{Codes, Qualified, ended, at, above, plain, code_of, through, through_qualified, contains, labels, none, just_ended, just_at, just_code, join, minus_zero, through_try, maximum, s, d}
use Rattle.esterel.specs.Trimming.{can_end}
use Rattle.esterel.specs.Reactions.{State, start, resumed, reached_together, Derives}
use Rattle.esterel.specs.Reactions as rule
use Rattle.esterel.proofs.Premises.{LevelsFromOne}
use Rattle.esterel.proofs.Codes.{contains_left, contains_right, contains_through_try⁺, contains_maximum⁺, maximum_joins, followed, s_sequence, d_sequence, d_loop}

-- a derivation of a reaction, as one of another that is equal
pub recast : {p : Statement} {x : State} {E O k L O' k' L' : ℕ} → O ≡ O' → k ≡ k' → L ≡ L' → Derives p x E O' k' L' → Derives p x E O k L
recast a b c h = rw (a, b, c) h

-- ---- "L is empty wherever k is not 1"
pub reached_together_other : (k L M : ℕ) → k ≢ 1 → reached_together k L M ≡ 0
unfolding reached_together
reached_together_other k L M h = ap (λ b. cond b (L union M) 0) (eqb_differ k 1 h)

pub reached_empty : {p : Statement} {x : State} {E O k L : ℕ} → Derives p x E O k L → k ≢ 1 → L ≡ 0
unfolding through
reached_empty (rule.nothing a b c) n = c
reached_empty (rule.pause a b c) n = absurd (n b)
reached_empty (rule.emit h a b c) n = c
reached_empty (rule.resume h a b c) n = c
reached_empty (rule.goto a b c) n = absurd (n b)
reached_empty (rule.exit a b c) n = c
reached_empty (rule.try k₁ r e) n = reached_empty r (λ h. n (e ∙ ap through h))
reached_empty (rule.no_loop r h) n = reached_empty r n
reached_empty (rule.seq O₁ O₂ a b e) n = reached_empty b n
reached_empty (rule.seq_left r h) n = reached_empty r n
reached_empty (rule.seq_right r) n = reached_empty r n
reached_empty (rule.signal+ O₁ r h e) n = reached_empty r n
reached_empty (rule.signal- r) n = reached_empty r n
reached_empty (rule.present h r) n = reached_empty r n
reached_empty (rule.absent h r) n = reached_empty r n
reached_empty (rule.present_left r) n = reached_empty r n
reached_empty (rule.present_right r) n = reached_empty r n
reached_empty (rule.loop O₁ O₂ a b h e) n = reached_empty b n
reached_empty (rule.par_left r h) n = reached_empty r n
reached_empty (rule.par_right r h) n = reached_empty r n
reached_empty {k = k} (rule.par O₁ k₁ L₁ O₂ k₂ L₂ a b e f g) n = g ∙ reached_together_other k L₁ L₂ n

-- ---- A code with the labels reached, among the codes K
abbrev pub Among : Codes → ℕ → ℕ → Type 0
Among K zero L = K.ends ≡ true
Among K (suc zero) L = ((l : ℕ) × (has L l ≡ true)) × ((l : ℕ) → has L l ≡ true → has (labels K) l ≡ true)
Among K (suc (suc n)) L = has K.higher (suc (suc n)) ≡ true

pub among_mono : (K K' : Codes) (k L : ℕ) → ((q : Qualified) → contains K q ≡ true → contains K' q ≡ true) → Among K k L → Among K' k L
unfolding contains
among_mono K K' zero L f h = f ended h
among_mono K K' (suc zero) L f h = (h.0, λ l u. f (at l) (h.1 l u))
among_mono K K' (suc (suc n)) L f h = f (above n) h

pub among_left : (K K' : Codes) (k L : ℕ) → Among K k L → Among (join K K') k L
among_left K K' k L h = among_mono K (join K K') k L (contains_left K K') h

pub among_right : (K K' : Codes) (k L : ℕ) → Among K' k L → Among (join K K') k L
among_right K K' k L h = among_mono K' (join K K') k L (contains_right K K') h

pub among_minus_zero : (K : Codes) (k L : ℕ) → k ≢ 0 → Among K k L → Among (minus_zero K) k L
unfolding minus_zero labels
among_minus_zero K zero L n h = absurd (n refl)
among_minus_zero K (suc zero) L n h = h
among_minus_zero K (suc (suc k)) L n h = h

pub among_through_try : (K : Codes) (k L : ℕ) → Among K k L → Among (through_try K) (through k) L
unfolding through through_qualified contains through_try labels
among_through_try K zero L h = contains_through_try⁺ K ended h
among_through_try K (suc zero) L h = h
among_through_try K (suc (suc zero)) L h = contains_through_try⁺ K (above 0) h
among_through_try K (suc (suc (suc n))) L h = contains_through_try⁺ K (above (suc n)) h

pub among_followed_left : (K S : Codes) (k L : ℕ) → k ≢ 0 → Among K k L → Among (followed K S) k L
unfolding followed
among_followed_left K S k L n h = among_left (minus_zero K) (cond K.ends S none) k L (among_minus_zero K k L n h)

pub among_followed_right : (K S : Codes) (k L : ℕ) → K.ends ≡ true → Among S k L → Among (followed K S) k L
unfolding followed
among_followed_right K S k L e h =
    among_right (minus_zero K) (cond K.ends S none) k L (subst (λ b. Among (cond b S none) k L) (sym e) h)

-- the qualified codes of a code with the labels reached
abbrev Of : ℕ → ℕ → Qualified → Type 0
Of k L ended = k ≡ 0
Of k L (at l) = (k ≡ 1) × (has L l ≡ true)
Of k L (above n) = k ≡ suc (suc n)

of_plain : (k L : ℕ) (q : Qualified) → Of k L q → plain q ≡ k
unfolding plain
of_plain k L ended o = sym o
of_plain k L (at l) o = sym o.0
of_plain k L (above n) o = sym o

among⁻ : (K : Codes) (k L : ℕ) → Among K k L → (q : Qualified) → Of k L q → contains K q ≡ true
unfolding contains
among⁻ K k L h ended o = subst (λ (z : ℕ). Among K z L) o h
among⁻ K k L h (at l) o = let i : Among K 1 L = subst (λ (z : ℕ). Among K z L) o.0 h in i.1 l o.1
among⁻ K k L h (above n) o = subst (λ (z : ℕ). Among K z L) o h

among_some : (K : Codes) (k L : ℕ) → Among K k L → (q : Qualified) × Of k L q
among_some K zero L h = (ended, refl)
among_some K (suc zero) L h = (at h.0.0, (refl, h.0.1))
among_some K (suc (suc n)) L h = (above n, refl)

among⁺ : (K : Codes) (k L : ℕ) → (q : Qualified) × Of k L q → ((q : Qualified) → Of k L q → contains K q ≡ true) → Among K k L
unfolding contains
among⁺ K zero L i f = f ended refl
among⁺ K (suc zero) L (ended, o) f = absurd (omega arith)
among⁺ K (suc zero) L (at l, o) f = ((l, o.1), λ m h. f (at m) (refl, h))
among⁺ K (suc zero) L (above n, o) f = absurd (omega arith)
among⁺ K (suc (suc n)) L i f = f (above n) refl

-- those of a parallel's reaction are those of its parts that have its code
of_together⁺ : (n k L m M : ℕ) (q : Qualified) → plain q ≡ n → Of k L q ⊎ Of m M q → Of n (reached_together n L M) q
unfolding plain reached_together
of_together⁺ n k L m M ended e o = sym e
of_together⁺ n k L m M (at l) e (inl o) = (sym e, rw (← e) (has_union L M l ∙ or_left _ o.1))
of_together⁺ n k L m M (at l) e (inr o) = (sym e, rw (← e) (has_union L M l ∙ or_right (has L l) o.1))
of_together⁺ n k L m M (above j) e o = sym e

of_together⁻ : (n k L m M : ℕ) → n ≡ max k m → (k ≢ 1 → L ≡ 0) → (m ≢ 1 → M ≡ 0) → (q : Qualified) → Of n (reached_together n L M) q
    → Of k L q ⊎ Of m M q
unfolding reached_together
of_together⁻ n k L m M e f g ended o = inl (omega arith)
of_together⁻ n k L m M e f g (at l) o = go (or_cases (has L l) (has M l) (sym (has_union L M l) ∙ (rw o.0 at o.1)))
  where
    one : (k L : ℕ) → (k ≢ 1 → L ≡ 0) → has L l ≡ true → Dec (k ≡ 1) → k ≡ 1
    one k L f h (yes i) = i
    one k L f h (no i) = clash h (ap (λ (z : ℕ). has z l) (f i) ∙ has_empty l)

    go : (has L l ≡ true) ⊎ (has M l ≡ true) → Of k L (at l) ⊎ Of m M (at l)
    go (inl h) = inl (one k L f h (ℕ_discrete k 1), h)
    go (inr h) = inr (one m M g h (ℕ_discrete m 1), h)
of_together⁻ n k L m M e f g (above j) o = go (dec_le k m)
  where
    go : Dec (k ≤ m) → Of k L (above j) ⊎ Of m M (above j)
    go (yes i) = inr (omega arith)
    go (no i) = inl (omega arith)

pub among_maximum : (K K' : Codes) (n k L m M : ℕ) → n ≡ max k m → (k ≢ 1 → L ≡ 0) → (m ≢ 1 → M ≡ 0) → Among K k L → Among K' m M
    → Among (maximum K K') n (reached_together n L M)
among_maximum K K' n k L m M e f g a b =
    let (q₁, o₁) = among_some K k L a in
    let (q₂, o₂) = among_some K' m M b in
    among⁺ (maximum K K') n (reached_together n L M) (highest (dec_le k m) q₁ o₁ q₂ o₂)
    (λ q o. every q₁ o₁ q₂ o₂ q (of_plain n (reached_together n L M) q o) (of_together⁻ n k L m M e f g q o))
  where
    highest : Dec (k ≤ m) → (q₁ : Qualified) → Of k L q₁ → (q₂ : Qualified) → Of m M q₂ → (q : Qualified) × Of n (reached_together n L M) q
    highest (yes i) q₁ o₁ q₂ o₂ = let j = of_plain m M q₂ o₂ in (q₂, of_together⁺ n k L m M q₂ (omega arith) (inr o₂))
    highest (no i) q₁ o₁ q₂ o₂ = let j = of_plain k L q₁ o₁ in (q₁, of_together⁺ n k L m M q₁ (omega arith) (inl o₁))

    every : (q₁ : Qualified) → Of k L q₁ → (q₂ : Qualified) → Of m M q₂ → (q : Qualified) → plain q ≡ n → Of k L q ⊎ Of m M q
        → contains (maximum K K') q ≡ true
    every q₁ o₁ q₂ o₂ q h (inl o) =
        let j = of_plain m M q₂ o₂ in
        contains_maximum⁺ K K' q (inl (among⁻ K k L a q o, (q₂, omega arith, among⁻ K' m M b q₂ o₂)))
    every q₁ o₁ q₂ o₂ q h (inr o) =
        let j = of_plain k L q₁ o₁ in
        contains_maximum⁺ K K' q (inr (among⁻ K' m M b q o, (q₁, omega arith, among⁻ K k L a q₁ o₁)))

-- ---- Started
among_ended : (K : Codes) (k L : ℕ) → K.ends ≡ true → k ≡ 0 → Among K k L
among_ended K k L h e = rw e h

among_just_at : (l k L : ℕ) → k ≡ 1 → L ≡ only l → Among (just_at l) k L
unfolding labels just_at
among_just_at l k L e f = rw (e, f) ((l, has_only l), λ m h. h)

among_just_code : (n k L : ℕ) → 1 ≤ n → k ≡ code_of n → Among (just_code (code_of n)) k L
unfolding code_of just_code
among_just_code zero k L h e = absurd (omega arith)
among_just_code (suc n) k L h e = rw e (has_only (suc (suc n)))

pub sound_start : (p : Statement) → LevelsFromOne p → {E O k L : ℕ} → Derives p start E O k L → Among (s p) k L
unfolding s LevelsFromOne
sound_start nothing w {k = k} {L = L} (rule.nothing a b c) = among_ended just_ended k L (unfold just_ended in refl) b
sound_start (pause l) w {k = k} {L = L} (rule.pause a b c) = among_just_at l k L b c
sound_start (gotopause l) w {k = k} {L = L} (rule.goto a b c) = among_just_at l k L b c
sound_start (emit S) w {k = k} {L = L} (rule.emit h a b c) = among_ended just_ended k L (unfold just_ended in refl) b
sound_start (exit n) w {k = k} {L = L} (rule.exit a b c) = among_just_code n k L w b
sound_start (signal S p) w (rule.signal+ O₁ r h e) = sound_start p w r
sound_start (signal S p) w (rule.signal- r) = sound_start p w r
sound_start (present S p q) w {k = k} {L = L} (rule.present h r) = among_left (s p) (s q) k L (sound_start p w.0 r)
sound_start (present S p q) w {k = k} {L = L} (rule.absent h r) = among_right (s p) (s q) k L (sound_start q w.1 r)
sound_start (sequence p q) w {k = k} {L = L} (rule.seq O₁ O₂ a b e) =
    subst (λ K. Among K k L) (sym (s_sequence p q)) (among_followed_right (s p) (s q) k L (sound_start p w.0 a) (sound_start q w.1 b))
sound_start (sequence p q) w {k = k} {L = L} (rule.seq_left r h) =
    subst (λ K. Among K k L) (sym (s_sequence p q)) (among_followed_left (s p) (s q) k L h (sound_start p w.0 r))
sound_start (parallel p q) w {k = k} (rule.par O₁ k₁ L₁ O₂ k₂ L₂ a b e f g) =
    subst (λ (z : ℕ). Among (maximum (s p) (s q)) k z) (sym g)
    (among_maximum (s p) (s q) k k₁ L₁ k₂ L₂ f (reached_empty a) (reached_empty b) (sound_start p w.0 a) (sound_start q w.1 b))
sound_start (loop p) w {k = k} {L = L} (rule.no_loop r h) = among_minus_zero (s p) k L h (sound_start p w r)
sound_start (try p) w {L = L} (rule.try k₁ r e) =
    subst (λ (z : ℕ). Among (through_try (s p)) z L) (sym e) (among_through_try (s p) k₁ L (sound_start p w r))

-- ---- Resumed

-- what X and a have in common is in R
abbrev pub MeetIn : ℕ → ℕ → ℕ → Type 0
MeetIn R X a = (l : ℕ) → has X l ≡ true → has a l ≡ true → has R l ≡ true

pub meet_left : (R X a b : ℕ) → MeetIn R X (a union b) → MeetIn R X a
meet_left R X a b v l h k = v l h (has_union a b l ∙ or_left _ k)

pub meet_right : (R X a b : ℕ) → MeetIn R X (a union b) → MeetIn R X b
meet_right R X a b v l h k = v l h (has_union a b l ∙ or_right (has a l) k)

pub sound_resumed : (R : ℕ) (p : Statement) (X : ℕ) → LevelsFromOne p → MeetIn R X (pauses p) → {E O k L : ℕ}
    → Derives p (resumed X) E O k L → Among (d R p) k L
unfolding d pauses LevelsFromOne
sound_resumed R (pause l) X w v {k = k} {L = L} (rule.resume h a b c) =
    subst (λ z. Among (cond z just_ended none) k L) (sym (v l h (has_only l))) (among_ended just_ended k L (unfold just_ended in refl) b)
sound_resumed R (signal S p) X w v (rule.signal+ O₁ r h e) = sound_resumed R p X w v r
sound_resumed R (signal S p) X w v (rule.signal- r) = sound_resumed R p X w v r
sound_resumed R (present S p q) X w v {k = k} {L = L} (rule.present_left r) =
    among_left (d R p) (d R q) k L (sound_resumed R p X w.0 (meet_left R X (pauses p) (pauses q) v) r)
sound_resumed R (present S p q) X w v {k = k} {L = L} (rule.present_right r) =
    among_right (d R p) (d R q) k L (sound_resumed R q X w.1 (meet_right R X (pauses p) (pauses q) v) r)
sound_resumed R (sequence p q) X w v {k = k} {L = L} (rule.seq O₁ O₂ a b e) =
    subst (λ K. Among K k L) (sym (d_sequence R p q))
    (among_left (followed (d R p) (s q)) (d R q) k L
    (among_followed_right (d R p) (s q) k L (sound_resumed R p X w.0 (meet_left R X (pauses p) (pauses q) v) a) (sound_start q w.1 b)))
sound_resumed R (sequence p q) X w v {k = k} {L = L} (rule.seq_left r h) =
    subst (λ K. Among K k L) (sym (d_sequence R p q))
    (among_left (followed (d R p) (s q)) (d R q) k L
    (among_followed_left (d R p) (s q) k L h (sound_resumed R p X w.0 (meet_left R X (pauses p) (pauses q) v) r)))
sound_resumed R (sequence p q) X w v {k = k} {L = L} (rule.seq_right r) =
    subst (λ K. Among K k L) (sym (d_sequence R p q))
    (among_right (followed (d R p) (s q)) (d R q) k L (sound_resumed R q X w.1 (meet_right R X (pauses p) (pauses q) v) r))
sound_resumed R (parallel p q) X w v {k = k} {L = L} (rule.par_left r h) =
    among_left (d R p) (d R q) k L (sound_resumed R p X w.0 (meet_left R X (pauses p) (pauses q) v) r)
sound_resumed R (parallel p q) X w v {k = k} {L = L} (rule.par_right r h) =
    among_right (d R p) (d R q) k L (sound_resumed R q X w.1 (meet_right R X (pauses p) (pauses q) v) r)
sound_resumed R (parallel p q) X w v {k = k} {L = L} (rule.par O₁ k₁ L₁ O₂ k₂ L₂ a b e f g) =
    among_mono (maximum (d R p) (d R q)) (join (d R p) (d R q)) k L (maximum_joins (d R p) (d R q))
    (subst (λ (z : ℕ). Among (maximum (d R p) (d R q)) k z) (sym g)
    (among_maximum (d R p) (d R q) k k₁ L₁ k₂ L₂ f (reached_empty a) (reached_empty b)
    (sound_resumed R p X w.0 (meet_left R X (pauses p) (pauses q) v) a) (sound_resumed R q X w.1 (meet_right R X (pauses p) (pauses q) v) b)))
sound_resumed R (loop p) X w v {k = k} {L = L} (rule.no_loop r h) =
    subst (λ K. Among K k L) (sym (d_loop R p)) (among_followed_left (d R p) (minus_zero (s p)) k L h (sound_resumed R p X w v r))
sound_resumed R (loop p) X w v {k = k} {L = L} (rule.loop O₁ O₂ a b h e) =
    subst (λ K. Among K k L) (sym (d_loop R p))
    (among_followed_right (d R p) (minus_zero (s p)) k L (sound_resumed R p X w v a) (among_minus_zero (s p) k L h (sound_start p w b)))
sound_resumed R (try p) X w v {L = L} (rule.try k₁ r e) =
    subst (λ (z : ℕ). Among (through_try (d R p)) z L) (sym e) (among_through_try (d R p) k₁ L (sound_resumed R p X w v r))
sound_resumed R nothing X w v {E = E} {O = O} {k = k} {L = L} x3 = elim x3 [ ]
sound_resumed R (gotopause _) X w v {E = E} {O = O} {k = k} {L = L} x5 = elim x5 [ ]
sound_resumed R (emit _) X w v {E = E} {O = O} {k = k} {L = L} x6 = elim x6 [ ]
sound_resumed R (exit _) X w v {E = E} {O = O} {k = k} {L = L} x7 = elim x7 [ ]

-- ---- Either state

-- R and the flag b of trimming allow the state: b is 1 at the start, and a resumed state has no label of a pause of p outside R
abbrev pub Allowed : ℕ → Bool → Statement → State → Type 0
Allowed R b p start = b ≡ true
Allowed R b p (resumed X) = MeetIn R X (pauses p)

-- where a reaction ends, 0 is in C
pub sound_ends : (R : ℕ) (b : Bool) (p : Statement) (x : State) → LevelsFromOne p → Allowed R b p x → {E O L : ℕ}
    → Derives p x E O 0 L → can_end R b p ≡ true
unfolding can_end
sound_ends R true p start w v {L = L} r = among_right (d R p) (s p) 0 L (sound_start p w r)
sound_ends R false p start w v r = clash v refl
sound_ends R true p (resumed X) w v {L = L} r = among_left (d R p) (s p) 0 L (sound_resumed R p X w v r)
sound_ends R false p (resumed X) w v r = sound_resumed R p X w v r
