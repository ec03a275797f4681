-- The rounds: d joins as its label sets do (the paper's Lemma 8), so R grows, stays among the pauses, and rests before the
-- rounds outnumber the pauses; R at rest is closed. The rounds of reach are counted up to the first rest.
use mathlib.Core.Path.{◌≡◌, sym, ap, ap₂, ◌∙◌, subst}
use mathlib.Core.Logic.{◌≢◌, ◌⊎◌, inl, inr}
use mathlib.Core.Bool.{true, ◌&&◌, ◌||◌, cond}
use Prim.Native.Nat.{ℕ, zero, suc, ◌+◌, ◌≤◌, ◌<◌}
use native.Mathlib.Decide.{ℕ_discrete, dec_le}
use native.Mathlib.Omega.{arith}
use lib.Dec.{eqb}
use Rattle.sets.specs.Set.{has, ◌union◌, Within, count}
use Rattle.sets.proofs.Booleans.{or_mono, and_both, and_cases, by_cond, clash, eqb_equal, differ_eqb}
use Rattle.sets.proofs.Members.{has_empty, has_union, has_intersect, has_below, within_ext, within_union}
use Rattle.sets.proofs.Counts.{count_within, count_more, count_empty, count_only, count_union, Lacks, lacking}
use Rattle.esterel.specs.Statement.{Statement, nothing, pause, gotopause, emit, exit, signal, present, sequence, parallel, loop, try, pauses, pause_count}
use Rattle.esterel.specs.Codes.{Qualified, at, contains, labels, none, just_ended, join, minus_zero, through_try, s, d}
use Rattle.esterel.specs.Reachability.{next_r, after_rounds, Reached, reach_from, reach}
use Rattle.esterel.proofs.Codes.{contains_join, contains_left, join_same, join_swap, through_try_join, cond_or, followed, followed_join, d_sequence, d_loop}

-- ---- d over a union
pub d_union : (R R' : ℕ) (p : Statement) → d (R union R') p ≡ join (d R p) (d R' p)
unfolding d
d_union R R' nothing = sym (join_same none)
d_union R R' (pause l) = ap (λ b. cond b just_ended none) (has_union R R' l) ∙ cond_or (has R l) (has R' l) just_ended
d_union R R' (gotopause l) = sym (join_same none)
d_union R R' (emit S) = sym (join_same none)
d_union R R' (exit e) = sym (join_same none)
d_union R R' (signal S p) = d_union R R' p
d_union R R' (present S p q) = ap₂ join (d_union R R' p) (d_union R R' q) ∙ join_swap (d R p) (d R' p) (d R q) (d R' q)
d_union R R' (sequence p q) =
    d_sequence (R union R') p q
    ∙ ap₂ (λ K K'. join (followed K (s q)) K') (d_union R R' p) (d_union R R' q)
    ∙ ap (λ K. join K (join (d R q) (d R' q))) (followed_join (d R p) (d R' p) (s q))
    ∙ join_swap (followed (d R p) (s q)) (followed (d R' p) (s q)) (d R q) (d R' q)
    ∙ sym (ap₂ join (d_sequence R p q) (d_sequence R' p q))
d_union R R' (parallel p q) = ap₂ join (d_union R R' p) (d_union R R' q) ∙ join_swap (d R p) (d R' p) (d R q) (d R' q)
d_union R R' (loop p) =
    d_loop (R union R') p
    ∙ ap (λ K. followed K (minus_zero (s p))) (d_union R R' p)
    ∙ followed_join (d R p) (d R' p) (minus_zero (s p))
    ∙ sym (ap₂ join (d_loop R p) (d_loop R' p))
d_union R R' (try p) = ap through_try (d_union R R' p) ∙ through_try_join (d R p) (d R' p)

pub d_mono : (R R' : ℕ) (p : Statement) → Within R R' → (q : Qualified) → contains (d R p) q ≡ true → contains (d R' p) q ≡ true
d_mono R R' p f q h =
    let e : d R' p ≡ join (d R p) (d R' p) = ap (λ (z : ℕ). d z p) (sym (within_union R R' f)) ∙ d_union R R' p in
    subst (λ K. contains K q ≡ true) (sym e) (contains_left (d R p) (d R' p) q h)

-- ---- A round
pub has_next_r : (p : Statement) (R l : ℕ) → has (next_r p R) l ≡ (has (pauses p) l && (has (labels (s p)) l || has (labels (d R p)) l))
unfolding next_r contains
has_next_r p R l =
    has_intersect (pauses p) (labels (join (s p) (d R p))) l ∙ ap (λ b. has (pauses p) l && b) (contains_join (s p) (d R p) (at l))

pub in_next_r : (p : Statement) (R l : ℕ) → has (next_r p R) l ≡ true → (has (pauses p) l ≡ true) × ((has (labels (s p)) l || has (labels (d R p)) l) ≡ true)
in_next_r p R l h = and_cases (has (pauses p) l) (has (labels (s p)) l || has (labels (d R p)) l) (sym (has_next_r p R l) ∙ h)

pub next_r_mono : (p : Statement) (R R' : ℕ) → Within R R' → Within (next_r p R) (next_r p R')
unfolding contains
next_r_mono p R R' f l h =
    let t = in_next_r p R l h in
    has_next_r p R' l
    ∙ and_both (has (pauses p) l) (has (labels (s p)) l || has (labels (d R' p)) l) t.0
    (or_mono (has (labels (s p)) l) (has (labels (d R p)) l) (has (labels (s p)) l) (has (labels (d R' p)) l) (λ u. u) (d_mono R R' p f (at l)) t.1)

pub next_r_pauses : (p : Statement) (R : ℕ) → Within (next_r p R) (pauses p)
next_r_pauses p R l h = (in_next_r p R l h).0

-- ---- Many rounds
pub after_rounds_grows : (p : Statement) (i : ℕ) → Within (after_rounds p i) (after_rounds p (suc i))
unfolding after_rounds
after_rounds_grows p zero l h = clash h (has_empty l)
after_rounds_grows p (suc i) l h = next_r_mono p (after_rounds p i) (after_rounds p (suc i)) (after_rounds_grows p i) l h

pub after_rounds_pauses : (p : Statement) (i : ℕ) → Within (after_rounds p i) (pauses p)
unfolding after_rounds
after_rounds_pauses p zero l h = clash h (has_empty l)
after_rounds_pauses p (suc i) l h = next_r_pauses p (after_rounds p i) l h

-- the labels of pauses are no more than the pauses
pub count_pauses : (w : ℕ) (p : Statement) → count w (pauses p) ≤ pause_count p
unfolding pauses pause_count
count_pauses w nothing = omega (arith, count_empty w)
count_pauses w (pause l) = count_only w l
count_pauses w (gotopause l) = omega (arith, count_empty w)
count_pauses w (emit S) = omega (arith, count_empty w)
count_pauses w (exit e) = omega (arith, count_empty w)
count_pauses w (signal S p) = count_pauses w p
count_pauses w (present S p q) = let i = count_pauses w p in let j = count_pauses w q in omega (arith, count_union w (pauses p) (pauses q))
count_pauses w (sequence p q) = let i = count_pauses w p in let j = count_pauses w q in omega (arith, count_union w (pauses p) (pauses q))
count_pauses w (parallel p q) = let i = count_pauses w p in let j = count_pauses w q in omega (arith, count_union w (pauses p) (pauses q))
count_pauses w (loop p) = count_pauses w p
count_pauses w (try p) = count_pauses w p

-- ---- Rest

-- round m + 1 adds no label, and every round before it does
abbrev pub FirstRest : Statement → ℕ → Type 0
FirstRest p m = (after_rounds p (suc m) ≡ after_rounds p m) × ((j : ℕ) → j < m → after_rounds p (suc j) ≢ after_rounds p j)

module _ (p : Statement) where
  -- a round that changes R adds a label; w is any width that the labels of the pauses keep to
  pub round_adds : (w : ℕ) → ((l : ℕ) → has (pauses p) l ≡ true → l < w) → (i : ℕ) → after_rounds p (suc i) ≢ after_rounds p i
      → count w (after_rounds p i) < count w (after_rounds p (suc i))
  round_adds w b i n = go (lacking w (after_rounds p i) (after_rounds p (suc i)))
    where
      go : Lacks w (after_rounds p i) (after_rounds p (suc i)) → count w (after_rounds p i) < count w (after_rounds p (suc i))
      go (inl t) = count_more w (after_rounds p i) (after_rounds p (suc i)) t.0 (after_rounds_grows p i) t.1 t.2 t.3
      go (inr t) = absurd (n (within_ext (after_rounds p (suc i)) (after_rounds p i)
          (λ l h. t l (b l (after_rounds_pauses p (suc i) l h)) h) (after_rounds_grows p i)))

  -- within i rounds there is a first rest, or each of them added a label
  abbrev Going : ℕ → Type 0
  Going i = ((m : ℕ) × (m < i) × FirstRest p m) ⊎ (((j : ℕ) → j < i → after_rounds p (suc j) ≢ after_rounds p j) × (i ≤ count (pauses p) (after_rounds p i)))

  going : (i : ℕ) → Going i
  going zero = inr (λ j l. absurd (omega arith), omega arith)
  going (suc i) = go (going i) (ℕ_discrete (after_rounds p (suc i)) (after_rounds p i))
    where
      go : Going i → Dec (after_rounds p (suc i) ≡ after_rounds p i) → Going (suc i)
      go (inl t) b = inl (t.0, (let l = t.1 in omega arith), t.2)
      go (inr t) (yes e) = inl (i, omega arith, (e, t.0))
      go (inr t) (no n) = inr (λ j l. each j l (ℕ_discrete j i), (let k = t.1 in let l = round_adds (pauses p) (λ l. has_below l (pauses p)) i n in omega arith))
        where
          each : (j : ℕ) → j < suc i → Dec (j ≡ i) → after_rounds p (suc j) ≢ after_rounds p j
          each j l (yes e) h = n (rw e at h)
          each j l (no u) h = t.0 j (omega arith) h

  -- the rounds come to rest while they are no more than the pauses
  pub first_rest : (m : ℕ) × (m ≤ pause_count p) × FirstRest p m
  first_rest = go (going (suc (pause_count p)))
    where
      go : Going (suc (pause_count p)) → (m : ℕ) × (m ≤ pause_count p) × FirstRest p m
      go (inl t) = (t.0, (let l = t.1 in omega arith), t.2)
      go (inr t) = absurd (
          let k = t.1 in
          let l = count_within (pauses p) (after_rounds p (suc (pause_count p))) (pauses p) (after_rounds_pauses p (suc (pause_count p))) in
          let u = count_pauses (pauses p) p in
          omega arith)

  abbrev rested_at : ℕ → Reached
  rested_at m = record { set = after_rounds p m; rounds = suc m }

  reach_from_first : (n i m : ℕ) → i ≤ m → m < i + n → FirstRest p m → reach_from n p (after_rounds p i) i ≡ rested_at m
  unfolding reach_from after_rounds
  reach_from_first zero i m l h f = absurd (omega arith)
  reach_from_first (suc n) i m l h f =
      by_cond (λ z. z ≡ rested_at m) (eqb (after_rounds p (suc i)) (after_rounds p i)) (rested_at i) (reach_from n p (after_rounds p (suc i)) (suc i))
      (λ e. ap rested_at (here (eqb_equal (after_rounds p (suc i)) (after_rounds p i) e) (ℕ_discrete i m)))
      (λ e. let u = later (differ_eqb (after_rounds p (suc i)) (after_rounds p i) e) in reach_from_first n (suc i) m (omega arith) (omega arith) f)
    where
      here : after_rounds p (suc i) ≡ after_rounds p i → Dec (i ≡ m) → i ≡ m
      here e (yes u) = u
      here e (no u) = absurd (f.1 i (omega arith) e)

      later : after_rounds p (suc i) ≢ after_rounds p i → i ≢ m
      later n e = n (subst (λ (z : ℕ). after_rounds p (suc z) ≡ after_rounds p z) (sym e) f.0)

  -- reach's answer is the R of the first rest: "the smallest i of at least 1 with Ri equal to the R before it" is m + 1
  pub reach_unique : (m : ℕ) → after_rounds p (suc m) ≡ after_rounds p m → ((j : ℕ) → j < m → after_rounds p (suc j) ≢ after_rounds p j)
      → reach p ≡ record { set = after_rounds p m; rounds = suc m }
  unfolding reach after_rounds
  reach_unique m e n = go first_rest
    where
      go : (k : ℕ) × (k ≤ pause_count p) × FirstRest p k → reach p ≡ rested_at m
      go (k, l, f) = let u = below (dec_le m k) in reach_from_first (suc (pause_count p)) 0 m (omega arith) (omega arith) (e, n)
        where
          below : Dec (m ≤ k) → m ≤ pause_count p
          below (yes u) = omega arith
          below (no u) = absurd (n k (omega arith) f.0)

  pub reach_first : (m : ℕ) × (reach p ≡ record { set = after_rounds p m; rounds = suc m }) × FirstRest p m
  reach_first = let (m, l, f) = first_rest in (m, reach_unique m f.0 f.1, f)

  -- "never exceeds the number of pauses plus 1"
  pub rounds_few : (reach p).rounds ≤ suc (pause_count p)
  rounds_few = let (m, l, f) = first_rest in let e = ap (λ r. r.rounds) (reach_unique m f.0 f.1) in omega arith

  -- ---- The answer
  pub reach_rests : next_r p (reach p).set ≡ (reach p).set
  unfolding after_rounds
  reach_rests = let (m, e, f) = reach_first in rw e f.0

-- one more round adds nothing to R: "the pause labels of the program whose code 1 is in s or in d" over R are in R
abbrev pub Closed : Statement → ℕ → Type 0
Closed p R = (l : ℕ) → has (pauses p) l ≡ true → (has (labels (s p)) l || has (labels (d R p)) l) ≡ true → has R l ≡ true

pub reach_closed : (p : Statement) → Closed p (reach p).set
reach_closed p l h k =
    ap (λ (R : ℕ). has R l) (sym (reach_rests p))
    ∙ has_next_r p (reach p).set l
    ∙ and_both (has (pauses p) l) (has (labels (s p)) l || has (labels (d (reach p).set p)) l) h k

-- and R is the least such set (the paper's fixed point)
pub after_rounds_least : (p : Statement) (R : ℕ) → Closed p R → (i : ℕ) → Within (after_rounds p i) R
unfolding after_rounds
after_rounds_least p R c zero l h = clash h (has_empty l)
after_rounds_least p R c (suc i) l h =
    let (a, b) = in_next_r p R l (next_r_mono p (after_rounds p i) R (after_rounds_least p R c i) l h) in
    c l a b

pub reach_least : (p : Statement) (R : ℕ) → Closed p R → Within (reach p).set R
reach_least p R c = let (m, e, f) = reach_first p in rw e (after_rounds_least p R c m)
