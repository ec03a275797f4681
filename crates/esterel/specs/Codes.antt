-- Completion codes, and the codes that a statement can complete with: s (Figure 5) and d (Figure 6).
use Rattle.std.specs.Prelude.{ℕ, zero, suc, ◌*◌, ◌/◌, ◌%◌, Bool, true, false, cond, not, ◌&&◌, ◌||◌, eqb}
use Rattle.sets.specs.Set.{has, only, ◌union◌}
use Rattle.esterel.specs.Statement.{Statement, nothing, pause, gotopause, emit, exit, signal, present, sequence, parallel, loop, try}

-- "level d has code d + 1"
unfoldable pub code_of : ℕ → ℕ
code_of d = suc d

-- "Through a try, 0 and 2 become 0, 1 stays, k above 2 becomes k − 1" (the paper's ↓)
unfoldable pub through : ℕ → ℕ
through zero = 0
through (suc zero) = 1
through (suc (suc zero)) = 0
through (suc (suc (suc k))) = suc (suc k)

-- "A qualified code is 0, 1 with a label, or 2 and up". The code of `above n` is n + 2.
pub data Qualified : Type 0 where
  ended : Qualified
  at : ℕ → Qualified
  above : ℕ → Qualified

-- the code without its label (the paper's hat)
unfoldable pub plain : Qualified → ℕ
plain ended = 0
plain (at l) = 1
plain (above n) = suc (suc n)

-- `through` on a qualified code: the label stays
unfoldable pub through_qualified : Qualified → Qualified
through_qualified ended = ended
through_qualified (at l) = at l
through_qualified (above zero) = ended
through_qualified (above (suc n)) = above n

-- A set of qualified codes: whether 0 is in it, the labels l with 1 at l in it, and its codes of 2 and up, bit k for code k.
pub record Codes : Type 0 where
  pub ends : Bool
  pub pausing : ℕ
  pub higher : ℕ

-- the labels whose code 1 is in the set; labels are read through this alone
unfoldable pub labels : Codes → ℕ
labels K = K.pausing

-- the qualified code is in the set
unfoldable pub contains : Codes → Qualified → Bool
contains K ended = K.ends
contains K (at l) = has (labels K) l
contains K (above n) = has K.higher (suc (suc n))

-- no code; {0}; {1 at l}; {k} for a code k of 2 and up
unfoldable pub none : Codes
none = record { ends = false; pausing = 0; higher = 0 }

unfoldable pub just_ended : Codes
just_ended = record { ends = true; pausing = 0; higher = 0 }

unfoldable pub just_at : ℕ → Codes
just_at l = record { ends = false; pausing = only l; higher = 0 }

unfoldable pub just_code : ℕ → Codes
just_code k = record { ends = false; pausing = 0; higher = only k }

-- K ∪ K'
unfoldable pub join : Codes → Codes → Codes
join K K' = record { ends = K.ends || K'.ends; pausing = K.pausing union K'.pausing; higher = K.higher union K'.higher }

-- K \ {0}
unfoldable pub minus_zero : Codes → Codes
minus_zero K = record { ends = false; pausing = K.pausing; higher = K.higher }

-- ↓K: code 2 becomes 0 and each code above 2 moves down by one
unfoldable pub through_try : Codes → Codes
through_try K = record { ends = K.ends || has K.higher 2; pausing = K.pausing; higher = K.higher / 8 * 4 }

-- a code of at most 1 is in K
unfoldable pub has_low : Codes → Bool
has_low K = K.ends || not (eqb K.pausing 0)

-- the members of a that are no lower than some member of m; the first argument only bounds the recursion, and a suffices
unfoldable pub not_below : ℕ → ℕ → ℕ → ℕ
not_below zero a m = 0
not_below (suc n) zero m = 0
not_below (suc n) (suc a) m = cond (eqb (m % 2) 1) (suc a) (not_below n (suc a / 2) (m / 2) * 2)

-- {k in K : some k' ≤ k in K'}
unfoldable pub no_lower_than : Codes → Codes → Codes
no_lower_than K K' = record {
  ends = K.ends && K'.ends;
  pausing = cond (has_low K') K.pausing 0;
  higher = cond (has_low K') K.higher (not_below K.higher K.higher K'.higher);
}

-- max(K, K')
unfoldable pub maximum : Codes → Codes → Codes
maximum K K' = join (no_lower_than K K') (no_lower_than K' K)

-- Figure 5: the codes of a started statement
unfoldable pub s : Statement → Codes
s nothing = just_ended
s (pause l) = just_at l
s (gotopause l) = just_at l
s (emit S) = just_ended
s (exit d) = just_code (code_of d)
s (signal S p) = s p
s (present S p q) = join (s p) (s q)
s (sequence p q) = let K = s p in cond K.ends (join (minus_zero K) (s q)) K
s (parallel p q) = maximum (s p) (s q)
s (loop p) = minus_zero (s p)
s (try p) = through_try (s p)

-- Figure 6: the codes of a statement resumed from labels of R
unfoldable pub d : ℕ → Statement → Codes
d R nothing = none
d R (pause l) = cond (has R l) just_ended none
d R (gotopause l) = none
d R (emit S) = none
d R (exit e) = none
d R (signal S p) = d R p
d R (present S p q) = join (d R p) (d R q)
d R (sequence p q) = let K = d R p in cond K.ends (join (join (minus_zero K) (s q)) (d R q)) (join K (d R q))
d R (parallel p q) = join (d R p) (d R q)
d R (loop p) = let K = d R p in cond K.ends (minus_zero (join K (s p))) K
d R (try p) = through_try (d R p)
