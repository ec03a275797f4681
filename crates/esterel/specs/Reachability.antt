-- The labels that can ever be reached (document 01, "Codes and reachable labels").
use Rattle.std.specs.Prelude.{ℕ, zero, suc, cond, eqb}
use Rattle.sets.specs.Set.{◌intersect◌}
use Rattle.esterel.specs.Statement.{Statement, pauses, pause_count}
use Rattle.esterel.specs.Codes.{join, labels, s, d}

-- "Each next R holds the pause labels of the program whose code 1 is in s or in d over the R before it"
unfoldable pub next_r : Statement → ℕ → ℕ
next_r p R = pauses p intersect labels (join (s p) (d R p))

-- "Put R0 empty": R after i rounds
unfoldable pub after_rounds : Statement → ℕ → ℕ
after_rounds p zero = 0
after_rounds p (suc i) = next_r p (after_rounds p i)

-- the answer R, and the number of rounds
pub record Reached : Type 0 where
  pub set : ℕ
  pub rounds : ℕ

-- "Rounds go on until a round adds no label": from R after i rounds on, for at most n more
unfoldable pub reach_from : ℕ → Statement → ℕ → ℕ → Reached
reach_from zero p R i = record { set = R; rounds = i }
reach_from (suc n) p R i =
    let R' = next_r p R in
    let later = reach_from n p R' (suc i) in
    cond (eqb R' R) (record { set = R; rounds = suc i }) later

-- "the number of rounds .. never exceeds the number of pauses plus 1", so as many are enough
unfoldable pub reach : Statement → Reached
reach p = reach_from (suc (pause_count p)) p 0 0
