-- What trim says of the share that was kept: the theorems of order 4, each as one statement. They are proved in proofs/Shares.
use Rattle.std.specs.Prelude.{ℕ, ◌+◌, ◌*◌, ◌≤◌, ◌<◌, ◌≡◌, List, [], ◌∷◌}
use Rattle.table.specs.Outcomes.{values}
use Rattle.table.specs.Reading.{check_of}
use Rattle.trim.specs.Answers.{trim_of}

-- the values of trim's answer, and the nodes of the table as check counts them. A trimmed table can be longer than its source, so the
-- quotient may exceed 1,000
pub record Divided (t vs : List ℕ) : Type 0 where
  pub before : ℕ
  pub after : ℕ
  pub bytes : ℕ
  pub quotient : ℕ
  pub remainder : ℕ
  pub checked : check_of t ≡ values (before ∷ [])
  pub answered : vs ≡ after ∷ bytes ∷ quotient ∷ remainder ∷ []
  pub some : 1 ≤ before
  pub whole : quotient * before + remainder ≡ 1000 * after
  pub below : remainder < before
  pub at_most : quotient ≤ 1741

-- wherever trim accepts
abbrev pub SharesDivided : Type 0
SharesDivided = (t : List ℕ) (room : ℕ) (vs : List ℕ) → trim_of t room ≡ values vs → Divided t vs

-- 1,741 occurs, so that no lower number bounds the quotients
abbrev pub LargestShare : Type 0
LargestShare = (t : List ℕ) × (room : ℕ) × (bytes : ℕ) × (trim_of t room ≡ values (437 ∷ bytes ∷ 1741 ∷ 9 ∷ []))
