-- What the third demand and the theorem on step share: the state that a call is for, and that the bytes which writing gives for the
-- trimmed statement of an accepted table are read as that statement or refused.
use mathlib.Core.Path.{◌≡◌, refl, ap, ◌∙◌}
use mathlib.Core.Logic.{◌≢◌}
use mathlib.Core.List.{List}
use Prim.Native.Nat.{ℕ, zero, suc, ◌<◌}
use native.Mathlib.Omega.{arith}
use Rattle.esterel.specs.Statement.{Statement, Valid, size}
use Rattle.esterel.specs.Trimming.{trimmed}
use Rattle.esterel.specs.Reactions.{State, start, resumed}
use Rattle.esterel.proofs.Premises.{LevelsFromOne}
use Rattle.esterel.proofs.Validity.{valid_levels, valid_trimmed}
use Rattle.esterel.proofs.Growth.{size_trimmed}
use Rattle.table.specs.Reading.{table_of, holds}
use Rattle.table.specs.Writing.{write}
use Rattle.table.proofs.Accepted.{Holds, accepted}
use Rattle.table.proofs.RoundTrip.{valid_ranged, never_another}
use Rattle.list.specs.Answers.{state_of}
use Rattle.deskheron.specs.Demand.{Marked}

-- the state that a call is for
pub state_is : (x : State) (mark labels : ℕ) → Marked x mark labels → state_of mark labels ≡ x
unfolding Marked state_of
state_is start mark labels h = ap (λ (m : ℕ). state_of m labels) h
state_is (resumed X) mark labels h = marked mark h.0 ∙ ap resumed h.1
  where
    marked : (m : ℕ) → m ≢ 0 → state_of m labels ≡ resumed labels
    marked zero n = absurd (n refl)
    marked (suc m) n = refl

module _ (t : List ℕ) (s : ℕ) (p : Statement) (h : table_of t ≡ holds s p) where
  pub held : Holds t s p
  held = accepted t s p h

  pub levels : LevelsFromOne p
  levels = valid_levels 0 p held.valid

  pub valid_q : Valid 0 (trimmed p)
  valid_q = valid_trimmed p held.deep held.valid

  few_q : size (trimmed p) < 4096
  few_q = let i = size_trimmed p held.valid in let j = held.count in let k = held.header.few in omega arith

  pub reads : (n : ℕ) (r : Statement) → table_of (write (trimmed p)) ≡ holds n r → r ≡ trimmed p
  reads n r e = (never_another (trimmed p) (valid_ranged 0 (trimmed p) valid_q) few_q n r e).0
