-- The signals that may be unknown beside those that are assumed.
use Rattle.std.specs.Prelude.{◌≡◌, true, ℕ, ◌≤◌, ◌<◌}
use Rattle.sets.specs.Set.{has, count, Apart}
use Rattle.esterel.specs.Stepping.{signals}

-- few enough for the slots of a condition, and none of them is in A
pub record Unknowns (A U : ℕ) : Type 0 where
  pub few : count signals U ≤ 10
  pub narrow : (S : ℕ) → has U S ≡ true → S < signals
  pub apart : Apart U A
