-- The signals that may be unknown, and of them those that are.
use Rattle.std.specs.Prelude.{◌≡◌, true, ℕ, ◌≤◌, ◌<◌}
use Rattle.sets.specs.Set.{has, Within}
use Rattle.esterel.specs.inner.Conditions.{slot_of}

-- the members of M are signals, for whose slots a condition has room, and the unknown signals U are among them
pub record Slotted (M U : ℕ) : Type 0 where
  pub few : slot_of M 32 ≤ 12
  pub narrow : (S : ℕ) → has M S ≡ true → S < 32
  pub within : Within U M
