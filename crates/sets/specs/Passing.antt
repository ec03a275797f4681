-- What a pass over the members of a set gives: the least that is left, and the set without it.
use Rattle.std.specs.Prelude.{◌≡◌, ◌≢◌, ◌<◌, true, false, ℕ, Option, Some, None}
use Rattle.sets.specs.Set.{has, ◌without◌}

-- from the set that is left: none where it is empty; else its least member, and the set without it
abbrev pub Gives : ℕ → Option ℕ → ℕ → Type 0
Gives left None rest = (left ≡ 0) × (rest ≡ 0)
Gives left (Some x) rest =
    (left ≢ 0) × (x < 64) × (has left x ≡ true) × ((y : ℕ) → y < x → has left y ≡ false) × (rest ≡ left without x)
