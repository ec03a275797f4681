-- A row as two words: ((O * 256 + k) * 4096 + on) * 4096 + off, and L. The condition is the low 24 bits of the first.
use Rattle.std.specs.Prelude.{ℕ, ◌+◌, ◌*◌, ◌/◌, ◌%◌, ◌^◌, ◌<◌, ◌≡◌}
use Rattle.std.proofs.Common.{arith, ap}
use Rattle.esterel.specs.Listing.{reaction}
use Rattle.esterel.specs.inner.Conditions.{Condition, condition}
use Rattle.esterel.specs.inner.Rows.{Row, row_when}
use Rattle.rows.specs.declared.condition.Condition.TheInside.{Inside}
use Rattle.rows.specs.declared.row.Row.{Row as Packed}

abbrev pub condition_in : ℕ → Condition
condition_in w = condition (w / 2 ^ 12 % 2 ^ 12) (w % 2 ^ 12)

-- the bits of a condition can be had back from it
abbrev pub bits_of : Condition → ℕ
bits_of c = c.on * 2 ^ 12 + c.off

same_bits : (w : ℕ) → w < 2 ^ 24 → bits_of (condition_in w) ≡ w
same_bits w h = omega arith

pub bits_back : (c : Inside) → c.bits < 2 ^ 24 → record { bits = bits_of (condition_in c.bits) } ≡ c
bits_back c h = ap (λ (n : ℕ). record { bits = n }) (same_bits c.bits h)

-- the row of two words, and of a row of the code
unfoldable pub unpacked_words : ℕ → ℕ → Row
unpacked_words w l = row_when (condition_in w) (reaction (w / 2 ^ 32) (w / 2 ^ 24 % 256) l)

unfoldable pub unpacked : Packed → Row
unpacked r = unpacked_words r.word r.labels
