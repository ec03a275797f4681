-- Sets as words of w bits.
use mathlib.Core.Path.{◌≡◌, sym, ap, ◌∙◌}
use mathlib.Core.Bool.{false, not, ◌&&◌}
use Prim.Native.Nat.{ℕ, ◌%◌, ◌^◌, ◌≤◌, ◌<◌}
use native.Mathlib.Omega.{arith}
use native.Mathlib.Decide.{dec_lt, ℕ_discrete}
use lib.Bits.{bit_and, and_le_l, xor_lt}
use lib.Pow.{pow-lt}
use Rattle.sets.specs.Set.{has, only, ◌minus◌, ◌without◌}
use Rattle.sets.proofs.Members.{has_empty, has_minus, has_only_other, only_past, only_fits, past_width, ext}

pub only_below : (w x : ℕ) → x < w → only x < 2 ^ w
unfolding only
only_below w x h = pow-lt h

-- a number past the width is not in the set
pub without_word : (w m x : ℕ) → m < 2 ^ w → m minus (only x % 2 ^ w) ≡ m without x
without_word w m x h = go (dec_lt x w)
  where
    past : w ≤ x → (y : ℕ) → Dec (x ≡ y) → has (m minus 0) y ≡ has (m without x) y
    past k y (yes e) =
        let none : has m y ≡ false = ap (has m) (sym e) ∙ past_width w m x h k in
        has_minus m 0 y ∙ ap (λ b. b && not (has 0 y)) none ∙ sym (has_minus m (only x) y ∙ ap (λ b. b && not (has (only x) y)) none)
    past k y (no n) = has_minus m 0 y ∙ ap (λ b. has m y && not b) (has_empty y ∙ sym (has_only_other x y n)) ∙ sym (has_minus m (only x) y)

    go : Dec (x < w) → m minus (only x % 2 ^ w) ≡ m without x
    go (yes k) = ap (λ (z : ℕ). m minus z) (only_fits w x k)
    go (no k) = ap (λ (z : ℕ). m minus z) (only_past w x (omega arith)) ∙ ext (m minus 0) (m without x) (λ y. past (omega arith) y (ℕ_discrete x y))

pub minus_below : (w m n : ℕ) → m < 2 ^ w → m minus n < 2 ^ w
unfolding ◌minus◌
minus_below w m n h = xor_lt w m (bit_and m n) h (let k = and_le_l m n in omega arith)
