-- A set less one as a number has the members of the set but the least, and others below it: so both together are the set without
-- its least member.
use mathlib.Core.Path.{◌≡◌, refl, sym, ap, ◌∙◌}
use mathlib.Core.Bool.{Bool, true, false, not, ◌&&◌}
use Prim.Native.Nat.{ℕ, zero, suc, ◌-◌, ◌/◌, ◌%◌, ◌^◌, ◌<◌}
use native.Mathlib.Nat.{pow-suc}
use native.Mathlib.Omega.{arith}
use lib.Bits.{bit_and}
use lib.Dec.{eqb}
use Rattle.sets.specs.Set.{has, only, ◌intersect◌, ◌without◌}
use Rattle.sets.proofs.Booleans.{eqb_equal, differ_eqb}
use Rattle.sets.proofs.Members.{ext, has_empty, has_intersect, has_minus}

odd : (n : ℕ) → has n 0 ≡ true → n % 2 ≡ 1
unfolding has
odd n h = eqb_equal (n % 2) 1 h

even : (n : ℕ) → has n 0 ≡ false → n % 2 ≡ 0
unfolding has
even n h = let d = differ_eqb (n % 2) 1 h in omega arith

both : (u : Bool) {v : Bool} → v ≡ false → (u && u) ≡ (u && not v)
both true h = rw h refl
both false h = refl

less_one : (l n : ℕ) → has n l ≡ true → ((x : ℕ) → x < l → has n x ≡ false) → (x : ℕ) → (has n x && has (n - 1) x) ≡ (has n x && not (has (only l) x))
unfolding has only
less_one zero n h b zero = let z : (n - 1) % 2 ≡ 0 = omega (arith, odd n h) in ap (λ (m : ℕ). eqb (n % 2) 1 && eqb m 1) z
less_one zero n h b (suc x) =
    let half : (n - 1) / 2 ≡ n / 2 = omega (arith, odd n h) in
    ap (λ (m : ℕ). has (n / 2) x && has m x) half ∙ both (has (n / 2) x) (has_empty x)
less_one (suc l) n h b zero = let e : eqb (n % 2) 1 ≡ false = b 0 (omega arith) in rw e refl
less_one (suc l) n h b (suc x) =
    let half : (n - 1) / 2 ≡ n / 2 - 1 = omega (arith, even n (b 0 (omega arith))) in
    let lower : 2 ^ suc l / 2 ≡ 2 ^ l = omega (arith, pow-suc 2 l) in
    ap (λ (m : ℕ). has (n / 2) x && has m x) half
    ∙ less_one l (n / 2) h (λ y k. b (suc y) (omega arith)) x
    ∙ ap (λ (m : ℕ). has (n / 2) x && not (has m x)) (sym lower)

pub without_least : (l n : ℕ) → has n l ≡ true → ((x : ℕ) → x < l → has n x ≡ false) → bit_and n (n - 1) ≡ n without l
unfolding ◌intersect◌
without_least l n h b = ext (bit_and n (n - 1)) (n without l) (λ x. has_intersect n (n - 1) x ∙ less_one l n h b x ∙ sym (has_minus n (only l) x))
