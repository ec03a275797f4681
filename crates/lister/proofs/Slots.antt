-- The slots of the signals that may be unknown: there are at most 12 of them.
use mathlib.Core.Path.{◌≡◌, sym, ap, subst, ◌∙◌}
use mathlib.Core.Bool.{Bool, true, not, cond}
use Prim.Native.Nat.{ℕ, zero, suc, ◌+◌, ◌-◌, ◌%◌, ◌^◌, ◌≤◌, ◌<◌}
use native.Mathlib.Omega.{arith}
use lib.Bits.{bit_and, and_mask, and_le_l}
use lib.Count.{ones, ones-le}
use lib.Pow.{pow_pos}
use Rattle.sets.specs.Set.{has, only, ◌union◌, ◌without◌, Within, count}
use Rattle.sets.proofs.Booleans.{and_cases}
use Rattle.sets.proofs.Counts.{ones_count}
use Rattle.sets.proofs.Members.{has_minus, only_fits}
use Rattle.esterel.specs.inner.Conditions.{slot_of}
use Rattle.esterel.proofs.Unknown.{inside_too}
use Rattle.lister.specs.inner.Slots.{Slotted}

-- one more signal
slot_next : (M S : ℕ) → slot_of M (S + 1) ≡ slot_of M S + cond (has M S) 1 0
unfolding count
slot_next M S = let e : S + 1 ≡ suc S = omega arith in ap (slot_of M) e

-- ---- as the bits below the signal's own
pub slot_count : (M S own : ℕ) → S < 64 → own ≡ only S % 2 ^ 64 → ones (bit_and M (own - 1)) ≡ slot_of M S
unfolding only
slot_count M S own h e = ap (λ (z : ℕ). ones (bit_and M (z - 1))) (e ∙ only_fits 64 S h) ∙ ap ones (and_mask M S) ∙ ones_count M S

pub own_there : (S own : ℕ) → S < 64 → own ≡ only S % 2 ^ 64 → 1 ≤ own
unfolding only
own_there S own h e = let f = only_fits 64 S h in let p = pow_pos S in omega arith

pub slot_short : (M b : ℕ) → M < 2 ^ 64 → ones (bit_and M b) ≤ 64
slot_short M b h = ones-le 64 (bit_and M b) (let l = and_le_l M b in omega arith)

-- ---- there are few

slot_rises : (M S d : ℕ) → slot_of M S ≤ slot_of M (d + S)
unfolding count
slot_rises M S zero = let e : S ≡ zero + S = omega arith in subst (λ (z : ℕ). slot_of M S ≤ slot_of M z) e (omega arith)
slot_rises M S (suc d) =
    let e : suc (d + S) ≡ suc d + S = omega arith in
    subst (λ (z : ℕ). slot_of M S ≤ slot_of M z) e (let h = slot_rises M S d in omega arith)

pub slot_few : {M U : ℕ} (S : ℕ) → Slotted M U → has M S ≡ true → slot_of M S < 12
slot_few {M} S s h = go (s.narrow S h)
  where
    go : S < 32 → slot_of M S < 12
    go l =
        let n = slot_next M S in
        let o : ◌≡◌ {A = ℕ} (cond (has M S) 1 0) 1 = ap (λ (b : Bool). cond {A = ℕ} b 1 0) h in
        let (d, e) = rest l in
        let r : slot_of M (S + 1) ≤ slot_of M 32 = subst (λ (z : ℕ). slot_of M (S + 1) ≤ slot_of M z) e (slot_rises M (S + 1) d) in
        omega (arith, s.few)
      where
        rest : S < 32 → (d : ℕ) × (d + (S + 1) ≡ 32)
        rest l = (31 - S, omega arith)

-- one signal more is unknown, and one fewer
pub slotted_more : {M U W : ℕ} (S : ℕ) → Slotted M U → has M S ≡ true → W ≡ U union only S → Slotted M W
slotted_more {M} {U} S s h e = record {
  few = s.few;
  narrow = s.narrow;
  within = subst (λ (z : ℕ). Within z M) (sym e) (inside_too M U S s.within h);
}

pub slotted_less : {M U W : ℕ} (S : ℕ) → Slotted M U → W ≡ U without S → Slotted M W
slotted_less {M} {U} S s e = record {
  few = s.few;
  narrow = s.narrow;
  within = subst (λ (z : ℕ). Within z M) (sym e) (λ x m. s.within x (and_cases (has U x) (not (has (only S) x)) (sym (has_minus U (only S) x) ∙ m)).0);
}
