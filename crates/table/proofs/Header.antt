-- The header: what its tests say of a table that passes them, and the same tests on the first word and the last byte, as
-- code makes them.
use mathlib.Core.Path.{◌≡◌, refl, sym, ap, ◌∙◌}
use mathlib.Core.Bool.{Bool, true, false, cond, not, ◌||◌}
use mathlib.Core.List.{List}
use Prim.Native.Nat.{ℕ, ◌+◌, ◌-◌, ◌*◌, ◌/◌, ◌%◌, ◌^◌, ◌≤◌, ◌<◌}
use native.Mathlib.Nat.{mod-eq_of_lt, one-mul}
use native.Mathlib.Omega.{arith}
use lib.Dec.{eqb, ltb}
use lib.ListN.{length, get_or}
use lib.Bits.{bit_and, and_mask, mask_lt}
use lib.Pow.{pow-lt, pow_pos}
use borrow.Author.Tests.{ltb-false, eqb-true, eqb-false, not-false, lt-ltb, le-ltb, eq-eqb, ne_eqb}
use Rattle.sets.proofs.Booleans.{or_neither}
use Rattle.std.specs.Prelude.{Result, Ok, Err}
use Rattle.table.specs.declared.Refusal.{Refusal}
use Rattle.table.specs.declared.Refusal.TheVariants.{Short, Edition, Count, Length, Padding}
use Rattle.table.specs.Reading.{length_of, edition_of, count_of, padding_of, header_of}
use Rattle.table.specs.Bits.{Below}
use Rattle.table.specs.inner.Loading.{word_at}
use Rattle.table.proofs.Cutting.{cut_edition, cut_count, cut_padding, spare}

pub never_accepted : (w : Refusal) (n : ℕ) → ◌≡◌ {A = Result ℕ Refusal} (Err w) (Ok n) → ⊥
never_accepted w n h = let z : ◌≡◌ {A = ℕ} 0 1 = cc in omega arith

-- a table of n nodes, as far as its header tells
pub record Headed (t : List ℕ) (n : ℕ) : Type 0 where
  pub long : 2 ≤ length t
  pub edition : edition_of t ≡ 1
  pub count : count_of t ≡ n
  pub some : 1 ≤ n
  pub few : n ≤ 1024
  pub whole : length t ≡ length_of n
  pub padding : padding_of t n ≡ 0

-- the tests of `header_of`
abbrev tests : Bool → Bool → Bool → Bool → Bool → ℕ → Result ℕ Refusal
tests a b c d e n = cond a (Err Short) (cond b (Err Edition) (cond c (Err Count) (cond d (Err Length) (cond e (Err Padding) (Ok n)))))

passed : (a b c d e : Bool) (m n : ℕ) → tests a b c d e m ≡ Ok n → (a ≡ false) × (b ≡ false) × (c ≡ false) × (d ≡ false) × (e ≡ false) × (m ≡ n)
passed true b c d e m n h = absurd (never_accepted Short n h)
passed false true c d e m n h = absurd (never_accepted Edition n h)
passed false false true d e m n h = absurd (never_accepted Count n h)
passed false false false true e m n h = absurd (never_accepted Length n h)
passed false false false false true m n h = absurd (never_accepted Padding n h)
passed false false false false false m n h = (refl, refl, refl, refl, refl, cc)

pub header_accepted : (t : List ℕ) (n : ℕ) → header_of t ≡ Ok n → Headed t n
unfolding header_of
header_accepted t n h =
    let m = count_of t in
    let (a, b, c, d, e, f) = passed (ltb (length t) 2) (not (eqb (edition_of t) 1)) (eqb m 0 || ltb 1024 m) (not (eqb (length t) (length_of m))) (not (eqb (padding_of t m) 0)) m n h in
    let (z, l) = or_neither (eqb m 0) (ltb 1024 m) c in
    let nonzero : m ≡ 0 → ⊥ = eqb-false m 0 z in
    let few : m ≤ 1024 = ltb-false 1024 m l in
    record {
      long = ltb-false (length t) 2 a;
      edition = eqb-true (edition_of t) 1 (not-false _ b);
      count = f;
      some = omega arith;
      few = omega arith;
      whole = eqb-true (length t) (length_of m) (not-false _ d) ∙ ap length_of f;
      padding = ap (padding_of t) (sym f) ∙ eqb-true (padding_of t m) 0 (not-false _ e);
    }

-- ---- The tests on words
pub refused_short : (t : List ℕ) → length t < 2 → Err Short ≡ header_of t
unfolding header_of
refused_short t h = rw (lt-ltb (length t) 2 h)

pub count_none : (t : List ℕ) → length t < 2 → 0 ≡ cond (ltb (length t) 2) 0 (count_of t)
count_none t h = rw (lt-ltb (length t) 2 h)

-- the width of the padding behind n nodes, by masks, and its mask
abbrev pub pad_width : ℕ → ℕ
pad_width n = bit_and (8 - bit_and (n * 10) 7) 7

pub pad_width_small : (n : ℕ) → pad_width n < 8
pad_width_small n = mask_lt (8 - bit_and (n * 10) 7) 3

pad_width_spare : (n : ℕ) → pad_width n ≡ spare n
pad_width_spare n = rw (and_mask (8 - bit_and (n * 10) 7) 3, and_mask (n * 10) 3) (omega arith)

one_shifted : (w : ℕ) → w < 8 → (1 * 2 ^ w) % 256 ≡ 2 ^ w
one_shifted w h = rw (one-mul (2 ^ w)) (mod-eq_of_lt (pow-lt {j = 8} h))

pub pad_mask_some : (n : ℕ) → 1 ≤ (1 * 2 ^ pad_width n) % 256
pad_mask_some n = rw (one_shifted (pad_width n) (pad_width_small n)) (pow_pos (pad_width n))

pad_mask : (x n : ℕ) → bit_and x ((1 * 2 ^ pad_width n) % 256 - 1) ≡ x % 2 ^ spare n
pad_mask x n = rw (one_shifted (pad_width n) (pad_width_small n), and_mask x (pad_width n), pad_width_spare n)

tens : (n : ℕ) → length_of n ≡ 2 + (n * 10 + 7) / 8
unfolding length_of
tens n = omega arith

-- the first word of a list of bytes
pub record FirstWord (t : List ℕ) (word : ℕ) : Type 0 where
  pub bytes : Below 256 t
  pub long : 2 ≤ length t
  pub value : word ≡ word_at t 0

module _ {t : List ℕ} {word : ℕ} (first : FirstWord t word) where
  abbrev counted : ℕ
  counted = bit_and word 4095

  edition : edition_of t ≡ word / 4096
  edition = cut_edition t first.bytes first.long ∙ ap (λ (w : ℕ). w / 4096) (sym first.value)

  count : count_of t ≡ counted
  count = cut_count t first.bytes first.long ∙ ap (λ (w : ℕ). w % 4096) (sym first.value) ∙ sym (and_mask word 12)

  pub count_read : counted ≡ cond (ltb (length t) 2) 0 (count_of t)
  count_read = rw (le-ltb (length t) 2 first.long) (sym count)

  pub refused_edition : (word / 4096 ≡ 1 → ⊥) → Err Edition ≡ header_of t
  unfolding header_of
  refused_edition d = rw (le-ltb (length t) 2 first.long, edition, ne_eqb (word / 4096) 1 d)

  module _ (one : word / 4096 ≡ 1) where
    pub refused_none : counted ≡ 0 → Err Count ≡ header_of t
    unfolding header_of
    refused_none z = rw (le-ltb (length t) 2 first.long, edition, eq-eqb (word / 4096) 1 one, count, eq-eqb counted 0 z)

    module _ (some : counted ≡ 0 → ⊥) where
      pub refused_many : 1024 < counted → Err Count ≡ header_of t
      unfolding header_of
      refused_many l = rw (le-ltb (length t) 2 first.long, edition, eq-eqb (word / 4096) 1 one, count, ne_eqb counted 0 some, lt-ltb 1024 counted l)

      module _ (few : counted ≤ 1024) where
        counted_right : header_of t
            ≡ cond (not (eqb (length t) (2 + (counted * 10 + 7) / 8))) (Err Length) (cond (not (eqb (padding_of t counted) 0)) (Err Padding) (Ok counted))
        unfolding header_of
        counted_right =
            rw (le-ltb (length t) 2 first.long, edition, eq-eqb (word / 4096) 1 one, count, ne_eqb counted 0 some, le-ltb 1024 counted few, tens counted)

        pub refused_length : (length t ≡ 2 + (counted * 10 + 7) / 8 → ⊥) → Err Length ≡ header_of t
        refused_length d = rw (counted_right, ne_eqb (length t) (2 + (counted * 10 + 7) / 8) d)

        module _ (whole : length t ≡ 2 + (counted * 10 + 7) / 8) where
          abbrev pub spare_bits : ℕ
          spare_bits = bit_and (get_or t (length t - 1) 0) ((1 * 2 ^ pad_width counted) % 256 - 1)

          padding : padding_of t counted ≡ spare_bits
          padding = cut_padding t counted (whole ∙ sym (tens counted)) ∙ sym (pad_mask (get_or t (length t - 1) 0) counted)

          pub refused_padding : (spare_bits ≡ 0 → ⊥) → Err Padding ≡ header_of t
          refused_padding d = rw (counted_right, eq-eqb (length t) (2 + (counted * 10 + 7) / 8) whole, padding, ne_eqb spare_bits 0 d)

          pub header_passed : spare_bits ≡ 0 → Ok counted ≡ header_of t
          header_passed z = rw (counted_right, eq-eqb (length t) (2 + (counted * 10 + 7) / 8) whole, padding, eq-eqb spare_bits 0 z)
