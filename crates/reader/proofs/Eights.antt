-- The last eight bytes of a text as one number: whether `nothing` is the last seven of them, and the byte before it.
use Prim.Native.Nat.{ℕ, ◌+◌, ◌-◌, ◌/◌, ◌%◌, ◌≤◌, ◌<◌}
use mathlib.Core.Path.{◌≡◌, sym, ap, ◌∙◌}
use mathlib.Core.Bool.{false}
use mathlib.Core.List.{List, [], ◌∷◌, ◌++◌}
use native.Mathlib.Omega.{arith}
use lib.ListN.{length, get_or, take, drop, length-append, length-take}
use lib.Seq.{take_at, drop_at, drop-drop, get_or-drop}
use Rattle.std.specs.Int.{w64, from_le_bytes, to_le_bytes}
use Rattle.std.proofs.lemmas.Nat.{le_bytes_8}
use Rattle.std.proofs.lemmas.List.{take-append-drop, get_or-take}
use Rattle.text.specs.Parts.{Nothing}
use Rattle.text.specs.Spelling.{letters_of, last_of}
use Rattle.text.specs.inner.Lexer.{is_letter}
use Rattle.reader.specs.inner.Ending.{Worded}
use Rattle.reader.proofs.Bytes.{last_at}

-- ---- The letters of `nothing`, and their number

abbrev nothing : List ℕ
nothing = 110 ∷ 111 ∷ 116 ∷ 104 ∷ 105 ∷ 110 ∷ 103 ∷ []

abbrev number : ℕ
number = 29113321604280174

written : (n : ℕ) → n / 256 ≡ number → drop 1 (to_le_bytes w64 n) ≡ nothing
written n e =
    let b1 : n / 256 % 256 ≡ 110 = omega (arith, e) in
    let b2 : n / 65536 % 256 ≡ 111 = omega (arith, e) in
    let b3 : n / 16777216 % 256 ≡ 116 = omega (arith, e) in
    let b4 : n / 4294967296 % 256 ≡ 104 = omega (arith, e) in
    let b5 : n / 1099511627776 % 256 ≡ 105 = omega (arith, e) in
    let b6 : n / 281474976710656 % 256 ≡ 110 = omega (arith, e) in
    let b7 : n / 72057594037927936 % 256 ≡ 103 = omega (arith, e) in
    λ i. b1 i ∷ b2 i ∷ b3 i ∷ b4 i ∷ b5 i ∷ b6 i ∷ b7 i ∷ []

module _ (bs : List ℕ) (n : ℕ) (small : (i : ℕ) → get_or bs i 0 < 256) (is : n ≡ from_le_bytes w64 bs) where
  pub number_spelt : length bs ≡ 8 → n / 256 ≡ number → drop 1 bs ≡ letters_of Nothing
  unfolding letters_of
  number_spelt l e = sym (ap (drop 1) (le_bytes_8 bs n l small is)) ∙ written n e

  pub spelt_number : drop 1 bs ≡ letters_of Nothing → n / 256 ≡ number
  unfolding letters_of
  spelt_number e =
      let at : (i : ℕ) → get_or bs (1 + i) 0 ≡ get_or nothing i 0 = λ i. sym (get_or-drop 1 bs i 0) ∙ ap (λ (x : List ℕ). get_or x i 0) e in
      omega (arith, is, small 0, at 0, at 1, at 2, at 3, at 4, at 5, at 6)

-- ---- The last eight bytes of a text

module _ (u bs : List ℕ) (long : 8 ≤ length u) (last : bs ≡ drop (length u - 8) u) where
  seven : drop 1 bs ≡ drop (length u - 7) u
  seven = ap (drop 1) last ∙ drop-drop 1 (length u - 8) u ∙ ap (λ (i : ℕ). drop i u) (omega arith)

  first : get_or bs 0 0 ≡ last_of (take (length u - 7) u)
  first =
      let front = take (length u - 7) u in
      let l : length front ≡ length u - 7 = omega (arith, length-take {A = ℕ}) in
      ap (λ (x : List ℕ). get_or x 0 0) last ∙ get_or-drop (length u - 8) u 0 0 ∙ ap (λ (i : ℕ). get_or u i 0) (omega arith)
      ∙ sym (get_or-take (length u - 7) u (length front - 1) 0 (omega arith)) ∙ last_at front (omega arith)

  pub before_nothing : drop 1 bs ≡ letters_of Nothing → is_letter (get_or bs 0 0) ≡ false → Worded u (letters_of Nothing) (take (length u - 7) u)
  before_nothing e clear =
      record {
        spelt = sym (take-append-drop (length u - 7) u) ∙ ap (λ (x : List ℕ). take (length u - 7) u ++ x) (sym seven ∙ e);
        clear = ap is_letter (sym first) ∙ clear;
      }

  module _ (v : List ℕ) (W : Worded u (letters_of Nothing) v) where
    before : length v ≡ length u - 7
    unfolding letters_of
    before = omega (arith, ap length W.spelt, length-append v nothing)

    pub is_spelt : drop 1 bs ≡ letters_of Nothing
    is_spelt = seven ∙ ap (drop (length u - 7)) W.spelt ∙ drop_at v (letters_of Nothing) (length u - 7) before

    pub is_clear : is_letter (get_or bs 0 0) ≡ false
    is_clear = ap is_letter (first ∙ ap last_of (ap (take (length u - 7)) W.spelt ∙ take_at v (letters_of Nothing) (length u - 7) before)) ∙ W.clear
