-- Blanks before a part: where something stands before them, the lexer finds the same without them.
use Prim.Native.Nat.{ℕ, zero, suc, ◌+◌, ◌-◌, ◌≤◌, ◌<◌}
use mathlib.Core.Path.{◌≡◌, refl, sym, ap, ◌∙◌, subst}
use mathlib.Core.Logic.{◌⊎◌, inl, inr}
use mathlib.Core.Bool.{true, false}
use mathlib.Core.List.{List, [], ◌∷◌, ◌++◌}
use native.Mathlib.Numerals.{add-one}
use native.Mathlib.Omega.{arith}
use lib.Dec.{eqb}
use lib.ListN.{length, get_or, take, length-append}
use lib.Seq.{take-suc, take-length}
use borrow.Author.Tests.{eqb-true}
use Rattle.sets.proofs.Booleans.{or_cases, clash}
use Rattle.text.specs.Parts.{Part}
use Rattle.text.specs.Spelling.{last_of}
use Rattle.text.specs.inner.Lexer.{Class, letter, blank, semi, bar, opens, closes, other, class_of, at, spaced, flushed, keep_letter, add_blank, take as takes, lex, finished, rest}
use Rattle.text.proofs.Lexer.{class_blank, lex_append}
use Rattle.reader.specs.inner.Ending.{Skipped}
use Rattle.reader.specs.inner.Blanks.{blank_byte}
use Rattle.reader.proofs.Bytes.{last_apart, last_snoc}

-- ---- One blank

pub blank_cases : (b : ℕ) → blank_byte b ≡ true → (b ≡ 32) ⊎ (b ≡ 10)
unfolding blank_byte
blank_cases b e = go (or_cases (eqb b 32) (eqb b 10) e)
  where
    go : (eqb b 32 ≡ true) ⊎ (eqb b 10 ≡ true) → (b ≡ 32) ⊎ (b ≡ 10)
    go (inl f) = inl (eqb-true b 32 f)
    go (inr f) = inr (eqb-true b 10 f)

-- every byte before a blank is taken as it is before what stands behind the blank
spaced_same : (k : Class) (b : ℕ) (ts : List Part) → takes k b (spaced ts) ≡ takes k b (at [] ts)
unfolding takes flushed keep_letter
spaced_same letter b ts = refl
spaced_same blank b ts = refl
spaced_same semi b ts = refl
spaced_same bar b ts = refl
spaced_same opens b ts = refl
spaced_same closes b ts = refl
spaced_same other b ts = refl

blank_taken : (b : ℕ) (t : Part) (ts : List Part) → blank_byte b ≡ true → lex (b ∷ []) (at [] (t ∷ ts)) ≡ spaced (t ∷ ts)
unfolding lex takes flushed add_blank
blank_taken b t ts e = ap (λ (k : Class). takes k b (at [] (t ∷ ts))) (class_blank b (blank_cases b e))

module _ (u : List ℕ) (c b : ℕ) (t : Part) (ts : List Part) (e : blank_byte b ≡ true) where
  blank_lexed : lex ((u ++ (c ∷ [])) ++ (b ∷ [])) (at [] (t ∷ ts)) ≡ lex (u ++ (c ∷ [])) (at [] (t ∷ ts))
  unfolding lex
  blank_lexed =
      lex_append (u ++ (c ∷ [])) (b ∷ []) (at [] (t ∷ ts)) ∙ ap (lex (u ++ (c ∷ []))) (blank_taken b t ts e) ∙ lex_append u (c ∷ []) (spaced (t ∷ ts))
      ∙ ap (lex u) (spaced_same (class_of c) c (t ∷ ts))
      ∙ sym (lex_append u (c ∷ []) (at [] (t ∷ ts)))

  blank_left_out : rest ((u ++ (c ∷ [])) ++ (b ∷ [])) (t ∷ ts) ≡ rest (u ++ (c ∷ [])) (t ∷ ts)
  unfolding rest
  blank_left_out = ap finished blank_lexed

-- ---- The blanks at the end of a text

-- u is v and blanks before a part
pub record Passing (u v : List ℕ) : Type 0 where
  pub below : length v ≤ length u
  pub begins : length v ≡ 0 → length u ≡ 0
  pub first : blank_byte (get_or v 0 0) ≡ false
  pub goes_on : (t : Part) (ts : List Part) → rest u (t ∷ ts) ≡ rest v (t ∷ ts)

pub passing_none : (u : List ℕ) → blank_byte (get_or u 0 0) ≡ false → Passing u u
passing_none u e = record { below = omega arith; begins = λ z. z; first = e; goes_on = λ t ts. refl }

module _ (u v : List ℕ) (p : Passing u v) where
  pub passing_more : (w : List ℕ) (b : ℕ) → v ≡ w ++ (b ∷ []) → blank_byte b ≡ true → Passing u w
  passing_more [] b e h = clash h (sym (ap (λ (x : List ℕ). blank_byte (get_or x 0 0)) e) ∙ p.first)
  passing_more (a ∷ w) b e h =
      let apart = last_apart (a ∷ w) (omega arith) in
      let c : ℕ = get_or (a ∷ w) (length (a ∷ w) - 1) 0 in
      let front : List ℕ = take (length (a ∷ w) - 1) (a ∷ w) in
      let split : v ≡ (front ++ (c ∷ [])) ++ (b ∷ []) = e ∙ ap (λ (x : List ℕ). x ++ (b ∷ [])) apart in
      record {
        below = omega (arith, p.below, ap length e, length-append (a ∷ w) (b ∷ []));
        begins = λ z. absurd (omega arith);
        first = sym (ap (λ (x : List ℕ). blank_byte (get_or x 0 0)) e) ∙ p.first;
        goes_on = λ t ts. p.goes_on t ts ∙ ap (λ (x : List ℕ). rest x (t ∷ ts)) split ∙ blank_left_out front c b t ts h ∙ ap (λ (x : List ℕ). rest x (t ∷ ts)) (sym apart);
      }

  pub skipped_to : blank_byte (last_of v) ≡ false → Skipped u v
  skipped_to e = record { below = p.below; begins = p.begins; solid = e; goes_on = p.goes_on }

-- before the loop the whole text is left
pub passing_all : (u : List ℕ) → eqb (length u) 0 ≡ false → blank_byte (get_or u 0 0) ≡ false → (length u - 1 < length u) × Passing u (take (length u - 1 + 1) u)
passing_all [] n e = clash refl n
passing_all (b ∷ u) n e =
    let last : length (b ∷ u) - 1 + 1 ≡ length (b ∷ u) = omega arith in
    let all : take (length (b ∷ u) - 1 + 1) (b ∷ u) ≡ b ∷ u = ap (λ (k : ℕ). take k (b ∷ u)) last ∙ take-length (b ∷ u) in
    (omega arith, subst (λ (v : List ℕ). Passing (b ∷ u) v) (sym all) (passing_none (b ∷ u) e))

-- a blank at a place of u is not its first byte, and is passed
pub passing_back : (u : List ℕ) (i : ℕ) → i < length u → Passing u (take (i + 1) u) → blank_byte (get_or u i 0) ≡ true
    → (1 ≤ i) × (i - 1 < length u) × Passing u (take (i - 1 + 1) u)
passing_back [] i h p e = absurd (omega arith)
passing_back (b ∷ u) zero h p e = clash e p.first
passing_back (b ∷ u) (suc i) h p e =
    let split : take (suc i + 1) (b ∷ u) ≡ take (suc i) (b ∷ u) ++ (get_or (b ∷ u) (suc i) 0 ∷ []) = ap (λ (n : ℕ). take n (b ∷ u)) (add-one (suc i)) ∙ take-suc (b ∷ u) (suc i) 0 h in
    let back : suc i ≡ suc i - 1 + 1 = omega arith in
    let left = passing_more (b ∷ u) (take (suc i + 1) (b ∷ u)) p (take (suc i) (b ∷ u)) (get_or (b ∷ u) (suc i) 0) split e in
    (omega arith, omega arith, subst (λ (n : ℕ). Passing (b ∷ u) (take n (b ∷ u))) back left)

-- what stands at a place of u is the last byte of what stands before the next
pub last_to : (u : List ℕ) (i : ℕ) → i < length u → last_of (take (i + 1) u) ≡ get_or u i 0
last_to u i h = ap (λ (n : ℕ). last_of (take n u)) (add-one i) ∙ ap last_of (take-suc u i 0 h) ∙ last_snoc (take i u) (get_or u i 0)
