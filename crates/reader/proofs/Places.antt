-- What stands before the bytes that a text ends in is the front of the text.
use Prim.Native.Nat.{ℕ, ◌-◌, ◌≤◌, ◌<◌}
use mathlib.Core.Path.{◌≡◌, refl, sym, ap, ◌∙◌}
use mathlib.Core.Bool.{true, false}
use mathlib.Core.List.{List, [], ◌∷◌, ◌++◌, append_assoc}
use native.Mathlib.Omega.{arith}
use lib.ListN.{length, get_or, take, drop, length-append}
use lib.Seq.{take_at}
use Rattle.std.proofs.lemmas.List.{take-append-drop}
use Rattle.sets.proofs.Booleans.{clash}
use Rattle.text.specs.Parts.{Part}
use Rattle.text.specs.Spelling.{last_of}
use Rattle.text.specs.inner.Lexer.{is_letter}
use Rattle.text.proofs.Spelling.{nonempty_part}
use Rattle.text.proofs.Decimal.{begins}
use Rattle.reader.specs.inner.Ending.{Ending, Worded, Number, Skipped}
use Rattle.reader.specs.inner.Blanks.{blank_byte}
use Rattle.reader.proofs.Bytes.{last_apart, last_at}

-- a text begins with a blank where what stands before its end does
pub front_solid : (u v w : List ℕ) → u ≡ v ++ w → blank_byte (get_or u 0 0) ≡ false → blank_byte (get_or v 0 0) ≡ false
unfolding blank_byte
front_solid u [] w e h = refl
front_solid u (b ∷ v) w e h = sym (ap (λ (x : List ℕ). blank_byte (get_or x 0 0)) e) ∙ h

-- and of what stands before its last byte
pub front_apart : (u : List ℕ) → 1 ≤ length u → blank_byte (get_or u 0 0) ≡ false → blank_byte (get_or (take (length u - 1) u) 0 0) ≡ false
front_apart u h = front_solid u (take (length u - 1) u) _ (last_apart u h)

-- what stands before bytes is shorter
shorter_by : (u v : List ℕ) (b : ℕ) (bs : List ℕ) → u ≡ v ++ (b ∷ bs) → length v < length u
shorter_by u v b bs e = omega (arith, ap length e, length-append v (b ∷ bs))

pub ending_shorter : (u v : List ℕ) (t : Part) → Ending u v t → length v < length u
ending_shorter u v t E = let N = nonempty_part t in shorter_by u v N.first N.rest (E.spelt ∙ ap (λ (x : List ℕ). v ++ x) N.shape)

pub number_shorter : (u v : List ℕ) {value : ℕ} → Number u v value → length v < length u
number_shorter u v N = let B = begins N.number in shorter_by u v B.first B.rest (N.spelt ∙ ap (λ (x : List ℕ). v ++ x) B.shape)

pub skipped_shorter : (u : List ℕ) {v w : List ℕ} → length v < length u → Skipped v w → length w < length u
skipped_shorter u h S = omega (arith, S.below)

-- the last byte apart
pub byte_apart : (u : List ℕ) {c : ℕ} → 1 ≤ length u → last_of u ≡ c → u ≡ take (length u - 1) u ++ (c ∷ [])
byte_apart u h l = last_apart u h ∙ ap (λ (b : ℕ). take (length u - 1) u ++ (b ∷ [])) (last_at u h ∙ l)

-- what stands before the same bytes is the same
pub same_front : (v w ls : List ℕ) → v ++ ls ≡ w ++ ls → v ≡ w
same_front v w ls e =
    let l : length w ≡ length v = omega (arith, ap length e, length-append v ls, length-append w ls) in
    sym (take_at v ls (length v) refl) ∙ ap (take (length v)) e ∙ take_at w ls (length v) l

-- ---- A word that is compared in two parts, its first n letters and the others

module _ (u ls : List ℕ) (n : ℕ) where
  apart : (v : List ℕ) → Worded u ls v → u ≡ (v ++ take n ls) ++ drop n ls
  apart v W = W.spelt ∙ ap (λ (x : List ℕ). v ++ x) (sym (take-append-drop n ls)) ∙ sym (append_assoc v (take n ls) (drop n ls))

  pub no_second : ((v : List ℕ) → u ≡ v ++ drop n ls → ⊥) → (v : List ℕ) → Worded u ls v → ⊥
  no_second none v W = none (v ++ take n ls) (apart v W)

  module _ (x : List ℕ) (e : u ≡ x ++ drop n ls) where
    before_second : (v : List ℕ) → Worded u ls v → x ≡ v ++ take n ls
    before_second v W = same_front x (v ++ take n ls) (drop n ls) (sym e ∙ apart v W)

    pub no_first : ((v : List ℕ) → x ≡ v ++ take n ls → ⊥) → (v : List ℕ) → Worded u ls v → ⊥
    no_first none v W = none v (before_second v W)

    pub not_apart : (w : List ℕ) → x ≡ w ++ take n ls → is_letter (last_of w) ≡ true → (v : List ℕ) → Worded u ls v → ⊥
    not_apart w f t v W = clash t (ap (λ (z : List ℕ). is_letter (last_of z)) (same_front w v (take n ls) (sym f ∙ before_second v W)) ∙ W.clear)
