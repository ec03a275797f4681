-- The last byte of a text, and the bytes that it ends in.
use Prim.Native.Nat.{ℕ, suc, ◌+◌, ◌-◌, ◌≤◌, ◌<◌}
use mathlib.Core.Path.{◌≡◌, refl, sym, ap, ◌∙◌}
use mathlib.Core.Bool.{true, false}
use mathlib.Core.Logic.{◌≢◌}
use mathlib.Core.List.{List, [], ◌∷◌, ◌++◌}
use native.Mathlib.Omega.{arith}
use denote.Ref.{Bor}
use lib.Dec.{eqb}
use lib.ListN.{length, get_or, take, drop}
use lib.Seq.{take-suc, take-length}
use Rattle.std.specs.Prelude.{Some, None}
use Rattle.std.specs.Cmp.Lexicographic.{pointwise}
use Rattle.std.proofs.lemmas.Slice.Eq.{strip_suffix_is}
use Rattle.std.proofs.lemmas.Bool.Decides.{Decides-eqb}
use Rattle.text.specs.Spelling.{last_of}
use Rattle.text.proofs.Spelling.{last_append}
use Rattle.reader.specs.inner.Blanks.{blank_byte}

-- ---- The last byte

pub last_snoc : (u : List ℕ) (b : ℕ) → last_of (u ++ (b ∷ [])) ≡ b
unfolding last_of
last_snoc u b = last_append u b []

pub last_apart : (u : List ℕ) → 1 ≤ length u → u ≡ take (length u - 1) u ++ (get_or u (length u - 1) 0 ∷ [])
last_apart u h =
    let e : length u ≡ suc (length u - 1) = omega arith in
    sym (take-length u) ∙ ap (λ (n : ℕ). take n u) e ∙ take-suc u (length u - 1) 0 (omega arith)

pub last_at : (u : List ℕ) → 1 ≤ length u → get_or u (length u - 1) 0 ≡ last_of u
last_at u h = sym (ap last_of (last_apart u h) ∙ last_snoc (take (length u - 1) u) (get_or u (length u - 1) 0))

pub last_none : (u : List ℕ) → length u < 1 → 0 ≡ last_of u
unfolding last_of
last_none [] h = refl
last_none (b ∷ u) h = absurd (omega arith)

pub last_is : (u : List ℕ) {b : ℕ} → 1 ≤ length u → get_or u (length u - 1) 0 ≡ b → last_of u ≡ b
last_is u h e = sym (last_at u h) ∙ e

-- a text that ends in a byte has one
pub last_some : (u : List ℕ) {b : ℕ} → 1 ≤ b → last_of u ≡ b → 1 ≤ length u
last_some [] h e = let z : 0 ≡ last_of [] = last_none [] (omega arith) in absurd (omega arith)
last_some (a ∷ u) h e = omega arith

-- it is none that no text ends in
pub last_other : (u : List ℕ) (b : ℕ) → 1 ≤ b → (1 ≤ length u → get_or u (length u - 1) 0 ≢ b) → last_of u ≢ b
last_other [] b h f e = let z : 0 ≡ last_of [] = last_none [] (omega arith) in omega arith
last_other (a ∷ u) b h f e = f (omega arith) (last_at (a ∷ u) (omega arith) ∙ e)

pub no_blank : (u : List ℕ) → length u < 1 → false ≡ blank_byte (get_or u 0 0)
unfolding blank_byte
no_blank [] e = refl
no_blank (b ∷ u) e = absurd (omega arith)

-- ---- What stands before the bytes that a text ends in

pub split_none : (u ls v : List ℕ) → pointwise eqb (drop (length u - length ls) u) ls ≡ false → u ≡ v ++ ls → ⊥
split_none u ls v h e = strip_suffix_is Decides-eqb u ls None h v e

pub split_some : (u ls : List ℕ) (x : Bor (List ℕ)) → (pointwise eqb (drop (length u - length ls) u) ls ≡ true) × (x.now ≡ take (length u - length ls) u) × (length x.now + length ls ≡ length u) → u ≡ x.now ++ ls
split_some u ls x h = strip_suffix_is Decides-eqb u ls (Some x) h

-- the last byte is no blank
pub solid_none : (u : List ℕ) → length u < 1 → blank_byte (last_of u) ≡ false
unfolding blank_byte
solid_none u h = rw (← last_none u h)

pub solid_last : (u : List ℕ) → 1 ≤ length u → blank_byte (get_or u (length u - 1) 0) ≡ false → blank_byte (last_of u) ≡ false
solid_last u h e = ap blank_byte (sym (last_at u h)) ∙ e
