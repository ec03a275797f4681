-- Parts at the end of a text, by its last byte and by the tests of the lexer: which part can end there.
use Prim.Native.Nat.{ℕ, ◌-◌, ◌≤◌}
use mathlib.Core.Path.{◌≡◌, refl, sym, ap, ◌∙◌, subst}
use mathlib.Core.Bool.{true, false}
use mathlib.Core.List.{List, [], ◌∷◌, ◌++◌}
use native.Mathlib.Omega.{arith}
use lib.ListN.{length, take}
use Rattle.std.specs.Prelude.{None}
use Rattle.sets.proofs.Booleans.{clash}
use Rattle.text.specs.Parts.{Word, Part, word, number, signal_of}
use Rattle.text.specs.Spelling.{letters_of, spelling, first_of, last_of}
use Rattle.text.specs.inner.Lexer.{is_digit, is_letter}
use Rattle.text.proofs.Decimal.{worded}
use Rattle.reader.specs.inner.Ending.{Ending, Worded, Words}
use Rattle.reader.proofs.Endings.{first_letter, ending_last}
use Rattle.reader.proofs.Places.{byte_apart}
use Rattle.reader.proofs.Numerals.{last_number, last_signal}

-- a text that has a byte is not empty
pub some_bytes : {A : Type 0} (u : List ℕ) → 1 ≤ length u → u ≡ [] → A
some_bytes u some e = absurd (omega (arith, ap length e))

-- ---- Parts by the last byte

module _ {u v : List ℕ} {t : Part} (E : Ending u v t) where
  pub last_of_lem : (s : Part) → t ≡ s → last_of u ≡ last_of (spelling s)
  last_of_lem s e = ending_last u v t E ∙ ap (λ (x : Part). last_of (spelling x)) e

  pub last_numbered : (m : ℕ) → t ≡ number m → is_digit (last_of u) ≡ true
  last_numbered m e = ap is_digit (last_of_lem (number m) e) ∙ last_number m

  pub last_named : (m : ℕ) → t ≡ signal_of m → is_digit (last_of u) ≡ true
  last_named m e = ap is_digit (last_of_lem (signal_of m) e) ∙ last_signal m

-- ---- Words

pub word_ending : (w : Word) {u v : List ℕ} → Worded u (letters_of w) v → Ending u v (word w)
unfolding spelling
word_ending w W = record { spelt = W.spelt; clear = λ e. W.clear }

-- a text in which the word was not found does not end in it
pub no_word : (w : Word) {u v : List ℕ} {t : Part} → Ending u v t → Words u (letters_of w) None → t ≡ word w → ⊥
unfolding spelling worded
no_word w {u} {v} E none e = let F = subst (Ending u v) e E in none v (record { spelt = F.spelt; clear = F.clear (first_letter (word w) refl) })

-- ---- Parts of one byte

pub byte_ending : (u : List ℕ) (t : Part) {c : ℕ} → 1 ≤ length u → last_of u ≡ c → spelling t ≡ c ∷ [] → is_letter c ≡ false → Ending u (take (length u - 1) u) t
unfolding first_of
byte_ending u t some last is plain =
    record {
      spelt = byte_apart u some last ∙ ap (λ (x : List ℕ). take (length u - 1) u ++ x) (sym is);
      clear = λ e. clash (sym (ap (λ (x : List ℕ). is_letter (first_of x)) is) ∙ e) plain;
    }
