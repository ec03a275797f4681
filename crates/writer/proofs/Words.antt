-- The bytes of a node as words and digits, in the order in which they are put, by its kind.
use Prim.Native.Nat.{ℕ, ◌+◌, ◌/◌, ◌%◌, ◌≤◌, ◌<◌}
use mathlib.Core.Path.{◌≡◌, refl, ap, ◌∙◌}
use mathlib.Core.Bool.{Bool, true, false}
use mathlib.Core.List.{List, [], ◌∷◌, ◌++◌, append_assoc}
use native.Mathlib.Omega.{arith}
use borrow.Author.Tests.{ne_eqb}
use Rattle.text.specs.Parts.{Signal, End, Present, word}
use Rattle.text.specs.Spelling.{letters_of, digits, colon_pause, spelling}
use Rattle.text.specs.Writing.{spell_all}
use Rattle.text.proofs.Decimal.{digits_one, digits_long}
use Rattle.writer.specs.inner.Texts.{ahead, after, amid, leaf_text, head_text, between_text, tail_text}
use Rattle.writer.proofs.Putting.{Pieces}

-- ---- Digits

pub digits_two : (n : ℕ) → 10 ≤ n → n < 64 → digits n ≡ (48 + n / 10) ∷ (48 + n % 10) ∷ []
digits_two n h k = digits_long n h ∙ ap (λ (l : List ℕ). l ++ ((48 + n % 10) ∷ [])) (digits_one (n / 10) (omega arith))

-- ---- Statements without children

-- with the operand that was read
module _ (k o : ℕ) {n : ℕ} (operand : n ≡ o) where
  pub pause_words : k ≡ 1 → Pieces (leaf_text k o) (digits n) (58 ∷ 112 ∷ 97 ∷ 117 ∷ 115 ∷ 101 ∷ [])
  unfolding leaf_text spell_all spelling colon_pause
  pause_words e = record { is = rw (operand, e) }

  pub gotopause_words : k ≡ 2 → leaf_text k o ≡ (103 ∷ 111 ∷ 116 ∷ 111 ∷ 112 ∷ 97 ∷ 117 ∷ 115 ∷ 101 ∷ 32 ∷ []) ++ digits n
  unfolding leaf_text spell_all spelling letters_of
  gotopause_words e = rw (operand, e)

  pub emit_words : k ≡ 3 → leaf_text k o ≡ (101 ∷ 109 ∷ 105 ∷ 116 ∷ 32 ∷ 83 ∷ []) ++ digits n
  unfolding leaf_text spell_all spelling letters_of
  emit_words e = rw (operand, e)

  pub exit_words : k ≡ 4 → leaf_text k o ≡ (101 ∷ 120 ∷ 105 ∷ 116 ∷ 32 ∷ []) ++ digits n
  unfolding leaf_text spell_all spelling letters_of
  exit_words e = rw (operand, e)

module _ (k o : ℕ) where
  pub nothing_words : (k ≡ 1 → ⊥) → (k ≡ 2 → ⊥) → (k ≡ 3 → ⊥) → (k ≡ 4 → ⊥) → leaf_text k o ≡ 110 ∷ 111 ∷ 116 ∷ 104 ∷ 105 ∷ 110 ∷ 103 ∷ []
  unfolding leaf_text spell_all spelling letters_of
  nothing_words a b c d = rw (ne_eqb k 1 a, ne_eqb k 2 b, ne_eqb k 3 c, ne_eqb k 4 d)

-- ---- Before the first child

module _ (k o : ℕ) {n : ℕ} (operand : n ≡ o) where
  pub signal_words : (b : Bool) → k ≡ 5 → Pieces (head_text k o b) ((115 ∷ 105 ∷ 103 ∷ 110 ∷ 97 ∷ 108 ∷ 32 ∷ 83 ∷ []) ++ digits n) (32 ∷ 105 ∷ 110 ∷ 32 ∷ [])
  unfolding head_text ahead spell_all spelling letters_of
  signal_words b e = record { is = rw (operand, e) (append_assoc (letters_of Signal ++ (32 ∷ 83 ∷ digits o)) (32 ∷ 105 ∷ 110 ∷ []) (32 ∷ [])) }

  pub present_words : (b : Bool) → k ≡ 6 → Pieces (head_text k o b) ((112 ∷ 114 ∷ 101 ∷ 115 ∷ 101 ∷ 110 ∷ 116 ∷ 32 ∷ 83 ∷ []) ++ digits n) (32 ∷ 116 ∷ 104 ∷ 101 ∷ 110 ∷ 32 ∷ [])
  unfolding head_text ahead spell_all spelling letters_of
  present_words b e = record { is = rw (operand, e) (append_assoc (letters_of Present ++ (32 ∷ 83 ∷ digits o)) (32 ∷ 116 ∷ 104 ∷ 101 ∷ 110 ∷ []) (32 ∷ [])) }

module _ (k o : ℕ) where
  pub loop_words : (b : Bool) → k ≡ 9 → head_text k o b ≡ 108 ∷ 111 ∷ 111 ∷ 112 ∷ 32 ∷ []
  unfolding head_text ahead spell_all spelling letters_of
  loop_words b e = rw e

  pub try_words : (b : Bool) → k ≡ 10 → head_text k o b ≡ 116 ∷ 114 ∷ 121 ∷ 32 ∷ []
  unfolding head_text ahead spell_all spelling letters_of
  try_words b e = rw e

  module _ (n5 : k ≡ 5 → ⊥) (n6 : k ≡ 6 → ⊥) (n9 : k ≡ 9 → ⊥) (n10 : k ≡ 10 → ⊥) where
    pub opening_word : (b : Bool) → b ≡ true → head_text k o b ≡ 91 ∷ 32 ∷ []
    unfolding head_text ahead spell_all spelling
    opening_word b e = rw (ne_eqb k 5 n5, ne_eqb k 6 n6, ne_eqb k 9 n9, ne_eqb k 10 n10, e)

    pub no_opening : (b : Bool) → b ≡ false → head_text k o b ≡ []
    unfolding head_text
    no_opening b e = rw (ne_eqb k 5 n5, ne_eqb k 6 n6, ne_eqb k 9 n9, ne_eqb k 10 n10, e)

-- ---- Between the children, and behind the last

module _ (k : ℕ) where
  pub semicolon_word : k ≡ 7 → between_text k ≡ 32 ∷ 59 ∷ 32 ∷ []
  unfolding between_text amid ahead spell_all spelling
  semicolon_word e = rw e

  pub bars_word : k ≡ 8 → between_text k ≡ 32 ∷ 124 ∷ 124 ∷ 32 ∷ []
  unfolding between_text amid ahead spell_all spelling
  bars_word e = rw e

  pub else_word : (k ≡ 7 → ⊥) → (k ≡ 8 → ⊥) → between_text k ≡ 32 ∷ 101 ∷ 108 ∷ 115 ∷ 101 ∷ 32 ∷ []
  unfolding between_text amid ahead spell_all spelling letters_of
  else_word a b = rw (ne_eqb k 7 a, ne_eqb k 8 b)

  pub end_word : (b : Bool) → k ≡ 6 → tail_text k b ≡ 32 ∷ 101 ∷ 110 ∷ 100 ∷ []
  unfolding tail_text after spelling letters_of
  end_word b e = rw e

  pub closing_word : (b : Bool) → (k ≡ 6 → ⊥) → b ≡ true → tail_text k b ≡ 32 ∷ 93 ∷ []
  unfolding tail_text after spelling
  closing_word b n e = rw (ne_eqb k 6 n, e)

  pub no_closing : (b : Bool) → (k ≡ 6 → ⊥) → b ≡ false → tail_text k b ≡ []
  unfolding tail_text
  no_closing b n e = rw (ne_eqb k 6 n, e)

pub end_alone : after (word End) ≡ 32 ∷ 101 ∷ 110 ∷ 100 ∷ []
unfolding after spelling letters_of
end_alone = refl
