-- Where a statement is due: what taking its last part comes to, for each last byte and each test of the lexer.
use Prim.Native.Nat.{ℕ, ◌-◌, ◌≤◌}
use mathlib.Core.Path.{◌≡◌, refl, sym, ap, ◌∙◌, subst}
use mathlib.Core.Logic.{◌≢◌}
use mathlib.Core.Bool.{Bool, true, false}
use mathlib.Core.List.{List}
use native.Mathlib.Omega.{arith}
use Rattle.std.specs.Prelude.{None}
use lib.ListN.{length, get_or}
use Rattle.sets.proofs.Booleans.{clash}
use Rattle.text.specs.Parts.{Nothing, Gotopause, Emit, Exit, End, Present, Part, word, number, signal_of, pause_at, closing}
use Rattle.text.specs.Spelling.{letters_of, spelling, last_of}
use Rattle.text.specs.inner.Lexer.{is_digit}
use Rattle.reader.specs.inner.Ending.{Ending, Words}
use Rattle.reader.specs.inner.Nodes.{Kept, Frames, failed, due, numbered, named, work_due, work, made}
use Rattle.reader.specs.inner.Held.{Doomed}
use Rattle.reader.proofs.Bytes.{last_other}
use Rattle.reader.proofs.Numbers.{undigit}
use Rattle.reader.proofs.Numerals.{last_pause}
use Rattle.reader.proofs.Taking.{doomed}
use Rattle.reader.proofs.Suiting.{due_failed, numbered_failed, named_failed}
use Rattle.reader.proofs.Parting.{last_of_lem, last_numbered, last_named, no_word}

-- ---- No part of those that suit a state ends in the byte

module _ {u v : List ℕ} {t : Part} (E : Ending u v t) {c : ℕ} (l : last_of u ≡ c) (a b : Bool) (K : Frames) (B : Kept) where
  due_by : (n : ℕ) → (c ≡ 103 → t ≡ word Nothing → ⊥) → (c ≡ 100 → t ≡ word End → ⊥) → (is_digit c ≡ true → (m : ℕ) → t ≡ number m → ⊥) → (is_digit c ≡ true → (m : ℕ) → t ≡ signal_of m → ⊥)
      → (c ≡ 101 → (m : ℕ) → t ≡ pause_at m → ⊥) → (c ≡ 93 → t ≡ closing → ⊥) → work_due n a b K B t ≡ failed
  unfolding spelling letters_of last_of
  due_by n nothing ending numbers signals pauses closes =
      due_failed n a b K B t (λ e. nothing (sym l ∙ last_of_lem E _ e) e) (λ e. ending (sym l ∙ last_of_lem E _ e) e) (λ m e. numbers (ap is_digit (sym l) ∙ last_numbered E m e) m e)
      (λ m e. signals (ap is_digit (sym l) ∙ last_named E m e) m e) (λ m e. pauses (sym l ∙ last_of_lem E _ e ∙ last_pause m) m e) (λ e. closes (sym l ∙ last_of_lem E _ e) e)

-- ---- A number or a signal was taken

module _ (u : List ℕ) (n k : ℕ) (a b : Bool) (K : Frames) (B : Kept) where
  pub no_jump : Words u (letters_of Exit) None → Words u (letters_of Gotopause) None → Doomed u (numbered n k a b K B)
  unfolding made work
  no_jump f g = doomed u (numbered n k a b K B) (λ e. refl) (λ v t E. numbered_failed n k a b K B t (no_word Gotopause E g) (no_word Exit E f))

  pub no_test : Words u (letters_of Emit) None → Words u (letters_of Present) None → Doomed u (named n k a b K B)
  unfolding made work
  no_test f g = doomed u (named n k a b K B) (λ e. refl) (λ v t E. named_failed n k a b K B t (no_word Emit E f) (no_word Present E g))

-- ---- The last part of a statement

-- a byte that ends no statement
pub record Undue (b : ℕ) : Type 0 where
  pub digits : 48 ≤ b → b ≤ 57 → ⊥
  pub nothing : b ≢ 103
  pub pause : b ≢ 101
  pub ends : b ≢ 100
  pub closes : b ≢ 93

module _ (u : List ℕ) (n : ℕ) (a b : Bool) (K : Frames) (B : Kept) where
  due_doomed : ((v : List ℕ) (t : Part) → Ending u v t → work_due n a b K B t ≡ failed) → Doomed u (due n a b K B)
  unfolding made work
  due_doomed none-suits = doomed u (due n a b K B) (λ e. refl) none-suits

  -- a byte that ends no such part
  pub no_part : (1 ≤ length u → Undue (get_or u (length u - 1) 0)) → Doomed u (due n a b K B)
  no_part f =
      let d = undigit u (λ l. (f l).digits) in
      due_doomed
      (λ v t E. due_by E refl a b K B n (λ c. absurd (last_other u _ (omega arith) (λ l. (f l).nothing) c)) (λ c. absurd (last_other u _ (omega arith) (λ l. (f l).ends) c)) (λ c. clash c d) (λ c. clash c d)
      (λ c. absurd (last_other u _ (omega arith) (λ l. (f l).pause) c)) (λ c. absurd (last_other u _ (omega arith) (λ l. (f l).closes) c)))

  pub no_nothing : last_of u ≡ 103 → Words u (letters_of Nothing) None → Doomed u (due n a b K B)
  unfolding is_digit
  no_nothing l f =
      due_doomed
      (λ v t E. due_by E l a b K B n (λ c. no_word Nothing E f) (λ c. absurd (omega arith)) (λ c. clash c refl) (λ c. clash c refl) (λ c. absurd (omega arith)) (λ c. absurd (omega arith)))

  pub no_end : last_of u ≡ 100 → Words u (letters_of End) None → Doomed u (due n a b K B)
  unfolding is_digit
  no_end l f =
      due_doomed
      (λ v t E. due_by E l a b K B n (λ c. absurd (omega arith)) (λ c. no_word End E f) (λ c. clash c refl) (λ c. clash c refl) (λ c. absurd (omega arith)) (λ c. absurd (omega arith)))

  pub no_pause : last_of u ≡ 101 → ((v : List ℕ) (m : ℕ) → Ending u v (pause_at m) → ⊥) → Doomed u (due n a b K B)
  unfolding is_digit
  no_pause l none =
      due_doomed
      (λ v t E. due_by E l a b K B n (λ c. absurd (omega arith)) (λ c. absurd (omega arith)) (λ c. clash c refl) (λ c. clash c refl) (λ c m e. none v m (subst (λ (x : Part). Ending u v x) e E))
      (λ c. absurd (omega arith)))

  pub no_digits : is_digit (last_of u) ≡ true → ((v : List ℕ) (m : ℕ) → Ending u v (number m) → ⊥) → ((v : List ℕ) (m : ℕ) → Ending u v (signal_of m) → ⊥) → Doomed u (due n a b K B)
  unfolding is_digit
  no_digits d numbers signals =
      due_doomed
      (λ v t E. due_by E refl a b K B n (λ c. not_digit c refl) (λ c. not_digit c refl) (λ c m e. numbers v m (subst (λ (x : Part). Ending u v x) e E))
      (λ c m e. signals v m (subst (λ (x : Part). Ending u v x) e E)) (λ c m. not_digit c refl) (λ c. not_digit c refl))
    where
      not_digit : {A : Type 0} {c : ℕ} → last_of u ≡ c → is_digit c ≡ false → A
      not_digit e f = clash d (ap is_digit e ∙ f)
