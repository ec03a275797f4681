-- A number at the end of a text, alone, behind S or before `:pause`: where it is found the text ends in that part, and only there.
use Prim.Native.Nat.{ℕ}
use mathlib.Core.Path.{◌≡◌, refl, sym, ap, ◌∙◌}
use mathlib.Core.Bool.{true, false, ◌&&◌, ◌||◌}
use mathlib.Core.Option.{some}
use mathlib.Core.List.{List, [], ◌∷◌, ◌++◌, append_assoc}
use native.Mathlib.Omega.{arith}
use lib.Dec.{eqb, leb}
use borrow.Author.Tests.{le-leb}
use Rattle.sets.proofs.Booleans.{or_left, and_both, not_true, clash}
use Rattle.text.specs.Parts.{number, signal_of, pause_at}
use Rattle.text.specs.Spelling.{digits, colon_pause, spelling, last_of}
use Rattle.text.specs.inner.Lexer.{is_digit, is_letter, part_of}
use Rattle.text.proofs.Decimal.{worded, digit_range}
use Rattle.text.proofs.Spelling.{part_found, last_append}
use Rattle.std.specs.Prelude.{None}
use Rattle.reader.specs.inner.Nodes.{clip}
use Rattle.reader.specs.inner.Ending.{Ending, Worded, Words, Number, Numbers, Signal, Signals}
use Rattle.reader.proofs.Endings.{first_letter}
use Rattle.reader.proofs.Numbers.{figures_digits, last_digits, figures_same}

-- ---- Last bytes

pub last_number : (m : ℕ) → is_digit (last_of (spelling (number m))) ≡ true
unfolding spelling
last_number m = last_digits [] m

pub last_signal : (m : ℕ) → is_digit (last_of (spelling (signal_of m))) ≡ true
unfolding spelling
last_signal m = last_digits (83 ∷ []) m

pub last_pause : (m : ℕ) → last_of (spelling (pause_at m)) ≡ 101
unfolding spelling colon_pause last_of
last_pause m = last_append (digits m) 58 (112 ∷ 97 ∷ 117 ∷ 115 ∷ 101 ∷ [])

-- ---- The digits at the end are one number

digits_injective : (m n : ℕ) → digits m ≡ digits n → m ≡ n
unfolding spelling worded
digits_injective m n e =
    let p : part_of (digits m) ≡ some (number m) = part_found (number m) refl in
    let q : part_of (digits n) ≡ some (number n) = part_found (number n) refl in
    cc

number_unique : (u v w : List ℕ) (m n : ℕ) → u ≡ v ++ digits m → u ≡ w ++ digits n → is_digit (last_of v) ≡ false → is_digit (last_of w) ≡ false → (v ≡ w) × (m ≡ n)
number_unique u v w m n e f h k =
    let (p, q) = figures_same v w (digits m) (digits n) (sym e ∙ f) h k (figures_digits m) (figures_digits n) in
    (p, digits_injective m n q)

-- ---- Numbers

-- a digit would be one part with a number behind it
undigital : (b : ℕ) → is_letter b ≡ false → is_digit b ≡ false
unfolding is_letter
undigital b h = not_true (is_digit b) (λ e. let r = digit_range b e in clash (or_left (eqb b 83 || (leb 97 b && leb b 122)) (and_both (leb 48 b) (leb b 58) (le-leb 48 b r.0) (le-leb b 58 (omega arith)))) h)

pub number_ending : {u v : List ℕ} {value : ℕ} (N : Number u v value) → is_letter (last_of v) ≡ false → Ending u v (number N.number)
unfolding spelling
number_ending N h = record { spelt = N.spelt; clear = λ e. h }

-- where no number was found the text ends in none
pub ending_none : (u v : List ℕ) (m : ℕ) → Ending u v (number m) → Numbers u None → ⊥
unfolding spelling worded
ending_none u v m E N = N v m E.spelt (undigital (last_of v) (E.clear (first_letter (number m) refl)))

-- m behind v is the number that was found
pub ending_number : (u v w : List ℕ) (m : ℕ) {value : ℕ} → Ending u w (number m) → Number u v value → (w ≡ v) × (clip m ≡ value) × (is_letter (last_of v) ≡ false)
unfolding spelling worded
ending_number u v w m E N =
    let clear : is_letter (last_of w) ≡ false = E.clear (first_letter (number m) refl) in
    let (p, q) = number_unique u w v m N.number E.spelt N.spelt (undigital (last_of w) clear) N.bounded in
    (p, ap clip q ∙ N.held, sym (ap (λ (x : List ℕ). is_letter (last_of x)) p) ∙ clear)

-- ---- Signals

abbrev mark : List ℕ
mark = 83 ∷ []

pub signal_ending : {u v w : List ℕ} {value : ℕ} (N : Number u v value) → Worded v mark w → Signal u w value
unfolding spelling
signal_ending {w = w} N W =
    record {
      number = N.number;
      there = record { spelt = N.spelt ∙ ap (λ (x : List ℕ). x ++ digits N.number) W.spelt ∙ append_assoc w mark (digits N.number); clear = λ e. W.clear };
      held = N.held;
    }

pub no_signal : (u : List ℕ) → Numbers u None → Signals u None
unfolding spelling worded last_of is_digit
no_signal u N v m E = N (v ++ mark) m (E.spelt ∙ sym (append_assoc v mark (digits m))) (ap is_digit (last_append v 83 []))

-- the number behind S is the one that was found
pub ending_mark : (u v : List ℕ) {value : ℕ} → Number u v value → (w : List ℕ) (m : ℕ) → Ending u w (signal_of m) → Worded v mark w × (clip m ≡ value)
unfolding spelling worded last_of is_digit
ending_mark u v N w m E =
    let last : last_of (w ++ mark) ≡ 83 = last_append w 83 [] in
    let (p, q) = number_unique u (w ++ mark) v m N.number (E.spelt ∙ sym (append_assoc w mark (digits m))) N.spelt (ap is_digit last) N.bounded in
    (record { spelt = sym p; clear = E.clear (first_letter (signal_of m) refl) }, ap clip q ∙ N.held)

pub no_mark : (u v : List ℕ) {value : ℕ} → Number u v value → Words v mark None → Signals u None
no_mark u v N W w m E = W w (ending_mark u v N w m E).0

-- ---- Pauses

pub pause_ending : {u v w : List ℕ} {value : ℕ} → u ≡ v ++ colon_pause → (N : Number v w value) → is_letter (last_of w) ≡ false → Ending u w (pause_at N.number)
unfolding spelling
pause_ending {w = w} e N h =
    record { spelt = e ∙ ap (λ (x : List ℕ). x ++ colon_pause) N.spelt ∙ append_assoc w (digits N.number) colon_pause; clear = λ e. h }

-- what stands before `:pause` ends in the label
pub ending_pause : (u w : List ℕ) (m : ℕ) → Ending u w (pause_at m) → (u ≡ (w ++ digits m) ++ colon_pause) × Ending (w ++ digits m) w (number m)
unfolding spelling worded
ending_pause u w m E =
    (E.spelt ∙ sym (append_assoc w (digits m) colon_pause), record { spelt = refl; clear = λ e. E.clear (first_letter (pause_at m) refl) })
