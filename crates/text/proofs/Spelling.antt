-- Letters and digits that are one part: each part is found from its spelling, and nothing else is taken for it.
use Prim.Native.Nat.{ℕ, ◌+◌, ◌/◌, ◌%◌}
use mathlib.Core.Path.{◌≡◌, refl, sym, ap, ◌∙◌, subst}
use mathlib.Core.Bool.{Bool, true, false, cond, ◌&&◌, ◌||◌, true≢false}
use mathlib.Core.Option.{Option, none, some}
use mathlib.Core.List.{List, [], ◌∷◌, ◌++◌, append-nil}
use native.Mathlib.Omega.{arith}
use lib.Dec.{eqb, leb, ltb}
use borrow.Author.Tests.{eqb-true, ltb-true, ltb-false}
use Rattle.sets.proofs.Booleans.{by_cond, or_left}
use Rattle.text.specs.Parts.{Word, Nothing, Gotopause, Emit, Exit, Signal, In, End, Present, Then, Else, Loop, Try, Part, word, number, signal_of, pause_at, semicolon, bars, opening, closing}
use Rattle.text.specs.Spelling.{letters_of, digits, colon_pause, spelling, alnum, first_of, last_of, meeting}
use Rattle.text.specs.inner.Lexer.{is_digit, is_letter, same, find_word, words, scan, digit_first, numeral, as_signal, part_of}
use Rattle.text.proofs.Decimal.{worded, is_digit_lem, digits_one, digits_long, same_equal, Spelt, spelt_some, not_found, numeral_spelt, numeral_digits, begins, Letters, letters_append, letters_digits}

-- ---- What is found is spelled so

word_spelt : (ws : List Word) (bs : List ℕ) (t : Part) → find_word ws bs ≡ some t → Spelt bs t
unfolding find_word
word_spelt [] bs t = λ e. not_found t e
word_spelt (w ∷ ws) bs t =
    by_cond (λ (r : Option Part). r ≡ some t → Spelt bs t) (same bs (letters_of w)) (some (word w)) (find_word ws bs)
    (λ s e. spelt_some bs (word w) t (unfold spelling worded in record { is = same_equal bs (letters_of w) s; of_letters = refl }) e)
    (λ s e. word_spelt ws bs t e)

signal_spelt : (bs : List ℕ) (r : Option Part) (t : Part) → ((u : Part) → r ≡ some u → Spelt bs u) → as_signal r ≡ some t → Spelt (83 ∷ bs) t
unfolding as_signal spelling worded
signal_spelt bs none t f e = not_found t e
signal_spelt bs (some (word w)) t f e = not_found t e
signal_spelt bs (some (number n)) t f e =
    spelt_some (83 ∷ bs) (signal_of n) t (record { is = ap (λ (x : List ℕ). 83 ∷ x) (f (number n) refl).is; of_letters = refl }) e
signal_spelt bs (some (signal_of S)) t f e = not_found t e
signal_spelt bs (some (pause_at l)) t f e = not_found t e
signal_spelt bs (some semicolon) t f e = not_found t e
signal_spelt bs (some bars) t f e = not_found t e
signal_spelt bs (some opening) t f e = not_found t e
signal_spelt bs (some closing) t f e = not_found t e

pub part_spelt : (bs : List ℕ) (t : Part) → part_of bs ≡ some t → Spelt bs t
unfolding part_of
part_spelt [] t = λ e. not_found t e
part_spelt (b ∷ bs) t =
    by_cond (λ (r : Option Part). r ≡ some t → Spelt (b ∷ bs) t) (is_digit b) (numeral (b ∷ bs)) (cond (eqb b 83) (as_signal (numeral bs)) (find_word words (b ∷ bs)))
    (λ s e. numeral_spelt (b ∷ bs) t e)
    (λ s. by_cond (λ (r : Option Part). r ≡ some t → Spelt (b ∷ bs) t) (eqb b 83) (as_signal (numeral bs)) (find_word words (b ∷ bs))
    (λ z e. subst (λ (x : ℕ). Spelt (x ∷ bs) t) (sym (eqb-true b 83 z)) (signal_spelt bs (numeral bs) t (numeral_spelt bs) e))
    (λ z e. word_spelt words (b ∷ bs) t e))

-- ---- What is spelled so is found

part_word : (w : Word) → part_of (letters_of w) ≡ some (word w)
unfolding part_of letters_of is_digit find_word words same
part_word Nothing = refl
part_word Gotopause = refl
part_word Emit = refl
part_word Exit = refl
part_word Signal = refl
part_word In = refl
part_word End = refl
part_word Present = refl
part_word Then = refl
part_word Else = refl
part_word Loop = refl
part_word Try = refl

-- where digits begin, a number or a pause is looked for
part_digits : (n : ℕ) (x : List ℕ) → digit_first x ≡ false → part_of (digits n ++ x) ≡ scan n x
unfolding part_of
part_digits n x h =
    let B = begins n in
    ap (λ (l : List ℕ). part_of (l ++ x)) B.shape
    ∙ ap (λ (z : Bool). cond z (numeral (B.first ∷ (B.rest ++ x))) (cond (eqb B.first 83) (as_signal (numeral (B.rest ++ x))) (find_word words (B.first ∷ (B.rest ++ x))))) B.digit
    ∙ sym (ap (λ (l : List ℕ). numeral (l ++ x)) B.shape)
    ∙ numeral_digits n x h

number_found : (n : ℕ) → part_of (digits n) ≡ some (number n)
unfolding digit_first scan
number_found n = sym (ap part_of (append-nil (digits n))) ∙ part_digits n [] refl

pause_found : (l : ℕ) → part_of (digits l ++ colon_pause) ≡ some (pause_at l)
unfolding digit_first scan colon_pause is_digit same
pause_found l = part_digits l colon_pause refl

signal_found : (S : ℕ) → part_of (83 ∷ digits S) ≡ some (signal_of S)
unfolding part_of is_digit digit_first scan as_signal
signal_found S = ap as_signal (sym (ap numeral (append-nil (digits S))) ∙ numeral_digits S [] refl)

pub part_found : (t : Part) → worded t ≡ true → part_of (spelling t) ≡ some t
unfolding worded spelling
part_found (word w) h = part_word w
part_found (number n) h = number_found n
part_found (signal_of S) h = signal_found S
part_found (pause_at l) h = pause_found l
part_found semicolon h = absurd (true≢false (sym h))
part_found bars h = absurd (true≢false (sym h))
part_found opening h = absurd (true≢false (sym h))
part_found closing h = absurd (true≢false (sym h))

-- ---- A word part is letters and digits, with a first one

letters_word : (w : Word) → Letters (letters_of w)
unfolding letters_of is_letter
letters_word Nothing = (refl, (refl, (refl, (refl, (refl, (refl, (refl, tt)))))))
letters_word Gotopause = (refl, (refl, (refl, (refl, (refl, (refl, (refl, (refl, (refl, tt)))))))))
letters_word Emit = (refl, (refl, (refl, (refl, tt))))
letters_word Exit = (refl, (refl, (refl, (refl, tt))))
letters_word Signal = (refl, (refl, (refl, (refl, (refl, (refl, tt))))))
letters_word In = (refl, (refl, tt))
letters_word End = (refl, (refl, (refl, tt)))
letters_word Present = (refl, (refl, (refl, (refl, (refl, (refl, (refl, tt)))))))
letters_word Then = (refl, (refl, (refl, (refl, tt))))
letters_word Else = (refl, (refl, (refl, (refl, tt))))
letters_word Loop = (refl, (refl, (refl, (refl, tt))))
letters_word Try = (refl, (refl, (refl, tt)))

pub letters_colon : Letters colon_pause
unfolding colon_pause is_letter
letters_colon = (refl, (refl, (refl, (refl, (refl, (refl, tt))))))

pub letters_part : (t : Part) → worded t ≡ true → Letters (spelling t)
unfolding worded spelling is_letter
letters_part (word w) h = letters_word w
letters_part (number n) h = letters_digits n
letters_part (signal_of S) h = (refl, letters_digits S)
letters_part (pause_at l) h = letters_append (digits l) colon_pause (letters_digits l) letters_colon
letters_part semicolon h = absurd (true≢false (sym h))
letters_part bars h = absurd (true≢false (sym h))
letters_part opening h = absurd (true≢false (sym h))
letters_part closing h = absurd (true≢false (sym h))

pub record Nonempty (bs : List ℕ) : Type 0 where
  pub first : ℕ
  pub rest : List ℕ
  pub shape : bs ≡ first ∷ rest

nonempty_digits : (n : ℕ) (x : List ℕ) → Nonempty (digits n ++ x)
nonempty_digits n x = let B = begins n in record { first = B.first; rest = B.rest ++ x; shape = ap (λ (l : List ℕ). l ++ x) B.shape }

nonempty_word : (w : Word) → Nonempty (letters_of w)
unfolding letters_of
nonempty_word Nothing = record { first = _; rest = _; shape = refl }
nonempty_word Gotopause = record { first = _; rest = _; shape = refl }
nonempty_word Emit = record { first = _; rest = _; shape = refl }
nonempty_word Exit = record { first = _; rest = _; shape = refl }
nonempty_word Signal = record { first = _; rest = _; shape = refl }
nonempty_word In = record { first = _; rest = _; shape = refl }
nonempty_word End = record { first = _; rest = _; shape = refl }
nonempty_word Present = record { first = _; rest = _; shape = refl }
nonempty_word Then = record { first = _; rest = _; shape = refl }
nonempty_word Else = record { first = _; rest = _; shape = refl }
nonempty_word Loop = record { first = _; rest = _; shape = refl }
nonempty_word Try = record { first = _; rest = _; shape = refl }

pub nonempty_part : (t : Part) → Nonempty (spelling t)
unfolding spelling
nonempty_part (word w) = nonempty_word w
nonempty_part (number n) = let B = begins n in record { first = B.first; rest = B.rest; shape = B.shape }
nonempty_part (signal_of S) = record { first = _; rest = _; shape = refl }
nonempty_part (pause_at l) = nonempty_digits l colon_pause
nonempty_part semicolon = record { first = _; rest = _; shape = refl }
nonempty_part bars = record { first = _; rest = _; shape = refl }
nonempty_part opening = record { first = _; rest = _; shape = refl }
nonempty_part closing = record { first = _; rest = _; shape = refl }

-- ---- Where letters or digits would meet

pub last_append : (bs : List ℕ) (c : ℕ) (cs : List ℕ) → last_of (bs ++ (c ∷ cs)) ≡ last_of (c ∷ cs)
unfolding last_of
last_append [] c cs = refl
last_append (b ∷ []) c cs = refl
last_append (b ∷ d ∷ bs) c cs = last_append (d ∷ bs) c cs

alnum_digit : (b : ℕ) → is_digit b ≡ true → alnum b ≡ true
unfolding alnum is_digit
alnum_digit b e = or_left ((leb 65 b && leb b 90) || (leb 97 b && leb b 122)) e

last_digit : (n : ℕ) → alnum (last_of (digits n)) ≡ true
unfolding last_of
last_digit n = go (ltb n 10) refl
  where
    go : (z : Bool) → ltb n 10 ≡ z → alnum (last_of (digits n)) ≡ true
    go true e =
        let l = ltb-true n 10 e in
        ap (λ (x : List ℕ). alnum (last_of x)) (digits_one n l) ∙ alnum_digit (48 + n) (is_digit_lem (48 + n) (omega arith) (omega arith))
    go false e =
        let l = ltb-false n 10 e in
        let d : is_digit (48 + n % 10) ≡ true = is_digit_lem (48 + n % 10) (omega arith) (omega arith) in
        ap (λ (x : List ℕ). alnum (last_of x)) (digits_long n l) ∙ ap alnum (last_append (digits (n / 10)) (48 + n % 10) []) ∙ alnum_digit (48 + n % 10) d

first_digit : (n : ℕ) (x : List ℕ) → alnum (first_of (digits n ++ x)) ≡ true
unfolding first_of
first_digit n x = let B = begins n in ap (λ (l : List ℕ). alnum (first_of (l ++ x))) B.shape ∙ alnum_digit B.first B.digit

-- a part is worded exactly where its first byte is a letter or a digit, and exactly where its last is
worded_first : (t : Part) → alnum (first_of (spelling t)) ≡ worded t
unfolding alnum first_of spelling worded letters_of
worded_first (word Nothing) = refl
worded_first (word Gotopause) = refl
worded_first (word Emit) = refl
worded_first (word Exit) = refl
worded_first (word Signal) = refl
worded_first (word In) = refl
worded_first (word End) = refl
worded_first (word Present) = refl
worded_first (word Then) = refl
worded_first (word Else) = refl
worded_first (word Loop) = refl
worded_first (word Try) = refl
worded_first (number n) = ap (λ (x : List ℕ). alnum (first_of x)) (sym (append-nil (digits n))) ∙ first_digit n []
worded_first (signal_of S) = refl
worded_first (pause_at l) = first_digit l colon_pause
worded_first semicolon = refl
worded_first bars = refl
worded_first opening = refl
worded_first closing = refl

worded_last : (t : Part) → alnum (last_of (spelling t)) ≡ worded t
unfolding alnum last_of spelling worded letters_of colon_pause
worded_last (word Nothing) = refl
worded_last (word Gotopause) = refl
worded_last (word Emit) = refl
worded_last (word Exit) = refl
worded_last (word Signal) = refl
worded_last (word In) = refl
worded_last (word End) = refl
worded_last (word Present) = refl
worded_last (word Then) = refl
worded_last (word Else) = refl
worded_last (word Loop) = refl
worded_last (word Try) = refl
worded_last (number n) = last_digit n
worded_last (signal_of S) = let B = begins S in ap (λ (x : List ℕ). alnum (last_of (83 ∷ x))) B.shape ∙ sym (ap (λ (x : List ℕ). alnum (last_of x)) B.shape) ∙ last_digit S
worded_last (pause_at l) = ap alnum (last_append (digits l) 58 (112 ∷ 97 ∷ 117 ∷ 115 ∷ 101 ∷ []))
worded_last semicolon = refl
worded_last bars = refl
worded_last opening = refl
worded_last closing = refl

pub meet_worded : (t u : Part) → meeting t u ≡ (worded t && worded u)
unfolding meeting
meet_worded t u = ap (λ (z : Bool). z && alnum (first_of (spelling u))) (worded_last t) ∙ ap (λ (z : Bool). worded t && z) (worded_first u)
