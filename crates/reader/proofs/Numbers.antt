-- The number at the end of a text: the digits that end there are found in one way only, and are a number unless they begin with 0.
use Prim.Native.Nat.{ℕ, zero, suc, ◌+◌, ◌-◌, ◌*◌, ◌/◌, ◌%◌, ◌≤◌, ◌<◌}
use mathlib.Core.Path.{◌≡◌, refl, sym, ap, ◌∙◌, subst}
use mathlib.Core.Bool.{Bool, true, false, cond, true≢false}
use mathlib.Core.Option.{none, none-ne-some}
use mathlib.Core.List.{List, [], ◌∷◌, ◌++◌, append-nil, append_assoc, tail-eq_of_cons-eq}
use native.Mathlib.Nat.{add-zero}
use native.Mathlib.Omega.{arith}
use lib.Dec.{ltb}
use lib.ListN.{length, get_or, take, drop, take-append-drop, length-take, length-append}
use lib.Seq.{drop_at, get_or-append-add}
use borrow.Author.Tests.{ltb-true, ltb-false}
use Rattle.sets.proofs.Booleans.{clash, not_true}
use Rattle.text.specs.Parts.{number}
use Rattle.text.specs.Spelling.{digits, last_of}
use Rattle.text.specs.inner.Lexer.{is_digit, scan, digit_first, numeral}
use Rattle.text.proofs.Decimal.{digit_range, is_digit_lem, digits_one, digits_long, digits_more, numeral_digits, begins}
use Rattle.text.proofs.Spelling.{last_append}
use Rattle.std.specs.Prelude.{None}
use Rattle.reader.specs.inner.Nodes.{clip}
use Rattle.reader.specs.inner.Ending.{Figures, Three, Number, Numbers}
use Rattle.reader.proofs.Bytes.{last_apart, last_at}
use Rattle.reader.proofs.Working.{clip_small, clip_large}

-- ---- Bytes that are digits

figures_append : (ds es : List ℕ) → Figures ds → Figures es → Figures (ds ++ es)
figures_append [] es h k = k
figures_append (d ∷ ds) es h k = (h.0, figures_append ds es h.1 k)

figures_front : (ds es : List ℕ) → Figures (ds ++ es) → Figures ds
figures_front [] es h = tt
figures_front (d ∷ ds) es h = (h.0, figures_front ds es h.1)

last_figure : (d : ℕ) (ds : List ℕ) → Figures (d ∷ ds) → is_digit (last_of (d ∷ ds)) ≡ true
unfolding last_of
last_figure d [] h = h.0
last_figure d (e ∷ ds) h = last_figure e ds h.1

one_figure : (n : ℕ) → n < 10 → Figures ((48 + n) ∷ [])
one_figure n h = (is_digit_lem (48 + n) (omega arith) (omega arith), tt)

figures_within : (f n : ℕ) → n < f → Figures (digits n)
figures_within zero n h = absurd (omega arith)
figures_within (suc f) n h = go (figures_within f (n / 10)) (ltb n 10) refl
  where
    go : (n / 10 < f → Figures (digits (n / 10))) → (z : Bool) → ltb n 10 ≡ z → Figures (digits n)
    go ih true e = let l = ltb-true n 10 e in subst Figures (sym (digits_one n l)) (one_figure n l)
    go ih false e =
        let l = ltb-false n 10 e in
        subst Figures (sym (digits_long n l)) (figures_append (digits (n / 10)) ((48 + n % 10) ∷ []) (ih (omega arith)) (one_figure (n % 10) (omega arith)))

pub figures_digits : (n : ℕ) → Figures (digits n)
figures_digits n = figures_within (suc n) n (omega arith)

pub last_digits : (v : List ℕ) (n : ℕ) → is_digit (last_of (v ++ digits n)) ≡ true
last_digits v n =
    let B = begins n in
    ap (λ (x : List ℕ). is_digit (last_of (v ++ x))) B.shape ∙ ap is_digit (last_append v B.first B.rest) ∙ last_figure B.first B.rest (subst Figures B.shape (figures_digits n))

-- ---- The digits that end a text are found in one way only

no_digit_behind : (a : ℕ) (v : List ℕ) → is_digit (last_of (a ∷ v)) ≡ false → is_digit (last_of v) ≡ false
unfolding last_of is_digit
no_digit_behind a [] f = refl
no_digit_behind a (b ∷ v) f = f

pub figures_same : (v w ds es : List ℕ) → v ++ ds ≡ w ++ es → is_digit (last_of v) ≡ false → is_digit (last_of w) ≡ false → Figures ds → Figures es → (v ≡ w) × (ds ≡ es)
figures_same [] [] ds es e f g h k = (refl, e)
figures_same [] (b ∷ w) ds es e f g h k = clash (last_figure b w (figures_front (b ∷ w) es (subst Figures e h))) g
figures_same (a ∷ v) [] ds es e f g h k = clash (last_figure a v (figures_front (a ∷ v) ds (subst Figures (sym e) k))) f
figures_same (a ∷ v) (b ∷ w) ds es e f g h k =
    let first : a ≡ b = cc in
    let (p, q) = figures_same v w ds es (tail-eq_of_cons-eq e) (no_digit_behind a v f) (no_digit_behind b w g) h k in
    (cc, q)

-- no number has a digit behind a leading 0
unread : (d : ℕ) (ds : List ℕ) → numeral (48 ∷ d ∷ ds) ≡ cond (is_digit d) none (scan 0 (d ∷ ds))
unfolding numeral digit_first is_digit
unread d ds = refl

leading_zero : (d : ℕ) (ds : List ℕ) (n : ℕ) → is_digit d ≡ true → digits n ≡ 48 ∷ d ∷ ds → ⊥
unfolding digit_first scan
leading_zero d ds n h e =
    none-ne-some (number n)
    (sym (unread d ds ∙ ap (λ (z : Bool). cond z none (scan 0 (d ∷ ds))) h) ∙ ap numeral (sym e ∙ sym (append-nil (digits n))) ∙ numeral_digits n [] refl)

-- ---- From digits to a number

digits_first : (d : ℕ) → is_digit d ≡ true → digits (d - 48) ≡ d ∷ []
digits_first d h =
    let r = digit_range d h in
    let e : 48 + (d - 48) ≡ d = omega arith in
    digits_one (d - 48) (omega arith) ∙ ap (λ (x : ℕ). x ∷ []) e

digits_next : (v d : ℕ) (ds : List ℕ) → 1 ≤ v → is_digit d ≡ true → digits (v * 10 + (d - 48)) ++ ds ≡ digits v ++ (d ∷ ds)
digits_next v d ds l h =
    let r = digit_range d h in
    let e : 48 + (d - 48) ≡ d = omega arith in
    ap (λ (x : List ℕ). x ++ ds) (digits_more v (d - 48) l (omega arith)) ∙ append_assoc (digits v) ((48 + (d - 48)) ∷ []) ds ∙ ap (λ (x : ℕ). digits v ++ (x ∷ ds)) e

record Continued (v : ℕ) (ds : List ℕ) : Type 0 where
  number : ℕ
  spelt : digits number ≡ digits v ++ ds
  grown : v ≤ number

continued : (v : ℕ) (ds : List ℕ) → 1 ≤ v → Figures ds → Continued v ds
continued v [] l h = record { number = v; spelt = sym (append-nil (digits v)); grown = omega arith }
continued v (d ∷ ds) l h =
    let C = continued (v * 10 + (d - 48)) ds (omega arith) h.1 in
    record { number = C.number; spelt = C.spelt ∙ digits_next v d ds l h.0; grown = omega arith }

-- ---- Digits at the end of a text

pub no_number : (u : List ℕ) → is_digit (last_of u) ≡ false → Numbers u None
no_number u f v m e g = clash (ap (λ (x : List ℕ). is_digit (last_of x)) e ∙ last_digits v m) f

-- u is w and two digits, of which the second was cut off first
pub two_apart : (u v : List ℕ) (ones tens : ℕ) → u ≡ v ++ (ones ∷ []) → 1 ≤ length v → tens ≡ last_of v → u ≡ take (length v - 1) v ++ (tens ∷ ones ∷ [])
two_apart u v ones tens e l h =
    e
    ∙ ap (λ (x : List ℕ). x ++ (ones ∷ [])) (last_apart v l ∙ ap (λ (b : ℕ). take (length v - 1) v ++ (b ∷ [])) (last_at v l ∙ sym h))
    ∙ append_assoc (take (length v - 1) v) (tens ∷ []) (ones ∷ [])

pub some_digit : (u : List ℕ) → is_digit (last_of u) ≡ true → 1 ≤ length u
unfolding last_of is_digit
some_digit [] e = absurd (true≢false (sym e))
some_digit (b ∷ u) e = omega arith

-- the last byte is no digit
pub undigit : (u : List ℕ) → (1 ≤ length u → 48 ≤ get_or u (length u - 1) 0 → get_or u (length u - 1) 0 ≤ 57 → ⊥) → is_digit (last_of u) ≡ false
undigit u f =
    not_true (is_digit (last_of u)) (λ e. let l = some_digit u e in let r = digit_range (last_of u) e in f l (omega (arith, last_at u l)) (omega (arith, last_at u l)))

-- it is a digit
pub last_digit : (u : List ℕ) → 1 ≤ length u → 48 ≤ get_or u (length u - 1) 0 → get_or u (length u - 1) 0 ≤ 57 → is_digit (last_of u) ≡ true
last_digit u l h k = ap is_digit (sym (last_at u l)) ∙ is_digit_lem _ h k

-- u is v and digits behind it
pub record Behind (u v : List ℕ) : Type 0 where
  pub figures : List ℕ
  pub cut : u ≡ v ++ figures
  pub all : Figures figures

pub behind_none : (u : List ℕ) → Behind u u
behind_none u = record { figures = []; cut = sym (append-nil u); all = tt }

pub behind_more : (u v w : List ℕ) (b : ℕ) → Behind u v → v ≡ w ++ (b ∷ []) → is_digit b ≡ true → Behind u w
behind_more u v w b B e h =
    record {
      figures = b ∷ B.figures;
      cut = B.cut ∙ ap (λ (x : List ℕ). x ++ B.figures) e ∙ append_assoc w (b ∷ []) B.figures;
      all = (h, B.all);
    }

-- three digits, which the tests of a number found
pub three_digits : (u v w : List ℕ) (ones : ℕ) → u ≡ v ++ (ones ∷ []) → is_digit ones ≡ true → 1 ≤ length v → is_digit (last_of v) ≡ true → w ≡ take (length v - 1) v → is_digit (last_of w) ≡ true → Three u
three_digits u v w ones e d l h f k =
    let one = behind_more u u v ones (behind_none u) e d in
    let tens : is_digit (get_or v (length v - 1) 0) ≡ true = ap is_digit (last_at v l) ∙ h in
    let two = behind_more u v w (get_or v (length v - 1) 0) one (last_apart v l ∙ ap (λ (x : List ℕ). x ++ (get_or v (length v - 1) 0 ∷ [])) (sym f)) tens in
    let some = some_digit w k in
    let three = behind_more u w (take (length w - 1) w) (get_or w (length w - 1) 0) two (last_apart w some) (ap is_digit (last_at w some) ∙ k) in
    let n : length u - 3 ≡ length (take (length w - 1) w) = omega (arith, length-take (length w - 1) w, ap length e, length-append v (ones ∷ []), ap length f, length-take (length v - 1) v) in
    record {
      long = omega (arith, length-take (length w - 1) w, ap length e, length-append v (ones ∷ []), ap length f, length-take (length v - 1) v);
      figures = subst Figures (sym (ap (drop (length u - 3)) three.cut ∙ drop_at (take (length w - 1) w) three.figures (length u - 3) (sym n))) three.all;
    }

pub three_behind : (u : List ℕ) → Three u → Behind u (take (length u - 3) u)
three_behind u t = record { figures = drop (length u - 3) u; cut = sym (take-append-drop (length u - 3) u); all = t.figures }

-- the first byte of those behind v
pub first_behind : (u v : List ℕ) (B : Behind u v) → get_or B.figures 0 0 ≡ get_or u (length v) 0
first_behind u v B =
    let e : get_or u (length v) 0 ≡ get_or (v ++ B.figures) (length v + 0) 0 = rw add-zero (ap (λ (x : List ℕ). get_or x (length v) 0) B.cut) in
    sym (e ∙ get_or-append-add v B.figures 0 0)

pub behind_length : (u v : List ℕ) (B : Behind u v) → length v + length B.figures ≡ length u
behind_length u v B = sym (ap length B.cut ∙ length-append v B.figures)

module _ (u v ds : List ℕ) (spelt : u ≡ v ++ ds) (bounded : is_digit (last_of v) ≡ false) where
  number_at : (m value : ℕ) → digits m ≡ ds → clip m ≡ value → Number u v value
  number_at m value e h =
      record { number = m; spelt = spelt ∙ ap (λ (x : List ℕ). v ++ x) (sym e); held = h; bounded = bounded }

  zero_first : (d : ℕ) (es : List ℕ) → ds ≡ 48 ∷ d ∷ es → Figures ds → Numbers u None
  zero_first d es e h w m p f =
      let figures : Figures (48 ∷ d ∷ es) = subst Figures e h in
      leading_zero d es m figures.1.0 ((figures_same w v (digits m) ds (sym p ∙ spelt) f bounded (figures_digits m) h).1 ∙ e)

  pub number_one : (ones : ℕ) → ds ≡ ones ∷ [] → is_digit ones ≡ true → Number u v (ones - 48)
  number_one ones e d =
      let r = digit_range ones d in
      number_at (ones - 48) (ones - 48) (digits_first ones d ∙ sym e) (clip_small (ones - 48) (omega arith))

  module _ (tens ones : ℕ) (e : ds ≡ tens ∷ ones ∷ []) (k : is_digit tens ≡ true) (d : is_digit ones ≡ true) where
    pub zero_then_one : tens ≡ 48 → Numbers u None
    zero_then_one z = zero_first ones [] (e ∙ ap (λ (b : ℕ). b ∷ ones ∷ []) z) (subst Figures (sym e) (k, (d, tt)))

    pub number_two : (tens ≡ 48 → ⊥) → Number u v ((tens - 48) * 10 + (ones - 48))
    number_two z =
        let r = digit_range ones d in
        let s = digit_range tens k in
        let more : 1 ≤ tens - 48 = omega (arith, z) in
        number_at ((tens - 48) * 10 + (ones - 48)) ((tens - 48) * 10 + (ones - 48))
        (sym (append-nil (digits ((tens - 48) * 10 + (ones - 48)))) ∙ digits_next (tens - 48) ones [] more d ∙ ap (λ (x : List ℕ). x ++ (ones ∷ [])) (digits_first tens k) ∙ sym e)
        (clip_small ((tens - 48) * 10 + (ones - 48)) (omega arith))

  -- three digits or more
  module _ (long : 3 ≤ length ds) (figures : Figures ds) where
    pub zero_then_more : get_or ds 0 0 ≡ 48 → Numbers u None
    zero_then_more z = go ds refl long z
      where
        go : (es : List ℕ) → ds ≡ es → 3 ≤ length es → get_or es 0 0 ≡ 48 → Numbers u None
        go [] e l z = absurd (omega arith)
        go (a ∷ []) e l z = absurd (omega arith)
        go (a ∷ b ∷ es) e l z = zero_first b es (e ∙ ap (λ (x : ℕ). x ∷ b ∷ es) z) figures

    pub number_long : (get_or ds 0 0 ≡ 48 → ⊥) → Number u v 100
    number_long z = go ds refl long z figures
      where
        go : (es : List ℕ) → ds ≡ es → 3 ≤ length es → (get_or es 0 0 ≡ 48 → ⊥) → Figures es → Number u v 100
        go [] e l z h = absurd (omega arith)
        go (a ∷ []) e l z h = absurd (omega arith)
        go (a ∷ b ∷ []) e l z h = absurd (omega arith)
        go (a ∷ b ∷ c ∷ es) e l z (ha, (hb, (hc, hs))) =
            let r = digit_range a ha in
            let more : 1 ≤ a - 48 = omega (arith, z) in
            let m : 10 ≤ (a - 48) * 10 + (b - 48) = omega arith in
            let C = continued (((a - 48) * 10 + (b - 48)) * 10 + (c - 48)) es (omega arith) hs in
            number_at C.number 100
            (C.spelt ∙ digits_next ((a - 48) * 10 + (b - 48)) c es (omega arith) hc ∙ digits_next (a - 48) b (c ∷ es) more hb ∙ ap (λ (x : List ℕ). x ++ (b ∷ c ∷ es)) (digits_first a ha) ∙ sym e)
            (clip_large C.number (omega arith))
