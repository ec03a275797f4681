-- Decimal numbers: digits are written as they are read, and read as they are written.
use Prim.Native.Nat.{ℕ, zero, suc, ◌+◌, ◌*◌, ◌-◌, ◌/◌, ◌%◌, ◌≤◌, ◌<◌}
use mathlib.Core.Path.{◌≡◌, refl, sym, ap, ◌∙◌, subst}
use mathlib.Core.Bool.{Bool, true, false, cond, ◌&&◌, ◌||◌}
use mathlib.Core.Option.{Option, none, some, some-injective, none-ne-some}
use mathlib.Core.List.{List, [], ◌∷◌, ◌++◌, append_assoc, append-nil}
use native.Mathlib.Omega.{arith}
use lib.Dec.{ltb, leb, eqb}
use borrow.Author.Tests.{ltb-true, ltb-false, lt-ltb, le-ltb, leb-true, le-leb, eqb-true, ne_eqb, eqb-false}
use Rattle.sets.proofs.Booleans.{or_left, and_both, and_cases, by_cond}
use Rattle.text.specs.Parts.{Part, word, number, signal_of, pause_at, semicolon, bars, opening, closing}
use Rattle.text.specs.Spelling.{digits_within, digits, colon_pause, spelling}
use Rattle.text.specs.inner.Lexer.{is_digit, is_letter, same, scan, digit_first, numeral}

-- ---- Tests

pub digit_range : (b : ℕ) → is_digit b ≡ true → (48 ≤ b) × (b ≤ 57)
unfolding is_digit
digit_range b e = let both = and_cases (leb 48 b) (leb b 57) e in (leb-true 48 b both.0, leb-true b 57 both.1)

pub is_digit_lem : (b : ℕ) → 48 ≤ b → b ≤ 57 → is_digit b ≡ true
unfolding is_digit
is_digit_lem b h k = and_both (leb 48 b) (leb b 57) (le-leb 48 b h) (le-leb b 57 k)

pub same_equal : (bs cs : List ℕ) → same bs cs ≡ true → bs ≡ cs
unfolding same
same_equal [] [] e = refl
same_equal [] (c ∷ cs) e = let z : ◌≡◌ {A = ℕ} 0 1 = cc in absurd (omega arith)
same_equal (b ∷ bs) [] e = let z : ◌≡◌ {A = ℕ} 0 1 = cc in absurd (omega arith)
same_equal (b ∷ bs) (c ∷ cs) e =
    let both = and_cases (eqb b c) (same bs cs) e in
    let p = eqb-true b c both.0 in
    let q = same_equal bs cs both.1 in
    cc (p, q)

-- ---- The digits of a number

enough : (f g n : ℕ) → n < f → n < g → digits_within f n ≡ digits_within g n
unfolding digits_within
enough zero g n h k = absurd (omega arith)
enough (suc f) zero n h k = absurd (omega arith)
enough (suc f) (suc g) n h k = go (enough f g (n / 10)) (ltb n 10) refl
  where
    go : (n / 10 < f → n / 10 < g → digits_within f (n / 10) ≡ digits_within g (n / 10)) → (z : Bool) → ltb n 10 ≡ z
        → cond z ((48 + n) ∷ []) (digits_within f (n / 10) ++ ((48 + n % 10) ∷ [])) ≡ cond z ((48 + n) ∷ []) (digits_within g (n / 10) ++ ((48 + n % 10) ∷ []))
    go ih true e = refl
    go ih false e = let l = ltb-false n 10 e in ap (λ (x : List ℕ). x ++ ((48 + n % 10) ∷ [])) (ih (omega arith) (omega arith))

pub digits_one : (n : ℕ) → n < 10 → digits n ≡ (48 + n) ∷ []
unfolding digits digits_within
digits_one n h = rw (lt-ltb n 10 h)

pub digits_long : (n : ℕ) → 10 ≤ n → digits n ≡ digits (n / 10) ++ ((48 + n % 10) ∷ [])
unfolding digits digits_within
digits_long n h =
    rw (le-ltb n 10 h) (ap (λ (x : List ℕ). x ++ ((48 + n % 10) ∷ [])) (enough n (suc (n / 10)) (n / 10) (omega arith) (omega arith)))

pub digits_more : (v d : ℕ) → 1 ≤ v → d < 10 → digits (v * 10 + d) ≡ digits v ++ ((48 + d) ∷ [])
digits_more v d h k =
    let p : (v * 10 + d) / 10 ≡ v = omega arith in
    let q : (v * 10 + d) % 10 ≡ d = omega arith in
    digits_long (v * 10 + d) (omega arith) ∙ ap (λ (x : ℕ). digits x ++ ((48 + (v * 10 + d) % 10) ∷ [])) p ∙ ap (λ (x : ℕ). digits v ++ ((48 + x) ∷ [])) q

-- ---- What is scanned is spelled so

-- the part is letters and digits, with a colon in a pause; the others have none (worded_first and worded_last of Spelling)
unfoldable pub worded : Part → Bool
worded (word w) = true
worded (number n) = true
worded (signal_of S) = true
worded (pause_at l) = true
worded semicolon = false
worded bars = false
worded opening = false
worded closing = false

pub record Spelt (bs : List ℕ) (t : Part) : Type 0 where
  pub is : bs ≡ spelling t
  pub of_letters : worded t ≡ true

pub spelt_some : (bs : List ℕ) (t u : Part) → Spelt bs t → ◌≡◌ {A = Option Part} (some t) (some u) → Spelt bs u
spelt_some bs t u h e = subst (λ (x : Part). Spelt bs x) (some-injective t u e) h

pub not_found : {A : Type 0} (u : Part) → ◌≡◌ {A = Option Part} none (some u) → A
not_found u e = absurd (none-ne-some u e)

spelt_number : (v : ℕ) → Spelt (digits v ++ []) (number v)
unfolding spelling worded
spelt_number v = record { is = append-nil (digits v); of_letters = refl }

spelt_pause : (v : ℕ) (bs : List ℕ) → same bs colon_pause ≡ true → Spelt (digits v ++ bs) (pause_at v)
unfolding spelling worded
spelt_pause v bs e = record { is = ap (λ (x : List ℕ). digits v ++ x) (same_equal bs colon_pause e); of_letters = refl }

-- digits or `:pause` behind the digits of v
behind_pause : (v b : ℕ) (bs : List ℕ) (t : Part) → cond (same (b ∷ bs) colon_pause) (some (pause_at v)) none ≡ some t → Spelt (digits v ++ (b ∷ bs)) t
behind_pause v b bs t =
    by_cond (λ (r : Option Part). r ≡ some t → Spelt (digits v ++ (b ∷ bs)) t) (same (b ∷ bs) colon_pause) (some (pause_at v)) none
    (λ s e. spelt_some (digits v ++ (b ∷ bs)) (pause_at v) t (spelt_pause v (b ∷ bs) s) e) (λ s e. not_found t e)

pub scan_spelt : (v : ℕ) (bs : List ℕ) (t : Part) → 1 ≤ v → scan v bs ≡ some t → Spelt (digits v ++ bs) t
unfolding scan
scan_spelt v [] t h e = spelt_some (digits v ++ []) (number v) t (spelt_number v) e
scan_spelt v (b ∷ bs) t h e = go (scan_spelt (v * 10 + (b - 48)) bs t) e
  where
    go : (1 ≤ v * 10 + (b - 48) → scan (v * 10 + (b - 48)) bs ≡ some t → Spelt (digits (v * 10 + (b - 48)) ++ bs) t)
        → cond (is_digit b) (scan (v * 10 + (b - 48)) bs) (cond (same (b ∷ bs) colon_pause) (some (pause_at v)) none) ≡ some t → Spelt (digits v ++ (b ∷ bs)) t
    go ih =
        by_cond (λ (r : Option Part). r ≡ some t → Spelt (digits v ++ (b ∷ bs)) t) (is_digit b) (scan (v * 10 + (b - 48)) bs) (cond (same (b ∷ bs) colon_pause) (some (pause_at v)) none)
        (λ s f.
        let r = digit_range b s in
        let m : b - 48 < 10 = omega arith in
        let g : 48 + (b - 48) ≡ b = omega arith in
        let w : digits (v * 10 + (b - 48)) ++ bs ≡ digits v ++ (b ∷ bs) = ap (λ (x : List ℕ). x ++ bs) (digits_more v (b - 48) h m) ∙ append_assoc (digits v) ((48 + (b - 48)) ∷ []) bs ∙ ap (λ (x : ℕ). digits v ++ (x ∷ bs)) g in
        subst (λ (x : List ℕ). Spelt x t) w (ih (omega arith) f))
        (λ s. behind_pause v b bs t)

-- behind the number 0 no digit stands
scan_zero : (bs : List ℕ) (t : Part) → digit_first bs ≡ false → scan 0 bs ≡ some t → Spelt (digits 0 ++ bs) t
unfolding scan digit_first
scan_zero [] t h e = spelt_some (digits 0 ++ []) (number 0) t (spelt_number 0) e
scan_zero (b ∷ bs) t h e = behind_pause 0 b bs t (sym (ap (λ (z : Bool). cond z (scan (0 * 10 + (b - 48)) bs) (cond (same (b ∷ bs) colon_pause) (some (pause_at 0)) none)) h) ∙ e)

pub numeral_spelt : (bs : List ℕ) (t : Part) → numeral bs ≡ some t → Spelt bs t
unfolding numeral
numeral_spelt [] t = λ e. not_found t e
numeral_spelt (b ∷ bs) t =
    by_cond (λ (r : Option Part). r ≡ some t → Spelt (b ∷ bs) t) (is_digit b) (cond (eqb b 48 && digit_first bs) none (scan (b - 48) bs)) none
    (λ s. by_cond (λ (r : Option Part). r ≡ some t → Spelt (b ∷ bs) t) (eqb b 48 && digit_first bs) none (scan (b - 48) bs) (λ z e. not_found t e)
    (λ z e. go (eqb b 48) refl (digit_range b s) z e))
    (λ s e. not_found t e)
  where
    one : (48 ≤ b) × (b ≤ 57) → digits (b - 48) ++ bs ≡ b ∷ bs
    one r =
        let m : b - 48 < 10 = omega (arith, r.0, r.1) in
        let g : 48 + (b - 48) ≡ b = omega (arith, r.0) in
        ap (λ (x : List ℕ). x ++ bs) (digits_one (b - 48) m) ∙ ap (λ (x : ℕ). x ∷ bs) g

    go : (z : Bool) → eqb b 48 ≡ z → (48 ≤ b) × (b ≤ 57) → (z && digit_first bs) ≡ false → scan (b - 48) bs ≡ some t → Spelt (b ∷ bs) t
    go true p r f e =
        let q : b - 48 ≡ 0 = omega (arith, eqb-true b 48 p) in
        let w : Spelt (digits 0 ++ bs) t = scan_zero bs t f (sym (ap (λ (x : ℕ). scan x bs) q) ∙ e) in
        subst (λ (x : List ℕ). Spelt x t) (sym (ap (λ (x : ℕ). digits x ++ bs) q) ∙ one r) w
    go false p r f e =
        let l : 1 ≤ b - 48 = omega (arith, r.0, eqb-false b 48 p) in
        subst (λ (x : List ℕ). Spelt x t) (one r) (scan_spelt (b - 48) bs t l e)

-- ---- What is spelled so is scanned

-- the digits of a number that is not 0: the first is not 0, and the scan of them comes to the number
record Leading (n : ℕ) : Type 0 where
  first : ℕ
  rest : List ℕ
  shape : digits n ≡ first ∷ rest
  digit : is_digit first ≡ true
  not_zero : eqb first 48 ≡ false
  scans : (x : List ℕ) → scan (first - 48) (rest ++ x) ≡ scan n x

scan_digit : (v b : ℕ) (bs : List ℕ) → is_digit b ≡ true → scan v (b ∷ bs) ≡ scan (v * 10 + (b - 48)) bs
unfolding scan
scan_digit v b bs e = ap (λ (z : Bool). cond z (scan (v * 10 + (b - 48)) bs) (cond (same (b ∷ bs) colon_pause) (some (pause_at v)) none)) e

leading : (f n : ℕ) → n < f → 1 ≤ n → Leading n
leading zero n h k = absurd (omega arith)
leading (suc f) n h k = go (leading f (n / 10)) (ltb n 10) refl
  where
    go : (n / 10 < f → 1 ≤ n / 10 → Leading (n / 10)) → (z : Bool) → ltb n 10 ≡ z → Leading n
    go ih true e =
        let l : n < 10 = ltb-true n 10 e in
        let g : (48 + n) - 48 ≡ n = omega arith in
        record {
          first = 48 + n;
          rest = [];
          shape = digits_one n l;
          digit = is_digit_lem (48 + n) (omega arith) (omega arith);
          not_zero = ne_eqb (48 + n) 48 (λ p. omega arith);
          scans = λ x. ap (λ (v : ℕ). scan v x) g;
        }
    go ih false e =
        let l : 10 ≤ n = ltb-false n 10 e in
        let L : Leading (n / 10) = ih (omega arith) (omega arith) in
        let g : n / 10 * 10 + ((48 + n % 10) - 48) ≡ n = omega arith in
        let d : is_digit (48 + n % 10) ≡ true = is_digit_lem (48 + n % 10) (omega arith) (omega arith) in
        record {
          first = L.first;
          rest = L.rest ++ ((48 + n % 10) ∷ []);
          shape = digits_long n l ∙ ap (λ (x : List ℕ). x ++ ((48 + n % 10) ∷ [])) L.shape;
          digit = L.digit;
          not_zero = L.not_zero;
          scans = λ x. ap (scan (L.first - 48)) (append_assoc L.rest ((48 + n % 10) ∷ []) x) ∙ L.scans ((48 + n % 10) ∷ x) ∙ scan_digit (n / 10) (48 + n % 10) x d ∙ ap (λ (v : ℕ). scan v x) g;
        }

pub numeral_digits : (n : ℕ) (x : List ℕ) → digit_first x ≡ false → numeral (digits n ++ x) ≡ scan n x
unfolding numeral is_digit
numeral_digits zero x h = ap (λ (l : List ℕ). numeral (l ++ x)) (digits_one 0 (omega arith)) ∙ ap (λ (z : Bool). cond z none (scan 0 x)) h
numeral_digits (suc n) x h =
    let L = leading (suc (suc n)) (suc n) (omega arith) (omega arith) in
    ap (λ (l : List ℕ). numeral (l ++ x)) L.shape
    ∙ ap (λ (z : Bool). cond z (cond (eqb L.first 48 && digit_first (L.rest ++ x)) none (scan (L.first - 48) (L.rest ++ x))) none) L.digit
    ∙ ap (λ (z : Bool). cond (z && digit_first (L.rest ++ x)) none (scan (L.first - 48) (L.rest ++ x))) L.not_zero
    ∙ L.scans x

-- digits begin with a digit
pub record Begins (n : ℕ) : Type 0 where
  pub first : ℕ
  pub rest : List ℕ
  pub shape : digits n ≡ first ∷ rest
  pub digit : is_digit first ≡ true

pub begins : (n : ℕ) → Begins n
begins zero = record { first = 48; rest = []; shape = digits_one 0 (omega arith); digit = is_digit_lem 48 (omega arith) (omega arith) }
begins (suc n) =
    let L = leading (suc (suc n)) (suc n) (omega arith) (omega arith) in
    record { first = L.first; rest = L.rest; shape = L.shape; digit = L.digit }

-- ---- Digits are letters or digits

abbrev pub Letters : List ℕ → Type 0
Letters [] = Unit {0}
Letters (b ∷ bs) = (is_letter b ≡ true) × Letters bs

pub letters_append : (bs cs : List ℕ) → Letters bs → Letters cs → Letters (bs ++ cs)
letters_append [] cs h k = k
letters_append (b ∷ bs) cs h k = (h.0, letters_append bs cs h.1 k)

digit_letter : (n : ℕ) → n < 10 → Letters ((48 + n) ∷ [])
unfolding is_letter
digit_letter n h =
    (or_left (eqb (48 + n) 83 || (leb 97 (48 + n) && leb (48 + n) 122)) (and_both (leb 48 (48 + n)) (leb (48 + n) 58) (le-leb 48 (48 + n) (omega arith)) (le-leb (48 + n) 58 (omega arith))), tt)

letters_within : (f n : ℕ) → n < f → Letters (digits n)
letters_within zero n h = absurd (omega arith)
letters_within (suc f) n h = go (letters_within f (n / 10)) (ltb n 10) refl
  where
    go : (n / 10 < f → Letters (digits (n / 10))) → (z : Bool) → ltb n 10 ≡ z → Letters (digits n)
    go ih true e = let l = ltb-true n 10 e in subst Letters (sym (digits_one n l)) (digit_letter n l)
    go ih false e =
        let l = ltb-false n 10 e in
        subst Letters (sym (digits_long n l)) (letters_append (digits (n / 10)) ((48 + n % 10) ∷ []) (ih (omega arith)) (digit_letter (n % 10) (omega arith)))

pub letters_digits : (n : ℕ) → Letters (digits n)
letters_digits n = letters_within (suc n) n (omega arith)
