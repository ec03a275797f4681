-- Bits and bytes, over every width: a field and its number are inverse, and so are bytes and their bits.
-- By induction on the width or the list; a byte is a field of 8 bits.
use mathlib.Core.Path.{◌≡◌, refl, sym, ap, ◌∙◌, subst}
use mathlib.Core.List.{List, [], ◌∷◌, ◌++◌, append_assoc}
use Prim.Native.Nat.{ℕ, zero, suc, ◌+◌, ◌-◌, ◌*◌, ◌/◌, ◌%◌, ◌^◌, ◌≤◌, ◌<◌}
use native.Mathlib.Nat.{zero-add, suc-add, add_comm, add-mul, mul_assoc, mul_comm, mod-eq_of_lt, mod-lt, pow-suc, add_assoc, zero-div, lt_of_lt_of_le}
use native.Mathlib.Numerals.{one-add}
use native.Mathlib.Omega.{arith}
use lib.Arith.{digits_lt}
use lib.Pow.{pow-add, shr-shr, field, mod-mod-pow, mod-pow-add, high, low, pow_pos, pow_mono}
use lib.ListN.{length, get_or, take, drop, replicate, length-append, length-replicate, length-take, length-drop, take-append-drop}
use lib.Seq.{take_at, drop_at, length-take-le, get_or-drop, take_all, take-append-le, drop-append-le}
use Rattle.table.specs.Bits.{bits, number_after, number, bits_of, bytes_from, bytes, padded, bytes_of, Below}

-- ---- A field

pub length_bits : (w n : ℕ) → length (bits w n) ≡ w
unfolding bits
length_bits zero n = refl
length_bits (suc w) n = ap suc (length_bits w n)

pub bits_split : (j k n : ℕ) → bits (j + k) n ≡ bits j (n / 2 ^ k) ++ bits k n
unfolding bits
bits_split zero k n = rw (zero-add k)
bits_split (suc j) k n =
    rw (suc-add j k, shr-shr n k j, add_comm k j) (ap (λ (l : List ℕ). n / 2 ^ (j + k) % 2 ∷ l) (bits_split j k n))

-- a field holds the remainder
pub bits_cong : (w m n : ℕ) → m % 2 ^ w ≡ n % 2 ^ w → bits w m ≡ bits w n
unfolding bits
bits_cong zero m n e = refl
bits_cong (suc w) m n e =
    let e' : m % 2 ^ (1 + w) ≡ n % 2 ^ (1 + w) = rw (one-add w) e in
    let h : m / 2 ^ w % 2 ≡ n / 2 ^ w % 2 = sym (field m 1 w) ∙ ap (λ (x : ℕ). x / 2 ^ w) e' ∙ field n 1 w in
    let t : m % 2 ^ w ≡ n % 2 ^ w = sym (mod-mod-pow m 1 w) ∙ ap (λ (x : ℕ). x % 2 ^ w) e' ∙ mod-mod-pow n 1 w in
    rw (h, bits_cong w m n t)

-- two fields are one
pub bits_append : (j k m n : ℕ) → n < 2 ^ k → bits j m ++ bits k n ≡ bits (j + k) (m * 2 ^ k + n)
bits_append j k m n h =
    sym (bits_split j k (m * 2 ^ k + n) ∙ rw (high m k h, bits_cong k (m * 2 ^ k + n) n (low m k h ∙ sym (mod-eq_of_lt h))))

pub zeros : (k : ℕ) → replicate k 0 ≡ bits k 0
unfolding bits
zeros zero = refl
zeros (suc k) = rw (zero-div (2 ^ k), zeros k)

-- ---- The number in a field

shifted : (a x p : ℕ) → (a * 2 + x) * p ≡ a * (p * 2) + x * p
shifted a x p = add-mul (a * 2) x p ∙ ap (λ (y : ℕ). y + x * p) (mul_assoc a 2 p ∙ ap (λ (y : ℕ). a * y) (mul_comm 2 p))

number_after_bits : (w n a : ℕ) → number_after a (bits w n) ≡ a * 2 ^ w + n % 2 ^ w
unfolding bits number_after
number_after_bits zero n a = omega arith
number_after_bits (suc w) n a =
    number_after_bits w n (a * 2 + n / 2 ^ w % 2) ∙ rw (shifted a (n / 2 ^ w % 2) (2 ^ w), ← pow-suc 2 w)
    (add_assoc (a * 2 ^ suc w) (n / 2 ^ w % 2 * 2 ^ w) (n % 2 ^ w) ∙ ap (λ (y : ℕ). a * 2 ^ suc w + y) (sym (mod-pow-add n 1 w) ∙ ap (λ (y : ℕ). n % 2 ^ y) (one-add w)))

pub number_bits : (w n : ℕ) → number (bits w n) ≡ n % 2 ^ w
unfolding number
number_bits w n = number_after_bits w n 0 ∙ omega arith

pub number_field : (w n : ℕ) → n < 2 ^ w → number (bits w n) ≡ n
number_field w n h = number_bits w n ∙ mod-eq_of_lt h

-- ---- Lists below a number

pub below_cons : (m x : ℕ) (l : List ℕ) → x < m → Below m l → Below m (x ∷ l)
below_cons m x l h t zero = h
below_cons m x l h t (suc i) = t i

pub below_append : (m : ℕ) (l k : List ℕ) → Below m l → Below m k → Below m (l ++ k)
below_append m [] k f g = g
below_append m (x ∷ l) k f g = below_cons m x (l ++ k) (f 0) (below_append m l k (λ i. f (suc i)) g)

pub below_take : (m n : ℕ) (l : List ℕ) → Below m l → Below m (take n l)
below_take m zero l f i = omega (arith, f 0)
below_take m (suc n) [] f i = f i
below_take m (suc n) (x ∷ l) f i = below_cons m x (take n l) (f 0) (below_take m n l (λ j. f (suc j))) i

pub below_drop : (m n : ℕ) (l : List ℕ) → Below m l → Below m (drop n l)
below_drop m n l f i = rw get_or-drop (f (n + i))

pub below_bits : (w n : ℕ) → Below 2 (bits w n)
unfolding bits
below_bits zero n i = omega arith
below_bits (suc w) n i = below_cons 2 (n / 2 ^ w % 2) (bits w n) (mod-lt (n / 2 ^ w) (omega arith)) (below_bits w n) i

-- ---- The field of a number

number_after_sum : (l : List ℕ) (a : ℕ) → number_after a l ≡ a * 2 ^ length l + number l
unfolding number_after number
number_after_sum [] a = omega arith
number_after_sum (b ∷ l) a =
    number_after_sum l (a * 2 + b) ∙ rw (shifted a b (2 ^ length l), ← pow-suc 2 (length l))
    (add_assoc (a * 2 ^ suc (length l)) (b * 2 ^ length l) (number l)
    ∙ ap (λ (y : ℕ). a * 2 ^ suc (length l) + y) (sym (number_after_sum l (0 * 2 + b) ∙ ap (λ (y : ℕ). y * 2 ^ length l + number l) (omega arith))))

number_cons : (b : ℕ) (l : List ℕ) → number (b ∷ l) ≡ b * 2 ^ length l + number l
unfolding number number_after
number_cons b l = number_after_sum l (0 * 2 + b) ∙ ap (λ (y : ℕ). y * 2 ^ length l + number l) (omega arith)

pub number_below : (l : List ℕ) → Below 2 l → number l < 2 ^ length l
number_below [] f = unfold number number_after in omega arith
number_below (b ∷ l) f = rw (number_cons b l, pow-suc 2 (length l), mul_comm (2 ^ length l) 2) (digits_lt (f 0) (number_below l (λ i. f (suc i))))

pub bits_number : (l : List ℕ) → Below 2 l → bits (length l) (number l) ≡ l
unfolding bits
bits_number [] f = refl
bits_number (b ∷ l) f =
    let n = number_below l (λ i. f (suc i)) in
    let first : (b * 2 ^ length l + number l) / 2 ^ length l % 2 ≡ b = ap (λ (y : ℕ). y % 2) (high b (length l) n) ∙ mod-eq_of_lt (f 0) in
    let rest : bits (length l) (b * 2 ^ length l + number l) ≡ l =
    bits_cong (length l) (b * 2 ^ length l + number l) (number l) (low b (length l) n ∙ sym (mod-eq_of_lt n)) ∙ bits_number l (λ i. f (suc i)) in
    rw (number_cons b l, first, rest)

-- the same for a field of a known width
pub bits_number_of : (w : ℕ) (l : List ℕ) → length l ≡ w → Below 2 l → bits w (number l) ≡ l
bits_number_of w l e f = ap (λ (n : ℕ). bits n (number l)) (sym e) ∙ bits_number l f

-- ---- Bytes and their bits

pub length_bits_of : (t : List ℕ) → length (bits_of t) ≡ 8 * length t
unfolding bits_of
length_bits_of [] = refl
length_bits_of (x ∷ t) = length-append (bits 8 x) (bits_of t) ∙ rw (length_bits 8 x, length_bits_of t) (omega arith)

pub below_bits_of : (t : List ℕ) → Below 2 (bits_of t)
unfolding bits_of
below_bits_of [] i = omega arith
below_bits_of (x ∷ t) i = below_append 2 (bits 8 x) (bits_of t) (below_bits 8 x) (below_bits_of t) i

pub length_bytes_from : (n : ℕ) (l : List ℕ) → length (bytes_from n l) ≡ n
unfolding bytes_from
length_bytes_from zero l = refl
length_bytes_from (suc n) l = ap suc (length_bytes_from n (drop 8 l))

pub bytes_from_bits_of : (t : List ℕ) → Below 256 t → bytes_from (length t) (bits_of t) ≡ t
unfolding bytes_from bits_of
bytes_from_bits_of [] f = refl
bytes_from_bits_of (x ∷ t) f =
    rw (take_at (bits 8 x) (bits_of t) 8 (length_bits 8 x), drop_at (bits 8 x) (bits_of t) 8 (length_bits 8 x), number_field 8 x (f 0))
    (ap (λ (l : List ℕ). x ∷ l) (bytes_from_bits_of t (λ i. f (suc i))))

pub bits_of_bytes_from : (n : ℕ) (l : List ℕ) → length l ≡ 8 * n → Below 2 l → bits_of (bytes_from n l) ≡ l
unfolding bytes_from bits_of
bits_of_bytes_from zero l e f = take_all 0 l (omega arith)
bits_of_bytes_from (suc n) l e f =
    let rest : bits_of (bytes_from n (drop 8 l)) ≡ drop 8 l = bits_of_bytes_from n (drop 8 l) (length-drop 8 l ∙ omega arith) (below_drop 2 8 l f) in
    let first : bits 8 (number (take 8 l)) ≡ take 8 l = bits_number_of 8 (take 8 l) (length-take-le 8 l (omega arith)) (below_take 2 8 l f) in
    rw (first, rest) (take-append-drop 8 l)

pub bytes_from_append : (k j : ℕ) (l m : List ℕ) → length l ≡ 8 * k → bytes_from (k + j) (l ++ m) ≡ bytes_from k l ++ bytes_from j m
unfolding bytes_from
bytes_from_append zero j l m e = ap (λ (x : List ℕ). bytes_from (0 + j) (x ++ m)) (sym (take_all 0 l (omega arith))) ∙ ap (λ (n : ℕ). bytes_from n m) (zero-add j)
bytes_from_append (suc k) j l m e =
    rw (suc-add k j, take-append-le 8 l m (omega arith), drop-append-le 8 l m (omega arith))
    (ap (λ (x : List ℕ). number (take 8 l) ∷ x) (bytes_from_append k j (drop 8 l) m (length-drop 8 l ∙ omega arith)))

-- the bytes of a field of whole bytes, from the most significant
pub bytes_suc : (n v : ℕ) → bytes (suc n) v ≡ v / 2 ^ (8 * n) % 256 ∷ bytes n v
unfolding bytes_from
bytes_suc n v =
    let e : bits (8 * suc n) v ≡ bits 8 (v / 2 ^ (8 * n)) ++ bits (8 * n) v = ap (λ (w : ℕ). bits w v) (omega arith) ∙ bits_split 8 (8 * n) v in
    rw (e, take_at (bits 8 (v / 2 ^ (8 * n))) (bits (8 * n) v) 8 (length_bits 8 (v / 2 ^ (8 * n))), drop_at (bits 8 (v / 2 ^ (8 * n))) (bits (8 * n) v) 8 (length_bits 8 (v / 2 ^ (8 * n))), number_bits 8 (v / 2 ^ (8 * n)))

pub get_d_bytes : (n v i : ℕ) → i < n → get_or (bytes n v) i 0 ≡ v / 2 ^ (8 * (n - i - 1)) % 256
get_d_bytes zero v i h = absurd (omega arith)
get_d_bytes (suc n) v zero h = ap (λ (l : List ℕ). get_or l 0 0) (bytes_suc n v) ∙ ap (λ (k : ℕ). v / 2 ^ (8 * k) % 256) (omega arith)
get_d_bytes (suc n) v (suc i) h =
    ap (λ (l : List ℕ). get_or l (suc i) 0) (bytes_suc n v) ∙ get_d_bytes n v i (omega arith) ∙ ap (λ (k : ℕ). v / 2 ^ (8 * k) % 256) (omega arith)

pub length_bytes : (w n : ℕ) → length (bytes w n) ≡ w
length_bytes w n = length_bytes_from w (bits (8 * w) n)

bytes_width : (w : ℕ) → 2 ^ (8 * w) ≡ 256 ^ w
bytes_width zero = refl
bytes_width (suc w) =
    ap (λ (k : ℕ). 2 ^ k) (omega arith) ∙ pow-add 2 (8 * w) 8 ∙ ap (λ (n : ℕ). n * 256) (bytes_width w) ∙ sym (pow-suc 256 w)

-- a number read from its w bytes is the number
pub number_bytes : (w n : ℕ) → n < 256 ^ w → number (bits_of (bytes w n)) ≡ n
number_bytes w n h =
    ap number (bits_of_bytes_from w (bits (8 * w) n) (length_bits (8 * w) n) (below_bits (8 * w) n))
    ∙ number_field (8 * w) n (subst (λ (m : ℕ). n < m) (sym (bytes_width w)) h)

-- ---- Padded to whole bytes

pub length_padded : (l : List ℕ) → length (padded l) ≡ 8 * ((length l + 7) / 8)
unfolding padded
length_padded l = length-append l (replicate ((8 - length l % 8) % 8) 0) ∙ rw (length-replicate {A = ℕ} ((8 - length l % 8) % 8) 0) (omega arith)

pub below_padded : (l : List ℕ) → Below 2 l → Below 2 (padded l)
unfolding padded
below_padded l f = below_append 2 l (replicate ((8 - length l % 8) % 8) 0) f (subst (Below 2) (sym (zeros ((8 - length l % 8) % 8))) (below_bits ((8 - length l % 8) % 8) 0))

pub length_bytes_of : (l : List ℕ) → length (bytes_of l) ≡ (length l + 7) / 8
unfolding bytes_of
length_bytes_of l = length_bytes_from (length (padded l) / 8) (padded l) ∙ omega (arith, length_padded l)

pub bits_of_bytes_of : (l : List ℕ) → Below 2 l → bits_of (bytes_of l) ≡ padded l
unfolding bytes_of
bits_of_bytes_of l f = bits_of_bytes_from (length (padded l) / 8) (padded l) (omega (arith, length_padded l)) (below_padded l f)

below_bytes_from : (n : ℕ) (l : List ℕ) → Below 2 l → Below 256 (bytes_from n l)
unfolding bytes_from
below_bytes_from zero l f i = omega arith
below_bytes_from (suc n) l f i =
    let short : length (take 8 l) ≤ 8 = simp length-take (omega arith) in
    let byte : number (take 8 l) < 256 = lt_of_lt_of_le (number_below (take 8 l) (below_take 2 8 l f)) (pow_mono short) in
    below_cons 256 (number (take 8 l)) (bytes_from n (drop 8 l)) byte (below_bytes_from n (drop 8 l) (below_drop 2 8 l f)) i

pub below_bytes_of : (l : List ℕ) → Below 2 l → Below 256 (bytes_of l)
unfolding bytes_of
below_bytes_of l f = below_bytes_from (length (padded l) / 8) (padded l) (below_padded l f)

-- whole bytes come first as they are
pub bytes_of_append : (k : ℕ) (l m : List ℕ) → length l ≡ 8 * k → bytes_of (l ++ m) ≡ bytes_from k l ++ bytes_of m
unfolding bytes_of padded
bytes_of_append k l m e =
    let same : length (l ++ m) % 8 ≡ length m % 8 = omega (arith, length-append l m) in
    let whole : padded (l ++ m) ≡ l ++ padded m = ap (λ (n : ℕ). (l ++ m) ++ replicate ((8 - n) % 8) 0) same ∙ append_assoc l m (replicate ((8 - length m % 8) % 8) 0) in
    let count : length (padded (l ++ m)) / 8 ≡ k + length (padded m) / 8 = omega (arith, length_padded (l ++ m), length_padded m, length-append l m) in
    ap (λ (n : ℕ). bytes_from n (padded (l ++ m))) count ∙ ap (bytes_from (k + length (padded m) / 8)) whole ∙ bytes_from_append k (length (padded m) / 8) l (padded m) e

-- a field of any width, pushed up to whole bytes
pub bytes_of_field : (w v : ℕ) → bytes_of (bits w v) ≡ bytes ((w + 7) / 8) (v * 2 ^ (8 * ((w + 7) / 8) - w))
unfolding bytes_of padded
bytes_of_field w v =
    let pad : ℕ = 8 * ((w + 7) / 8) - w in
    let n : (8 - length (bits w v) % 8) % 8 ≡ pad = omega (arith, length_bits w v) in
    let count : length (padded (bits w v)) / 8 ≡ (w + 7) / 8 = omega (arith, length_padded (bits w v), length_bits w v) in
    let width : w + pad ≡ 8 * ((w + 7) / 8) = omega arith in
    let value : v * 2 ^ pad + 0 ≡ v * 2 ^ pad = omega arith in
    let whole : padded (bits w v) ≡ bits (8 * ((w + 7) / 8)) (v * 2 ^ pad) =
    ap (λ (k : ℕ). bits w v ++ replicate k 0) n ∙ ap (λ (l : List ℕ). bits w v ++ l) (zeros pad) ∙ bits_append w pad v 0 (pow_pos pad)
    ∙ ap (λ (k : ℕ). bits k (v * 2 ^ pad + 0)) width ∙ ap (bits (8 * ((w + 7) / 8))) value in
    ap (λ (k : ℕ). bytes_from k (padded (bits w v))) count ∙ ap (bytes_from ((w + 7) / 8)) whole
