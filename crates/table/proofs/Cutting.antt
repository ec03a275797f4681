-- Cutting fields out of bytes, over every width: a field that lies within two bytes is a shift and a remainder of their word,
-- and the bits behind the last field are a remainder of the last byte. From it the header, the nodes and the padding.
use mathlib.Core.Path.{◌≡◌, refl, sym, ap, ◌∙◌, subst}
use mathlib.Core.List.{List, [], ◌∷◌, ◌++◌, append_assoc, append-nil}
use Prim.Native.Nat.{ℕ, zero, suc, ◌+◌, ◌-◌, ◌*◌, ◌/◌, ◌%◌, ◌^◌, ◌≤◌, ◌<◌}
use native.Mathlib.Nat.{div-one, mod-eq_of_lt}
use native.Mathlib.Numerals.{add-one}
use native.Mathlib.Omega.{arith}
use lib.Bits.{bit_and, and_mask, bit_or, or_shifted}
use lib.Dec.{lit≤}
use lib.ListN.{length, get_or, take, drop, set, length-set}
use lib.Pow.{shl_exact}
use lib.Seq.{drop-cons, drop-drop, drop-length, drop-nil, drop_at, take_at, set_at, length-take-le, append_snoc, take-suc, take_all}
use Rattle.table.specs.Bits.{bits, number, bits_of, Below}
use Rattle.table.specs.Reading.{length_of, edition_of, count_of, padding_of, nodes_from, nodes_of}
use Rattle.table.specs.inner.Loading.{word_at, Front, Cut}
use Rattle.table.proofs.Bits.{length_bits, bits_split, bits_append, number_bits}

-- ---- Words
-- two bytes side by side, as shifts make them
pub joined : (a b : ℕ) → a < 256 → b < 256 → bit_or ((a * 256) % 65536) b ≡ a * 256 + b
joined a b ha hb = rw (shl_exact {a = a} 8 8 16 ha (lit≤ tt)) (or_shifted a 8 b hb)

pub word_below : (t : List ℕ) (at : ℕ) → Below 256 t → word_at t at < 65536
word_below t at f = omega (arith, f at, f (at + 1))

-- ---- Fields
-- whole bytes are dropped as bits
drop_bytes : (k : ℕ) (t : List ℕ) → drop (8 * k) (bits_of t) ≡ bits_of (drop k t)
unfolding bits_of
drop_bytes zero t = refl
drop_bytes (suc k) [] = drop-nil (8 * suc k)
drop_bytes (suc k) (x ∷ t) =
    let e : 8 * suc k ≡ 8 + 8 * k = omega arith in
    ap (λ (n : ℕ). drop n (bits 8 x ++ bits_of t)) e ∙ sym (drop-drop (8 * k) 8 (bits 8 x ++ bits_of t))
    ∙ ap (drop (8 * k)) (drop_at (bits 8 x) (bits_of t) 8 (length_bits 8 x)) ∙ drop_bytes k t

from_byte : (k r : ℕ) (t : List ℕ) → drop (8 * k + r) (bits_of t) ≡ drop r (bits_of (drop k t))
from_byte k r t = sym (drop-drop r (8 * k) (bits_of t)) ∙ ap (drop r) (drop_bytes k t)

-- the bits behind the first r of a field, and the w bits there
behind : (r v n : ℕ) (l : List ℕ) → drop r (bits (r + v) n ++ l) ≡ bits v n ++ l
behind r v n l =
    ap (λ (b : List ℕ). drop r (b ++ l)) (bits_split r v n) ∙ ap (drop r) (append_assoc (bits r (n / 2 ^ v)) (bits v n) l)
    ∙ drop_at (bits r (n / 2 ^ v)) (bits v n ++ l) r (length_bits r (n / 2 ^ v))

front : (w v n : ℕ) (l : List ℕ) → take w (bits (w + v) n ++ l) ≡ bits w (n / 2 ^ v)
front w v n l =
    ap (λ (b : List ℕ). take w (b ++ l)) (bits_split w v n) ∙ ap (take w) (append_assoc (bits w (n / 2 ^ v)) (bits v n) l)
    ∙ take_at (bits w (n / 2 ^ v)) (bits v n ++ l) w (length_bits w (n / 2 ^ v))

two_bytes : (t : List ℕ) (k : ℕ) → Below 256 t → k + 1 < length t → bits_of (drop k t) ≡ bits 16 (word_at t k) ++ bits_of (drop (suc (suc k)) t)
unfolding bits_of
two_bytes t k f h =
    let n : k + 1 ≡ suc k = add-one k in
    let pair : drop k t ≡ get_or t k 0 ∷ get_or t (k + 1) 0 ∷ drop (suc (suc k)) t =
    drop-cons t k 0 (omega arith) ∙ ap (λ (l : List ℕ). get_or t k 0 ∷ l) (drop-cons t (suc k) 0 (omega arith) ∙ ap (λ (m : ℕ). get_or t m 0 ∷ drop (suc (suc k)) t) (sym n)) in
    ap bits_of pair ∙ sym (append_assoc (bits 8 (get_or t k 0)) (bits 8 (get_or t (k + 1) 0)) (bits_of (drop (suc (suc k)) t)))
    ∙ ap (λ (l : List ℕ). l ++ bits_of (drop (suc (suc k)) t)) (bits_append 8 8 (get_or t k 0) (get_or t (k + 1) 0) (f (k + 1)))

-- a field of w bits, behind r bits of byte k and before v bits of the next one
pub cut_field : (t : List ℕ) (k r w v : ℕ) → Below 256 t → k + 1 < length t → r + (w + v) ≡ 16
    → number (take w (drop (8 * k + r) (bits_of t))) ≡ word_at t k / 2 ^ v % 2 ^ w
cut_field t k r w v f h e =
    let rest = bits_of (drop (suc (suc k)) t) in
    let here : drop (8 * k + r) (bits_of t) ≡ bits (w + v) (word_at t k) ++ rest =
    from_byte k r t ∙ ap (drop r) (two_bytes t k f h ∙ ap (λ (n : ℕ). bits n (word_at t k) ++ rest) (sym e)) ∙ behind r (w + v) (word_at t k) rest in
    ap (λ (l : List ℕ). number (take w l)) here ∙ ap number (front w v (word_at t k) rest) ∙ number_bits w (word_at t k / 2 ^ v)

-- the last w bits, at most a byte
pub cut_last : (t : List ℕ) (w : ℕ) → w ≤ 8 → 1 ≤ length t → number (drop (8 * length t - w) (bits_of t)) ≡ get_or t (length t - 1) 0 % 2 ^ w
unfolding bits_of
cut_last t w h l =
    let k : ℕ = length t - 1 in
    let x : ℕ = get_or t k 0 in
    let place : 8 * length t - w ≡ 8 * k + (8 - w) = omega arith in
    let width : 8 ≡ 8 - w + w = omega arith in
    let whole : suc k ≡ length t = omega arith in
    let byte : drop k t ≡ x ∷ [] = drop-cons t k 0 (omega arith) ∙ ap (λ (n : ℕ). x ∷ drop n t) whole ∙ ap (λ (l : List ℕ). x ∷ l) (drop-length t) in
    ap (λ (n : ℕ). number (drop n (bits_of t))) place
    ∙ ap number
    (from_byte k (8 - w) t ∙ ap (λ (l : List ℕ). drop (8 - w) (bits_of l)) byte ∙ ap (λ (n : ℕ). drop (8 - w) (bits n x ++ [])) width
    ∙ behind (8 - w) w x [] ∙ append-nil (bits w x))
    ∙ number_bits w x

-- ---- The header
module _ (t : List ℕ) (f : Below 256 t) (h : 2 ≤ length t) where
  pub cut_edition : edition_of t ≡ word_at t 0 / 4096
  unfolding edition_of
  cut_edition = cut_field t 0 0 4 12 f (omega arith) (omega arith) ∙ mod-eq_of_lt (let b = word_below t 0 f in omega arith)

  pub cut_count : count_of t ≡ word_at t 0 % 4096
  unfolding count_of
  cut_count = cut_field t 0 4 12 0 f (omega arith) (omega arith) ∙ ap (λ (n : ℕ). n % 4096) (div-one (word_at t 0))

-- the bits behind n nodes in the last byte
abbrev pub spare : ℕ → ℕ
spare n = (8 - 10 * n % 8) % 8

pub cut_padding : (t : List ℕ) (n : ℕ) → length t ≡ length_of n → padding_of t n ≡ get_or t (length t - 1) 0 % 2 ^ spare n
unfolding padding_of length_of
cut_padding t n e =
    let place : 16 + 10 * n ≡ 8 * length t - spare n = omega arith in
    ap (λ (k : ℕ). number (drop k (bits_of t))) place ∙ cut_last t (spare n) (omega arith) (omega arith)

-- ---- The nodes
pub length_nodes_of : (t : List ℕ) (n : ℕ) → length (nodes_of t n) ≡ n
unfolding nodes_of nodes_from
length_nodes_of t n = go n (drop 16 (bits_of t))
  where
    go : (n : ℕ) (l : List ℕ) → length (nodes_from n l) ≡ n
    go zero l = refl
    go (suc n) l = ap suc (go n (drop 10 l))

get_d_nodes_from : (n i : ℕ) (l : List ℕ) → i < n → get_or (nodes_from n l) i 0 ≡ number (take 10 (drop (10 * i) l))
unfolding nodes_from
get_d_nodes_from zero i l h = absurd (omega arith)
get_d_nodes_from (suc n) zero l h = refl
get_d_nodes_from (suc n) (suc i) l h =
    let e : 10 + 10 * i ≡ 10 * suc i = omega arith in
    get_d_nodes_from n i (drop 10 l) (omega arith) ∙ ap (λ (l : List ℕ). number (take 10 l)) (drop-drop (10 * i) 10 l ∙ ap (λ (k : ℕ). drop k l) e)

pub get_d_nodes_of : (t : List ℕ) (n i : ℕ) → i < n → get_or (nodes_of t n) i 0 ≡ number (take 10 (drop (16 + 10 * i) (bits_of t)))
unfolding nodes_of
get_d_nodes_of t n i h = get_d_nodes_from n i (drop 16 (bits_of t)) h ∙ ap (λ (l : List ℕ). number (take 10 l)) (drop-drop (10 * i) 16 (bits_of t))

-- node i, where it lies in the word at byte k before v bits
pub cut_node : (t : List ℕ) (i k v : ℕ) → Below 256 t → k + 1 < length t → v ≤ 6 → 16 + 10 * i ≡ 8 * k + (6 - v)
    → get_or (nodes_of t (i + 1)) i 0 ≡ word_at t k / 2 ^ v % 1024
cut_node t i k v f h b place =
    get_d_nodes_of t (i + 1) i (omega arith) ∙ ap (λ (p : ℕ). number (take 10 (drop p (bits_of t)))) place ∙ cut_field t k (6 - v) 10 v f h (omega arith)

-- the first i of n nodes
take_nodes_of : (t : List ℕ) (i n : ℕ) → i ≤ n → take i (nodes_of t n) ≡ nodes_of t i
unfolding nodes_of nodes_from
take_nodes_of t i n h = go i n (drop 16 (bits_of t)) h
  where
    go : (i n : ℕ) (l : List ℕ) → i ≤ n → take i (nodes_from n l) ≡ nodes_from i l
    go zero n l h = refl
    go (suc i) zero l h = absurd (omega arith)
    go (suc i) (suc n) l h = ap (λ (m : List ℕ). number (take 10 l) ∷ m) (go i n (drop 10 l) (omega arith))

-- a buffer whose first i numbers were overwritten by those of a list
pub overwritten_more : (d s : List ℕ) (i : ℕ) → i < length d → i < length s → set (take i s ++ drop i d) i (get_or s i 0) ≡ take (i + 1) s ++ drop (i + 1) d
overwritten_more d s i hd hs =
    let next : i + 1 ≡ suc i = add-one i in
    ap (λ (r : List ℕ). set (take i s ++ r) i (get_or s i 0)) (drop-cons d i 0 hd)
    ∙ set_at (take i s) (get_or d i 0) (drop (suc i) d) (get_or s i 0) i (length-take-le i s (omega arith)) ∙ sym (append_snoc (take i s) (get_or s i 0) (drop (suc i) d))
    ∙ ap (λ (r : List ℕ). r ++ drop (suc i) d) (sym (take-suc s i 0 hs)) ∙ ap (λ (k : ℕ). take k s ++ drop k d) (sym next)

-- ---- The nodes in front of a buffer
-- one more of them
front_more : (t old xs : List ℕ) (i k v : ℕ) → Below 256 t → k + 1 < length t → v ≤ 6 → 16 + 10 * i ≡ 8 * k + (6 - v) → i < length old → Front t i old xs
    → Front t (i + 1) old (set xs i (word_at t k / 2 ^ v % 1024))
front_more t old xs i k v f h b place l e =
    let s : List ℕ = nodes_of t (i + 1) in
    let n : length s ≡ i + 1 = length_nodes_of t (i + 1) in
    ap (λ (ys : List ℕ). set ys i (word_at t k / 2 ^ v % 1024)) (e ∙ ap (λ (r : List ℕ). r ++ drop i old) (sym (take_nodes_of t i (i + 1) (omega arith))))
    ∙ ap (set (take i s ++ drop i old) i) (sym (cut_node t i k v f h b place)) ∙ overwritten_more old s i l (omega arith)
    ∙ ap (λ (r : List ℕ). r ++ drop (i + 1) old) (take_all (i + 1) s (omega arith))

front_at : (t old xs : List ℕ) (i j : ℕ) → i ≡ j → Front t i old xs → Front t j old xs
front_at t old xs i j e h = subst (λ (k : ℕ). Front t k old xs) e h

pub cut_none : (t : List ℕ) (i : ℕ) (xs : List ℕ) → Cut t i i xs xs
unfolding Cut
cut_none t i xs = (refl, λ old s F. F)

pub cut_then : (t : List ℕ) (i j k : ℕ) (xs ys zs : List ℕ) → Cut t i j xs ys → Cut t j k ys zs → Cut t i k xs zs
unfolding Cut
cut_then t i j k xs ys zs a b = (b.0 ∙ a.0, λ old s F. b.1 old (a.0 ∙ s) (a.1 old s F))

pub length_cut : (t : List ℕ) (i j : ℕ) (xs ys : List ℕ) → Cut t i j xs ys → length ys ≡ length xs
unfolding Cut
length_cut t i j xs ys a = a.0

-- all of them
pub cut_all : (t : List ℕ) (n : ℕ) (xs ys : List ℕ) → Cut t 0 n xs ys → Front t n xs ys
unfolding Cut nodes_of nodes_from
cut_all t n xs ys a = a.1 xs refl refl

-- node i by shifts and masks
pub bit_even : (i : ℕ) → bit_and (i * 10) 7 ≤ 6
bit_even i = rw (and_mask (i * 10) 3) (omega arith)

module _ (t xs : List ℕ) (i : ℕ) (f : Below 256 t) where
  pub one_cut : (a : ℕ) → length_of (i + 1) ≤ length t → i < length xs → a ≡ word_at t (2 + i * 10 / 8) / 2 ^ (6 - bit_and (i * 10) 7) % 1024
      → Cut t i (i + 1) xs (set xs i a)
  unfolding Cut length_of
  one_cut a h l e =
      let m : bit_and (i * 10) 7 ≡ i * 10 % 8 = and_mask (i * 10) 3 in
      (length-set xs i a, λ old s F. rw e (front_more t old xs i (2 + i * 10 / 8) (6 - bit_and (i * 10) 7) f (omega arith) (omega arith) (omega arith) (omega arith) F))

  -- four nodes in five bytes
  pub four_cut : (at a b c d : ℕ) → i % 4 ≡ 0 → at ≡ 2 + i / 4 * 5 → length_of (i + 4) ≤ length t → i + 4 ≤ length xs
      → a ≡ word_at t at / 2 ^ 6 % 1024 → b ≡ word_at t (at + 1) / 2 ^ 4 % 1024 → c ≡ word_at t (at + 2) / 2 ^ 2 % 1024 → d ≡ word_at t (at + 3) / 2 ^ 0 % 1024
      → Cut t i (i + 4) xs (set (set (set (set xs i a) (i + 1) b) (i + 2) c) (i + 3) d)
  unfolding Cut length_of
  four_cut at a b c d even is h l ea eb ec ed = (
    simp length-set refl,
    λ old s F.
        let F₁ : Front t (i + 1) old (set xs i a) = rw ea (front_more t old xs i at 6 f (omega arith) (omega arith) (omega arith) (omega arith) F) in
        let F₂ : Front t (i + 2) old (set (set xs i a) (i + 1) b) =
        front_at t old (set (set xs i a) (i + 1) b) (i + 1 + 1) (i + 2) (omega arith)
        (rw eb (front_more t old (set xs i a) (i + 1) (at + 1) 4 f (omega arith) (omega arith) (omega arith) (omega arith) F₁)) in
        let F₃ : Front t (i + 3) old (set (set (set xs i a) (i + 1) b) (i + 2) c) =
        front_at t old (set (set (set xs i a) (i + 1) b) (i + 2) c) (i + 2 + 1) (i + 3) (omega arith)
        (rw ec (front_more t old (set (set xs i a) (i + 1) b) (i + 2) (at + 2) 2 f (omega arith) (omega arith) (omega arith) (omega arith) F₂)) in
        front_at t old (set (set (set (set xs i a) (i + 1) b) (i + 2) c) (i + 3) d) (i + 3 + 1) (i + 4) (omega arith)
        (rw ed (front_more t old (set (set (set xs i a) (i + 1) b) (i + 2) c) (i + 3) (at + 3) 0 f (omega arith) (omega arith) (omega arith) (omega arith) F₃)),
  )
