-- The result buffers of list, read back: at each place below the count stands the group of the number that was put there, and its
-- number is that number where it fits the group. By induction on the numbers.
use mathlib.Core.Path.{◌≡◌, refl, sym, ap, ◌∙◌}
use mathlib.Core.List.{List, [], ◌∷◌, ◌++◌, append_assoc, append-nil}
use Prim.Native.Nat.{ℕ, zero, suc, ◌+◌, ◌*◌, ◌^◌, ◌<◌}
use native.Mathlib.Omega.{arith}
use lib.ListN.{length, take, drop, get_or, length-append, get_or-append}
use lib.Seq.{take_at, drop_at, drop-drop, drop-cons}
use Rattle.table.specs.Bits.{bits, bytes, number, bits_of}
use Rattle.table.proofs.Bits.{length_bytes, number_bytes, number_field}
use Rattle.list.specs.Buffers.{front, spread}
use Rattle.deskheron.specs.Demand.{Layout, in_numbers, in_bytes, filled, group_at, number_in}

-- the group of a number
abbrev pub group_of : Layout → ℕ → ℕ → List ℕ
group_of in_numbers w n = n ∷ []
group_of in_bytes w n = bytes w n

-- ---- Numbers
single : (vs rest : List ℕ) (i : ℕ) → i < length vs → take 1 (drop i (vs ++ rest)) ≡ get_or vs i 0 ∷ []
single vs rest i h =
    let l : i < length (vs ++ rest) = simp length-append (omega arith) in
    ap (take 1) (drop-cons (vs ++ rest) i 0 l) ∙ ap (λ (n : ℕ). n ∷ []) (get_or-append vs rest 0 i h)

-- ---- Bytes

-- the group i of numbers of w bytes each
pub group_spread : (w : ℕ) (vs rest : List ℕ) (i : ℕ) → i < length vs → take w (drop (w * i) (spread w vs ++ rest)) ≡ bytes w (get_or vs i 0)
unfolding spread
group_spread w [] rest i h = absurd (omega arith)
group_spread w (v ∷ vs) rest zero h =
    let n : w * 0 ≡ 0 = omega arith in
    ap (λ (k : ℕ). take w (drop k ((bytes w v ++ spread w vs) ++ rest))) n ∙ ap (take w) (append_assoc (bytes w v) (spread w vs) rest)
    ∙ take_at (bytes w v) (spread w vs ++ rest) w (length_bytes w v)
group_spread w (v ∷ vs) rest (suc i) h =
    let n : w * suc i ≡ w + w * i = omega arith in
    let behind : drop (w * suc i) ((bytes w v ++ spread w vs) ++ rest) ≡ drop (w * i) (spread w vs ++ rest) =
    ap (λ (k : ℕ). drop k ((bytes w v ++ spread w vs) ++ rest)) n ∙ ap (drop (w + w * i)) (append_assoc (bytes w v) (spread w vs) rest)
    ∙ sym (drop-drop (w * i) w (bytes w v ++ (spread w vs ++ rest))) ∙ ap (drop (w * i)) (drop_at (bytes w v) (spread w vs ++ rest) w (length_bytes w v)) in
    ap (take w) behind ∙ group_spread w vs rest i (omega arith)

-- ---- Either

pub group_filled : (y : Layout) (w : ℕ) (vs old : List ℕ) (i : ℕ) → i < length vs → group_at y w (filled y w vs old) i ≡ group_of y w (get_or vs i 0)
unfolding group_at filled front
group_filled in_numbers w vs old i h = single vs (drop (length vs) old) i h
group_filled in_bytes w vs old i h = group_spread w vs (drop (length (spread w vs)) old) i h

pub number_in_lem : (y : Layout) (w n : ℕ) → n < 256 ^ w → number_in y (group_of y w n) ≡ n
unfolding number_in
number_in_lem in_numbers w n h = refl
number_in_lem in_bytes w n h = number_bytes w n h

-- a buffer whose groups are single numbers, as that of the codes is
pub group_front : (y : Layout) (vs old : List ℕ) (i : ℕ) → i < length vs → group_at y 1 (front vs old) i ≡ get_or vs i 0 ∷ []
unfolding group_at front
group_front in_numbers vs old i h = single vs (drop (length vs) old) i h
group_front in_bytes vs old i h =
    let n : 1 * i ≡ i = omega arith in
    ap (λ (k : ℕ). take 1 (drop k (vs ++ drop (length vs) old))) n ∙ single vs (drop (length vs) old) i h

pub number_single : (y : Layout) (n : ℕ) → n < 2 ^ 8 → number_in y (n ∷ []) ≡ n
unfolding number_in bits_of
number_single in_numbers n h = refl
number_single in_bytes n h = ap number (append-nil (bits 8 n)) ∙ number_field 8 n h
