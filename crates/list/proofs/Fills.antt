-- Numbers written into a buffer from the front, one after the other, each spelled in as many elements: afterwards they stand in front of
-- what was there.
use mathlib.Core.Path.{◌≡◌, refl, sym, ap, ap₂, ◌∙◌}
use mathlib.Core.List.{List, [], ◌∷◌, ◌++◌, map, append_assoc, append-nil}
use Prim.Native.Nat.{ℕ, zero, suc, ◌+◌, ◌*◌, ◌/◌, ◌%◌, ◌^◌, ◌≤◌, ◌<◌, min}
use native.Mathlib.Omega.{arith}
use native.Mathlib.Nat.{mul-suc, mul-le-mul_left, mul-div-le, pow-suc}
use native.Mathlib.Numerals.{add-one}
use lib.ListN.{length, get_or, set, take, drop, length-append, length-drop, length-map, length-set, take-append-drop}
use lib.Seq.{take_all, take-suc, take_at, drop-drop, drop_at, set_split, append_snoc}
use Rattle.esterel.specs.Reactions.{Reaction}
use Rattle.std.specs.Int.{byte_at, bytes_high_first}
use Rattle.std.proofs.Math.Nat.{div-one}
use Rattle.std.proofs.lemmas.Nat.{pow-add}
use Rattle.std.proofs.lemmas.Slice.{take-put_mid, drop-put_mid}
use borrow.Rule.Slice.PartMut.{put_mid}
use Rattle.table.specs.Bits.{bytes_from, bytes}
use Rattle.table.proofs.Bits.{length_bytes, bytes_suc}
use Rattle.esterel.specs.inner.Rows.{reactions}
use Rattle.rows.specs.declared.row.Row.{Row}
use Rattle.rows.specs.inner.Layout.{unpacked}
use Rattle.list.specs.Buffers.{emitted_in, code_in, reached_in, front, spread}
use Rattle.list.specs.inner.Finding.{reactions_held, spelled}
use Rattle.list.proofs.Limits.{held_length}

module _ {A : Type 0} (f : ℕ → List A) where
  spelled_more : (vs : List ℕ) (v : ℕ) → spelled f (vs ++ v ∷ []) ≡ spelled f vs ++ f v
  unfolding spelled
  spelled_more [] v = append-nil (f v)
  spelled_more (u ∷ vs) v = ap (λ (z : List A). f u ++ z) (spelled_more vs v) ∙ sym (append_assoc (f u) (spelled f vs) (f v))

  -- of the numbers vs, w elements each, the first i are written
  pub record Filled (w : ℕ) (vs : List ℕ) (old new : List A) (i : ℕ) : Type 0 where
    pub wide : length (spelled f (take i vs)) ≡ w * i
    pub within : length new ≡ length old
    pub written : new ≡ spelled f (take i vs) ++ drop (w * i) old

  module _ (w : ℕ) (vs : List ℕ) (old : List A) where
    pub filled_none : Filled w vs old old 0
    unfolding spelled
    filled_none =
        let z : w * 0 ≡ 0 = omega arith in
        record { wide = sym z; within = refl; written = sym (ap (λ (n : ℕ). drop n old) z) }

    module _ {new : List A} {i : ℕ} (h : Filled w vs old new i) where
      pub filled_step : {next : List A} (v : ℕ) → i < length vs → v ≡ get_or vs i 0 → w * i + w ≤ length old → length next ≡ length new
          → next ≡ take (w * i) new ++ f v ++ drop (w * i + w) new → Filled w vs old next (i + 1)
      filled_step {next} v l e room s p = record { wide = ap length more ∙ length-append (spelled f (take i vs)) (f v) ∙ wider; within = s ∙ h.within; written = stands }
        where
          more : spelled f (take (i + 1) vs) ≡ spelled f (take i vs) ++ f v
          more = ap (λ (n : ℕ). spelled f (take n vs)) (add-one i) ∙ ap (spelled f) (take-suc vs i 0 l ∙ ap (λ (n : ℕ). take i vs ++ n ∷ []) (sym e)) ∙ spelled_more (take i vs) v

          front_is : take (w * i) new ≡ spelled f (take i vs)
          front_is = ap (take (w * i)) h.written ∙ take_at (spelled f (take i vs)) (drop (w * i) old) (w * i) h.wide

          rest_is : drop (w * i + w) new ≡ drop (w * i + w) old
          rest_is =
              sym (drop-drop w (w * i) new)
              ∙ ap (drop w) (ap (drop (w * i)) h.written ∙ drop_at (spelled f (take i vs)) (drop (w * i) old) (w * i) h.wide) ∙ drop-drop w (w * i) old

          further : w * i + w ≡ w * (i + 1)
          further = sym (ap (λ (n : ℕ). w * n) (add-one i) ∙ mul-suc w i)

          stands : next ≡ spelled f (take (i + 1) vs) ++ drop (w * (i + 1)) old
          stands = p ∙ ap₂ (λ (a b : List A). a ++ f v ++ b) front_is rest_is ∙ ap₂ (λ (a : List A) (n : ℕ). a ++ drop n old) (sym more) further

          -- the buffer kept its length
          wider : length (spelled f (take i vs)) + length (f v) ≡ w * (i + 1)
          wider =
              let a = length-append (take (w * i) new ++ f v) (drop (w * i + w) new) in
              let b = length-append (take (w * i) new) (f v) in
              let c = ap length front_is in
              let d = ap length p in
              let g = length-drop (w * i + w) new in
              let k = h.within in
              omega (arith, further)

      pub filled_all : i ≡ length vs → new ≡ front (spelled f vs) old
      unfolding front
      filled_all e =
          let all : take i vs ≡ vs = take_all i vs (omega arith) in
          h.written ∙ ap (λ (n : ℕ). spelled f (take i vs) ++ drop n old) (sym h.wide) ∙ ap (λ (us : List ℕ). spelled f us ++ drop (length (spelled f us)) old) all

-- ---- how numbers are put in a buffer: as they are, or their bytes
pub set_is : {A : Type 0} (l : List A) (i : ℕ) (v : A) → i < length l → set l i v ≡ take (1 * i) l ++ v ∷ [] ++ drop (1 * i + 1) l
set_is l i v h =
    let e : 1 * i ≡ i = omega arith in
    let g : suc i ≡ 1 * i + 1 = omega arith in
    set_split l i v h ∙ ap₂ (λ (m n : ℕ). take m l ++ v ∷ drop n l) (sym e) g ∙ sym (append_snoc (take (1 * i) l) v (drop (1 * i + 1) l))

-- the library's bytes are these
width : (w : ℕ) → 256 ^ w ≡ 2 ^ (8 * w)
width zero = refl
width (suc w) = pow-suc 256 w ∙ ap (λ (n : ℕ). n * 256) (width w) ∙ sym (pow-add 2 (8 * w) 8) ∙ ap (λ (k : ℕ). 2 ^ k) (omega arith)

high_first : (w v : ℕ) → bytes_high_first w v ≡ bytes w v
unfolding bytes_from
high_first zero v = refl
high_first (suc w) v = ap₂ (λ (b : ℕ) (bs : List ℕ). b ∷ bs) (byte w) (high_first w v) ∙ sym (bytes_suc w v)
  where
    byte : (w : ℕ) → byte_at w v ≡ v / 2 ^ (8 * w) % 256
    byte zero = ap (λ (n : ℕ). n % 256) (sym (div-one v))
    byte (suc w) = ap (λ (n : ℕ). v / n % 256) (width (suc w))

pub put_is : (w v at k : ℕ) (old part : List ℕ) → k ≡ w → part ≡ bytes_high_first w v → at + w ≤ length old
    → put_mid at k old part ≡ take at old ++ bytes w v ++ drop (at + w) old
put_is w v at k old part e f h =
    let long : length part ≡ w = ap length (f ∙ high_first w v) ∙ length_bytes w v in
    sym (take-append-drop (at + w) (put_mid at k old part))
    ∙ ap₂ (λ (a b : List ℕ). a ++ b) (take-put_mid at k old part (at + w) (omega arith) (omega arith) ∙ ap (λ (b : List ℕ). take at old ++ b) (f ∙ high_first w v))
    (drop-put_mid at k old part (at + w) (omega arith) (omega arith) (omega arith))

pub singles : (vs : List ℕ) → spelled (λ v. v ∷ []) vs ≡ vs
unfolding spelled
singles [] = refl
singles (v ∷ vs) = ap (λ (z : List ℕ). v ∷ z) (singles vs)

pub in_bytes : (w : ℕ) (vs : List ℕ) → spelled (bytes w) vs ≡ spread w vs
unfolding spelled spread
in_bytes w [] = refl
in_bytes w (v ∷ vs) = ap (λ (z : List ℕ). bytes w v ++ z) (in_bytes w vs)

-- ---- the reactions of rows, one field of each
module _ (f : Reaction → ℕ) where
  pub fields_length : (a : List Row) → length (map f (reactions_held a)) ≡ length a
  fields_length a = length-map (reactions_held a) f ∙ held_length a

  pub field_at : (a : List Row) (i : ℕ) (d : Row) → i < length a → get_or (map f (reactions_held a)) i 0 ≡ f (unpacked (get_or a i d)).reacts
  unfolding reactions
  field_at [] i d h = absurd (omega arith)
  field_at (r ∷ a) zero d h = refl
  field_at (r ∷ a) (suc i) d h = field_at a i d (omega arith)

-- the place i is a whole one
place_in : (m i len : ℕ) → i < len / m → m * i + m ≤ len
place_in m i len h = omega (arith, mul-le-mul_left m (let k : i + 1 ≤ len / m = omega arith in k), mul-div-le len m, mul-suc m i)

-- ---- the three buffers, of which i places are written
pub record Filling {A B : Type 0} (f : ℕ → List A) (m : ℕ) (g : ℕ → List B) (c : ℕ) (a : List Row) (o₀ o : List A) (k₀ k : List ℕ) (l₀ l : List B) (i : ℕ) : Type 0 where
  pub signals : Filled f m (map emitted_in (reactions_held a)) o₀ o i
  pub codes : Filled (λ (v : ℕ). v ∷ []) 1 (map code_in (reactions_held a)) k₀ k i
  pub labels : Filled g c (map reached_in (reactions_held a)) l₀ l i

module _ {A B : Type 0} {f : ℕ → List A} {m : ℕ} {g : ℕ → List B} {c : ℕ} {a : List Row} {o₀ : List A} {k₀ : List ℕ} {l₀ : List B} where
  pub filling_none : Filling f m g c a o₀ o₀ k₀ k₀ l₀ l₀ 0
  filling_none = record { signals = filled_none f m _ o₀; codes = filled_none (λ (v : ℕ). v ∷ []) 1 _ k₀; labels = filled_none g c _ l₀ }

  module _ {o : List A} {k : List ℕ} {l : List B} {i : ℕ} (h : Filling f m g c a o₀ o k₀ k l₀ l i) where
    pub filling_step : {o' : List A} {l' : List B} (s t u : ℕ) (d : Row) → i < length a
        → s ≡ (unpacked (get_or a i d)).reacts.emitted → length o' ≡ length o → o' ≡ take (m * i) o ++ f s ++ drop (m * i + m) o
        → t ≡ (unpacked (get_or a i d)).reacts.code
        → u ≡ (unpacked (get_or a i d)).reacts.reached → length l' ≡ length l → l' ≡ take (c * i) l ++ g u ++ drop (c * i + c) l
        → {x y z : ℕ} → x ≡ length o₀ / m → y ≡ min x (length k₀) → z ≡ length l₀ / c → length a ≤ min y z → Filling f m g c a o₀ o' k₀ (set k i t) l₀ l' (i + 1)
    filling_step s t u d q so sl sp to uo ul up first second third few = record {
      signals = filled_step f m _ o₀ h.signals s (inside emitted_in) (so ∙ sym (field_at emitted_in a i d q)) (place_in m i (length o₀) (omega arith)) sl sp;
      codes = filled_step (λ (v : ℕ). v ∷ []) 1 _ k₀ h.codes t (inside code_in) (to ∙ sym (field_at code_in a i d q)) (omega arith) (length-set k i t)
          (set_is k i t (let w = h.codes.within in omega arith));
      labels = filled_step g c _ l₀ h.labels u (inside reached_in) (uo ∙ sym (field_at reached_in a i d q)) (place_in c i (length l₀) (omega arith)) ul up;
    }
      where
        inside : (field : Reaction → ℕ) → i < length (map field (reactions_held a))
        inside field = let w = fields_length field a in omega arith

  pub filling_all : {o : List A} {k : List ℕ} {l : List B} {i : ℕ} → Filling f m g c a o₀ o k₀ k l₀ l i → i ≡ length a
      → (o ≡ front (spelled f (map emitted_in (reactions_held a))) o₀) × (k ≡ front (map code_in (reactions_held a)) k₀) × (l ≡ front (spelled g (map reached_in (reactions_held a))) l₀)
  filling_all {o} {k} {l} {i} h e = (
    filled_all f m _ o₀ h.signals (ends emitted_in),
    filled_all (λ (v : ℕ). v ∷ []) 1 _ k₀ h.codes (ends code_in) ∙ ap (λ (vs : List ℕ). front vs k₀) (singles (map code_in (reactions_held a))),
    filled_all g c _ l₀ h.labels (ends reached_in),
  )
    where
      ends : (field : Reaction → ℕ) → i ≡ length (map field (reactions_held a))
      ends field = e ∙ sym (fields_length field a)
