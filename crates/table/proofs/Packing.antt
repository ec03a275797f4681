-- What the packing functions of the writer do, over plain lists and numbers.
use mathlib.Core.Path.{◌≡◌, refl, sym, ap, ◌∙◌, subst}
use mathlib.Core.List.{List, [], ◌∷◌, ◌++◌, append_assoc, append-nil}
use Prim.Native.Nat.{ℕ, ◌+◌, ◌-◌, ◌*◌, ◌/◌, ◌%◌, ◌^◌, ◌≤◌, ◌<◌}
use native.Mathlib.Numerals.{add-one}
use native.Mathlib.Omega.{arith}
use lib.Bits.{bit_or, or_shifted, or_shifted_r}
use lib.ListN.{length, get_or, take, drop, set, length-drop, take-append-drop}
use lib.Seq.{length-take-le, paste, paste-suc, take-paste, drop-paste, length-paste, take-suc, take_all, drop-drop}
use lib.Arith.{digits_lt}
use lib.Pow.{pow-add, shl_exact}
use Rattle.table.specs.Bits.{bits, bytes, bytes_of, Below}
use Rattle.table.specs.Reading.{length_of}
use Rattle.table.specs.Writing.{node_bits, write_nodes}
use Rattle.table.specs.inner.Making.{Gathered, Writable}
use Rattle.table.proofs.Fields.{node_bits_append, length_write_nodes}
use Rattle.table.proofs.Bits.{length_bits, bits_append, length_bytes, bytes_of_append, bytes_of_field, get_d_bytes}

-- the byte that a turn of put_bytes stores
pub put_byte : (out : List ℕ) (at word count i : ℕ) → i < count → at + count ≤ length out
    → set (paste out at (bytes count word) i) (at + i) (word / 2 ^ (8 * (count - i - 1)) % 256)
    ≡ paste out at (bytes count word) (i + 1)
put_byte out at word count i h r =
    let B : List ℕ = bytes count word in
    ap (set (paste out at B i) (at + i)) (sym (get_d_bytes count word i h))
    ∙ paste-suc out at B i 0 (omega arith) (omega (arith, length_bytes count word))
    ∙ ap (paste out at B) (sym (add-one i))

-- ---- Nodes as one number

node_bits_suc : (l : List ℕ) (i : ℕ) → i < length l → node_bits (take i l) ++ bits 10 (get_or l i 0) ≡ node_bits (take (i + 1) l)
unfolding node_bits
node_bits_suc l i h =
    sym (ap (λ (k : ℕ). node_bits (take k l)) (add-one i) ∙ ap node_bits (take-suc l i 0 h) ∙ node_bits_append (take i l) (get_or l i 0 ∷ [])
    ∙ ap (λ (y : List ℕ). node_bits (take i l) ++ y) (append-nil (bits 10 (get_or l i 0))))

pub gathered_none : (l : List ℕ) → Gathered (take 0 l) 0 0
unfolding bits node_bits
gathered_none l = record { fields = refl; small = omega arith }

-- those of n nodes from a place on
pub gathered_part : (xs : List ℕ) (from n m word : ℕ) → m ≡ n → from + n ≤ length xs
    → Gathered (take m (drop from xs)) (length (take m (drop from xs))) word → Gathered (take n (drop from xs)) n word
gathered_part xs from n m word e h G =
    let rest : List ℕ = drop from xs in
    let few : n ≤ length rest = omega (arith, length-drop from xs) in
    subst (λ (k : ℕ). Gathered (take n rest) k word) (length-take-le n rest few)
    (subst (λ (k : ℕ). Gathered (take k rest) (length (take k rest)) word) e G)

pub gathered_more : (l : List ℕ) (i word : ℕ) → i < 4 → i < length l → Below 1024 l → Gathered (take i l) i word
    → Gathered (take (i + 1) l) (i + 1) (bit_or (word * 1024 % 18446744073709551616) (get_or l i 0))
gathered_more l i word four h f G =
    let x : ℕ = get_or l i 0 in
    let w : 10 * (i + 1) ≡ 10 * i + 10 = omega arith in
    let e : bit_or (word * 1024 % 18446744073709551616) x ≡ word * 2 ^ 10 + x =
    ap (λ (y : ℕ). bit_or y x) (shl_exact (10 * i) 10 64 G.small (omega arith)) ∙ or_shifted word 10 x (f i) in
    record {
      fields =
          ap (bits (10 * (i + 1))) e ∙ ap (λ (n : ℕ). bits n (word * 2 ^ 10 + x)) w ∙ sym (bits_append (10 * i) 10 word x (f i))
          ∙ ap (λ (y : List ℕ). y ++ bits 10 x) G.fields ∙ node_bits_suc l i h;
      small = rw (e, w, pow-add 2 (10 * i) 10) (digits_lt G.small (f i));
    }

-- ---- The table so far

-- the bytes below `at` are written, those of the nodes from i on are still to come, and the rest of out₀ is untouched
pub record Written (xs out₀ out : List ℕ) (at i : ℕ) : Type 0 where
  pub done : take at out ++ bytes_of (node_bits (drop i xs)) ≡ write_nodes xs
  pub rest : drop at out ≡ drop at out₀
  pub same : length out ≡ length out₀
  pub within : i ≤ length xs
  pub past : 2 ≤ at
  pub place : at + (10 * (length xs - i) + 7) / 8 ≡ length_of (length xs)

drop_rest : {xs out₀ out : List ℕ} {at i : ℕ} → Written xs out₀ out at i → (k : ℕ) → drop (at + k) out ≡ drop (at + k) out₀
drop_rest {out₀ = out₀} {out = out} {at = at} P k = sym (drop-drop k at out) ∙ ap (drop k) P.rest ∙ drop-drop k at out₀

header : (xs : List ℕ) → length xs < 4096 → write_nodes xs ≡ bytes 2 (4096 + length xs) ++ bytes_of (node_bits xs)
unfolding write_nodes
header xs h =
    ap bytes_of (sym (append_assoc (bits 4 1) (bits 12 (length xs)) (node_bits xs)) ∙ ap (λ (l : List ℕ). l ++ node_bits xs) (bits_append 4 12 1 (length xs) (omega arith)))
    ∙ bytes_of_append 2 (bits 16 (4096 + length xs)) (node_bits xs) (length_bits 16 (4096 + length xs))

module _ (out : List ℕ) (at word count : ℕ) (room : at + count ≤ length out) where
  abbrev field : List ℕ
  field = bytes count word

  count_is : length field ≡ count
  count_is = length_bytes count word

  take_field : take (at + count) (paste out at field count) ≡ take at out ++ field
  take_field =
      take-paste out at field count (omega arith) (omega (arith, count_is))
      ∙ ap (λ (l : List ℕ). take at out ++ l) (take_all count field (omega (arith, count_is)))

  drop_field : drop (at + count) (paste out at field count) ≡ drop (at + count) out
  drop_field = drop-paste out at field count (omega arith) (omega (arith, count_is))

  paste_field : paste out at field count ≡ (take at out ++ field) ++ drop (at + count) out
  paste_field = ap (λ (l : List ℕ). (take at out ++ l) ++ drop (at + count) out) (take_all count field (omega (arith, count_is)))

  same_field : length (paste out at field count) ≡ length out
  same_field = length-paste out at field count room (omega (arith, count_is))

pub written_none : (xs out : List ℕ) → Writable xs (length out)
    → Written xs out (paste out 0 (bytes 2 (bit_or (length xs) 4096)) 2) 2 0
unfolding length_of
written_none xs out W =
    let room : 0 + 2 ≤ length out = omega (arith, W.fits) in
    rw (or_shifted_r 1 12 (length xs) W.few)
    (record {
      done = ap (λ (l : List ℕ). l ++ bytes_of (node_bits xs)) (take_field out 0 (4096 + length xs) 2 room) ∙ sym (header xs W.few);
      rest = drop_field out 0 (4096 + length xs) 2 room;
      same = same_field out 0 (4096 + length xs) 2 room;
      within = omega arith;
      past = omega arith;
      place = omega arith;
    })

-- the loop begins behind the header
pub written_start : {xs out₀ out : List ℕ} → Written xs out₀ out 2 0 → Written xs out out 2 0
written_start P = record { done = P.done; rest = refl; same = refl; within = P.within; past = P.past; place = P.place }

pub written_from : {xs out₀ out₁ out : List ℕ} {at i : ℕ} → Written xs out₀ out₁ 2 0 → Written xs out₁ out at i → Written xs out₀ out at i
written_from {out₀ = out₀} {out₁ = out₁} {at = at} P Q =
    let e : 2 + (at - 2) ≡ at = omega (arith, Q.past) in
    let rest : drop at out₁ ≡ drop at out₀ = subst (λ (n : ℕ). drop n out₁ ≡ drop n out₀) e (drop_rest P (at - 2)) in
    record { done = Q.done; rest = Q.rest ∙ rest; same = Q.same ∙ P.same; within = Q.within; past = Q.past; place = Q.place }

pub written_more : (xs out₀ out : List ℕ) (at i word : ℕ) → Writable xs (length out₀) → Written xs out₀ out at i → 4 ≤ length xs - i
    → Gathered (take 4 (drop i xs)) 4 word → Written xs out₀ (paste out at (bytes 5 word) 5) (at + 5) (i + 4)
unfolding length_of
written_more xs out₀ out at i word W P four G =
    let room : at + 5 ≤ length out = omega (arith, W.fits, P.place, P.same) in
    let five : List ℕ = bytes 5 word in
    let next : node_bits (drop i xs) ≡ bits 40 word ++ node_bits (drop (i + 4) xs) =
    ap node_bits (sym (take-append-drop 4 (drop i xs))) ∙ node_bits_append (take 4 (drop i xs)) (drop 4 (drop i xs))
    ∙ rw (← G.fields, drop-drop 4 i xs) in
    let split : bytes_of (node_bits (drop i xs)) ≡ five ++ bytes_of (node_bits (drop (i + 4) xs)) =
    ap bytes_of next ∙ bytes_of_append 5 (bits 40 word) (node_bits (drop (i + 4) xs)) (length_bits 40 word) in
    record {
      done =
          ap (λ (l : List ℕ). l ++ bytes_of (node_bits (drop (i + 4) xs))) (take_field out at word 5 room)
          ∙ append_assoc (take at out) five (bytes_of (node_bits (drop (i + 4) xs)))
          ∙ ap (λ (l : List ℕ). take at out ++ l) (sym split) ∙ P.done;
      rest = drop_field out at word 5 room ∙ drop_rest P 5;
      same = same_field out at word 5 room ∙ P.same;
      within = omega arith;
      past = omega (arith, P.past);
      place = omega (arith, P.place);
    }

-- the same, by how many times four nodes were written
pub written_four : (xs out₀ out : List ℕ) (four word : ℕ) → Writable xs (length out₀) → Written xs out₀ out (2 + 5 * four) (4 * four) → four < length xs / 4
    → Gathered (take 4 (drop (4 * four) xs)) 4 word → Written xs out₀ (paste out (2 + 5 * four) (bytes 5 word) 5) (2 + 5 * (four + 1)) (4 * (four + 1))
written_four xs out₀ out four word W P h G =
    let bytes_more : 2 + 5 * four + 5 ≡ 2 + 5 * (four + 1) = omega arith in
    let nodes_more : 4 * four + 4 ≡ 4 * (four + 1) = omega arith in
    rw (← bytes_more, ← nodes_more) (written_more xs out₀ out (2 + 5 * four) (4 * four) word W P (omega arith) G)

-- the last nodes, pushed up to whole bytes
pub written_all : (xs out₀ out : List ℕ) (at i left word total : ℕ) → Writable xs (length out₀) → Written xs out₀ out at i → i + left ≡ length xs
    → left < 4 → Gathered (take left (drop i xs)) left word → total ≡ length_of (length xs)
    → (total ≡ length (write_nodes xs))
    × (paste out at (bytes (total - at) (word * 2 ^ (8 * (total - at) - 10 * left) % 18446744073709551616)) (total - at)
    ≡ write_nodes xs ++ drop total out₀)
unfolding length_of
written_all xs out₀ out at i left word total W P all few G e =
    let size : ℕ = total - at in
    let whole : size ≡ (10 * left + 7) / 8 = omega (arith, P.place) in
    let end : at + size ≡ total = omega (arith, P.place) in
    let room : at + size ≤ length out = omega (arith, W.fits, P.same) in
    let pad : ℕ = 8 * size - 10 * left in
    let fits : word * 2 ^ pad % 18446744073709551616 ≡ word * 2 ^ pad = shl_exact (10 * left) pad 64 G.small (omega arith) in
    let last : bytes_of (node_bits (drop i xs)) ≡ bytes size (word * 2 ^ pad) =
    ap (λ (l : List ℕ). bytes_of (node_bits l)) (sym (take_all left (drop i xs) (simp length-drop (omega arith)))) ∙ ap bytes_of (sym G.fields)
    ∙ bytes_of_field (10 * left) word ∙ ap (λ (n : ℕ). bytes n (word * 2 ^ (8 * n - 10 * left))) (sym whole) in
    let front : take at out ++ bytes size (word * 2 ^ pad) ≡ write_nodes xs = ap (λ (l : List ℕ). take at out ++ l) (sym last) ∙ P.done in (
      e ∙ sym (length_write_nodes xs),
      ap (λ (v : ℕ). paste out at (bytes size v) size) fits ∙ paste_field out at (word * 2 ^ pad) size room
          ∙ rw (front, drop_rest P size, end),
    )
