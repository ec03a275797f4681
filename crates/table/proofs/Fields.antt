-- The bytes of nodes: the fields of a table that was written, and that a table with a sound header is written again from
-- its nodes. Both by cutting the list of its bits where the fields meet.
use mathlib.Core.Path.{◌≡◌, refl, sym, ap, ◌∙◌}
use mathlib.Core.List.{List, [], ◌∷◌, ◌++◌, append_assoc}
use Prim.Native.Nat.{ℕ, zero, suc, ◌+◌, ◌-◌, ◌*◌, ◌/◌, ◌%◌, ◌≤◌, ◌<◌}
use native.Mathlib.Omega.{arith}
use lib.ListN.{length, take, drop, replicate, length-append, length-drop, take-append-drop}
use lib.Seq.{take_at, drop_at, drop-drop, take-add, length-take-le}
use lib.Pow.{pow_pos}
use borrow.Author.Tests.{le-ltb, lt-ltb, eq-eqb, ne_eqb}
use Rattle.std.specs.Prelude.{Ok, Err}
use Rattle.table.specs.declared.Refusal.TheVariants.{Count}
use Rattle.table.specs.Bits.{bits, number, bits_of, padded, bytes_of, Below}
use Rattle.table.specs.Reading.{length_of, edition_of, count_of, padding_of, header_of, nodes_from, nodes_of}
use Rattle.table.specs.Writing.{node_bits, write_nodes}
use Rattle.table.proofs.Bits.{length_bits, number_field, below_bits, below_append, below_take, below_drop, bits_number_of, zeros, length_bits_of, below_bits_of, bytes_from_bits_of, bits_of_bytes_of, length_bytes_of}
use Rattle.table.proofs.Header.{Headed}
use Rattle.table.proofs.Cutting.{length_nodes_of}

-- ---- The nodes of a list of bits

pub node_bits_append : (l m : List ℕ) → node_bits (l ++ m) ≡ node_bits l ++ node_bits m
unfolding node_bits
node_bits_append [] m = refl
node_bits_append (x ∷ l) m = ap (λ (y : List ℕ). bits 10 x ++ y) (node_bits_append l m) ∙ sym (append_assoc (bits 10 x) (node_bits l) (node_bits m))

pub length_node_bits : (l : List ℕ) → length (node_bits l) ≡ 10 * length l
unfolding node_bits
length_node_bits [] = refl
length_node_bits (x ∷ l) = length-append (bits 10 x) (node_bits l) ∙ rw (length_bits 10 x, length_node_bits l) (omega arith)

pub below_node_bits : (xs : List ℕ) → Below 2 (node_bits xs)
unfolding node_bits
below_node_bits [] i = omega arith
below_node_bits (x ∷ xs) i = below_append 2 (bits 10 x) (node_bits xs) (below_bits 10 x) (below_node_bits xs) i

pub nodes_from_node_bits : (xs l : List ℕ) → Below 1024 xs → nodes_from (length xs) (node_bits xs ++ l) ≡ xs
unfolding nodes_from node_bits
nodes_from_node_bits [] l f = refl
nodes_from_node_bits (x ∷ xs) l f =
    rw (append_assoc (bits 10 x) (node_bits xs) l, take_at (bits 10 x) (node_bits xs ++ l) 10 (length_bits 10 x), drop_at (bits 10 x) (node_bits xs ++ l) 10 (length_bits 10 x), number_field 10 x (f 0))
    (ap (λ (ys : List ℕ). x ∷ ys) (nodes_from_node_bits xs l (λ i. f (suc i))))

pub node_bits_nodes_from : (n : ℕ) (l : List ℕ) → 10 * n ≤ length l → Below 2 l → node_bits (nodes_from n l) ≡ take (10 * n) l
unfolding nodes_from node_bits
node_bits_nodes_from zero l h f = refl
node_bits_nodes_from (suc n) l h f =
    let w : 10 * suc n ≡ 10 + 10 * n = omega arith in
    let more : node_bits (nodes_from n (drop 10 l)) ≡ take (10 * n) (drop 10 l) = node_bits_nodes_from n (drop 10 l) (simp length-drop (omega arith)) (below_drop 2 10 l f) in
    let first : bits 10 (number (take 10 l)) ≡ take 10 l = bits_number_of 10 (take 10 l) (length-take-le 10 l (omega arith)) (below_take 2 10 l f) in
    rw (first, more, w) (sym (take-add 10 (10 * n) l))

-- ---- A table that was written

pub length_write_nodes : (l : List ℕ) → length (write_nodes l) ≡ length_of (length l)
unfolding write_nodes length_of
length_write_nodes l =
    length_bytes_of (bits 4 1 ++ (bits 12 (length l) ++ node_bits l))
    ∙ omega (arith, length-append (bits 4 1) (bits 12 (length l) ++ node_bits l), length-append (bits 12 (length l)) (node_bits l), length_bits 4 1, length_bits 12 (length l), length_node_bits l)

pub below_fields : (xs : List ℕ) → Below 2 (bits 4 1 ++ (bits 12 (length xs) ++ node_bits xs))
below_fields xs =
    below_append 2 (bits 4 1) (bits 12 (length xs) ++ node_bits xs) (below_bits 4 1)
    (below_append 2 (bits 12 (length xs)) (node_bits xs) (below_bits 12 (length xs)) (below_node_bits xs))

module _ (xs : List ℕ) (few : length xs < 4096) (fields : Below 1024 xs) where
  abbrev written : List ℕ
  written = bits 4 1 ++ (bits 12 (length xs) ++ node_bits xs)

  abbrev zero_bits : List ℕ
  zero_bits = replicate ((8 - length written % 8) % 8) 0

  bits_written : bits_of (write_nodes xs) ≡ bits 4 1 ++ (bits 12 (length xs) ++ (node_bits xs ++ zero_bits))
  unfolding write_nodes padded
  bits_written =
      bits_of_bytes_of written (below_fields xs) ∙ simp append_assoc

  after_count : drop 16 (bits_of (write_nodes xs)) ≡ node_bits xs ++ zero_bits
  after_count =
      ap (drop 16) bits_written ∙ sym (drop-drop 12 4 (bits 4 1 ++ (bits 12 (length xs) ++ (node_bits xs ++ zero_bits))))
      ∙ ap (drop 12) (drop_at (bits 4 1) (bits 12 (length xs) ++ (node_bits xs ++ zero_bits)) 4 (length_bits 4 1))
      ∙ drop_at (bits 12 (length xs)) (node_bits xs ++ zero_bits) 12 (length_bits 12 (length xs))

  pub edition_written : edition_of (write_nodes xs) ≡ 1
  unfolding edition_of
  edition_written =
      ap (λ (l : List ℕ). number (take 4 l)) bits_written ∙ ap number (take_at (bits 4 1) (bits 12 (length xs) ++ (node_bits xs ++ zero_bits)) 4 (length_bits 4 1))
      ∙ number_field 4 1 (omega arith)

  pub count_written : count_of (write_nodes xs) ≡ length xs
  unfolding count_of
  count_written =
      ap (λ (l : List ℕ). number (take 12 (drop 4 l))) bits_written
      ∙ ap (λ (l : List ℕ). number (take 12 l)) (drop_at (bits 4 1) (bits 12 (length xs) ++ (node_bits xs ++ zero_bits)) 4 (length_bits 4 1))
      ∙ ap number (take_at (bits 12 (length xs)) (node_bits xs ++ zero_bits) 12 (length_bits 12 (length xs)))
      ∙ number_field 12 (length xs) few

  pub padding_written : padding_of (write_nodes xs) (length xs) ≡ 0
  unfolding padding_of
  padding_written =
      ap number (sym (drop-drop (10 * length xs) 16 (bits_of (write_nodes xs))) ∙ ap (drop (10 * length xs)) after_count
      ∙ drop_at (node_bits xs) zero_bits (10 * length xs) (length_node_bits xs) ∙ zeros ((8 - length written % 8) % 8))
      ∙ number_field ((8 - length written % 8) % 8) 0 (pow_pos ((8 - length written % 8) % 8))

  pub nodes_written : nodes_of (write_nodes xs) (length xs) ≡ xs
  unfolding nodes_of
  nodes_written = ap (nodes_from (length xs)) after_count ∙ nodes_from_node_bits xs zero_bits fields

  -- with a number of nodes that a table may have
  pub headed_written : 1 ≤ length xs → length xs ≤ 1024 → Headed (write_nodes xs) (length xs)
  unfolding length_of
  headed_written some few =
      record {
        long = omega (arith, length_write_nodes xs);
        edition = edition_written;
        count = count_written;
        some = some;
        few = few;
        whole = length_write_nodes xs;
        padding = padding_written;
      }

  -- with more than a table may have
  pub crowded_written : 1024 < length xs → header_of (write_nodes xs) ≡ Err Count
  unfolding header_of length_of
  crowded_written many =
      rw (count_written, le-ltb (length (write_nodes xs)) 2 (omega (arith, length_write_nodes xs)), eq-eqb (edition_of (write_nodes xs)) 1 edition_written, ne_eqb (length xs) 0 (λ e. omega arith), lt-ltb 1024 (length xs) many)

-- ---- A table with a sound header

pub headed_accepted : (t : List ℕ) (n : ℕ) → Headed t n → header_of t ≡ Ok n
unfolding header_of
headed_accepted t n H =
    rw (H.count, le-ltb (length t) 2 H.long, eq-eqb (edition_of t) 1 H.edition, ne_eqb n 0 (λ e. omega (arith, H.some)), le-ltb 1024 n H.few, eq-eqb (length t) (length_of n) H.whole, eq-eqb (padding_of t n) 0 H.padding)

-- bits of which those past m are zero, to the end of the last byte
padded_take : (m : ℕ) (l : List ℕ) → length l ≡ 8 * ((m + 7) / 8) → Below 2 l → number (drop m l) ≡ 0 → padded (take m l) ≡ l
unfolding padded
padded_take m l e f z = rw (length-take-le m l (omega arith), zero_bits) (take-append-drop m l)
  where
    rest : length (drop m l) ≡ (8 - m % 8) % 8
    rest = length-drop m l ∙ omega arith

    zero_bits : replicate ((8 - m % 8) % 8) 0 ≡ drop m l
    zero_bits = zeros ((8 - m % 8) % 8) ∙ ap (bits ((8 - m % 8) % 8)) (sym z) ∙ bits_number_of ((8 - m % 8) % 8) (drop m l) rest (below_drop 2 m l f)

-- the fields of a table's bits
cut : (n : ℕ) (l : List ℕ) → take 4 l ++ (take 12 (drop 4 l) ++ take (10 * n) (drop 16 l)) ≡ take (16 + 10 * n) l
cut n l =
    let width : 16 + 10 * n ≡ 4 + (12 + 10 * n) = omega arith in
    sym (ap (λ (k : ℕ). take k l) width ∙ take-add 4 (12 + 10 * n) l
    ∙ ap (λ (k : List ℕ). take 4 l ++ k) (take-add 12 (10 * n) (drop 4 l) ∙ ap (λ (k : List ℕ). take 12 (drop 4 l) ++ take (10 * n) k) (drop-drop 12 4 l)))

-- the table of its nodes is the table
module _ (t : List ℕ) (n : ℕ) (H : Headed t n) where
  abbrev all : List ℕ
  all = bits_of t

  long : length all ≡ 8 * ((16 + 10 * n + 7) / 8)
  unfolding length_of
  long = length_bits_of t ∙ omega (arith, H.whole)

  edition_field : bits 4 1 ≡ take 4 all
  unfolding edition_of
  edition_field = ap (bits 4) (sym H.edition) ∙ bits_number_of 4 (take 4 all) (length-take-le 4 all (omega (arith, long))) (below_take 2 4 all (below_bits_of t))

  count_field : bits 12 n ≡ take 12 (drop 4 all)
  unfolding count_of
  count_field =
      ap (bits 12) (sym H.count)
      ∙ bits_number_of 12 (take 12 (drop 4 all)) (length-take-le 12 (drop 4 all) (simp length-drop (omega (arith, long)))) (below_take 2 12 (drop 4 all) (below_drop 2 4 all (below_bits_of t)))

  node_fields : node_bits (nodes_of t n) ≡ take (10 * n) (drop 16 all)
  unfolding nodes_of
  node_fields = node_bits_nodes_from n (drop 16 all) (simp length-drop (omega (arith, long))) (below_drop 2 16 all (below_bits_of t))

  padding_field : padded (take (16 + 10 * n) all) ≡ all
  unfolding padding_of
  padding_field = padded_take (16 + 10 * n) all long (below_bits_of t) H.padding

  pub nodes_again : Below 256 t → write_nodes (nodes_of t n) ≡ t
  unfolding write_nodes bytes_of
  nodes_again bytes =
      let count : length all / 8 ≡ length t = omega (arith, length_bits_of t) in
      rw (length_nodes_of t n, edition_field, count_field, node_fields, cut n all, padding_field, count) (bytes_from_bits_of t bytes)
