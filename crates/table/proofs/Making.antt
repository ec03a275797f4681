-- A node that is made: its operand is in the range of its kind, and is the one given where that is in range.
use mathlib.Core.Path.{◌≡◌, ap}
use mathlib.Core.Bool.{cond}
use Prim.Native.Nat.{ℕ, ◌*◌, ◌%◌, ◌≤◌, ◌<◌}
use native.Mathlib.Omega.{arith}
use lib.Bits.{bit_or, or_shifted}
use lib.Dec.{ltb}
use lib.Pow.{shl_exact}
use borrow.Author.Tests.{le-ltb, ltb-false}
use Rattle.sets.proofs.Booleans.{by_cond}
use Rattle.table.specs.declared.Row.{Row}
use Rattle.table.specs.Kinds.{Kind, nothing, pause, gotopause, emit, exit, signal, present, sequence, parallel, loop, try, unused, kind_of, row_of}
use Rattle.table.specs.Reading.{kind_of_node, operand_of}
use Rattle.table.specs.Writing.{node}
use Rattle.table.specs.inner.Making.{in_range, node_of}
use Rattle.table.proofs.Nodes.{kind_node, operand_node}

pub record Orderly (row : Row) : Type 0 where
  pub some : row.least ≤ row.most
  pub six_bits : row.most ≤ 63

pub orderly : (k : Kind) → Orderly (row_of k)
unfolding row_of
orderly nothing = record { some = omega arith; six_bits = omega arith }
orderly pause = record { some = omega arith; six_bits = omega arith }
orderly gotopause = record { some = omega arith; six_bits = omega arith }
orderly emit = record { some = omega arith; six_bits = omega arith }
orderly exit = record { some = omega arith; six_bits = omega arith }
orderly signal = record { some = omega arith; six_bits = omega arith }
orderly present = record { some = omega arith; six_bits = omega arith }
orderly sequence = record { some = omega arith; six_bits = omega arith }
orderly parallel = record { some = omega arith; six_bits = omega arith }
orderly loop = record { some = omega arith; six_bits = omega arith }
orderly try = record { some = omega arith; six_bits = omega arith }
orderly unused = record { some = omega arith; six_bits = omega arith }

module _ (row : Row) (o : ℕ) where
  -- the bounds of a range, and an operand, stay in it
  pub in_range_lem : row.least ≤ row.most → (row.least ≤ in_range row o) × (in_range row o ≤ row.most)
  in_range_lem h =
      by_cond (λ (n : ℕ). (row.least ≤ n) × (n ≤ row.most)) (ltb o row.least) row.least (cond (ltb row.most o) row.most o) (λ e. (omega arith, h))
      (λ e. by_cond (λ (n : ℕ). (row.least ≤ n) × (n ≤ row.most)) (ltb row.most o) row.most o (λ f. (h, omega arith))
      (λ f. (ltb-false o row.least e, ltb-false row.most o f)))

  pub in_range_same : row.least ≤ o → o ≤ row.most → in_range row o ≡ o
  in_range_same l m = rw (le-ltb o row.least l, le-ltb row.most o m)

module _ (k o : ℕ) where
  abbrev row : Row
  row = row_of (kind_of k)

  small : in_range row o < 64
  small = let O = orderly (kind_of k) in let r = in_range_lem row o O.some in omega (arith, O.six_bits)

  pub kind_node_of : kind_of_node (node_of k o) ≡ k
  unfolding node_of
  kind_node_of = kind_node k (in_range row o) small

  pub operand_node_of : operand_of (node_of k o) ≡ in_range row o
  unfolding node_of
  operand_node_of = operand_node k (in_range row o) small

  -- as the code makes it
  pub made : k < 16 → bit_or (k * 64 % 65536) (in_range row o) ≡ node_of k o
  unfolding node_of
  made h = rw (shl_exact {a = k} 4 6 16 h (omega arith)) (or_shifted k 6 (in_range row o) small)

  -- with an operand that is in range
  pub node_of_same : row.least ≤ o → o ≤ row.most → node_of k o ≡ node k o
  unfolding node_of
  node_of_same l m = ap (node k) (in_range_same row o l m)

-- each kind's smallest operand is at most its largest
pub ranged : (k : Kind) → (row_of k).least ≤ (row_of k).most
unfolding row_of
ranged nothing = omega arith
ranged pause = omega arith
ranged gotopause = omega arith
ranged emit = omega arith
ranged exit = omega arith
ranged signal = omega arith
ranged present = omega arith
ranged sequence = omega arith
ranged parallel = omega arith
ranged loop = omega arith
ranged try = omega arith
ranged unused = omega arith
