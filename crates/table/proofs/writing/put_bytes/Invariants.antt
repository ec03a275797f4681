-- The bytes before the place are put.
use mathlib.Core.Path.{◌≡◌}
use lib.Seq.{paste}
use Rattle.table.specs.Bits.{bytes}
use Rattle.table.proofs.writing.put_bytes.Given as goal

abbrev pub invariant-loop-i : goal.invariant-loop-i
invariant-loop-i l = l.out ≡ paste l.initial.out l.at (bytes l.count l.word) l.i
