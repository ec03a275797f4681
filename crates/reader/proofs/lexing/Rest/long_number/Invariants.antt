use Prim.Native.Nat.{◌+◌, ◌≤◌}
use lib.ListN.{length}
use Rattle.reader.proofs.Numbers.{Behind}
use Rattle.reader.proofs.lexing.Rest.long_number.Given as goal

abbrev pub invariant-loop-before : goal.invariant-loop-before
invariant-loop-before l = (length l.before + 3 ≤ length l.self.bytes.now) × Behind l.self.bytes.now l.before

abbrev pub decreases-loop-before : goal.decreases-loop-before
decreases-loop-before l = length l.before
