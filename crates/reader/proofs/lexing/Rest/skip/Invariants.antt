use Prim.Native.Nat.{◌+◌, ◌<◌}
use lib.ListN.{length, take}
use Rattle.reader.proofs.Blanks.{Passing}
use Rattle.reader.proofs.lexing.Rest.skip.Given as goal

abbrev pub invariant-loop-at : goal.invariant-loop-at
invariant-loop-at l = (l.at < length l.self.bytes.now) × Passing l.self.bytes.now (take (l.at + 1) l.self.bytes.now)

abbrev pub decreases-loop-at : goal.decreases-loop-at
decreases-loop-at l = l.at
