use lib.ListN.{length}
use Rattle.reader.proofs.Loops.{Parsing}
use Rattle.reader.proofs.parsing.parse.Given as goal

abbrev pub invariant-loop-rest : goal.invariant-loop-rest
invariant-loop-rest l = Parsing l.text l.rest.bytes.now l.reader l.room

abbrev pub decreases-loop-rest : goal.decreases-loop-rest
decreases-loop-rest l = length l.rest.bytes.now
