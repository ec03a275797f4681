use Rattle.std.specs.Prelude.{take}
use Rattle.table.proofs.Walking.{Onward}
use Rattle.table.proofs.reading.Walk.+statement.Given as goal

abbrev pub decreases-statement : goal.decreases-statement
decreases-statement l = l.left

abbrev pub invariant-loop-n : goal.invariant-loop-n
invariant-loop-n l = Onward l.n (take l.n l.nodes) l.fn.left l.fn.tries l.fn.self.at l.fn.self.used l.left l.tries l.self.at l.self.used

abbrev pub decreases-loop-n : goal.decreases-loop-n
decreases-loop-n l = l.left
