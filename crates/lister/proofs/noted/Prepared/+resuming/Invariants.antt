-- The depth of the statement falls; functions of one kind are called at the same place, and count less.
use Prim.Native.Nat.{◌+◌, ◌*◌}
use Rattle.esterel.specs.Statement.{depth}
use Rattle.lister.specs.inner.Notes.{part_at}
use Rattle.lister.proofs.noted.Prepared.+resuming.Given as goal

abbrev pub decreases-resume_at : goal.decreases-resume_at
decreases-resume_at l = 3 * depth (part_at l.self.now.noted.nodes l.at) + 2

abbrev pub decreases-resume_signal : goal.decreases-resume_signal
decreases-resume_signal l = 3 * depth (part_at l.self.now.noted.nodes l.at) + 1

abbrev pub decreases-resume_twice : goal.decreases-resume_twice
decreases-resume_twice l = 3 * depth (part_at l.self.now.noted.nodes l.at)
